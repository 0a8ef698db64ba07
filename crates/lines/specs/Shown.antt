-- Why a line is not run, as the desk says it.
use Rattle.std.specs.Prelude.{ℕ, List, ◌++◌, codes}
use Rattle.word.specs.declared.Stage.{Stage}
use Rattle.word.specs.declared.Stage.TheVariants.{Idle, P1, P2, P3, T1, T2, T3, T4, B1, B2, B3, B4, B5, B6, B7}
use Rattle.lines.specs.{declared.Why.Why, declared.SizesWhy.SizesWhy}
use Rattle.lines.specs.declared.Why.TheVariants.{Nothing, NoStage, Count, NoNumber}
use Rattle.lines.specs.declared.SizesWhy.TheVariants as sizes_why

-- how many numbers a stage takes, and the name of each
abbrev pub takes : Stage → List ℕ
takes Idle = codes "idle takes no numbers"
takes (P1 node) = codes "P1 takes 1 number: node"
takes (P2 node b) = codes "P2 takes 2 numbers: node b"
takes (P3 b) = codes "P3 takes 1 number: b"
takes T1 = codes "T1 takes no numbers"
takes (T2 t g) = codes "T2 takes 2 numbers: t g"
takes (T3 t g b) = codes "T3 takes 3 numbers: t g b"
takes (T4 t g b x) = codes "T4 takes 4 numbers: t g b x"
takes B1 = codes "B1 takes no numbers"
takes (B2 b) = codes "B2 takes 1 number: b"
takes (B3 b) = codes "B3 takes 1 number: b"
takes (B4 b x) = codes "B4 takes 2 numbers: b x"
takes (B5 b x t g) = codes "B5 takes 4 numbers: b x t g"
takes (B6 b x t g) = codes "B6 takes 4 numbers: b x t g"
takes (B7 b x t g) = codes "B7 takes 4 numbers: b x t g"

abbrev pub shown_why : Why → List ℕ
shown_why Nothing = codes "nothing on the line: a stage and its numbers are wanted, as in T2 0 0"
shown_why NoStage = codes "no such stage: they are idle, P1 to P3, T1 to T4 and B1 to B7"
shown_why (Count s) = takes s
shown_why (NoNumber s) = codes "not all are numbers from 0 to 65535: " ++ takes s

abbrev pub shown_sizes : SizesWhy → List ℕ
shown_sizes sizes_why.Nothing = codes "nothing on the line: W and C are wanted first, as in 8 4"
shown_sizes sizes_why.NotTwo = codes "the first line takes 2 numbers: W C"
shown_sizes sizes_why.Width = codes "W is a number from 0 to 16"
shown_sizes sizes_why.Size = codes "C is a number from 1 to 64"
