-- A stage as it is typed at the desk, and as it is printed: its name, and each number that it carries after a space.
use Rattle.std.specs.Prelude.{ℕ, List, ◌++◌, codes, decimal}
use Rattle.word.specs.declared.Stage.{Stage}
use Rattle.word.specs.declared.Stage.TheVariants.{Idle, P1, P2, P3, T1, T2, T3, T4, B1, B2, B3, B4, B5, B6, B7}

abbrev pub shown : Stage → List ℕ
shown Idle = codes "idle"
shown (P1 node) = codes "P1 " ++ decimal node
shown (P2 node b) = codes "P2 " ++ decimal node ++ codes " " ++ decimal b
shown (P3 b) = codes "P3 " ++ decimal b
shown T1 = codes "T1"
shown (T2 t g) = codes "T2 " ++ decimal t ++ codes " " ++ decimal g
shown (T3 t g b) = codes "T3 " ++ decimal t ++ codes " " ++ decimal g ++ codes " " ++ decimal b
shown (T4 t g b x) = codes "T4 " ++ decimal t ++ codes " " ++ decimal g ++ codes " " ++ decimal b ++ codes " " ++ decimal x
shown B1 = codes "B1"
shown (B2 b) = codes "B2 " ++ decimal b
shown (B3 b) = codes "B3 " ++ decimal b
shown (B4 b x) = codes "B4 " ++ decimal b ++ codes " " ++ decimal x
shown (B5 b x t g) = codes "B5 " ++ decimal b ++ codes " " ++ decimal x ++ codes " " ++ decimal t ++ codes " " ++ decimal g
shown (B6 b x t g) = codes "B6 " ++ decimal b ++ codes " " ++ decimal x ++ codes " " ++ decimal t ++ codes " " ++ decimal g
shown (B7 b x t g) = codes "B7 " ++ decimal b ++ codes " " ++ decimal x ++ codes " " ++ decimal t ++ codes " " ++ decimal g
