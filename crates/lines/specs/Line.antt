-- What a line typed at the desk says.
use Rattle.std.specs.Prelude.{ℕ, Bool, cond, ltb, eqb, List, [], ◌∷◌, get_or, Option, Some, None, Result, Ok, Err}
use Prim.Native.Char.{code}
use Prim.Native.String.{String, [] as empty, ◌∷◌ as ◌then◌}
use Rattle.word.specs.declared.Stage.{Stage}
use Rattle.word.specs.declared.Stage.TheVariants.{Idle, P1, P2, P3, T1, T2, T3, T4, B1, B2, B3, B4, B5, B6, B7}
use Rattle.words.specs.{Words.spelled, Words.start, Words.words_of, Words.small, Words.numbers, declared.Words.Words}
use Rattle.word.specs.declared.Sizes.{Sizes}
use Rattle.lines.specs.{declared.Why.Why, declared.SizesWhy.SizesWhy}
use Rattle.lines.specs.declared.Why.TheVariants.{Nothing, NoStage, Count, NoNumber}
use Rattle.lines.specs.declared.SizesWhy.TheVariants as sizes_why

-- a text as the bytes that are typed for it
abbrev pub typed : String → List ℕ
typed empty = []
typed (c then s) = code c ∷ typed s

-- a stage whose line has so many words, its name among them
abbrev pub taken : Words → ℕ → Stage → Result Stage Why
taken w words s = cond (eqb w.count words) (cond (numbers w) (Ok s) (Err (NoNumber s))) (Err (Count s))

-- the name that bytes spell
abbrev pub spelling : ℕ → List ℕ → ℕ
spelling name [] = name
spelling name (c ∷ s) = spelling (spelled name c) s

abbrev pub is : Words → String → Bool
is w name = eqb w.name (spelling 1 (typed name))

-- the numbers after the name, from 0 on
abbrev pub number : Words → ℕ → Option ℕ
number w i = get_or w.numbers i None

abbrev pub value : Words → ℕ → ℕ
value w i = small (number w i)

-- the stages, each with how many words its line has, and where its numbers stand
abbrev pub bottom_of : Words → Result Stage Why
bottom_of w =
    let b = value w 0 in let x = value w 1 in let t = value w 2 in let g = value w 3 in
    cond (is w "B1") (taken w 1 B1)
    (cond (is w "B2") (taken w 2 (B2 b))
    (cond (is w "B3") (taken w 2 (B3 b))
    (cond (is w "B4") (taken w 3 (B4 b x))
    (cond (is w "B5") (taken w 5 (B5 b x t g))
    (cond (is w "B6") (taken w 5 (B6 b x t g))
    (cond (is w "B7") (taken w 5 (B7 b x t g))
    (Err NoStage)))))))

abbrev pub top_of : Words → Result Stage Why
top_of w =
    let t = value w 0 in let g = value w 1 in let b = value w 2 in let x = value w 3 in
    cond (is w "T1") (taken w 1 T1)
    (cond (is w "T2") (taken w 3 (T2 t g))
    (cond (is w "T3") (taken w 4 (T3 t g b))
    (cond (is w "T4") (taken w 5 (T4 t g b x))
    (bottom_of w))))

abbrev pub stage_of : Words → Result Stage Why
stage_of w =
    let first = value w 0 in let second = value w 1 in
    cond (is w "idle") (taken w 1 Idle)
    (cond (is w "P1") (taken w 2 (P1 first))
    (cond (is w "P2") (taken w 3 (P2 first second))
    (cond (is w "P3") (taken w 2 (P3 first))
    (top_of w))))

-- a stage line
abbrev pub line_in : Words → Result Stage Why
line_in w = cond (eqb w.count 0) (Err Nothing) (stage_of w)

abbrev pub line_of : List ℕ → Result Stage Why
line_of s = line_in (words_of (start 0) s)

-- W is 0 to 16, C is 1 to 64
abbrev pub size_in : ℕ → Option ℕ → Result Sizes SizesWhy
size_in W None = Err sizes_why.Size
size_in W (Some C) =
    cond (ltb C 1) (Err sizes_why.Size)
    (cond (ltb 64 C) (Err sizes_why.Size)
    (Ok record { width = W; size = C }))

abbrev pub width_in : Option ℕ → Option ℕ → Result Sizes SizesWhy
width_in None size = Err sizes_why.Width
width_in (Some W) size = cond (ltb 16 W) (Err sizes_why.Width) (size_in W size)

-- a line of W and C: they are the words after a name, which counts as read
abbrev pub sizes_in : Words → Result Sizes SizesWhy
sizes_in w =
    cond (eqb w.count 1) (Err sizes_why.Nothing)
    (cond (eqb w.count 3) (width_in (number w 0) (number w 1))
    (Err sizes_why.NotTwo))

abbrev pub sizes_of : List ℕ → Result Sizes SizesWhy
sizes_of s = sizes_in (words_of (start 1) s)
