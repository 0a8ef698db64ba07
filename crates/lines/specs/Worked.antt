-- Lines, each with what it says, computed on the definitions that the readers are proved to follow.
use Rattle.std.specs.Prelude.{ℕ, List, [], ◌∷◌, map, replicate, Result, Ok, Err, ◌≡◌, refl}
use Prim.Native.String.{String}
use Rattle.word.specs.declared.Stage.{Stage}
use Rattle.word.specs.declared.Stage.TheVariants.{Idle, P1, P2, P3, T1, T2, T3, T4, B1, B2, B3, B4, B5, B6, B7}
use Rattle.word.specs.declared.Sizes.{Sizes}
use Rattle.lines.specs.{Line.typed, Line.line_of, Line.sizes_of, declared.Why.Why}
use Rattle.lines.specs.declared.Why.TheVariants.{Nothing, NoStage, Count, NoNumber}
use Rattle.lines.specs.declared.SizesWhy.{SizesWhy}
use Rattle.lines.specs.declared.SizesWhy.TheVariants as sizes_why

-- texts that say stages, and texts that are wrong
abbrev said : List String → List (Result Stage Why)
said = map (λ (s : String). line_of (typed s))

abbrev stages : List Stage → List (Result Stage Why)
stages = map (λ (z : Stage). Ok z)

abbrev wrongs : List Why → List (Result Stage Why)
wrongs = map (λ (w : Why). Err w)

worked :
    -- the fifteen stages
    (said ("idle" ∷ "P1 7" ∷ "P2 7 3" ∷ "P3 3" ∷ []) ≡ stages (Idle ∷ P1 7 ∷ P2 7 3 ∷ P3 3 ∷ []))
    × (said ("T1" ∷ "T2 1 255" ∷ "T3 1 255 4" ∷ "T4 1 255 4 7" ∷ []) ≡ stages (T1 ∷ T2 1 255 ∷ T3 1 255 4 ∷ T4 1 255 4 7 ∷ []))
    × (said ("B1" ∷ "B2 4" ∷ "B3 4" ∷ "B4 4 7" ∷ []) ≡ stages (B1 ∷ B2 4 ∷ B3 4 ∷ B4 4 7 ∷ []))
    × (said ("B5 4 7 1 255" ∷ "B6 4 7 1 255" ∷ "B7 4 7 1 255" ∷ []) ≡ stages (B5 4 7 1 255 ∷ B6 4 7 1 255 ∷ B7 4 7 1 255 ∷ []))
    -- small letters, blanks, zeros in front; numbers to 65,535
    × (said ("t2 1 255" ∷ "Idle" ∷ "  T2\t1   255 \r" ∷ "P1 007" ∷ []) ≡ stages (T2 1 255 ∷ Idle ∷ T2 1 255 ∷ P1 7 ∷ []))
    × (said ("P1 0" ∷ "P1 65535" ∷ []) ≡ stages (P1 0 ∷ P1 65535 ∷ []))
    × (said ("P1 65536" ∷ "P1 99999999999999999999" ∷ "P1 7x" ∷ "P1 -7" ∷ []) ≡ wrongs (replicate 4 (NoNumber (P1 0))))
    × (said ("T3 1 2 T" ∷ []) ≡ wrongs (NoNumber (T3 1 2 0) ∷ []))
    -- a word too many, and too few; the number of words is looked at before they are
    × (said ("T1 0" ∷ "T2 1" ∷ "T3 1 2 3 4" ∷ "B7 1 2 3" ∷ []) ≡ wrongs (Count T1 ∷ Count (T2 1 0) ∷ Count (T3 1 2 3) ∷ Count (B7 1 2 3 0) ∷ []))
    × (said ("B7 1 2 3 4 5" ∷ "B7 1 2 3 4 5 6 7 8" ∷ []) ≡ wrongs (replicate 2 (Count (B7 1 2 3 4))))
    × (said ("P1" ∷ "P1 x y" ∷ []) ≡ wrongs (replicate 2 (Count (P1 0))))
    -- no stage, and nothing
    × (said ("P4 1" ∷ "T5" ∷ "B8 1" ∷ "P" ∷ "P11" ∷ "P17" ∷ "idles" ∷ "8 4" ∷ "\0T1" ∷ "T1\0" ∷ []) ≡ wrongs (replicate 10 NoStage))
    × (said ("" ∷ " \t\r" ∷ []) ≡ wrongs (replicate 2 Nothing))
worked = (refl, refl, refl, refl, refl, refl, refl, refl, refl, refl, refl, refl, refl)

abbrev read : List String → List (Result Sizes SizesWhy)
read = map (λ (s : String). sizes_of (typed s))

abbrev wrong : List SizesWhy → List (Result Sizes SizesWhy)
wrong = map (λ (w : SizesWhy). Err w)

abbrev good : ℕ → ℕ → Result Sizes SizesWhy
good W C = Ok record { width = W; size = C }

-- W is 0 to 16, C 1 to 64
pub sizes_worked :
    (read ("8 4" ∷ " 0\t1 \r" ∷ "16 64" ∷ []) ≡ good 8 4 ∷ good 0 1 ∷ good 16 64 ∷ [])
    × (read ("-1 4" ∷ "17 4" ∷ "x 4" ∷ "65552 4" ∷ []) ≡ wrong (replicate 4 sizes_why.Width))
    × (read ("8 0" ∷ "8 65" ∷ "8 4x" ∷ "8 65600" ∷ []) ≡ wrong (replicate 4 sizes_why.Size))
    × (read ("8" ∷ "8 4 2" ∷ "1 2 3 4 5 6 7 8 9" ∷ []) ≡ wrong (replicate 3 sizes_why.NotTwo))
    × (read ("" ∷ " \t" ∷ []) ≡ wrong (replicate 2 sizes_why.Nothing))
sizes_worked = (refl, refl, refl, refl, refl)
