-- The measure by which every call returns.
use Rattle.std.specs.Prelude.{ℕ, ◌-◌, cond, leb, eqb}
use Rattle.word.specs.Stages.{row_number}
use Rattle.word.specs.declared.Stage.{Stage}

-- own steps that a stage still has to make at most: 3 for a push, 4 for a top pop, 7 for a bottom pop
abbrev pub steps_left : Stage → ℕ
steps_left s = left (row_number s)
  where
    left : ℕ → ℕ
    left row = cond (eqb row 0) 0 (cond (leb row 3) (4 - row) (cond (leb row 7) (8 - row) (15 - row)))
