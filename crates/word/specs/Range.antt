-- What can be stepped: the desk gives 10 exactly where `in_range` fails. In a run it never does (`every_step_in_range` of crate `runs`).
use Rattle.std.specs.Prelude.{ℕ, Bool, true, ◌&&◌, ltb, leb, eqb}
use Rattle.word.specs.{Tag.is_tag, declared.Word.Word, declared.Stage.Stage}
use Rattle.word.specs.declared.Stage.TheVariants.{Idle, P1, P2, P3, T1, T2, T3, T4, B1, B2, B3, B4, B5, B6, B7}

-- W is 0 to 16, C is 1 to 64, and the slots are C in number
abbrev pub sizes_in : ℕ → ℕ → ℕ → Bool
sizes_in W C slots = leb W 16 && leb 1 C && leb C 64 && eqb slots C

-- a top is at most C, and the tag beside it below 2^W
abbrev pub age_in : ℕ → ℕ → ℕ → ℕ → Bool
age_in W C t g = leb t C && is_tag W g

-- so is the age of the word, and its bottom is at most C
abbrev pub word_in : ℕ → ℕ → Word → Bool
word_in W C w = leb w.bottom C && age_in W C w.top w.tag

-- at T3 and T4 t is not C
abbrev pub take_in : ℕ → ℕ → ℕ → ℕ → ℕ → Bool
take_in W C t g b = ltb t C && is_tag W g && leb b C

-- at B2 to B7 b is not 0
abbrev pub pop_in : ℕ → ℕ → Bool
pop_in C b = leb 1 b && leb b C

-- a loaded b or t is at most C, and at P2 and P3 b is not C; a loaded tag is below 2^W
abbrev pub stage_in : ℕ → ℕ → Stage → Bool
stage_in W C Idle = true
stage_in W C (P1 node) = true
stage_in W C (P2 node b) = ltb b C
stage_in W C (P3 b) = ltb b C
stage_in W C T1 = true
stage_in W C (T2 t g) = age_in W C t g
stage_in W C (T3 t g b) = take_in W C t g b
stage_in W C (T4 t g b x) = take_in W C t g b
stage_in W C B1 = true
stage_in W C (B2 b) = pop_in C b
stage_in W C (B3 b) = pop_in C b
stage_in W C (B4 b x) = pop_in C b
stage_in W C (B5 b x t g) = pop_in C b && age_in W C t g
stage_in W C (B6 b x t g) = pop_in C b && age_in W C t g
stage_in W C (B7 b x t g) = pop_in C b && age_in W C t g

abbrev pub in_range : ℕ → ℕ → ℕ → Word → Stage → Bool
in_range W C slots w s = sizes_in W C slots && word_in W C w && stage_in W C s
