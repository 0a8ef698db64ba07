-- Document 01's list of what the desk refuses, word by word.
use Rattle.std.specs.Prelude.{ℕ, ◌^◌, ◌<◌, ◌≤◌, List, [], ◌∷◌, ◌≡◌}
use Rattle.word.specs.{Stages.row_number, declared.Word.Word, declared.Stage.Stage}
use Rattle.word.specs.declared.Stage.TheVariants.{Idle, P1, P2, P3, T1, T2, T3, T4, B1, B2, B3, B4, B5, B6, B7}

-- what a stage has loaded of the control word: its b, and its age of t and g, each where it has one
abbrev pub loaded_of : Stage → List ℕ × List (ℕ × ℕ)
loaded_of Idle = ([], [])
loaded_of (P1 node) = ([], [])
loaded_of (P2 node b) = (b ∷ [], [])
loaded_of (P3 b) = (b ∷ [], [])
loaded_of T1 = ([], [])
loaded_of (T2 t g) = ([], (t, g) ∷ [])
loaded_of (T3 t g b) = (b ∷ [], (t, g) ∷ [])
loaded_of (T4 t g b x) = (b ∷ [], (t, g) ∷ [])
loaded_of B1 = ([], [])
loaded_of (B2 b) = (b ∷ [], [])
loaded_of (B3 b) = (b ∷ [], [])
loaded_of (B4 b x) = (b ∷ [], [])
loaded_of (B5 b x t g) = (b ∷ [], (t, g) ∷ [])
loaded_of (B6 b x t g) = (b ∷ [], (t, g) ∷ [])
loaded_of (B7 b x t g) = (b ∷ [], (t, g) ∷ [])

-- P holds of the number that is there
abbrev pub There : {A : Type 0} → (A → Type 0) → List A → Type 0
There P [] = ⊥
There P (x ∷ l) = P x

abbrev pub OfB : (ℕ → Type 0) → Stage → Type 0
OfB P s = There P (loaded_of s).0

abbrev pub OfAge : (ℕ → ℕ → Type 0) → Stage → Type 0
OfAge P s = There (λ age. P age.0 age.1) (loaded_of s).1

-- a stage stands in the table from row i to row j
abbrev pub From : Stage → Stage → Stage → Type 0
From i j s = (row_number i ≤ row_number s) × (row_number s ≤ row_number j)

-- document 01's list of what the desk refuses
pub data Refuses (W C n : ℕ) (w : Word) (s : Stage) : Type 0 where
  width_high : 16 < W → Refuses W C n w s
  size_low : C < 1 → Refuses W C n w s
  size_high : 64 < C → Refuses W C n w s
  slots_not_C : (n ≡ C → ⊥) → Refuses W C n w s
  bottom_above : C < w.bottom → Refuses W C n w s
  top_above : C < w.top → Refuses W C n w s
  b_above : OfB (λ b. C < b) s → Refuses W C n w s
  t_above : OfAge (λ t g. C < t) s → Refuses W C n w s
  word_tag : 2 ^ W ≤ w.tag → Refuses W C n w s
  stage_tag : OfAge (λ t g. 2 ^ W ≤ g) s → Refuses W C n w s
  push_b : From (P2 0 0) (P3 0) s → OfB (λ b. b ≡ C) s → Refuses W C n w s
  take_t : From (T3 0 0 0) (T4 0 0 0 0) s → OfAge (λ t g. t ≡ C) s → Refuses W C n w s
  pop_b : From (B2 0) (B7 0 0 0 0) s → OfB (λ b. b ≡ 0) s → Refuses W C n w s
