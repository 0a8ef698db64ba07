-- Where a stage stands in document 01's table, and the numbers that it carries.
use Rattle.std.specs.Prelude.{ℕ, ◌-◌, Bool, ◌&&◌, ltb, eqb, List, [], ◌∷◌, get_or}
use Rattle.word.specs.declared.Stage.{Stage}
use Rattle.word.specs.declared.Stage.TheVariants.{Idle, P1, P2, P3, T1, T2, T3, T4, B1, B2, B3, B4, B5, B6, B7}

-- each stage: its row of the table, numbered from 1 in its order, 0 for idle; then the numbers that it carries, as the call loads them
abbrev pub listed : Stage → List ℕ
listed Idle = 0 ∷ []
listed (P1 node) = 1 ∷ node ∷ []
listed (P2 node b) = 2 ∷ node ∷ b ∷ []
listed (P3 b) = 3 ∷ b ∷ []
listed T1 = 4 ∷ []
listed (T2 t g) = 5 ∷ t ∷ g ∷ []
listed (T3 t g b) = 6 ∷ t ∷ g ∷ b ∷ []
listed (T4 t g b x) = 7 ∷ t ∷ g ∷ b ∷ x ∷ []
listed B1 = 8 ∷ []
listed (B2 b) = 9 ∷ b ∷ []
listed (B3 b) = 10 ∷ b ∷ []
listed (B4 b x) = 11 ∷ b ∷ x ∷ []
listed (B5 b x t g) = 12 ∷ b ∷ x ∷ t ∷ g ∷ []
listed (B6 b x t g) = 13 ∷ b ∷ x ∷ t ∷ g ∷ []
listed (B7 b x t g) = 14 ∷ b ∷ x ∷ t ∷ g ∷ []

abbrev pub row_number : Stage → ℕ
row_number s = get_or (listed s) 0 0

-- the number loaded first; 0 where there is none
abbrev pub first_loaded : Stage → ℕ
first_loaded s = get_or (listed s) 1 0

abbrev pub is_idle : Stage → Bool
is_idle s = eqb (row_number s) 0

abbrev pub at_t1 : Stage → Bool
at_t1 s = eqb (row_number s) (row_number T1)

abbrev pub at_b2 : Stage → Bool
at_b2 s = eqb (row_number s) (row_number (B2 0))

-- in a bottom pop past B2
abbrev pub past_b2 : Stage → Bool
past_b2 s = ltb (row_number (B2 0)) (row_number s)

-- in a bottom pop past B2 with b−1 = t: such a pop loads b first
abbrev pub pops_slot : Stage → ℕ → Bool
pops_slot s t = past_b2 s && eqb (first_loaded s - 1) t
