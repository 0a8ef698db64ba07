-- How a refusal is decided: a chain of tests, each with its number, and the first that fails gives the number; 0 means that none does.
use Rattle.std.specs.Prelude.{ℕ, zero, suc, ◌+◌, Bool, false, cond, ◌||◌, ltb, List, [], ◌∷◌, length}

infix 30 ◌ends_before◌
infix 25 ◌when◌
infixr 20 ◌then◌
-- the number where the test holds, else 0
abbrev pub ◌when◌ : ℕ → Bool → ℕ
number when test = cond test number 0

-- the first number if it is not 0, else the second
abbrev pub ◌then◌ : ℕ → ℕ → ℕ
zero then later = later
suc n then later = suc n

-- whether the bytes end before a place
abbrev pub ◌ends_before◌ : List ℕ → ℕ → Bool
s ends_before place = ltb (length s) place

-- whether one of the list passes the test
abbrev pub any {ℓ} : {A : Type ℓ} → (A → Bool) → List A → Bool
any p [] = false
any p (x ∷ xs) = p x || any p xs

-- the first of the numbers f 0, f 1, .., f (n - 1) that is not 0, else 0
abbrev pub first_of : (ℕ → ℕ) → ℕ → ℕ
first_of f zero = 0
first_of f (suc n) = first_of f n then f n

abbrev pub sum : List ℕ → ℕ
sum [] = 0
sum (x ∷ xs) = x + sum xs

abbrev pub outside : ℕ → ℕ → ℕ → Bool
outside low high x = ltb x low || ltb high x
