-- Searches over indices: the first that passes a test, whether one does, the lowest key of those that do, and how many do.
use Rattle.std.specs.Prelude.{ℕ, zero, suc, ◌+◌, Bool, cond, ◌&&◌, ltb}

-- the first of i, i + 1, .. (k of them) that passes, or i + k; by the `let` no later one is looked at
abbrev pub first : (ℕ → Bool) → ℕ → ℕ → ℕ
first p i zero = i
first p i (suc k) = let later = first p (suc i) k in cond (p i) i later

-- whether one below n passes
abbrev pub any : (ℕ → Bool) → ℕ → Bool
any p n = ltb (first p 0 n) n

-- the lowest key of those below n that pass, or 65,536, which no number of two bytes reaches
abbrev pub lowest : (ℕ → Bool) → (ℕ → ℕ) → ℕ → ℕ
lowest p key zero = 65536
lowest p key (suc n) = cond (p n && ltb (key n) (lowest p key n)) (key n) (lowest p key n)

-- how many below n pass
abbrev pub count : (ℕ → Bool) → ℕ → ℕ
count p zero = 0
count p (suc n) = cond (p n) (count p n + 1) (count p n)

-- the first n values of g, added up
abbrev pub sum_to : (ℕ → ℕ) → ℕ → ℕ
sum_to g zero = 0
sum_to g (suc n) = sum_to g n + g n
