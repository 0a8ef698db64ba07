-- How many pass a test: where two tests agree, where they differ at one place, and over several tests that share out the places.
use mathlib.Core.Path.{◌≡◌, refl, sym, ap, ◌∙◌}
use mathlib.Core.Bool.{Bool, true, false, cond, ◌&&◌}
use Prim.Native.Nat.{ℕ, zero, suc, ◌+◌, ◌≤◌, ◌<◌}
use native.Mathlib.Omega.{arith}
use native.Mathlib.Decide.{ℕ_discrete}
use borrow.Author.Tests.{eq-eqb, ne_eqb}
use lib.Dec.{eqb}
use Rattle.rules.specs.Search.{count, sum_to}
use Rattle.rules.proofs.SearchLaws.{Found}

-- 1 where a test passes
abbrev pub one : Bool → ℕ
one t = cond t 1 0

pub count_suc : (p : ℕ → Bool) (n : ℕ) → count p (suc n) ≡ count p n + one (p n)
count_suc p n = by (p n)
  where
    by : (t : Bool) → cond t (count p n + 1) (count p n) ≡ count p n + one t
    by true = refl
    by false = omega arith

pub count_none : (p : ℕ → Bool) (n : ℕ) → ((i : ℕ) → i < n → p i ≡ false) → count p n ≡ 0
count_none p zero h = refl
count_none p (suc n) h = rw (h n (omega arith)) (count_none p n (λ i u. h i (omega arith)))

pub count_same : (p r : ℕ → Bool) (n : ℕ) → ((i : ℕ) → i < n → p i ≡ r i) → count p n ≡ count r n
count_same p r zero h = refl
count_same p r (suc n) h = rw (h n (omega arith), count_same p r n (λ i u. h i (omega arith)))

-- r passes at j, or not, where p does not; elsewhere they agree
pub count_at : (p r : ℕ → Bool) (j n : ℕ) → j < n → ((i : ℕ) → i < n → (i ≡ j → ⊥) → p i ≡ r i) → p j ≡ false → count r n ≡ count p n + one (r j)
count_at p r j zero u h e = absurd (omega arith)
count_at p r j (suc n) u h e = split (ℕ_discrete j n) (λ v. count_at p r j n v (λ i w. h i (omega arith)) e)
  where
    split : Dec (j ≡ n) → (j < n → count r n ≡ count p n + one (r j)) → count r (suc n) ≡ count p (suc n) + one (r j)
    split (yes d) ih =
        let same : count p n ≡ count r n = count_same p r n (λ i w. h i (omega arith) (λ c. omega arith)) in
        let here : one (p n) ≡ 0 = ap (λ (i : ℕ). one (p i)) (sym d) ∙ ap one e in
        let there : one (r n) ≡ one (r j) = ap (λ (i : ℕ). one (r i)) (sym d) in
        omega (arith, count_suc r n, count_suc p n)
    split (no d) ih =
        let last : one (p n) ≡ one (r n) = ap one (h n (omega arith) (λ c. d (sym c))) in
        omega (arith, count_suc r n, count_suc p n, ih (omega arith))

-- one that passes
pub count_found : (p : ℕ → Bool) (n : ℕ) → 0 < count p n → Found p n
count_found p zero h = absurd (omega arith)
count_found p (suc n) h = by (p n) refl (count_found p n)
  where
    by : (t : Bool) → p n ≡ t → (0 < count p n → Found p n) → Found p (suc n)
    by true e ih = record { at = n; below = omega arith; passes = e }
    by false e ih =
        let z = ih (omega (arith, count_suc p n, ap one e)) in
        record { at = z.at; below = omega (arith, z.below); passes = z.passes }

pub count_some : (p : ℕ → Bool) (n j : ℕ) → j < n → p j ≡ true → 1 ≤ count p n
count_some p zero j u e = absurd (omega arith)
count_some p (suc n) j u e = split (ℕ_discrete j n) (λ v. count_some p n j v e)
  where
    split : Dec (j ≡ n) → (j < n → 1 ≤ count p n) → 1 ≤ count p (suc n)
    split (yes d) ih = let here : one (p n) ≡ 1 = ap (λ (i : ℕ). one (p i)) (sym d) ∙ ap one e in omega (arith, count_suc p n)
    split (no d) ih = omega (arith, count_suc p n, ih (omega arith))

pub count_two : (p : ℕ → Bool) (n i j : ℕ) → i < j → j < n → p i ≡ true → p j ≡ true → 2 ≤ count p n
count_two p zero i j u v a b = absurd (omega arith)
count_two p (suc n) i j u v a b = split (ℕ_discrete j n) (λ w. count_two p n i j u w a b)
  where
    split : Dec (j ≡ n) → (j < n → 2 ≤ count p n) → 2 ≤ count p (suc n)
    split (yes d) ih =
        let here : one (p n) ≡ 1 = ap (λ (i : ℕ). one (p i)) (sym d) ∙ ap one b in
        omega (arith, count_suc p n, count_some p n i (omega arith) a)
    split (no d) ih = omega (arith, count_suc p n, ih (omega arith))

pub count_one : (p : ℕ → Bool) (n : ℕ) → ((i j : ℕ) → i < j → j < n → p i ≡ true → p j ≡ true → ⊥) → count p n ≤ 1
count_one p zero h = omega arith
count_one p (suc n) h = by (p n) refl (count_one p n (λ i j u v. h i j u (omega arith)))
  where
    none_before : p n ≡ true → count p n ≤ 0
    none_before e = from (count_found p n)
      where
        from : (0 < count p n → Found p n) → count p n ≤ 0
        from g = most (count p n) (λ k. let z = g k in h z.at n z.below (omega arith) z.passes e)
          where
            most : (c : ℕ) → (0 < c → ⊥) → c ≤ 0
            most zero k = omega arith
            most (suc c) k = absurd (k (omega arith))

    by : (t : Bool) → p n ≡ t → count p n ≤ 1 → count p (suc n) ≤ 1
    by true e ih = omega (arith, count_suc p n, ap one e, none_before e)
    by false e ih = omega (arith, count_suc p n, ap one e)

-- sums
pub sum_same : (g h : ℕ → ℕ) (P : ℕ) → ((q : ℕ) → q < P → g q ≡ h q) → sum_to g P ≡ sum_to h P
sum_same g h zero e = refl
sum_same g h (suc P) e = omega (arith, sum_same g h P (λ q u. e q (omega arith)), e P (omega arith))

pub sum_add : (g h : ℕ → ℕ) (P : ℕ) → sum_to (λ q. g q + h q) P ≡ sum_to g P + sum_to h P
sum_add g h zero = refl
sum_add g h (suc P) = omega (arith, sum_add g h P)

pub sum_none : (g : ℕ → ℕ) (P : ℕ) → ((q : ℕ) → q < P → g q ≡ 0) → sum_to g P ≡ 0
sum_none g zero e = refl
sum_none g (suc P) e = omega (arith, sum_none g P (λ q u. e q (omega arith)), e P (omega arith))

-- one of P numbers is k
one_of : (k P : ℕ) → k < P → sum_to (λ q. one (eqb k q)) P ≡ 1
one_of k zero u = absurd (omega arith)
one_of k (suc P) u = split (ℕ_discrete k P) (one_of k P)
  where
    split : Dec (k ≡ P) → (k < P → sum_to (λ q. one (eqb k q)) P ≡ 1) → sum_to (λ q. one (eqb k q)) P + one (eqb k P) ≡ 1
    split (yes d) ih =
        let below = sum_none (λ q. one (eqb k q)) P (λ q v. ap one (ne_eqb k q (omega arith))) in
        omega (arith, below, ap one (eq-eqb k P d))
    split (no d) ih = omega (arith, ih (omega arith), ap one (ne_eqb k P d))

-- each place that passes a has one number below P: counted by their numbers they are all
pub count_shared : (a : ℕ → Bool) (k : ℕ → ℕ) (P n : ℕ) → ((i : ℕ) → i < n → a i ≡ true → k i < P)
    → sum_to (λ q. count (λ i. a i && eqb (k i) q) n) P ≡ count a n
count_shared a k P zero h = sum_none (λ q. 0) P (λ q u. refl)
count_shared a k P (suc n) h =
    sum_same (λ q. count (λ i. a i && eqb (k i) q) (suc n)) (λ q. count (λ i. a i && eqb (k i) q) n + one (a n && eqb (k n) q)) P
    (λ q u. count_suc (λ i. a i && eqb (k i) q) n)
    ∙ sum_add (λ q. count (λ i. a i && eqb (k i) q) n) (λ q. one (a n && eqb (k n) q)) P
    ∙ omega (arith, count_shared a k P n (λ i u. h i (omega arith)), last (a n) refl, count_suc a n)
  where
    last : (t : Bool) → a n ≡ t → sum_to (λ q. one (a n && eqb (k n) q)) P ≡ one (a n)
    last true e =
        sum_same (λ q. one (a n && eqb (k n) q)) (λ q. one (eqb (k n) q)) P (λ q u. ap (λ (t : Bool). one (t && eqb (k n) q)) e)
        ∙ one_of (k n) P (h n (omega arith) e) ∙ ap one (sym e)
    last false e = sum_none (λ q. one (a n && eqb (k n) q)) P (λ q u. ap (λ (t : Bool). one (t && eqb (k n) q)) e) ∙ ap one (sym e)
