-- Rule 2 by the last end of all, and that of each process.
use mathlib.Core.Path.{◌≡◌, refl, sym, ap, ◌∙◌}
use mathlib.Core.Bool.{Bool, true, false, ◌&&◌, ◌||◌, not}
use mathlib.Core.List.{List}
use Prim.Native.Nat.{ℕ, zero, suc, ◌+◌, ◌≤◌, ◌<◌}
use native.Mathlib.Omega.{arith}
use native.Mathlib.Decide.{ℕ_discrete}
use borrow.Author.Tests.{lt-ltb, ltb-true, ltb-false, eq-eqb, eqb-true}
use lib.Dec.{eqb, ltb}
use lib.ListN.{length, get_or, set, replicate, length-set}
use lib.Seq.{get_or-set_same, get_or-set_other}
use Rattle.call_log.specs.declared.Entry.{Entry}
use Rattle.rules.specs.Rules.{clash, breaks2}
use Rattle.rules.proofs.FieldLaws.{ends_rise, starts_after}
use Rattle.base.proofs.Bools.{contra, and_i, and_0, and_1, or_e, not_so, not_i, not_e, if_so_lem, so_if, by_both}
use Rattle.rules.proofs.SearchLaws.{Found, any_e, any_i}

pub zeros : (k i : ℕ) → ◌≡◌ {A = ℕ} (get_or (replicate k 0) i 0) 0
zeros zero i = refl
zeros (suc k) zero = refl
zeros (suc k) (suc i) = zeros k i

-- x is the step after the last end of those below i that pass; 0 where none does
pub record Last (f : ℕ → Entry) (pass : ℕ → Bool) (i x : ℕ) : Type 0 where
  pub above : (k : ℕ) → k < i → pass k ≡ true → (f k).end < x
  pub met : (y : ℕ) → y < x → Found (λ k. pass k && not (ltb (f k).end y)) i

pub last_start : (f : ℕ → Entry) (pass : ℕ → Bool) (x : ℕ) → x ≡ 0 → Last f pass 0 x
last_start f pass x e = record { above = λ k u p. absurd (omega arith); met = λ y u. absurd (omega arith) }

module _ (f : ℕ → Entry) (pass : ℕ → Bool) (i x : ℕ) (l : Last f pass i x) where
  -- the next one passes, and does not end before
  pub last_pass : x ≤ (f i).end → pass i ≡ true → Last f pass (i + 1) ((f i).end + 1)
  last_pass h p = record {
    above = λ k u t. above k u t (ℕ_discrete k i);
    met = λ y u. record { at = i; below = omega arith; passes = and_i p (not_i (ltb (f i).end y) (λ t. omega (arith, ltb-true (f i).end y t))) };
  }
    where
      above : (k : ℕ) → k < i + 1 → pass k ≡ true → Dec (k ≡ i) → (f k).end < (f i).end + 1
      above k u t (yes e) = omega (arith, ap (λ (z : ℕ). (f z).end) e)
      above k u t (no e) = omega (arith, l.above k (omega arith) t)

  -- the next one does not
  pub last_other : pass i ≡ false → Last f pass (i + 1) x
  last_other p = record {
    above = λ k u t. above k u t (ℕ_discrete k i);
    met = λ y u. let z = l.met y u in record { at = z.at; below = omega (arith, z.below); passes = z.passes };
  }
    where
      above : (k : ℕ) → k < i + 1 → pass k ≡ true → Dec (k ≡ i) → (f k).end < x
      above k u t (yes e) = contra (pass i) (ap pass (sym e) ∙ t) p
      above k u t (no e) = l.above k (omega arith) t

abbrev pub every : ℕ → Bool
every k = true

abbrev pub mine : (ℕ → Entry) → ℕ → ℕ → Bool
mine f p k = eqb (f k).process p

-- what the loop keeps
pub record Ends (f : ℕ → Entry) (i last : ℕ) (own : List ℕ) : Type 0 where
  pub long : length own ≡ 8
  pub all : Last f every i last
  pub one : (p : ℕ) → p < 8 → Last f (mine f p) i (get_or own p 0)

pub ends_start : (f : ℕ → Entry) → Ends f 0 0 (replicate 8 0)
ends_start f = record {
  long = refl;
  all = last_start f every 0 refl;
  one = λ p u. last_start f (mine f p) (get_or (replicate 8 0) p 0) (zeros 8 p);
}

module _ (f : ℕ → Entry) (i last : ℕ) (own : List ℕ) (s : Ends f i last own) (inside : (f i).process < 8) where
  abbrev of : ℕ
  of = get_or own (f i).process 0

  pub clash_is : (ltb (f i).end last || ltb (f i).start of) ≡ breaks2 f i
  clash_is = by_both (ltb (f i).end last || ltb (f i).start of) (breaks2 f i) to (λ h. from (any_e (λ k. clash (f k) (f i)) i h))
    where
      to : (ltb (f i).end last || ltb (f i).start of) ≡ true → breaks2 f i ≡ true
      to h = or_e (ltb (f i).end last) (ltb (f i).start of) h
          (λ t.
          let z = s.all.met (f i).end (ltb-true (f i).end last t) in
          any_i (λ k. clash (f k) (f i)) i z.at z.below (not_i (ends_rise (f z.at) (f i) && starts_after (f z.at) (f i)) (λ g.
          not_e (ltb (f z.at).end (f i).end) z.passes (and_0 (ends_rise (f z.at) (f i)) (starts_after (f z.at) (f i)) g))))
          (λ t.
          let z = (s.one (f i).process inside).met (f i).start (ltb-true (f i).start of t) in
          let k = z.at in
          let e = and_0 (mine f (f i).process k) (not (ltb (f k).end (f i).start)) z.passes in
          let w = and_1 (mine f (f i).process k) (not (ltb (f k).end (f i).start)) z.passes in
          any_i (λ k. clash (f k) (f i)) i k z.below (not_i (ends_rise (f k) (f i) && starts_after (f k) (f i)) (λ g.
          not_e (ltb (f k).end (f i).start) w (if_so_lem (eqb (f k).process (f i).process) (ltb (f k).end (f i).start)
          (and_1 (ends_rise (f k) (f i)) (starts_after (f k) (f i)) g) e))))

      from : Found (λ k. clash (f k) (f i)) i → (ltb (f i).end last || ltb (f i).start of) ≡ true
      from z = split (ltb (f i).end last) (ltb (f i).start of) refl refl
        where
          k : ℕ
          k = z.at

          split : (t u : Bool) → ltb (f i).end last ≡ t → ltb (f i).start of ≡ u → (t || u) ≡ true
          split true u a b = refl
          split false true a b = refl
          split false false a b = absurd (not_e (ends_rise (f k) (f i) && starts_after (f k) (f i)) z.passes (and_i
              (lt-ltb (f k).end (f i).end (omega (arith, s.all.above k z.below refl, ltb-false (f i).end last a)))
              (so_if (eqb (f k).process (f i).process) (ltb (f k).end (f i).start) (λ t.
              lt-ltb (f k).end (f i).start (omega (arith, (s.one (f i).process inside).above k z.below t, ltb-false (f i).start of b))))))

  pub ends_next : last ≤ (f i).end → of ≤ (f i).start → (f i).start ≤ (f i).end → Ends f (i + 1) ((f i).end + 1) (set own (f i).process ((f i).end + 1))
  ends_next h g w = record {
    long = simp length-set s.long;
    all = last_pass f every i last s.all h refl;
    one = λ p u. one p u (ℕ_discrete p (f i).process);
  }
    where
      one : (p : ℕ) → p < 8 → Dec (p ≡ (f i).process) → Last f (mine f p) (i + 1) (get_or (set own (f i).process ((f i).end + 1)) p 0)
      one p u (yes e) =
          rw (e, get_or-set_same own (f i).process ((f i).end + 1) 0 (omega (arith, s.long)))
          (last_pass f (mine f (f i).process) i of (s.one (f i).process inside) (omega arith) (eq-eqb (f i).process (f i).process refl))
      one p u (no e) =
          rw (get_or-set_other own (f i).process p ((f i).end + 1) 0 e)
          (last_other f (mine f p) i (get_or own p 0) (s.one p u) (not_so (mine f p i) (λ t. e (sym (eqb-true (f i).process p t)))))
