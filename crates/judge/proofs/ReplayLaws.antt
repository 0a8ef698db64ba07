-- The contents by the keys: after the first k moments, for every queue; and rule 4 by them.
use mathlib.Core.Path.{◌≡◌, refl, sym, ap, ◌∙◌}
use mathlib.Core.Bool.{Bool, true, false, ◌&&◌, not}
use mathlib.Core.List.{List}
use Prim.Native.Nat.{ℕ, zero, suc, ◌+◌, ◌-◌, ◌≤◌, ◌<◌}
use native.Mathlib.Omega.{arith}
use native.Mathlib.Decide.{dec_lt}
use borrow.Author.Tests.{eq-eqb, eqb-true}
use lib.Dec.{eqb}
use Rattle.call_log.specs.declared.Entry.{Entry}
use Rattle.call_log.specs.Numbers.{what}
use Rattle.rules.specs.Contents.{bears, on, happens, event_at, before, applied}
use Rattle.rules.specs.Rules.{lawful_at, breaks4}
use Rattle.rules.specs.Judge.{worst4, first4}
use Rattle.base.proofs.Bools.{contra, and_i, and_0, and_1, not_so}
use Rattle.rules.proofs.SearchLaws.{first_is, first_hit, first_none, Hit, lowest_is, lowest_le}
use Rattle.rules.proofs.ContentLaws.{before_quiet, before_still, before_event}
use Rattle.keys.specs.Inner.Keys.{moment_at, index_at}
use Rattle.judge.specs.Inner.Order.{instant, Ordered}

module _ (f : ℕ → Entry) (n : ℕ) (keys : List ℕ) (count : ℕ) (o : Ordered f n keys count) where
  -- the key of a call with a moment
  pub record Event (x i : ℕ) : Type 0 where
    pub at : ℕ
    pub below : at < count
    pub is : index_at keys at ≡ i
    pub moment : moment_at keys at ≡ x

  pub event_of : (i : ℕ) → i < n → bears (f i) ≡ true → Event (f i).moment i
  event_of i u b =
      let p = o.all i u b in
      record { at = p.at; below = p.below; is = p.is; moment = sym (o.moment p.at p.below) ∙ ap (λ (x : ℕ). (f x).moment) p.is }

  happening : (q x i : ℕ) → i < n → happens q x (f i) ≡ true → Event x i
  happening q x i u h =
      let e = event_of i u (and_0 (bears (f i)) (eqb (f i).queue q) (and_0 (on q (f i)) (eqb (f i).moment x) h)) in
      record { at = e.at; below = e.below; is = e.is; moment = e.moment ∙ eqb-true (f i).moment x (and_1 (on q (f i)) (eqb (f i).moment x) h) }

  -- a moment is that of one key
  pub one_key : (a b : ℕ) → a < count → b < count → moment_at keys a ≡ moment_at keys b → a ≡ b
  one_key a b u v e = split (dec_lt a b) (dec_lt b a)
    where
      split : Dec (a < b) → Dec (b < a) → a ≡ b
      split (yes p) d = absurd (omega (arith, o.rising a b p v))
      split (no p) (yes d) = absurd (omega (arith, o.rising b a d u))
      split (no p) (no d) = omega arith

  pub passed : (a k : ℕ) → a < k → k ≤ count → moment_at keys a < instant keys k
  passed a zero u v = absurd (omega arith)
  passed a (suc k) u v = split (dec_lt a k)
    where
      split : Dec (a < k) → moment_at keys a < suc (moment_at keys k)
      split (yes p) = omega (arith, o.rising a k p (omega arith))
      split (no p) = let e : a ≡ k = omega arith in omega (arith, ap (moment_at keys) e)

  pub instant_le : (k : ℕ) → k < count → instant keys k ≤ moment_at keys k
  instant_le zero u = omega arith
  instant_le (suc k) u = omega (arith, o.rising k (suc k) (omega arith) u)

  -- a call before a moment is one of those passed
  pub passed_back : (a k : ℕ) → a < count → k < count → moment_at keys a < moment_at keys k → a < k
  passed_back a k u v h = split (dec_lt a k) (dec_lt k a)
    where
      split : Dec (a < k) → Dec (k < a) → a < k
      split (yes p) d = p
      split (no p) (yes d) = absurd (omega (arith, o.rising k a d u))
      split (no p) (no d) = let e : a ≡ k = omega arith in absurd (omega (arith, ap (moment_at keys) e))

  -- nothing happens from just after the first k moments to the next
  quiet : (q k b : ℕ) → k ≤ count → (k < count → b ≤ moment_at keys k) → (y : ℕ) → instant keys k ≤ y → y < b → (i : ℕ) → i < n
      → happens q y (f i) ≡ false
  quiet q k b s h y lo hi i u = not_so (happens q y (f i)) (λ t. let e = happening q y i u t in split e.at e.below e.moment (dec_lt e.at k)
      (dec_lt k e.at))
    where
      split : (a : ℕ) → a < count → moment_at keys a ≡ y → Dec (a < k) → Dec (k < a) → ⊥
      split a v e (yes p) d = omega (arith, passed a k p s)
      split a v e (no p) (yes d) = omega (arith, o.rising k a d v, h (omega arith))
      split a v e (no p) (no d) = let g : a ≡ k = omega arith in omega (arith, ap (moment_at keys) g, h (omega arith))

  pub still : (q k b : ℕ) → k ≤ count → (k < count → b ≤ moment_at keys k) → instant keys k ≤ b → before f n q b ≡ before f n q (instant keys k)
  still q k b s h u =
      let d : instant keys k + (b - instant keys k) ≡ b = omega arith in
      ap (before f n q) (sym d) ∙ before_still f n q (instant keys k) (b - instant keys k) (λ y lo hi. quiet q k b s h y lo (omega arith))

  -- at the next moment
  pub now_is : (q k : ℕ) → k < count → before f n q (moment_at keys k) ≡ before f n q (instant keys k)
  now_is q k u = still q k (moment_at keys k) (omega arith) (λ h. omega arith) (instant_le k u)

  -- of a queue that the call is not of
  pub other_is : (q k : ℕ) → k < count → ((f (index_at keys k)).queue ≡ q → ⊥) → before f n q (instant keys (suc k)) ≡ before f n q (instant keys k)
  other_is q k u ne = before_quiet f n q (moment_at keys k) (λ i v. not_so (happens q (moment_at keys k) (f i)) (λ t.
      let e = happening q (moment_at keys k) i v t in
      let g : index_at keys k ≡ i = ap (index_at keys) (one_key k e.at u e.below (sym e.moment)) ∙ e.is in
      ne (ap (λ (x : ℕ). (f x).queue) g ∙ eqb-true (f i).queue q (and_1 (bears (f i)) (eqb (f i).queue q)
      (and_0 (on q (f i)) (eqb (f i).moment (moment_at keys k)) t)))))
      ∙ now_is q k u

  -- of the call's own queue
  pub own_is : (k : ℕ) → k < count → before f n (f (index_at keys k)).queue (instant keys (suc k))
      ≡ applied (what (f (index_at keys k))) (f (index_at keys k)).node (before f n (f (index_at keys k)).queue (instant keys k))
  own_is k u =
      let j = index_at keys k in
      let q = (f j).queue in
      let m = moment_at keys k in
      let p : ℕ → Bool = λ i. happens q m (f i) in
      let t : p j ≡ true = and_i (and_i (o.borne k u) (eq-eqb q q refl)) (eq-eqb (f j).moment m (o.moment k u)) in
      let h : event_at f n q m < n = omega (arith, first_hit p 0 n j (omega arith) (omega (arith, o.index k u)) t, o.index k u) in
      let e = happening q m (event_at f n q m) h (first_is p 0 n (omega arith)) in
      let g : event_at f n q m ≡ j = sym e.is ∙ ap (index_at keys) (one_key e.at k e.below u e.moment) in
      before_event f n q m h ∙ ap (λ (i : ℕ). applied (what (f i)) (f i).node (before f n q m)) g
      ∙ ap (λ (c : List ℕ). applied (what (f j)) (f j).node c) (now_is q k u)

  -- rule 4: the first unlawful one by the keys, or none
  pub worst_is : (k : ℕ) → k < count → breaks4 f n (index_at keys k) ≡ true → ((a : ℕ) → a < k → breaks4 f n (index_at keys a) ≡ false)
      → index_at keys k ≡ first4 f n
  worst_is k u t fine =
      let j = index_at keys k in
      let le = lowest_le (breaks4 f n) (λ i. (f i).moment) n j (o.index k u) t in
      let z : Hit (breaks4 f n) (λ i. (f i).moment) n (worst4 f n) = lowest_is (breaks4 f n) (λ i. (f i).moment) n
      (omega (arith, le, o.moment k u, o.small k u)) in
      let e = event_of z.at z.below (and_0 (bears (f z.at)) (not (lawful_at f n (f z.at))) z.passes) in
      let w : worst4 f n ≡ moment_at keys k = same_moment z.at z.passes e.at e.below e.is (omega (arith, e.moment, z.keyed))
      (omega (arith, le, o.moment k u)) (dec_lt e.at k) (dec_lt k e.at) in
      let p : ℕ → Bool = λ j. breaks4 f n j && eqb (f j).moment (worst4 f n) in
      let y : p j ≡ true = and_i t (eq-eqb (f j).moment (worst4 f n) (o.moment k u ∙ sym w)) in
      let h : first4 f n < n = omega (arith, first_hit p 0 n j (omega arith) (omega (arith, o.index k u)) y, o.index k u) in
      at_first (first4 f n) h (first_is p 0 n (omega arith)) w
    where
      at_first : (i : ℕ) → i < n → (breaks4 f n i && eqb (f i).moment (worst4 f n)) ≡ true → worst4 f n ≡ moment_at keys k → index_at keys k ≡ i
      at_first i h x w =
          let v = event_of i h (and_0 (bears (f i)) (not (lawful_at f n (f i))) (and_0 (breaks4 f n i) (eqb (f i).moment (worst4 f n)) x)) in
          let g = eqb-true (f i).moment (worst4 f n) (and_1 (breaks4 f n i) (eqb (f i).moment (worst4 f n)) x) in
          ap (index_at keys) (one_key k v.at u v.below (sym w ∙ sym g ∙ sym v.moment)) ∙ v.is

      same_moment : (i : ℕ) → breaks4 f n i ≡ true → (a : ℕ) → a < count → index_at keys a ≡ i → moment_at keys a ≡ worst4 f n
          → worst4 f n ≤ moment_at keys k → Dec (a < k) → Dec (k < a) → worst4 f n ≡ moment_at keys k
      same_moment i b a v g m le (yes p) d = contra (breaks4 f n i) b (sym (ap (breaks4 f n) g) ∙ fine a p)
      same_moment i b a v g m le (no p) (yes d) = absurd (omega (arith, o.rising k a d v))
      same_moment i b a v g m le (no p) (no d) = let e : a ≡ k = omega arith in sym m ∙ ap (moment_at keys) e

  pub none_worst : ((a : ℕ) → a < count → breaks4 f n (index_at keys a) ≡ false) → n ≡ first4 f n
  none_worst fine =
      sym (omega (
        arith,
        first_none (λ j. breaks4 f n j && eqb (f j).moment (worst4 f n)) 0 n (λ j a u.
            not_so (breaks4 f n j && eqb (f j).moment (worst4 f n)) (λ t.
            let b = and_0 (breaks4 f n j) (eqb (f j).moment (worst4 f n)) t in
            let e = event_of j (omega arith) (and_0 (bears (f j)) (not (lawful_at f n (f j))) b) in
            contra (breaks4 f n j) b (sym (ap (breaks4 f n) e.is) ∙ fine e.at e.below))),
      ))
