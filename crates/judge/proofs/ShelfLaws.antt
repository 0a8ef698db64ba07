-- What the search for causes keeps of each queue, after the first k moments.
use mathlib.Core.Path.{◌≡◌, refl, sym, ap, ◌∙◌, subst}
use mathlib.Core.Bool.{Bool, true, false, cond, ◌&&◌}
use mathlib.Core.Logic.{◌⊎◌, inl, inr}
use mathlib.Core.List.{List, [], ◌∷◌}
use Prim.Native.Nat.{ℕ, suc, ◌+◌, ◌-◌, ◌/◌, ◌%◌, ◌≤◌, ◌<◌}
use native.Mathlib.Omega.{arith}
use native.Mathlib.Decide.{ℕ_discrete, dec_lt}
use borrow.Author.Tests.{lt-ltb, le-ltb, ltb-true, eq-eqb, ne_eqb, eqb-true, eqb-false, le-leb}
use lib.Dec.{eqb, ltb, leb}
use lib.ListN.{length, get_or, replicate, length-set, length-append}
use lib.Seq.{get_or-set_same, get_or-set_other}
use Rattle.call_log.specs.declared.Entry.{Entry}
use Rattle.call_log.specs.declared.What.{What}
use Rattle.call_log.specs.declared.What.TheVariants.{Pushed, Full, BottomNode, BottomNil, TopNode, TopNil, TopLost}
use Rattle.call_log.specs.Numbers.{what, same, bears_moment}
use Rattle.call_log.proofs.NumbersLaws.{same_true}
use Rattle.rules.specs.Contents.{bears, before, applied, drop_last, drop_first}
use Rattle.rules.specs.Rules.{is_empty}
use Rattle.base.proofs.Bools.{contra, and_i, and_0, and_1}
use Rattle.rules.proofs.SearchLaws.{Found}
use Rattle.rules.proofs.ContentLaws.{before_start}
use Rattle.judge.proofs.EndLaws.{zeros}
use Rattle.keys.specs.Inner.Keys.{moment_at, index_at}
use Rattle.judge.specs.Inner.Order.{instant, Fields, Ordered}
use Rattle.fields.specs.Inner.Took.{took_after}
use Rattle.judge.specs.Inner.Causes.{shelf_by, shelf_after, took_at, shelved, passed_by, Passable}
use Rattle.judge.proofs.ReplayLaws.{event_of, passed, instant_le, still, now_is, other_is, own_is}

pub full_of : (c : List ℕ) → 0 < length c → is_empty c ≡ false
full_of [] h = absurd (omega arith)
full_of (x ∷ c) h = refl

pub empty_of : (c : List ℕ) → length c ≡ 0 → is_empty c ≡ true
empty_of [] h = refl
empty_of (x ∷ c) h = absurd (omega arith)

length-drop_last : (c : List ℕ) → length (drop_last c) ≡ length c - 1
length-drop_last [] = refl
length-drop_last (x ∷ []) = refl
length-drop_last (x ∷ y ∷ c) = omega (arith, length-drop_last (y ∷ c))

length-drop_first : (c : List ℕ) → length (drop_first c) ≡ length c - 1
length-drop_first [] = refl
length-drop_first (x ∷ c) = omega arith

-- how many nodes a lawful call leaves of so many
abbrev held_after : What → ℕ → ℕ
held_after Pushed h = h + 1
held_after Full h = h
held_after BottomNode h = h - 1
held_after BottomNil h = h
held_after TopNode h = h - 1
held_after TopNil h = h
held_after TopLost h = h

length_applied : (w : What) (v : ℕ) (c : List ℕ) → length (applied w v c) ≡ held_after w (length c)
length_applied Pushed v c = length-append c (v ∷ [])
length_applied Full v c = refl
length_applied BottomNode v c = length-drop_last c
length_applied BottomNil v c = refl
length_applied TopNode v c = length-drop_first c
length_applied TopNil v c = refl
length_applied TopLost v c = refl

held_more : (w : What) (h : ℕ) → held_after w h ≤ h + 1
held_more Pushed h = omega arith
held_more Full h = omega arith
held_more BottomNode h = omega arith
held_more BottomNil h = omega arith
held_more TopNode h = omega arith
held_more TopNil h = omega arith
held_more TopLost h = omega arith

-- a call that leaves a node, of a queue that had none, is a push
held_from : (w : What) (h : ℕ) → 0 < held_after w h → (same Pushed w && eqb h 0) ≡ false → 0 < h
held_from Pushed h u e = let k = eqb-false h 0 e in omega arith
held_from Full h u e = u
held_from BottomNode h u e = omega arith
held_from BottomNil h u e = u
held_from TopNode h u e = omega arith
held_from TopNil h u e = u
held_from TopLost h u e = u

-- the two numbers of a shelf after a call at moment m
module _ (m s : ℕ) (early : m < 65536) where
  held_fewer : cond (ltb s 65536) s (s - 65536) / 65536 ≡ s / 65536 - 1
  held_fewer = split (dec_lt s 65536)
    where
      split : Dec (s < 65536) → cond (ltb s 65536) s (s - 65536) / 65536 ≡ s / 65536 - 1
      split (yes d) = rw (lt-ltb s 65536 d) (omega arith)
      split (no d) = rw (le-ltb s 65536 (omega arith)) (omega arith)

  shelf_held : (w : What) → shelf_by w m s / 65536 ≡ held_after w (s / 65536)
  shelf_held Pushed = split (dec_lt s 65536)
    where
      split : Dec (s < 65536) → cond (ltb s 65536) (65536 + m) (s + 65536) / 65536 ≡ s / 65536 + 1
      split (yes d) = rw (lt-ltb s 65536 d) (omega arith)
      split (no d) = rw (le-ltb s 65536 (omega arith)) (omega arith)
  shelf_held Full = refl
  shelf_held BottomNode = held_fewer
  shelf_held BottomNil = refl
  shelf_held TopNode = held_fewer
  shelf_held TopNil = refl
  shelf_held TopLost = refl

  filled_still : cond (ltb s 65536) s (s - 65536) % 65536 ≡ s % 65536
  filled_still = split (dec_lt s 65536)
    where
      split : Dec (s < 65536) → cond (ltb s 65536) s (s - 65536) % 65536 ≡ s % 65536
      split (yes d) = rw (lt-ltb s 65536 d)
      split (no d) = rw (le-ltb s 65536 (omega arith)) (omega arith)

  shelf_filled : (w : What) → shelf_by w m s % 65536 ≡ cond (same Pushed w && eqb (s / 65536) 0) m (s % 65536)
  shelf_filled Pushed = split (dec_lt s 65536)
    where
      split : Dec (s < 65536) → cond (ltb s 65536) (65536 + m) (s + 65536) % 65536 ≡ cond (eqb (s / 65536) 0) m (s % 65536)
      split (yes d) = rw (lt-ltb s 65536 d, eq-eqb (s / 65536) 0 (omega arith)) (omega arith)
      split (no d) = rw (le-ltb s 65536 (omega arith), ne_eqb (s / 65536) 0 (λ e. omega arith)) (omega arith)
  shelf_filled Full = refl
  shelf_filled BottomNode = filled_still
  shelf_filled BottomNil = refl
  shelf_filled TopNode = filled_still
  shelf_filled TopNil = refl
  shelf_filled TopLost = refl

-- how many nodes queue q holds, and since when it has held some
pub record Shelf (f : ℕ → Entry) (n : ℕ) (keys : List ℕ) (k q held filled : ℕ) : Type 0 where
  pub is : held ≡ length (before f n q (instant keys k))
  pub few : held ≤ k
  pub empty : is_empty (before f n q filled) ≡ true
  pub early : filled ≤ instant keys k
  pub since : 0 < held → (x : ℕ) → filled < x → x ≤ instant keys k → is_empty (before f n q x) ≡ false

-- entry i is a take by process p from queue q
abbrev pub takes : (ℕ → Entry) → ℕ → ℕ → ℕ → Bool
takes f q p i = same TopNode (what (f i)) && eqb (f i).queue q && eqb (f i).process p

-- t is the moment after the last such take; 0 where there is none
pub record Taken (f : ℕ → Entry) (n : ℕ) (keys : List ℕ) (k q p t : ℕ) : Type 0 where
  pub above : (i : ℕ) → i < n → takes f q p i ≡ true → (f i).moment < instant keys k → (f i).moment < t
  pub met : (y : ℕ) → y < t → Found (λ i. takes f q p i && leb y (f i).moment && ltb (f i).moment (instant keys k)) n

pub record Shelves (f : ℕ → Entry) (n : ℕ) (keys : List ℕ) (k : ℕ) (l : List ℕ) : Type 0 where
  pub long : length l ≡ 72
  pub shelf : (q : ℕ) → q < 8 → Shelf f n keys k q (get_or l q 0 / 65536) (get_or l q 0 % 65536)
  pub taken : (q p : ℕ) → q < 8 → p < 8 → Taken f n keys k q p (get_or l (took_at q p) 0)

pub shelves_start : (f : ℕ → Entry) (n : ℕ) (keys : List ℕ) → Shelves f n keys 0 (replicate 72 0)
shelves_start f n keys = record {
  long = refl;
  shelf = λ q u. let z = zeros 72 q in record {
    is = ap (λ (x : ℕ). x / 65536) z ∙ sym (ap length (before_start f n q));
    few = omega (arith, z);
    empty = ap (λ (x : ℕ). is_empty (before f n q (x % 65536))) z ∙ ap is_empty (before_start f n q);
    early = omega (arith, z);
    since = λ h x a b. absurd (omega (arith, z));
  };
  taken = λ q p u v. let z = zeros 72 (took_at q p) in record { above = λ i w t m. absurd (omega arith); met = λ y w. absurd (omega arith) };
}

module _ (f : ℕ → Entry) (n : ℕ) (keys : List ℕ) (count : ℕ) (o : Ordered f n keys count) (k : ℕ) (inside : k < count) where
  abbrev j : ℕ
  j = index_at keys k

  abbrev m : ℕ
  m = moment_at keys k

  -- up to the next moment nothing alters
  until : (q x : ℕ) → instant keys k ≤ x → x ≤ m → before f n q x ≡ before f n q (instant keys k)
  until q x a b = still f n keys count o q k x (omega arith) (λ h. b) a

  -- a call up to the next moment is the next one, or one of those passed
  new_or_old : (i : ℕ) → i < n → bears (f i) ≡ true → (f i).moment < suc m → (i ≡ j) ⊎ ((f i).moment < instant keys k)
  new_or_old i u b h = let e = event_of f n keys count o i u b in split e.at e.below e.is e.moment (dec_lt e.at k) (dec_lt k e.at)
    where
      split : (a : ℕ) → a < count → index_at keys a ≡ i → moment_at keys a ≡ (f i).moment → Dec (a < k) → Dec (k < a)
          → (i ≡ j) ⊎ ((f i).moment < instant keys k)
      split a v g w (yes p) d = inr (omega (arith, passed f n keys count o a k p (omega arith)))
      split a v g w (no p) (yes d) = absurd (omega (arith, o.rising k a d v))
      split a v g w (no p) (no d) = let e : a ≡ k = omega arith in inl (sym g ∙ ap (index_at keys) e)

  -- a queue that the call is not of
  shelf_other : (q held filled : ℕ) → ((f j).queue ≡ q → ⊥) → Shelf f n keys k q held filled → Shelf f n keys (suc k) q held filled
  shelf_other q held filled ne s = record {
    is = s.is ∙ sym (ap length (other_is f n keys count o q k inside ne));
    few = omega (arith, s.few);
    empty = s.empty;
    early = omega (arith, s.early, instant_le f n keys count o k inside);
    since = λ h x a b. since h x a b (dec_lt (instant keys k) x) (dec_lt m x);
  }
    where
      some : 0 < held → is_empty (before f n q (instant keys k)) ≡ false
      some h = full_of (before f n q (instant keys k)) (omega (arith, s.is))

      since : 0 < held → (x : ℕ) → filled < x → x ≤ suc m → Dec (instant keys k < x) → Dec (m < x) → is_empty (before f n q x) ≡ false
      since h x a b (no p) d = s.since h x a (omega arith)
      since h x a b (yes p) (no d) = ap is_empty (until q x (omega arith) (omega arith)) ∙ some h
      since h x a b (yes p) (yes d) = let e : x ≡ suc m = omega arith in ap (λ (y : ℕ). is_empty (before f n q y)) e
          ∙ ap is_empty (other_is f n keys count o q k inside ne) ∙ some h

  -- the call's own queue
  shelf_own : (held filled : ℕ) (t : Bool) → t ≡ (same Pushed (what (f j)) && eqb held 0) → Shelf f n keys k (f j).queue held filled
      → Shelf f n keys (suc k) (f j).queue (held_after (what (f j)) held) (cond t m filled)
  shelf_own held filled t e s = by t e
    where
      q : ℕ
      q = (f j).queue

      is : held_after (what (f j)) held ≡ length (before f n q (suc m))
      is = ap (held_after (what (f j))) s.is ∙ sym (length_applied (what (f j)) (f j).node (before f n q (instant keys k)))
          ∙ sym (ap length (own_is f n keys count o k inside))

      last : 0 < held_after (what (f j)) held → is_empty (before f n q (suc m)) ≡ false
      last h = full_of (before f n q (suc m)) (omega (arith, is))

      by : (t : Bool) → t ≡ (same Pushed (what (f j)) && eqb held 0) → Shelf f n keys (suc k) q (held_after (what (f j)) held) (cond t m filled)
      by true e = record {
        is = is;
        few = omega (arith, s.few, held_more (what (f j)) held);
        empty = empty_of (before f n q m) (ap length (now_is f n keys count o q k inside) ∙ sym s.is
            ∙ eqb-true held 0 (and_1 (same Pushed (what (f j))) (eqb held 0) (sym e)));
        early = omega arith;
        since = λ h x a b. let g : x ≡ suc m = omega arith in ap (λ (y : ℕ). is_empty (before f n q y)) g ∙ last h;
      }
      by false e = record {
        is = is;
        few = omega (arith, s.few, held_more (what (f j)) held);
        empty = s.empty;
        early = omega (arith, s.early, instant_le f n keys count o k inside);
        since = λ h x a b. since h x a b (dec_lt (instant keys k) x) (dec_lt m x);
      }
        where
          since : 0 < held_after (what (f j)) held → (x : ℕ) → filled < x → x ≤ suc m → Dec (instant keys k < x) → Dec (m < x)
              → is_empty (before f n q x) ≡ false
          since h x a b (no p) d = s.since (held_from (what (f j)) held h (sym e)) x a (omega arith)
          since h x a b (yes p) (no d) =
              ap is_empty (until q x (omega arith) (omega arith))
              ∙ full_of (before f n q (instant keys k)) (omega (arith, s.is, held_from (what (f j)) held h (sym e)))
          since h x a b (yes p) (yes d) = let g : x ≡ suc m = omega arith in ap (λ (y : ℕ). is_empty (before f n q y)) g ∙ last h

  top_bears : (w : What) → same TopNode w ≡ true → bears_moment w ≡ true
  top_bears w h = ap bears_moment (sym (same_true TopNode w h))

  abbrev top : ℕ → Bool
  top i = same TopNode (what (f i))

  -- a pair of queue and process of which the call is no take
  taken_other : (q p t : ℕ) → (takes f q p j ≡ true → ⊥) → Taken f n keys k q p t → Taken f n keys (suc k) q p t
  taken_other q p t ne s = record {
    above = λ i u h w. above i u h (new_or_old i u (top_bears (what (f i))
        (and_0 (top i) (eqb (f i).queue q) (and_0 (top i && eqb (f i).queue q) (eqb (f i).process p) h))) w);
    met = λ y u.
        let z = s.met y u in
        let g = and_0 (takes f q p z.at && leb y (f z.at).moment) (ltb (f z.at).moment (instant keys k)) z.passes in
        let w = ltb-true (f z.at).moment (instant keys k) (and_1 (takes f q p z.at && leb y (f z.at).moment)
        (ltb (f z.at).moment (instant keys k)) z.passes) in
        record {
          at = z.at;
          below = z.below;
          passes = and_i g (lt-ltb (f z.at).moment (suc m)
              (omega (arith, instant_le f n keys count o k inside)));
        };
  }
    where
      above : (i : ℕ) → i < n → takes f q p i ≡ true → (i ≡ j) ⊎ ((f i).moment < instant keys k) → (f i).moment < t
      above i u h (inl e) = absurd (ne (ap (takes f q p) (sym e) ∙ h))
      above i u h (inr e) = s.above i u h e

  taken_own : (t : ℕ) → Taken f n keys k (f j).queue (f j).process t → Taken f n keys (suc k) (f j).queue (f j).process (cond (top j) (m + 1) t)
  taken_own t s = by (top j) refl
    where
      by : (b : Bool) → top j ≡ b → Taken f n keys (suc k) (f j).queue (f j).process (cond b (m + 1) t)
      by true e = record {
        above = λ i u h w. omega arith;
        met = λ y u. record {
          at = j;
          below = o.index k inside;
          passes = and_i (and_i (and_i (and_i e (eq-eqb (f j).queue (f j).queue refl)) (eq-eqb (f j).process (f j).process refl))
              (le-leb y (f j).moment (omega (arith, o.moment k inside))))
              (lt-ltb (f j).moment (suc m) (omega (arith, o.moment k inside)));
        };
      }
      by false e = taken_other (f j).queue (f j).process t (λ h.
          contra (top j) (and_0 (top j) (eqb (f j).queue (f j).queue)
          (and_0 (top j && eqb (f j).queue (f j).queue) (eqb (f j).process (f j).process) h)) e) s

  module _ (l : List ℕ) (s : Shelves f n keys k l) (fields : Fields f n) (early : (f j).moment < 65536) where
    abbrev q : ℕ
    q = (f j).queue

    abbrev p : ℕ
    p = (f j).process

    q_low : q < 8
    q_low = (fields j (o.index k inside)).queue

    p_low : p < 8
    p_low = (fields j (o.index k inside)).process

    abbrev l₁ : List ℕ
    l₁ = shelved (f j) l

    abbrev l₂ : List ℕ
    l₂ = passed_by (f j) l

    -- a place that is not the take's is as the shelf's change leaves it
    shelf_place : (x : ℕ) → x < 8 → get_or l₂ x 0 ≡ get_or l₁ x 0
    shelf_place x u = get_or-set_other l₁ (took_at q p) x (took_after (f j) (get_or l₁ (took_at q p) 0)) 0 (λ e. omega arith)

    took_place : (x y : ℕ) → get_or l₁ (took_at x y) 0 ≡ get_or l (took_at x y) 0
    took_place x y = get_or-set_other l q (took_at x y) (shelf_after (f j) (get_or l q 0)) 0 (λ e. omega (arith, q_low))

    shelf_next : (x : ℕ) → x < 8 → Dec (x ≡ q) → Shelf f n keys (suc k) x (get_or l₂ x 0 / 65536) (get_or l₂ x 0 % 65536)
    shelf_next x u (yes e) =
        let d = get_or l q 0 in
        let z : get_or l₂ q 0 ≡ shelf_after (f j) d = shelf_place q q_low ∙ get_or-set_same l q (shelf_after (f j) d) 0 (omega (arith, s.long, q_low)) in
        rw (e, z, shelf_held (f j).moment d early (what (f j)), shelf_filled (f j).moment d early (what (f j)), o.moment k inside)
        (shelf_own (d / 65536) (d % 65536) (same Pushed (what (f j)) && eqb (d / 65536) 0) refl (s.shelf q q_low))
    shelf_next x u (no e) =
        let z : get_or l₂ x 0 ≡ get_or l x 0 = shelf_place x u ∙ get_or-set_other l q x (shelf_after (f j) (get_or l q 0)) 0 e in
        rw z (shelf_other x (get_or l x 0 / 65536) (get_or l x 0 % 65536) (λ t. e (sym t)) (s.shelf x u))

    taken_next : (x y : ℕ) → x < 8 → y < 8 → Dec (took_at x y ≡ took_at q p) → Taken f n keys (suc k) x y (get_or l₂ (took_at x y) 0)
    taken_next x y u v (yes e) =
        let a : x ≡ q = omega (arith, p_low) in
        let b : y ≡ p = omega (arith, p_low) in
        let t = took_after (f j) (get_or l₁ (took_at q p) 0) in
        let z : get_or l₂ (took_at q p) 0 ≡ t = get_or-set_same l₁ (took_at q p) t 0 (simp length-set (omega (arith, s.long, q_low, p_low))) in
        rw (a, b, z, took_place q p, o.moment k inside) (taken_own (get_or l (took_at q p) 0) (s.taken q p q_low p_low))
    taken_next x y u v (no e) =
        let t = took_after (f j) (get_or l₁ (took_at q p) 0) in
        rw (get_or-set_other l₁ (took_at q p) (took_at x y) t 0 e, took_place x y)
        (taken_other x y (get_or l (took_at x y) 0) (λ h.
        let a : q ≡ x = eqb-true q x (and_1 (top j) (eqb q x) (and_0 (top j && eqb q x) (eqb p y) h)) in
        let b : p ≡ y = eqb-true p y (and_1 (top j && eqb q x) (eqb p y) h) in
        e (omega arith)) (s.taken x y u v))

    pub shelves_next : Shelves f n keys (k + 1) l₂
    shelves_next = subst (λ (x : ℕ). Shelves f n keys x l₂) step (record {
      long = simp length-set s.long;
      shelf = λ x u. shelf_next x u (ℕ_discrete x q);
      taken = λ x y u v. taken_next x y u v (ℕ_discrete (took_at x y) (took_at q p));
    })
      where
        step : suc k ≡ k + 1
        step = omega arith

    -- the call's numbers are low enough to be gone past
    pub passable : k ≤ 256 → Passable (f j) l
    passable u = (q_low, p_low, omega (arith, (s.shelf q q_low).few), s.long)
