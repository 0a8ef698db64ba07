-- Of an accepted log: at each instant the nodes of a queue are those pushed there and not returned, node by node; so each returned node was pushed before,
-- none is returned twice, and each pushed one is returned or left, in one place.
use mathlib.Core.Path.{◌≡◌, refl, sym, ap, ◌∙◌, subst}
use mathlib.Core.Bool.{Bool, true, false, cond, ◌&&◌, ◌||◌, not}
use mathlib.Core.List.{List, [], ◌∷◌, ◌++◌}
use Prim.Native.Nat.{ℕ, zero, suc, ◌+◌, ◌-◌, ◌*◌, ◌≤◌, ◌<◌}
use native.Mathlib.Omega.{arith}
use native.Mathlib.Decide.{dec_lt, ℕ_discrete}
use borrow.Author.Tests.{lt-ltb, le-ltb, ltb-true, ltb-false, eq-eqb, eqb-true, leb-true, leb-false}
use lib.Dec.{eqb, ltb, leb}
use lib.ListN.{length}
use Rattle.call_log.specs.declared.Entry.{Entry}
use Rattle.call_log.specs.declared.What.{What}
use Rattle.call_log.specs.declared.What.TheVariants.{Pushed, Full, BottomNode, BottomNil, TopNode, TopNil, TopLost}
use Rattle.call_log.specs.Numbers.{what, same, bears_moment}
use Rattle.call_log.specs.Decode.{section_count_of, processes_of, slots_of, entry_count_of, entry_at}
use Rattle.call_log.proofs.NumbersLaws.{same_true}
use Rattle.rules.specs.Search.{count, sum_to}
use Rattle.rules.specs.Contents.{bears, drop_last, applied, on, happens, event_at, before}
use Rattle.rules.specs.Judge.{says, first1, first2, first3, first4, first5, first6, or_else, judge_of}
use Rattle.rules.specs.Accepted.{Rule4, Accepted}
use Rattle.rules.specs.Left.{after_all, left_in, pushes, returns, on_before, tally, PushedBefore, ReturnedWasPushed, ReturnedOnce, HeldIsCounted}
use Rattle.rules.specs.Left.{LeftForGood, InOnePlace, PushedOnceInOnePlace, unordered}
use Rattle.base.proofs.Bools.{contra, and_i, and_0, and_1, or_e, by_both, not_so, guarded}
use Rattle.base.proofs.Cases.{ever, if_lt, either_way}
use Rattle.rules.proofs.SearchLaws.{first_is, Found, none_passes}
use Rattle.rules.proofs.KeptLaws.{Distinct}
use Rattle.rules.proofs.ContentLaws.{before_still}
use Rattle.rules.proofs.VerdictLaws.{head_of, few}
use Rattle.rules.proofs.CountLaws.{one, count_none, count_same, count_at, count_found, count_two, count_one, sum_same, sum_add, count_shared}

-- all moments are below the instant after them
moment_below : (f : ℕ → Entry) (n i : ℕ) → i < n → bears (f i) ≡ true → (f i).moment < after_all f n
moment_below f zero i u b = absurd (omega arith)
moment_below f (suc n) i u b = split (ℕ_discrete i n) (λ v. moment_below f n i v b)
  where
    split : Dec (i ≡ n) → (i < n → (f i).moment < after_all f n) → (f i).moment < after_all f (suc n)
    split (yes d) ih =
        let e : (f i).moment ≡ (f n).moment = ap (λ (k : ℕ). (f k).moment) d in
        let t : bears (f n) ≡ true = ap (λ (k : ℕ). bears (f k)) (sym d) ∙ b in
        either_way (λ (x : ℕ). (f i).moment < x) (bears (f n) && leb (after_all f n) (f n).moment) (λ g. omega arith)
        (λ g. omega (
          arith,
          leb-false (after_all f n) (f n).moment (not_so (leb (after_all f n) (f n).moment) (λ h.
              contra (bears (f n) && leb (after_all f n) (f n).moment) (and_i t h) g)),
        ))
    split (no d) ih =
        let lt = ih (omega arith) in
        either_way (λ (x : ℕ). (f i).moment < x) (bears (f n) && leb (after_all f n) (f n).moment)
        (λ g. omega (arith, leb-true (after_all f n) (f n).moment (and_1 (bears (f n)) (leb (after_all f n) (f n).moment) g))) (λ _. lt)

pub left_for_good : LeftForGood
left_for_good f n q m h =
    let e : after_all f n + (m - after_all f n) ≡ m = omega arith in
    ap (before f n q) (sym e) ∙ before_still f n q (after_all f n) (m - after_all f n)
    (λ x a b i u. not_so (happens q x (f i)) (λ t.
    let k = moment_below f n i u (and_0 (bears (f i)) (eqb (f i).queue q) (and_0 (on q (f i)) (eqb (f i).moment x) t)) in
    omega (arith, eqb-true (f i).moment x (and_1 (on q (f i)) (eqb (f i).moment x) t))))

-- tallies
module _ (p : ℕ → Bool) where
  tally_cons : (v : ℕ) (c : List ℕ) → tally p (v ∷ c) ≡ tally p c + one (p v)
  tally_cons v c = by (p v)
    where
      by : (t : Bool) → cond t (tally p c + 1) (tally p c) ≡ tally p c + one t
      by true = refl
      by false = omega arith

  tally_snoc : (c : List ℕ) (v : ℕ) → tally p (c ++ (v ∷ [])) ≡ tally p c + one (p v)
  tally_snoc [] v = tally_cons v []
  tally_snoc (y ∷ c) v = omega (arith, tally_cons y (c ++ (v ∷ [])), tally_cons y c, tally_snoc c v)

  tally_drop_last : (c : List ℕ) (v : ℕ) → tally p (drop_last (c ++ (v ∷ []))) ≡ tally p c
  tally_drop_last [] v = refl
  tally_drop_last (y ∷ []) v = refl
  tally_drop_last (y ∷ z ∷ c) v =
      omega (arith, tally_cons y (drop_last (z ∷ (c ++ (v ∷ [])))), tally_cons y (z ∷ c), tally_drop_last (z ∷ c) v)

tally_all : (c : List ℕ) → tally (λ _. true) c ≡ length c
tally_all [] = refl
tally_all (y ∷ c) = omega (arith, tally_all c)

-- what pushes and what returns a node has a moment
push_bears : (e : Entry) → pushes e ≡ true → bears e ≡ true
push_bears e h = ap bears_moment (sym (same_true Pushed (what e) h))

return_bears : (e : Entry) → returns e ≡ true → bears e ≡ true
return_bears e h =
    or_e (same BottomNode (what e)) (same TopNode (what e)) h (λ t. ap bears_moment (sym (same_true BottomNode (what e) t)))
    (λ t. ap bears_moment (sym (same_true TopNode (what e) t)))

module _ (f : ℕ → Entry) (n P C : ℕ) (a : Accepted f n P C) where
  distinct : Distinct f n
  distinct i j u v b d e = split (dec_lt i j) (dec_lt j i)
    where
      split : Dec (i < j) → Dec (j < i) → i ≡ j
      split (yes k) _ = absurd (a.differ i j k v b d e)
      split (no k) (yes l) = absurd (a.differ j i l u d b (sym e))
      split (no k) (no l) = omega arith

  -- the calls that pass a test and bear moments, on a queue before an instant
  module _ (t : Entry → Bool) (borne : (e : Entry) → t e ≡ true → bears e ≡ true) (q : ℕ) where
    abbrev passing : ℕ → ℕ → Bool
    passing m i = t (f i) && on_before q m (f i)

    -- an instant later a call passes too only if it happens then
    later : (m i : ℕ) → (happens q m (f i) ≡ true → ⊥) → passing m i ≡ passing (suc m) i
    later m i never = by_both (passing m i) (passing (suc m) i)
        (λ h.
        let o = and_1 (t (f i)) (on_before q m (f i)) h in
        and_i (and_0 (t (f i)) (on_before q m (f i)) h) (and_i (and_0 (eqb (f i).queue q) (ltb (f i).moment m) o)
        (lt-ltb (f i).moment (suc m) (omega (arith, ltb-true (f i).moment m (and_1 (eqb (f i).queue q) (ltb (f i).moment m) o))))))
        (λ h.
        let s = and_0 (t (f i)) (on_before q (suc m) (f i)) h in
        let o = and_1 (t (f i)) (on_before q (suc m) (f i)) h in
        let d = and_0 (eqb (f i).queue q) (ltb (f i).moment (suc m)) o in
        let l = ltb-true (f i).moment (suc m) (and_1 (eqb (f i).queue q) (ltb (f i).moment (suc m)) o) in
        and_i s (and_i d (lt-ltb (f i).moment m (less (ℕ_discrete (f i).moment m) l (λ e. never (and_i (and_i (borne (f i) s) d) (eq-eqb (f i).moment m e)))))))
      where
        less : {x y : ℕ} → Dec (x ≡ y) → x < suc y → (x ≡ y → ⊥) → x < y
        less (yes d) l k = absurd (k d)
        less (no d) l k = omega arith

    start_count : count (passing 0) n ≡ 0
    start_count = count_none (passing 0) n (λ i u. guarded (t (f i)) (on_before q 0 (f i)) (λ _.
        guarded (eqb (f i).queue q) (ltb (f i).moment 0) (λ _. le-ltb (f i).moment 0 (omega arith))))

    quiet_count : (m : ℕ) → n ≤ event_at f n q m → count (passing (suc m)) n ≡ count (passing m) n
    quiet_count m h =
        sym (count_same (passing m) (passing (suc m)) n (λ i u. later m i (λ e. contra (happens q m (f i)) e
        (none_passes (λ k. happens q m (f k)) n h i u))))

    event_count : (m : ℕ) → event_at f n q m < n → count (passing (suc m)) n ≡ count (passing m) n + one (t (f (event_at f n q m)))
    event_count m h =
        let j = event_at f n q m in
        let e : happens q m (f j) ≡ true = first_is (λ k. happens q m (f k)) 0 n (omega arith) in
        let o : on q (f j) ≡ true = and_0 (on q (f j)) (eqb (f j).moment m) e in
        let d : (f j).moment ≡ m = eqb-true (f j).moment m (and_1 (on q (f j)) (eqb (f j).moment m) e) in
        let now : passing (suc m) j ≡ t (f j) = by_both (passing (suc m) j) (t (f j)) (and_0 (t (f j)) (on_before q (suc m) (f j)))
        (λ s. and_i s (and_i (and_1 (bears (f j)) (eqb (f j).queue q) o) (lt-ltb (f j).moment (suc m) (omega arith)))) in
        count_at (passing m) (passing (suc m)) j n h
        (λ i u ne. later m i (λ g.
        let k : on q (f i) ≡ true = and_0 (on q (f i)) (eqb (f i).moment m) g in
        ne (distinct i j u h (and_0 (bears (f i)) (eqb (f i).queue q) k) (and_0 (bears (f j)) (eqb (f j).queue q) o)
        (eqb-true (f i).moment m (and_1 (on q (f i)) (eqb (f i).moment m) g) ∙ sym d))))
        (guarded (t (f j)) (on_before q m (f j)) (λ _. guarded (eqb (f j).queue q) (ltb (f j).moment m) (λ _. le-ltb (f j).moment m (omega arith))))
        ∙ ap (λ (b : Bool). count (passing m) n + one b) now

    -- after all moments
    whole_count : count (passing (after_all f n)) n ≡ count (λ i. t (f i) && eqb (f i).queue q) n
    whole_count = count_same (passing (after_all f n)) (λ i. t (f i) && eqb (f i).queue q) n (λ i u.
        by_both (passing (after_all f n) i) (t (f i) && eqb (f i).queue q)
        (λ h. and_i (and_0 (t (f i)) (on_before q (after_all f n) (f i)) h)
        (and_0 (eqb (f i).queue q) (ltb (f i).moment (after_all f n)) (and_1 (t (f i)) (on_before q (after_all f n) (f i)) h)))
        (λ h.
        let s = and_0 (t (f i)) (eqb (f i).queue q) h in
        and_i s (and_i (and_1 (t (f i)) (eqb (f i).queue q) h) (lt-ltb (f i).moment (after_all f n) (moment_below f n i u (borne (f i) s))))))

  -- nodes that pass a test: pushed, returned, and what one call does
  module _ (p : ℕ → Bool) where
    abbrev pushes_one : Entry → Bool
    pushes_one e = pushes e && p e.node

    abbrev returns_one : Entry → Bool
    returns_one e = returns e && p e.node

    pushed_borne : (e : Entry) → pushes_one e ≡ true → bears e ≡ true
    pushed_borne e h = push_bears e (and_0 (pushes e) (p e.node) h)

    returned_borne : (e : Entry) → returns_one e ≡ true → bears e ≡ true
    returned_borne e h = return_bears e (and_0 (returns e) (p e.node) h)

    one_call : (e : Entry) (c : List ℕ) (w : What) → Rule4 f n e c w
        → tally p (applied w e.node c) + one ((same BottomNode w || same TopNode w) && p e.node) ≡ tally p c + one
        (same Pushed w && p e.node)
    one_call e c Pushed h = omega (arith, tally_snoc p c e.node)
    one_call e c Full h = refl
    one_call e c BottomNode h =
        subst (λ (d : List ℕ). tally p (drop_last d) + one (p e.node) ≡ tally p d + 0) (sym h.1)
        (omega (arith, tally_drop_last p h.0 e.node, tally_snoc p h.0 e.node))
    one_call e c BottomNil h = refl
    one_call e c TopNode h =
        subst (λ (d : List ℕ). tally p (applied TopNode e.node d) + one (p e.node) ≡ tally p d + 0) (sym h.1)
        (omega (arith, tally_cons p e.node h.0))
    one_call e c TopNil h = refl
    one_call e c TopLost h = refl

    abbrev pushed_so : ℕ → ℕ → ℕ
    pushed_so q m = count (passing pushes_one pushed_borne q m) n

    abbrev returned_so : ℕ → ℕ → ℕ
    returned_so q m = count (passing returns_one returned_borne q m) n

    held : (q m : ℕ) → tally p (before f n q m) + returned_so q m ≡ pushed_so q m
    unfolding before
    held q zero = omega (arith, start_count pushes_one pushed_borne q, start_count returns_one returned_borne q)
    held q (suc m) = if_lt (λ (c : List ℕ). tally p c + returned_so q (suc m) ≡ pushed_so q (suc m)) (event_at f n q m) n
        (λ h.
        let j = event_at f n q m in
        let e : happens q m (f j) ≡ true = first_is (λ k. happens q m (f k)) 0 n (omega arith) in
        let o : on q (f j) ≡ true = and_0 (on q (f j)) (eqb (f j).moment m) e in
        let d : (f j).moment ≡ m = eqb-true (f j).moment m (and_1 (on q (f j)) (eqb (f j).moment m) e) in
        let g : (f j).queue ≡ q = eqb-true (f j).queue q (and_1 (bears (f j)) (eqb (f j).queue q) o) in
        let r : Rule4 f n (f j) (before f n q m) (what (f j)) = subst (λ (x : ℕ). Rule4 f n (f j) (before f n q x) (what (f j))) d
        (subst (λ (x : ℕ). Rule4 f n (f j) (before f n x (f j).moment) (what (f j))) g (a.rule4 j h)) in
        omega (
          arith,
          one_call (f j) (before f n q m) (what (f j)) r,
          held q m,
          event_count pushes_one pushed_borne q m h,
          event_count returns_one returned_borne q m h,
        ))
        (λ h. omega (arith, held q m, quiet_count pushes_one pushed_borne q m h, quiet_count returns_one returned_borne q m h))

  -- a node that is returned stands in its queue just before
  held_node : (e : Entry) (c : List ℕ) (w : What) → Rule4 f n e c w → (same BottomNode w || same TopNode w) ≡ true
      → 1 ≤ tally (λ y. eqb y e.node) c
  held_node e c w r t = or_e (same BottomNode w) (same TopNode w) t
      (λ b. bottom (subst (Rule4 f n e c) (sym (same_true BottomNode w b)) r)) (λ b. top (subst (Rule4 f n e c) (sym (same_true TopNode w b)) r))
    where
      this : one (eqb e.node e.node) ≡ 1
      this = ap one (eq-eqb e.node e.node refl)

      bottom : Rule4 f n e c BottomNode → 1 ≤ tally (λ y. eqb y e.node) c
      bottom h = subst (λ (d : List ℕ). 1 ≤ tally (λ y. eqb y e.node) d) (sym h.1)
          (omega (arith, tally_snoc (λ y. eqb y e.node) h.0 e.node, this))

      top : Rule4 f n e c TopNode → 1 ≤ tally (λ y. eqb y e.node) c
      top h = subst (λ (d : List ℕ). 1 ≤ tally (λ y. eqb y e.node) d) (sym h.1)
          (omega (arith, tally_cons (λ y. eqb y e.node) e.node h.0, this))

  was_pushed : (j : ℕ) → j < n → returns (f j) ≡ true → PushedBefore f n (f j)
  was_pushed j u t = by (count_found (passing pushes_it borne (f j).queue (f j).moment) n
      (omega (arith, held it (f j).queue (f j).moment, held_node (f j) (before f n (f j).queue (f j).moment) (what (f j)) (a.rule4 j u) t)))
    where
      it : ℕ → Bool
      it y = eqb y (f j).node

      pushes_it : Entry → Bool
      pushes_it = pushes_one it

      borne : (e : Entry) → pushes_it e ≡ true → bears e ≡ true
      borne = pushed_borne it

      by : Found (passing pushes_it borne (f j).queue (f j).moment) n → PushedBefore f n (f j)
      by z =
          let e = f z.at in
          let s = and_0 (pushes_it e) (on_before (f j).queue (f j).moment e) z.passes in
          let o = and_1 (pushes_it e) (on_before (f j).queue (f j).moment e) z.passes in
          record {
            by = z.at;
            below = z.below;
            pushed = sym (same_true Pushed (what e) (and_0 (pushes e) (it e.node) s));
            queue = eqb-true e.queue (f j).queue (and_0 (eqb e.queue (f j).queue) (ltb e.moment (f j).moment) o);
            node = eqb-true e.node (f j).node (and_1 (pushes e) (it e.node) s);
            before = ltb-true e.moment (f j).moment (and_1 (eqb e.queue (f j).queue) (ltb e.moment (f j).moment) o);
          }

  module _ (x : ℕ) where
    abbrev it : ℕ → Bool
    it y = eqb y x

    -- of two pushes the later one by moment would add a node again
    pushed_once : (i j : ℕ) → i < j → j < n → (pushes (f i) && eqb (f i).node x) ≡ true → (pushes (f j) && eqb (f j).node x) ≡ true → ⊥
    pushed_once i j u v s t = split (dec_lt (f i).moment (f j).moment) (dec_lt (f j).moment (f i).moment)
      where
        did : (k : ℕ) → (pushes (f k) && eqb (f k).node x) ≡ true → what (f k) ≡ Pushed
        did k h = sym (same_true Pushed (what (f k)) (and_0 (pushes (f k)) (eqb (f k).node x) h))

        is : (k : ℕ) → (pushes (f k) && eqb (f k).node x) ≡ true → (f k).node ≡ x
        is k h = eqb-true (f k).node x (and_1 (pushes (f k)) (eqb (f k).node x) h)

        again : (k l : ℕ) → k < n → l < n → (pushes (f k) && eqb (f k).node x) ≡ true → (pushes (f l) && eqb (f l).node x) ≡ true
            → (f k).moment < (f l).moment
            → ⊥
        again k l b c g h lt =
            subst (Rule4 f n (f l) (before f n (f l).queue (f l).moment)) (did l h) (a.rule4 l c) k b (did k g) lt (is k g ∙ sym (is l h))

        split : Dec ((f i).moment < (f j).moment) → Dec ((f j).moment < (f i).moment) → ⊥
        split (yes lt) _ = again i j (omega arith) v s t lt
        split (no _) (yes lt) = again j i v (omega arith) t s lt
        split (no k) (no l) = a.differ i j u v (ap bears_moment (did i s)) (ap bears_moment (did j t)) (omega arith)

    in_one_place : InOnePlace f n (left_in f n) P x
    in_one_place = record {
      one = count_one (λ i. pushes (f i) && eqb (f i).node x) n pushed_once;
      place = omega (
        arith,
        sum_same (λ q. places_in q + returned_so it q (after_all f n)) (λ q. pushed_so it q (after_all f n)) P (λ q u. held it q (after_all f n)),
        sum_add places_in (λ q. returned_so it q (after_all f n)) P,
        all (pushes_one it) (pushed_borne it),
        all (returns_one it) (returned_borne it),
      );
    }
      where
        places_in : ℕ → ℕ
        places_in q = tally it (left_in f n q)

        -- each call is of one queue below P
        all : (t : Entry → Bool) (borne : (e : Entry) → t e ≡ true → bears e ≡ true)
            → sum_to (λ q. count (passing t borne q (after_all f n)) n) P ≡ count (λ i. t (f i)) n
        all t borne =
            sum_same (λ q. count (passing t borne q (after_all f n)) n) (λ q. count (λ i. t (f i) && eqb (f i).queue q) n) P
            (λ q u. whole_count t borne q)
            ∙ count_shared (λ i. t (f i)) (λ i. (f i).queue) P n (λ i u _. (a.rule1 i u).queue)

pub returned_was_pushed : ReturnedWasPushed
returned_was_pushed = was_pushed

pub pushed_once_in_one_place : PushedOnceInOnePlace
pushed_once_in_one_place = in_one_place

pub returned_once : ReturnedOnce
returned_once f n P C a i j u v s t e =
    let x = (f j).node in
    let o = in_one_place f n P C a x in
    omega (
      arith,
      o.one,
      o.place,
      count_two (λ k. returns (f k) && eqb (f k).node x) n i j u v (and_i s (eq-eqb (f i).node x e)) (and_i t (eq-eqb (f j).node x refl)),
    )

pub held_is_counted : HeldIsCounted
held_is_counted f n P C a q m =
    omega (arith, held f n P C a (λ _. true) q m, tally_all (before f n q m), unasked pushes, unasked returns)
  where
    unasked : (t : Entry → Bool) → count (λ i. t (f i) && true && on_before q m (f i)) n ≡ count (λ i. t (f i) && on_before q m (f i)) n
    unasked t =
        count_same (λ i. t (f i) && true && on_before q m (f i)) (λ i. t (f i) && on_before q m (f i)) n (λ i u. by (t (f i)) (on_before q m (f i)))
      where
        by : (s r : Bool) → (s && true && r) ≡ (s && r)
        by true r = refl
        by false r = refl

-- a log that is not refused is whole, and all its entries keep rule 3
pub record InOrder (bytes : List ℕ) : Type 0 where
  pub few : entry_count_of bytes ≤ 256
  pub sized : length bytes ≡ 5 + 12 * entry_count_of bytes
  pub rule3 : entry_count_of bytes ≤ first3 (entry_at bytes) (entry_count_of bytes)

pub in_order : (bytes : List ℕ) → unordered (judge_of bytes).number ≡ false → InOrder bytes
in_order bytes = by (ltb (length bytes) 5) refl (head_of bytes) refl (ltb (length bytes) (5 + 12 * n)) refl (ltb (5 + 12 * n) (length bytes)) refl
    (ltb (first1 f n (processes_of bytes)) n) refl (ltb (first2 f n) n) refl (ltb (first3 f n) n) refl
  where
    n : ℕ
    n = entry_count_of bytes

    f : ℕ → Entry
    f = entry_at bytes

    by : (s : Bool) → ltb (length bytes) 5 ≡ s → (t : Bool) → head_of bytes ≡ t → (u : Bool) → ltb (length bytes) (5 + 12 * n) ≡ u
        → (v : Bool) → ltb (5 + 12 * n) (length bytes) ≡ v → (a : Bool) → ltb (first1 f n (processes_of bytes)) n ≡ a → (b : Bool)
        → ltb (first2 f n) n ≡ b
        → (d : Bool) → ltb (first3 f n) n ≡ d
        → unordered (cond s (says 11 0) (cond (not t) (says 12 0) (cond u (says 11 0) (cond v (says 13 0)
        (cond a (says 14 (first1 f n (processes_of bytes))) (cond b (says 15 (first2 f n)) (cond d (says 16 (first3 f n))
        (or_else n 17 (first4 f n) (or_else n 18 (first5 f n) (or_else n 19 (first6 f n (slots_of bytes)) (says 0 0))))))))))).number ≡ false
        → InOrder bytes
    by true _ t _ u _ v _ a _ b _ d _ z = ever z
    by false _ false _ u _ v _ a _ b _ d _ z = ever z
    by false _ true _ true _ v _ a _ b _ d _ z = ever z
    by false _ true _ false _ true _ a _ b _ d _ z = ever z
    by false _ true _ false _ false _ true _ b _ d _ z = ever z
    by false _ true _ false _ false _ false _ true _ d _ z = ever z
    by false _ true _ false _ false _ false _ false _ true _ z = ever z
    by false _ true h false k false l false _ false _ false g z = record {
      few = (few (section_count_of bytes) (processes_of bytes) (slots_of bytes) n h).0;
      sized = omega (arith, ltb-false (length bytes) (5 + 12 * n) k, ltb-false (5 + 12 * n) (length bytes) l);
      rule3 = ltb-false (first3 f n) n g;
    }
