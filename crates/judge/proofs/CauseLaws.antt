-- Rule 5 by what is kept of each queue, where all moments up to the call's end have been passed.
use mathlib.Core.Path.{◌≡◌, refl, sym, ap, ◌∙◌}
use mathlib.Core.Bool.{Bool, true, false, ◌&&◌, not}
use mathlib.Core.Logic.{◌⊎◌, inl, inr}
use mathlib.Core.List.{List}
use Prim.Native.Nat.{ℕ, suc, ◌+◌, ◌-◌, ◌*◌, ◌/◌, ◌%◌, ◌≤◌, ◌<◌}
use native.Mathlib.Omega.{arith}
use native.Mathlib.Decide.{ℕ_discrete, dec_lt}
use borrow.Author.Tests.{lt-ltb, ltb-true, ltb-false, eq-eqb, eqb-true, le-leb, leb-true, leb-false}
use lib.Dec.{eqb, ltb, leb}
use lib.ListN.{length, get_or}
use Rattle.call_log.specs.declared.Entry.{Entry}
use Rattle.call_log.specs.declared.What.{What}
use Rattle.call_log.specs.declared.What.TheVariants.{BottomNode, TopNode}
use Rattle.call_log.specs.Numbers.{what, same, is_top_nil, bears_moment}
use Rattle.call_log.proofs.NumbersLaws.{same_true}
use Rattle.rules.specs.Search.{any}
use Rattle.rules.specs.Contents.{bears, on, before, applied}
use Rattle.rules.specs.Rules.{is_empty, in_call, empty_within, takes_topmost, removes, has_cause, breaks5}
use Rattle.base.proofs.Bools.{contra, and_i, and_0, and_1, or_l, or_r, or_e, by_both, not_i, not_e, not_so}
use Rattle.rules.proofs.SearchLaws.{any_e, any_i, from_i, from_e}
use Rattle.rules.proofs.ContentLaws.{topmost, last_one}
use Rattle.keys.specs.Inner.Keys.{moment_at, index_at}
use Rattle.judge.specs.Inner.Order.{instant, Fields, Ordered}
use Rattle.judge.specs.Inner.Causes.{took_at, other_took, uncaused_by, Clean}
use Rattle.judge.proofs.ReplayLaws.{event_of, passed, still, now_is, own_is}
use Rattle.judge.proofs.ShelfLaws.{Shelf, takes, Shelves, full_of, empty_of}

module _ (f : ℕ → Entry) (n : ℕ) (keys : List ℕ) (count : ℕ) (o : Ordered f n keys count) (fields : Fields f n) (k : ℕ) (within : k ≤ count)
    (l : List ℕ) (s : Shelves f n keys k l) (e : Entry) (queue_low : e.queue < 8) (forward : e.start ≤ e.end)
    (past : k < count → 2 * e.end + 1 < moment_at keys k) (upto : instant keys k ≤ 2 * e.end + 2) where
  abbrev q : ℕ
  q = e.queue

  abbrev a : ℕ
  a = 2 * e.start

  abbrev b : ℕ
  b = 2 * e.end + 1

  abbrev h : ℕ
  h = get_or l q 0 / 65536

  abbrev since : ℕ
  since = get_or l q 0 % 65536

  sh : Shelf f n keys k q h since
  sh = s.shelf q queue_low

  abbrev other : Bool
  other = other_took l q e.process a 8

  abbrev empty : Bool
  empty = empty_within f n q a b

  abbrev taken : Bool
  taken = any (λ i. removes f n e (f i)) n

  -- from just after the moments passed up to the end nothing alters
  until : (x : ℕ) → instant keys k ≤ x → x ≤ suc b → before f n q x ≡ before f n q (instant keys k)
  until x u v = still f n keys count o q k x within (λ w. omega (arith, past w)) u

  empty_i : (x : ℕ) → a ≤ x → x ≤ b → is_empty (before f n q (suc x)) ≡ true → has_cause f n e ≡ true
  empty_i x u v t = or_l empty taken (from_i (λ x. is_empty (before f n q (suc x))) a b x u v t)

  -- an instant at which the queue is empty
  no_empty : 0 < h → since ≤ a → (x : ℕ) → a ≤ x → x ≤ b → is_empty (before f n q (suc x)) ≡ true → ⊥
  no_empty some le x u v t = split (dec_lt (instant keys k) (suc x))
    where
      split : Dec (instant keys k < suc x) → ⊥
      split (yes w) = contra (is_empty (before f n q (suc x))) t (ap is_empty (until (suc x) (omega arith) (omega arith))
          ∙ full_of (before f n q (instant keys k)) (omega (arith, sh.is)))
      split (no w) = contra (is_empty (before f n q (suc x))) t (sh.since some (suc x) (omega arith) (omega arith))

  inside : (i : ℕ) → i < n → bears (f i) ≡ true → (f i).moment ≤ b → (f i).moment < instant keys k
  inside i u t v = let z = event_of f n keys count o i u t in split z.at z.below z.moment (dec_lt z.at k) (dec_lt k z.at)
    where
      split : (x : ℕ) → x < count → moment_at keys x ≡ (f i).moment → Dec (x < k) → Dec (k < x) → (f i).moment < instant keys k
      split x w g (yes y) d = omega (arith, passed f n keys count o x k y within)
      split x w g (no y) (yes d) = absurd (omega (arith, o.rising k x d w, past (omega arith)))
      split x w g (no y) (no d) = let r : x ≡ k = omega arith in absurd (omega (arith, ap (moment_at keys) r, past (omega arith)))

  -- what a removal in the call's time is
  module _ (i : ℕ) (below : i < n) (t : removes f n e (f i) ≡ true) where
    t3 : (on q (f i) && in_call e (f i).moment && not (eqb (f i).process e.process)) ≡ true
    t3 = and_0 (on q (f i) && in_call e (f i).moment && not (eqb (f i).process e.process))
        (takes_topmost (what (f i)) (before f n q (f i).moment)) t

    t2 : (on q (f i) && in_call e (f i).moment) ≡ true
    t2 = and_0 (on q (f i) && in_call e (f i).moment) (not (eqb (f i).process e.process)) t3

    on_it : on q (f i) ≡ true
    on_it = and_0 (on q (f i)) (in_call e (f i).moment) t2

    in_it : in_call e (f i).moment ≡ true
    in_it = and_1 (on q (f i)) (in_call e (f i).moment) t2

    lo : a ≤ (f i).moment
    lo = leb-true a (f i).moment (and_0 (leb a (f i).moment) (leb (f i).moment b) in_it)

    hi : (f i).moment ≤ b
    hi = leb-true (f i).moment b (and_1 (leb a (f i).moment) (leb (f i).moment b) in_it)

    borne : bears (f i) ≡ true
    borne = and_0 (bears (f i)) (eqb (f i).queue q) on_it

    queue_is : (f i).queue ≡ q
    queue_is = eqb-true (f i).queue q (and_1 (bears (f i)) (eqb (f i).queue q) on_it)

    not_me : not (eqb (f i).process e.process) ≡ true
    not_me = and_1 (on q (f i) && in_call e (f i).moment) (not (eqb (f i).process e.process)) t3

    -- at the top: it is in the table
    by_top : what (f i) ≡ TopNode → other ≡ true
    by_top w =
        let p = (f i).process in
        let g : takes f q p i ≡ true = and_i (and_i (ap (same TopNode) w) (eq-eqb (f i).queue q queue_is)) (eq-eqb p p refl) in
        let u = (s.taken q p queue_low (fields i below).process).above i below g (inside i below borne hi) in
        any_i (λ p. not (eqb p e.process) && ltb a (get_or l (took_at q p) 0)) 8 p (fields i below).process
        (and_i not_me (lt-ltb a (get_or l (took_at q p) 0) (omega (arith, lo))))

    -- at the bottom: it leaves the queue empty
    by_bottom : what (f i) ≡ BottomNode → length (before f n q (f i).moment) ≡ 1 → is_empty (before f n q (suc (f i).moment)) ≡ true
    by_bottom w one =
        let z = event_of f n keys count o i below borne in
        let c = own_is f n keys count o z.at z.below in
        let c2 = now_is f n keys count o q z.at z.below in
        let d : before f n q (suc (f i).moment) ≡ applied (what (f i)) (f i).node (before f n q (f i).moment) =
        ap (λ (x : ℕ). before f n q (suc x)) (sym z.moment)
        ∙ ap (λ (x : ℕ). before f n x (suc (moment_at keys z.at))) (sym queue_is ∙ ap (λ (x : ℕ). (f x).queue) (sym z.is))
        ∙ c ∙ ap (λ (x : ℕ). applied (what (f x)) (f x).node (before f n (f x).queue (instant keys z.at))) z.is
        ∙ ap (λ (x : ℕ). applied (what (f i)) (f i).node (before f n x (instant keys z.at))) queue_is
        ∙ ap (λ (d : List ℕ). applied (what (f i)) (f i).node d) (sym c2)
        ∙ ap (λ (x : ℕ). applied (what (f i)) (f i).node (before f n q x)) z.moment in
        ap is_empty d ∙ ap (λ (x : What). is_empty (applied x (f i).node (before f n q (f i).moment))) w ∙ last_one (before f n q (f i).moment) one

  -- from the code's test
  to : 0 < h → since ≤ a → other ≡ false → has_cause f n e ≡ true → ⊥
  to some le none t = or_e empty taken t
      (λ y. let x = from_e (λ x. is_empty (before f n q (suc x))) a b y in no_empty some le x.0 x.1 x.2 x.3)
      (λ y. let z = any_e (λ i. removes f n e (f i)) n y in how z.at z.below z.passes
      (topmost (what (f z.at)) (before f n q (f z.at).moment)
      (and_1 (on q (f z.at) && in_call e (f z.at).moment && not (eqb (f z.at).process e.process))
      (takes_topmost (what (f z.at)) (before f n q (f z.at).moment)) z.passes)))
    where
      how : (i : ℕ) → i < n → removes f n e (f i) ≡ true → (what (f i) ≡ TopNode) ⊎
          ((what (f i) ≡ BottomNode) × (length (before f n q (f i).moment) ≡ 1)) → ⊥
      how i u r (inl w) = contra other (by_top i u r w) none
      how i u r (inr w) = no_empty some le (f i).moment (lo i u r) (hi i u r) (by_bottom i u r w.0 w.1)

  -- a take that the table shows
  by_table : other ≡ true → has_cause f n e ≡ true
  by_table t =
      let z = any_e (λ p. not (eqb p e.process) && ltb a (get_or l (took_at q p) 0)) 8 t in
      let p = z.at in
      let g = and_0 (not (eqb p e.process)) (ltb a (get_or l (took_at q p) 0)) z.passes in
      let u = ltb-true a (get_or l (took_at q p) 0) (and_1 (not (eqb p e.process)) (ltb a (get_or l (took_at q p) 0)) z.passes) in
      let y = (s.taken q p queue_low z.below).met a u in
      let i = y.at in
      let w2 = and_0 (takes f q p i && leb a (f i).moment) (ltb (f i).moment (instant keys k)) y.passes in
      let m = ltb-true (f i).moment (instant keys k) (and_1 (takes f q p i && leb a (f i).moment) (ltb (f i).moment (instant keys k))
      y.passes) in
      let w1 = and_0 (takes f q p i) (leb a (f i).moment) w2 in
      let v = and_1 (takes f q p i) (leb a (f i).moment) w2 in
      let w0 = and_0 (same TopNode (what (f i)) && eqb (f i).queue q) (eqb (f i).process p) w1 in
      let r : (f i).process ≡ p = eqb-true (f i).process p (and_1 (same TopNode (what (f i)) && eqb (f i).queue q) (eqb (f i).process p) w1) in
      let x : TopNode ≡ what (f i) = same_true TopNode (what (f i)) (and_0 (same TopNode (what (f i))) (eqb (f i).queue q) w0) in
      or_r empty taken (any_i (λ i. removes f n e (f i)) n i y.below (and_i (and_i (and_i
      (and_i (ap bears_moment (sym x)) (and_1 (same TopNode (what (f i))) (eqb (f i).queue q) w0))
      (and_i v (le-leb (f i).moment b (omega arith))))
      (ap (λ (y : ℕ). not (eqb y e.process)) r ∙ g))
      (sym (ap (λ (w : What). takes_topmost w (before f n q (f i).moment)) x))))

  from : (x y z : Bool) → ltb 0 h ≡ x → leb since a ≡ y → other ≡ z → (has_cause f n e ≡ true → ⊥) → (x && y && not z) ≡ true
  from true true false u v w never = refl
  from true true true u v w never = absurd (never (by_table w))
  from true false z u v w never =
      let g = leb-false since a v in
      let d : suc (since - 1) ≡ since = omega arith in
      absurd (never (empty_i (since - 1) (omega arith) (omega (arith, sh.early)) (ap (λ (x : ℕ). is_empty (before f n q x)) d ∙ sh.empty)))
  from false y z u v w never =
      let g = ltb-false 0 h u in
      absurd (never (empty_i b (omega arith) (omega arith) (ap is_empty (until (suc b) (omega arith) (omega arith))
      ∙ empty_of (before f n q (instant keys k)) (sym sh.is ∙ omega arith))))

  pub cause_is : (ltb 0 h && leb since a && not other) ≡ not (has_cause f n e)
  cause_is = by_both (ltb 0 h && leb since a && not other) (not (has_cause f n e))
      (λ t. not_i (has_cause f n e) (to (ltb-true 0 h (and_0 (ltb 0 h) (leb since a) (and_0 (ltb 0 h && leb since a) (not other) t)))
      (leb-true since a (and_1 (ltb 0 h) (leb since a) (and_0 (ltb 0 h && leb since a) (not other) t)))
      (not_so other (not_e other (and_1 (ltb 0 h && leb since a) (not other) t)))))
      (λ t. from (ltb 0 h) (leb since a) other refl refl refl (not_e (has_cause f n e) t))

-- a shelf with a node, as the code has it
some_held : (x : ℕ) → leb 65536 x ≡ ltb 0 (x / 65536)
some_held x = by_both (leb 65536 x) (ltb 0 (x / 65536)) (λ t. lt-ltb 0 (x / 65536) (omega (arith, leb-true 65536 x t)))
    (λ t. le-leb 65536 x (omega (arith, ltb-true 0 (x / 65536) t)))

pub moved_on : (keys : List ℕ) (k b : ℕ) → moment_at keys k ≤ b → instant keys (k + 1) ≤ b + 1
moved_on keys k b h = let e : k + 1 ≡ suc k = omega arith in rw e (omega arith)

module _ (f : ℕ → Entry) (n : ℕ) (keys : List ℕ) (count : ℕ) (cl : Clean f n keys count) where
  -- the moments passed lie before the ends of all entries that are left
  abbrev pub Passed : ℕ → ℕ → Type 0
  Passed k j = (x : ℕ) → j ≤ x → x < n → instant keys k ≤ 2 * (f x).end + 2

  pub passed_next : (e : Entry) (k j : ℕ) → e ≡ f j → j < n → moment_at keys k ≤ 2 * e.end + 1 → Passed (k + 1) j
  passed_next e k j g u h x v w = split (ℕ_discrete x j)
    where
      last : moment_at keys k ≤ 2 * (f j).end + 1
      last = omega (arith, ap (λ (y : Entry). y.end) g)

      split : Dec (x ≡ j) → instant keys (k + 1) ≤ 2 * (f x).end + 2
      split (yes d) = omega (arith, moved_on keys k (2 * (f j).end + 1) last, ap (λ (y : ℕ). (f y).end) d)
      split (no d) = omega (arith, moved_on keys k (2 * (f j).end + 1) last, cl.ends j x (omega arith) w)

  pub nil_low : (e : Entry) (j : ℕ) → e ≡ f j → j < n → (e.queue < 8) × (e.start < 32768)
  nil_low e j g u =
      let r = cl.fields j u in
      (omega (arith, ap (λ (y : Entry). y.queue) g, r.queue), omega (arith, ap (λ (y : Entry). y.start) g, r.start, r.end))

  -- a moment has two bytes
  pub call_early : (k : ℕ) → k < count → (f (index_at keys k)).moment < 65536
  call_early k u =
      let j = index_at keys k in
      let v = cl.ordered.index k u in
      omega (arith, (cl.moments j v).to (cl.ordered.borne k u), (cl.fields j v).end)

  later : (k b : ℕ) → (ltb k count && leb (moment_at keys k) b) ≡ false → k < count → b < moment_at keys k
  later k b h u = leb-false (moment_at keys k) b (sym (ap (λ (t : Bool). t && leb (moment_at keys k) b) (lt-ltb k count u)) ∙ h)

  pub query_told : (k : ℕ) → k ≤ count → (l : List ℕ) → Shelves f n keys k l → (j : ℕ) → j < n → Passed k j → (e : Entry) → e ≡ f j
      → (ltb k count && leb (moment_at keys k) (2 * e.end + 1)) ≡ false → is_top_nil (what e) ≡ true → uncaused_by l e ≡ breaks5 f n j
  query_told k within l s j u pass e g due nil =
      ap (λ (t : Bool). t && leb (get_or l e.queue 0 % 65536) (2 * e.start) && not (other_took l e.queue e.process (2 * e.start) 8))
      (some_held (get_or l e.queue 0))
      ∙ cause_is f n keys count cl.ordered cl.fields k within l s e (nil_low e j g u).0
      (omega (arith, ap (λ (y : Entry). y.start) g, ap (λ (y : Entry). y.end) g, (cl.fields j u).start))
      (later k (2 * e.end + 1) due) (omega (arith, ap (λ (y : Entry). y.end) g, pass j (omega arith) u))
      ∙ sym (ap (λ (t : Bool). t && not (has_cause f n e)) nil)
      ∙ ap (λ (y : Entry). is_top_nil (what y) && not (has_cause f n y)) g

  pub skip_told : (j : ℕ) (e : Entry) → e ≡ f j → is_top_nil (what e) ≡ false → breaks5 f n j ≡ false
  skip_told j e g h = ap (λ (t : Bool). t && not (has_cause f n (f j))) (sym (ap (λ (y : Entry). is_top_nil (what y)) g) ∙ h)
