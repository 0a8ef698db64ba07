-- The replay of all queues, each in its row: what a call makes of its row, and one turn.
use mathlib.Core.Path.{◌≡◌, refl, sym, ap, ◌∙◌, subst}
use mathlib.Core.Bool.{Bool, true, false, cond, ◌&&◌, not, and-false}
use mathlib.Core.List.{List, []}
use Prim.Native.Nat.{ℕ, suc, ◌+◌, ◌-◌, ◌^◌, ◌≤◌, ◌<◌}
use native.Mathlib.Omega.{arith}
use native.Mathlib.Decide.{ℕ_discrete}
use borrow.Author.Tests.{lt-ltb, ltb-true, eq-eqb, eqb-true, leb-true, leb-false}
use lib.Dec.{eqb, ltb, leb}
use lib.ListN.{length, get_or, set, take, drop, replicate, length-set}
use lib.Seq.{slice, get_or-set_same, get_or-set_other, take-set-le}
use Rattle.call_log.specs.declared.Entry.{Entry}
use Rattle.call_log.specs.declared.What.{What}
use Rattle.call_log.specs.declared.What.TheVariants.{Pushed, Full, BottomNode, BottomNil, TopNode, TopNil, TopLost}
use Rattle.call_log.specs.Numbers.{what, same, bears_moment}
use Rattle.call_log.proofs.NumbersLaws.{same_true}
use Rattle.rules.specs.Search.{any}
use Rattle.rules.specs.Contents.{bears, before, applied}
use Rattle.rules.specs.Rules.{added_before, fresh, lawful, lawful_at, breaks4}
use Rattle.base.proofs.Cases.{ever}
use Rattle.base.proofs.Bools.{contra, and_i, and_0, and_1, not_so, by_both}
use Rattle.rules.proofs.SearchLaws.{Found, any_e, any_i, any_no}
use Rattle.judge.proofs.AmongLaws.{among_front}
use Rattle.judge.proofs.EndLaws.{zeros}
use Rattle.judge.proofs.DequeLaws.{content_push, content_bottom, content_top, content_none, none_bottom, none_top}
use Rattle.rules.proofs.ContentLaws.{before_start}
use Rattle.keys.specs.Inner.Keys.{index_at}
use Rattle.judge.specs.Inner.Order.{instant, Fields, Ordered}
use Rattle.fields.specs.Inner.Ends.{lo_of, hi_of, ends_after}
use Rattle.judge.specs.Inner.Replay.{Differ, new_in, held_in}
use Rattle.judge.proofs.ReplayLaws.{event_of, passed_back, now_is, other_is, own_is}

-- a store past a part
past : (l : List ℕ) (lo hi i v : ℕ) → hi ≤ i → slice lo hi (set l i v) ≡ slice lo hi l
past l lo hi i v h = ap (drop lo) (take-set-le hi l i v h)

-- the ends after a call, by the ends before
pub record Bounds (w : What) (s : ℕ) : Type 0 where
  pub low : lo_of (ends_after w s) ≤ hi_of (ends_after w s)
  pub high : hi_of (ends_after w s) ≤ hi_of s + 1

module _ (l : List ℕ) (s v : ℕ) (low : lo_of s ≤ hi_of s) (room : hi_of s < length l) (small : hi_of s < 65535) where
  abbrev lo : ℕ
  lo = lo_of s

  abbrev hi : ℕ
  hi = hi_of s

  -- the ends are z after the call: from x up to y
  ends_at : (z x y : ℕ) → lo_of z ≡ x → hi_of z ≡ y → held_in (set l hi v) z ≡ slice x y (set l hi v)
  ends_at z x y a b = ap (λ (i : ℕ). slice i (hi_of z) (set l hi v)) a ∙ ap (λ (i : ℕ). slice x i (set l hi v)) b

  pub moved_is : (w : What) → held_in (set l hi v) (ends_after w s) ≡ applied w v (held_in l s)
  moved_is Pushed = ends_at (s + 65536) lo (hi + 1) (omega arith) (omega arith) ∙ content_push l lo hi v (omega arith) room
  moved_is Full = past l lo hi hi v (omega arith)
  moved_is BottomNode = split (leb (hi_of s) (lo_of s)) refl
    where
      split : (t : Bool) → leb (hi_of s) (lo_of s) ≡ t → held_in (set l hi v) (cond t s (s - 65536)) ≡ applied BottomNode v (held_in l s)
      split true e = past l lo hi hi v (omega arith) ∙ none_bottom l lo hi (omega (arith, leb-true (hi_of s) (lo_of s) e))
      split false e =
          let k = leb-false (hi_of s) (lo_of s) e in
          ends_at (s - 65536) lo (hi - 1) (omega arith) (omega arith) ∙ past l lo (hi - 1) hi v (omega arith)
          ∙ content_bottom l lo hi (omega arith) (omega arith)
  moved_is BottomNil = past l lo hi hi v (omega arith)
  moved_is TopNode = split (leb (hi_of s) (lo_of s)) refl
    where
      split : (t : Bool) → leb (hi_of s) (lo_of s) ≡ t → held_in (set l hi v) (cond t s (s + 1)) ≡ applied TopNode v (held_in l s)
      split true e = past l lo hi hi v (omega arith) ∙ none_top l lo hi (omega (arith, leb-true (hi_of s) (lo_of s) e))
      split false e =
          let k = leb-false (hi_of s) (lo_of s) e in
          ends_at (s + 1) (lo + 1) hi (omega arith) (omega arith) ∙ past l (lo + 1) hi hi v (omega arith)
          ∙ content_top l lo hi (omega arith) (omega arith)
  moved_is TopNil = past l lo hi hi v (omega arith)
  moved_is TopLost = past l lo hi hi v (omega arith)

pub bounds : (w : What) (s : ℕ) → lo_of s ≤ hi_of s → hi_of s < 65535 → Bounds w s
bounds Pushed s h g = record { low = omega arith; high = omega arith }
bounds Full s h g = record { low = omega arith; high = omega arith }
bounds BottomNode s h g = split (leb (hi_of s) (lo_of s)) refl
  where
    split : (t : Bool) → leb (hi_of s) (lo_of s) ≡ t → Bounds BottomNode s
    split true e = record { low = rw e h; high = rw e (omega arith) }
    split false e = let k = leb-false (hi_of s) (lo_of s) e in record { low = rw e (omega arith); high = rw e (omega arith) }
bounds BottomNil s h g = record { low = omega arith; high = omega arith }
bounds TopNode s h g = split (leb (hi_of s) (lo_of s)) refl
  where
    split : (t : Bool) → leb (hi_of s) (lo_of s) ≡ t → Bounds TopNode s
    split true e = record { low = rw e h; high = rw e (omega arith) }
    split false e = let k = leb-false (hi_of s) (lo_of s) e in record { low = rw e (omega arith); high = rw e (omega arith) }
bounds TopNil s h g = record { low = omega arith; high = omega arith }
bounds TopLost s h g = record { low = omega arith; high = omega arith }

pub record Row (f : ℕ → Entry) (n : ℕ) (keys : List ℕ) (k : ℕ) (row : List ℕ) (q s : ℕ) : Type 0 where
  pub holds : held_in row s ≡ before f n q (instant keys k)
  pub low : lo_of s ≤ hi_of s
  pub high : hi_of s ≤ k

abbrev pub is_push : (ℕ → Entry) → List ℕ → ℕ → Bool
is_push f keys a = same Pushed (what (f (index_at keys a)))

-- the nodes pushed by the first k calls, which lie in front, where they are watched; else none, and the nodes of all pushes differ
pub record Added (watch : Bool) (f : ℕ → Entry) (n : ℕ) (keys : List ℕ) (k : ℕ) (nodes : List ℕ) (c : ℕ) : Type 0 where
  pub few : c ≤ k
  pub sound : (i : ℕ) → i < c → Found (λ a. is_push f keys a && eqb (f (index_at keys a)).node (get_or nodes i 0)) k
  pub all : watch ≡ true → (a : ℕ) → a < k → is_push f keys a ≡ true → Found (λ i. eqb (get_or nodes i 0) (f (index_at keys a)).node) c
  pub none : watch ≡ false → c ≡ 0
  pub differ : watch ≡ false → Differ f n

pub record Replayed (watch : Bool) (f : ℕ → Entry) (n : ℕ) (keys : List ℕ) (width k : ℕ) (queues : List (List ℕ)) (nodes ends : List ℕ) (c : ℕ) : Type 0
  where
    pub queues_long : length queues ≡ 8
    pub rows_long : (q : ℕ) → q < 8 → length (get_or queues q []) ≡ width
    pub nodes_long : length nodes ≡ width
    pub ends_long : length ends ≡ 8
    pub row : (q : ℕ) → q < 8 → Row f n keys k (get_or queues q []) q (get_or ends q 0)
    pub pushes : Added watch f n keys k nodes c
    pub fine : (a : ℕ) → a < k → breaks4 f n (index_at keys a) ≡ false

pub replay_start : (watch : Bool) (f : ℕ → Entry) (n : ℕ) (keys : List ℕ) (width : ℕ) (queues : List (List ℕ)) (nodes : List ℕ)
    → (watch ≡ false → Differ f n) → length queues ≡ 8 → ((q : ℕ) → q < 8 → length (get_or queues q []) ≡ width) → length nodes ≡ width
    → Replayed watch f n keys width 0 queues nodes (replicate 8 0) 0
replay_start watch f n keys width queues nodes d g r h = record {
  queues_long = g;
  rows_long = r;
  nodes_long = h;
  ends_long = refl;
  row = λ q u. let e = zeros 8 q in record {
    holds = content_none (get_or queues q []) (lo_of (get_or (replicate 8 0) q 0)) (hi_of (get_or (replicate 8 0) q 0)) (omega (arith, e))
        ∙ sym (before_start f n q);
    low = omega (arith, e);
    high = omega (arith, e);
  };
  pushes = record {
    few = omega arith;
    sound = λ i u. absurd (omega arith);
    all = λ w a u t. absurd (omega arith);
    none = λ w. refl;
    differ = d;
  };
  fine = λ a u. absurd (omega arith);
}

pushed_bears : (w : What) → same Pushed w ≡ true → bears_moment w ≡ true
pushed_bears w h = ap bears_moment (sym (same_true Pushed w h))

module _ (f : ℕ → Entry) (n : ℕ) (keys : List ℕ) (count : ℕ) (o : Ordered f n keys count) (k : ℕ) (inside : k < count) where
  abbrev j : ℕ
  j = index_at keys k

  module _ (nodes : List ℕ) (c : ℕ) (s : Added true f n keys k nodes c) where
    -- whether the node was added before
    fresh_watched : any (λ i. eqb (get_or nodes i 0) (f j).node) c ≡ any (λ x. added_before (f j) (f x)) n
    fresh_watched = by_both (any (λ i. eqb (get_or nodes i 0) (f j).node) c) (any (λ x. added_before (f j) (f x)) n)
        (λ h. to (any_e (λ i. eqb (get_or nodes i 0) (f j).node) c h)) (λ h. back (any_e (λ x. added_before (f j) (f x)) n h))
      where
        to : Found (λ i. eqb (get_or nodes i 0) (f j).node) c → any (λ x. added_before (f j) (f x)) n ≡ true
        to z =
            let y = s.sound z.at z.below in
            let a = y.at in
            let x = index_at keys a in
            let p = and_0 (is_push f keys a) (eqb (f x).node (get_or nodes z.at 0)) y.passes in
            let e = eqb-true (f x).node (get_or nodes z.at 0) (and_1 (is_push f keys a) (eqb (f x).node (get_or nodes z.at 0)) y.passes) in
            let g = eqb-true (get_or nodes z.at 0) (f j).node z.passes in
            let u : a < count = omega (arith, y.below) in
            any_i (λ x. added_before (f j) (f x)) n x (o.index a u)
            (and_i (and_i p (eq-eqb (f x).node (f j).node (e ∙ g))) (lt-ltb (f x).moment (f j).moment
            (omega (arith, o.moment a u, o.moment k inside, o.rising a k y.below inside))))

        back : Found (λ x. added_before (f j) (f x)) n → any (λ i. eqb (get_or nodes i 0) (f j).node) c ≡ true
        back z =
            let x = z.at in
            let h = and_0 (same Pushed (what (f x)) && eqb (f x).node (f j).node) (ltb (f x).moment (f j).moment) z.passes in
            let p = and_0 (same Pushed (what (f x))) (eqb (f x).node (f j).node) h in
            let g = eqb-true (f x).node (f j).node (and_1 (same Pushed (what (f x))) (eqb (f x).node (f j).node) h) in
            let m = ltb-true (f x).moment (f j).moment (and_1 (same Pushed (what (f x)) && eqb (f x).node (f j).node)
            (ltb (f x).moment (f j).moment) z.passes) in
            let e = event_of f n keys count o x z.below (pushed_bears (what (f x)) p) in
            let u = passed_back f n keys count o e.at k e.below inside (omega (arith, e.moment, o.moment k inside)) in
            let y = s.all refl e.at u (ap (λ (i : ℕ). same Pushed (what (f i))) e.is ∙ p) in
            any_i (λ i. eqb (get_or nodes i 0) (f j).node) c y.at y.below
            (eq-eqb (get_or nodes y.at 0) (f j).node (eqb-true (get_or nodes y.at 0) (f (index_at keys e.at)).node y.passes
            ∙ ap (λ (i : ℕ). (f i).node) e.is ∙ g))

    -- the next call's node is stored; it counts where it was pushed
    next_watched : (t : Bool) → t ≡ is_push f keys k → c < length nodes
        → Added true f n keys (k + 1) (set nodes c (f j).node) (cond t (c + 1) c)
    next_watched false e small = record {
      few = omega (arith, s.few);
      sound = λ i u.
          let z = s.sound i u in
          let ne : i ≡ c → ⊥ = λ g. omega arith in
          let v : get_or (set nodes c (f j).node) i 0 ≡ get_or nodes i 0 =
          get_or-set_other nodes c i (f j).node 0 ne in
          record { at = z.at; below = omega (arith, z.below); passes = rw v z.passes };
      all = λ w a u t. all a u t (ℕ_discrete a k);
      none = λ w. ever w;
      differ = s.differ;
    }
      where
        all : (a : ℕ) → a < k + 1 → is_push f keys a ≡ true → Dec (a ≡ k)
            → Found (λ i. eqb (get_or (set nodes c (f j).node) i 0) (f (index_at keys a)).node) c
        all a u t (yes g) = contra (is_push f keys a) t (ap (is_push f keys) g ∙ sym e)
        all a u t (no g) =
            let z = s.all refl a (omega arith) t in
            let ne : z.at ≡ c → ⊥ = λ g. omega (arith, z.below) in
            record { at = z.at; below = z.below; passes = rw (get_or-set_other nodes c z.at (f j).node 0 ne) z.passes }
    next_watched true e small = record {
      few = omega (arith, s.few);
      sound = λ i u. sound i u (ℕ_discrete i c);
      all = λ w a u t. all a u t (ℕ_discrete a k);
      none = λ w. ever w;
      differ = s.differ;
    }
      where
        here : get_or (set nodes c (f j).node) c 0 ≡ (f j).node
        here = get_or-set_same nodes c (f j).node 0 small

        sound : (i : ℕ) → i < c + 1 → Dec (i ≡ c) → Found (λ a. is_push f keys a && eqb (f (index_at keys a)).node
            (get_or (set nodes c (f j).node) i 0)) (k + 1)
        sound i u (yes g) = record {
          at = k;
          below = omega arith;
          passes = and_i (sym e) (eq-eqb (f j).node (get_or (set nodes c (f j).node) i 0)
              (sym (ap (λ (x : ℕ). get_or (set nodes c (f j).node) x 0) g ∙ here)));
        }
        sound i u (no g) =
            let z = s.sound i (omega arith) in
            let v : get_or (set nodes c (f j).node) i 0 ≡ get_or nodes i 0 =
            get_or-set_other nodes c i (f j).node 0 (λ d. g (omega arith)) in
            record { at = z.at; below = omega (arith, z.below); passes = rw v z.passes }

        all : (a : ℕ) → a < k + 1 → is_push f keys a ≡ true → Dec (a ≡ k)
            → Found (λ i. eqb (get_or (set nodes c (f j).node) i 0) (f (index_at keys a)).node) (c + 1)
        all a u t (yes g) = record {
          at = c;
          below = omega arith;
          passes = eq-eqb (get_or (set nodes c (f j).node) c 0) (f (index_at keys a)).node
              (here ∙ ap (λ (x : ℕ). (f (index_at keys x)).node) (sym g));
        }
        all a u t (no g) =
            let z = s.all refl a (omega arith) t in
            let ne : z.at ≡ c → ⊥ = λ g. omega (arith, z.below) in
            record {
              at = z.at;
              below = omega (arith, z.below);
              passes = rw (get_or-set_other nodes c z.at (f j).node 0 ne) z.passes;
            }

  -- whether the node of a push was added before, and what the next call adds, watched or not
  pub fresh_is : (watch : Bool) (nodes : List ℕ) (c : ℕ) → Added watch f n keys k nodes c → is_push f keys k ≡ true
      → any (λ i. eqb (get_or nodes i 0) (f j).node) c ≡ any (λ x. added_before (f j) (f x)) n
  fresh_is true nodes c s p = fresh_watched nodes c s
  fresh_is false nodes c s p =
      ap (any (λ i. eqb (get_or nodes i 0) (f j).node)) (s.none refl)
      ∙ sym (any_no (λ x. added_before (f j) (f x)) n (λ x u. not_so (added_before (f j) (f x)) (twice x u)))
    where
      twice : (x : ℕ) → x < n → added_before (f j) (f x) ≡ true → ⊥
      twice x u t =
          let h = and_0 (same Pushed (what (f x)) && eqb (f x).node (f j).node) (ltb (f x).moment (f j).moment) t in
          let e = s.differ refl x j u (o.index k inside) (and_0 (same Pushed (what (f x))) (eqb (f x).node (f j).node) h) p
          (eqb-true (f x).node (f j).node (and_1 (same Pushed (what (f x))) (eqb (f x).node (f j).node) h)) in
          let m = ltb-true (f x).moment (f j).moment (and_1 (same Pushed (what (f x)) && eqb (f x).node (f j).node)
          (ltb (f x).moment (f j).moment) t) in
          omega (arith, m, ap (λ (i : ℕ). (f i).moment) e)

  added_next : (watch : Bool) (nodes : List ℕ) (c : ℕ) → Added watch f n keys k nodes c → (t : Bool) → t ≡ is_push f keys k
      → c < length nodes → Added watch f n keys (k + 1) (set nodes c (f j).node) (cond (t && watch) (c + 1) c)
  added_next true nodes c s true e small = next_watched nodes c s true e small
  added_next true nodes c s false e small = next_watched nodes c s false e small
  added_next false nodes c s t e small =
      let z : cond (t && false) (c + 1) c ≡ 0 = ap (λ (b : Bool). cond b (c + 1) c) (and-false t) ∙ s.none refl in
      subst (Added false f n keys (k + 1) (set nodes c (f j).node)) (sym z) (record {
        few = omega arith;
        sound = λ i u. absurd (omega arith);
        all = λ w. ever (sym w);
        none = λ w. refl;
        differ = s.differ;
      })

  module _ (watch : Bool) (width : ℕ) (queues : List (List ℕ)) (nodes ends : List ℕ) (c : ℕ) (s : Replayed watch f n keys width k queues nodes ends c) (fits : n ≤ width)
      (small : width ≤ 256)
      (fields : Fields f n) where
    abbrev q : ℕ
    q = (f j).queue

    abbrev at : ℕ
    at = get_or ends q 0

    pub queue_low : q < 8
    queue_low = (fields j (o.index k inside)).queue

    abbrev mine_row : List ℕ
    mine_row = get_or queues q []

    abbrev mine : Row f n keys k mine_row q at
    mine = s.row q queue_low

    pub hi_low : hi_of at < width
    hi_low = omega (arith, mine.high, o.few)

    pub added_low : c < width
    added_low = omega (arith, s.pushes.few, o.few)

    pub ok_is : lawful (new_in (take c nodes) (f j).node) (what (f j)) (f j).node (held_in mine_row at) ≡ lawful_at f n (f j)
    ok_is =
        ap (λ (d : List ℕ). lawful (new_in (take c nodes) (f j).node) (what (f j)) (f j).node d)
        (mine.holds ∙ sym (now_is f n keys count o q k inside) ∙ ap (before f n q) (sym (o.moment k inside)))
        ∙ by_push (what (f j)) refl
      where
        d : List ℕ
        d = before f n q (f j).moment

        by_push : (w : What) → what (f j) ≡ w
            → lawful (new_in (take c nodes) (f j).node) w (f j).node d ≡ lawful (fresh f n (f j)) w (f j).node d
        by_push Pushed e = ap not (among_front (f j).node nodes c (omega (arith, added_low, s.nodes_long)) ∙ fresh_is watch nodes c s.pushes (ap (same Pushed) e))
        by_push Full e = refl
        by_push BottomNode e = refl
        by_push BottomNil e = refl
        by_push TopNode e = refl
        by_push TopNil e = refl
        by_push TopLost e = refl

    abbrev row₁ : List ℕ
    row₁ = set mine_row (hi_of at) (f j).node

    abbrev queues₁ : List (List ℕ)
    queues₁ = set queues q row₁

    abbrev ends₁ : List ℕ
    ends₁ = set ends q (ends_after (what (f j)) at)

    step : suc k ≡ k + 1
    step = omega arith

    rows_next : (x : ℕ) → x < 8 → Dec (x ≡ q) → Row f n keys (k + 1) (get_or queues₁ x []) x (get_or ends₁ x 0)
    rows_next x u (yes e) =
        let b = bounds (what (f j)) at mine.low (omega (arith, mine.high, o.few)) in
        let z : get_or ends₁ q 0 ≡ ends_after (what (f j)) at =
        get_or-set_same ends q (ends_after (what (f j)) at) 0 (omega (arith, s.ends_long, queue_low)) in
        let y : get_or queues₁ q [] ≡ row₁ = get_or-set_same queues q row₁ [] (omega (arith, s.queues_long, queue_low)) in
        subst (λ (y : ℕ). Row f n keys (k + 1) (get_or queues₁ y []) y (get_or ends₁ y 0)) (sym e)
        (subst (λ (y : ℕ). Row f n keys (k + 1) (get_or queues₁ q []) q y) (sym z)
        (subst (λ (r : List ℕ). Row f n keys (k + 1) r q (ends_after (what (f j)) at)) (sym y) (record {
          holds =
              moved_is mine_row at (f j).node mine.low (omega (arith, hi_low, s.rows_long q queue_low)) (omega (arith, mine.high, o.few)) (what (f j))
              ∙ ap (λ (d : List ℕ). applied (what (f j)) (f j).node d) mine.holds ∙ sym (own_is f n keys count o k inside)
              ∙ ap (λ (y : ℕ). before f n q (instant keys y)) step;
          low = b.low;
          high = omega (arith, b.high, mine.high);
        })))
    rows_next x u (no e) =
        let r = s.row x u in
        subst (λ (y : ℕ). Row f n keys (k + 1) (get_or queues₁ x []) x y) (sym (get_or-set_other ends q x (ends_after (what (f j)) at) 0 e))
        (subst (λ (l : List ℕ). Row f n keys (k + 1) l x (get_or ends x 0)) (sym (get_or-set_other queues q x row₁ [] e)) (record {
          holds = r.holds ∙ sym (other_is f n keys count o x k inside (λ t. e (sym t))) ∙ ap (λ (y : ℕ). before f n x (instant keys y)) step;
          low = r.low;
          high = omega (arith, r.high);
        }))

    long_next : (x : ℕ) → x < 8 → Dec (x ≡ q) → length (get_or queues₁ x []) ≡ width
    long_next x u (yes e) =
        ap (λ (y : ℕ). length (get_or queues₁ y [])) e ∙ ap length (get_or-set_same queues q row₁ [] (omega (arith, s.queues_long, queue_low)))
        ∙ length-set mine_row (hi_of at) (f j).node ∙ s.rows_long q queue_low
    long_next x u (no e) = ap length (get_or-set_other queues q x row₁ [] e) ∙ s.rows_long x u

    abbrev nodes₁ : List ℕ
    nodes₁ = set nodes c (f j).node

    -- one turn, of a lawful call
    replay_next : lawful_at f n (f j) ≡ true
        → Replayed watch f n keys width (k + 1) queues₁ nodes₁ ends₁ (cond (is_push f keys k && watch) (c + 1) c)
    replay_next ok = record {
      queues_long = simp length-set s.queues_long;
      rows_long = λ x u. long_next x u (ℕ_discrete x q);
      nodes_long = simp length-set s.nodes_long;
      ends_long = simp length-set s.ends_long;
      row = λ x u. rows_next x u (ℕ_discrete x q);
      pushes = added_next watch nodes c s.pushes (is_push f keys k) refl (omega (arith, added_low, s.nodes_long));
      fine = λ a u. fine a u (ℕ_discrete a k);
    }
      where
        fine : (a : ℕ) → a < k + 1 → Dec (a ≡ k) → breaks4 f n (index_at keys a) ≡ false
        fine a u (yes e) = ap (λ (x : ℕ). breaks4 f n (index_at keys x)) e ∙ ap (λ (t : Bool). bears (f j) && not t) ok ∙ and-false (bears (f j))
        fine a u (no e) = s.fine a (omega arith)

    pub wrong_is : lawful_at f n (f j) ≡ false → breaks4 f n j ≡ true
    wrong_is ok = and_i (o.borne k inside) (ap not ok)

    -- the same of an entry e that was read, as the code has it
    pub record Told (e : Entry) : Type 0 where
      pub queue : e.queue < 8
      pub high : hi_of (get_or ends e.queue 0) < width
      pub few : get_or ends e.queue 0 < 2 ^ 25
      pub next : ends_after (what e) (get_or ends e.queue 0) < 2 ^ 32
      pub ok : lawful (new_in (take c nodes) e.node) (what e) e.node (held_in (get_or queues e.queue []) (get_or ends e.queue 0)) ≡ lawful_at f n (f j)
      pub turn : lawful_at f n (f j) ≡ true → Replayed watch f n keys width (k + 1)
          (set queues e.queue (set (get_or queues e.queue []) (hi_of (get_or ends e.queue 0)) e.node)) (set nodes c e.node)
          (set ends e.queue (ends_after (what e) (get_or ends e.queue 0))) (cond (same Pushed (what e) && watch) (c + 1) c)

    pub told : (e : Entry) → e ≡ f j → Told e
    told e e₁ = subst Told (sym e₁)
        (record {
          queue = queue_low;
          high = hi_low;
          few = omega (arith, mine.high, mine.low, o.few);
          next = omega (arith, (bounds (what (f j)) at mine.low (omega (arith, mine.high, o.few))).high, mine.high, o.few);
          ok = ok_is;
          turn = replay_next;
        })
