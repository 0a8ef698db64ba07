-- Rule 6: the test that counts is the statement that lists, and by moments the statement is the same.
use mathlib.Core.Path.{◌≡◌, refl, sym, ap, ◌∙◌, subst}
use mathlib.Core.Bool.{Bool, true, false, cond}
use mathlib.Core.Logic.{◌⊎◌, inl, inr}
use mathlib.Core.List.{List, [], ◌∷◌}
use Prim.Native.Nat.{ℕ, zero, suc, ◌+◌, ◌*◌, ◌≤◌, ◌<◌}
use native.Mathlib.Omega.{arith}
use native.Mathlib.Decide.{dec_lt}
use borrow.Author.Tests.{eq-eqb, eqb-true}
use lib.Dec.{eqb}
use lib.ListN.{length}
use Rattle.base.specs.Lists.{In, All, Pairs}
use Rattle.base.proofs.Lists.{all_map, in_all}
use Rattle.base.proofs.Bools.{contra, and_i, and_0, and_1}
use Rattle.call_log.specs.declared.Entry.{Entry}
use Rattle.call_log.specs.declared.What.{What}
use Rattle.call_log.specs.declared.What.TheVariants.{Pushed, Full, BottomNode, BottomNil}
use Rattle.call_log.specs.Numbers.{push, bottom_pop, kind_of, what, same}
use Rattle.call_log.proofs.NumbersLaws.{same_of, same_true}
use Rattle.rules.specs.Contents.{bears}
use Rattle.rules.specs.Rules.{did, since}
use Rattle.rules.specs.Accepted.{Rule1, Rule2, Rule3, Lists, Counts, Rule6, time, SameByMoments}
use Rattle.rules.proofs.FieldLaws.{what_right}

-- an entry's place in the log
abbrev place : ℕ → ℕ
place i = i

-- one list, of a property as of its equal
lists_map : (P Q : ℕ → Type 0) (l : List ℕ) → ((i : ℕ) → P i → Q i) → ((i : ℕ) → Q i → P i) → Lists P l → Lists Q l
lists_map P Q l to back h = record { only = all_map P Q to l h.only; once = h.once; every = λ i q. h.every i (back i q) }

abbrev Falling : List ℕ → Type 0
Falling = Pairs (λ i k. k < i)

-- falling lists of the same numbers are as long
same_length : (l m : List ℕ) → Falling l → Falling m → ((i : ℕ) → In i l → In i m) → ((i : ℕ) → In i m → In i l) → length l ≡ length m
same_length [] [] a b f g = refl
same_length [] (y ∷ m) a b f g = absurd (g y (inl refl))
same_length (x ∷ l) [] a b f g = absurd (f x (inl refl))
same_length (x ∷ l) (y ∷ m) a b f g =
    ap suc (same_length l m a.1 b.1 (λ i u. rest (f i (inr u)) (below l x a.0 i u)) (λ i u. rest' (g i (inr u)) (below m y b.0 i u)))
  where
    below : (l : List ℕ) (x : ℕ) → All (λ k. k < x) l → (i : ℕ) → In i l → i < x
    below l x h i u = in_all (λ k. k < x) l h i u

    same_head : In x (y ∷ m) → In y (x ∷ l) → x ≡ y
    same_head (inl e) v = e
    same_head (inr u) (inl e) = sym e
    same_head (inr u) (inr v) = absurd (omega (arith, below m y b.0 x u, below l x a.0 y v))

    heads : x ≡ y
    heads = same_head (f x (inl refl)) (g y (inl refl))

    rest : {i : ℕ} → In i (y ∷ m) → i < x → In i m
    rest (inl e) lt = absurd (omega (arith, heads))
    rest (inr u) lt = u

    rest' : {i : ℕ} → In i (x ∷ l) → i < y → In i l
    rest' (inl e) lt = absurd (omega (arith, heads))
    rest' (inr u) lt = u

lists_length : (P : ℕ → Type 0) (l m : List ℕ) → Lists P l → Lists P m → length l ≡ length m
lists_length P l m a b =
    same_length l m a.once b.once (λ i u. b.every i (in_all P l a.only i u)) (λ i u. a.every i (in_all P m b.only i u))

module _ (f : ℕ → Entry) (q : ℕ) where
  pub did_true : (w : What) (i : ℕ) → what (f i) ≡ w → (f i).queue ≡ q → did w q (f i) ≡ true
  did_true w i d e = and_i (same_of w (what (f i)) d) (eq-eqb (f i).queue q e)

  true_did : (w : What) (i : ℕ) → did w q (f i) ≡ true → (what (f i) ≡ w) × ((f i).queue ≡ q)
  true_did w i t = (
    sym (same_true w (what (f i)) (and_0 (same w (what (f i))) (eqb (f i).queue q) t)),
    eqb-true (f i).queue q (and_1 (same w (what (f i))) (eqb (f i).queue q) t),
  )

  -- entry i did w, before j and after each NIL bottom pop before j
  record Since (w : What) (j i : ℕ) : Type 0 where
    pub below : i < j
    pub does : did w q (f i) ≡ true
    pub after : (k : ℕ) → k < j → did BottomNil q (f k) ≡ true → k < i

  record Listed (w : What) (j : ℕ) : Type 0 where
    pub list : List ℕ
    pub is : Lists (Since w j) list
    pub long : length list ≡ since w f q j

  module _ (w : What) (j : ℕ) where
    -- past an entry that is no NIL bottom pop
    module _ (e : did BottomNil q (f j) ≡ false) where
      nil_before : (k : ℕ) → k < suc j → did BottomNil q (f k) ≡ true → k < j
      nil_before k u t = split (dec_lt k j)
        where
          split : Dec (k < j) → k < j
          split (yes v) = v
          split (no v) = let d : k ≡ j = omega arith in contra (did BottomNil q (f k)) t (ap (λ (x : ℕ). did BottomNil q (f x)) d ∙ e)

      later : (i : ℕ) → Since w j i → Since w (suc j) i
      later i h = record { below = omega (arith, h.below); does = h.does; after = λ k u t. h.after k (nil_before k u t) t }

      sooner : (i : ℕ) → i < j → Since w (suc j) i → Since w j i
      sooner i u h = record { below = u; does = h.does; after = λ k v t. h.after k (omega arith) t }

      more : did w q (f j) ≡ true → (l : List ℕ) → Lists (Since w j) l → Lists (Since w (suc j)) (j ∷ l)
      more d l h = record {
        only = (record { below = omega arith; does = d; after = nil_before }, all_map (Since w j) (Since w (suc j)) later l h.only);
        once = (all_map (Since w j) (λ k. k < j) (λ i s. s.below) l h.only, h.once);
        every = λ i s. split i s (dec_lt i j);
      }
        where
          split : (i : ℕ) → Since w (suc j) i → Dec (i < j) → In i (j ∷ l)
          split i s (yes u) = inr (h.every i (sooner i u s))
          split i s (no u) = inl (omega (arith, s.below))

      no_more : did w q (f j) ≡ false → (i : ℕ) → Since w (suc j) i → Since w j i
      no_more d i s = sooner i (split (dec_lt i j)) s
        where
          split : Dec (i < j) → i < j
          split (yes u) = u
          split (no u) = let x : i ≡ j = omega (arith, s.below) in contra (did w q (f i)) s.does (ap (λ (y : ℕ). did w q (f y)) x ∙ d)

    none : did BottomNil q (f j) ≡ true → (i : ℕ) → Since w (suc j) i → ⊥
    none e i s = omega (arith, s.below, s.after j (omega arith) e)

    next : Listed w j → Listed w (suc j)
    next h = by (did BottomNil q (f j)) refl (did w q (f j)) refl
      where
        by : (a : Bool) → did BottomNil q (f j) ≡ a → (b : Bool) → did w q (f j) ≡ b → Listed w (suc j)
        by true e b d = record { list = []; is = record { only = tt; once = tt; every = λ i s. absurd (none e i s) }; long = rw e }
        by false e true d = record { list = j ∷ h.list; is = more e d h.list h.is; long = rw (e, d) (omega (arith, h.long)) }
        by false e false d = record {
          list = h.list;
          is = lists_map (Since w j) (Since w (suc j)) h.list (later e) (no_more e d) h.is;
          long = rw (e, d) h.long;
        }

  listed : (w : What) (j : ℕ) → Listed w j
  listed w zero = record { list = []; is = record { only = tt; once = tt; every = λ i s. absurd (omega (arith, s.below)) }; long = refl }
  listed w (suc j) = next w j (listed w j)

module _ (f : ℕ → Entry) (n C j : ℕ) (below : j < n) where
  abbrev q : ℕ
  q = (f j).queue

  to_counts : (w : What) (i : ℕ) → Since f q w j i → Counts f n place w j i
  to_counts w i s =
      let d = true_did f q w i s.does in
      record {
        below = omega (arith, s.below);
        did = d.0;
        queue = d.1;
        before = s.below;
        after = λ k u a b v. s.after k v (did_true f q BottomNil k a b);
      }

  from_counts : (w : What) (i : ℕ) → Counts f n place w j i → Since f q w j i
  from_counts w i c = record {
    below = c.before;
    does = did_true f q w i c.did c.queue;
    after = λ k u t. let d = true_did f q BottomNil k t in c.after k (omega arith) d.0 d.1 u;
  }

  as_counted : (w : What) (l : List ℕ) → Lists (Counts f n place w j) l → length l ≡ since w f q j
  as_counted w l h =
      let g = listed f q w j in
      lists_length (Since f q w j) l g.list (lists_map (Counts f n place w j) (Since f q w j) l (from_counts w) (to_counts w) h) g.is ∙ g.long

  counted : (w : What) → Lists (Counts f n place w j) (listed f q w j).list
  counted w = lists_map (Since f q w j) (Counts f n place w j) (listed f q w j).list (to_counts w) (from_counts w) (listed f q w j).is

  pub rule6_from : Rule6 f n place C j → C + since BottomNode f q j ≤ since Pushed f q j
  rule6_from r = omega (arith, r.enough, as_counted Pushed r.pushes r.pushes_are, as_counted BottomNode r.pops r.pops_are)

  pub rule6_to : C + since BottomNode f q j ≤ since Pushed f q j → Rule6 f n place C j
  rule6_to h = record {
    pushes = (listed f q Pushed j).list;
    pops = (listed f q BottomNode j).list;
    pushes_are = counted Pushed;
    pops_are = counted BottomNode;
    enough = omega (arith, h, (listed f q Pushed j).long, (listed f q BottomNode j).long);
  }

-- a call of the queue's owner
abbrev OwnKind : What → Type 0
OwnKind w = (kind_of w ≡ push) ⊎ (kind_of w ≡ bottom_pop)

-- By moments: the owner's calls stand in the same order.
module _ (f : ℕ → Entry) (n P : ℕ) (rule1 : (j : ℕ) → j < n → Rule1 P (f j)) (rule2 : (i j : ℕ) → i < j → j < n → Rule2 (f i) (f j))
    (rule3 : (j : ℕ) → j < n → Rule3 (f j)) where
  abbrev when : ℕ → ℕ
  when i = time (f i)

  -- a call's time lies within it
  within : (i : ℕ) → i < n → (2 * (f i).start ≤ when i) × (when i ≤ 2 * (f i).end + 1)
  within i u = by (bears (f i)) refl
    where
      by : (b : Bool) → bears (f i) ≡ b
          → (2 * (f i).start ≤ cond b (f i).moment (2 * (f i).start)) × (cond b (f i).moment (2 * (f i).start) ≤ 2 * (f i).end + 1)
      by true b = ((rule3 i u).from b, (rule3 i u).to b)
      by false b = (omega arith, omega (arith, (rule1 i u).start))

  abbrev Own : ℕ → Type 0
  Own i = OwnKind (what (f i))

  owner : (i : ℕ) → i < n → Own i → (f i).process ≡ (f i).queue
  owner i u (inl k) = (rule1 i u).own (inl (sym (what_right P (f i) (rule1 i u)).0 ∙ k))
  owner i u (inr k) = (rule1 i u).own (inr (sym (what_right P (f i) (rule1 i u)).0 ∙ k))

  rising : (i k : ℕ) → i < k → k < n → Own i → Own k → (f i).queue ≡ (f k).queue → when i < when k
  rising i k u v a b e =
      let d = (rule2 i k u v).starts_after (owner i (omega arith) a ∙ e ∙ sym (owner k v b)) in
      omega (arith, (within i (omega arith)).1, (within k v).0)

  in_order : (i k : ℕ) → i < n → k < n → Own i → Own k → (f i).queue ≡ (f k).queue → when i < when k → i < k
  in_order i k u v a b e t = split (dec_lt i k) (dec_lt k i)
    where
      split : Dec (i < k) → Dec (k < i) → i < k
      split (yes x) y = x
      split (no x) (yes y) = absurd (omega (arith, rising k i y u b a (sym e)))
      split (no x) (no y) = let z : i ≡ k = omega arith in absurd (omega (arith, ap when z))

  module _ (j : ℕ) (below : j < n) (full : what (f j) ≡ Full) (w : What) (own : OwnKind w) where
    own_j : Own j
    own_j = inl (ap kind_of full)

    own_nil : (k : ℕ) → what (f k) ≡ BottomNil → Own k
    own_nil k d = inr (ap kind_of d)

    own_w : (i : ℕ) → what (f i) ≡ w → Own i
    own_w i d = subst OwnKind (sym d) own

    by_moment : (i : ℕ) → Counts f n place w j i → Counts f n when w j i
    by_moment i c = record {
      below = c.below;
      did = c.did;
      queue = c.queue;
      before = rising i j c.before below (own_w i c.did) own_j c.queue;
      after = λ k u d e t. rising k i (c.after k u d e (in_order k j u below (own_nil k d) own_j e t)) c.below (own_nil k d) (own_w i c.did)
          (e ∙ sym c.queue);
    }

    by_place : (i : ℕ) → Counts f n when w j i → Counts f n place w j i
    by_place i c = record {
      below = c.below;
      did = c.did;
      queue = c.queue;
      before = in_order i j c.below below (own_w i c.did) own_j c.queue c.before;
      after = λ k u d e t. in_order k i u c.below (own_nil k d) (own_w i c.did) (e ∙ sym c.queue)
          (c.after k u d e (rising k j t below (own_nil k d) own_j e));
    }

-- where the same calls count, the same lists do
rule6_map : (f : ℕ → Entry) (n C j : ℕ) (a b : ℕ → ℕ) → ((w : What) → OwnKind w → (i : ℕ) → Counts f n a w j i → Counts f n b w j i)
    → ((w : What) → OwnKind w → (i : ℕ) → Counts f n b w j i → Counts f n a w j i) → Rule6 f n a C j → Rule6 f n b C j
rule6_map f n C j a b to back r = record {
  pushes = r.pushes;
  pops = r.pops;
  pushes_are = lists_map _ _ r.pushes (to Pushed (inl refl)) (back Pushed (inl refl)) r.pushes_are;
  pops_are = lists_map _ _ r.pops (to BottomNode (inr refl)) (back BottomNode (inr refl)) r.pops_are;
  enough = r.enough;
}

pub same_by_moments : SameByMoments
same_by_moments f n P C rule1 rule2 rule3 j below full =
    let to = by_moment f n P rule1 rule2 rule3 j below full in
    let back = by_place f n P rule1 rule2 rule3 j below full in
    (rule6_map f n C j place (λ i. time (f i)) to back, rule6_map f n C j (λ i. time (f i)) place back to)
