-- Rule 6 by the counts of each queue, gone through the log.
use mathlib.Core.Path.{◌≡◌, refl, sym, ap, ◌∙◌, subst}
use mathlib.Core.Bool.{Bool, true, false, cond, ◌&&◌, and-true, and-false}
use mathlib.Core.List.{List}
use Prim.Native.Nat.{ℕ, zero, suc, ◌+◌, ◌/◌, ◌%◌, ◌^◌, ◌≤◌, ◌<◌}
use native.Mathlib.Omega.{arith}
use native.Mathlib.Numerals.{add-one}
use native.Mathlib.Decide.{ℕ_discrete}
use borrow.Author.Tests.{eq-eqb, ne_eqb}
use lib.Dec.{ltb}
use lib.ListN.{length, get_or, set, replicate, length-set}
use lib.Seq.{get_or-set_same, get_or-set_other}
use Rattle.call_log.specs.declared.Entry.{Entry}
use Rattle.call_log.specs.declared.What.{What}
use Rattle.call_log.specs.declared.What.TheVariants.{Pushed, Full, BottomNode, BottomNil, TopNode, TopNil, TopLost}
use Rattle.call_log.specs.Numbers.{what, same}
use Rattle.rules.specs.Search.{first, any}
use Rattle.rules.specs.Rules.{did, since, breaks6}
use Rattle.rules.proofs.SearchLaws.{first_none, any_none}
use Rattle.judge.proofs.EndLaws.{zeros}
use Rattle.judge.specs.Inner.Order.{Fields, is_full}
use Rattle.judge.specs.Inner.Full.{counts_after}

-- where no entry is a FULL, none breaks rule 6
pub none_unfilled : (f : ℕ → Entry) (n C : ℕ) → any (is_full f) n ≡ false → n ≡ first (breaks6 f C) 0 n
none_unfilled f n C h =
    let unbroken : (j : ℕ) → 0 ≤ j → j < 0 + n → breaks6 f C j ≡ false =
    λ j l u. rw (any_none (is_full f) n h j (omega (arith, u))) in
    omega (arith, first_none (breaks6 f C) 0 n unbroken)

-- how many calls count on each queue before entry j
pub record Counted (f : ℕ → Entry) (j : ℕ) (counts : List ℕ) : Type 0 where
  pub long : length counts ≡ 8
  pub pushes : (q : ℕ) → q < 8 → get_or counts q 0 / 65536 ≡ since Pushed f q j
  pub pops : (q : ℕ) → q < 8 → get_or counts q 0 % 65536 ≡ since BottomNode f q j

pub counted_start : (f : ℕ → Entry) → Counted f 0 (replicate 8 0)
counted_start f = record {
  long = refl;
  pushes = λ q u. ap (λ (x : ℕ). x / 65536) (zeros 8 q);
  pops = λ q u. ap (λ (x : ℕ). x % 65536) (zeros 8 q);
}

pushes_after : (w : What) (s : ℕ) → s % 65536 < 65535
    → counts_after w s / 65536 ≡ cond (same BottomNil w) 0 (cond (same Pushed w) (s / 65536 + 1) (s / 65536))
pushes_after Pushed s h = omega arith
pushes_after Full s h = refl
pushes_after BottomNode s h = omega arith
pushes_after BottomNil s h = refl
pushes_after TopNode s h = refl
pushes_after TopNil s h = refl
pushes_after TopLost s h = refl

pops_after : (w : What) (s : ℕ) → s % 65536 < 65535
    → counts_after w s % 65536 ≡ cond (same BottomNil w) 0 (cond (same BottomNode w) (s % 65536 + 1) (s % 65536))
pops_after Pushed s h = omega arith
pops_after Full s h = refl
pops_after BottomNode s h = omega arith
pops_after BottomNil s h = refl
pops_after TopNode s h = refl
pops_after TopNil s h = refl
pops_after TopLost s h = refl

since_le : (w : What) (f : ℕ → Entry) (q j : ℕ) → since w f q j ≤ j
since_le w f q zero = omega arith
since_le w f q (suc j) = step (did BottomNil q (f j)) (did w q (f j)) (since_le w f q j)
  where
    step : (s t : Bool) → since w f q j ≤ j → cond s 0 (cond t (since w f q j + 1) (since w f q j)) ≤ suc j
    step true t h = omega arith
    step false true h = omega arith
    step false false h = omega arith

module _ (f : ℕ → Entry) (n : ℕ) (small : n ≤ 256) (r : Fields f n) (j : ℕ) (below : j < n) (counts : List ℕ) (c : Counted f j counts) where
  abbrev q : ℕ
  q = (f j).queue

  abbrev there : ℕ
  there = get_or counts q 0

  queue_low : q < 8
  queue_low = (r j below).queue

  pops_few : there % 65536 ≤ 256
  pops_few = omega (arith, c.pops q queue_low, since_le BottomNode f q j)

  pushes_few : there / 65536 ≤ 256
  pushes_few = omega (arith, c.pushes q queue_low, since_le Pushed f q j)

  -- of the call's own queue, and of another
  own : (w : What) → did w q (f j) ≡ same w (what (f j))
  own w = rw (eq-eqb q q refl, and-true (same w (what (f j))))

  other : (w : What) (x : ℕ) → (q ≡ x → ⊥) → did w x (f j) ≡ false
  other w x d = rw (ne_eqb q x d, and-false (same w (what (f j))))

  abbrev counts₁ : List ℕ
  counts₁ = set counts q (counts_after (what (f j)) there)

  here : get_or counts₁ q 0 ≡ counts_after (what (f j)) there
  here = get_or-set_same counts q (counts_after (what (f j)) there) 0 (omega (arith, c.long, queue_low))

  elsewhere : (x : ℕ) → (x ≡ q → ⊥) → get_or counts₁ x 0 ≡ get_or counts x 0
  elsewhere x d = get_or-set_other counts q x (counts_after (what (f j)) there) 0 d

  -- one more call, counted by g, which are those that did w
  module _ (w : What) (g : ℕ → ℕ) (is : (x : ℕ) → x < 8 → g (get_or counts x 0) ≡ since w f x j)
      (after : g (counts_after (what (f j)) there) ≡ cond (same BottomNil (what (f j))) 0 (cond (same w (what (f j))) (g there + 1) (g there))) where
    next : (x : ℕ) → x < 8 → Dec (x ≡ q) → g (get_or counts₁ x 0) ≡ since w f x (j + 1)
    next x u (yes d) = ap (λ (y : ℕ). g (get_or counts₁ y 0)) d ∙ ap g here ∙ after ∙ rw (is q queue_low, d, add-one j, own BottomNil, own w)
    next x u (no d) = ap g (elsewhere x d) ∙ is x u ∙ rw (add-one j, other BottomNil x (λ h. d (sym h)), other w x (λ h. d (sym h)))

  counted_next : Counted f (j + 1) counts₁
  counted_next = record {
    long = simp length-set c.long;
    pushes = λ x u. next Pushed (λ s. s / 65536) c.pushes (pushes_after (what (f j)) there (omega (arith, pops_few))) x u (ℕ_discrete x q);
    pops = λ x u. next BottomNode (λ s. s % 65536) c.pops (pops_after (what (f j)) there (omega (arith, pops_few))) x u (ℕ_discrete x q);
  }

  -- the same of an entry e that was read, as the code has it
  pub record Told (C : ℕ) (e : Entry) : Type 0 where
    pub queue : e.queue < 8
    pub low : get_or counts e.queue 0 < 2 ^ 25
    pub few : get_or counts e.queue 0 % 65536 ≤ 256
    pub breaks : {full : Bool} → full ≡ same Full (what e)
        → (full && ltb (get_or counts e.queue 0 / 65536) (C + get_or counts e.queue 0 % 65536)) ≡ breaks6 f C j
    pub turn : Counted f (j + 1) (set counts e.queue (counts_after (what e) (get_or counts e.queue 0)))

  pub told : (C : ℕ) (e : Entry) → e ≡ f j → Told C e
  told C e g = subst (Told C) (sym g) (record {
    queue = queue_low;
    low = omega (arith, pops_few, pushes_few);
    few = pops_few;
    breaks = λ is. rw (is, c.pushes q queue_low, c.pops q queue_low);
    turn = counted_next;
  })
