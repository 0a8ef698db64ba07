-- What is true of every row of the table.
use Rattle.std.proofs.Common.{◌≡◌, ℕ, zero, suc, ◌-◌, ◌≤◌, ◌<◌, Option, Some, None, IfSome, false, eqb, ltb, leb, List, length, length-set, refl, ap, subst, mod-eq_of_lt, arith, pow_mono, leb-false}
use borrow.Author.Tests.{eqb-false}
use Rattle.word.proofs.TagLaws.{next_below}
use Rattle.word.specs.Inner.InRange.{WordIn, StageIn, InRange}
use Rattle.base.proofs.Cases.{either_way}
use Rattle.word.specs.Inner.StepsLeft.{steps_left}
use Rattle.steps.specs.Step.{leaves, resets, same_age, row_of, loaded_slot, stored, stage_after, in_sixteen, Stepped}
use Rattle.word.specs.declared.Word.{Word}
use Rattle.word.specs.declared.Stage.{Stage}
use Rattle.word.specs.declared.Stage.TheVariants.{Idle, P1, P2, P3, T1, T2, T3, T4, B1, B2, B3, B4, B5, B6, B7}
use Rattle.steps.specs.declared.Store.{Store}
use Rattle.steps.specs.declared.Next.TheVariants.{Nil, Lost}

abbrev Lower : ℕ → Stepped → Type 0
Lower n r = steps_left (stage_after r.next) ≤ n

-- an own step lowers what is left, whatever the word and the slot hold
pub lowers : (W C : ℕ) (w : Word) (v : ℕ) (s : Stage) → steps_left (stage_after (row_of W C w v s).next) ≤ steps_left s - 1
lowers W C w v Idle = omega arith
lowers W C w v (P1 node) = either_way (Lower 2) (eqb w.bottom C) (λ e. omega arith) (λ e. omega arith)
lowers W C w v (P2 node b) = omega arith
lowers W C w v (P3 b) = omega arith
lowers W C w v T1 = omega arith
lowers W C w v (T2 t g) = either_way (Lower 2) (leb w.bottom t) (λ e. omega arith) (λ e. omega arith)
lowers W C w v (T3 t g b) = omega arith
lowers W C w v (T4 t g b x) = either_way (Lower 0) (same_age w t g) (λ e. omega arith) (λ e. omega arith)
lowers W C w v B1 = either_way (Lower 6) (eqb w.bottom 0) (λ e. omega arith) (λ e. omega arith)
lowers W C w v (B2 b) = omega arith
lowers W C w v (B3 b) = omega arith
lowers W C w v (B4 b x) = either_way (Lower 3) (ltb w.top (b - 1)) (λ e. omega arith) (λ e. omega arith)
lowers W C w v (B5 b x t g) = either_way (λ (s : Stage). steps_left s ≤ 2) (eqb (b - 1) t) (λ e. omega arith) (λ e. omega arith)
lowers W C w v (B6 b x t g) = either_way (Lower 1) (same_age w t g) (λ e. omega arith) (λ e. omega arith)
lowers W C w v (B7 b x t g) = omega arith

-- the stage after k own steps, where others may make anything of the word and the slot before each of them
abbrev pub own_steps : ℕ → ℕ → (ℕ → Word) → (ℕ → ℕ) → ℕ → Stage → Stage
own_steps W C words slots zero s = s
own_steps W C words slots (suc k) s = own_steps W C words slots k (stage_after (row_of W C (words k) (slots k) s).next)

none_left : (s : Stage) → steps_left s ≤ 0 → s ≡ Idle
none_left Idle h = refl
none_left (P1 node) h = absurd (omega arith)
none_left (P2 node b) h = absurd (omega arith)
none_left (P3 b) h = absurd (omega arith)
none_left T1 h = absurd (omega arith)
none_left (T2 t g) h = absurd (omega arith)
none_left (T3 t g b) h = absurd (omega arith)
none_left (T4 t g b x) h = absurd (omega arith)
none_left B1 h = absurd (omega arith)
none_left (B2 b) h = absurd (omega arith)
none_left (B3 b) h = absurd (omega arith)
none_left (B4 b x) h = absurd (omega arith)
none_left (B5 b x t g) h = absurd (omega arith)
none_left (B6 b x t g) h = absurd (omega arith)
none_left (B7 b x t g) h = absurd (omega arith)

-- so a call has returned after 3, 4 or 7 own steps
pub returned : (W C : ℕ) (words : ℕ → Word) (slots : ℕ → ℕ) (k : ℕ) (s : Stage) → steps_left s ≤ k → own_steps W C words slots k s ≡ Idle
returned W C words slots zero s h = none_left s h
returned W C words slots (suc k) s h =
    returned W C words slots k (stage_after (row_of W C (words k) (slots k) s).next) (omega (arith, lowers W C (words k) (slots k) s))

-- a step that is in range leaves a word and a next stage that are in range; other stages have their ranges still, since these do not
-- speak of the word
pub record StaysIn (W C : ℕ) (r : Stepped) : Type 0 where
  pub word : WordIn W C r.word
  pub stage : StageIn W C (stage_after r.next)

pub stays_in : (W C : ℕ) (w : Word) (v : ℕ) (s : Stage) → WordIn W C w → StageIn W C s → StaysIn W C (row_of W C w v s)
stays_in W C w v Idle h k = record { word = h; stage = k }
stays_in W C w v (P1 node) h k =
    either_way (StaysIn W C) (eqb w.bottom C)
    (λ e. record { word = h; stage = tt })
    (λ e. record { word = h; stage = omega (arith, eqb-false w.bottom C e) })
stays_in W C w v (P2 node b) h k = record { word = h; stage = k }
stays_in W C w v (P3 b) h k = record { word = record { bottom_in = omega arith; top_in = h.top_in; tag_in = h.tag_in }; stage = tt }
stays_in W C w v T1 h k = record { word = h; stage = (h.top_in, h.tag_in) }
stays_in W C w v (T2 t g) h k =
    either_way (StaysIn W C) (leb w.bottom t)
    (λ e. record { word = h; stage = tt })
    (λ e. record { word = h; stage = (omega (arith, leb-false w.bottom t e), k.1, h.bottom_in) })
stays_in W C w v (T3 t g b) h k = record { word = h; stage = k }
stays_in W C w v (T4 t g b x) h k =
    either_way (StaysIn W C) (same_age w t g)
    (λ e. record { word = record { bottom_in = h.bottom_in; top_in = omega arith; tag_in = k.1 }; stage = tt })
    (λ e. record { word = h; stage = tt })
stays_in W C w v B1 h k =
    either_way (StaysIn W C) (eqb w.bottom 0)
    (λ e. record { word = h; stage = tt })
    (λ e. record { word = h; stage = (omega (arith, eqb-false w.bottom 0 e), h.bottom_in) })
stays_in W C w v (B2 b) h k = record { word = record { bottom_in = omega arith; top_in = h.top_in; tag_in = h.tag_in }; stage = k }
stays_in W C w v (B3 b) h k = record { word = h; stage = k }
stays_in W C w v (B4 b x) h k =
    either_way (StaysIn W C) (ltb w.top (b - 1))
    (λ e. record { word = h; stage = tt })
    (λ e. record { word = h; stage = (k.0, k.1, h.top_in, h.tag_in) })
stays_in W C w v (B5 b x t g) h k = record {
  word = record { bottom_in = omega arith; top_in = h.top_in; tag_in = h.tag_in };
  stage = either_way (StageIn W C) (eqb (b - 1) t) (λ e. k) (λ e. k);
}
stays_in W C w v (B6 b x t g) h k =
    either_way (StaysIn W C) (same_age w t g)
    (λ e. record { word = record { bottom_in = h.bottom_in; top_in = omega arith; tag_in = next_below W g }; stage = tt })
    (λ e. record { word = h; stage = k })
stays_in W C w v (B7 b x t g) h k =
    record { word = record { bottom_in = h.bottom_in; top_in = omega arith; tag_in = next_below W g }; stage = tt }

-- and its numbers are of 16 bits: the code, which answers for every word and stage, answers with the row itself
pub sixteen_in : (W C n : ℕ) (w : Word) (v : ℕ) (s : Stage) → InRange W C n w s → in_sixteen (row_of W C w v s) ≡ row_of W C w v s
sixteen_in W C n w v s h =
    let o = row_of W C w v s in
    let k = (stays_in W C w v s h.word h.stage).word in
    let m = h.sizes in
    λ i. record {
      word = record {
        bottom = mod-eq_of_lt {n = o.word.bottom} {m = 65536} (omega (arith, k.bottom_in, m.size_high)) i;
        top = mod-eq_of_lt {n = o.word.top} {m = 65536} (omega (arith, k.top_in, m.size_high)) i;
        tag = mod-eq_of_lt {n = o.word.tag} {m = 65536} (omega (arith, k.tag_in, pow_mono {i = W} {j = 16} m.width_high)) i;
      };
      store = o.store;
      reset = o.reset;
      next = o.next;
    }

-- no slot at or above C is touched by a stage in range: neither the one that it loads nor the one that it stores
pub loads_below : (W C : ℕ) (s : Stage) → StageIn W C s → IfSome (loaded_slot s) (λ at. at < C)
loads_below W C Idle h = tt
loads_below W C (P1 node) h = tt
loads_below W C (P2 node b) h = tt
loads_below W C (P3 b) h = tt
loads_below W C T1 h = tt
loads_below W C (T2 t g) h = tt
loads_below W C (T3 t g b) h = h.0
loads_below W C (T4 t g b x) h = tt
loads_below W C B1 h = tt
loads_below W C (B2 b) h = tt
loads_below W C (B3 b) h = omega arith
loads_below W C (B4 b x) h = tt
loads_below W C (B5 b x t g) h = tt
loads_below W C (B6 b x t g) h = tt
loads_below W C (B7 b x t g) h = tt

abbrev StoreIn : ℕ → Stepped → Type 0
StoreIn C r = IfSome r.store (λ made. made.at < C)

pub stores_below : (W C : ℕ) (w : Word) (v : ℕ) (s : Stage) → StageIn W C s → IfSome (row_of W C w v s).store (λ made. made.at < C)
stores_below W C w v Idle h = tt
stores_below W C w v (P1 node) h = either_way (StoreIn C) (eqb w.bottom C) (λ e. tt) (λ e. tt)
stores_below W C w v (P2 node b) h = h
stores_below W C w v (P3 b) h = tt
stores_below W C w v T1 h = tt
stores_below W C w v (T2 t g) h = either_way (StoreIn C) (leb w.bottom t) (λ e. tt) (λ e. tt)
stores_below W C w v (T3 t g b) h = tt
stores_below W C w v (T4 t g b x) h = either_way (StoreIn C) (same_age w t g) (λ e. tt) (λ e. tt)
stores_below W C w v B1 h = either_way (StoreIn C) (eqb w.bottom 0) (λ e. tt) (λ e. tt)
stores_below W C w v (B2 b) h = tt
stores_below W C w v (B3 b) h = tt
stores_below W C w v (B4 b x) h = either_way (StoreIn C) (ltb w.top (b - 1)) (λ e. tt) (λ e. tt)
stores_below W C w v (B5 b x t g) h = tt
stores_below W C w v (B6 b x t g) h = either_way (StoreIn C) (same_age w t g) (λ e. tt) (λ e. tt)
stores_below W C w v (B7 b x t g) h = tt

-- a store leaves as many slots
pub stored_length : (slots : List ℕ) (made : Option Store) → length (stored slots made) ≡ length slots
stored_length slots None = refl
stored_length slots (Some made) = length-set slots made.at made.node

-- a comparison that fails alters nothing
pub failed_T4 : (W C : ℕ) (w : Word) (v t g b x : ℕ) → same_age w t g ≡ false → row_of W C w v (T4 t g b x) ≡ leaves w Lost
failed_T4 W C w v t g b x e = rw e

-- the age that B4's load gave, as long as a bottom pop carries it
abbrev pub Carries : ℕ → ℕ → Stage → Type 0
Carries t' g' Idle = Unit {0}
Carries t' g' (P1 node) = ⊥
Carries t' g' (P2 node b) = ⊥
Carries t' g' (P3 b) = ⊥
Carries t' g' T1 = ⊥
Carries t' g' (T2 t g) = ⊥
Carries t' g' (T3 t g b) = ⊥
Carries t' g' (T4 t g b x) = ⊥
Carries t' g' B1 = ⊥
Carries t' g' (B2 b) = ⊥
Carries t' g' (B3 b) = ⊥
Carries t' g' (B4 b x) = ⊥
Carries t' g' (B5 b x t g) = (t ≡ t') × (g ≡ g')
Carries t' g' (B6 b x t g) = (t ≡ t') × (g ≡ g')
Carries t' g' (B7 b x t g) = (t ≡ t') × (g ≡ g')

-- from B4 on, whatever others make of the word, the stages carry what B4's load gave
pub carries_on : (W C : ℕ) (w : Word) (v t' g' : ℕ) (s : Stage) → Carries t' g' s → Carries t' g' (stage_after (row_of W C w v s).next)
carries_on W C w v t' g' Idle h = h
carries_on W C w v t' g' (P1 node) h = absurd h
carries_on W C w v t' g' (P2 node b) h = absurd h
carries_on W C w v t' g' (P3 b) h = absurd h
carries_on W C w v t' g' T1 h = absurd h
carries_on W C w v t' g' (T2 t g) h = absurd h
carries_on W C w v t' g' (T3 t g b) h = absurd h
carries_on W C w v t' g' (T4 t g b x) h = absurd h
carries_on W C w v t' g' B1 h = absurd h
carries_on W C w v t' g' (B2 b) h = absurd h
carries_on W C w v t' g' (B3 b) h = absurd h
carries_on W C w v t' g' (B4 b x) h = absurd h
carries_on W C w v t' g' (B5 b x t g) h = either_way (Carries t' g') (eqb (b - 1) t) (λ e. h) (λ e. h)
carries_on W C w v t' g' (B6 b x t g) h =
    either_way (λ (r : Stepped). Carries t' g' (stage_after r.next)) (same_age w t g) (λ e. tt) (λ e. h)
carries_on W C w v t' g' (B7 b x t g) h = tt

pub B4_loads : (W C : ℕ) (w : Word) (v b x : ℕ) → Carries w.top w.tag (stage_after (row_of W C w v (B4 b x)).next)
B4_loads W C w v b x =
    either_way (λ (r : Stepped). Carries w.top w.tag (stage_after r.next)) (ltb w.top (b - 1)) (λ e. tt) (λ e. (refl, refl))

-- the same after any number of own steps
pub carries_all : (W C : ℕ) (words : ℕ → Word) (slots : ℕ → ℕ) (t' g' k : ℕ) (s : Stage) → Carries t' g' s
    → Carries t' g' (own_steps W C words slots k s)
carries_all W C words slots t' g' zero s h = h
carries_all W C words slots t' g' (suc k) s h =
    carries_all W C words slots t' g' k (stage_after (row_of W C (words k) (slots k) s).next) (carries_on W C (words k) (slots k) t' g' s h)

-- so B7 stores what B4's load gave: w is the word that B4 loads, w' the one that B7 finds, k own steps later
pub B7_stores : (W C : ℕ) (w w' : Word) (v v' b x : ℕ) (words : ℕ → Word) (slots : ℕ → ℕ) (k b' x' t g : ℕ) →
    own_steps W C words slots k (stage_after (row_of W C w v (B4 b x)).next) ≡ B7 b' x' t g →
    row_of W C w' v' (B7 b' x' t g) ≡ resets W w' w.tag Nil
B7_stores W C w w' v v' b x words slots k b' x' t g e =
    let h : Carries w.top w.tag (B7 b' x' t g) =
    subst (Carries w.top w.tag) e
    (carries_all W C words slots w.top w.tag k (stage_after (row_of W C w v (B4 b x)).next) (B4_loads W C w v b x)) in
    ap (λ (j : ℕ). resets W w' j Nil) h.1
