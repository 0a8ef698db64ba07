-- What the desk's promise says, in document 01's own words.
use mathlib.Core.Path.{◌≡◌, refl, sym, ap, ◌∙◌}
use mathlib.Core.Bool.{Bool, true, false, cond, true≢false}
use mathlib.Core.List.{List}
use Rattle.std.specs.Prelude.{Ok, Err}
use Rattle.std.proofs.lemmas.Bool.{false_from_ne_true}
use Prim.Native.Nat.{ℕ, ◌^◌, ◌≤◌, ◌<◌}
use native.Mathlib.Decide.{dec_lt}
use native.Mathlib.Omega.{arith}
use lib.ListN.{length}
use Rattle.word.specs.Range.{in_range}
use Rattle.word.specs.Inner.InRange.{SizesIn, WordIn, StageIn, InRange}
use Rattle.word.proofs.RangeLaws.{in_range_lem, range_in}
use Rattle.steps.specs.Step.{row_of, loaded_slot, loaded, stored, stepped_on, StepOn, Stepped as Step}
use Rattle.steps.proofs.StepLaws.{sixteen_in}
use Rattle.desk.specs.Refusals.{OfB, OfAge, From, Refuses, width_high, size_low, size_high, slots_not_C, bottom_above, top_above, b_above}
use Rattle.desk.specs.Refusals.{t_above, word_tag, stage_tag, push_b, take_t, pop_b}
use Rattle.desk.specs.Desk.{Answer, number_of, stage_of, result_of, desk_answer, desk_word, desk_slots, AtDesk}
use Rattle.word.specs.declared.Word.{Word}
use Rattle.word.specs.declared.Stage.{Stage}
use Rattle.word.specs.declared.Stage.TheVariants.{Idle, P1, P2, P3, T1, T2, T3, T4, B1, B2, B3, B4, B5, B6, B7}
use Rattle.steps.specs.declared.Next.TheVariants.{Going}

module _ (W C : ℕ) (w : Word) (slots : List ℕ) (s : Stage) where
  -- in range the desk does the table's row
  pub row_done : in_range W C (length slots) w s ≡ true →
      let r = row_of W C w (loaded slots (loaded_slot s)) s in
      (desk_answer W C w slots s ≡ Ok r.next) × (desk_word W C w slots s ≡ r.word) × (desk_slots W C w slots s ≡ stored slots r.store)
  row_done e = rw e (refl, refl, refl)

  -- a refusal gives the stage back as lent, and keeps the word and the slots
  pub refused_keeps : in_range W C (length slots) w s ≡ false →
      (desk_answer W C w slots s ≡ Err s) × (desk_word W C w slots s ≡ w) × (desk_slots W C w slots s ≡ slots)
  refused_keeps e = rw e (refl, refl, refl)

  -- the promise of a step in range, from the one of `step_on`
  pub at_desk : (after : List ℕ) (r : Step) (answer : Answer) → in_range W C (length slots) w s ≡ true → StepOn W C w slots s r after
      → answer ≡ Ok r.next
      → AtDesk W C w slots s answer r.word after
  at_desk after r answer e h d =
      let o = stepped_on W C w slots s in
      let k : r ≡ o = h.stepped ∙ sixteen_in W C (length slots) w (loaded slots (loaded_slot s)) s (in_range_lem W C (length slots) w s e) in
      let a : answer ≡ Ok o.next = d ∙ ap (λ (z : Step). Ok z.next) k in
      record {
        answered = rw e a;
        numbered = rw e (ap number_of a);
        staged = rw e (ap stage_of a);
        resulted = rw e (ap result_of a);
        altered = rw e (ap (λ (z : Step). z.word) k);
        kept = rw e h.kept;
      }

  -- and that of a refusal
  pub at_desk_refused : (answer : Answer) → in_range W C (length slots) w s ≡ false → answer ≡ Err s → AtDesk W C w slots s answer w slots
  at_desk_refused answer e d = record {
    answered = rw e d;
    numbered = rw e (ap number_of d);
    staged = rw e (ap stage_of d);
    resulted = rw e (ap result_of d);
    altered = rw e refl;
    kept = rw e refl;
  }

-- an idle stage is a step that alters nothing
pub idle_keeps : (W C : ℕ) (w : Word) (slots : List ℕ) → in_range W C (length slots) w Idle ≡ true →
    (desk_answer W C w slots Idle ≡ Ok (Going Idle)) × (desk_word W C w slots Idle ≡ w) × (desk_slots W C w slots Idle ≡ slots)
idle_keeps W C w slots e = row_done W C w slots Idle e

-- none of the list is so of a stage in range
record Fine (W C : ℕ) (s : Stage) : Type 0 where
  b_in : OfB (λ b. C < b) s → ⊥
  t_in : OfAge (λ t g. C < t) s → ⊥
  tag_in : OfAge (λ t g. 2 ^ W ≤ g) s → ⊥
  push_in : From (P2 0 0) (P3 0) s → OfB (λ b. b ≡ C) s → ⊥
  take_in_lem : From (T3 0 0 0) (T4 0 0 0 0) s → OfAge (λ t g. t ≡ C) s → ⊥
  pop_in_lem : From (B2 0) (B7 0 0 0 0) s → OfB (λ b. b ≡ 0) s → ⊥

fine : (W C : ℕ) (s : Stage) → StageIn W C s → Fine W C s
fine W C Idle h = omega arith
fine W C (P1 node) h = omega arith
fine W C (P2 node b) h = omega arith
fine W C (P3 b) h = omega arith
fine W C T1 h = omega arith
fine W C (T2 t g) h = omega arith
fine W C (T3 t g b) h = omega arith
fine W C (T4 t g b x) h = omega arith
fine W C B1 h = omega arith
fine W C (B2 b) h = omega arith
fine W C (B3 b) h = omega arith
fine W C (B4 b x) h = omega arith
fine W C (B5 b x t g) h = omega arith
fine W C (B6 b x t g) h = omega arith
fine W C (B7 b x t g) h = omega arith

module _ (W C n : ℕ) (w : Word) (s : Stage) where
  out : Refuses W C n w s → InRange W C n w s → ⊥
  out (width_high h) k = omega (arith, k.sizes.width_high)
  out (size_low h) k = omega (arith, k.sizes.size_low)
  out (size_high h) k = omega (arith, k.sizes.size_high)
  out (slots_not_C h) k = h k.sizes.all
  out (bottom_above h) k = omega (arith, k.word.bottom_in)
  out (top_above h) k = omega (arith, k.word.top_in)
  out (b_above h) k = (fine W C s k.stage).b_in h
  out (t_above h) k = (fine W C s k.stage).t_in h
  out (word_tag h) k = omega (arith, k.word.tag_in)
  out (stage_tag h) k = (fine W C s k.stage).tag_in h
  out (push_b i h) k = (fine W C s k.stage).push_in i h
  out (take_t i h) k = (fine W C s k.stage).take_in_lem i h
  out (pop_b i h) k = (fine W C s k.stage).pop_in_lem i h

  -- what is on the list is out of range
  pub refuses_out : Refuses W C n w s → in_range W C n w s ≡ false
  refuses_out h = false_from_ne_true (in_range W C n w s) (λ e. out h (in_range_lem W C n w s e))

-- two numbers stand one way or the other
module _ {R : Type 0} (a b : ℕ) where
  at_most : (b < a → R) → (a ≤ b → R) → R
  at_most f g = elim (dec_lt b a) [
    | yes p ↦ f p
    | no p ↦ g (omega arith)
  ]

  below : (b ≤ a → R) → (a < b → R) → R
  below f g = elim (dec_lt a b) [
    | yes p ↦ g p
    | no p ↦ f (omega arith)
  ]

  three_ways : (b < a → R) → (a ≡ b → R) → (a < b → R) → R
  three_ways f g h = at_most f (λ p. below (λ q. g (omega arith)) h)

-- what is not on the list is in range
module _ (W C n : ℕ) (w : Word) where
  -- of a top pop past T2
  take_listed : {R : Type 0} (t g b : ℕ) → (C < t → R) → (t ≡ C → R) → (2 ^ W ≤ g → R) → (C < b → R) → ((t < C) × (g < 2 ^ W) × (b ≤ C) → R) → R
  take_listed t g b f f' u v k = three_ways t C f f' (λ h. below g (2 ^ W) u (λ i. at_most b C v (λ j. k (h, i, j))))

  -- of a bottom pop past B1, and of one past B4
  pop_listed : {R : Type 0} (b : ℕ) → (b ≡ 0 → R) → (C < b → R) → ((1 ≤ b) × (b ≤ C) → R) → R
  pop_listed b f v k = at_most 1 b (λ h. f (omega arith)) (λ h. at_most b C v (λ i. k (h, i)))

  owner_listed : {R : Type 0} (b t g : ℕ) → (b ≡ 0 → R) → (C < b → R) → (C < t → R) → (2 ^ W ≤ g → R) →
      ((1 ≤ b) × (b ≤ C) × (t ≤ C) × (g < 2 ^ W) → R) → R
  owner_listed b t g f v f' u k = pop_listed b f v (λ h. at_most t C f' (λ i. below g (2 ^ W) u (λ j. k (h.0, h.1, i, j))))

  stage_listed : (s : Stage) → (StageIn W C s → Refuses W C n w s) → Refuses W C n w s
  stage_listed Idle k = k tt
  stage_listed (P1 node) k = k tt
  stage_listed (P2 node b) k = three_ways b C b_above (push_b (omega arith)) k
  stage_listed (P3 b) k = three_ways b C b_above (push_b (omega arith)) k
  stage_listed T1 k = k tt
  stage_listed (T2 t g) k = at_most t C t_above (λ h. below g (2 ^ W) stage_tag (λ i. k (h, i)))
  stage_listed (T3 t g b) k = take_listed t g b t_above (take_t (omega arith)) stage_tag b_above k
  stage_listed (T4 t g b x) k = take_listed t g b t_above (take_t (omega arith)) stage_tag b_above k
  stage_listed B1 k = k tt
  stage_listed (B2 b) k = pop_listed b (pop_b (omega arith)) b_above k
  stage_listed (B3 b) k = pop_listed b (pop_b (omega arith)) b_above k
  stage_listed (B4 b x) k = pop_listed b (pop_b (omega arith)) b_above k
  stage_listed (B5 b x t g) k = owner_listed b t g (pop_b (omega arith)) b_above t_above stage_tag k
  stage_listed (B6 b x t g) k = owner_listed b t g (pop_b (omega arith)) b_above t_above stage_tag k
  stage_listed (B7 b x t g) k = owner_listed b t g (pop_b (omega arith)) b_above t_above stage_tag k

  sizes_listed : {s : Stage} → (SizesIn W C n → Refuses W C n w s) → Refuses W C n w s
  sizes_listed k =
      at_most W 16 width_high (λ a. at_most 1 C size_low (λ b. at_most C 64 size_high (λ c.
      three_ways n C (λ p. slots_not_C (λ e. omega arith))
      (λ e. k (record { width_high = a; size_low = b; size_high = c; all = e }))
      (λ p. slots_not_C (λ e. omega arith)))))

  word_listed : {s : Stage} → (WordIn W C w → Refuses W C n w s) → Refuses W C n w s
  word_listed k =
      at_most w.bottom C bottom_above (λ a. at_most w.top C top_above (λ b. below w.tag (2 ^ W) word_tag (λ c.
      k (record { bottom_in = a; top_in = b; tag_in = c }))))

  pub out_refuses : (s : Stage) → in_range W C n w s ≡ false → Refuses W C n w s
  out_refuses s e =
      sizes_listed (λ a. word_listed (λ b. stage_listed s (λ c.
      absurd (true≢false (sym (range_in W C n w s (record { sizes = a; word = b; stage = c })) ∙ e)))))

-- so the desk refuses exactly what is on the list
module _ (W C : ℕ) (w : Word) (slots : List ℕ) (s : Stage) (answer : Answer) (word : Word) (after : List ℕ)
    (h : AtDesk W C w slots s answer word after) where
  pub refuses_10 : Refuses W C (length slots) w s → number_of answer ≡ 10
  refuses_10 r = h.numbered ∙ ap (λ (t : Bool). cond t 0 10) (refuses_out W C (length slots) w s r)

  pub 10_refuses : number_of answer ≡ 10 → Refuses W C (length slots) w s
  10_refuses e = out_refuses W C (length slots) w s (false_from_ne_true (in_range W C (length slots) w s) (λ r. not_10 (given_0 r ∙ e)))
    where
      given_0 : in_range W C (length slots) w s ≡ true → 0 ≡ number_of answer
      given_0 r = sym (h.numbered ∙ ap (λ (t : Bool). cond t 0 10) r)

      not_10 : ◌≡◌ {A = ℕ} 0 10 → ⊥
      not_10 q = omega arith

  -- and then nothing is altered, and the stage is given back as lent
  pub refuses_keeps : Refuses W C (length slots) w s → (answer ≡ Err s) × (word ≡ w) × (after ≡ slots)
  refuses_keeps r =
      let k = refused_keeps W C w slots s (refuses_out W C (length slots) w s r) in
      (h.answered ∙ k.0, h.altered ∙ k.1, h.kept ∙ k.2)
