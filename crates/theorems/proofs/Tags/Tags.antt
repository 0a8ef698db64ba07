-- The tag of a queue is its resets mod 2^W, in every state of every run. So a take goes round only where its queue was reset 2^W times
-- or more since its T1.
use Prim.Native.Nat.{ℕ, ◌+◌, ◌-◌, ◌%◌, ◌^◌, ◌≤◌, ◌<◌}
use mathlib.Core.Path.{◌≡◌, refl, sym, ap, ◌∙◌, subst}
use mathlib.Core.Bool.{Bool, true, false, cond, ◌&&◌, not}
use mathlib.Core.List.{List}
use native.Mathlib.Omega.{arith}
use native.Mathlib.Nat.{mod-lt, mod-add-mod, mod-one, zero-mod}
use lib.Dec.{ltb, leb, eqb}
use lib.ListN.{length, get_or, get_or-replicate}
use lib.Pow.{pow_pos}
use borrow.Author.Tests.{eq-eqb, leb-true, le-leb}
use Rattle.word.specs.Stages.{row_number, at_t1}
use Rattle.steps.specs.Step.{loaded_slot, loaded, same_age, leaves, resets, row_of, stage_after, Stepped}
use Rattle.base.proofs.Cases.{either_way, never, ever, if_set}
use Rattle.word.proofs.TagLaws.{after_resets, equal_tags}
use Rattle.steps.specs.declared.Next.{Next}
use Rattle.steps.specs.declared.Next.TheVariants as next
use Rattle.word.specs.declared.Stage.{Stage}
use Rattle.word.specs.declared.Stage.TheVariants.{Idle, P1, P2, P3, T1, T2, T3, T4, B1, B2, B3, B4, B5, B6, B7}
use Rattle.word.specs.declared.Word.{Word}
use Rattle.runfile.specs.Encode.{InRanges}
use Rattle.runfile.specs.File.{RunFile}
use Rattle.runfile.specs.declared.Call.{Call}
use Rattle.runfile.specs.declared.Call.TheVariants.{Push, Pop, Take}
use Rattle.runs.specs.Moment.{queue_of, is_take, gone_round}
use Rattle.runs.specs.Run.{Outcome, closed}
use Rattle.runs.proofs.InRange.{run_cases}
use Rattle.theorems.specs.Tags.{FewResets, TagsOfEveryRun, FewResetsEnough}
use Rattle.runs.specs.State.{Process, Queue, State, fresh, nobody, queue_at, process_at, start}
use Rattle.runs.specs.States.{StateOf}
use Rattle.base.proofs.Bools.{or_r}
use Rattle.runs.specs.Turn.{first_stage, begun, process_after, queue_after, acted, idle}
use Rattle.theorems.proofs.Queue.Cases.{if_age}
use Rattle.runs.proofs.KindLaws.{within, own_queue, whose}
use Rattle.runs.specs.Inner.Sound.{is_push, is_own, is_top, Sizes, Fit, processes, slots_at, Sound}
use Rattle.runs.proofs.Sound.{Fresh, Was, goes, begins, Steps, row_at}
use Rattle.runs.proofs.Reached.{Reached, everywhere}
use Rattle.runs.proofs.Scripts.{sizes_of, fit, start_fresh}
use Rattle.runs.proofs.States.{ByScript, reached, the_end}

-- the tag that a stage has loaded; 0 where there is none
abbrev pub loaded_tag : Stage → ℕ
loaded_tag Idle = 0
loaded_tag (P1 node) = 0
loaded_tag (P2 node b) = 0
loaded_tag (P3 b) = 0
loaded_tag T1 = 0
loaded_tag (T2 t g) = g
loaded_tag (T3 t g b) = g
loaded_tag (T4 t g b x) = g
loaded_tag B1 = 0
loaded_tag (B2 b) = 0
loaded_tag (B3 b) = 0
loaded_tag (B4 b x) = 0
loaded_tag (B5 b x t g) = g
loaded_tag (B6 b x t g) = g
loaded_tag (B7 b x t g) = g

abbrev past_t1 : Stage → Bool
past_t1 s = leb 5 (row_number s) && leb (row_number s) 7

abbrev past_b4 : Stage → Bool
past_b4 s = leb 12 (row_number s)

-- what a step does to the tag of its queue, which was reset n times, and to the process, which saw it reset `seen` times at T1
record TagStep (W : ℕ) (w : Word) (n seen : ℕ) (s : Stage) (o : Stepped) : Type 0 where
  right : o.word.tag ≡ cond o.reset (n + 1) n % 2 ^ W
  plain : is_own s ≡ false → o.word.tag ≡ w.tag
  own : past_b4 (stage_after o.next) ≡ true → loaded_tag (stage_after o.next) ≡ o.word.tag
  since : past_t1 (stage_after o.next) ≡ true → cond (at_t1 s) n seen ≤ cond o.reset (n + 1) n
  thief : past_t1 (stage_after o.next) ≡ true → loaded_tag (stage_after o.next) ≡ cond (at_t1 s) n seen % 2 ^ W
  -- only T4 gives a top pop its node
  won : is_top s ≡ true → (x : ℕ) → o.next ≡ next.Node x → (row_number s ≡ 7) × (w.tag ≡ loaded_tag s)

module _ (W C : ℕ) (w : Word) (v n seen : ℕ) (e : w.tag ≡ n % 2 ^ W) where
  abbrev Gives : Stage → Stepped → Type 0
  Gives s o = TagStep W w n seen s o

  no_node : {A : Type 0} (z : Stage) (x : ℕ) → next.Going z ≡ next.Node x → A
  no_node z x d = absurd (let c : ◌≡◌ {A = ℕ} 0 1 = cc in omega arith)

  no_nil : {A : Type 0} (x : ℕ) → next.Nil ≡ next.Node x → A
  no_nil x d = absurd (let c : ◌≡◌ {A = ℕ} 0 1 = cc in omega arith)

  no_lost : {A : Type 0} (x : ℕ) → next.Lost ≡ next.Node x → A
  no_lost x d = absurd (let c : ◌≡◌ {A = ℕ} 0 1 = cc in omega arith)

  -- a step that leaves the tag, of the owner's or with no node
  keeps : (s : Stage) (o : Stepped) → o.reset ≡ false → o.word.tag ≡ w.tag
      → (past_b4 (stage_after o.next) ≡ true → loaded_tag (stage_after o.next) ≡ w.tag)
      → (past_t1 (stage_after o.next) ≡ true → (cond (at_t1 s) n seen ≤ n) × (loaded_tag (stage_after o.next) ≡ cond (at_t1 s) n seen % 2 ^ W))
      → (is_top s ≡ true → (x : ℕ) → o.next ≡ next.Node x → (row_number s ≡ 7) × (w.tag ≡ loaded_tag s)) → TagStep W w n seen s o
  keeps s o a b c d i = record {
    right = rw a (b ∙ e);
    plain = λ _. b;
    own = λ x. c x ∙ sym b;
    since = λ x. rw a (d x).0;
    thief = λ x. (d x).1;
    won = i;
  }

  anew : (s : Stage) (g : ℕ) (y : Next) → is_own s ≡ true → is_top s ≡ false → g ≡ w.tag → stage_after y ≡ Idle → TagStep W w n seen s (resets W w g y)
  anew s g y a b c d = record {
    right = ap (λ (k : ℕ). (k + 1) % 2 ^ W) (c ∙ e) ∙ mod-add-mod n (2 ^ W) 1;
    plain = λ x. ever (sym a ∙ x);
    own = rw d (λ x. never x);
    since = rw d (λ x. never x);
    thief = rw d (λ x. never x);
    won = λ x. ever (sym x ∙ b);
  }

  tag_step : (s : Stage) → (past_b4 s ≡ true → loaded_tag s ≡ w.tag) → (past_t1 s ≡ true → (seen ≤ n) × (loaded_tag s ≡ seen % 2 ^ W))
      → TagStep W w n seen s (row_of W C w v s)
  tag_step Idle a b = keeps Idle _ refl refl never never never
  tag_step (P1 node) a b = either_way (Gives (P1 node)) (eqb w.bottom C) (λ _. keeps (P1 node) _ refl refl never never never)
      (λ _. keeps (P1 node) _ refl refl never never never)
  tag_step (P2 node c) a b = keeps (P2 node c) _ refl refl never never never
  tag_step (P3 c) a b = keeps (P3 c) _ refl refl never never never
  tag_step T1 a b = keeps T1 _ refl refl never (λ _. (omega arith, e)) (λ _ x d. no_node _ x d)
  tag_step (T2 t g) a b = either_way (Gives (T2 t g)) (leb w.bottom t) (λ _. keeps (T2 t g) _ refl refl never never (λ _ x d. no_nil x d))
      (λ _. keeps (T2 t g) _ refl refl never b (λ _ x d. no_node _ x d))
  tag_step (T3 t g c) a b = keeps (T3 t g c) _ refl refl never b (λ _ x d. no_node _ x d)
  tag_step (T4 t g c y) a b = if_age (Gives (T4 t g c y)) w t g (λ i j. keeps (T4 t g c y) _ refl (sym j) never never (λ _ x d. (refl, j)))
      (λ _. keeps (T4 t g c y) _ refl refl never never (λ _ x d. no_lost x d))
  tag_step B1 a b =
      either_way (Gives B1) (eqb w.bottom 0) (λ _. keeps B1 _ refl refl never never never) (λ _. keeps B1 _ refl refl never never never)
  tag_step (B2 c) a b = keeps (B2 c) _ refl refl never never never
  tag_step (B3 c) a b = keeps (B3 c) _ refl refl never never never
  tag_step (B4 c y) a b = either_way (Gives (B4 c y)) (ltb w.top (c - 1)) (λ _. keeps (B4 c y) _ refl refl never never never)
      (λ _. keeps (B4 c y) _ refl refl (λ _. refl) never never)
  tag_step (B5 c y t g) a b =
      either_way (λ (z : Stage). TagStep W w n seen (B5 c y t g) (leaves (record { bottom = 0; top = w.top; tag = w.tag }) (next.Going z)))
      (eqb (c - 1) t)
      (λ _. keeps (B5 c y t g) _ refl refl a never never) (λ _. keeps (B5 c y t g) _ refl refl a never never)
  tag_step (B6 c y t g) a b = either_way (Gives (B6 c y t g)) (same_age w t g) (λ _. anew (B6 c y t g) g (next.Node y) refl refl (a refl) refl)
      (λ _. keeps (B6 c y t g) _ refl refl a never never)
  tag_step (B7 c y t g) a b = anew (B7 c y t g) g next.Nil refl refl (a refl) refl

-- fewer than 2^W resets between equal tags mean none
few_none : (W a b : ℕ) → a ≤ b → b < a + 2 ^ W → b % 2 ^ W ≡ a % 2 ^ W → a ≡ b
few_none W a b le lt e =
    let d : a + (b - a) ≡ b = omega arith in
    let k = equal_tags W (a % 2 ^ W) (b - a) (mod-lt a (pow_pos W)) (omega arith)
    (after_resets W (b - a) (a % 2 ^ W) (mod-lt a (pow_pos W)) ∙ mod-add-mod a (2 ^ W) (b - a) ∙ ap (λ (x : ℕ). x % 2 ^ W) d ∙ e) in
    omega arith

none_gone : (r : Process) (n : ℕ) (o : Next) → ((x : ℕ) → o ≡ next.Node x → is_take r.call ≡ true → r.resets_at_t1 ≡ n) → gone_round r n o ≡ 0
none_gone r n (next.Going z) h = refl
none_gone r n next.Done h = refl
none_gone r n (next.Node x) h = by (is_take r.call) refl
  where
    by : (b : Bool) → is_take r.call ≡ b → ◌≡◌ {A = ℕ} (cond (b && not (eqb r.resets_at_t1 n)) 1 0) 0
    by true e = rw (eq-eqb r.resets_at_t1 n (h x refl e)) refl
    by false e = refl
none_gone r n next.Nil h = refl
none_gone r n next.Lost h = refl
none_gone r n next.Full h = refl

past_owns : (s : Stage) → past_b4 s ≡ true → is_own s ≡ true
past_owns s e = or_r (is_push s) (leb 8 (row_number s)) (le-leb 8 (row_number s) (omega (arith, leb-true 12 (row_number s) e)))

-- what holds of the record of process p, or of one with its next call begun
pub record Seen (W : ℕ) (s : State) (p : ℕ) (r : Process) : Type 0 where
  own : past_b4 r.stage ≡ true → loaded_tag r.stage ≡ (queue_at s.bench p).word.tag
  thief : past_t1 r.stage ≡ true
      → (r.resets_at_t1 ≤ (queue_at s.bench (queue_of p r.call)).resets) × (loaded_tag r.stage ≡ r.resets_at_t1 % 2 ^ W)

pub record TagsRight (f : Sizes) (s : State) : Type 0 where
  pub tags : (q : ℕ) → q < processes f → (queue_at s.bench q).word.tag ≡ (queue_at s.bench q).resets % 2 ^ f.width
  pub loaded_tags : (p : ℕ) → p < processes f → Seen f.width s p (process_at s.bench p)

module _ (f : Sizes) (h : Fit f) (s : State) (v : Sound f s) (i : TagsRight f s) (p : ℕ) (r : Process) (k : Steps f s p r) where
  abbrev q : ℕ
  q = queue_of p r.call

  abbrev o : Stepped
  o = row_at f s p r

  abbrev r' : Process
  r' = process_after s.bench.steps (queue_at s.bench q).resets r o.next

  abbrev t : State
  t = acted p r s (row_at f s p r)

  -- a call that begins has loaded no tag
  saw : (r : Process) → Was f s p r → Seen f.width s p r
  saw r goes = i.loaded_tags p k.below
  saw r (begins call _) = first call
    where
      first : (call : Call) → Seen f.width s p (begun s.bench.steps call (process_at s.bench p))
      first (Push node) = record { own = never; thief = never }
      first Pop = record { own = never; thief = never }
      first (Take q) = record { own = never; thief = never }

  mine : Seen f.width s p r
  mine = saw r k.was

  owns : is_own r.stage ≡ true → queue_of p r.call ≡ p
  owns e = own_queue p r.call (k.placed.suits.own e)

  step : TagStep f.width (queue_at s.bench (queue_of p r.call)).word (queue_at s.bench (queue_of p r.call)).resets r.resets_at_t1 r.stage (row_at f s p r)
  step =
      tag_step f.width f.size (queue_at s.bench (queue_of p r.call)).word
      (loaded (slots_at s (queue_of p r.call)) (loaded_slot r.stage))
      (queue_at s.bench (queue_of p r.call)).resets r.resets_at_t1 (i.tags (queue_of p r.call) k.placed.queue) r.stage
      (λ e. subst (λ (j : ℕ). loaded_tag r.stage ≡ (queue_at s.bench j).word.tag) (sym (owns (past_owns r.stage e))) (mine.own e))
      mine.thief

  at_queue : (Q : Queue → Type 0) (j : ℕ) → (j ≡ queue_of p r.call → Q (queue_after (queue_at s.bench (queue_of p r.call)) (row_at f s p r)))
      → ((j ≡ queue_of p r.call → ⊥) → Q (queue_at s.bench j)) → Q (queue_at (acted p r s (row_at f s p r)).bench j)
  at_queue Q j a b = if_set Q s.bench.queues q j _ fresh (omega (arith, k.placed.queue, v.queues, h.processes)) a b

  resets_up : (j : ℕ) → (queue_at s.bench j).resets ≤ (queue_at (acted p r s (row_at f s p r)).bench j).resets
  resets_up j =
      at_queue (λ (m : Queue). (queue_at s.bench j).resets ≤ m.resets) j
      (λ e. rw e (either_way (λ (n : ℕ). (queue_at s.bench q).resets ≤ n) o.reset (λ _. omega arith) (λ _. omega arith))) (λ e. omega arith)

  -- only the owner changes its tag
  other_own : (j : ℕ) → (j ≡ p → ⊥) → (queue_at (acted p r s (row_at f s p r)).bench j).word.tag ≡ (queue_at s.bench j).word.tag
  other_own j ne =
      at_queue (λ (m : Queue). m.word.tag ≡ (queue_at s.bench j).word.tag) j
      (λ e. step.plain (not_own e (is_own r.stage) refl) ∙ ap (λ (a : ℕ). (queue_at s.bench a).word.tag) (sym e)) (λ e. refl)
    where
      not_own : j ≡ queue_of p r.call → (b : Bool) → is_own r.stage ≡ b → is_own r.stage ≡ false
      not_own e true d = absurd (ne (e ∙ owns d))
      not_own e false d = d

  tags_act : TagsRight f (acted p r s (row_at f s p r))
  tags_act = record {
    tags = λ j lt. at_queue (λ (m : Queue). m.word.tag ≡ m.resets % 2 ^ f.width) j (λ e. step.right) (λ e. i.tags j lt);
    loaded_tags =
        λ j lt. if_set (λ (x : Process). Seen f.width t j x) s.bench.processes p j r' nobody
        (omega (arith, k.below, v.records, h.processes))
        (λ e. rw e self)
        (λ e. let w = i.loaded_tags j lt in record {
          own = λ d. w.own d ∙ sym (other_own j e);
          thief = λ d. (omega (arith, (w.thief d).0, resets_up (queue_of j (process_at s.bench j).call)), (w.thief d).1);
        });
  }
    where
      self : Seen f.width (acted p r s (row_at f s p r)) p (process_after s.bench.steps (queue_at s.bench (queue_of p r.call)).resets r
          (row_at f s p r).next)
      self = record {
        own = λ d. at_queue (λ (m : Queue). loaded_tag (stage_after (row_at f s p r).next) ≡ m.word.tag) p
            (λ e. step.own d) (λ e. absurd (e (sym (owns ((within _ _ _ _ r.stage).own (past_owns (stage_after (row_at f s p r).next) d))))));
        thief = λ d. (
          at_queue (λ (m : Queue). cond (at_t1 r.stage) (queue_at s.bench q).resets r.resets_at_t1 ≤ m.resets) q (λ e. step.since d)
              (λ e. absurd (e refl)),
          step.thief d,
        );
      }

  none_here : (is_top r.stage ≡ true → row_number r.stage ≡ 7 → (queue_at s.bench (queue_of p r.call)).resets < r.resets_at_t1 + 2 ^ f.width)
      → gone_round r (queue_at s.bench (queue_of p r.call)).resets (row_at f s p r).next ≡ 0
  none_here few = none_gone r (queue_at s.bench q).resets o.next (λ x e d.
      let tp = whose r.stage k.busy (not_own d (is_own r.stage) refl) in
      let u = step.won tp x e in
      let past : past_t1 r.stage ≡ true = rw u.0 refl in
      let w = mine.thief past in
      few_none f.width r.resets_at_t1 (queue_at s.bench q).resets w.0 (few tp u.0) (sym (i.tags q k.placed.queue) ∙ u.1 ∙ w.1))
    where
      not_own : is_take r.call ≡ true → (b : Bool) → is_own r.stage ≡ b → is_own r.stage ≡ false
      not_own d true e = ever (sym d ∙ k.placed.suits.own e)
      not_own d false e = e

  -- a top pop at T4 has not just begun
  at_T4 : (r : Process) → Was f s p r → row_number r.stage ≡ 7 → r ≡ process_at s.bench p
  at_T4 r goes e = refl
  at_T4 r (begins call _) e = absurd (first call e)
    where
      first : (call : Call) → row_number (first_stage call) ≡ 7 → ⊥
      first (Push node) e = omega arith
      first Pop e = omega arith
      first (Take q) e = omega arith

tags_idle : (f : Sizes) (s : State) → TagsRight f s → TagsRight f (idle s)
tags_idle f s i = record { tags = i.tags; loaded_tags = λ p lt. let w = i.loaded_tags p lt in record { own = w.own; thief = w.thief } }

tags_fresh : (f : Sizes) → Fit f → (s : State) → Fresh f s → TagsRight f s
tags_fresh f h s z = record {
  tags = λ q lt. subst (λ (l : List Queue). (get_or l q fresh).word.tag ≡ (get_or l q fresh).resets % 2 ^ f.width) (sym z.queues)
      (rw (get_or-replicate 8 q fresh fresh (omega (arith, h.processes))) (sym (zero-mod (2 ^ f.width))));
  loaded_tags = λ p lt. record { own = λ e. never (ap past_b4 (sym (z.idle p)) ∙ e); thief = λ e. never (ap past_t1 (sym (z.idle p)) ∙ e) };
}

-- the resets of each queue are at most the steps
resets_act : (f : Sizes) → Fit f → (s : State) → Sound f s → TagsRight f s
    → ((q : ℕ) → q < processes f → (queue_at s.bench q).resets ≤ s.bench.steps)
    → (p : ℕ) (r : Process) → Steps f s p r → (q : ℕ) → q < processes f → (queue_at (acted p r s (row_at f s p r)).bench q).resets ≤ s.bench.steps + 1
resets_act f h s v i few p r k q lt =
    at_queue f h s v i p r k (λ (m : Queue). m.resets ≤ s.bench.steps + 1) q
    (λ e. either_way (λ (n : ℕ). n ≤ s.bench.steps + 1) (row_at f s p r).reset
    (λ _. omega (arith, few (queue_of p r.call) k.placed.queue)) (λ _. omega (arith, few (queue_of p r.call) k.placed.queue)))
    (λ e. omega (arith, few q lt))

-- a run of fewer than 2^W steps has no gone-round take
pub record Short (f : Sizes) (s : State) : Type 0 where
  pub right : TagsRight f s
  pub few : (q : ℕ) → q < processes f → (queue_at s.bench q).resets ≤ s.bench.steps
  pub none : s.bench.steps < 2 ^ f.width → s.bench.gone ≡ 0

pub short : (f : Sizes) → Fit f → (Ok : State → ℕ → Process → Type 0) (s₀ : State) → Fresh f s₀ → (s : State) → Reached f Ok s₀ s → Short f s
short f h Ok s₀ z s o = (everywhere f h Ok s₀ z (Short f)
    (record {
      right = tags_fresh f h s₀ z;
      few =
          λ q lt. subst (λ (l : List Queue). (get_or l q fresh).resets ≤ s₀.bench.steps) (sym z.queues)
          (rw (get_or-replicate 8 q fresh fresh (omega (arith, h.processes))) (omega arith));
      none = λ _. z.gone;
    })
    (λ s v i. record { right = tags_idle f s i.right; few = λ q lt. omega (arith, i.few q lt); none = λ lt. i.none (omega arith) })
    (λ s v i p r k ok. record {
      right = tags_act f h s v i.right p r k;
      few = resets_act f h s v i.right i.few p r k;
      none =
          λ lt. omega
          (arith, i.none (omega arith), none_here f h s v i.right p r k (λ _ _. omega (arith, i.few (queue_of p r.call) k.placed.queue)));
    }) s o).1

right : (f : RunFile) → InRanges f → (s : State) → StateOf f s → TagsRight (sizes_of f) s
right f h s o = (short (sizes_of f) (fit f h) (ByScript f) (start f) (start_fresh f h) s (reached f h s o)).right

-- Where in every state of the run resets are few, no take is gone-round.
pub none_gone_round : (f : RunFile) → InRanges f → ((s : State) → StateOf f s → FewResets f s) → (closed f).bench.gone ≡ 0
none_gone_round f h few =
    let z = sizes_of f in
    let w = fit f h in
    (everywhere z w (ByScript f) (start f) (start_fresh f h) (λ s. TagsRight z s × (s.bench.gone ≡ 0))
    (tags_fresh z w (start f) (start_fresh f h), refl)
    (λ s v i. (tags_idle z s i.0, i.1))
    (λ s v i p r k ok. (
      tags_act z w s v i.0 p r k,
      omega (
        arith,
        i.1,
        none_here z w s v i.0 p r k (λ _ e.
            subst (λ (x : Process). (queue_at s.bench (queue_of p x.call)).resets < x.resets_at_t1 + 2 ^ f.width)
            (sym (at_T4 z w s v i.0 p r k r k.was e))
            (few s ok.1 p k.below (ap (λ (x : Process). row_number x.stage) (sym (at_T4 z w s v i.0 p r k r k.was e)) ∙ e))),
      ),
    ))
    (closed f) (reached f h (closed f) (the_end f))).1.1

-- The same of files: of a run that is refused there is nothing to show.
pub few_resets : FewResetsEnough
few_resets file b room few = run_cases (λ (o : Outcome). o.gone ≡ 0) file b room (λ n low high. refl) (λ f e h. none_gone_round f h (few f e))

-- the resets since T1 do not fall
since : (f : RunFile) → InRanges f → (s : State) → StateOf f s → (p : ℕ) → p < length f.shares → row_number (process_at s.bench p).stage ≡ 7
    → (process_at s.bench p).resets_at_t1 ≤ (queue_at s.bench (queue_of p (process_at s.bench p).call)).resets
since f h s o p lt at = (((right f h s o).loaded_tags p lt).thief (rw at refl)).0

-- In every state of every run the tag of a queue is its resets mod 2^W, and 0 where W is 0.
pub tags : TagsOfEveryRun
tags f h = record {
  tag_is_resets = λ s o. (right f h s o).tags;
  none_gone_round = none_gone_round f h;
  few_is_none = λ none s o.
      let one : 2 ^ f.width ≡ 1 = rw none in
      (λ few p lt at. omega (arith, few p lt at, since f h s o p lt at, one), λ no p lt at. omega (arith, no p lt at, one));
  tag_is_none = λ none s o q lt.
      (right f h s o).tags q lt ∙ ap (λ (w : ℕ). (queue_at s.bench q).resets % 2 ^ w) none ∙ mod-one (queue_at s.bench q).resets;
}
