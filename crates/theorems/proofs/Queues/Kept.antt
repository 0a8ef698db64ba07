-- The invariant of the whole holds in every state of a run that has had no gone-round take.
use Prim.Native.Nat.{ℕ, zero, suc, ◌<◌}
use mathlib.Core.Path.{◌≡◌, refl, sym, ap, ◌∙◌, subst}
use mathlib.Core.Bool.{cond}
use mathlib.Core.List.{List, []}
use mathlib.Core.Option.{none}
use native.Mathlib.Omega.{arith}
use lib.ListN.{get_or, replicate, length-replicate, get_or-replicate}
use Rattle.word.specs.Stages.{past_b2}
use Rattle.word.specs.declared.Stage.{Stage}
use Rattle.word.specs.declared.Stage.TheVariants.{Idle}
use Rattle.call_log.specs.declared.Entry.{Entry}
use Rattle.runs.specs.Inner.Sound.{is_own, Sizes, Fit, processes, slots_at, Sound}
use Rattle.runs.specs.Moment.{queue_of, pushed_node}
use Rattle.runs.specs.State.{Process, Queue, State, fresh, queue_at, process_at}
use Rattle.runs.specs.Turn.{acted, idle}
use Rattle.base.proofs.Cases.{never}
use Rattle.runs.proofs.Sound.{Steps, Fresh, row_at}
use Rattle.runs.proofs.Reached.{Reached, everywhere}
use Rattle.base.specs.Lists.{All, Pairs}
use Rattle.base.proofs.Lists.{all_map}
use Rattle.theorems.proofs.Queue.Lists.{slice_none}
use Rattle.theorems.proofs.Queue.Content.{content, event_free}
use Rattle.theorems.proofs.Queue.Memory.{memory_at, as_owner}
use Rattle.theorems.proofs.Queue.Inv.{QueueOk, AtTop, view, still, old, Rely}
use Rattle.theorems.proofs.Queue.Keeps.{thief_keeps}
use Rattle.theorems.proofs.Queue.OwnerTurn.{held_keep}
use Rattle.theorems.proofs.Queue.ThiefTurn.{calm_refl}
use Rattle.theorems.proofs.Queues.Whole.{seat, nodes_by, Inv, fine_keeps}
use Rattle.theorems.proofs.Queues.Act.{act_ok}

-- a step of a process with no call left
idle_ok : (f : Sizes) (s : State) → Sound f s → Inv f s → Inv f (idle s)
idle_ok f s v h = record {
  queues = λ j lt. let o = h.queues j lt in record {
    ctl = o.ctl;
    now_on = λ x i. o.now_on x (omega arith);
    held =
        λ d. held_keep s.bench.steps s.log (memory_at s j) (seat s j).stage (seat s j).b2 (nodes_by j s.log (memory_at s j) (seat s j))
        s.log
        (memory_at s j) (seat s j).stage (nodes_by j s.log (memory_at s j) (seat s j))
        (λ x i. refl) refl refl (λ a. a) (λ a. a) (λ a b. b) (λ a b. b) (o.held d);
  };
  timed = λ j lt. let o = h.timed j lt in record { begun = omega (arith, o.begun); back_after = o.back_after; since = o.since };
  thieves =
      λ j lt. let r = process_at s.bench j in thief_keeps f.size (rely j (queue_of j r.call) (v.each j lt).queue) (λ e i. i) j r.start r.resets_at_t1
      (λ e. omega arith) r.stage (h.thieves j lt);
  apart = h.apart;
  fine = all_map _ _ (λ e g. fine_keeps s.bench.steps s.log _ s.log _ (λ a b. b) (λ x i. refl) e g) s.log h.fine;
  order = h.order;
  written = h.written;
}
  where
    -- nobody has stepped on the queue; suc j stands for a process that is not j
    rely : (j q : ℕ) → q < processes f
        → Rely s.bench.steps (suc j) q s.log (memory_at s q) (seat s q).stage (seat s q).b2 (nodes_by q s.log (memory_at s q) (seat s q))
        s.log (memory_at s q) (seat s q).stage (seat s q).b2 (nodes_by q s.log (memory_at s q) (seat s q))
    rely j q lt = record {
      calm = calm_refl (memory_at s q) (seat s q).stage;
      change = still refl refl;
      edge = λ a b c d. old c d refl ((h.queues q lt).held c).late refl;
      kept = λ x i. refl;
    }

none_before : (q x : ℕ) → content [] q none x ≡ []
unfolding content
none_before q zero = refl
none_before q (suc x) = event_free [] q x (content [] q none x) tt ∙ none_before q x

-- queue q of a state, of which log, queue, slots and its owner's stage are given
abbrev QueueAs : Sizes → State → ℕ → List Entry → Queue → List ℕ → Stage → Type 0
QueueAs f s q l m x st = QueueOk f.size s.bench.steps (cond (is_own st) (pushed_node (process_at s.bench q).call) 0) l
    (record { word = m.word; resets = m.resets; slots = x }) (as_owner st) (process_at s.bench q).b2
    (view q l (record { word = m.word; resets = m.resets; slots = x }) (as_owner st) (process_at s.bench q).b2)

fresh_ok : (f : Sizes) → Fit f → (s : State) → Fresh f s → Inv f s
fresh_ok f w s z = record {
  queues = λ q lt. here q lt;
  timed =
      λ p lt. record { begun = z.begun p; back_after = λ e. never (ap past_b2 (sym (z.idle p)) ∙ e); since = λ e. subst (All _) (sym z.log) tt };
  thieves =
      λ p lt. subst (λ (x : Stage). AtTop f.size s.bench.steps p (queue_of p (process_at s.bench p).call) (process_at s.bench p).start
      (process_at s.bench p).resets_at_t1 s.log (memory_at s (queue_of p (process_at s.bench p).call))
      (seat s (queue_of p (process_at s.bench p).call)).stage
      (seat s (queue_of p (process_at s.bench p).call)).b2
      (nodes_by (queue_of p (process_at s.bench p).call) s.log (memory_at s (queue_of p (process_at s.bench p).call))
      (seat s (queue_of p (process_at s.bench p).call))) x) (sym (z.idle p)) tt;
  apart = λ a b la lb ne e. never (ap (λ (x : Stage). past_b2 (as_owner x)) (sym (z.idle a)) ∙ e);
  fine = subst (All _) (sym z.log) tt;
  order = subst (Pairs _) (sym z.log) tt;
  written = subst (All _) (sym z.log) tt;
}
  where
    zero_queue : (q : ℕ) → QueueAs f s q [] fresh (replicate {A = ℕ} f.size 0) Idle
    zero_queue q = record {
      ctl = record { fits = omega arith; len = length-replicate {A = ℕ} f.size 0; top_le = omega arith; at = tt };
      now_on = λ x i. none_before q x ∙ sym (slice_none 0 0 (replicate {A = ℕ} f.size 0) (omega arith));
      held = never;
    }

    here : (q : ℕ) → q < processes f → QueueAs f s q s.log (queue_at s.bench q) (slots_at s q) (process_at s.bench q).stage
    here q lt =
        subst (λ (l : List Entry). QueueAs f s q l (queue_at s.bench q) (slots_at s q) (process_at s.bench q).stage) (sym z.log)
        (subst (λ (x : Stage). QueueAs f s q [] (queue_at s.bench q) (slots_at s q) x) (sym (z.idle q))
        (subst (λ (m : Queue). QueueAs f s q [] m (slots_at s q) Idle)
        (sym (ap (λ (l : List Queue). get_or l q fresh) z.queues ∙ get_or-replicate 8 q fresh fresh (omega (arith, w.processes))))
        (subst (λ (x : List ℕ). QueueAs f s q [] fresh x Idle)
        (sym (ap (λ (l : List (List ℕ)). get_or l q []) z.slots ∙ get_or-replicate 8 q (replicate {A = ℕ} f.size 0) [] (omega (arith, w.processes))))
        (zero_queue q))))

-- with any further invariant J that steps keep where this one holds
module _ (f : Sizes) (w : Fit f) (Ok : State → ℕ → Process → Type 0) (s₀ : State) (z : Fresh f s₀) (J : State → Type 0)
    (j-start : J s₀)
    (j-idle : (s : State) → Sound f s → Inv f s → J s → J (idle s))
    (j-act : (s : State) → Sound f s → Inv f s → J s → (p : ℕ) (r : Process) → Steps f s p r → Ok s p r → J (acted p r s (row_at f s p r))) where
  pub kept : (s : State) → Reached f Ok s₀ s → s.bench.gone ≡ 0 → Inv f s × J s
  kept s o =
      (everywhere f w Ok s₀ z (λ s. s.bench.gone ≡ 0 → Inv f s × J s) (λ g. (fresh_ok f w s₀ z, j-start))
      (λ s v i g. let b = i g in (idle_ok f s v b.0, j-idle s v b.0 b.1))
      (λ s v i p r k ok g. let b = i (omega arith) in (act_ok f w s v b.0 p r k (omega arith), j-act s v b.0 b.1 p r k ok)) s o).1
