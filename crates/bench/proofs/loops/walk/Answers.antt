-- `loops::walk` meets its contract: after i steps the bench stands for the state that the first i bytes of the schedule lead to.
use Prim.Native.Nat.{ℕ, ◌+◌, ◌≤◌, ◌<◌}
use mathlib.Core.Path.{◌≡◌, refl, sym, ap, ◌∙◌, subst}
use mathlib.Core.Bool.{Bool, true, false, cond}
use mathlib.Core.Logic.{inr}
use mathlib.Core.List.{List}
use lib.ListN.{length, get_or, set}
use lib.Seq.{get_or-set_same}
use Rattle.std.proofs.lemmas.List.{set-set}
use native.Mathlib.Omega.{arith}
use Rattle.word.specs.Stages.{is_idle}
use Rattle.runs.specs.State.{Process}
use Rattle.runs.specs.Moment.{queue_of}
use Rattle.runs.specs.Turn.{ready, process_after}
use Rattle.runs.specs.Inner.Sound.{AllIn}
use Rattle.runs.proofs.TurnLaws.{calls_in_lem, entries_few, gone_most}
use Rattle.runfile.specs.declared.Shape.{Shape}
use Rattle.records.specs.Inner.Records.{process_in}
use Rattle.bench.specs.Inner.Layout.{record_in, state_in, sizes_in, fresh_held, Becomes, ToWalk, StepsIn, Tells}
use Rattle.bench.specs.Inner.Walk.{rests, walked_one}
use Rattle.bench.specs.declared.Bench.{Bench}
use Rattle.bench.specs.declared.Queue.{Queue}
use Rattle.bench.specs.declared.turn.Told.{Told}
use Rattle.steps.specs.Packed.{PackedStep}
use Rattle.records.specs.declared.Process.{Process as HeldProcess}
use Rattle.bench.proofs.LayoutLaws.{held_resets, held_b2}
use Rattle.bench.proofs.WayLaws.{with_steps, same_b2, idle_rests, busy_works, way_idle, on_queue, way_on, way_ends}
use Rattle.bench.proofs.RunLaws.{Walked, walked_start, walked_more, walked_all, walked_end}
use Rattle.bench.proofs.loops.walk.Invariants.{calls_of}
use Rattle.bench.proofs.loops.walk.Goals.{then-closing, else-closing, then-closing-2, else-closing-2}
use Rattle.bench.proofs.loops.walk.Goals as goal

one_most : (t : Bool) → cond t 0 1 ≤ 1
one_most true = omega arith
one_most false = omega arith

-- a turn: what the function is given, how far the loop has come, and that it is not at its end
module _ (file : List ℕ) (closing : Bool) (i : ℕ) {a : Shape} {schedule : List ℕ} {state run : Bench} {slots₀ log₀ slots log : List ℕ}
    (given : ToWalk a schedule state slots₀)
    (come : Walked (sizes_in a) a.calls state.entries closing (calls_of file a) schedule log₀ (state_in a.size state slots₀) i run slots log)
    (here : i < length schedule) (process : ℕ) (is : process ≡ get_or schedule i 0) where
  -- the process is one of the run's
  below_P : process < a.processes
  below_P = omega (arith, is, given.below i here)

  p_small : process < 8
  p_small = omega (arith, below_P, given.fit.processes)

  steps_few : run.steps ≤ 4143
  steps_few = omega (arith, come.1, here, given.few)

  calls_are : AllIn a.processes (calls_of file a)
  calls_are = calls_in_lem file a.processes a.calls

  -- what its step comes to is one step more of the walk
  more : {b : Bench} {slots' log' : List ℕ}
      → Becomes a.size run.entries log (walked_one closing a.width a.size (calls_of file a) process (state_in a.size run slots)) b slots' log'
      → Walked (sizes_in a) a.calls state.entries closing (calls_of file a) schedule log₀ (state_in a.size state slots₀) (i + 1) b slots' log'
  more {b = b} {slots' = slots'} {log' = log'} step =
      walked_more (sizes_in a) _ _ _ (calls_of file a) schedule _ _ i _ _ _ come given.fit calls_are b slots' log' here (given.below i here)
      (rw is at step)

  -- the process with the call that it begins, or that it is in
  module _ {r : Process} (ready_is : r ≡ cond closing (record_in run process) (ready (calls_of file a) run.steps (record_in run process))) where
    -- its call is on one of the queues
    on_is : {q : ℕ} → q ≡ queue_of (get_or schedule i 0) r.call → q ≡ queue_of process r.call
    on_is e = e ∙ ap (λ (p : ℕ). queue_of p r.call) (sym is)

    busy : rests closing (record_in run process) ≡ false → is_idle r.stage ≡ false
    busy works = ap (λ (x : Process). is_idle x.stage) ready_is ∙ busy_works (calls_of file a) run.steps (record_in run process) closing works

    q_small : rests closing (record_in run process) ≡ false → {q : ℕ} → q ≡ queue_of (get_or schedule i 0) r.call → q < 8
    q_small works {q = q} e =
        on_queue (sizes_in a) given.fit closing (calls_of file a) calls_are run slots log come.0.sound process below_P r ready_is (busy works) q
        (on_is e)

    -- it is in none, and waits
    waits : is_idle r.stage ≡ true → {m : ℕ} → m ≡ cond closing 0 1
        → Walked (sizes_in a) a.calls state.entries closing (calls_of file a) schedule log₀ (state_in a.size state slots₀) (i + 1)
        (with_steps run (run.steps + m)) slots log
    waits idle {m = m} e = more
        (way_idle (sizes_in a) given.fit closing (calls_of file a) calls_are run slots log come.0.sound process below_P r ready_is idle m e
        come.0.becomes.whole)

    -- its step, and the record that it leaves
    module _ (works : rests closing (record_in run process) ≡ false) {q number : ℕ} (same : q ≡ number)
        (call_on : number ≡ queue_of (get_or schedule i 0) r.call) {o : PackedStep} {slots' : List ℕ}
        (step : StepsIn a.width a.size (get_or run.queues q fresh_held).word slots number r.stage o slots') {z : HeldProcess}
        (left : process_in z ≡ process_after run.steps (get_or run.queues q fresh_held).resets r o.next) where
      on_q : q ≡ queue_of process r.call
      on_q = on_is (same ∙ call_on)

      stepped : StepsIn a.width a.size (get_or run.queues q fresh_held).word slots q r.stage o slots'
      stepped = subst (λ (n : ℕ). StepsIn a.width a.size (get_or run.queues q fresh_held).word slots n r.stage o slots') (sym same) step

      abbrev after : List Queue → ℕ → ℕ → Bench
      after queues entries gone = record {
        queues = queues;
        processes = set run.processes process z;
        entries = entries;
        steps = run.steps + 1;
        gone = gone;
      }

      -- the queue with its word stored, and then its resets
      abbrev with_word : Queue
      with_word = record { word = o.word; resets = (get_or run.queues q fresh_held).resets }

      abbrev stored : ℕ → List Queue
      stored n = set (set run.queues q with_word) q (record { word = (get_or (set run.queues q with_word) q fresh_held).word; resets = n })

      stored_is : (n : ℕ) → stored n ≡ set run.queues q (record { word = o.word; resets = n })
      stored_is n =
          rw (get_or-set_same run.queues q with_word fresh_held (omega (arith, come.0.becomes.whole.queues, q_small works (same ∙ call_on))))
          (set-set run.queues q with_word (record { word = o.word; resets = n }))

      stays : is_idle z.stage ≡ false
          → Walked (sizes_in a) a.calls state.entries closing (calls_of file a) schedule log₀ (state_in a.size state slots₀) (i + 1)
          (after (set run.queues q with_word) run.entries run.gone) slots' log
      stays half = more
          (way_on (sizes_in a) given.fit closing (calls_of file a) calls_are run slots log come.0.sound process below_P r ready_is (busy works) q on_q o
          slots' stepped come.0.becomes.whole z left half)

      ends : {m : Told} {log' : List ℕ}
          → Tells (get_or schedule i 0) run.steps run.entries r (record_in run q) (get_or run.queues q fresh_held).word (get_or run.queues q fresh_held).resets o log m log'
          → Walked (sizes_in a) a.calls state.entries closing (calls_of file a) schedule log₀ (state_in a.size state slots₀) (i + 1)
          (after (stored m.resets) (run.entries + m.more) (run.gone + m.gone)) slots' log'
      ends {m = m} {log' = log'} told =
          subst (λ (l : List Queue). Walked (sizes_in a) a.calls state.entries closing (calls_of file a) schedule log₀ (state_in a.size state slots₀) (i + 1)
          (after l (run.entries + m.more) (run.gone + m.gone)) slots' log')
          (sym (stored_is m.resets)) (more
          (way_ends (sizes_in a) given.fit closing (calls_of file a) calls_are run slots log come.0.sound process below_P r ready_is (busy works) q on_q o
          slots' stepped come.0.becomes.whole z left m log'
          (subst (λ (p : ℕ). Tells p run.steps run.entries r (record_in run q) (get_or run.queues q fresh_held).word
          (get_or run.queues q fresh_held).resets o log m log') (sym is) told)))

pub loop-i-init : goal.loop-i-init
loop-i-init c = (
  elim c.if-closing.branch [ then-closing w ↦ rw w.if-closing.true w.idle-is | else-closing w ↦ rw w.if-closing.false w.idle-is ],
  walked_start (sizes_in c.args.shape) c.args.shape.calls c.args.closing (calls_of c.args.file.now c.args.shape)
      c.args.schedule.now _ _ _ c.requires.whole c.requires.counted c.requires.sound c.requires.left,
)

pub overflow_add-run : goal.overflow_add-run
overflow_add-run c =
    let few = steps_few c.args.file.now _ _ c.requires c.loop-i.invariant.1 c.loop-i-test.true _ refl in
    let so_far = c.loop-i.invariant.1.1 in
    elim c.if-closing-2.branch [
      | then-closing-2 w ↦ omega (arith, few, so_far, c.requires.few, w.left-is)
      | else-closing-2 w ↦ omega (arith, few, so_far, c.requires.few, w.left-is)
    ]

pub returns-then-shape-run : goal.returns-then-shape-run
returns-then-shape-run c =
    walked_all (sizes_in c.args.shape) _ _ c.args.closing (calls_of c.args.file.now c.args.shape) c.args.schedule.now
    _ _ _ _ _ _ c.loop-i.invariant.1 _ (inr c.if-shape-run.true)
    (elim c.if-closing-2.branch [ then-closing-2 w ↦ rw w.if-closing-2.true w.left-is | else-closing-2 w ↦ rw w.if-closing-2.false w.left-is ])

pub overflow_add-run-then-rests : goal.overflow_add-run-then-rests
overflow_add-run-then-rests c =
    omega (arith, steps_few c.args.file.now _ _ c.requires c.loop-i.invariant.1 c.loop-i-test.true _ refl, c.loop-i.invariant.0, one_most c.args.closing)

pub loop-i-preserved-then-rests : goal.loop-i-preserved-then-rests
loop-i-preserved-then-rests c = (
  c.loop-i.invariant.0,
  waits c.args.file.now _ _ c.requires c.loop-i.invariant.1 c.loop-i-test.true _ c.from-at.ensures refl
      (idle_rests (calls_of c.args.file.now c.args.shape) _ _ c.args.closing (sym c.rests.ensures ∙ c.if-rests.true)) c.loop-i.invariant.0,
)

pub bounds-run-on : goal.bounds-run-on
bounds-run-on c =
    q_small c.args.file.now _ _ c.requires c.loop-i.invariant.1 c.loop-i-test.true _ c.from-at.ensures c.ready-of.ensures
    (sym c.rests.ensures ∙ c.if-rests.false) (c.from-on.ensures ∙ c.queue_of-q.ensures)

pub step_slots-stepped-requires : goal.step_slots-stepped-requires
step_slots-stepped-requires c = (
  q_small c.args.file.now _ _ c.requires c.loop-i.invariant.1 c.loop-i-test.true _ c.from-at.ensures c.ready-of.ensures
      (sym c.rests.ensures ∙ c.if-rests.false) c.queue_of-q.ensures,
  c.requires.fit.size.1,
)

pub bounds-run-on-in-loop-i : goal.bounds-run-on-in-loop-i
bounds-run-on-in-loop-i c =
    q_small c.args.file.now _ _ c.requires c.loop-i.invariant.1 c.loop-i-test.true _ c.from-at.ensures c.ready-of.ensures
    (sym c.rests.ensures ∙ c.if-rests.false) (c.from-on.ensures ∙ c.queue_of-q.ensures)

pub bounds-run-at-then-not-is_idle : goal.bounds-run-at-then-not-is_idle
bounds-run-at-then-not-is_idle c = p_small c.args.file.now _ _ c.requires c.loop-i.invariant.1 c.loop-i-test.true _ c.from-at.ensures

pub bounds-run-at-in-loop-i-2 : goal.bounds-run-at-in-loop-i-2
bounds-run-at-in-loop-i-2 c = p_small c.args.file.now _ _ c.requires c.loop-i.invariant.1 c.loop-i-test.true _ c.from-at.ensures

pub bounds-run-at-in-loop-i : goal.bounds-run-at-in-loop-i
bounds-run-at-in-loop-i c = p_small c.args.file.now _ _ c.requires c.loop-i.invariant.1 c.loop-i-test.true _ c.from-at.ensures

pub loop-i-preserved-then-not-is_idle : goal.loop-i-preserved-then-not-is_idle
loop-i-preserved-then-not-is_idle c = (
  c.loop-i.invariant.0,
  stays c.args.file.now _ _ c.requires c.loop-i.invariant.1 c.loop-i-test.true _ c.from-at.ensures c.ready-of.ensures (sym c.rests.ensures ∙ c.if-rests.false)
      c.from-on.ensures c.queue_of-q.ensures c.step_slots-stepped.ensures c.after-then.ensures (sym c.is_idle.ensures ∙ c.if-not-is_idle.true),
)

pub invariant_of-turn : goal.invariant_of-turn
invariant_of-turn c =
    let few = steps_few c.args.file.now _ _ c.requires c.loop-i.invariant.1 c.loop-i-test.true _ refl in
    let p = c.from-at.result in
    let l = c.loop-i.run in
    let counted = c.loop-i.invariant.1.0.counted in
    let small = q_small c.args.file.now _ _ c.requires c.loop-i.invariant.1 c.loop-i-test.true _ c.from-at.ensures c.ready-of.ensures
    (sym c.rests.ensures ∙ c.if-rests.false) (c.from-on.ensures ∙ c.queue_of-q.ensures) in record {
      few = (
        omega (arith, few),
        omega (
          arith,
          few,
          held_b2 l l.entries counted p (p_small c.args.file.now _ _ c.requires c.loop-i.invariant.1 c.loop-i-test.true _ c.from-at.ensures),
          ap (λ (x : Process). x.b2) c.ready-of.ensures,
          same_b2 (calls_of c.args.file.now c.args.shape) l.steps (record_in l p) c.args.closing,
        ),
        omega (arith, few, held_b2 l l.entries counted c.from-on.result small),
        omega (arith, few, held_resets l l.entries counted c.from-on.result small),
      );
    }

pub overflow_add-run-in-loop-i-2 : goal.overflow_add-run-in-loop-i-2
overflow_add-run-in-loop-i-2 c =
    let few = steps_few c.args.file.now _ _ c.requires c.loop-i.invariant.1 c.loop-i-test.true _ refl in
    let told = c.tell-told.ensures in
    omega (arith, few, c.loop-i.invariant.1.0.counted.logged, told.more, entries_few told.over)

pub overflow_add-run-in-loop-i-3 : goal.overflow_add-run-in-loop-i-3
overflow_add-run-in-loop-i-3 c =
    let l = c.loop-i.run in
    omega (
      arith,
      steps_few c.args.file.now _ _ c.requires c.loop-i.invariant.1 c.loop-i-test.true _ refl,
      c.loop-i.invariant.1.0.counted.gone,
      c.tell-told.ensures.gone,
      gone_most (process_in c.ready-of.result) (get_or l.queues c.from-on.result fresh_held).resets c.step_slots-stepped.result.next,
    )

pub loop-i-preserved : goal.loop-i-preserved
loop-i-preserved c = (
  c.loop-i.invariant.0,
  ends c.args.file.now _ _ c.requires c.loop-i.invariant.1 c.loop-i-test.true _ c.from-at.ensures c.ready-of.ensures (sym c.rests.ensures ∙ c.if-rests.false)
      c.from-on.ensures c.queue_of-q.ensures c.step_slots-stepped.ensures c.after-then.ensures c.tell-told.ensures,
)

pub returns : goal.returns
returns c =
    walked_end (sizes_in c.args.shape) _ _ c.args.closing (calls_of c.args.file.now c.args.shape) c.args.schedule.now
    _ _ _ _ _ _ c.loop-i.invariant.1 c.loop-i-test.false
