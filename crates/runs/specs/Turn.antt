-- One step of a run: document 01, "Steps of the queue", through the step of the crate `queue`.
use Rattle.std.specs.Prelude.{ℕ, ◌+◌, cond, ◌&&◌, ltb, List, [], ◌∷◌, ◌++◌, get_or, set}
use Rattle.call_log.specs.declared.Entry.{Entry}
use Rattle.word.specs.{Stages.is_idle, Stages.at_t1, Stages.at_b2, declared.Stage.Stage}
use Rattle.word.specs.declared.Stage.TheVariants.{P1, T1, B1}
use Rattle.steps.specs.{Step.stored, Step.stepped_on, Step.stage_after, declared.Next.Next, Step.Stepped}
use Rattle.runfile.specs.{declared.Call.Call, declared.Call.TheVariants.Push, declared.Call.TheVariants.Pop, declared.Call.TheVariants.Take}
use Rattle.runs.specs.Moment.{queue_of, Ended, Nothing, ends, ended, gone_round}
use Rattle.runs.specs.State.{Queue, Process, Bench, State, queue_at, process_at}

abbrev pub first_stage : Call → Stage
first_stage (Push node) = P1 node
first_stage Pop = B1
first_stage (Take q) = T1

-- a call starts at its first step
abbrev pub begun : ℕ → Call → Process → Process
begun n call r =
    record { stage = first_stage call; call = call; next = r.next + 1; stop = r.stop; start = n; b2 = r.b2; resets_at_t1 = r.resets_at_t1 }

-- an idle process with a call left begins it
abbrev pub ready : List Call → ℕ → Process → Process
ready calls n r = cond (is_idle r.stage && ltb r.next r.stop) (begun n (get_or calls r.next Pop) r) r

-- the record after step n of its process; `resets` are those of its queue before the step
abbrev pub process_after : ℕ → ℕ → Process → Next → Process
process_after n resets r next = record {
  stage = stage_after next;
  call = r.call;
  next = r.next;
  stop = r.stop;
  start = r.start;
  b2 = cond (at_b2 r.stage) n r.b2;
  resets_at_t1 = cond (at_t1 r.stage) resets r.resets_at_t1;
}

abbrev pub queue_after : Queue → Stepped → Queue
queue_after m o = record { word = o.word; resets = cond o.reset (m.resets + 1) m.resets }

abbrev pub entries_in : Ended → List Entry
entries_in Nothing = []
entries_in (ends e) = e ∷ []

-- the bench after a step of process p, with the record r, on queue q; `made` is the step of the queue
abbrev pub bench_after : Bench → ℕ → ℕ → Process → Stepped → Bench
bench_after b p q r made = record {
  queues = set b.queues q (queue_after (queue_at b q) made);
  processes = set b.processes p (process_after b.steps (queue_at b q).resets r made.next);
  steps = b.steps + 1;
  gone = b.gone + gone_round r (queue_at b q).resets made.next;
}

-- the step of the queue that process p, whose record is r, works on
abbrev pub stepping : ℕ → ℕ → ℕ → Process → State → Stepped
stepping W C p r s =
    let q : ℕ = queue_of p r.call in
    stepped_on W C (queue_at s.bench q).word (get_or s.slots q []) r.stage

-- what that step, with what follows it, ends
abbrev pub ending : ℕ → Process → Bench → Next → Ended
ending p r b next =
    let q : ℕ = queue_of p r.call in
    ended p b.steps r (process_at b q) (queue_at b q).word.top next

abbrev pub acted : ℕ → Process → State → Stepped → State
acted p r s made =
    let q : ℕ = queue_of p r.call in
    record {
      bench = bench_after s.bench p q r made;
      slots = set s.slots q (stored (get_or s.slots q []) made.store);
      log = s.log ++ entries_in (ending p r s.bench made.next);
    }

-- a step of process p in its call
unfoldable pub act : ℕ → ℕ → ℕ → Process → State → State
act W C p r s = acted p r s (stepping W C p r s)

-- an idle step counts and alters nothing
abbrev pub idle_step : Bench → Bench
idle_step b = record { queues = b.queues; processes = b.processes; steps = b.steps + 1; gone = b.gone }

abbrev pub idle : State → State
idle s = record { bench = idle_step s.bench; slots = s.slots; log = s.log }

-- a schedule step of process p
unfoldable pub turn_as : ℕ → ℕ → ℕ → State → Process → State
unfolding act
turn_as W C p s r = cond (is_idle r.stage) (idle s) (act W C p r s)

-- the record with which process p makes its turn
abbrev pub turning : List Call → ℕ → State → Process
turning calls p s = ready calls s.bench.steps (process_at s.bench p)

unfoldable pub turn : ℕ → ℕ → List Call → ℕ → State → State
unfolding turn_as
turn W C calls p s = turn_as W C p s (turning calls p s)
