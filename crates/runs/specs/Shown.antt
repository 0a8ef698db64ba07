-- What is shown of every run of a good file, gone-round runs included.
use Rattle.std.specs.Prelude.{ℕ, zero, suc, ◌+◌, ◌-◌, ◌<◌, ◌≤◌, true, false, cond, ◌&&◌, ltb, leb, eqb, List, [], ◌∷◌, map, length, get_or, take, Some, ◌↔◌, ◌≡◌}
use Rattle.base.specs.{Bytes.Bytes, Lists.All}
use Rattle.call_log.specs.{Numbers.push, Numbers.bottom_pop, Numbers.lost, declared.Entry.Entry}
use Rattle.word.specs.{Range.in_range, Stages.is_idle, declared.Stage.Stage, declared.Word.Word, declared.Stage.TheVariants.T4}
use Rattle.steps.specs.Step.{same_age, loaded_slot}
use Rattle.runfile.specs.{Check.sum, Encode.InRanges, File.RunFile, File.script, declared.Call.Call}
use Rattle.runfile.specs.declared.Call.TheVariants.{Push, Pop, Take}
use Rattle.runs.specs.{Moment.queue_of, Moment.Ended, Moment.Nothing, Moment.ends, State.Process, State.State, State.queue_at, State.process_at}
use Rattle.runs.specs.{Run.lowest, Run.closing_steps, Run.closed, Run.run_of, States.closing, States.StateOf, Turn.stepping, Turn.ending, Turn.turning}

-- a stage at T4 that finds another age than T1 loaded
abbrev pub FailsT4 : Word → Stage → Type 0
FailsT4 w z = (t : ℕ) × (g : ℕ) × (b : ℕ) × (x : ℕ) × (z ≡ T4 t g b x) × (same_age w t g ≡ false)

abbrev pub Writes3 : Ended → Type 0
Writes3 Nothing = ⊥
Writes3 (ends e) = e.result ≡ lost

-- of whoever steps next,
pub record NextStep (f : RunFile) (s : State) (p : ℕ) (r : Process) : Type 0 where
  -- that it loads and stores slots below C only;
  pub loads : (at : ℕ) → loaded_slot r.stage ≡ Some at → at < f.size
  pub stores : (at node : ℕ) → is_idle r.stage ≡ false → (stepping f.width f.size p r s).store ≡ Some (record { at = at; node = node }) → at < f.size
  -- that it is in range, as the desk has it: the word and the slots of its queue, and its stage;
  pub in_range : let q : ℕ = queue_of p r.call in
      in_range f.width f.size (length (get_or s.slots q [])) (queue_at s.bench q).word r.stage ≡ true
  -- and that result 3 is written exactly for NIL at T4 (C-15)
  pub lost_3 : Writes3 (ending p r s.bench (stepping f.width f.size p r s).next)
      ↔ FailsT4 (queue_at s.bench (queue_of p r.call)).word r.stage

-- who makes step n of a run: by the schedule, and after it the lowest half-done process
abbrev pub who_steps : RunFile → ℕ → ℕ
who_steps f n = cond (ltb n (length f.schedule)) (get_or f.schedule n 0) (lowest (closing f (n - length f.schedule)).bench.processes)

-- how many of the steps before step n, from step `from` on, process p makes
abbrev pub own_steps : RunFile → ℕ → ℕ → ℕ → ℕ
own_steps f p from zero = 0
own_steps f p from (suc n) = own_steps f p from n + cond (leb from n && eqb (who_steps f n) p) 1 0

-- a push takes at most 3 of its own steps, a top pop 4, a bottom pop 7
abbrev pub own_most : ℕ → ℕ
own_most kind = cond (eqb kind push) 3 (cond (eqb kind bottom_pop) 7 4)

-- the entries of process p, in order
abbrev pub entries_of : ℕ → List Entry → List Entry
entries_of p [] = []
entries_of p (e ∷ es) = cond (eqb e.process p) (e ∷ entries_of p es) (entries_of p es)

-- the call that an entry tells of
abbrev pub call_in : Entry → Call
call_in e = cond (eqb e.kind push) (Push e.node) (cond (eqb e.kind bottom_pop) Pop (Take e.queue))

-- how many calls of its script, which stands after those of the processes below it, process p has begun
abbrev pub calls_begun : RunFile → State → ℕ → ℕ
calls_begun f s p = (process_at s.bench p).next - sum (take p f.shares)

-- every call that was begun is in the log once: of each process below P, the entries tell in order of its script's calls, and no other has an entry
pub record BegunOnce (f : RunFile) (s : State) : Type 0 where
  pub told : (p : ℕ) → p < length f.shares → map call_in (entries_of p s.log) ≡ take (calls_begun f s p) (script f p)
  pub place : (p : ℕ) → p < length f.shares → (process_at s.bench p).next ≡ sum (take p f.shares) + calls_begun f s p
  pub within : (p : ℕ) → p < length f.shares → calls_begun f s p ≤ get_or f.shares p 0
  pub below : (k : ℕ) (d : Entry) → k < length s.log → (get_or s.log k d).process < length f.shares

pub record Shown : Type 0 where
  -- a run has at most 4,096 + 48 steps,
  pub steps_most : (f : RunFile) → InRanges f → (closed f).bench.steps ≤ 4096 + closing_steps
  -- and after the closing no process is half-done
  pub all_closed : (f : RunFile) (p : ℕ) → is_idle (process_at (closed f).bench p).stage ≡ true
  -- in every state of a run whoever steps next, with the record with which it makes its turn, is in range,
  pub next_step : (f : RunFile) → InRanges f → (s : State) → StateOf f s → (p : ℕ) → p < length f.shares → NextStep f s p (turning f.calls p s)
  -- so number 9 is no longer one that a run gives
  pub never_9 : (file : List ℕ) → Bytes file → (room : ℕ) → (run_of file room).number ≡ 9 → ⊥
  -- each call makes at most so many of its own steps, from its start to its end, whatever others do between
  pub own_steps_most : (f : RunFile) → InRanges f
      → All (λ (e : Entry). own_steps f e.process e.start (suc e.end) ≤ own_most e.kind) (closed f).log
  pub begun_once : (f : RunFile) → InRanges f → BegunOnce f (closed f)
