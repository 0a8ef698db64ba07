-- Where the bench's calls come from: each process is in a call of its own script, every push of the log is a call of the file that its process has
-- finished, and no two push one node.
use Prim.Native.Nat.{ℕ, zero, suc, ◌+◌, ◌-◌, ◌≤◌, ◌<◌}
use mathlib.Core.Path.{◌≡◌, refl, sym, ap, ◌∙◌, subst}
use mathlib.Core.Bool.{Bool, true, false, cond, ◌&&◌}
use mathlib.Core.List.{List, [], ◌∷◌}
use native.Mathlib.Decide.{dec_lt}
use native.Mathlib.Omega.{arith}
use lib.Dec.{ltb}
use lib.ListN.{length, get_or, take, get_or-eq_default}
use borrow.Author.Tests.{ltb-true}
use Rattle.base.proofs.Lists.{list_of-length, list_of_get_d}
use Rattle.word.specs.Stages.{is_idle}
use Rattle.base.proofs.Cases.{either_way, ever, if_set}
use Rattle.steps.specs.Step.{stage_after}
use Rattle.word.specs.declared.Stage.{Stage}
use Rattle.word.specs.declared.Stage.TheVariants.{Idle}
use Rattle.runfile.specs.Check.{sum}
use Rattle.runfile.specs.Encode.{CallInRange, InRanges}
use Rattle.runfile.specs.File.{RunFile}
use Rattle.runfile.specs.declared.Call.{Call}
use Rattle.runfile.specs.declared.Call.TheVariants.{Push, Pop, Take}
use Rattle.runs.specs.Moment.{queue_of}
use Rattle.runs.specs.State.{Process, State, nobody, scripted, queue_at, process_at, start}
use Rattle.runs.specs.Turn.{begun, ready, process_after, acted, act, idle, turn_as, turn}
use Rattle.runs.proofs.KindLaws.{idle_is}
use Rattle.runs.proofs.Sound.{Fresh, Steps, row_at, begins_call, goes_on}
use Rattle.runs.specs.Inner.Sound.{Sizes, Fit, CallIn, Sound}

abbrev pub sizes_of : RunFile → Sizes
sizes_of f = record { width = f.width; size = f.size; processes = length f.shares }

pub fit : (f : RunFile) → InRanges f → Fit (sizes_of f)
fit f h = record { width = h.width; size = h.size; processes = h.processes }

-- the calls of process p are those of the file from `low f p` to `high f p`
abbrev pub low : RunFile → ℕ → ℕ
low f p = sum (take p f.shares)

abbrev pub high : RunFile → ℕ → ℕ
high f p = sum (take (suc p) f.shares)

pub sum-take : (n : ℕ) (l : List ℕ) → sum (take n l) ≤ sum l
sum-take zero l = omega arith
sum-take (suc n) [] = omega arith
sum-take (suc n) (x ∷ l) = omega (arith, sum-take n l)

sum_next : (p : ℕ) (l : List ℕ) → sum (take p l) ≤ sum (take (suc p) l)
sum_next zero l = omega arith
sum_next (suc p) [] = omega arith
sum_next (suc p) (x ∷ l) = omega (arith, sum_next p l)

-- where the calls end that the process has finished; the one that it is in does not count
abbrev pub finished : Process → ℕ
finished r = cond (is_idle r.stage) r.next (r.next - 1)

-- a process's record: the call that it is in is the one before `next` of its own calls of the file
pub record Scripted (f : RunFile) (p : ℕ) (r : Process) : Type 0 where
  pub stop : r.stop ≡ high f p
  pub from : low f p ≤ finished r
  pub to : r.next ≤ r.stop
  pub begun : is_idle r.stage ≡ false → 1 ≤ r.next
  pub call : is_idle r.stage ≡ false → get_or f.calls (r.next - 1) Pop ≡ r.call

abbrev pub Each : RunFile → State → Type 0
Each f s = (p : ℕ) → p < length f.shares → Scripted f p (process_at s.bench p)

module _ (f : RunFile) (h : InRanges f) where
  call_in_lem : (call : Call) → CallInRange (length f.shares) call → CallIn (length f.shares) call
  call_in_lem (Push node) c = tt
  call_in_lem Pop c = tt
  call_in_lem (Take q) c = c

  -- the record with which a process makes a schedule step: idle with no call left, or in a call
  pub ready_case : (Q : Process → Type 0) (s : State) → Sound (sizes_of f) s → Each f s → (p : ℕ) → p < length f.shares
      → (is_idle (process_at s.bench p).stage ≡ true → Q (process_at s.bench p))
      → ((r : Process) → Steps (sizes_of f) s p r → Scripted f p r → Q r)
      → Q (ready f.calls s.bench.steps (process_at s.bench p))
  ready_case Q s v e p lt i a =
      by (is_idle (process_at s.bench p).stage) refl (ltb (process_at s.bench p).next (process_at s.bench p).stop) refl
    where
      starts : (process_at s.bench p).stage ≡ Idle → (process_at s.bench p).next < (process_at s.bench p).stop
          → Q (begun s.bench.steps (get_or f.calls (process_at s.bench p).next Pop) (process_at s.bench p))
      starts z l =
          let r : Process = process_at s.bench p in
          let o = e p lt in
          let c : Call = get_or f.calls r.next Pop in
          let w : low f p ≤ r.next = subst (λ (x : Stage). low f p ≤ cond (is_idle x) r.next (r.next - 1)) z o.from in
          let ok : CallInRange (length f.shares) c = h.calls r.next (omega (arith, o.stop, h.count, sum-take (suc p) f.shares)) in
          let k = begins_call (sizes_of f) (fit f h) s p lt z c (call_in_lem c ok) in
          let d : r.next + 1 - 1 ≡ r.next = omega arith in
          a _ k (record {
            stop = o.stop;
            from = rw k.busy (omega arith);
            to = omega arith;
            begun = λ _. omega arith;
            call = λ _. ap (λ (j : ℕ). get_or f.calls j Pop) d;
          })

      by : (t : Bool) → is_idle (process_at s.bench p).stage ≡ t → (u : Bool)
          → ltb (process_at s.bench p).next (process_at s.bench p).stop ≡ u
          → Q (cond (t && u) (begun s.bench.steps (get_or f.calls (process_at s.bench p).next Pop) (process_at s.bench p)) (process_at s.bench p))
      by true z true d = starts (idle_is _ z) (ltb-true _ _ d)
      by true z false d = i z
      by false z u d = a _ (goes_on (sizes_of f) (fit f h) s v p lt z) (e p lt)

  -- a turn of the schedule is an idle step, or a step in a call
  pub turn_case : (Q : State → Type 0) (s : State) → Sound (sizes_of f) s → Each f s → (p : ℕ) → p < length f.shares
      → (is_idle (process_at s.bench p).stage ≡ true → Q (idle s))
      → ((r : Process) → Steps (sizes_of f) s p r → Scripted f p r → Q (act f.width f.size p r s)) → Q (turn f.width f.size f.calls p s)
  unfolding turn
  turn_case Q s v e p lt i a =
      ready_case (λ (r : Process). Q (turn_as f.width f.size p s r)) s v e p lt
      (λ z. either_way Q (is_idle (process_at s.bench p).stage) (λ c. i z) (λ c. ever (sym z ∙ c)))
      (λ r k c. either_way Q (is_idle r.stage) (λ z. ever (sym z ∙ k.busy)) (λ z. a r k c))

  -- the step keeps each process in its script
  module _ (s : State) (v : Sound (sizes_of f) s) (e : Each f s) (p : ℕ) (r : Process) (k : Steps (sizes_of f) s p r) (c : Scripted f p r) where
    abbrev r' : Process
    r' = process_after s.bench.steps (queue_at s.bench (queue_of p r.call)).resets r (row_at (sizes_of f) s p r).next

    finished_up : (z : Stage) → low f p ≤ r.next - 1 → low f p ≤ cond (is_idle z) r.next (r.next - 1)
    finished_up z a = either_way (λ (x : ℕ). low f p ≤ x) (is_idle z) (λ e. omega arith) (λ e. a)

    scripted_after : Scripted f p r'
    scripted_after = record {
      stop = c.stop;
      from =
          finished_up (stage_after (row_at (sizes_of f) s p r).next)
          (subst (λ (b : Bool). low f p ≤ cond b r.next (r.next - 1)) k.busy c.from);
      to = c.to;
      begun = λ _. c.begun k.busy;
      call = λ _. c.call k.busy;
    }

    pub each_act : Each f (acted p r s (row_at (sizes_of f) s p r))
    each_act j lt = if_set (λ (x : Process). Scripted f j x) s.bench.processes p j r' nobody (omega (arith, k.below, v.records, h.processes))
        (λ d. rw d scripted_after) (λ d. e j lt)

  -- all 0 at first
  first_at : (p : ℕ) → p < 8 → process_at (start f).bench p ≡ scripted f.shares p
  first_at p lt = list_of_get_d 8 (scripted f.shares) nobody p lt

  pub each_start : Each f (start f)
  each_start p lt = rw (first_at p (omega (arith, h.processes))) (record {
    stop = refl;
    from = omega arith;
    to = sum_next p f.shares;
    begun = λ e. ever e;
    call = λ e. ever e;
  })

  pub start_fresh : Fresh (sizes_of f) (start f)
  start_fresh = record {
    queues = refl;
    slots = refl;
    records = list_of-length 8 (scripted f.shares);
    idle = λ p. out (λ (x : Process). x.stage ≡ Idle) refl (λ j. refl) p (dec_lt p 8);
    queue = λ p lt. rw (first_at p (omega (arith, h.processes))) lt;
    begun = λ p. out (λ (x : Process). x.start ≤ 0) (omega arith) (λ j. omega arith) p (dec_lt p 8);
    log = refl;
    gone = refl;
  }
    where
      out : (Q : Process → Type 0) → Q nobody → ((j : ℕ) → Q (scripted f.shares j)) → (p : ℕ) → Dec (p < 8) → Q (process_at (start f).bench p)
      out Q a b p (yes lt) = subst Q (sym (first_at p lt)) (b p)
      out Q a b p (no ge) = subst Q (sym (get_or-eq_default (start f).bench.processes nobody {n = p} (omega arith))) a
