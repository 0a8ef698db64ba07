-- A run has at most 4,096 + 48 steps, and after its closing no process is half-done: document 01, "Steps of the queue".
use Prim.Native.Nat.{ℕ, zero, suc, ◌+◌, ◌-◌, ◌*◌, ◌≤◌, ◌<◌}
use mathlib.Core.Path.{◌≡◌, refl, sym, ap, ◌∙◌}
use mathlib.Core.Bool.{true, false, true≢false}
use mathlib.Core.List.{List, [], ◌∷◌}
use native.Mathlib.Omega.{arith}
use native.Mathlib.Decide.{dec_lt}
use lib.ListN.{length, get_or, set, length-set}
use Rattle.base.specs.Lists.{list_of}
use Rattle.word.specs.Stages.{is_idle}
use Rattle.word.specs.Inner.StepsLeft.{steps_left}
use Rattle.steps.specs.Step.{loaded, loaded_slot, stage_after}
use Rattle.steps.proofs.StepLaws.{lowers, returned}
use Rattle.word.specs.declared.Stage.{Stage}
use Rattle.word.specs.declared.Stage.TheVariants.{Idle, P1, P2, P3, T1, T2, T3, T4, B1, B2, B3, B4, B5, B6, B7}
use Rattle.runfile.specs.{Encode.InRanges, File.RunFile}
use Rattle.runfile.specs.declared.Call.{Call}
use Rattle.runs.specs.Moment.{queue_of}
use Rattle.runs.specs.Run.{lowest, closing_steps, closed, closing_step, played}
use Rattle.runs.proofs.Induction.{next_of, record_after, turn_keeps, Closes, play_keeps, close_keeps, closed_keeps}
use Rattle.runs.specs.State.{Process, State, fresh, nobody, scripted, start, queue_at, process_at}
use Rattle.runs.specs.Turn.{act, turn, turning}
use Rattle.base.proofs.Cases.{either_way}
use Rattle.runs.proofs.TurnLaws.{got}

-- the steps are numbered from 0
abbrev Numbered : ℕ → State → Type 0
Numbered n s = s.bench.steps ≡ n

pub act_numbered : (W C n p : ℕ) (r : Process) (s : State) → Numbered n s → Numbered (suc n) (act W C p r s)
unfolding act
act_numbered W C n p r s h = omega arith

pub turn_numbered : (W C : ℕ) (calls : List Call) (n p : ℕ) (s : State) → Numbered n s → Numbered (suc n) (turn W C calls p s)
turn_numbered W C calls n p s h =
    turn_keeps W C calls (Numbered (suc n)) p s (omega arith) (λ e. act_numbered W C n p (turning calls p s) s h)

closing_numbered : (W C n : ℕ) (s : State) → lowest s.bench.processes < 8 → Numbered n s → Numbered (suc n) (closing_step W C s)
closing_numbered W C n s lt h =
    let p : ℕ = lowest s.bench.processes in
    act_numbered W C n p (process_at s.bench p) s h

numbered : (f : RunFile) → Closes Numbered (length f.schedule) closing_steps (closed f)
numbered f = closed_keeps f Numbered (turn_numbered f.width f.size f.calls) (closing_numbered f.width f.size) refl

-- no stage has more than seven steps left, and one with none left is idle
most_left : (z : Stage) → steps_left z ≤ 7
most_left Idle = omega arith
most_left (P1 node) = omega arith
most_left (P2 node b) = omega arith
most_left (P3 b) = omega arith
most_left T1 = omega arith
most_left (T2 t g) = omega arith
most_left (T3 t g b) = omega arith
most_left (T4 t g b x) = omega arith
most_left B1 = omega arith
most_left (B2 b) = omega arith
most_left (B3 b) = omega arith
most_left (B4 b x) = omega arith
most_left (B5 b x t g) = omega arith
most_left (B6 b x t g) = omega arith
most_left (B7 b x t g) = omega arith

pub none_left : (z : Stage) → steps_left z ≤ 0 → is_idle z ≡ true
none_left z h = ap is_idle (returned 0 0 (λ k. fresh.word) (λ k. 0) 0 z h)

pub some_left : (z : Stage) → is_idle z ≡ false → 1 ≤ steps_left z
some_left z e = split (dec_lt 0 (steps_left z))
  where
    split : Dec (0 < steps_left z) → 1 ≤ steps_left z
    split (yes h) = h
    split (no h) = absurd (true≢false (sym (none_left z (omega arith)) ∙ e))

-- a step lowers what is left
pub step_lowers : (W C p : ℕ) (r : Process) (s : State) → steps_left (stage_after (next_of W C p r s)) ≤ steps_left r.stage - 1
step_lowers W C p r s =
    let q : ℕ = queue_of p r.call in
    lowers W C (queue_at s.bench q).word (loaded (get_or s.slots q []) (loaded_slot r.stage)) r.stage

-- before the closing: there are eight processes, and each half-done one has made a step of its call
pub record Sixes (s : State) : Type 0 where
  pub eight : length s.bench.processes ≡ 8
  pub six : (p : ℕ) → steps_left (process_at s.bench p).stage ≤ 6

act_sixes : (W C p : ℕ) (r : Process) (s : State) → Sixes s → Sixes (act W C p r s)
unfolding act
act_sixes W C p r s h = record {
  eight = length-set s.bench.processes p (record_after W C p r s) ∙ h.eight;
  six = got (λ (x : Process). steps_left x.stage ≤ 6) s.bench.processes p (record_after W C p r s) nobody
      (omega (arith, step_lowers W C p r s, most_left r.stage)) h.six;
}

turn_sixes : (W C : ℕ) (calls : List Call) (p : ℕ) (s : State) → Sixes s → Sixes (turn W C calls p s)
turn_sixes W C calls p s h =
    turn_keeps W C calls Sixes p s (record { eight = h.eight; six = h.six }) (λ e. act_sixes W C p (turning calls p s) s h)

start_sixes : (f : RunFile) → Sixes (start f)
start_sixes f = record { eight = refl; six = got_all 8 (scripted f.shares) (λ p. omega arith) }
  where
    got_all : (n : ℕ) (of : ℕ → Process) → ((p : ℕ) → steps_left (of p).stage ≤ 6)
        → (p : ℕ) → steps_left (get_or (list_of n of) p nobody).stage ≤ 6
    got_all zero of h p = omega arith
    got_all (suc n) of h zero = h 0
    got_all (suc n) of h (suc p) = got_all n (λ i. of (suc i)) (λ i. h (suc i)) p

pub played_sixes : (f : RunFile) → Sixes (played f)
played_sixes f =
    play_keeps (λ n s. Sixes s) f.width f.size f.calls (λ n p s. turn_sixes f.width f.size f.calls p s)
    f.schedule 0 (start f) (start_sixes f)

-- the steps that all processes have left
abbrev all_left : List Process → ℕ
all_left [] = 0
all_left (r ∷ rs) = steps_left r.stage + all_left rs

all_set : (l : List Process) (p : ℕ) (r : Process) → p < length l
    → all_left (set l p r) + steps_left (get_or l p nobody).stage ≡ all_left l + steps_left r.stage
all_set [] p r h = absurd (omega arith)
all_set (x ∷ l) zero r h = omega arith
all_set (x ∷ l) (suc p) r h = omega (arith, all_set l p r (omega arith))

all_most : (l : List Process) → ((p : ℕ) → steps_left (get_or l p nobody).stage ≤ 6) → all_left l ≤ 6 * length l
all_most [] h = omega arith
all_most (x ∷ l) h = omega (arith, h 0, all_most l (λ p. h (suc p)))

-- the lowest half-done process is half-done
pub lowest_busy : (l : List Process) → lowest l < length l → is_idle (get_or l (lowest l) nobody).stage ≡ false
lowest_busy [] h = absurd (omega arith)
lowest_busy (x ∷ l) h =
    either_way (λ (p : ℕ). p < suc (length l) → is_idle (get_or (x ∷ l) p nobody).stage ≡ false) (is_idle x.stage)
    (λ e lt. lowest_busy l (omega arith)) (λ e lt. e) h

-- where nothing is left there is none, and where there is none all are idle
lowest_none : (l : List Process) → all_left l ≤ 0 → lowest l ≡ length l
lowest_none [] h = refl
lowest_none (x ∷ l) h = rw (none_left x.stage (omega arith)) (ap suc (lowest_none l (omega arith)))

lowest_most : (l : List Process) → lowest l ≤ length l
lowest_most [] = omega arith
lowest_most (x ∷ l) = either_way (λ (n : ℕ). n ≤ suc (length l)) (is_idle x.stage) (λ e. omega (arith, lowest_most l)) (λ e. omega arith)

head_idle : (x : Process) (l : List Process) → length (x ∷ l) ≤ lowest (x ∷ l) → (is_idle x.stage ≡ true) × (length l ≤ lowest l)
head_idle x l =
    either_way (λ (p : ℕ). suc (length l) ≤ p → (is_idle x.stage ≡ true) × (length l ≤ lowest l)) (is_idle x.stage)
    (λ e h. (e, omega arith)) (λ e h. absurd (omega arith))

all_idle : (l : List Process) → length l ≤ lowest l → (p : ℕ) → is_idle (get_or l p nobody).stage ≡ true
all_idle [] h p = refl
all_idle (x ∷ l) h zero = (head_idle x l h).0
all_idle (x ∷ l) h (suc p) = all_idle l (head_idle x l h).1 p

-- in the closing: each step is one fewer that is left
record Spends (most n : ℕ) (s : State) : Type 0 where
  eight : length s.bench.processes ≡ 8
  left : n + all_left s.bench.processes ≤ most

closing_spends : (W C most n : ℕ) (s : State) → lowest s.bench.processes < 8 → Spends most n s → Spends most (suc n) (closing_step W C s)
unfolding act
closing_spends W C most n s lt h =
    let l : List Process = s.bench.processes in
    let p : ℕ = lowest l in
    let r : Process = process_at s.bench p in
    let there : p < length l = omega (arith, h.eight) in record {
      eight = length-set l p (record_after W C p r s) ∙ h.eight;
      left = omega (arith, h.left, all_set l p (record_after W C p r s) there, step_lowers W C p r s, some_left r.stage (lowest_busy l there));
    }

spent : (f : RunFile) → Closes (Spends closing_steps) 0 closing_steps (closed f)
unfolding closed
spent f =
    let h : Sixes (played f) = played_sixes f in
    close_keeps (Spends closing_steps) f.width f.size (closing_spends f.width f.size closing_steps) closing_steps 0 (played f)
    (record { eight = h.eight; left = omega (arith, h.eight, all_most (played f).bench.processes h.six) })

none_half_done : (s : State) → Closes (Spends closing_steps) 0 closing_steps s → lowest s.bench.processes ≡ 8
none_half_done s c = split (dec_lt c.made closing_steps)
  where
    l : List Process
    l = s.bench.processes

    split : Dec (c.made < closing_steps) → lowest l ≡ 8
    split (yes lt) = omega (arith, c.over lt, lowest_most l, c.holds.eight)
    split (no ge) = lowest_none l (omega (arith, c.few, c.holds.left)) ∙ c.holds.eight

-- each entry of the schedule is one step
pub schedule_steps : (f : RunFile) → (played f).bench.steps ≡ length f.schedule
schedule_steps f =
    play_keeps Numbered f.width f.size f.calls (turn_numbered f.width f.size f.calls) f.schedule 0 (start f) refl
    ∙ omega arith

-- the closing has at most 48
pub closing_steps_lem : (f : RunFile) → (closed f).bench.steps ≤ length f.schedule + closing_steps
closing_steps_lem f = let c = numbered f in omega (arith, c.few, c.holds)

-- a run has at most 4,096 + 48 steps
pub steps_most : (f : RunFile) → InRanges f → (closed f).bench.steps ≤ 4096 + closing_steps
steps_most f h = omega (arith, closing_steps_lem f, h.steps)

-- after the closing no process is half-done
pub all_closed : (f : RunFile) → lowest (closed f).bench.processes ≡ 8
all_closed f = none_half_done (closed f) (spent f)

pub all_closed_idle : (f : RunFile) (p : ℕ) → is_idle (process_at (closed f).bench p).stage ≡ true
all_closed_idle f = all_idle (closed f).bench.processes (omega (arith, all_closed f, (spent f).holds.eight))
