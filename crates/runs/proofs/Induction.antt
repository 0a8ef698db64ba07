-- What each step keeps, a run keeps: one induction over the schedule, and one over the closing. `I n s` says something of a state s
-- that n steps have led to.
use Prim.Native.Nat.{ℕ, zero, suc, ◌+◌, ◌≤◌, ◌<◌}
use native.Mathlib.Numerals.{add-one}
use mathlib.Core.Path.{◌≡◌, refl, sym, ap, ◌∙◌, subst}
use mathlib.Core.Bool.{Bool, true, false, cond}
use mathlib.Core.List.{List, [], ◌∷◌, ◌++◌}
use native.Mathlib.Omega.{arith}
use borrow.Author.Tests.{ltb-true, ltb-false}
use lib.Dec.{ltb}
use lib.ListN.{length, get_or, take}
use lib.Seq.{take-suc}
use Rattle.word.specs.Stages.{is_idle}
use Rattle.steps.specs.declared.Next.{Next}
use Rattle.runfile.specs.File.{RunFile}
use Rattle.runfile.specs.declared.Call.{Call}
use Rattle.runs.specs.Moment.{queue_of, Ended}
use Rattle.runs.specs.Run.{play, lowest, closing_step, close, closing_steps, played, closed}
use Rattle.runs.specs.State.{Process, State, start, queue_at}
use Rattle.runs.specs.Turn.{turning, process_after, stepping, ending, act, idle, turn_as, turn}
use Rattle.base.proofs.Cases.{either_way}

-- a step of process p, whose record is r: what it leads to, what it ends, and the record after it
abbrev pub next_of : ℕ → ℕ → ℕ → Process → State → Next
next_of W C p r s = (stepping W C p r s).next

abbrev pub ended_by : ℕ → ℕ → ℕ → Process → State → Ended
ended_by W C p r s = ending p r s.bench (next_of W C p r s)

abbrev pub record_after : ℕ → ℕ → ℕ → Process → State → Process
record_after W C p r s = process_after s.bench.steps (queue_at s.bench (queue_of p r.call)).resets r (next_of W C p r s)

-- a turn is an idle step, or a step of a process in its call
pub turn_keeps : (W C : ℕ) (calls : List Call) (P : State → Type 0) (p : ℕ) (s : State) → P (idle s)
    → (is_idle (turning calls p s).stage ≡ false → P (act W C p (turning calls p s) s)) → P (turn W C calls p s)
unfolding turn turn_as
turn_keeps W C calls P p s idles acts = either_way P (is_idle (turning calls p s).stage) (λ e. idles) acts

-- the schedule, one step more
play_append : (W C : ℕ) (calls : List Call) (ps qs : List ℕ) (s : State) → play W C calls (ps ++ qs) s ≡ play W C calls qs (play W C calls ps s)
unfolding play
play_append W C calls [] qs s = refl
play_append W C calls (p ∷ ps) qs s = play_append W C calls ps qs (turn W C calls p s)

pub play_next : (W C : ℕ) (calls : List Call) (ps : List ℕ) (i : ℕ) (s : State) → i < length ps
    → play W C calls (take (i + 1) ps) s ≡ turn W C calls (get_or ps i 0) (play W C calls (take i ps) s)
unfolding play
play_next W C calls ps i s h = rw (add-one i, take-suc ps i 0 h) (play_append W C calls (take i ps) (get_or ps i 0 ∷ []) s)

-- the closing, one step more: once it is closed nothing changes
abbrev pub closes : ℕ → ℕ → State → State
closes W C s = cond (ltb (lowest s.bench.processes) 8) (closing_step W C s) s

close_done : (W C k : ℕ) (s : State) → ltb (lowest s.bench.processes) 8 ≡ false → close W C k s ≡ s
unfolding close
close_done W C zero s e = refl
close_done W C (suc k) s e = rw e

close_step : (W C k : ℕ) (s : State) → close W C (suc k) s ≡ close W C k (closes W C s)
unfolding close
close_step W C k s = by_test (ltb (lowest s.bench.processes) 8) refl
  where
    by_test : (t : Bool) → ltb (lowest s.bench.processes) 8 ≡ t → close W C (suc k) s ≡ close W C k (closes W C s)
    by_test true e = rw e
    by_test false e = rw e (sym (close_done W C k s e))

pub close_next : (W C k : ℕ) (s : State) → close W C (suc k) s ≡ closes W C (close W C k s)
unfolding close
close_next W C zero s = close_step W C 0 s
close_next W C (suc k) s = close_step W C (suc k) s ∙ close_next W C k (closes W C s) ∙ ap (closes W C) (sym (close_step W C k s))

-- an early end of the closing is its end
pub close_early : (W C i k : ℕ) (s : State) → ltb (lowest (close W C i s).bench.processes) 8 ≡ false → close W C (i + k) s ≡ close W C i s
unfolding close
close_early W C zero k s e = let n : 0 + k ≡ k = omega arith in rw n (close_done W C k s e)
close_early W C (suc i) k s e =
    let n : suc i + k ≡ suc (i + k) = omega arith in
    rw n (close_step W C (i + k) s ∙ close_early W C i k (closes W C s) (ap (λ (x : State). ltb (lowest x.bench.processes) 8) (sym (close_step W C i s)) ∙ e) ∙ sym (close_step W C i s))

-- how the closing ends: it has made at most so many steps, and fewer only where no process is half-done
pub record Closes (I : ℕ → State → Type 0) (n most : ℕ) (s : State) : Type 0 where
  pub made : ℕ
  pub few : made ≤ most
  pub over : made < most → 8 ≤ lowest s.bench.processes
  pub holds : I (n + made) s

module _ (I : ℕ → State → Type 0) where
  pub play_keeps : (W C : ℕ) (calls : List Call) → ((n p : ℕ) (s : State) → I n s → I (suc n) (turn W C calls p s))
      → (ps : List ℕ) (n : ℕ) (s : State) → I n s → I (n + length ps) (play W C calls ps s)
  unfolding play
  play_keeps W C calls turns [] n s h = subst (λ (m : ℕ). I m s) (omega arith) h
  play_keeps W C calls turns (p ∷ ps) n s h =
      let after : State = turn W C calls p s in
      subst (λ (m : ℕ). I m (play W C calls ps after)) (omega arith) (play_keeps W C calls turns ps (suc n) after (turns n p s h))

  no_steps : (n most : ℕ) (s : State) → (0 < most → 8 ≤ lowest s.bench.processes) → I n s → Closes I n most s
  no_steps n most s over h = record { made = 0; few = omega arith; over = over; holds = subst (λ (m : ℕ). I m s) (omega arith) h }

  one_more : (n most : ℕ) (s : State) → Closes I (suc n) most s → Closes I n (suc most) s
  one_more n most s c = record {
    made = suc c.made;
    few = omega arith;
    over = λ lt. c.over (omega arith);
    holds = subst (λ (m : ℕ). I m s) (omega arith) c.holds;
  }

  pub close_keeps : (W C : ℕ) → ((n : ℕ) (s : State) → lowest s.bench.processes < 8 → I n s → I (suc n) (closing_step W C s))
      → (k n : ℕ) (s : State) → I n s → Closes I n k (close W C k s)
  unfolding close
  close_keeps W C steps zero n s h = no_steps n zero s (λ lt. absurd (omega arith)) h
  close_keeps W C steps (suc k) n s h =
      let p : ℕ = lowest s.bench.processes in
      either_way (Closes I n (suc k)) (ltb p 8)
      (λ e. one_more n k (close W C k (closing_step W C s)) (close_keeps W C steps k (suc n) (closing_step W C s) (steps n s (ltb-true p 8 e) h)))
      (λ e. no_steps n (suc k) s (λ lt. ltb-false p 8 e) h)

-- a whole run
pub closed_keeps : (f : RunFile) (I : ℕ → State → Type 0)
    → ((n p : ℕ) (s : State) → I n s → I (suc n) (turn f.width f.size f.calls p s))
    → ((n : ℕ) (s : State) → lowest s.bench.processes < 8 → I n s → I (suc n) (closing_step f.width f.size s))
    → I 0 (start f) → Closes I (length f.schedule) closing_steps (closed f)
unfolding closed
closed_keeps f I turns steps h =
    let n : ℕ = length f.schedule in
    close_keeps I f.width f.size steps closing_steps n (played f)
    (subst (λ (m : ℕ). I m (played f)) (omega arith) (play_keeps I f.width f.size f.calls turns f.schedule 0 (start f) h))
