-- Each state of a run is reached by idle steps and steps in calls of its scripts: one induction over its schedule and its closing.
use Prim.Native.Nat.{ℕ, zero, suc, ◌≤◌, ◌<◌}
use mathlib.Core.Path.{◌≡◌, refl, sym, ap, ◌∙◌, subst}
use mathlib.Core.Bool.{false}
use mathlib.Core.List.{List}
use native.Mathlib.Decide.{dec_lt}
use native.Mathlib.Omega.{arith}
use borrow.Author.Tests.{ltb-true}
use lib.Dec.{ltb}
use lib.ListN.{length, get_or, take}
use lib.Seq.{take_all}
use native.Mathlib.Numerals.{add-one}
use Rattle.word.specs.Stages.{is_idle}
use Rattle.base.proofs.Cases.{either_way, ever}
use Rattle.runfile.specs.Encode.{InRanges}
use Rattle.runfile.specs.File.{RunFile}
use Rattle.runs.proofs.ClosingLaws.{lowest_busy}
use Rattle.runs.proofs.Induction.{play_next, closes, close_next}
use Rattle.runs.specs.Run.{play, lowest, close, closing_steps, closed}
use Rattle.runs.specs.States.{scheduled, closing, StateOf, at_schedule, at_closing}
use Rattle.runs.specs.State.{Process, State, process_at, start}
use Rattle.runs.specs.Turn.{act, turn, turning}
use Rattle.runs.proofs.Sound.{Steps, act_is, goes_on}
use Rattle.runs.specs.Inner.Sound.{Sound}
use Rattle.runs.proofs.Reached.{Reached, begins, idles, acts, sound as any_sound}
use Rattle.runs.proofs.Scripts.{sizes_of, fit, Scripted, Each, turn_case, each_act, each_start, start_fresh}

-- what holds in every state of every run of a good file of whoever steps next: of each process below P, with the record with which it makes its turn
abbrev pub WhoeverSteps : (RunFile → State → ℕ → Process → Type 0) → Type 0
WhoeverSteps Holds = (f : RunFile) → InRanges f → (s : State) → StateOf f s → (p : ℕ) → p < length f.shares → Holds f s p (turning f.calls p s)

-- one more step of the schedule
pub scheduled_0 : (f : RunFile) → scheduled f 0 ≡ start f
unfolding play
scheduled_0 f = refl

pub scheduled_next : (f : RunFile) (k : ℕ) → k < length f.schedule
    → scheduled f (suc k) ≡ turn f.width f.size f.calls (get_or f.schedule k 0) (scheduled f k)
scheduled_next f k lt =
    ap (λ (n : ℕ). play f.width f.size f.calls (take n f.schedule) (start f)) (sym (add-one k))
    ∙ play_next f.width f.size f.calls f.schedule k (start f) lt

-- one more step of the closing
pub closing_0 : (f : RunFile) → closing f 0 ≡ scheduled f (length f.schedule)
unfolding close
closing_0 f =
    ap (λ (l : List ℕ). play f.width f.size f.calls l (start f)) (sym (take_all (length f.schedule) f.schedule (omega arith)))

pub closing_next : (f : RunFile) (k : ℕ) → closing f (suc k) ≡ closes f.width f.size (closing f k)
closing_next f k = close_next f.width f.size k (play f.width f.size f.calls f.schedule (start f))

-- what is known of a record with which a process steps in the run
abbrev pub ByScript : RunFile → State → ℕ → Process → Type 0
ByScript f s p r = Scripted f p r × StateOf f s

-- a step of the closing is one of a half-done process in its call
pub closer : (f : RunFile) → InRanges f → (s : State) → Sound (sizes_of f) s → Each f s → lowest s.bench.processes < 8
    → let p : ℕ = lowest s.bench.processes in Steps (sizes_of f) s p (process_at s.bench p) × Scripted f p (process_at s.bench p)
closer f h s v c small = split (dec_lt p (length f.shares))
  where
    p : ℕ
    p = lowest s.bench.processes

    busy : is_idle (process_at s.bench (lowest s.bench.processes)).stage ≡ false
    busy = lowest_busy s.bench.processes (omega (arith, v.records))

    split : Dec (p < length f.shares) → Steps (sizes_of f) s p (process_at s.bench p) × Scripted f p (process_at s.bench p)
    split (yes lt) = (goes_on (sizes_of f) (fit f h) s v p lt busy, c p lt)
    split (no ge) = ever (sym (ap is_idle (v.absent p (omega arith))) ∙ busy)

-- each state of the run is reached by idle steps and steps in calls of the scripts
module _ (f : RunFile) (h : InRanges f) where
  abbrev Got : State → Type 0
  Got s = Reached (sizes_of f) (ByScript f) (start f) s × Each f s

  sound_of : (s : State) → Got s → Sound (sizes_of f) s
  sound_of s g = any_sound (sizes_of f) (fit f h) (ByScript f) (start f) (start_fresh f h) s g.0

  got_act : (s : State) → StateOf f s → Got s → (p : ℕ) (r : Process) → Steps (sizes_of f) s p r → Scripted f p r
      → Got (act f.width f.size p r s)
  got_act s i g p r k c =
      let v = sound_of s g in
      subst Got (sym (act_is (sizes_of f) s p r)) (acts s g.0 p r k (c, i), each_act f h s v g.1 p r k c)

  close_case : (s : State) → StateOf f s → Got s → Got (closes f.width f.size s)
  close_case s i g =
      either_way Got (ltb (lowest s.bench.processes) 8)
      (λ e. let k = closer f h s (sound_of s g) g.1 (ltb-true _ 8 e) in got_act s i g _ _ k.0 k.1) (λ e. g)

  played : (k : ℕ) → k ≤ length f.schedule → Got (scheduled f k)
  played zero le = subst Got (sym (scheduled_0 f)) (begins, each_start f h)
  played (suc k) le =
      let g : Got (scheduled f k) = played k (omega arith) in
      subst Got (sym (scheduled_next f k (omega arith)))
      (turn_case f h Got (scheduled f k) (sound_of (scheduled f k) g) g.1 (get_or f.schedule k 0) (h.schedule k (omega arith))
      (λ _. (idles (scheduled f k) g.0, g.1))
      (got_act (scheduled f k) (at_schedule k (omega arith)) g (get_or f.schedule k 0)))

  closed_too : (k : ℕ) → k ≤ closing_steps → Got (closing f k)
  closed_too zero le = subst Got (sym (closing_0 f)) (played (length f.schedule) (omega arith))
  closed_too (suc k) le = subst Got (sym (closing_next f k)) (close_case (closing f k) (at_closing k (omega arith)) (closed_too k (omega arith)))

  got : (s : State) → StateOf f s → Got s
  got s o = by s o
    where
      by : (s : State) → StateOf f s → Got s
      by s (at_schedule k le) = played k le
      by s (at_closing k le) = closed_too k le

  pub reached : (s : State) → StateOf f s → Reached (sizes_of f) (ByScript f) (start f) s
  reached s o = (got s o).0

  pub each_scripted : (s : State) → StateOf f s → Each f s
  each_scripted s o = (got s o).1

-- the end of the run is a state of it
pub the_end : (f : RunFile) → StateOf f (closed f)
unfolding closed
the_end f = at_closing closing_steps (omega arith)

-- in every state of a run of a good file all is in range, whatever its takes are
pub sound : (f : RunFile) → InRanges f → (s : State) → StateOf f s → Sound (sizes_of f) s
sound f h s o = any_sound (sizes_of f) (fit f h) (ByScript f) (start f) (start_fresh f h) s (reached f h s o)
