-- Every run of a good file can be replayed at the desk: each stage that it reaches is accepted, and the table is the same at the end.
use Prim.Native.Nat.{ℕ, zero, suc, ◌+◌, ◌/◌, ◌%◌, ◌<◌}
use mathlib.Core.Path.{◌≡◌, refl, sym, ap, ◌∙◌, subst}
use mathlib.Core.Bool.{Bool, true, false, cond}
use mathlib.Core.List.{List, [], ◌∷◌, ◌++◌, map}
use native.Mathlib.Numerals.{add-one}
use native.Mathlib.Omega.{arith}
use borrow.Author.Tests.{ltb-true}
use lib.Dec.{ltb}
use lib.ListN.{length, get_or, take, drop, get_or-map}
use lib.Seq.{take-nil, slice}
use Rattle.base.specs.Lists.{list_of}
use Rattle.word.specs.Stages.{is_idle}
use Rattle.word.specs.declared.Stage.TheVariants.{Idle}
use Rattle.runfile.specs.Check.{sum}
use Rattle.runfile.proofs.CheckLaws.{sum_next}
use Rattle.runfile.specs.Encode.{InRanges}
use Rattle.runfile.specs.File.{RunFile, good, script}
use Rattle.runs.proofs.ClosingLaws.{all_closed}
use Rattle.runs.specs.Run.{Outcome, play, lowest, close, closing_steps, closed, table_row, table_at, table_size, finished, played, closing_step}
use Rattle.runs.specs.State.{Process, Queue, State, fresh, process_at, start}
use Rattle.runs.specs.Turn.{turn, turning}
use Rattle.runs.proofs.InRange.{run_cases}
use Rattle.runs.proofs.States.{closer}
use Rattle.theorems.specs.Replay.{fresh_table, numbers, Lent, replay, Sheet, lowest_half_done, sheet_after, fresh_sheet, Accepts, lent_with}
use Rattle.theorems.specs.Replay.{lent_playing, lent_closing, lent_by, table_of, Replayed, EveryRunReplayed, OnlyWay}
use Rattle.theorems.proofs.Replay.ReplayStep.{note_of, sheet_of, Step, act_step, after_act, turn_step, after_turn}
use Rattle.runs.proofs.Sound.{sound_fresh}
use Rattle.runs.specs.Inner.Sound.{Sound}
use Rattle.runs.proofs.Scripts.{sizes_of, fit, Each, each_start, start_fresh}

-- the stages ls replay what is left of a run from s on, with ps left of the schedule; it ends in the state e
record Replays (f : RunFile) (e : State) (ps : List ℕ) (s : State) (ls : List Lent) : Type 0 where
  accepts : Accepts f.width f.size (sheet_of f ps s) ls
  queues : replay f.width f.size (table_of s) ls ≡ table_of e
  count : s.bench.steps + length ls ≡ e.bench.steps

one_more : (f : RunFile) (e : State) (ps : List ℕ) (s s' : State) (l : Lent) (ls : List Lent) → Step f ps s l s' → Replays f e (drop 1 ps) s' ls
    → Replays f e ps s (l ∷ ls)
one_more f e ps s s' l ls a b = record {
  accepts = (a.going, a.next, a.number, subst (λ (x : Sheet). Accepts f.width f.size x ls) (sym a.after) b.accepts);
  queues = ap (λ (x : Sheet). replay f.width f.size x.table ls) a.after ∙ b.queues;
  count = omega (arith, a.count, b.count);
}

-- the notes show who is half-done
half_done_lem : (f : RunFile) (l : List Process) → lowest_half_done (map (note_of f) l) ≡ lowest l
half_done_lem f [] = refl
half_done_lem f (r ∷ l) = ap (λ (n : ℕ). cond (is_idle r.stage) (suc n) 0) (half_done_lem f l)

no_more : (f : RunFile) (s : State) → lowest s.bench.processes ≡ 8 → Replays f s [] s []
no_more f s e = record { accepts = half_done_lem f s.bench.processes ∙ e; queues = refl; count = omega arith }

module _ (f : RunFile) (h : InRanges f) where
  abbrev W : ℕ
  W = f.width

  abbrev C : ℕ
  C = f.size

  replays_closing : (k : ℕ) (s : State) → Sound (sizes_of f) s × Each f s → lowest (close W C k s).bench.processes ≡ 8
      → Replays f (close W C k s) [] s (lent_closing W C k s)
  unfolding close lent_closing
  replays_closing zero s v e = no_more f s e
  replays_closing (suc k) s v e =
      by (ltb p 8) refl e (λ lt. replays_closing k s' (let cl = closer f h s v.0 v.1 lt in after_act f h s v.0 v.1 p r cl.0 cl.1))
    where
      p : ℕ
      p = lowest s.bench.processes

      r : Process
      r = process_at s.bench p

      s' : State
      s' = closing_step W C s

      by : (t : Bool) → ltb p 8 ≡ t → lowest (cond t (close W C k s') s).bench.processes ≡ 8
          → (p < 8 → lowest (close W C k s').bench.processes ≡ 8 → Replays f (close W C k s') [] s' (lent_closing W C k s'))
          → Replays f (cond t (close W C k s') s) [] s (cond t (lent_with p r ∷ lent_closing W C k s') [])
      by true d z more =
          let lt : p < 8 = ltb-true p 8 d in
          one_more f (close W C k s') [] s s' (lent_with p r) (lent_closing W C k s')
          (let cl = closer f h s v.0 v.1 lt in act_step f h s v.0 v.1 [] p r (half_done_lem f s.bench.processes) cl.0 cl.1)
          (more lt z)
      by false d z more = no_more f s z

  replays_schedule : (e : State) (ls : List Lent) (ps : List ℕ) (s : State) → Sound (sizes_of f) s × Each f s
      → ((k : ℕ) → k < length ps → get_or ps k 0 < length f.shares)
      → (Sound (sizes_of f) (play W C f.calls ps s) × Each f (play W C f.calls ps s) → Replays f e [] (play W C f.calls ps s) ls)
      → Replays f e ps s (lent_playing W C f.calls ps s ++ ls)
  unfolding play lent_playing
  replays_schedule e ls [] s v below closing = closing v
  replays_schedule e ls (p ∷ ps) s v below closing =
      let s' : State = turn W C f.calls p s in
      let lt : p < length f.shares = below 0 (omega arith) in
      one_more f e (p ∷ ps) s s' (lent_with p (turning f.calls p s)) (lent_playing W C f.calls ps s' ++ ls)
      (turn_step f h s v.0 v.1 ps p lt)
      (replays_schedule e ls ps s' (after_turn f h s v.0 v.1 p lt) (λ k l. below (suc k) (omega arith)) closing)

  run_replays : Replays f (closed f) f.schedule (start f) (lent_by f)
  unfolding closed lent_by
  run_replays =
      replays_schedule (closed f) (lent_closing W C closing_steps (played f)) f.schedule (start f)
      (sound_fresh (sizes_of f) (fit f h) (start f) (start_fresh f h), each_start f h) h.schedule
      (λ v. replays_closing closing_steps (played f) v (all_closed f))

-- the sheet at the start: the calls of a process are those of its script
slice_from : {A : Type 0} (a n : ℕ) (l : List A) → slice a (a + n) l ≡ take n (drop a l)
slice_from zero n l = let e : 0 + n ≡ n = omega arith in ap (λ (j : ℕ). take j l) e
slice_from (suc a) n [] = let e : suc a + n ≡ suc (a + n) = omega arith in ap (λ (j : ℕ). slice (suc a) j []) e ∙ sym (take-nil n)
slice_from (suc a) n (x ∷ l) = let e : suc a + n ≡ suc (a + n) = omega arith in ap (λ (j : ℕ). slice (suc a) j (x ∷ l)) e ∙ slice_from a n l

script_is : (f : RunFile) (p : ℕ) → slice (sum (take p f.shares)) (sum (take (suc p) f.shares)) f.calls ≡ script f p
script_is f p =
    let from : ℕ = sum (take p f.shares) in
    ap (λ (j : ℕ). slice from j f.calls) (ap (λ (j : ℕ). sum (take j f.shares)) (sym (add-one p)) ∙ sum_next f.shares p)
    ∙ slice_from from (get_or f.shares p 0) f.calls

sheet_at_start : (f : RunFile) → sheet_of f f.schedule (start f) ≡ fresh_sheet f
sheet_at_start f = λ i. record {
  schedule = f.schedule;
  notes = list_of 8 (λ p. record { stage = Idle; calls = script_is f p i });
  table = fresh_table f.size;
}

-- the numbers of the table at the end
same_numbers : (P : ℕ) (s : State) → list_of table_size (table_at P s.bench s.slots) ≡ numbers P (table_of s)
same_numbers P s = λ i. list_of table_size (λ k. cond (ltb (k / 67) P)
    (get_or (table_row (sym (get_or-map (λ (m : Queue). m.word) s.bench.queues (k / 67) fresh) i) (get_or s.slots (k / 67) [])) (k % 67) 0) 0)

run_replayed : (f : RunFile) → InRanges f → Replayed f (finished f (closed f))
run_replayed f h =
    let r : Replays f (closed f) f.schedule (start f) (lent_by f) = run_replays f h in record {
      accepted = subst (λ (x : Sheet). Accepts f.width f.size x (lent_by f)) (sheet_at_start f) r.accepts;
      queues = r.queues;
      table = same_numbers (length f.shares) (closed f) ∙ ap (numbers (length f.shares)) (sym r.queues);
      steps = omega (arith, r.count);
    }

-- A run of the bench can be replayed at the desk, from the scripts, the schedule and the desk's answers alone.
pub every_run_replayed : EveryRunReplayed
every_run_replayed file b room f e =
    run_cases (λ (o : Outcome). o.number ≡ 0 → Replayed f o) file b room (λ n low high z. absurd (omega arith))
    (λ g d h z. subst (λ (x : RunFile). Replayed x (finished g (closed g))) (same_file (sym d ∙ e)) (run_replayed g h))
  where
    same_file : {g g' : RunFile} → good g ≡ good g' → g ≡ g'
    same_file d = cc

-- In no other way: the sheet says each time what is lent next.
pub only_way : OnlyWay
only_way W C h [] [] a b = refl
only_way W C h [] (m ∷ ms) a b = absurd (omega (arith, b.0))
only_way W C h (l ∷ ls) [] a b = absurd (omega (arith, a.0))
only_way W C h (l ∷ ls) (m ∷ ms) a b =
    let e : l ≡ m = a.1 ∙ sym b.1 in
    let k : ls ≡ ms = only_way W C (sheet_after W C h l) ls ms a.3 (subst (λ (x : Lent). Accepts W C (sheet_after W C h x) ms) (sym e) b.3) in
    λ i. e i ∷ k i
