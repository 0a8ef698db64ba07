-- The program's run of a good file is the run of its record, from the start to the closing.
use Prim.Native.Nat.{ℕ, zero, suc, ◌+◌, ◌-◌, ◌*◌, ◌≤◌, ◌<◌}
use mathlib.Core.Path.{◌≡◌, refl, sym, ap, ◌∙◌, subst}
use mathlib.Core.Bool.{Bool, true, false, cond}
use mathlib.Core.List.{List, [], ◌∷◌}
use native.Mathlib.Omega.{arith}
use lib.Dec.{ltb, leb}
use lib.ListN.{length, get_or, take, drop, replicate, length-replicate, get_or-replicate, length-drop, get_or-eq_default}
use lib.Seq.{ext_get_or, get_or-take, get_or-drop, length-take-le}
use native.Mathlib.Decide.{dec_lt}
use borrow.Author.Tests.{le-ltb, lt-ltb, leb-true, leb-false}
use Rattle.base.specs.Lists.{list_of}
use Rattle.base.proofs.Lists.{list_of_get_d}
use Rattle.runfile.specs.Encode.{InRanges}
use Rattle.base.specs.Bytes.{Bytes}
use Rattle.runfile.specs.File.{RunFile, good, file_of, reading_of, shape_of, record_in, processes_in, calls_in, steps_in, step_place, first_lengths}
use Rattle.runfile.specs.File.{first_calls}
use Rattle.runfile.proofs.GoodLaws.{good_passes, shares_length, all_calls_length, schedule_length}
use Rattle.runfile.proofs.RangeLaws.{good_ranges}
use Rattle.runfile.proofs.ReadingLaws.{reading_good, reading_refused}
use Rattle.runfile.specs.declared.Call.{Call}
use Rattle.std.specs.Prelude.{Ok, Err}
use Rattle.runfile.specs.declared.Refusal.{Refusal}
use Rattle.runfile.specs.Refusals.{refusal_number}
use Rattle.runfile.specs.declared.Shape.{Shape}
use Rattle.runs.proofs.ClosingLaws.{schedule_steps, played_sixes}
use Rattle.runs.proofs.EntriesLaws.{start_bounded, played_bounded, entries_most}
use Rattle.bench.proofs.FinishLaws.{finished_gives}
use Rattle.bench.proofs.LayoutLaws.{row_in}
use Rattle.runs.proofs.Induction.{play_keeps, closed_keeps}
use Rattle.bench.specs.declared.Bench.{Bench as HeldBench}
use Rattle.bench.specs.Inner.Layout.{bench_in, Whole, slots_of, slots_in, state_in, sizes_in, Becomes, ToWalk, ToClose}
use Rattle.bench.specs.Inner.Walk.{walked}
use Rattle.word.specs.Inner.StepsLeft.{steps_left}
use Rattle.runs.specs.Inner.Counted.{Counted}
use Rattle.runs.specs.Inner.Left.{total}
use Rattle.runfile.specs.Check.{sum}
use Rattle.runs.specs.Inner.Sound.{Sizes, Fit, Sound}
use Rattle.runs.specs.States.{StateOf, at_closing}
use Rattle.runs.proofs.Sound.{sound_fresh}
use Rattle.runs.proofs.Scripts.{sizes_of, fit, start_fresh}
use Rattle.runs.proofs.States.{sound}
use Rattle.runs.specs.Promise.{Gives, Ran}
use Rattle.records.specs.Inner.Records.{Refuses}
use Rattle.bench.specs.Inner.Finish.{Finishes, Ends}
use Rattle.runs.specs.Run.{Outcome, play, lowest, close, closed, closing_steps, refusal, finished, outcome, run_of, closing_step, played}
use Rattle.bench.proofs.RunLaws.{becomes_next, held_counted, sound_held}
use Rattle.bench.proofs.WalkLaws.{bare, later, later_none, later_later, act_later, walk_plays}
use Rattle.runs.specs.State.{Bench, Process, Queue, State, fresh, nobody, process_at, scripted, start_bench, start}
use Rattle.runs.specs.Turn.{act, turn}
use Rattle.runs.proofs.TurnLaws.{CountedAfter, counted_act, counted_turn}

-- the closing does not look at the log either
close_later : (W C k : ℕ) (s : State) → close W C k s ≡ later s (close W C k (bare s))
unfolding close
close_later W C zero s = later_none s
close_later W C (suc k) s = by_test (ltb (lowest s.bench.processes) 8) refl (close_later W C k)
  where
    by_test : (t : Bool) → ltb (lowest s.bench.processes) 8 ≡ t → ((x : State) → close W C k x ≡ later x (close W C k (bare x)))
        → close W C (suc k) s ≡ later s (close W C (suc k) (bare s))
    by_test true e more =
        let p = lowest s.bench.processes in
        let r = process_at s.bench p in
        let a = act W C p r (bare s) in
        rw e (ap (close W C k) (act_later W C p r s) ∙ more (later s a) ∙ later_later s a (close W C k (bare a)) ∙ ap (later s) (sym (more a)))
    by_test false e more = rw e (later_none s)

-- what a run keeps
abbrev Kept : ℕ → State → Type 0
Kept n s = CountedAfter 0 s

turn_kept : (W C : ℕ) (calls : List Call) (n p : ℕ) (s : State) → Kept n s → Kept (suc n) (turn W C calls p s)
turn_kept W C calls n p s h = counted_turn 0 W C calls p s h

closing_kept : (W C n : ℕ) (s : State) → lowest s.bench.processes < 8 → Kept n s → Kept (suc n) (closing_step W C s)
closing_kept W C n s l h =
    let p = lowest s.bench.processes in
    counted_act 0 W C p (process_at s.bench p) s h (h.b2 p)

-- at the start all counts are 0
pub start_counted : (shares : List ℕ) → Counted 0 (start_bench shares)
start_counted shares = record {
  queues = refl;
  processes = refl;
  logged = omega arith;
  gone = omega arith;
  resets = λ q. all q (dec_lt q 8);
  b2 = λ p. idle p (dec_lt p 8);
}
  where
    all : (q : ℕ) → Dec (q < 8) → (get_or (replicate 8 fresh) q fresh).resets ≤ 0
    all q (yes h) = subst (λ (m : Queue). m.resets ≤ 0) (sym (get_or-replicate 8 q fresh fresh h)) (omega arith)
    all q (no h) = subst (λ (m : Queue). m.resets ≤ 0) (sym (get_or-eq_default (replicate 8 fresh) fresh {n = q} (omega arith))) (omega arith)

    idle : (p : ℕ) → Dec (p < 8) → (get_or (list_of 8 (scripted shares)) p nobody).b2 ≤ 0
    idle p (yes h) = subst (λ (r : Process). r.b2 ≤ 0) (sym (list_of_get_d 8 (scripted shares) nobody p h)) (omega arith)
    idle p (no h) =
        subst (λ (r : Process). r.b2 ≤ 0) (sym (get_or-eq_default (list_of 8 (scripted shares)) nobody {n = p} (omega arith))) (omega arith)

played_kept : (f : RunFile) → Kept 0 (played f)
played_kept f =
    play_keeps Kept f.width f.size f.calls (turn_kept f.width f.size f.calls) f.schedule 0 (start f) (start_counted f.shares)

closed_kept : (f : RunFile) → Kept 0 (closed f)
closed_kept f = (closed_keeps f Kept (turn_kept f.width f.size f.calls) (closing_kept f.width f.size) (start_counted f.shares)).holds

-- a refusal gives what is promised of it
pub refusal_gives : (o : Outcome) (n : ℕ) (buffer : List ℕ) (written : ℕ) (report table : List ℕ) → o ≡ refusal n
    → Refuses n written report table → Gives o buffer written buffer report table
refusal_gives o n buffer written report table e h =
    subst (λ (x : Outcome). Gives x buffer written buffer report table) (sym e) (record { bytes = h.bytes; kept = refl; counts = h.counts; queues = h.queues })

room : (t k e : ℕ) {N M : ℕ} → t + k ≤ N → e ≡ 0 + k → N ≡ M → t + e ≤ M
room t k e a b c = omega arith

-- the row of zeros holds C zeros for each queue
zeros : (C k n : ℕ) → k + C ≤ n → take C (drop k (replicate {A = ℕ} n 0)) ≡ replicate C 0
zeros C k n h =
    let whole = length-replicate {A = ℕ} n 0 in
    let l : length (take C (drop k (replicate {A = ℕ} n 0))) ≡ C =
    length-take-le C (drop k (replicate {A = ℕ} n 0)) (simp length-drop (omega arith)) in
    ext_get_or 0 (take C (drop k (replicate {A = ℕ} n 0))) (replicate C 0) (l ∙ sym (length-replicate C 0))
    (λ i m. get_or-take C (drop k (replicate {A = ℕ} n 0)) i 0 (omega arith) ∙ get_or-drop k (replicate {A = ℕ} n 0) i 0
    ∙ get_or-replicate n (k + i) 0 0 (omega arith) ∙ sym (get_or-replicate C i 0 0 (omega arith)))

slots_start : (C : ℕ) → C ≤ 64 → slots_in C (replicate 512 0) ≡ replicate 8 (replicate C 0)
slots_start C h =
    λ i. row 0 (omega arith) i ∷ row 1 (omega arith) i ∷ row 2 (omega arith) i ∷ row 3 (omega arith) i ∷ row 4 (omega arith) i ∷ row 5
    (omega arith) i ∷ row 6 (omega arith) i ∷ row 7 (omega arith) i ∷ []
  where
    row : (q : ℕ) → q < 8 → slots_of C (replicate 512 0) q ≡ replicate C 0
    row q k = zeros C (C * q) 512 (row_in C q h k)

-- of the bytes of a good file
module _ (s : List ℕ) (bytes : Bytes s) (shape : Shape) (e : reading_of (file_of s) ≡ Ok shape) where
  abbrev f : RunFile
  f = record_in s

  is_good : file_of s ≡ good (record_in s)
  is_good = (reading_good s shape e).0

  pub is_shape : shape ≡ shape_of (record_in s)
  is_shape = (reading_good s shape e).1

  pub in_ranges : InRanges (record_in s)
  in_ranges = good_ranges s (record_in s) bytes is_good

  processes : length f.shares ≡ processes_in s
  processes = shares_length s (good_passes s f is_good).0

  calls : length f.calls ≡ calls_in s
  calls = all_calls_length s (good_passes s f is_good).0

  shares_are : first_lengths s shape.processes ≡ f.shares
  shares_are = ap (λ (x : Shape). first_lengths s x.processes) is_shape ∙ ap (first_lengths s) processes

  calls_are : first_calls s shape.processes shape.calls ≡ f.calls
  calls_are =
      ap (λ (x : Shape). first_calls s x.processes x.calls) is_shape
      ∙ ap (λ (n : ℕ). first_calls s n (length f.calls)) processes ∙ ap (first_calls s (processes_in s)) calls

  all_calls : sum f.shares ≡ shape.calls
  all_calls = sym in_ranges.count ∙ sym (ap (λ (x : Shape). x.calls) is_shape)

  steps : shape.steps ≡ steps_in s
  steps = ap (λ (x : Shape). x.steps) is_shape ∙ schedule_length s (good_passes s f is_good).0

  pub few_processes : shape.processes ≤ 8
  few_processes = omega (arith, in_ranges.processes, ap (λ (x : Shape). x.processes) is_shape)

  abbrev W : ℕ
  W = shape.width

  abbrev C : ℕ
  C = shape.size

  small : C ≤ 64
  small = omega (arith, in_ranges.size, ap (λ (x : Shape). x.size) is_shape)

  sizes_are : sizes_in shape ≡ sizes_of f
  sizes_are = ap sizes_in is_shape

  fits : Fit (sizes_in shape)
  fits = subst Fit (sym sizes_are) (fit f in_ranges)

  -- the program's start is the start
  starts : (b : HeldBench) (flat : List ℕ) → bench_in b ≡ start_bench (first_lengths s shape.processes) → flat ≡ replicate 512 0
      → state_in C b flat ≡ start f
  starts b flat d none = λ i. record {
    bench = (d ∙ ap start_bench shares_are) i;
    slots = (ap (slots_in C) none ∙ slots_start C small ∙ ap (λ (x : Shape). replicate 8 (replicate x.size 0)) is_shape) i;
    log = [];
  }

  module _ (from to : ℕ) (place : from ≡ step_place shape.processes shape.calls 0) (ends : to ≡ step_place shape.processes shape.calls shape.steps) where
    at : from ≡ step_place (processes_in s) (calls_in s) 0
    at =
        place ∙ ap (λ (x : Shape). step_place x.processes x.calls 0) is_shape ∙ ap (λ (n : ℕ). step_place n (length f.calls) 0) processes
        ∙ ap (λ (n : ℕ). step_place (processes_in s) n 0) calls

    -- it has as many bytes as the file says
    many : to ≡ from + shape.steps
    many = omega (arith, place, ends)

    pub schedule_fits : to ≤ length s
    schedule_fits = omega (arith, many, at, steps, (good_passes s f is_good).0.whole)

    -- the part of the file that the program plays is the schedule
    abbrev schedule : List ℕ
    schedule = take (to - from) (drop from s)

    schedule_is : schedule ≡ f.schedule
    schedule_is =
        let n : to - from ≡ steps_in s = omega (arith, many, steps) in ap (λ (k : ℕ). take k (drop from s)) n
        ∙ ap (λ (k : ℕ). take (steps_in s) (drop k s)) at

    below : (k : ℕ) → k < length schedule → get_or schedule k 0 < shape.processes
    below = subst (λ (l : List ℕ). (k : ℕ) → k < length l → get_or l k 0 < shape.processes) (sym schedule_is)
        (λ k h. omega (arith, in_ranges.schedule k h, ap (λ (x : Shape). x.processes) is_shape))

    module _ (b₀ : HeldBench) (z : (bench_in b₀ ≡ start_bench (first_lengths s shape.processes)) × (b₀.entries ≡ 0) × Whole b₀)
        (flat₀ : List ℕ) (none : flat₀ ≡ replicate 512 0) where
      d : bench_in b₀ ≡ start_bench (first_lengths s shape.processes)
      d = z.0

      pub to_walk : ToWalk shape schedule b₀ flat₀
      to_walk = record {
        whole = z.2;
        counted =
            subst (λ (m : ℕ). Counted m (bench_in b₀)) (sym z.1) (subst (Counted 0) (sym d) (start_counted (first_lengths s shape.processes)));
        left =
            subst (λ (x : State). total x.bench.processes + b₀.entries ≤ shape.calls) (sym (starts b₀ flat₀ d none))
            (room _ 0 b₀.entries (start_bounded f) z.1 all_calls);
        few = omega (arith, ap (λ (x : Bench). x.steps) d, ap length schedule_is, in_ranges.steps);
        fit = fits;
        sound = subst (λ (x : Sizes). Sound x (state_in C b₀ flat₀)) (sym sizes_are)
            (subst (Sound (sizes_of f)) (sym (starts b₀ flat₀ d none)) (sound_fresh (sizes_of f) (fit f in_ranges) (start f) (start_fresh f in_ranges)));
        below = below;
      }

      plays : walked false W C (first_calls s shape.processes shape.calls) schedule (state_in C b₀ flat₀) ≡ played f
      plays =
          walk_plays W C (first_calls s shape.processes shape.calls) schedule (state_in C b₀ flat₀)
          ∙ ap (λ (x : State). play W C (first_calls s shape.processes shape.calls) schedule x) (starts b₀ flat₀ d none)
          ∙ ap (λ (l : List Call). play W C l schedule (start f)) calls_are
          ∙ ap (λ (l : List ℕ). play W C f.calls l (start f)) schedule_is
          ∙ ap (λ (x : Shape). play x.width x.size f.calls f.schedule (start f)) is_shape

      module _ (log₀ : List ℕ) (b₁ : HeldBench) (flat₁ log₁ : List ℕ)
          (g : Becomes C b₀.entries log₀ (walked false W C (first_calls s shape.processes shape.calls) schedule (state_in C b₀ flat₀)) b₁ flat₁ log₁) where
        becomes_played : Becomes C 0 log₀ (played f) b₁ flat₁ log₁
        becomes_played =
            subst (λ (n : ℕ). Becomes C n log₀ (played f) b₁ flat₁ log₁) z.1
            (subst (λ (x : State). Becomes C b₀.entries log₀ x b₁ flat₁ log₁) plays g)

        played_state : StateOf f (played f)
        unfolding close
        played_state = at_closing 0 (omega arith)

        pub to_close : ToClose shape b₁ flat₁
        to_close = record {
          whole = g.whole;
          counted = held_counted C 0 log₀ (played f) b₁ flat₁ log₁ becomes_played (played_kept f);
          left = subst (λ (x : Bench). total x.processes + b₁.entries ≤ shape.calls) (sym becomes_played.bench)
              (room _ _ b₁.entries (played_bounded f) becomes_played.count all_calls);
          six = subst (λ (x : Bench). (p : ℕ) → steps_left (process_at x p).stage ≤ 6) (sym becomes_played.bench) (played_sixes f).six;
          few = omega (arith, ap (λ (x : Bench). x.steps) becomes_played.bench, schedule_steps f, in_ranges.steps);
          fit = fits;
          sound = sound_held (sizes_in shape) 0 log₀ (played f) b₁ flat₁ log₁ becomes_played
              (subst (λ (x : Sizes). Sound x (played f)) (sym sizes_are) (sound f in_ranges (played f) played_state));
        }

        module _ (b₂ : HeldBench) (flat₂ log₂ : List ℕ)
            (k : Becomes C b₁.entries log₁ (close W C closing_steps (state_in C b₁ flat₁)) b₂ flat₂ log₂) where
          pub becomes_closed : Becomes C 0 log₀ (closed f) b₂ flat₂ log₂
          unfolding closed
          becomes_closed =
              subst (λ (x : Shape). Becomes C 0 log₀ (close x.width x.size closing_steps (played f)) b₂ flat₂ log₂) is_shape
              (becomes_next C 0 (close W C closing_steps) (close_later W C closing_steps) (played f) log₀ b₁ flat₁ log₁
              becomes_played b₂ flat₂ log₂ k)

  -- the closed run, as the program holds it
  module _ (log₀ : List ℕ) (b₂ : HeldBench) (flat₂ log₂ : List ℕ) (k : Becomes C 0 log₀ (closed f) b₂ flat₂ log₂) where
    entries_few : length (closed f).log ≤ length f.calls
    entries_few = omega (arith, entries_most f, in_ranges.count)

    pub ends : Ends shape b₂ flat₂
    ends = record {
      whole = k.whole;
      counted = held_counted C 0 log₀ (closed f) b₂ flat₂ log₂ k (closed_kept f);
      processes = few_processes;
      size = small;
    }

    ran : (buffer : List ℕ) → 5 + 12 * shape.calls ≤ length buffer → run_of s (length buffer) ≡ finished f (closed f)
    unfolding run_of outcome
    ran buffer room =
        let all = ap (λ (x : Shape). x.calls) is_shape in
        ap (outcome (length buffer)) is_good
        ∙ ap (λ (t : Bool). cond t (refusal 8) (finished f (closed f))) (le-ltb (length buffer) (5 + 12 * length f.calls) (omega arith))

    pub gives_0 : (written : ℕ) (buffer' report table : List ℕ) (roomy : Bool)
        → roomy ≡ leb (5 + 12 * shape.calls) (length log₀) → roomy ≡ true
        → Finishes shape.processes C b₂ flat₂ log₂ written buffer' report table → Ran s log₀ written buffer' report table
    gives_0 written buffer' report table roomy is t h =
        let all = ap (λ (x : Shape). x.calls) is_shape in
        let fits = leb-true (5 + 12 * shape.calls) (length log₀) (sym is ∙ t) in
        subst (λ (o : Outcome). Gives o log₀ written buffer' report table) (sym (ran log₀ fits))
        (finished_gives f (closed f) log₀ b₂ flat₂ log₂ written buffer' report table
        (subst (λ (x : Shape). Becomes x.size 0 log₀ (closed f) b₂ flat₂ log₂) is_shape k) (omega (arith, fits, entries_few))
        (subst (λ (x : Shape). Finishes x.processes x.size b₂ flat₂ log₂ written buffer' report table) is_shape h))

  pub gives_8 : (buffer : List ℕ) (roomy : Bool) → roomy ≡ leb (5 + 12 * shape.calls) (length buffer) → roomy ≡ false
      → run_of s (length buffer) ≡ refusal 8
  unfolding run_of outcome
  gives_8 buffer roomy is n =
      let all = ap (λ (x : Shape). x.calls) is_shape in
      let short = leb-false (5 + 12 * shape.calls) (length buffer) (sym is ∙ n) in
      ap (outcome (length buffer)) is_good
      ∙ ap (λ (t : Bool). cond t (refusal 8) (finished f (closed f))) (lt-ltb (length buffer) (5 + 12 * length f.calls) (omega arith))

-- of the bytes of a refused file
pub gives_refused : (s : List ℕ) (why : Refusal) (room : ℕ) → reading_of (file_of s) ≡ Err why → run_of s room ≡ refusal (refusal_number why)
unfolding run_of outcome
gives_refused s why room e = ap (outcome room) (reading_refused s why e)
