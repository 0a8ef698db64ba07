-- Laws of the program's loop: what it keeps, one turn more, and its end.
use Prim.Native.Nat.{ℕ, ◌+◌, ◌-◌, ◌*◌, ◌≤◌, ◌<◌}
use mathlib.Core.Path.{◌≡◌, refl, sym, ap, ◌∙◌, subst}
use mathlib.Core.Bool.{Bool, true, false, cond}
use mathlib.Core.Logic.{◌⊎◌, inl, inr}
use mathlib.Core.List.{List, []}
use native.Mathlib.Omega.{arith}
use native.Mathlib.Decide.{dec_lt}
use lib.ListN.{length, get_or, take, drop, length-append, length-drop, take-append-drop, drop_of_length-le, replicate, get_or-replicate}
use Rattle.word.specs.Stages.{is_idle}
use Rattle.word.specs.Inner.StepsLeft.{steps_left}
use Rattle.runfile.specs.declared.Call.{Call}
use Rattle.bench.specs.Inner.Layout.{bench_in, Whole, state_in, put_entries, Becomes}
use Rattle.bench.specs.Inner.Walk.{walked_one, walked}
use Rattle.runs.specs.Inner.Counted.{Counted}
use Rattle.runs.specs.Inner.Left.{total}
use Rattle.runs.specs.Inner.Sound.{Sizes, Fit, processes, AllIn, Sound}
use Rattle.runs.proofs.Sound.{sound_as, sound_turn}
use Rattle.runs.proofs.EntriesLaws.{Bounded, turn_bounded}
use Rattle.bench.specs.declared.Bench.{Bench as HeldBench}
use Rattle.bench.proofs.LayoutLaws.{put_append}
use Rattle.bench.proofs.WalkLaws.{bare, later, walk_keeps, walked_keeps, walk_later, walked_later, walk_step, walked_steps, walked_append}
use Rattle.bench.proofs.WalkLaws.{walked_next, waited, with_steps_lem, walked_waits, Part, part_start, part_round, part_over, part_all}
use Rattle.bench.proofs.WayLaws.{with_steps, becomes_waited}
use Rattle.runs.specs.State.{Bench, State, process_at}
use Rattle.runs.specs.Run.{lowest, close, closing_steps}
use Rattle.runs.specs.Turn.{turn}
use Rattle.runs.proofs.ClosingLaws.{lowest_busy}
use Rattle.base.proofs.Cases.{ever}
use Rattle.runs.proofs.TurnLaws.{CountedAfter, counted_turn}

-- a step of the program carries on what the program stands for
pub becomes_next : (C n : ℕ) (F : State → State) → ((s : State) → F s ≡ later s (F (bare s)))
    → (s : State) (log₀ : List ℕ) (b : HeldBench) (flat log : List ℕ)
    → Becomes C n log₀ s b flat log → (b' : HeldBench) (flat' log' : List ℕ) → Becomes C b.entries log (F (state_in C b flat)) b' flat' log'
    → Becomes C n log₀ (F s) b' flat' log'
becomes_next C n F adds s log₀ b flat log h b' flat' log' g =
    let e : F (state_in C b flat) ≡ F (bare s) = ap F (λ i. record { bench = h.bench i; slots = h.slots i; log = [] }) in
    record {
      whole = g.whole;
      bench = g.bench ∙ ap (λ (x : State). x.bench) e ∙ sym (ap (λ (x : State). x.bench) (adds s));
      count = omega (
        arith,
        g.count,
        h.count,
        ap (λ (x : State). length x.log) e,
        ap (λ (x : State). length x.log) (adds s),
        length-append s.log (F (bare s)).log,
      );
      slots = g.slots ∙ ap (λ (x : State). x.slots) e ∙ sym (ap (λ (x : State). x.slots) (adds s));
      bytes = g.bytes
          ∙ ap (λ (x : State). put_entries b.entries x.log log) e
          ∙ ap (λ (i : ℕ). put_entries i (F (bare s)).log log) h.count
          ∙ ap (λ (l : List ℕ). put_entries (n + length s.log) (F (bare s)).log l) h.bytes
          ∙ sym (put_append n s.log (F (bare s)).log log₀)
          ∙ sym (ap (λ (x : State). put_entries n x.log log₀) (adds s));
    }

-- what the program's loop keeps: it stands for a state s, every count fits, all is in range, and the log has room for each call that is left
pub record Along (f : Sizes) (N n : ℕ) (log₀ : List ℕ) (s : State) (b : HeldBench) (flat log : List ℕ) : Type 0 where
  pub becomes : Becomes f.size n log₀ s b flat log
  pub counted : Counted b.entries (bench_in b)
  pub sound : Sound f (state_in f.size b flat)
  pub left : total (bench_in b).processes + b.entries ≤ N

-- what is in range does not depend on the log
pub sound_held : (f : Sizes) (n : ℕ) (log₀ : List ℕ) (s : State) (b : HeldBench) (flat log : List ℕ) → Becomes f.size n log₀ s b flat log
    → Sound f s
    → Sound f (state_in f.size b flat)
sound_held f n log₀ s b flat log g v =
    subst (Sound f) (λ i. record { bench = sym g.bench i; slots = sym g.slots i; log = [] })
    (sound_as f s v s.bench.steps s.bench.gone [])

-- the counts of the state that the program stands for, and back
pub held_counted : (C n : ℕ) (log₀ : List ℕ) (s : State) (b : HeldBench) (flat log : List ℕ) → Becomes C n log₀ s b flat log → CountedAfter n s
    → Counted b.entries (bench_in b)
held_counted C n log₀ s b flat log g h =
    subst (λ (m : ℕ). Counted m (bench_in b)) (sym g.count) (subst (Counted (n + length s.log)) (sym g.bench) h)

room : (t t' k e e' : ℕ) {N : ℕ} → t' + k ≤ t → e' ≡ e + k → t + e ≤ N → t' + e' ≤ N
room t t' k e e' a b c = omega arith

-- some steps, which add to the log and keep what each turn keeps
pub record Goes (f : Sizes) (calls : List Call) (F : State → State) : Type 1 where
  pub adds : (s : State) → F s ≡ later s (F (bare s))
  pub keeps : (Q : State → Type 0) → ((p : ℕ) → p < processes f → (s : State) → Q s → Q (turn f.width f.size calls p s)) → (s : State) → Q s
      → Q (F s)

pub goes_one : (f : Sizes) (calls : List Call) (closing : Bool) (p : ℕ) → p < processes f
    → Goes f calls (walked_one closing f.width f.size calls p)
goes_one f calls closing p lt = record {
  adds = walk_later f.width f.size calls closing p;
  keeps = λ Q t s h. walk_keeps f.width f.size calls Q closing p s h (t p lt s h);
}

pub goes_all : (f : Sizes) (calls : List Call) (closing : Bool) (ps : List ℕ) → ((k : ℕ) → k < length ps → get_or ps k 0 < processes f)
    → Goes f calls (walked closing f.width f.size calls ps)
goes_all f calls closing ps below = record {
  adds = walked_later f.width f.size calls closing ps;
  keeps = λ Q t s h. walked_keeps f.width f.size calls Q closing (processes f) t ps below s h;
}

module _ (f : Sizes) (fit : Fit f) (N n : ℕ) (log₀ : List ℕ) (s : State) (b : HeldBench) (flat log : List ℕ) (h : Along f N n log₀ s b flat log)
    (calls : List Call) (all : AllIn (processes f) calls) (F : State → State) (goes : Goes f calls F) (b' : HeldBench) (flat' log' : List ℕ)
    (g : Becomes f.size b.entries log (F (state_in f.size b flat)) b' flat' log') where
  told_counted : CountedAfter n s
  told_counted = subst (Counted (n + length s.log)) h.becomes.bench (subst (λ (m : ℕ). Counted m (bench_in b)) h.becomes.count h.counted)

  carried : Becomes f.size n log₀ (F s) b' flat' log'
  carried = becomes_next f.size n F goes.adds s log₀ b flat log h.becomes b' flat' log' g

  bounded : Bounded (total (bench_in b).processes) (F (state_in f.size b flat))
  bounded =
      let N : ℕ = total (bench_in b).processes in
      goes.keeps (Bounded N) (λ p lt x. turn_bounded N f.width f.size calls p x) (state_in f.size b flat) (omega arith)

  pub along_next : Along f N n log₀ (F s) b' flat' log'
  along_next = record {
    becomes = carried;
    counted = held_counted f.size n log₀ (F s) b' flat' log' carried
        (goes.keeps (CountedAfter n) (λ p lt x. counted_turn n f.width f.size calls p x) s told_counted);
    sound = sound_held f b.entries log (F (state_in f.size b flat)) b' flat' log' g
        (goes.keeps (Sound f) (λ p lt x v. sound_turn f fit calls all x v p lt) (state_in f.size b flat) h.sound);
    left = subst (λ (x : Bench). total x.processes + b'.entries ≤ N) (sym g.bench) (room _ _ _ _ _ bounded g.count h.left);
  }

-- the loop, i steps on
abbrev pub Walked : Sizes → ℕ → ℕ → Bool → List Call → List ℕ → List ℕ → State → ℕ → HeldBench → List ℕ → List ℕ → Type 0
Walked f N n closing calls ps log₀ s₀ i b flat log =
    Along f N n log₀ (walked closing f.width f.size calls (take i ps) s₀) b flat log × (b.steps ≤ s₀.bench.steps + i)

pub walked_start : (f : Sizes) (N : ℕ) (closing : Bool) (calls : List Call) (ps : List ℕ) (b : HeldBench) (flat log : List ℕ) → Whole b
    → Counted b.entries (bench_in b)
    → Sound f (state_in f.size b flat) → total (bench_in b).processes + b.entries ≤ N
    → Walked f N b.entries closing calls ps log (state_in f.size b flat) 0 b flat log
unfolding walked
walked_start f N closing calls ps b flat log whole h v l = (
  record {
    becomes = record { whole = whole; bench = refl; count = omega arith; slots = refl; bytes = refl };
    counted = h;
    sound = v;
    left = l;
  },
  omega arith,
)

module _ (f : Sizes) (N n : ℕ) (closing : Bool) (calls : List Call) (ps : List ℕ) (log₀ : List ℕ) (s₀ : State) (i : ℕ) (b : HeldBench)
    (flat log : List ℕ)
    (h : Walked f N n closing calls ps log₀ s₀ i b flat log) where
  pub walked_more : Fit f → AllIn (processes f) calls → (b' : HeldBench) (flat' log' : List ℕ) → i < length ps → get_or ps i 0 < processes f
      → Becomes f.size b.entries log (walked_one closing f.width f.size calls (get_or ps i 0) (state_in f.size b flat)) b' flat' log'
      → Walked f N n closing calls ps log₀ s₀ (i + 1) b' flat' log'
  walked_more fit all b' flat' log' l lt g =
      let x : State = walked closing f.width f.size calls (take i ps) s₀ in (
        subst (λ (y : State). Along f N n log₀ y b' flat' log') (sym (walked_next f.width f.size calls closing ps i s₀ l))
            (along_next f fit N n log₀ x b flat log h.0 calls all (walked_one closing f.width f.size calls (get_or ps i 0)) (goes_one f calls closing (get_or ps i 0) lt) b' flat' log' g),
        omega
            (arith, h.1, ap (λ (y : Bench). y.steps) g.bench, walk_step f.width f.size calls closing (get_or ps i 0) (state_in f.size b flat)),
      )

  -- the schedule is at its end, or every call is in the log
  rest : (length ps ≤ i) ⊎ (N ≤ b.entries)
      → walked closing f.width f.size calls (drop i ps) (walked closing f.width f.size calls (take i ps) s₀)
      ≡ waited closing (length (drop i ps)) (walked closing f.width f.size calls (take i ps) s₀)
  unfolding walked
  rest = by
    where
      x : State
      x = walked closing f.width f.size calls (take i ps) s₀

      none : (m : Bool) → x.bench.steps ≡ x.bench.steps + cond m 0 0
      none true = omega arith
      none false = omega arith

      by : (length ps ≤ i) ⊎ (N ≤ b.entries) → walked closing f.width f.size calls (drop i ps) x ≡ waited closing (length (drop i ps)) x
      by (inl k) = rw (drop_of_length-le ps {i = i} k) (with_steps_lem x (x.bench.steps + cond closing 0 0) (none closing))
      by (inr k) =
          walked_waits f.width f.size calls closing (drop i ps) x
          (omega (arith, h.0.left, ap (λ (y : Bench). total y.processes) h.0.becomes.bench))

  pub walked_all : (m : ℕ) → (length ps ≤ i) ⊎ (N ≤ b.entries) → m ≡ cond closing 0 (length ps - i)
      → Becomes f.size n log₀ (walked closing f.width f.size calls ps s₀) (with_steps b (b.steps + m)) flat log
  walked_all m t k =
      subst (λ (y : State). Becomes f.size n log₀ y (with_steps b (b.steps + m)) flat log) (sym all)
      (becomes_waited f.size n log₀ (walked closing f.width f.size calls (take i ps) s₀) closing (length (drop i ps)) m (k ∙ ap (cond closing 0) (sym (length-drop i ps))) b flat log h.0.becomes)
    where
      all : walked closing f.width f.size calls ps s₀ ≡ waited closing (length (drop i ps)) (walked closing f.width f.size calls (take i ps) s₀)
      all =
          ap (λ (l : List ℕ). walked closing f.width f.size calls l s₀) (sym (take-append-drop i ps))
          ∙ walked_append f.width f.size calls closing (take i ps) (drop i ps) s₀ ∙ rest t

  pub walked_end : length ps ≤ i → Becomes f.size n log₀ (walked closing f.width f.size calls ps s₀) b flat log
  walked_end l =
      let e : b.steps + 0 ≡ b.steps = omega arith in
      subst (λ (m : ℕ). Becomes f.size n log₀ (walked closing f.width f.size calls ps s₀) (with_steps b m) flat log) e (walked_all 0 (inl l) (none closing))
    where
      none : (m : Bool) → 0 ≡ cond m 0 (length ps - i)
      none true = refl
      none false = omega arith

-- the loop of the closing, after so many rounds
pub record Closing (f : Sizes) (N n : ℕ) (log₀ : List ℕ) (s₀ : State) (done : ℕ) (b : HeldBench) (flat log : List ℕ) : Type 0 where
  pub state : State
  pub part : Part f.width f.size s₀ (6 * done) done 6 state
  pub along : Along f N n log₀ state b flat log
  pub steps : b.steps ≤ 4096 + 6 * done

pub closing_start : (f : Sizes) (N : ℕ) (b : HeldBench) (flat log : List ℕ) → Whole b → Counted b.entries (bench_in b)
    → Sound f (state_in f.size b flat)
    → total (bench_in b).processes + b.entries ≤ N → ((p : ℕ) → steps_left (process_at (bench_in b) p).stage ≤ 6) → b.steps ≤ 4096
    → Closing f N b.entries log (state_in f.size b flat) 0 b flat log
closing_start f N b flat log whole h v l six few = record {
  state = state_in f.size b flat;
  part = part_start f.width f.size (state_in f.size b flat) h.processes six;
  along =
      record { becomes = record { whole = whole; bench = refl; count = omega arith; slots = refl; bytes = refl }; counted = h; sound = v; left = l };
  steps = omega arith;
}

-- the lowest half-done process is one of the run's
pub closing_below : (f : Sizes) (s : State) → Sound f s → (p : ℕ) → p ≡ lowest s.bench.processes → p < 8 → p < processes f
closing_below f s v p e l = split (dec_lt p (processes f))
  where
    busy : is_idle (process_at s.bench p).stage ≡ false
    busy =
        subst (λ (q : ℕ). is_idle (process_at s.bench q).stage ≡ false) (sym e) (lowest_busy s.bench.processes (omega (arith, e, v.records)))

    split : Dec (p < processes f) → p < processes f
    split (yes h) = h
    split (no h) = ever (sym (ap is_idle (v.absent p (omega arith))) ∙ busy)

module _ (f : Sizes) (N n : ℕ) (log₀ : List ℕ) (s₀ : State) (done : ℕ) (b : HeldBench) (flat log : List ℕ)
    (h : Closing f N n log₀ s₀ done b flat log) where
  same : bench_in b ≡ h.state.bench
  same = h.along.becomes.bench

  module _ (p : ℕ) (e : p ≡ lowest (bench_in b).processes) (lt : p < 8) where
    pub round_below : (k : ℕ) → k < 6 → get_or (replicate 6 p) k 0 < processes f
    round_below k l =
        subst (λ (j : ℕ). j < processes f) (sym (get_or-replicate 6 k p 0 l)) (closing_below f (state_in f.size b flat) h.along.sound p e lt)

    pub closing_next : Fit f → (calls : List Call) → AllIn (processes f) calls → (b' : HeldBench) (flat' log' : List ℕ)
        → Becomes f.size b.entries log (walked true f.width f.size calls (replicate 6 p) (state_in f.size b flat)) b' flat' log'
        → Closing f N n log₀ s₀ (done + 1) b' flat' log'
    closing_next fit calls all b' flat' log' g =
        let F : State → State = walked true f.width f.size calls (replicate 6 p) in
        let m : 6 * done + 6 ≡ 6 * (done + 1) = omega arith in
        record {
          state = F h.state;
          part = subst (λ (k : ℕ). Part f.width f.size s₀ k (done + 1) 6 (F h.state)) m
              (part_round f.width f.size s₀ calls p lt (6 * done) done h.state (e ∙ ap (λ (x : Bench). lowest x.processes) same) h.part);
          along =
              along_next f fit N n log₀ h.state b flat log h.along calls all F
              (goes_all f calls true (replicate 6 p) round_below) b' flat' log' g;
          steps =
              omega (arith, h.steps, ap (λ (y : Bench). y.steps) g.bench, walked_steps f.width f.size calls true (replicate 6 p) (state_in f.size b flat));
        }

  pub closing_over : done ≤ 8 → lowest (bench_in b).processes ≡ 8 → Becomes f.size n log₀ (close f.width f.size closing_steps s₀) b flat log
  closing_over le e =
      subst (λ (x : State). Becomes f.size n log₀ x b flat log)
      (part_over f.width f.size s₀ (6 * done) done 6 h.state h.part (omega arith) (ap (λ (x : Bench). lowest x.processes) (sym same) ∙ e)) h.along.becomes

  pub closing_all : done ≡ 8 → Becomes f.size n log₀ (close f.width f.size closing_steps s₀) b flat log
  closing_all e =
      subst (λ (x : State). Becomes f.size n log₀ x b flat log)
      (part_all f.width f.size s₀ (6 * done) 6 h.state (subst (λ (k : ℕ). Part f.width f.size s₀ (6 * done) k 6 h.state) e h.part) (omega arith)) h.along.becomes
