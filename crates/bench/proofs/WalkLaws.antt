-- What the program's loop does, as the definitions of a run have it: over the schedule it plays, six steps of the lowest half-done process close
-- it, and once every call is in the log it only counts.
use Prim.Native.Nat.{ℕ, zero, suc, ◌+◌, ◌-◌, ◌≤◌, ◌<◌}
use mathlib.Core.Path.{◌≡◌, refl, sym, ap, ◌∙◌, subst}
use mathlib.Core.Bool.{Bool, true, false, cond}
use mathlib.Core.List.{List, [], ◌∷◌, ◌++◌, append-nil, append_assoc}
use native.Mathlib.Numerals.{add-one}
use native.Mathlib.Omega.{arith}
use native.Mathlib.Decide.{dec_lt, ℕ_discrete}
use borrow.Author.Tests.{lt-ltb, le-ltb}
use lib.Dec.{ltb}
use lib.ListN.{length, get_or, take, set, length-set, get_or-eq_default}
use lib.Seq.{take-suc, get_or-set_same}
use Rattle.base.proofs.Cases.{either_way, ever, if_set}
use Rattle.word.specs.Stages.{is_idle}
use Rattle.word.specs.Inner.StepsLeft.{steps_left}
use Rattle.word.specs.declared.Stage.{Stage}
use Rattle.runfile.specs.declared.Call.{Call}
use Rattle.runs.specs.Run.{play, lowest, close, closing_steps}
use Rattle.runs.specs.State.{Process, State, nobody, process_at}
use Rattle.runs.specs.Turn.{ready, act, idle, turn_as, turn}
use Rattle.runs.specs.Inner.Half.{bit}
use Rattle.runs.specs.Inner.Left.{weight, total}
use Rattle.runs.proofs.ClosingLaws.{lowest_busy, none_left, step_lowers}
use Rattle.runs.proofs.KindLaws.{idle_is}
use Rattle.runs.proofs.Induction.{record_after, closes, close_next, close_early}
use Rattle.bench.specs.Inner.Walk.{walked_one, walked}

-- the state with nothing in its log yet, and a state with what comes later
abbrev pub bare : State → State
bare s = record { bench = s.bench; slots = s.slots; log = [] }

abbrev pub later : State → State → State
later s x = record { bench = x.bench; slots = x.slots; log = s.log ++ x.log }

pub later_none : (s : State) → s ≡ later s (bare s)
later_none s = λ i. record { bench = s.bench; slots = s.slots; log = sym (append-nil s.log) i }

pub later_later : (s a x : State) → later (later s a) x ≡ later s (later a x)
later_later s a x = λ i. record { bench = x.bench; slots = x.slots; log = append_assoc s.log a.log x.log i }

pub act_later : (W C p : ℕ) (r : Process) (s : State) → act W C p r s ≡ later s (act W C p r (bare s))
unfolding act
act_later W C p r s = refl

module _ (W C : ℕ) (calls : List Call) where
  -- over the schedule a step is a turn
  walk_turn : (p : ℕ) (s : State) → walked_one false W C calls p s ≡ turn W C calls p s
  unfolding walked_one turn turn_as
  walk_turn p s = refl

  pub walk_plays : (ps : List ℕ) (s : State) → walked false W C calls ps s ≡ play W C calls ps s
  unfolding walked play
  walk_plays [] s = refl
  walk_plays (p ∷ ps) s = ap (walked false W C calls ps) (walk_turn p s) ∙ walk_plays ps (turn W C calls p s)

  -- in the closing it is one of a half-done process, or none
  walk_idle : (p : ℕ) (s : State) → is_idle (process_at s.bench p).stage ≡ true → walked_one true W C calls p s ≡ s
  unfolding walked_one
  walk_idle p s e = rw e

  walk_busy : (p : ℕ) (s : State) → is_idle (process_at s.bench p).stage ≡ false
      → walked_one true W C calls p s ≡ act W C p (process_at s.bench p) s
  unfolding walked_one
  walk_busy p s e = rw e

  half_turn : (p : ℕ) (s : State) → is_idle (process_at s.bench p).stage ≡ false → turn W C calls p s ≡ act W C p (process_at s.bench p) s
  unfolding turn turn_as
  half_turn p s e = rw (e, e) refl

  -- so what a turn keeps, it keeps
  pub walk_keeps : (Q : State → Type 0) (closing : Bool) (p : ℕ) (s : State) → Q s → Q (turn W C calls p s) → Q (walked_one closing W C calls p s)
  walk_keeps Q false p s a t = subst Q (sym (walk_turn p s)) t
  walk_keeps Q true p s a t = by (is_idle (process_at s.bench p).stage) refl
    where
      by : (i : Bool) → is_idle (process_at s.bench p).stage ≡ i → Q (walked_one true W C calls p s)
      by true e = subst Q (sym (walk_idle p s e)) a
      by false e = subst Q (sym (walk_busy p s e ∙ sym (half_turn p s e))) t

  pub walked_keeps : (Q : State → Type 0) (closing : Bool) (P : ℕ) → ((p : ℕ) → p < P → (s : State) → Q s → Q (turn W C calls p s))
      → (ps : List ℕ) → ((k : ℕ) → k < length ps → get_or ps k 0 < P) → (s : State) → Q s → Q (walked closing W C calls ps s)
  unfolding walked
  walked_keeps Q closing P t [] below s h = h
  walked_keeps Q closing P t (p ∷ ps) below s h =
      walked_keeps Q closing P t ps (λ k lt. below (suc k) (omega arith)) (walked_one closing W C calls p s)
      (walk_keeps Q closing p s h (t p (below 0 (omega arith)) s h))

  turn_step : (p : ℕ) (s : State) → (turn W C calls p s).bench.steps ≡ s.bench.steps + 1
  unfolding turn turn_as act
  turn_step p s =
      either_way (λ (x : State). x.bench.steps ≡ s.bench.steps + 1) (is_idle (ready calls s.bench.steps (process_at s.bench p)).stage)
      (λ e. refl) (λ e. refl)

  pub walk_step : (closing : Bool) (p : ℕ) (s : State) → (walked_one closing W C calls p s).bench.steps ≤ s.bench.steps + 1
  walk_step closing p s = walk_keeps (λ x. x.bench.steps ≤ s.bench.steps + 1) closing p s (omega arith) (omega (arith, turn_step p s))

  -- a step does not look at the log: it adds to it
  turn_later : (p : ℕ) (s : State) → turn W C calls p s ≡ later s (turn W C calls p (bare s))
  unfolding turn turn_as act
  turn_later p s = by_test (is_idle r.stage) refl
    where
      r : Process
      r = ready calls s.bench.steps (process_at s.bench p)

      by_test : (t : Bool) → is_idle (ready calls s.bench.steps (process_at s.bench p)).stage ≡ t
          → cond (is_idle (ready calls s.bench.steps (process_at s.bench p)).stage) (idle s)
          (act W C p (ready calls s.bench.steps (process_at s.bench p)) s)
          ≡ later s (cond (is_idle (ready calls s.bench.steps (process_at s.bench p)).stage) (idle (bare s)) (act W C p (ready calls s.bench.steps (process_at s.bench p)) (bare s)))
      by_test true e = rw e (λ i. record { bench = (idle s).bench; slots = s.slots; log = sym (append-nil s.log) i })
      by_test false e = rw e refl

  pub walk_later : (closing : Bool) (p : ℕ) (s : State) → walked_one closing W C calls p s ≡ later s (walked_one closing W C calls p (bare s))
  walk_later false p s = walk_turn p s ∙ turn_later p s ∙ ap (later s) (sym (walk_turn p (bare s)))
  walk_later true p s = by (is_idle (process_at s.bench p).stage) refl
    where
      by : (i : Bool) → is_idle (process_at s.bench p).stage ≡ i → walked_one true W C calls p s ≡ later s (walked_one true W C calls p (bare s))
      by true e = walk_idle p s e ∙ later_none s ∙ ap (later s) (sym (walk_idle p (bare s) e))
      by false e = walk_busy p s e ∙ act_later W C p (process_at s.bench p) s ∙ ap (later s) (sym (walk_busy p (bare s) e))

  pub walked_later : (closing : Bool) (ps : List ℕ) (s : State) → walked closing W C calls ps s ≡ later s (walked closing W C calls ps (bare s))
  unfolding walked
  walked_later closing [] s = later_none s
  walked_later closing (p ∷ ps) s =
      let a = walked_one closing W C calls p (bare s) in
      ap (walked closing W C calls ps) (walk_later closing p s) ∙ walked_later closing ps (later s a)
      ∙ later_later s a (walked closing W C calls ps (bare a)) ∙ ap (later s) (sym (walked_later closing ps a))

  -- one step more
  pub walked_append : (closing : Bool) (ps qs : List ℕ) (s : State)
      → walked closing W C calls (ps ++ qs) s ≡ walked closing W C calls qs (walked closing W C calls ps s)
  unfolding walked
  walked_append closing [] qs s = refl
  walked_append closing (p ∷ ps) qs s = walked_append closing ps qs (walked_one closing W C calls p s)

  pub walked_next : (closing : Bool) (ps : List ℕ) (i : ℕ) (s : State) → i < length ps
      → walked closing W C calls (take (i + 1) ps) s ≡ walked_one closing W C calls (get_or ps i 0) (walked closing W C calls (take i ps) s)
  unfolding walked
  walked_next closing ps i s h = rw (add-one i, take-suc ps i 0 h) (walked_append closing (take i ps) (get_or ps i 0 ∷ []) s)

-- no call is left
none_at : (rs : List Process) → total rs ≤ 0 → (p : ℕ) → weight (get_or rs p nobody) ≤ 0
none_at [] h p = omega arith
none_at (r ∷ rs) h zero = omega arith
none_at (r ∷ rs) h (suc p) = none_at rs (omega arith) p

no_bit : (t : Bool) → bit t ≤ 0 → t ≡ true
no_bit true h = refl
no_bit false h = absurd (omega arith)

-- the rest of a schedule where no call is left: it counts, but for the closing
abbrev pub waited : Bool → ℕ → State → State
waited closing k s = record {
  bench = record {
    queues = s.bench.queues;
    processes = s.bench.processes;
    steps = s.bench.steps + cond closing 0 k;
    gone = s.bench.gone;
  };
  slots = s.slots;
  log = s.log;
}

pub with_steps_lem : (s : State) (n : ℕ) → s.bench.steps ≡ n
    → s ≡ record {
      bench = record { queues = s.bench.queues; processes = s.bench.processes; steps = n; gone = s.bench.gone };
      slots = s.slots;
      log = s.log;
    }
with_steps_lem s n e =
    λ i. record {
      bench = record { queues = s.bench.queues; processes = s.bench.processes; steps = e i; gone = s.bench.gone };
      slots = s.slots;
      log = s.log;
    }

module _ (W C : ℕ) (calls : List Call) where
  waits : (closing : Bool) (p : ℕ) (s : State) → total s.bench.processes ≤ 0 → walked_one closing W C calls p s ≡ cond closing s (idle s)
  unfolding walked_one
  waits closing p s h = by closing
    where
      r : Process
      r = process_at s.bench p

      i : is_idle (process_at s.bench p).stage ≡ true
      i = no_bit (is_idle (process_at s.bench p).stage) (omega (arith, none_at s.bench.processes h p))

      l : ltb (process_at s.bench p).next (process_at s.bench p).stop ≡ false
      l = le-ltb (process_at s.bench p).next (process_at s.bench p).stop (omega (arith, none_at s.bench.processes h p))

      by : (closing : Bool) → walked_one closing W C calls p s ≡ cond closing s (idle s)
      by true = rw i
      by false = rw (i, l, i)

  pub walked_waits : (closing : Bool) (ps : List ℕ) (s : State) → total s.bench.processes ≤ 0
      → walked closing W C calls ps s ≡ waited closing (length ps) s
  unfolding walked
  walked_waits closing [] s h = with_steps_lem s (s.bench.steps + cond closing 0 0) (by closing)
    where
      by : (closing : Bool) → s.bench.steps ≡ s.bench.steps + cond closing 0 0
      by true = omega arith
      by false = omega arith
  walked_waits true (p ∷ ps) s h = ap (walked true W C calls ps) (waits true p s h) ∙ walked_waits true ps s h
  walked_waits false (p ∷ ps) s h =
      ap (walked false W C calls ps) (waits false p s h) ∙ walked_waits false ps (idle s) h
      ∙ with_steps_lem (waited false (length ps) (idle s)) (s.bench.steps + suc (length ps)) (omega arith)

-- the closing: the lowest process that is half-done is the one that is stepped, until it is idle
lowest_is : (l : List Process) (p : ℕ) → ((j : ℕ) → j < p → is_idle (get_or l j nobody).stage ≡ true) → is_idle (get_or l p nobody).stage ≡ false
    → lowest l ≡ p
lowest_is [] p h e = ever e
lowest_is (r ∷ l) zero h e = rw e
lowest_is (r ∷ l) (suc p) h e = rw (h 0 (omega arith)) (ap suc (lowest_is l p (λ j lt. h (suc j) (omega arith)) e))

lowest_past : (l : List Process) → ((j : ℕ) → is_idle (get_or l j nobody).stage ≡ true) → lowest l ≡ length l
lowest_past [] h = refl
lowest_past (r ∷ l) h = rw (h 0) (ap suc (lowest_past l (λ j. h (suc j))))

lowest_below : (l : List Process) (j : ℕ) → j < lowest l → is_idle (get_or l j nobody).stage ≡ true
lowest_below [] j h = refl
lowest_below (r ∷ l) zero h = either_way (λ (n : ℕ). 0 < n → is_idle r.stage ≡ true) (is_idle r.stage) (λ e k. e) (λ e k. absurd (omega arith)) h
lowest_below (r ∷ l) (suc j) h =
    either_way (λ (n : ℕ). suc j < n → is_idle (get_or l j nobody).stage ≡ true) (is_idle r.stage) (λ e k. lowest_below l j (omega arith))
    (λ e k. absurd (omega arith)) h

idle_left : (z : Stage) → is_idle z ≡ true → steps_left z ≤ 0
idle_left z e = subst (λ (y : Stage). steps_left y ≤ 0) (sym (idle_is z e)) (omega arith)

-- how far the closing of s₀ has come, after at most so many steps: the processes below p are idle, and p has at most so many steps left
pub record Part (W C : ℕ) (s₀ : State) (most p left : ℕ) (s : State) : Type 0 where
  pub made : ℕ
  pub few : made ≤ most
  pub is : s ≡ close W C made s₀
  pub eight : length s.bench.processes ≡ 8
  pub below : (j : ℕ) → j < p → is_idle (process_at s.bench j).stage ≡ true
  pub here : steps_left (process_at s.bench p).stage ≤ left
  pub six : (j : ℕ) → steps_left (process_at s.bench j).stage ≤ 6

module _ (W C : ℕ) (s₀ : State) where
  pub part_start : length s₀.bench.processes ≡ 8 → ((j : ℕ) → steps_left (process_at s₀.bench j).stage ≤ 6) → Part W C s₀ 0 0 6 s₀
  unfolding close
  part_start eight six =
      record { made = 0; few = omega arith; is = refl; eight = eight; below = λ j lt. absurd (omega arith); here = six 0; six = six }

  -- where all are idle the closing is over
  pub part_over : (most p left : ℕ) (s : State) → Part W C s₀ most p left s → most ≤ closing_steps → lowest s.bench.processes ≡ 8
      → s ≡ close W C closing_steps s₀
  part_over most p left s h few e =
      let k : h.made + (48 - h.made) ≡ 48 = omega (arith, h.few) in
      h.is ∙ sym (close_early W C h.made (48 - h.made) s₀
      (le-ltb (lowest (close W C h.made s₀).bench.processes) 8 (omega (arith, e, ap (λ (x : State). lowest x.bench.processes) h.is))))
      ∙ ap (λ (m : ℕ). close W C m s₀) k

  pub part_all : (most left : ℕ) (s : State) → Part W C s₀ most 8 left s → most ≤ closing_steps → s ≡ close W C closing_steps s₀
  part_all most left s h few = part_over most 8 left s h few (lowest_past s.bench.processes (λ j. idle_at j (dec_lt j 8)) ∙ h.eight)
    where
      idle_at : (j : ℕ) → Dec (j < 8) → is_idle (process_at s.bench j).stage ≡ true
      idle_at j (yes lt) = h.below j lt
      idle_at j (no ge) =
          ap (λ (r : Process). is_idle r.stage) (get_or-eq_default s.bench.processes nobody {n = j} (omega (arith, h.eight)))

  module _ (calls : List Call) (p : ℕ) (lt : p < 8) where
    part_step : (most left : ℕ) (s : State) → Part W C s₀ most p (suc left) s → Part W C s₀ (suc most) p left (walked_one true W C calls p s)
    unfolding act
    part_step most left s h = by (is_idle (process_at s.bench p).stage) refl
      where
        x : Process
        x = record_after W C p (process_at s.bench p) s

        lower : steps_left x.stage ≤ left
        lower = omega (arith, step_lowers W C p (process_at s.bench p) s, h.here)

        at : (Q : ℕ → Process → Type 0) → Q p x → ((j : ℕ) → (j ≡ p → ⊥) → Q j (process_at s.bench j)) → (j : ℕ)
            → Q j (get_or (set s.bench.processes p x) j nobody)
        at Q a b j = if_set (Q j) s.bench.processes p j x nobody (omega (arith, h.eight)) (λ e. subst (λ (k : ℕ). Q k x) (sym e) a) (b j)

        by : (i : Bool) → is_idle (process_at s.bench p).stage ≡ i → Part W C s₀ (suc most) p left (walked_one true W C calls p s)
        by true e = subst (Part W C s₀ (suc most) p left) (sym (walk_idle W C calls p s e)) (record {
          made = h.made;
          few = omega (arith, h.few);
          is = h.is;
          eight = h.eight;
          below = h.below;
          here = omega (arith, idle_left (process_at s.bench p).stage e);
          six = h.six;
        })
        by false e = subst (Part W C s₀ (suc most) p left) (sym (walk_busy W C calls p s e)) (record {
          made = suc h.made;
          few = omega (arith, h.few);
          is = step ∙ ap (closes W C) h.is ∙ sym (close_next W C h.made s₀);
          eight = length-set s.bench.processes p x ∙ h.eight;
          below = at (λ j y. j < p → is_idle y.stage ≡ true) (λ k. absurd (omega arith)) (λ j ne. h.below j);
          here = rw (get_or-set_same s.bench.processes p x nobody (omega (arith, h.eight))) lower;
          six =
              at (λ j y. steps_left y.stage ≤ 6) (omega (arith, lower, step_lowers W C p (process_at s.bench p) s, h.six p)) (λ j ne. h.six j);
        })
          where
            low : lowest s.bench.processes ≡ p
            low = lowest_is s.bench.processes p h.below e

            step : act W C p (process_at s.bench p) s ≡ closes W C s
            step = rw (low, lt-ltb p 8 lt)

    -- a process that has no step left is idle, and so are those below d, which is one of them or the next
    part_next : (most d : ℕ) (s : State) → d ≤ suc p → Part W C s₀ most p 0 s → Part W C s₀ most d 6 s
    part_next most d s le h = record {
      made = h.made;
      few = h.few;
      is = h.is;
      eight = h.eight;
      below = λ j k. split j (omega arith) (ℕ_discrete j p);
      here = h.six d;
      six = h.six;
    }
      where
        split : (j : ℕ) → j < suc p → Dec (j ≡ p) → is_idle (process_at s.bench j).stage ≡ true
        split j k (yes e) = rw e (none_left (process_at s.bench p).stage h.here)
        split j k (no ne) = h.below j (omega arith)

    -- a round of the closing: six steps of the lowest half-done process
    pub part_round : (most d : ℕ) (s : State) → p ≡ lowest s.bench.processes → Part W C s₀ most d 6 s
        → Part W C s₀ (most + 6) (d + 1) 6 (walked true W C calls (p ∷ p ∷ p ∷ p ∷ p ∷ p ∷ []) s)
    unfolding walked
    part_round most d s e h =
        let f : State → State = walked_one true W C calls p in
        let one = part_step most 5 s lowered in
        let two = part_step (suc most) 4 (f s) one in
        let three = part_step (suc (suc most)) 3 (f (f s)) two in
        let four = part_step (suc (suc (suc most))) 2 (f (f (f s))) three in
        let five = part_step (suc (suc (suc (suc most)))) 1 (f (f (f (f s)))) four in
        let six = part_step (suc (suc (suc (suc (suc most))))) 0 (f (f (f (f (f s))))) five in
        let sum : suc (suc (suc (suc (suc (suc most))))) ≡ most + 6 = omega arith in
        subst (λ (k : ℕ). Part W C s₀ k (d + 1) 6 (f (f (f (f (f (f s))))))) sum
        (part_next (suc (suc (suc (suc (suc (suc most)))))) (d + 1) (f (f (f (f (f (f s)))))) (omega (arith, above (dec_lt p d))) six)
      where
        lowered : Part W C s₀ most p 6 s
        lowered = record {
          made = h.made;
          few = h.few;
          is = h.is;
          eight = h.eight;
          below = λ j k. lowest_below s.bench.processes j (omega (arith, e));
          here = h.six p;
          six = h.six;
        }

        above : Dec (p < d) → d ≤ p
        above (no ge) = omega arith
        above (yes k) =
            ever (sym (h.below p k) ∙ subst (λ (j : ℕ). is_idle (process_at s.bench j).stage ≡ false) (sym e) (lowest_busy s.bench.processes (omega (arith, e, h.eight))))

-- a schedule has at most as many steps as it has entries
pub walked_steps : (W C : ℕ) (calls : List Call) (closing : Bool) (ps : List ℕ) (s : State)
    → (walked closing W C calls ps s).bench.steps ≤ s.bench.steps + length ps
unfolding walked
walked_steps W C calls closing [] s = omega arith
walked_steps W C calls closing (p ∷ ps) s =
    omega (arith, walked_steps W C calls closing ps (walked_one closing W C calls p s), walk_step W C calls closing p s)
