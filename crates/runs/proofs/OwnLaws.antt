-- Each call of a run makes at most 3, 4 or 7 own steps from its start to its end: what a stage has still to make falls with each of them.
use Prim.Native.Nat.{ℕ, zero, suc, ◌+◌, ◌-◌, ◌≤◌, ◌<◌}
use mathlib.Core.Path.{◌≡◌, refl, sym, ap, ◌∙◌, subst}
use mathlib.Core.Bool.{Bool, true, false, cond, ◌&&◌}
use mathlib.Core.List.{[], ◌∷◌, ◌++◌, append-nil}
use native.Mathlib.Numerals.{add-one}
use native.Mathlib.Omega.{arith}
use lib.Dec.{ltb, leb, eqb}
use lib.ListN.{length, get_or}
use borrow.Author.Tests.{ltb-true, lt-ltb, le-ltb, lt-leb, ne_eqb}
use Rattle.base.specs.Lists.{All}
use Rattle.base.proofs.Lists.{all_snoc}
use Rattle.base.proofs.Cases.{either_way, ever, if_set}
use Rattle.call_log.specs.declared.Entry.{Entry}
use Rattle.word.specs.Stages.{is_idle}
use Rattle.word.specs.Inner.StepsLeft.{steps_left}
use Rattle.word.specs.declared.Stage.{Stage}
use Rattle.word.specs.declared.Word.{Word}
use Rattle.steps.specs.Step.{loaded_slot, loaded, stage_after, Stepped}
use Rattle.steps.specs.declared.Next.{Next}
use Rattle.steps.specs.declared.Next.TheVariants.{Going, Done, Node, Nil, Lost, Full}
use Rattle.steps.proofs.StepLaws.{lowers}
use Rattle.runfile.specs.Encode.{InRanges}
use Rattle.runfile.specs.File.{RunFile}
use Rattle.runfile.specs.declared.Call.{Call}
use Rattle.runfile.specs.declared.Call.TheVariants.{Push, Pop, Take}
use Rattle.runs.specs.Moment.{queue_of, is_take}
use Rattle.runs.specs.Run.{lowest, closing_step, closing_steps, closed}
use Rattle.runs.specs.Shown.{who_steps, own_steps, own_most}
use Rattle.runs.specs.State.{Process, State, nobody, queue_at, process_at, start}
use Rattle.runs.specs.States.{scheduled, closing, StateOf, at_schedule, at_closing}
use Rattle.runs.specs.Turn.{first_stage, process_after, entries_in, ending, act, idle}
use Rattle.runs.proofs.ClosingLaws.{act_numbered, turn_numbered, some_left}
use Rattle.runs.proofs.KindLaws.{Within, within, whose, Gives, gives}
use Rattle.runs.specs.Inner.Sound.{is_push, is_top, is_own, Sound, slots_at}
use Rattle.runs.proofs.LostLaws.{LostIn, row_lost}
use Rattle.runs.proofs.Sound.{Steps, Was, goes, begins, row_at, act_is}
use Rattle.runs.proofs.Scripts.{sizes_of, turn_case, start_fresh}
use Rattle.runs.proofs.States.{scheduled_0, scheduled_next, closing_0, closing_next, closer, sound, each_scripted}

-- the own steps of the call that a stage is of
abbrev most_in : Stage → ℕ
most_in z = cond (is_push z) 3 (cond (is_top z) 4 7)

most_all : (z : Stage) → most_in z ≤ 7
most_all z =
    either_way (λ (n : ℕ). n ≤ 7) (is_push z) (λ e. omega arith) (λ e. either_way (λ (n : ℕ). n ≤ 7) (is_top z) (λ d. omega arith) (λ d. omega arith))

most_push : (z : Stage) → is_push z ≡ true → most_in z ≤ 3
most_push z e = rw e (omega arith)

most_top : (z : Stage) → is_top z ≡ true → most_in z ≤ 4
most_top z e = either_way (λ (n : ℕ). n ≤ 4) (is_push z) (λ d. omega arith) (λ d. rw e (omega arith))

-- a step stays in its call
most_kept : (s z : Stage) → Within s z → most_in s ≤ most_in z
most_kept s z k =
    either_way (λ (n : ℕ). most_in s ≤ n) (is_push z) (λ e. most_push s (k.push e))
    (λ e. either_way (λ (n : ℕ). most_in s ≤ n) (is_top z) (λ d. most_top s (k.top d)) (λ d. most_all s))

first_most : (c : Call) → steps_left (first_stage c) ≤ most_in (first_stage c)
first_most (Push node) = omega arith
first_most Pop = omega arith
first_most (Take q) = omega arith

module _ (f : RunFile) where
  one_more : (p from n : ℕ) → own_steps f p from (suc n) ≤ own_steps f p from n + 1
  one_more p from n =
      either_way (λ (k : ℕ). own_steps f p from n + k ≤ own_steps f p from n + 1) (leb from n && eqb (who_steps f n) p) (λ e. omega arith)
      (λ e. omega arith)

  no_more : (p from n : ℕ) (t u : Bool) → leb from n ≡ t → eqb (who_steps f n) p ≡ u → (t && u) ≡ false
      → own_steps f p from (suc n) ≡ own_steps f p from n
  no_more p from n t u d e k = rw (d, e, k) (omega arith)

  another's : (p from n : ℕ) → (who_steps f n ≡ p → ⊥) → own_steps f p from (suc n) ≡ own_steps f p from n
  another's p from n d = by (leb from n) refl
    where
      by : (t : Bool) → leb from n ≡ t → own_steps f p from (suc n) ≡ own_steps f p from n
      by true e = no_more p from n true false e (ne_eqb (who_steps f n) p d) refl
      by false e = no_more p from n false false e (ne_eqb (who_steps f n) p d) refl

  none : (p from n : ℕ) → n ≤ from → own_steps f p from n ≡ 0
  none p from zero h = refl
  none p from (suc n) h =
      no_more p from n false (eqb (who_steps f n) p) (lt-leb from n (omega arith)) refl refl ∙ none p from n (omega arith)

  -- the own steps that a call has made before step n, with those that it has still to make
  abbrev Spent : ℕ → ℕ → Process → Type 0
  Spent p n r = own_steps f p r.start n + steps_left r.stage ≤ most_in r.stage

  abbrev Few : Entry → Type 0
  Few e = own_steps f e.process e.start (suc e.end) ≤ own_most e.kind

  record Own (s : State) : Type 0 where
    going : (p : ℕ) → is_idle (process_at s.bench p).stage ≡ false → Spent p s.bench.steps (process_at s.bench p)
    told : All Few s.log

  module _ (h : InRanges f) where
    -- step n of process p, which steps with the record r
    module _ (s : State) (v : Sound (sizes_of f) s) (own : Own s) (p : ℕ) (who : who_steps f s.bench.steps ≡ p) where
      abbrev n : ℕ
      n = s.bench.steps

      others : (j : ℕ) → (j ≡ p → ⊥) → is_idle (process_at s.bench j).stage ≡ false → Spent j (n + 1) (process_at s.bench j)
      others j d b =
          rw (add-one n, another's j (process_at s.bench j).start n (λ e. d (sym e ∙ who))) (own.going j b)

      own_idle : is_idle (process_at s.bench p).stage ≡ true → Own (idle s)
      own_idle z = record {
        going = λ j b. others j (λ e. ever (sym (ap (λ (i : ℕ). is_idle (process_at s.bench i).stage) e ∙ z) ∙ b)) b;
        told = own.told;
      }

      module _ (r : Process) (k : Steps (sizes_of f) s p r) where
        abbrev q : ℕ
        q = queue_of p r.call

        abbrev w : Word
        w = (queue_at s.bench q).word

        abbrev x : ℕ
        x = loaded (slots_at s q) (loaded_slot r.stage)

        abbrev o : Stepped
        o = row_at (sizes_of f) s p r

        before : Spent p n r
        before = by r k.was k.busy
          where
            by : (y : Process) → Was (sizes_of f) s p y → is_idle y.stage ≡ false → Spent p n y
            by _ goes b = own.going p b
            by _ (begins call z) b = rw (none p n n (omega arith)) (omega (arith, first_most call))

        after : own_steps f p r.start (suc n) + steps_left (stage_after o.next) ≤ most_in r.stage
        after = omega (arith, before, one_more p r.start n, lowers f.width f.size w x r.stage, some_left r.stage k.busy)

        of_take : is_take r.call ≡ true → most_in r.stage ≤ 4
        of_take e = by (is_own r.stage) refl
          where
            by : (t : Bool) → is_own r.stage ≡ t → most_in r.stage ≤ 4
            by true d = ever (sym e ∙ k.placed.suits.own d)
            by false d = most_top r.stage (whose r.stage k.busy d)

        few : (m : ℕ) → most_in r.stage ≤ m → own_steps f p r.start (suc n) ≤ m
        few m d = omega (arith, after)

        abbrev Told : Next → Type 0
        Told y = All Few (s.log ++ entries_in (ending p r s.bench y))

        -- the entry of the call that the step ends
        told_after : (y : Next) → Gives r.stage y → LostIn w r.stage y → Told y
        told_after (Going z) g l = subst (All Few) (sym (append-nil s.log)) own.told
        told_after Done g l = all_snoc Few s.log _ own.told (few 3 (most_push r.stage g))
        told_after (Node y) g l =
            either_way (λ (e : Entry). All Few (s.log ++ (e ∷ []))) (is_take r.call)
            (λ e. all_snoc Few s.log _ own.told (few 4 (of_take e))) (λ e. all_snoc Few s.log _ own.told (few 7 (most_all r.stage)))
        told_after Nil g l =
            either_way (λ (e : Entry). All Few (s.log ++ (e ∷ []))) (is_take r.call)
            (λ e. all_snoc Few s.log _ own.told (few 4 (of_take e))) (λ e. all_snoc Few s.log _ own.told (few 7 (most_all r.stage)))
        told_after Lost g l = all_snoc Few s.log _ own.told (few 4 (subst (λ (z : Stage). most_in z ≤ 4) (sym l.4) (omega arith)))
        told_after Full g l = all_snoc Few s.log _ own.told (few 3 (most_push r.stage g))

        own_act : Own (act f.width f.size p r s)
        own_act = subst Own (sym (act_is (sizes_of f) s p r)) (record {
          going = λ j. if_set (λ (y : Process). is_idle y.stage ≡ false → Spent j (n + 1) y) s.bench.processes p j
              (process_after n (queue_at s.bench q).resets r o.next) nobody (omega (arith, k.below, v.records, h.processes))
              (λ e b. rw (e, add-one n) (omega (arith, after, most_kept r.stage _ (within f.width f.size w x r.stage)))) (others j);
          told = told_after o.next (gives f.width f.size w x r.stage) (row_lost f.width f.size w x r.stage);
        })

    own_start : Own (start f)
    own_start = record { going = λ p b. ever (sym (ap is_idle ((start_fresh f h).idle p)) ∙ b); told = tt }

    -- the schedule: step k is made by its process k
    scheduled_steps : (k : ℕ) → k ≤ length f.schedule → (scheduled f k).bench.steps ≡ k
    scheduled_steps zero le = ap (λ (s : State). s.bench.steps) (scheduled_0 f)
    scheduled_steps (suc k) le =
        ap (λ (s : State). s.bench.steps) (scheduled_next f k (omega arith))
        ∙ turn_numbered f.width f.size f.calls k (get_or f.schedule k 0) (scheduled f k) (scheduled_steps k (omega arith))

    who_scheduled : (k : ℕ) → k < length f.schedule → who_steps f (scheduled f k).bench.steps ≡ get_or f.schedule k 0
    who_scheduled k lt = rw (scheduled_steps k (omega arith), lt-ltb k (length f.schedule) lt)

    own_scheduled : (k : ℕ) → k ≤ length f.schedule → Own (scheduled f k)
    own_scheduled zero le = subst Own (sym (scheduled_0 f)) own_start
    own_scheduled (suc k) le =
        let s : State = scheduled f k in
        let i : StateOf f s = at_schedule k (omega arith) in
        let v = sound f h s i in
        let w = who_scheduled k (omega arith) in
        subst Own (sym (scheduled_next f k (omega arith)))
        (turn_case f h Own s v (each_scripted f h s i) (get_or f.schedule k 0) (h.schedule k (omega arith))
        (own_idle s v (own_scheduled k (omega arith)) (get_or f.schedule k 0) w)
        (λ r k' c. own_act s v (own_scheduled k (omega arith)) (get_or f.schedule k 0) w r k'))

    -- the closing: as long as it goes on, each step of it counts
    abbrev more : State → Bool
    more s = ltb (lowest s.bench.processes) 8

    closing_steps_lem : (k : ℕ) → more (closing f k) ≡ true → (closing f k).bench.steps ≡ length f.schedule + k
    closing_steps_lem zero e = ap (λ (s : State). s.bench.steps) (closing_0 f) ∙ scheduled_steps (length f.schedule) (omega arith) ∙ omega arith
    closing_steps_lem (suc k) e = by (more (closing f k)) refl (closing_steps_lem k)
      where
        s : State
        s = closing f k

        by : (t : Bool) → more (closing f k) ≡ t → (more (closing f k) ≡ true → (closing f k).bench.steps ≡ length f.schedule + k)
            → (closing f (suc k)).bench.steps ≡ length f.schedule + suc k
        by true d before =
            ap (λ (x : State). x.bench.steps) (closing_next f k)
            ∙ ap (λ (t : Bool). (cond t (closing_step f.width f.size s) s).bench.steps) d
            ∙ act_numbered f.width f.size (length f.schedule + k) (lowest s.bench.processes)
            (process_at s.bench (lowest s.bench.processes)) s (before d)
            ∙ omega arith
        by false d before =
            ever (sym e ∙ ap more (closing_next f k) ∙ ap (λ (t : Bool). more (cond t (closing_step f.width f.size s) s)) d ∙ d)

    who_closing : (k : ℕ) → more (closing f k) ≡ true → who_steps f (closing f k).bench.steps ≡ lowest (closing f k).bench.processes
    who_closing k e =
        let m : length f.schedule + k - length f.schedule ≡ k = omega arith in
        rw (closing_steps_lem k e, le-ltb (length f.schedule + k) (length f.schedule) (omega arith), m)

    own_closing : (k : ℕ) → k ≤ closing_steps → Own (closing f k)
    own_closing zero le = subst Own (sym (closing_0 f)) (own_scheduled (length f.schedule) (omega arith))
    own_closing (suc k) le =
        let s : State = closing f k in
        let i : StateOf f s = at_closing k (omega arith) in
        let v = sound f h s i in
        subst Own (sym (closing_next f k))
        (either_way Own (more s)
        (λ e. own_act s v (own_closing k (omega arith)) (lowest s.bench.processes) (who_closing k e) (process_at s.bench (lowest s.bench.processes))
        (closer f h s v (each_scripted f h s i) (ltb-true _ 8 e)).0)
        (λ e. own_closing k (omega arith)))

pub own_steps_most : (f : RunFile) → InRanges f
    → All (λ (e : Entry). own_steps f e.process e.start (suc e.end) ≤ own_most e.kind) (closed f).log
unfolding closed
own_steps_most f h = (own_closing f h closing_steps (omega arith)).told
