-- What the ways through a turn of the program's loop come to: an idle step, a step that goes on with its call, and one that ends it.
use Prim.Native.Nat.{ℕ, ◌+◌, ◌-◌, ◌<◌}
use mathlib.Core.Path.{◌≡◌, refl, sym, ap, ◌∙◌, subst}
use mathlib.Core.Bool.{Bool, true, false, cond, ◌&&◌}
use mathlib.Core.List.{List, []}
use native.Mathlib.Omega.{arith}
use lib.Dec.{eqb, ltb, leb}
use lib.ListN.{length, get_or, set, length-set}
use borrow.Author.Tests.{leb-true, lt-ltb, le-leb, le-ltb}
use native.Mathlib.Decide.{dec_lt}
use Rattle.base.proofs.Bools.{and_0, and_1}
use Rattle.base.proofs.Cases.{ever, either_way}
use Rattle.word.specs.Stages.{is_idle}
use Rattle.word.specs.declared.Word.{Word}
use Rattle.word.specs.declared.Stage.{Stage}
use Rattle.word.specs.declared.Stage.TheVariants.{Idle, P1, P2, P3, T1, T2, T3, T4, B1, B2, B3, B4, B5, B6, B7}
use Rattle.steps.specs.Step.{same_age, row_of, loaded, loaded_slot, in_sixteen, stepped_on, stage_after, Stepped}
use Rattle.steps.specs.Packed.{unpacked, unpacked_step, PackedStep}
use Rattle.steps.specs.declared.Next.{Next}
use Rattle.steps.specs.declared.Next.TheVariants.{Going, Done, Node, Nil, Lost, Full}
use Rattle.steps.proofs.StepLaws.{sixteen_in}
use Rattle.word.specs.Inner.InRange.{InRange}
use Rattle.runfile.specs.declared.Call.{Call}
use Rattle.runfile.specs.declared.Call.TheVariants.{Push, Pop, Take}
use Rattle.runs.specs.Moment.{queue_of, ended, gone_round, Ended, Nothing}
use Rattle.runs.specs.State.{Process, Queue, State, queue_at, process_at}
use Rattle.runs.specs.Turn.{first_stage, ready, queue_after, process_after, entries_in, bench_after, act, idle}
use Rattle.runs.specs.Inner.Sound.{Sizes, Fit, processes, AllIn, Placed, Sound}
use Rattle.runs.proofs.Sound.{turning_placed}
use Rattle.records.specs.Inner.Records.{process_in}
use Rattle.bench.specs.Inner.Layout.{fresh_held, idle_held, queue_in, record_in, bench_in, Whole, slots_in, state_in, StepsIn, put_entries, Becomes}
use Rattle.bench.specs.Inner.Layout.{Tells}
use Rattle.bench.specs.Inner.Walk.{walking, rests, walked_one}
use Rattle.bench.proofs.LayoutLaws.{queue_is, process_is, Put, put_set, Changes, queues_changed, processes_changed}
use Rattle.bench.proofs.WalkLaws.{waited, with_steps_lem}
use Rattle.bench.specs.declared.Bench.{Bench as HeldBench}
use Rattle.records.specs.declared.Process.{Process as HeldProcess}
use Rattle.bench.specs.declared.turn.Told.{Told}

-- a reset ends its call
abbrev Ends : Stepped → Type 0
Ends o = is_idle (stage_after o.next) ≡ false → o.reset ≡ false

row_resets : (W C : ℕ) (w : Word) (v : ℕ) (z : Stage) → Ends (row_of W C w v z)
row_resets W C w v Idle = λ e. refl
row_resets W C w v (P1 node) = either_way Ends (eqb w.bottom C) (λ t e. refl) (λ t e. refl)
row_resets W C w v (P2 node b) = λ e. refl
row_resets W C w v (P3 b) = λ e. refl
row_resets W C w v T1 = λ e. refl
row_resets W C w v (T2 t g) = either_way Ends (leb w.bottom t) (λ t e. refl) (λ t e. refl)
row_resets W C w v (T3 t g b) = λ e. refl
row_resets W C w v (T4 t g b x) = either_way Ends (same_age w t g) (λ t e. refl) (λ t e. refl)
row_resets W C w v B1 = either_way Ends (eqb w.bottom 0) (λ t e. refl) (λ t e. refl)
row_resets W C w v (B2 b) = λ e. refl
row_resets W C w v (B3 b) = λ e. refl
row_resets W C w v (B4 b x) = either_way Ends (ltb w.top (b - 1)) (λ t e. refl) (λ t e. refl)
row_resets W C w v (B5 b x t g) = λ e. refl
row_resets W C w v (B6 b x t g) = either_way Ends (same_age w t g) (λ t e. ever e) (λ t e. refl)
row_resets W C w v (B7 b x t g) = λ e. ever e

-- where a call goes on nothing is logged or counted
going : (p n : ℕ) (r owner : Process) (t resets : ℕ) (next : Next) → is_idle (stage_after next) ≡ false
    → (ended p n r owner t next ≡ Nothing) × (gone_round r resets next ≡ 0)
going p n r owner t resets (Going z) e = (refl, refl)
going p n r owner t resets Done e = ever e
going p n r owner t resets (Node x) e = ever e
going p n r owner t resets Nil e = ever e
going p n r owner t resets Lost e = ever e
going p n r owner t resets Full e = ever e

-- a call begins at no idle stage
first_busy : (c : Call) → is_idle (first_stage c) ≡ false
first_busy (Push node) = refl
first_busy Pop = refl
first_busy (Take q) = refl

not_idle : (t : Bool) → (t && true) ≡ false → t ≡ false
not_idle true e = e
not_idle false e = refl

-- the record with which a process makes its step, from the one that waits
module _ (calls : List Call) (n : ℕ) (w : Process) where
  pub same_b2 : (closing : Bool) → (cond closing w (ready calls n w)).b2 ≡ w.b2
  same_b2 true = refl
  same_b2 false =
      either_way (λ (x : Process). x.b2 ≡ w.b2) (is_idle w.stage && ltb w.next w.stop) (λ _. refl) (λ _. refl)

  -- it is idle exactly where it rests
  pub idle_rests : (closing : Bool) → rests closing w ≡ true → is_idle (cond closing w (ready calls n w)).stage ≡ true
  idle_rests true e = and_0 (is_idle w.stage) true e
  idle_rests false e =
      let over = le-ltb w.next w.stop (leb-true w.stop w.next (and_1 (is_idle w.stage) (leb w.stop w.next) e)) in
      let i = and_0 (is_idle w.stage) (leb w.stop w.next) e in
      rw (over, i) i

  pub busy_works : (closing : Bool) → rests closing w ≡ false → is_idle (cond closing w (ready calls n w)).stage ≡ false
  busy_works true e = not_idle (is_idle w.stage) e
  busy_works false e =
      either_way (λ (x : Process). is_idle x.stage ≡ false) (is_idle w.stage && ltb w.next w.stop) (λ _. first_busy (get_or calls w.next Pop))
      (λ k. split (is_idle w.stage) refl k)
    where
      split : (t : Bool) → is_idle w.stage ≡ t → (is_idle w.stage && ltb w.next w.stop) ≡ false → is_idle w.stage ≡ false
      split false i k = i
      split true i k = absurd (by (dec_lt w.next w.stop))
        where
          by : Dec (w.next < w.stop) → ⊥
          by (yes u) = ever (sym (ap (λ (t : Bool). t && ltb w.next w.stop) i ∙ lt-ltb w.next w.stop u) ∙ k)
          by (no u) = ever (sym (ap (λ (t : Bool). t && leb w.stop w.next) i ∙ le-leb w.stop w.next (omega arith)) ∙ e)

-- a bench with its steps counted further
abbrev pub with_steps : HeldBench → ℕ → HeldBench
with_steps b n = record {
  queues = b.queues;
  processes = b.processes;
  entries = b.entries;
  steps = n;
  gone = b.gone;
}

whole_steps : (b : HeldBench) (n : ℕ) → Whole b → Whole (with_steps b n)
whole_steps b n h = record { queues = h.queues; processes = h.processes }

pub becomes_waited : (C n : ℕ) (log₀ : List ℕ) (s : State) (closing : Bool) (k m : ℕ) → m ≡ cond closing 0 k → (b : HeldBench) (flat log : List ℕ)
    → Becomes C n log₀ s b flat log → Becomes C n log₀ (waited closing k s) (with_steps b (b.steps + m)) flat log
becomes_waited C n log₀ s closing k m e b flat log h = record {
  whole = whole_steps b (b.steps + m) h.whole;
  bench = λ i. record { queues = (h.bench i).queues; processes = (h.bench i).processes; steps = (h.bench i).steps + e i; gone = (h.bench i).gone };
  count = h.count;
  slots = h.slots;
  bytes = h.bytes;
}

-- a turn of process p, which makes it with the record r
module _ (f : Sizes) (h : Fit f) (closing : Bool) (calls : List Call) (all : AllIn (processes f) calls) (b : HeldBench) (flat log : List ℕ)
    (v : Sound f (state_in f.size b flat)) (p : ℕ) (lt : p < processes f) (r : Process)
    (d : r ≡ cond closing (record_in b p) (ready calls b.steps (record_in b p))) where
  abbrev W : ℕ
  W = f.width

  abbrev C : ℕ
  C = f.size

  abbrev s : State
  s = state_in f.size b flat

  pub below : p < 8
  below = omega (arith, h.processes)

  now : r ≡ walking closing calls p (state_in f.size b flat)
  now = d ∙ ap (λ (x : Process). cond closing x (ready calls b.steps x)) (sym (process_is b p below))

  placed : Placed f p r
  placed =
      subst (Placed f p) (sym now)
      (either_way (Placed f p) closing (λ _. v.each p lt) (λ _. turning_placed f h calls all (state_in f.size b flat) v p lt))

  passes : is_idle r.stage ≡ true
      → walked_one closing f.width f.size calls p (state_in f.size b flat) ≡ cond closing (state_in f.size b flat)
      (idle (state_in f.size b flat))
  unfolding walked_one
  passes i = rw (← now, i)

  walks : is_idle r.stage ≡ false
      → walked_one closing f.width f.size calls p (state_in f.size b flat) ≡ act f.width f.size p r (state_in f.size b flat)
  unfolding walked_one
  walks i = rw (← now, i)

  pub way_idle : is_idle r.stage ≡ true → (m : ℕ) → m ≡ cond closing 0 1 → Whole b
      → Becomes f.size b.entries log (walked_one closing f.width f.size calls p (state_in f.size b flat))
      (with_steps b (b.steps + m)) flat log
  way_idle i m e whole =
      subst (λ (x : State). Becomes C b.entries log x (with_steps b (b.steps + m)) flat log) (sym (waits closing refl))
      (becomes_waited C b.entries log (state_in f.size b flat) closing 1 m e b flat log
      (record { whole = whole; bench = refl; count = omega arith; slots = refl; bytes = refl }))
    where
      waits : (t : Bool) → closing ≡ t
          → walked_one closing f.width f.size calls p (state_in f.size b flat) ≡ waited closing 1 (state_in f.size b flat)
      waits true t = passes i ∙ rw t (with_steps_lem (state_in f.size b flat) (b.steps + 0) (omega arith))
      waits false t = passes i ∙ rw t

  module _ (busy : is_idle r.stage ≡ false) (q : ℕ) (e : q ≡ queue_of p r.call) where
    pub on_queue : q < 8
    on_queue = omega (arith, e, placed.queue, h.processes)

    in_range : InRange f.width f.size f.size (queue_at (bench_in b) q).word r.stage
    in_range = record {
      sizes = record { width_high = h.width; size_low = h.size.0; size_high = h.size.1; all = refl };
      word = v.words q (subst (λ (j : ℕ). j < f.processes) (sym e) placed.queue);
      stage = placed.stage;
    }

    module _ (o : PackedStep) (flat' : List ℕ) (x : StepsIn f.width f.size (get_or b.queues q fresh_held).word flat q r.stage o flat') where
      abbrev resets : ℕ
      resets = (get_or b.queues q fresh_held).resets

      queue : queue_at (bench_in b) q ≡ queue_in b q
      queue = queue_is b q on_queue

      made : unpacked_step o ≡ stepped_on f.width f.size (queue_at (bench_in b) q).word (get_or (slots_in f.size flat) q []) r.stage
      made =
          x.stepped ∙ ap (λ (y : Queue). in_sixteen (stepped_on W C y.word (get_or (slots_in C flat) q []) r.stage)) (sym queue)
          ∙ sixteen_in W C C (queue_at (bench_in b) q).word (loaded (get_or (slots_in C flat) q []) (loaded_slot r.stage)) r.stage in_range

      -- the step's changes, counts and entry are those of the definition
      acts : (over : Ended) → over ≡ ended p b.steps r (record_in b q) (unpacked (get_or b.queues q fresh_held).word).top o.next
          → (z : HeldProcess) → process_in z ≡ process_after b.steps (get_or b.queues q fresh_held).resets r o.next
          → (b' : HeldBench) (log' : List ℕ) → Whole b'
          → Changes b b' p q o.word (cond o.reset ((get_or b.queues q fresh_held).resets + 1) (get_or b.queues q fresh_held).resets) z
          → b'.steps ≡ b.steps + 1 → b'.gone ≡ b.gone + gone_round r (get_or b.queues q fresh_held).resets o.next
          → b'.entries ≡ b.entries + length (entries_in over)
          → log' ≡ put_entries b.entries (entries_in over) log
          → Becomes f.size b.entries log (walked_one closing f.width f.size calls p (state_in f.size b flat)) b' flat' log'
      unfolding act
      acts over ends z is b' log' whole g steps gone count bytes =
          subst (λ (y : State). Becomes C b.entries log y b' flat' log') (sym (walks busy)) (record {
            whole = whole;
            bench = rw (← e, ← made) bench_after_lem;
            count = rw (← e, ← made, ← over_is) count;
            slots = rw (← e, ← made) x.slots;
            bytes = rw (← e, ← made, ← over_is) bytes;
          })
        where
          over_is : over ≡ ended p b.steps r (process_at (bench_in b) q) (queue_at (bench_in b) q).word.top o.next
          over_is =
              ends
              ∙ ap (λ (y : Process). ended p b.steps r y (unpacked (get_or b.queues q fresh_held).word).top o.next) (sym (process_is b q on_queue))
              ∙ ap (λ (y : Queue). ended p b.steps r (process_at (bench_in b) q) y.word.top o.next) (sym queue)

          bench_after_lem : bench_in b' ≡ bench_after (bench_in b) p q r (unpacked_step o)
          bench_after_lem = λ i. record {
            queues =
                (queues_changed b b' p q _ _ _ g on_queue ∙ ap (λ (y : Queue). set (bench_in b).queues q (queue_after y (unpacked_step o))) (sym queue)) i;
            processes = (processes_changed b b' p q _ _ _ g below ∙ ap (set (bench_in b).processes p) is
                ∙ ap (λ (y : Queue). set (bench_in b).processes p (process_after b.steps y.resets r o.next)) (sym queue)) i;
            steps = steps i;
            gone = (gone ∙ ap (λ (y : Queue). b.gone + gone_round r y.resets o.next) (sym queue)) i;
          }

      row : o.next ≡ (stepped_on f.width f.size (queue_at (bench_in b) q).word (get_or (slots_in f.size flat) q []) r.stage).next
      row = ap (λ (y : Stepped). y.next) made

      no_reset : is_idle (stage_after o.next) ≡ false → o.reset ≡ false
      no_reset i =
          ap (λ (y : Stepped). y.reset) made ∙ row_resets W C _ _ r.stage (ap (λ (y : Next). is_idle (stage_after y)) (sym row) ∙ i)

      -- the bench after it, with what it has besides the changed word
      abbrev after : ℕ → HeldProcess → ℕ → ℕ → ℕ → HeldBench
      after R z entries steps gone = record {
        queues = set b.queues q (record { word = o.word; resets = R });
        processes = set b.processes p z;
        entries = entries;
        steps = steps;
        gone = gone;
      }

      module _ (whole : Whole b) (z : HeldProcess) (t : process_in z ≡ process_after b.steps (get_or b.queues q fresh_held).resets r o.next) where
        -- with so many resets of the queue
        module _ (R entries steps gone : ℕ) where
          whole' : Whole (after R z entries steps gone)
          whole' = record {
            queues = length-set b.queues q _ ∙ whole.queues;
            processes = length-set b.processes p z ∙ whole.processes;
          }

          changes : R ≡ cond o.reset (resets + 1) resets
              → Changes b (after R z entries steps gone) p q o.word (cond o.reset (resets + 1) resets) z
          changes e = record {
            queues =
                subst (λ (n : ℕ). Put fresh_held b.queues (set b.queues q (record { word = o.word; resets = R })) q (record { word = o.word; resets = n })) e
                (put_set fresh_held b.queues q (record { word = o.word; resets = R }) (omega (arith, whole.queues, on_queue)));
            processes = put_set idle_held b.processes p z (omega (arith, whole.processes, below));
          }

        -- the call goes on
        pub way_on : is_idle z.stage ≡ false
            → Becomes f.size b.entries log (walked_one closing f.width f.size calls p (state_in f.size b flat))
            (after (get_or b.queues q fresh_held).resets z b.entries (b.steps + 1) b.gone) flat' log
        way_on i =
            let j : is_idle (stage_after o.next) ≡ false = ap (λ (y : Process). is_idle y.stage) (sym t) ∙ i in
            let g = going p b.steps r (record_in b q) (unpacked (get_or b.queues q fresh_held).word).top resets o.next j in
            let same : resets ≡ cond o.reset (resets + 1) resets = ap (λ (y : Bool). cond y (resets + 1) resets) (sym (no_reset j)) in
            acts Nothing (sym g.0) z t _ log (whole' resets b.entries (b.steps + 1) b.gone)
            (changes resets b.entries (b.steps + 1) b.gone same) refl (omega (arith, g.1)) (omega arith) refl

        -- it ends
        pub way_ends : (m : Told) (log' : List ℕ)
            → Tells p b.steps b.entries r (record_in b q) (get_or b.queues q fresh_held).word (get_or b.queues q fresh_held).resets o log m log'
            → Becomes f.size b.entries log (walked_one closing f.width f.size calls p (state_in f.size b flat))
            (after m.resets z (b.entries + m.more) (b.steps + 1) (b.gone + m.gone)) flat' log'
        way_ends m log' g =
            acts g.over g.ends z t _ log'
            (whole' m.resets (b.entries + m.more) (b.steps + 1) (b.gone + m.gone))
            (changes m.resets (b.entries + m.more) (b.steps + 1) (b.gone + m.gone) g.again)
            refl (ap (λ (y : ℕ). b.gone + y) g.gone) (ap (λ (y : ℕ). b.entries + y) g.more) g.bytes
