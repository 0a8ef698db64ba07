-- What holds in every state of every run, whatever calls its processes begin: words, slots and stages are in range.
use Prim.Native.Nat.{ℕ, ◌≤◌, ◌<◌}
use mathlib.Core.Path.{◌≡◌, refl, sym, ap, ◌∙◌, subst}
use mathlib.Core.Bool.{Bool, true, false, cond, ◌&&◌}
use mathlib.Core.List.{List, []}
use native.Mathlib.Omega.{arith}
use lib.Dec.{ltb}
use lib.ListN.{length, get_or, length-set, replicate, length-replicate, get_or-replicate}
use lib.Pow.{pow_pos}
use Rattle.word.specs.Range.{in_range}
use Rattle.word.specs.Inner.InRange.{WordIn, StageIn}
use Rattle.word.proofs.RangeLaws.{range_in}
use Rattle.word.specs.Stages.{is_idle}
use Rattle.steps.specs.Step.{loaded_slot, loaded, Stepped}
use Rattle.steps.proofs.StepLaws.{stays_in, stored_length, StaysIn}
use Rattle.word.specs.declared.Stage.TheVariants.{Idle}
use Rattle.runfile.specs.declared.Call.{Call}
use Rattle.call_log.specs.declared.Entry.{Entry}
use Rattle.runfile.specs.declared.Call.TheVariants.{Push, Pop, Take}
use Rattle.runs.specs.Moment.{queue_of}
use Rattle.runs.specs.State.{Process, Queue, State, fresh, nobody, queue_at, process_at}
use Rattle.runs.specs.Turn.{first_stage, begun, process_after, stepping, acted, act, idle, turning, turn_as, turn}
use Rattle.base.proofs.Cases.{never, if_set}
use Rattle.runs.proofs.KindLaws.{within, still_suits, first_suits, idle_is}
use Rattle.runs.specs.Inner.Sound.{is_first, Suits, Sizes, Fit, processes, slots_at, CallIn, AllIn, Placed, Sound}

-- the record with which a process steps: its own, in the middle of a call, or with a call begun
pub data Was (f : Sizes) (s : State) (p : ℕ) : Process → Type 0 where
  goes : Was f s p (process_at s.bench p)
  begins : (call : Call) → (process_at s.bench p).stage ≡ Idle → Was f s p (begun s.bench.steps call (process_at s.bench p))

pub record Steps (f : Sizes) (s : State) (p : ℕ) (r : Process) : Type 0 where
  pub below : p < processes f
  pub busy : is_idle r.stage ≡ false
  pub placed : Placed f p r
  pub was : Was f s p r

-- the row of the table that the step is
abbrev pub row_at : Sizes → State → ℕ → Process → Stepped
row_at f s p r = stepping f.width f.size p r s

pub act_is : (f : Sizes) (s : State) (p : ℕ) (r : Process) → act f.width f.size p r s ≡ acted p r s (row_at f s p r)
unfolding act
act_is f s p r = refl

-- all 0 at first, and every process idle
pub record Fresh (f : Sizes) (s : State) : Type 0 where
  pub queues : s.bench.queues ≡ replicate 8 fresh
  pub slots : s.slots ≡ replicate 8 (replicate {A = ℕ} f.size 0)
  pub records : length s.bench.processes ≡ 8
  pub idle : (p : ℕ) → (process_at s.bench p).stage ≡ Idle
  pub queue : (p : ℕ) → p < processes f → queue_of p (process_at s.bench p).call < processes f
  pub begun : (p : ℕ) → (process_at s.bench p).start ≤ s.bench.steps
  pub log : s.log ≡ []
  pub gone : s.bench.gone ≡ 0

-- what is in range is of queues, records and slots alone
pub sound_as : (f : Sizes) (s : State) → Sound f s → (steps gone : ℕ) (log : List Entry)
    → Sound f (record {
      bench = record { queues = s.bench.queues; processes = s.bench.processes; steps = steps; gone = gone };
      slots = s.slots;
      log = log;
    })
sound_as f s v steps gone log = record {
  queues = v.queues;
  records = v.records;
  tables = v.tables;
  words = v.words;
  sizes = v.sizes;
  each = v.each;
  later = v.later;
  absent = v.absent;
}

module _ (f : Sizes) (h : Fit f) where
  -- whoever steps in such a state is in range
  pub placed_in_range : (s : State) → Sound f s → (p : ℕ) (r : Process) → Placed f p r → let q : ℕ = queue_of p r.call in
      in_range f.width f.size (length (slots_at s q)) (queue_at s.bench q).word r.stage ≡ true
  placed_in_range s v p r k =
      let q : ℕ = queue_of p r.call in
      range_in f.width f.size (length (slots_at s q)) (queue_at s.bench q).word r.stage (record {
        sizes = record { width_high = h.width; size_low = h.size.0; size_high = h.size.1; all = v.sizes q k.queue };
        word = v.words q k.queue;
        stage = k.stage;
      })

  -- who steps
  pub goes_on : (s : State) → Sound f s → (p : ℕ) → p < processes f → is_idle (process_at s.bench p).stage ≡ false
      → Steps f s p (process_at s.bench p)
  goes_on s v p lt b = record { below = lt; busy = b; placed = v.each p lt; was = goes }

  first_in : (call : Call) → StageIn f.width f.size (first_stage call)
  first_in (Push node) = tt
  first_in Pop = tt
  first_in (Take q) = tt

  first_busy : (call : Call) → CallIn (processes f) call → is_idle (first_stage call) ≡ false
  first_busy (Push node) c = refl
  first_busy Pop c = refl
  first_busy (Take q) c = refl

  queue_in_lem : (p : ℕ) (call : Call) → p < processes f → CallIn (processes f) call → queue_of p call < processes f
  queue_in_lem p (Push node) lt c = lt
  queue_in_lem p Pop lt c = lt
  queue_in_lem p (Take q) lt c = c

  -- an idle process may begin any call
  pub begins_call : (s : State) → (p : ℕ) → p < processes f → (process_at s.bench p).stage ≡ Idle → (call : Call) → CallIn (processes f) call
      → Steps f s p (begun s.bench.steps call (process_at s.bench p))
  begins_call s p lt z c ok = record {
    below = lt;
    busy = first_busy c ok;
    placed = record { stage = first_in c; suits = first_suits c; queue = queue_in_lem p c lt ok };
    was = begins c z;
  }

  -- the record with which a process makes its turn: idle with no call left, or in a call
  module _ (calls : List Call) (all : AllIn (processes f) calls) (s : State) (v : Sound f s) (p : ℕ) (lt : p < processes f) where
    pub turning_case : (Q : Process → Type 0) → (is_idle (process_at s.bench p).stage ≡ true → Q (process_at s.bench p))
        → ((r : Process) → Steps f s p r → Q r) → Q (turning calls p s)
    turning_case Q i a = by (is_idle (process_at s.bench p).stage) refl (ltb (process_at s.bench p).next (process_at s.bench p).stop)
      where
        by : (t : Bool) → is_idle (process_at s.bench p).stage ≡ t → (u : Bool)
            → Q (cond (t && u) (begun s.bench.steps (get_or calls (process_at s.bench p).next Pop) (process_at s.bench p)) (process_at s.bench p))
        by true z true = let k = (process_at s.bench p).next in a _ (begins_call s p lt (idle_is _ z) (get_or calls k Pop) (all k))
        by true z false = i z
        by false z u = a _ (goes_on s v p lt z)

    pub turning_placed : Placed f p (turning calls p s)
    turning_placed = turning_case (Placed f p) (λ _. v.each p lt) (λ r k. k.placed)

  -- the step keeps all
  module _ (s : State) (v : Sound f s) (p : ℕ) (r : Process) (k : Steps f s p r) where
    abbrev q : ℕ
    q = queue_of p r.call

    abbrev o : Stepped
    o = row_at f s p r

    abbrev r' : Process
    r' = process_after s.bench.steps (queue_at s.bench q).resets r o.next

    stays : StaysIn f.width f.size (row_at f s p r)
    stays =
        stays_in f.width f.size (queue_at s.bench (queue_of p r.call)).word
        (loaded (slots_at s (queue_of p r.call)) (loaded_slot r.stage)) r.stage
        (v.words (queue_of p r.call) k.placed.queue) k.placed.stage

    placed_after : Placed f p (process_after s.bench.steps (queue_at s.bench (queue_of p r.call)).resets r (row_at f s p r).next)
    placed_after =
        let o = k.placed in
        record {
          stage = stays.stage;
          suits = still_suits r.call r.stage _ (within _ _ _ _ r.stage) o.suits;
          queue = o.queue;
        }

    pub sound_act : Sound f (acted p r s (row_at f s p r))
    sound_act = record {
      queues = length-set s.bench.queues q _ ∙ v.queues;
      records = length-set s.bench.processes p _ ∙ v.records;
      tables = length-set s.slots q _ ∙ v.tables;
      words = λ j lt. if_set (λ (m : Queue). WordIn f.width f.size m.word) s.bench.queues q j _ fresh
          (omega (arith, k.placed.queue, v.queues, h.processes)) (λ e. stays.word) (λ e. v.words j lt);
      sizes = λ j lt. if_set (λ (l : List ℕ). length l ≡ f.size) s.slots q j _ [] (omega (arith, k.placed.queue, v.tables, h.processes))
          (λ e. stored_length (slots_at s q) o.store ∙ v.sizes q k.placed.queue) (λ e. v.sizes j lt);
      each = λ j lt. if_set (λ (x : Process). Placed f j x) s.bench.processes p j r' nobody (omega (arith, k.below, v.records, h.processes))
          (λ e. rw e placed_after) (λ e. v.each j lt);
      later =
          λ j. if_set (λ (x : Process). is_first x.stage ≡ false) s.bench.processes p j r' nobody
          (omega (arith, k.below, v.records, h.processes))
          (λ e. (within f.width f.size (queue_at s.bench q).word (loaded (slots_at s q) (loaded_slot r.stage)) r.stage).first)
          (λ e. v.later j);
      absent =
          λ j le. if_set (λ (x : Process). x.stage ≡ Idle) s.bench.processes p j r' nobody (omega (arith, k.below, v.records, h.processes))
          (λ e. absurd (apart j e le)) (λ e. v.absent j le);
    }
      where
        apart : (j : ℕ) → j ≡ p → processes f ≤ j → ⊥
        apart j e le = omega (arith, k.below)

  pub sound_idle : (s : State) → Sound f s → Sound f (idle s)
  sound_idle s v = sound_as f s v (idle s).bench.steps s.bench.gone s.log

  -- so every turn keeps it, whatever the calls are
  pub sound_turn : (calls : List Call) → AllIn (processes f) calls → (s : State) → Sound f s → (p : ℕ) → p < processes f
      → Sound f (turn f.width f.size calls p s)
  unfolding turn turn_as act
  sound_turn calls all s v p lt =
      turning_case calls all s v p lt (λ (r : Process). Sound f (turn_as f.width f.size p s r))
      (λ z. rw z (sound_idle s v)) (λ r k. rw k.busy (sound_act s v p r k))

  pub sound_fresh : (s : State) → Fresh f s → Sound f s
  sound_fresh s z = record {
    queues = ap length z.queues ∙ length-replicate 8 fresh;
    records = z.records;
    tables = ap length z.slots ∙ length-replicate 8 (replicate {A = ℕ} f.size 0);
    words = λ q lt. subst (λ (l : List Queue). WordIn f.width f.size (get_or l q fresh).word) (sym z.queues)
        (rw (get_or-replicate 8 q fresh fresh (omega (arith, h.processes))) (record {
          bottom_in = omega arith;
          top_in = omega arith;
          tag_in = pow_pos f.width;
        }));
    sizes = λ q lt. subst (λ (l : List (List ℕ)). length (get_or l q []) ≡ f.size) (sym z.slots)
        (rw (get_or-replicate 8 q (replicate {A = ℕ} f.size 0) [] (omega (arith, h.processes))) (length-replicate {A = ℕ} f.size 0));
    each = λ p lt. record {
      stage = subst (StageIn f.width f.size) (sym (z.idle p)) tt;
      suits = subst (Suits (process_at s.bench p).call) (sym (z.idle p)) (record { own = λ e. never e; top = λ e. never e; push = λ e. never e });
      queue = z.queue p lt;
    };
    later = λ p. ap is_first (z.idle p);
    absent = λ p le. z.idle p;
  }
