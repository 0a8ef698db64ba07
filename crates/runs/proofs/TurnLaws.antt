-- Laws of one step: what it adds to the counts, and that these stay within the number of steps.
use Prim.Native.Nat.{ℕ, ◌+◌, ◌≤◌, ◌<◌}
use mathlib.Core.Path.{◌≡◌, refl, sym, ◌∙◌, subst}
use mathlib.Core.Bool.{Bool, true, false, ◌&&◌, not, false≢true}
use mathlib.Core.List.{List, ◌++◌}
use native.Mathlib.Omega.{arith}
use native.Mathlib.Decide.{dec_lt, ℕ_discrete}
use borrow.Author.Tests.{ltb-true}
use lib.Dec.{eqb, ltb}
use lib.ListN.{length, length-append, get_or, set, length-set, get_or-eq_default}
use lib.Seq.{get_or-set_same, get_or-set_other, set_out}
use Rattle.base.proofs.Cases.{either_way}
use Rattle.word.specs.Stages.{is_idle, at_b2}
use Rattle.steps.specs.declared.Next.{Next}
use Rattle.steps.specs.declared.Next.TheVariants.{Going, Done, Node, Nil, Lost, Full}
use Rattle.steps.specs.Step.{Stepped}
use Rattle.base.specs.Bytes.{byte_at, number_at}
use Rattle.base.proofs.Lists.{list_of-length, list_of_get_d}
use Rattle.std.specs.Prelude.{Result}
use Rattle.runfile.specs.declared.Refusal.{Refusal}
use Rattle.runfile.specs.File.{call_place, call_of, call_in, call_at, first_calls}
use Rattle.runfile.specs.declared.Call.{Call}
use Rattle.runfile.specs.declared.Call.TheVariants.{Pop}
use Rattle.runs.specs.Inner.Counted.{Counted}
use Rattle.runs.specs.Inner.Sound.{CallIn, AllIn}
use Rattle.runs.specs.Moment.{is_take, queue_of, gone_round, Ended, Nothing, ends}
use Rattle.runs.specs.State.{Bench, Process, Queue, State, fresh, nobody, queue_at, process_at}
use Rattle.runs.specs.Turn.{ready, turning, process_after, queue_after, entries_in, bench_after, stepping, ending, act, idle, turn_as, turn}

-- a step adds one entry at most
pub entries_few : (over : Ended) → length (entries_in over) ≤ 1
entries_few Nothing = omega arith
entries_few (ends e) = omega arith

pub gone_most : (r : Process) (resets : ℕ) (next : Next) → gone_round r resets next ≤ 1
gone_most r resets (Going s) = omega arith
gone_most r resets Done = omega arith
gone_most r resets (Node x) =
    either_way (λ (n : ℕ). n ≤ 1) (is_take r.call && not (eqb r.resets_at_t1 resets)) (λ e. omega arith) (λ e. omega arith)
gone_most r resets Nil = omega arith
gone_most r resets Lost = omega arith
gone_most r resets Full = omega arith

-- an element of a list with one element set
pub got : {A : Type 0} (P : A → Type 0) (l : List A) (i : ℕ) (x d : A) → P x → ((j : ℕ) → P (get_or l j d)) → (j : ℕ) → P (get_or (set l i x) j d)
got P l i x d px pl j = split (ℕ_discrete j i) (dec_lt i (length l))
  where
    split : Dec (j ≡ i) → Dec (i < length l) → P (get_or (set l i x) j d)
    split (yes e) (yes h) = subst (λ (k : ℕ). P (get_or (set l i x) k d)) (sym e) (subst P (sym (get_or-set_same l i x d h)) px)
    split (yes e) (no h) = subst (λ (m : List _). P (get_or m j d)) (sym (set_out l i x (omega arith))) (pl j)
    split (no e) h = subst P (sym (get_or-set_other l i j x d e)) (pl j)

pub counted_step : (m : ℕ) (b : Bench) (p q : ℕ) (r : Process) (o : Stepped) (over : Ended) → Counted m b → r.b2 ≤ b.steps
    → Counted (m + length (entries_in over)) (bench_after b p q r o)
counted_step m b p q r o over h k = record {
  queues = length-set b.queues q (queue_after (queue_at b q) o) ∙ h.queues;
  processes = length-set b.processes p (process_after b.steps (queue_at b q).resets r o.next) ∙ h.processes;
  logged = omega (arith, h.logged, entries_few over);
  gone = omega (arith, h.gone, gone_most r (queue_at b q).resets o.next);
  resets = got (λ (m : Queue). m.resets ≤ b.steps + 1) b.queues q (queue_after (queue_at b q) o) fresh
      (either_way (λ (n : ℕ). n ≤ b.steps + 1) o.reset (λ e. omega (arith, h.resets q)) (λ e. omega (arith, h.resets q)))
      (λ j. omega (arith, h.resets j));
  b2 = got (λ (m : Process). m.b2 ≤ b.steps + 1) b.processes p (process_after b.steps (queue_at b q).resets r o.next) nobody
      (either_way (λ (n : ℕ). n ≤ b.steps + 1) (at_b2 r.stage) (λ e. omega arith) (λ e. omega arith))
      (λ j. omega (arith, h.b2 j));
}

-- the counts of a state, after n entries that were there before its log
abbrev pub CountedAfter : ℕ → State → Type 0
CountedAfter n s = Counted (n + length s.log) s.bench

pub counted_act : (n W C p : ℕ) (r : Process) (s : State) → CountedAfter n s → r.b2 ≤ s.bench.steps → CountedAfter n (act W C p r s)
unfolding act
counted_act n W C p r s h k =
    let o = stepping W C p r s in
    let over = ending p r s.bench o.next in
    let sum : n + length s.log + length (entries_in over) ≡ n + length (s.log ++ entries_in over) =
    omega (arith, length-append s.log (entries_in over)) in
    subst (λ (m : ℕ). Counted m (bench_after s.bench p (queue_of p r.call) r o)) sum
    (counted_step (n + length s.log) s.bench p (queue_of p r.call) r o over h k)

pub counted_idle : (n : ℕ) (s : State) → CountedAfter n s → CountedAfter n (idle s)
counted_idle n s h = record {
  queues = h.queues;
  processes = h.processes;
  logged = omega (arith, h.logged);
  gone = omega (arith, h.gone);
  resets = λ q. omega (arith, h.resets q);
  b2 = λ p. omega (arith, h.b2 p);
}

-- a call that is begun is below the end of its script
pub begins : (idle : Bool) (next stop : ℕ) → (idle && ltb next stop) ≡ true → next < stop
begins true next stop e = ltb-true next stop e
begins false next stop e = absurd (false≢true e)

-- call k of a file is one of its calls; past them stands a pop, which no process reaches
pub call_there : (file : List ℕ) (P n k : ℕ) → k < n → get_or (first_calls file P n) k Pop ≡ call_at file P k
call_there file P n k h = list_of_get_d n (call_at file P) Pop k h

pub past_calls : (file : List ℕ) (P n k : ℕ) → n ≤ k → get_or (first_calls file P n) k Pop ≡ Pop
past_calls file P n k h = get_or-eq_default (first_calls file P n) Pop {n = k} (omega (arith, list_of-length n (call_at file P)))

-- beginning a call does not change its B2
pub ready_b2 : (calls : List Call) (n : ℕ) (r : Process) → (ready calls n r).b2 ≡ r.b2
ready_b2 calls n r = either_way (λ (x : Process). x.b2 ≡ r.b2) (is_idle r.stage && ltb r.next r.stop) (λ e. refl) (λ e. refl)

-- the calls of a file are on its queues
call_in_lem : (P code argument : ℕ) → CallIn P (call_in (call_of P code argument))
call_in_lem P code argument =
    either_way on (eqb code 1) (λ e. either_way on (eqb argument 0) (λ d. tt) (λ d. tt))
    (λ e. either_way on (eqb code 2) (λ d. either_way on (eqb argument 0) (λ i. tt) (λ i. tt))
    (λ d. either_way on (eqb code 3) (λ i. either_way on (ltb argument P) (λ j. ltb-true argument P j) (λ j. tt)) (λ i. tt)))
  where
    on : Result Call Refusal → Type 0
    on c = CallIn P (call_in c)

pub calls_in_lem : (file : List ℕ) (P n : ℕ) → AllIn P (first_calls file P n)
calls_in_lem file P n k = split (dec_lt k n)
  where
    split : Dec (k < n) → CallIn P (get_or (first_calls file P n) k Pop)
    split (yes l) = rw (call_there file P n k l) (call_in_lem P (byte_at file (call_place P k)) (number_at file (call_place P k + 1)))
    split (no l) = rw (past_calls file P n k (omega arith)) tt

pub counted_turn : (n W C : ℕ) (calls : List Call) (p : ℕ) (s : State) → CountedAfter n s → CountedAfter n (turn W C calls p s)
unfolding turn turn_as
counted_turn n W C calls p s h =
    let r = turning calls p s in
    either_way (CountedAfter n) (is_idle r.stage) (λ e. counted_idle n s h)
    (λ e. counted_act n W C p r s h (omega (arith, h.b2 p, ready_b2 calls s.bench.steps (process_at s.bench p))))
