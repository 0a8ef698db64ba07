-- What the public functions promise settles their answers.
use mathlib.Core.Path.{◌≡◌}
use mathlib.Core.List.{List}
use Prim.Native.Nat.{ℕ}
use Rattle.base.proofs.Settled.{one_value}
use Rattle.runs.specs.State.{Process}
use Rattle.records.specs.Inner.Records.{process_in, Refuses}
use Rattle.records.specs.declared.Process.{Process as HeldProcess}

-- of ready and after
pub record_is : (x : Process) (r r' : HeldProcess) → process_in r ≡ x → process_in r' ≡ x → r ≡ r'
record_is x r r' p q = λ i. let e : Process = one_value p q i in record {
  stage = e.stage;
  call = e.call;
  next = e.next;
  stop = e.stop;
  start = e.start;
  b2 = e.b2;
  resets_at_t1 = e.resets_at_t1;
}

-- of queue_of, gone_round, if_so, slots_place, and of is_take and is_idle: each promises one value
pub answer_is : {A : Type 0} (x r r' : A) → r ≡ x → r' ≡ x → r ≡ r'
answer_is x r r' = one_value

pub refuses_once : (number w w' : ℕ) (r r' t t' : List ℕ) → Refuses number w r t → Refuses number w' r' t' → (w ≡ w') × (r ≡ r') × (t ≡ t')
refuses_once number w w' r r' t t' a b =
    (one_value a.bytes b.bytes, one_value a.counts b.counts, one_value a.queues b.queues)
