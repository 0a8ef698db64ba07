-- The run's step and the desk's are the same.
use Prim.Native.Nat.{ℕ}
use mathlib.Core.Path.{refl, ◌∙◌}
use mathlib.Core.Logic.{inl, inr}
use mathlib.Core.List.{[], ◌∷◌}
use lib.ListN.{get_or}
use lib.Seq.{get_or-set_same}
use Rattle.steps.specs.Step.{stored, stepped_on, Stepped}
use Rattle.std.specs.Prelude.{Ok}
use Rattle.desk.specs.Desk.{result_of}
use Rattle.steps.specs.declared.Next.{Next}
use Rattle.steps.specs.declared.Next.TheVariants.{Going, Done, Node, Nil, Lost, Full}
use Rattle.call_log.specs.declared.Entry.{Entry}
use Rattle.base.proofs.Cases.{either_way}
use Rattle.desk.proofs.DeskLaws.{row_done}
use Rattle.runs.specs.Moment.{queue_of, is_take, ends, ended}
use Rattle.runs.specs.State.{Process, fresh, nobody, queue_at}
use Rattle.runs.specs.Turn.{queue_after, process_after, act}
use Rattle.theorems.specs.SameStep.{Tells, OneStep}

same_result : (p n : ℕ) (r owner : Process) (t : ℕ) (x : Next) → Tells (result_of (Ok x)) (ended p n r owner t x)
same_result p n r owner t (Going y) = refl
same_result p n r owner t Done = inl refl
same_result p n r owner t (Node x) = either_way (λ (e : Entry). Tells (1 ∷ x ∷ []) (ends e)) (is_take r.call) (λ _. inr refl) (λ _. inr refl)
same_result p n r owner t Nil = either_way (λ (e : Entry). Tells (0 ∷ 0 ∷ []) (ends e)) (is_take r.call) (λ _. inr refl) (λ _. inr refl)
same_result p n r owner t Lost = inr refl
same_result p n r owner t Full = inl refl

pub one_step : OneStep
unfolding act
one_step = record {
  run_steps = λ W C p r s h k l.
      let q : ℕ = queue_of p r.call in
      let step : Stepped = stepped_on W C (queue_at s.bench q).word (get_or s.slots q []) r.stage in
      record {
        word = rw (get_or-set_same s.bench.queues q (queue_after (queue_at s.bench q) step) fresh k);
        slots = get_or-set_same s.slots q (stored (get_or s.slots q []) step.store) [] l;
        stage = rw (get_or-set_same s.bench.processes p (process_after s.bench.steps (queue_at s.bench q).resets r step.next) nobody h);
      };
  desk_steps = λ W C w slots z answer word after h e.
      let k = row_done W C w slots z e in (h.answered ∙ k.0, h.altered ∙ k.1, h.kept ∙ k.2);
  same_result = same_result;
}
