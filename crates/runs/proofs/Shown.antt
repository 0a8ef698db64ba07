-- What is shown of every run, in one record.
use Prim.Native.Nat.{ℕ}
use mathlib.Core.Path.{◌≡◌}
use native.Mathlib.Omega.{arith}
use Rattle.runs.specs.Run.{Outcome}
use Rattle.runs.specs.Shown.{Shown}
use Rattle.runs.proofs.ClosingLaws.{steps_most, all_closed_idle}
use Rattle.runs.proofs.BegunLaws.{begun_once}
use Rattle.runs.proofs.InRange.{below_C, every_step_in_range, run_cases}
use Rattle.runs.proofs.LostLaws.{lost_3}
use Rattle.runs.proofs.OwnLaws.{own_steps_most}

pub shown : Shown
shown = record {
  steps_most = steps_most;
  all_closed = all_closed_idle;
  next_step = λ f h s o p lt. record {
    loads = (below_C f h s o p lt).loads;
    stores = (below_C f h s o p lt).stores;
    in_range = every_step_in_range f h s o p lt;
    lost_3 = lost_3 f h s o p lt;
  };
  never_9 = λ file b room.
      run_cases (λ (o : Outcome). o.number ≡ 9 → ⊥) file b room (λ n low high e. omega arith)
      (λ f e h z. let k : ◌≡◌ {A = ℕ} 0 9 = z in omega arith);
  own_steps_most = own_steps_most;
  begun_once = begun_once;
}
