-- Case by case on what the bytes say: a push is refused where its node is marked (`push_wrong`); else the table goes on to the next call.
use Prim.Native.Nat.{ℕ, ◌<◌}
use mathlib.Core.Path.{◌≡◌, sym, ap, ◌∙◌}
use mathlib.Core.Bool.{false}
use mathlib.Core.Logic.{◌⊎◌, inl, inr}
use native.Mathlib.Omega.{arith}
use Rattle.std.specs.Prelude.{Ok}
use Rattle.runfile.specs.declared.Call.{Call}
use Rattle.runfile.specs.declared.Call.TheVariants.{Pop, Take}
use Rattle.runfile.specs.File.{pushes}
use Rattle.reader.proofs.MarkLaws.{after_push, after_other}
use Rattle.reader.proofs.calls.wrong_call.Goals as goal

pub returns-else-mark-clause-marks_after : goal.returns-else-mark-clause-marks_after
returns-else-mark-clause-marks_after c z =
    let a = c.args in
    let e = sym c.coded_at.ensures ∙ c.in_ok-node.was ∙ ap Ok c.in-Push.is in
    let below : c.in-Push.node < 65536 = omega arith in
    rw c.mark.ensures.1 (after_push a.file.now a.processes a.k a.marks.now c.requires c.in-Push.node below e)

pushes_none : {call : Call} → (call ≡ Pop) ⊎ ((queue : ℕ) × call ≡ Take queue) → (node : ℕ) → pushes node call ≡ false
pushes_none (inl e) node = rw e
pushes_none (inr e) node = rw e.1

pub returns-in-Pop-clause-marks_after : goal.returns-in-Pop-clause-marks_after
returns-in-Pop-clause-marks_after c z =
    let a = c.args in
    after_other a.file.now a.processes a.k a.marks.now c.requires _ (sym c.coded_at.ensures ∙ c.in_ok-node.was) (pushes_none c.in-Pop.is)
