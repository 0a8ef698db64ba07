-- The first p processes have their scripts (`Scripts`).
use mathlib.Core.Path.{refl}
use native.Mathlib.Omega.{arith}
use lib.ListN.{replicate}
use Rattle.runfile.specs.File.{first_lengths}
use Rattle.runfile.proofs.CallLaws.{list_of_same}
use Rattle.runs.specs.State.{scripted, fresh}
use Rattle.bench.specs.Inner.Layout.{process_at_in}
use Rattle.bench.proofs.TableLaws.{script_more}
use Rattle.bench.proofs.start.start.Goals as goal

pub loop-p-init : goal.loop-p-init
loop-p-init c = record { whole = refl; begins = refl; small = omega arith; each = λ k lt. absurd (omega arith) }

pub loop-p-preserved : goal.loop-p-preserved
loop-p-preserved c =
    rw c.from.ensures (script_more (first_lengths c.args.file.now c.args.processes) _ _ _ _ _ c.loop-p.invariant c.loop-p-test.true c.share.ensures
    c.waiting.ensures)

pub returns : goal.returns
returns c =
    let l = c.loop-p in
    let shares = first_lengths c.args.file.now c.args.processes in
    let each = list_of_same 8 (process_at_in l.all) (scripted shares) (λ k lt. l.invariant.each k (omega (arith, c.loop-p-test.false))) in (
      λ i. record { queues = replicate 8 fresh; processes = each i; steps = 0; gone = 0 },
      refl,
      record { queues = refl; processes = l.invariant.whole },
    )
