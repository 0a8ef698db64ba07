-- No call before k is wrong, so the first that is gives its own number (`first_found`); the table stands for the calls before k.
use mathlib.Core.Path.{◌≡◌, refl, sym, ap, ◌∙◌}
use native.Mathlib.Omega.{arith}
use Rattle.std.proofs.Common.{rules}
use Rattle.std.specs.Prelude.{Err}
use Rattle.reader.proofs.CheckLaws.{first_found}
use Rattle.runfile.specs.File.{wrong_at}
use Rattle.runfile.specs.Refusals.{number_in}
use Rattle.runfile.proofs.ReadingLaws.{case_of}
use Rattle.reader.proofs.MarkLaws.{cleared}
use Rattle.reader.proofs.calls.first_wrong.Goals as goal

pub loop-k-init : goal.loop-k-init
loop-k-init c = record { right = refl; marks = cleared c.args.file.now c.args.processes }

pub returns-in_err-wrong_call : goal.returns-in_err-wrong_call
returns-in_err-wrong_call c =
    let a = c.args in
    let l = c.loop-k in
    let why = c.in_err-wrong_call.field-0.0 in
    let e : c.from_residual.result ≡ Err why = search rules in
    let d = c.in_err-wrong_call.ensures.value in
    ap number_in e ∙ d ∙ sym (first_found (wrong_at a.file.now a.processes) l.k a.calls c.loop-k-test.true l.invariant.right
    (λ z. absurd (omega (arith, (case_of why).0, d ∙ z))))
