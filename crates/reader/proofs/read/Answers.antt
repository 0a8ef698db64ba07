-- Both answers from the check and the counts (`read_refused`, `read_good`).
use mathlib.Core.Path.{◌≡◌, subst}
use Rattle.std.proofs.Common.{rules}
use Rattle.std.specs.Prelude.{Err}
use Rattle.runfile.specs.File.{Reads}
use Rattle.reader.proofs.ReadLaws.{read_refused, read_good}
use Rattle.reader.proofs.read.Goals as goal

pub returns-in_err-check : goal.returns-in_err-check
returns-in_err-check c =
    let why = c.in_err-check.field-0.0 in
    let e : Err why ≡ c.from_residual.result = search rules in
    subst (Reads c.args.file.now) e (read_refused c.args.file.now why c.in_err-check.ensures)

pub returns : goal.returns
returns c = read_good c.args.file.now c.shape_in.result c.in_ok-check.ensures c.shape_in.ensures
