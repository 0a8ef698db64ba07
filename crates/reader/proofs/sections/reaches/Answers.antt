-- The fold asks each byte (`fold_any`).
use Prim.Native.Nat.{ℕ}
use mathlib.Core.Path.{◌≡◌, ◌∙◌}
use mathlib.Core.Bool.{Bool, false, ◌||◌}
use lib.Dec.{leb}
use Rattle.std.proofs.Common.{rules}
use Rattle.std.proofs.iter.runs.Made.{chains}
use Rattle.std.specs.List.{fold}
use Rattle.reader.proofs.CheckLaws.{fold_any}
use Rattle.reader.proofs.sections.reaches.Goals as goal

pub returns : goal.returns
returns c =
    let e : c.fold.result ≡ fold (λ (t : Bool) (x : ℕ). t || leb c.args.limit x) false c.args.bytes.now = search (rules, chains) in
    e ∙ fold_any c.args.limit c.args.bytes.now false
