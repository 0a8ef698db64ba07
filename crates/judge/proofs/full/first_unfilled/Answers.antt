-- `judge::full::first_unfilled` meets its contract.
use mathlib.Core.Path.{sym, ◌∙◌}
use native.Mathlib.Omega.{arith}
use lib.ListN.{length}
use Rattle.rules.specs.Judge.{first6}
use Rattle.judge.specs.Inner.Entries.{entries_in}
use Rattle.judge.proofs.EntriesLaws.{none_is}
use Rattle.judge.proofs.FullLaws.{none_unfilled}
use Rattle.judge.proofs.full.first_unfilled.Goals as goal

pub returns-else-refused : goal.returns-else-refused
returns-else-refused c =
    let f = entries_in c.args.entries.now in
    let n = length c.args.entries.now in
    none_is n (first6 f n c.args.slots)
    (omega (arith, none_unfilled f n c.args.slots (sym c.requires.told ∙ c.if-refused.false)))
