-- No call before k is wrong, so the first that is gives its own number (`first_found`); the table stands for the calls before k.
use mathlib.Core.Path.{◌≡◌}
use Rattle.runfile.specs.Check.{first_of}
use Rattle.runfile.specs.File.{first_calls, wrong_at}
use Rattle.reader.specs.Inner.Marks.{Marks}
use Rattle.reader.proofs.calls.first_wrong.Given as goal

abbrev pub invariant-loop-k : goal.invariant-loop-k
invariant-loop-k l = record {
  right : first_of (wrong_at l.file l.processes) l.k ≡ 0;
  marks : Marks l.marks (first_calls l.file l.processes l.k);
}
