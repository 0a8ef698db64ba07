-- The first p processes have their scripts (`Scripts`).
use Rattle.runfile.specs.File.{first_lengths}
use Rattle.bench.proofs.TableLaws.{Scripts}
use Rattle.bench.proofs.start.start.Given as goal

abbrev pub invariant-loop-p : goal.invariant-loop-p
invariant-loop-p l = Scripts (first_lengths l.file l.processes) l.p l.next l.all
