-- What is left of the line makes of the words so far what the whole line makes of none.
use mathlib.Core.Path.{◌≡◌}
use lib.ListN.{drop}
use Rattle.words.specs.Words.{start, words_of}
use Rattle.words.proofs.words_of.Given as goal

abbrev pub invariant-loop-byte : goal.invariant-loop-byte
invariant-loop-byte l = words_of l.words (drop l.byte-index l.line) ≡ words_of (start l.before) l.line
