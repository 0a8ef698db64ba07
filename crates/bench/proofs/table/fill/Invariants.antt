-- The loop keeps: the rows of the first q queues stand in the table (`Filled`).
use Prim.Native.Nat.{ℕ}
use mathlib.Core.List.{List}
use lib.ListN.{get_or}
use Rattle.word.specs.declared.Word.{Word}
use Rattle.steps.specs.Packed.{unpacked}
use Rattle.bench.specs.declared.Queue.{Queue}
use Rattle.bench.specs.Inner.Layout.{fresh_held, slots_in}
use Rattle.bench.proofs.TableLaws.{Filled}
use Rattle.bench.proofs.table.fill.Given as goal

-- the word of queue q in the program's array
abbrev pub word_in : List Queue → ℕ → Word
word_in queues q = unpacked (get_or queues q fresh_held).word

abbrev pub invariant-loop-q : goal.invariant-loop-q
invariant-loop-q l = Filled l.q (word_in l.queues) (slots_in l.size l.slots) l.table
