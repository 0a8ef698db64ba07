-- The loop keeps: the rows of the first q queues stand in the table (`Filled`).
use Prim.Native.Nat.{◌+◌, ◌-◌, ◌<◌}
use mathlib.Core.Path.{◌≡◌, ap, ◌∙◌}
use native.Mathlib.Omega.{arith}
use lib.ListN.{take, drop}
use Rattle.word.specs.declared.Word.{Word}
use Rattle.runs.specs.Run.{table_row}
use Rattle.bench.specs.Inner.Layout.{slots_in}
use Rattle.bench.proofs.TableLaws.{none_filled, row_filled, all_filled, part_slots, part_small}
use Rattle.bench.proofs.table.fill.Invariants.{word_in}
use Rattle.bench.proofs.table.fill.Goals as goal

pub loop-q-init : goal.loop-q-init
loop-q-init c =
    let a = c.args in none_filled (word_in a.queues) (slots_in a.size a.slots.now)

pub loop-q-preserved : goal.loop-q-preserved
loop-q-preserved c =
    let below : c.loop-q.q < 8 = omega (arith, c.loop-q-test.true, c.requires.1) in
    let a = c.args in
    let l = c.loop-q in
    let w = c.into in
    let from = c.slots_place-from.result in
    let is = c.slots_place-from.ensures in
    let n = c.from.result in
    let all = c.from.ensures in
    let part = take (from + n - from) (drop from a.slots.now) in
    let small = part_small a.size a.slots.now l.q from n is all c.requires.0 in
    let row = ap (λ (x : Word). table_row x part) (rw c.from-on.ensures at w.ensures) ∙ ap (table_row _) (part_slots a.size a.slots.now l.q from n is all below) in
    let filled = row_filled (word_in a.queues) (slots_in a.size a.slots.now) l.q (table_row w.result part) l.table row l.invariant in
    rw (c.put_row.ensures, c.from-on.ensures) (filled (omega (arith, below)) (omega arith))

pub returns : goal.returns
returns c =
    let a = c.args in
    let l = c.loop-q in
    let e : l.q ≡ a.processes = omega (arith, l.auto.q-end, c.loop-q-test.false) in
    all_filled (word_in a.queues) (slots_in a.size a.slots.now) a.processes l.q l.table e l.invariant
