-- `judge::causes::uncaused` meets its contract. The loop keeps: whether one of the processes passed, but this one, took from the top since.
use mathlib.Core.Path.{ap}
use mathlib.Core.Bool.{Bool, ◌&&◌, not}
use Prim.Native.Nat.{◌*◌, ◌%◌}
use native.Mathlib.Omega.{arith}
use lib.Dec.{eqb, ltb, leb}
use lib.ListN.{get_or}
use Rattle.rules.proofs.SearchLaws.{any_next, at_end}
use Rattle.judge.specs.Inner.Causes.{took_at, other_took}
use Rattle.judge.proofs.causes.uncaused.Goals as goal

pub loop-p-preserved : goal.loop-p-preserved
loop-p-preserved c =
    let l = c.loop-p in
    any_next (λ x. not (eqb x c.from-process.result) && ltb (2 * c.from-from.result) (get_or c.args.shelves.now (took_at c.from-on.result x) 0)) l.p l.other
    l.invariant

pub returns : goal.returns
returns c =
    let a = c.args in
    let e = a.nil in
    let l = c.loop-p in
    let shelf = get_or a.shelves.now e.queue 0 in
    let told = simp (c.from-on.ensures, c.from-process.ensures, c.from-from.ensures) at l.invariant in
    rw (c.from-on.ensures, c.from-from.ensures)
    (ap (λ (t : Bool). leb 65536 shelf && leb (shelf % 65536) (2 * e.start) && not t)
    (at_end (other_took a.shelves.now e.queue e.process (2 * e.start)) l.p 8 l.other (omega arith) c.loop-p-test.false told))
