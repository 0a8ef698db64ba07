-- `run_good` meets its contract.
use Rattle.bench.proofs.GoodLaws.{refusal_gives, gives_8, gives_0, ends}
use Rattle.bench.proofs.run_good.Goals as goal

pub returns-then-not-has_room : goal.returns-then-not-has_room
returns-then-not-has_room c =
    refusal_gives _ 8 _ _ _ _
    (gives_8 c.args.file.now (λ i. (c.type_inv.file i).fits) c.args.shape c.requires c.args.buffer.now c.has_room.result
    c.has_room.ensures c.if-not-has_room.true)
    (rw c.from.ensures at c.refuse.ensures)

pub finish-requires : goal.finish-requires
finish-requires c =
    ends c.args.file.now (λ i. (c.type_inv.file i).fits) c.args.shape c.requires _ _ _ _ c.steps-closed.ensures

pub returns : goal.returns
returns c =
    gives_0 c.args.file.now (λ i. (c.type_inv.file i).fits) c.args.shape c.requires _ _ _ _ c.steps-closed.ensures _ _ _ _
    c.has_room.result c.has_room.ensures c.if-not-has_room.false c.finish.ensures
