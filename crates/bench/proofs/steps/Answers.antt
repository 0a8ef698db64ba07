-- `steps` meets its contract.
use native.Mathlib.Omega.{arith}
use Rattle.bench.proofs.GoodLaws.{schedule_fits, to_walk, to_close, becomes_closed}
use Rattle.bench.proofs.steps.Goals as goal

pub slice_bounds-walk-end : goal.slice_bounds-walk-end
slice_bounds-walk-end c = omega (
  arith,
  schedule_fits c.args.file.now (λ i. (c.type_inv.file i).fits) c.args.shape c.requires.0 _ _ c.schedule_place-from.ensures.0 c.schedule_end-to.ensures.0,
)

pub walk-played-requires : goal.walk-played-requires
walk-played-requires c = to_walk c.args.file.now (λ i. (c.type_inv.file i).fits) c.args.shape c.requires.0 _ _ c.schedule_place-from.ensures.0 c.schedule_end-to.ensures.0
    c.start-started.result c.start-started.ensures c.args.slots.now c.requires.1

pub close-requires : goal.close-requires
close-requires c = to_close c.args.file.now (λ i. (c.type_inv.file i).fits) c.args.shape c.requires.0 _ _ c.schedule_place-from.ensures.0 c.schedule_end-to.ensures.0
    c.start-started.result c.start-started.ensures c.args.slots.now c.requires.1 _ _ _ _ c.walk-played.ensures

pub returns : goal.returns
returns c = becomes_closed c.args.file.now (λ i. (c.type_inv.file i).fits) c.args.shape c.requires.0 _ _ c.schedule_place-from.ensures.0 c.schedule_end-to.ensures.0
    c.start-started.result c.start-started.ensures c.args.slots.now c.requires.1 _ _ _ _ c.walk-played.ensures _ _ _ c.close.ensures
