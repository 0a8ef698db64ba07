-- `turn::step_slots` meets its contract.
use Rattle.bench.proofs.LayoutLaws.{on_part}
use Rattle.bench.proofs.turn.step_slots.Goals as goal

pub returns : goal.returns
returns c = on_part _ _ _ _ _ _ _ _ _ _ c.slots_place-from.ensures c.from.ensures c.told-slots c.requires.0 c.requires.1 c.step_packed.ensures
