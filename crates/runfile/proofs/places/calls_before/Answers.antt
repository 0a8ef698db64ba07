-- The sum so far is that of the first i script lengths (`sum_next`).
use native.Mathlib.Omega.{arith}
use lib.ListN.{drop}
use lib.Seq.{get_or-drop}
use Rattle.runfile.proofs.CheckLaws.{sum_next}
use Rattle.runfile.proofs.places.calls_before.Goals as goal

pub loop-i-preserved : goal.loop-i-preserved
loop-i-preserved c =
    let s = c.args.file.now in
    let i = c.loop-i.i in
    let n = sum_next (drop 4 s) i in
    let g = get_or-drop 4 s i 0 in
    omega arith
