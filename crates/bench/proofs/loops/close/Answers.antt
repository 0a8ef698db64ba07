-- `loops::close` meets its contract: six steps of the lowest half-done process are a round of the closing.
use lib.Count.{count_trailing_zeros}
use native.Mathlib.Omega.{arith}
use Rattle.runfile.specs.File.{first_calls}
use Rattle.bench.specs.Inner.Layout.{bench_in, sizes_in}
use Rattle.bench.proofs.RunLaws.{closing_start, round_below, closing_next, closing_over, closing_all}
use Rattle.runs.proofs.TurnLaws.{calls_in_lem}
use Rattle.runs.proofs.HalfLaws.{next_closed, run_closed, run_open}
use Rattle.bench.proofs.loops.close.Goals as goal

pub loop-init : goal.loop-init
loop-init c =
    closing_start (sizes_in c.args.shape) c.args.shape.calls _ _ _ c.requires.whole c.requires.counted
    c.requires.sound c.requires.left c.requires.six c.requires.few

pub returns-then-set-eq0 : goal.returns-then-set-eq0
returns-then-set-eq0 c =
    let l = c.loop in
    closing_over (sizes_in c.args.shape) _ _ _ _ _ _ _ _ l.invariant (omega (arith, l.auto.counter-end))
    (run_closed (bench_in l.after).processes l.invariant.along.counted.processes _ c.half_done-set.ensures c.if-set-eq0.true)

pub walk-after-requires : goal.walk-after-requires
walk-after-requires c =
    let l = c.loop in
    let h = c.half_done-set in
    let along = l.invariant.along in
    let next = next_closed (bench_in l.after).processes along.counted.processes _ h.ensures in
    let busy = run_open (bench_in l.after).processes along.counted.processes _ h.ensures c.if-set-eq0.false in
    record {
      whole = along.becomes.whole;
      counted = along.counted;
      left = along.left;
      few = omega (arith, l.invariant.steps, c.loop-test.true);
      fit = c.requires.fit;
      sound = along.sound;
      below = round_below (sizes_in c.args.shape) _ _ _ _ _ _ _ _ l.invariant (count_trailing_zeros 8 h.result) next busy;
    }

pub loop-preserved : goal.loop-preserved
loop-preserved c =
    let l = c.loop in
    let h = c.half_done-set in
    let along = l.invariant.along in
    let next = next_closed (bench_in l.after).processes along.counted.processes _ h.ensures in
    let left = c.if-set-eq0.false in
    let busy = run_open (bench_in l.after).processes along.counted.processes _ h.ensures left in
    closing_next (sizes_in c.args.shape) _ _ _ _ _ _ _ _ l.invariant (count_trailing_zeros 8 h.result) next busy c.requires.fit
    (first_calls c.args.file.now c.args.shape.processes c.args.shape.calls)
    (calls_in_lem c.args.file.now c.args.shape.processes c.args.shape.calls) _ _ _
    c.walk-after.ensures

pub returns : goal.returns
returns c =
    let l = c.loop in
    closing_all (sizes_in c.args.shape) _ _ _ _ _ _ _ _ l.invariant (omega (arith, l.auto.counter-end, c.loop-test.false))
