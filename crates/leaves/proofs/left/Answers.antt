-- `leaves::left` meets its contract: the judge's number where the log's calls have no order, else the nodes that the replay leaves.
use mathlib.Core.Path.{◌≡◌, sym, ap, ◌∙◌}
use mathlib.Core.List.{[]}
use Prim.Native.Nat.{ℕ, ◌-◌}
use native.Mathlib.Omega.{arith}
use lib.ListN.{length, take, drop, replicate}
use lib.Seq.{length-slice}
use Rattle.base.proofs.Bytes.{put_after}
use Rattle.fields.specs.Inner.Ends.{lo_of, hi_of}
use Rattle.call_log.specs.Decode.{entry_count_of, entry_at}
use Rattle.judge.proofs.KeyLaws.{ordered_part}
use Rattle.leaves.proofs.LeavesLaws.{part_is, few_calls, has_order_lem, leaves_some}
use Rattle.leaves.proofs.left.Goals as goal

pub replayed-ends-requires : goal.replayed-ends-requires
replayed-ends-requires c =
    let log = c.args.log.now in
    let free = c.in_ok-ordered.ensures.kept in
    let few = few_calls log free in
    let o = c.in_order-calls.ensures.ordered (has_order_lem log free) in
    record {
      few = few;
      ordered = ordered_part (entry_at log) (entry_count_of log) c.in_order-calls.new.keys c.in_order-calls.result o
          (omega (arith, o.few, few, c.in_order-calls.ensures.long));
    }

pub returns : goal.returns
returns c =
    let a = c.args in
    let free = c.in_ok-ordered.ensures.kept in
    let z = c.replayed-ends.ensures in
    let lo = lo_of c.replayed-ends.result in
    let hi = hi_of c.replayed-ends.result in
    let row = c.replayed-ends.new.row in
    let part = part_is row lo hi z.low in
    let size : length (take (hi - lo) (drop lo row)) ≡ hi - lo = ap length part ∙ length-slice lo hi row (omega (arith, z.high, z.long)) in
    rw (c.put.ensures ∙ put_after [] (take (hi - lo) (drop lo row)) (replicate {A = ℕ} 256 0) (omega (arith, size, z.high)))
    (leaves_some a.log.now free a.queue (take (hi - lo) (drop lo row)) (hi - lo) (part ∙ z.holds) (sym size) (omega (arith, size, z.high)))
