-- `entry_at` meets its contract. Past the last entry nothing is left of the bytes; else the twelve bytes from there on are read one by one.
use mathlib.Core.Path.{◌∙◌}
use native.Mathlib.Omega.{arith}
use Rattle.call_log.proofs.DecodeLaws.{none_left, zeros_read, bytes_read}
use Rattle.call_log.proofs.decode.entry_at.Goals as goal

pub returns-then-log-i : goal.returns-then-log-i
returns-then-log-i c = zeros_read c.default.result c.default.ensures ∙ none_left c.args.log.now c.args.i (omega arith)

pub returns : goal.returns
returns c = c.from.ensures ∙ bytes_read _ c.args.log.now c.args.i (λ j u. c.loop-k.invariant j (omega (arith, u, c.loop-k-test.false)))
