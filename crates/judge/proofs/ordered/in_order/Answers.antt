-- `judge::ordered::in_order` meets its contract: no keys where the log is not whole or breaks rule 3, else those of `by_moment`, and 0 after them.
use mathlib.Core.Path.{◌≡◌, sym, ap, ◌∙◌, subst}
use mathlib.Core.Bool.{Bool, ◌&&◌}
use Prim.Native.Nat.{ℕ, ◌≤◌}
use lib.ListN.{length}
use native.Mathlib.Omega.{arith}
use lib.Dec.{eqb, leb}
use Rattle.call_log.specs.Decode.{log_length}
use Rattle.call_log.specs.declared.Entry.{Entry}
use Rattle.rules.specs.Judge.{first3}
use Rattle.std.specs.Prelude.{Some}
use Rattle.judge.specs.Inner.Entries.{entries_in, found}
use Rattle.judge.specs.Inner.Order.{Passed3}
use Rattle.judge.proofs.KeyLaws.{orders_none, few, sized, orders, orders_broken}
use Rattle.judge.proofs.ordered.in_order.Goals as goal

-- the test, as the definition has it
tested : (count read length whole : ℕ) {b : Bool} → read ≡ count → whole ≡ log_length count → (leb read 256 && eqb length whole) ≡ b
    → (leb count 256 && eqb length (log_length count)) ≡ b
tested count read length whole h is e =
    ap (λ (x : ℕ). leb count 256 && eqb length x) (sym is) ∙ sym (ap (λ (x : ℕ). leb x 256 && eqb length whole) h) ∙ e

pub returns-then-not-from-log : goal.returns-then-not-from-log
returns-then-not-from-log c =
    let n = c.number_at-n.result in
    orders_none c.args.log.now n c.number_at-n.ensures (tested n _ _ _ c.from.ensures c.length_of.ensures c.if-not-from-log.true)

pub by_moment-requires : goal.by_moment-requires
by_moment-requires c =
    let n = c.number_at-n.result in
    let t = tested n _ _ _ c.from.ensures c.length_of.ensures c.if-not-from-log.false in
    let z = c.entries_of.ensures n (sized c.args.log.now n c.number_at-n.ensures t) in
    let small = few c.args.log.now n c.number_at-n.ensures t in
    (omega (arith, z.0, small), omega (arith, z.0, small))

pub slice_bounds-fill-count : goal.slice_bounds-fill-count
slice_bounds-fill-count c =
    let n = c.number_at-n.result in
    let t = tested n _ _ _ c.from.ensures c.length_of.ensures c.if-not-from-log.false in
    let z = c.entries_of.ensures n (sized c.args.log.now n c.number_at-n.ensures t) in
    omega (arith, z.0, few c.args.log.now n c.number_at-n.ensures t, c.in-Ok.ensures.kept.1.few)

pub slice_bounds-fill-start : goal.slice_bounds-fill-start
slice_bounds-fill-start c =
    let n = c.number_at-n.result in
    let t = tested n _ _ _ c.from.ensures c.length_of.ensures c.if-not-from-log.false in
    let z = c.entries_of.ensures n (sized c.args.log.now n c.number_at-n.ensures t) in
    let room : c.in-Ok.sorted.count ≤ 256 = omega (arith, z.0, few c.args.log.now n c.number_at-n.ensures t, c.in-Ok.ensures.kept.1.few) in
    room

pub returns-in-Ok : goal.returns-in-Ok
returns-in-Ok c =
    let n = c.number_at-n.result in
    let keys = c.by_moment.new.keys in
    let count = c.in-Ok.sorted.count in
    let full = c.in-Ok.sorted.full in
    let t = tested n _ _ _ c.from.ensures c.length_of.ensures c.if-not-from-log.false in
    let z = c.entries_of.ensures n (sized c.args.log.now n c.number_at-n.ensures t) in
    let of_log = subst (λ (f : ℕ → Entry). Passed3 f n keys count full) z.1
    (subst (λ (m : ℕ). Passed3 (entries_in c.entries_of.result.now) m keys count full) z.0 c.in-Ok.ensures.kept) in
    let long : length keys ≡ 256 = omega (arith, c.by_moment.auto.keys) in
    orders c.args.log.now n c.number_at-n.ensures t keys c.fill.new.self count full of_log long (c.fill.ensures.after (λ y h. h))

pub returns-in-Err : goal.returns-in-Err
returns-in-Err c =
    let n = c.number_at-n.result in
    let t = tested n _ _ _ c.from.ensures c.length_of.ensures c.if-not-from-log.false in
    let z = c.entries_of.ensures n (sized c.args.log.now n c.number_at-n.ensures t) in
    let of_log = subst (λ (f : ℕ → Entry). Some c.in-Err.field-0 ≡ found n (first3 f n)) z.1
    (subst (λ (m : ℕ). Some c.in-Err.field-0 ≡ found m (first3 (entries_in c.entries_of.result.now) m)) z.0 c.in-Err.ensures.broken) in
    orders_broken c.args.log.now n c.number_at-n.ensures t c.in-Err.field-0 of_log
