-- `judge::ends::first_clash` meets its contract. The loop keeps the last ends, and that the first among the entries that are left is the first of
-- all.
use mathlib.Core.Path.{◌≡◌, ap, sym, ◌∙◌, subst}
use mathlib.Core.Bool.{Bool, false, ◌||◌}
use mathlib.Core.List.{List}
use Prim.Native.Nat.{ℕ, ◌+◌}
use borrow.Author.Tests.{ltb-false}
use lib.Dec.{ltb}
use lib.ListN.{length, get_or, set}
use Rattle.judge.specs.Inner.Entries.{entries_in}
use Rattle.call_log.specs.declared.Entry.{Entry}
use Rattle.rules.specs.Accepted.{Rule1}
use Rattle.base.proofs.Bools.{or_0, or_1}
use Rattle.rules.proofs.SearchLaws.{first_start, first_next}
use Rattle.rules.specs.Rules.{breaks2}
use Rattle.judge.proofs.EntriesLaws.{pass_found, pass_ended}
use Rattle.judge.proofs.EndLaws.{Ends, ends_start, ends_next, clash_is}
use Rattle.judge.proofs.ends.first_clash.Goals as goal

-- entry i, as it was read, against the last ends of those before it
module _ (f : ℕ → Entry) (i last : ℕ) (own : List ℕ) (ends : Ends f i last own) (kept : Rule1 8 (f i)) (got : Entry) (is : got ≡ f i) where
  abbrev test : Entry → Bool
  test e = ltb e.end last || ltb e.start (get_or own e.process 0)

  clashes : test got ≡ breaks2 f i
  clashes = ap test is ∙ clash_is f i last own ends kept.process

  ends_after : test got ≡ false → Ends f (i + 1) (got.end + 1) (set own got.process (got.end + 1))
  ends_after none =
      let both : test (f i) ≡ false = sym (ap test is) ∙ none in
      let high = ltb-false (f i).end last (or_0 (ltb (f i).end last) (ltb (f i).start (get_or own (f i).process 0)) both) in
      let later = ltb-false (f i).start (get_or own (f i).process 0)
      (or_1 (ltb (f i).end last) (ltb (f i).start (get_or own (f i).process 0)) both) in
      subst (λ (e : Entry). Ends f (i + 1) (e.end + 1) (set own e.process (e.end + 1))) (sym is)
      (ends_next f i last own ends kept.process high later kept.start)

pub loop-i-init : goal.loop-i-init
loop-i-init c = (first_start (breaks2 (entries_in c.args.entries.now)) (length c.args.entries.now), ends_start (entries_in c.args.entries.now))

pub returns-then-e-last : goal.returns-then-e-last
returns-then-e-last c =
    let l = c.loop-i in
    let f = entries_in c.args.entries.now in
    let below = c.loop-i-test.true in
    let told = clashes f l.i l.last l.own l.invariant.1 (c.requires l.i below) c.from-e.result c.from-e.ensures in
    pass_found (breaks2 f) l.i (length c.args.entries.now) l.invariant.0 below (sym told ∙ (rw c.from-p.ensures at c.if-e-last.true))

pub loop-i-preserved : goal.loop-i-preserved
loop-i-preserved c =
    let l = c.loop-i in
    let f = entries_in c.args.entries.now in
    let below = c.loop-i-test.true in
    let kept = c.requires l.i below in
    let told = clashes f l.i l.last l.own l.invariant.1 kept c.from-e.result c.from-e.ensures in
    let none = rw c.from-p.ensures at c.if-e-last.false in (
      first_next (breaks2 f) l.i (length c.args.entries.now) below (sym told ∙ none) ∙ l.invariant.0,
      rw c.from-p.ensures (ends_after f l.i l.last l.own l.invariant.1 kept c.from-e.result c.from-e.ensures none),
    )

pub returns : goal.returns
returns c = let l = c.loop-i in pass_ended (breaks2 (entries_in c.args.entries.now)) l.i (length c.args.entries.now) l.invariant.0 c.loop-i-test.false
