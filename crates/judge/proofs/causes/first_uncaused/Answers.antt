-- `judge::causes::first_uncaused` meets its contract. The loop keeps `Shelves`: what is known of each queue after the first k moments, which lie
-- before the ends of the entries that are left.
use mathlib.Core.Path.{◌≡◌, sym, ap, subst, ◌∙◌}
use mathlib.Core.Bool.{Bool, true, cond, ◌&&◌}
use mathlib.Core.List.{List}
use Prim.Native.Nat.{ℕ, ◌+◌, ◌*◌, ◌≤◌, ◌<◌}
use native.Mathlib.Omega.{arith}
use borrow.Author.Tests.{ltb-true, leb-true}
use lib.Dec.{ltb, leb}
use lib.ListN.{length}
use Rattle.std.specs.Prelude.{Option, Some, None}
use Rattle.judge.specs.Inner.Entries.{entries_in}
use Rattle.call_log.specs.declared.Entry.{Entry}
use Rattle.base.proofs.Bools.{and_0, and_1}
use Rattle.rules.proofs.SearchLaws.{first_start, first_next}
use Rattle.rules.specs.Rules.{breaks5}
use Rattle.keys.specs.Inner.Keys.{moment_at, index_at}
use Rattle.judge.specs.Inner.Causes.{Passable, passed_by, uncaused_by, Clean}
use Rattle.call_log.specs.Numbers.{what, is_top_nil}
use Rattle.judge.proofs.ShelfLaws.{Shelves, shelves_start, shelves_next, passable}
use Rattle.judge.proofs.EntriesLaws.{some_of, none_by, pass_found, pass_ended}
use Rattle.judge.proofs.CauseLaws.{Passed, call_early, passed_next, query_told, skip_told}
use Rattle.judge.proofs.causes.first_uncaused.Goals as goal

-- the next entry, where it is due up to a moment
module _ (f : ℕ → Entry) (n : ℕ) (keys : List ℕ) (p : Clean f n keys (length keys)) (k to next : ℕ)
    (due : Some next ≡ cond (ltb k (length keys) && leb (moment_at keys k) to) (Some (index_at keys k)) None) where
  next_is : (ltb k (length keys) && leb (moment_at keys k) to ≡ true) × (next ≡ index_at keys k)
  next_is = some_of (ltb k (length keys) && leb (moment_at keys k) to) (index_at keys k) next due

  next_below : k < length keys
  next_below = ltb-true k (length keys) (and_0 (ltb k (length keys)) (leb (moment_at keys k) to) next_is.0)

  next_upto : moment_at keys k ≤ to
  next_upto = leb-true (moment_at keys k) to (and_1 (ltb k (length keys)) (leb (moment_at keys k) to) next_is.0)

  next_in : next < n
  next_in = omega (arith, next_is.1, p.ordered.index k next_below)

  module _ (shelves : List ℕ) (s : Shelves f n keys k shelves) (e : Entry) (is : e ≡ f next) where
    next_passable : Passable e shelves
    next_passable = subst (λ (x : Entry). Passable x shelves) (sym (is ∙ ap f next_is.1))
        (passable f n keys (length keys) p.ordered k next_below shelves s p.fields (call_early f n keys (length keys) p k next_below)
        (omega (arith, next_below, p.ordered.few, p.small)))

    next_shelves : Shelves f n keys (k + 1) (passed_by e shelves)
    next_shelves = subst (λ (x : Entry). Shelves f n keys (k + 1) (passed_by x shelves)) (sym (is ∙ ap f next_is.1))
        (shelves_next f n keys (length keys) p.ordered k next_below shelves s p.fields (call_early f n keys (length keys) p k next_below))

pub loop-j-init : goal.loop-j-init
loop-j-init c = let f = entries_in c.args.entries.now in let n = length c.args.entries.now in (
  omega arith,
  omega arith,
  first_start (breaks5 f n) n,
  shelves_start f n c.args.keys.now,
  λ x u v. omega arith,
)

pub loop-j-preserved-then-not-top_nil : goal.loop-j-preserved-then-not-top_nil
loop-j-preserved-then-not-top_nil c =
    let l = c.loop-j in
    let f = entries_in c.args.entries.now in
    let n = length c.args.entries.now in
    let below = c.loop-j-test.true in (
      omega (arith, below),
      l.invariant.1,
      first_next (breaks5 f n) l.j n below (skip_told f n c.args.keys.now (length c.args.keys.now) c.requires l.j c.from-nil.result c.from-nil.ensures
          (sym c.top_nil.ensures ∙ c.if-not-top_nil.true)) ∙ l.invariant.2,
      l.invariant.3,
      λ x u v. l.invariant.4 x (omega arith) v,
    )

pub pass-requires : goal.pass-requires
pass-requires c =
    let l = c.loop-j in
    next_passable (entries_in c.args.entries.now) _ c.args.keys.now c.requires l.k _ _ (sym c.in-Some.is ∙ c.due.ensures) l.shelves
    l.invariant.3 c.from-in-Some.result c.from-in-Some.ensures

pub loop-j-preserved-in-Some : goal.loop-j-preserved-in-Some
loop-j-preserved-in-Some c =
    let l = c.loop-j in
    let f = entries_in c.args.entries.now in
    let n = length c.args.entries.now in
    let keys = c.args.keys.now in
    let to = 2 * c.from.result + 1 in
    let due = sym c.in-Some.is ∙ c.due.ensures in
    let below = next_below f n keys c.requires l.k to _ due in
    let upto = next_upto f n keys c.requires l.k to _ due in
    let more = next_shelves f n keys c.requires l.k to _ due l.shelves l.invariant.3 c.from-in-Some.result c.from-in-Some.ensures in (
      l.invariant.0,
      omega (arith, below),
      l.invariant.2,
      subst (λ (x : List ℕ). Shelves f n keys (l.k + 1) x) (sym c.pass.ensures) more,
      passed_next f n keys (length keys) c.requires c.from-nil.result l.k l.j c.from-nil.ensures c.loop-j-test.true (rw c.from.ensures at upto),
    )

-- no entry is due up to the end of the call, so that what the shelves say of it is rule 5's own answer
module _ (f : ℕ → Entry) (n : ℕ) (keys : List ℕ) (p : Clean f n keys (length keys)) (k : ℕ) (within : k ≤ length keys) (shelves : List ℕ)
    (s : Shelves f n keys k shelves) (j : ℕ) (below : j < n) (early : Passed f n keys (length keys) p k j) (nil : Entry) (is : nil ≡ f j) where
  broken : {end : ℕ} → end ≡ nil.end → {due : Option ℕ}
      → due ≡ cond (ltb k (length keys) && leb (moment_at keys k) (2 * end + 1)) (Some (index_at keys k)) None → ((i : ℕ) → due ≡ Some i → ⊥)
      → {top : Bool} → top ≡ is_top_nil (what nil) → top ≡ true → {found : Bool} → found ≡ uncaused_by shelves nil → found ≡ breaks5 f n j
  broken ends told not_due top_is top found_is =
      let none = none_by _ _ _ told not_due in
      found_is ∙ query_told f n keys (length keys) p k within shelves s j below early nil is (rw ends at none) (sym top_is ∙ top)

pub returns-then-uncaused : goal.returns-then-uncaused
returns-then-uncaused c =
    let l = c.loop-j in
    let f = entries_in c.args.entries.now in
    let n = length c.args.entries.now in
    let told = broken f n _ c.requires l.k l.invariant.1 l.shelves l.invariant.3 l.j c.loop-j-test.true l.invariant.4 _ c.from-nil.ensures
    c.from.ensures c.due.ensures c.in_default.not-Some c.top_nil.ensures c.if-not-top_nil.false c.uncaused.ensures in
    pass_found (breaks5 f n) l.j n l.invariant.2 c.loop-j-test.true (sym told ∙ c.if-uncaused.true)

pub loop-j-preserved : goal.loop-j-preserved
loop-j-preserved c =
    let l = c.loop-j in
    let f = entries_in c.args.entries.now in
    let n = length c.args.entries.now in
    let below = c.loop-j-test.true in
    let told = broken f n _ c.requires l.k l.invariant.1 l.shelves l.invariant.3 l.j below l.invariant.4 _ c.from-nil.ensures
    c.from.ensures c.due.ensures c.in_default.not-Some c.top_nil.ensures c.if-not-top_nil.false c.uncaused.ensures in (
      omega (arith, below),
      l.invariant.1,
      first_next (breaks5 f n) l.j n below (sym told ∙ c.if-uncaused.false) ∙ l.invariant.2,
      l.invariant.3,
      λ x u v. l.invariant.4 x (omega arith) v,
    )

pub returns : goal.returns
returns c =
    let l = c.loop-j in
    let n = length c.args.entries.now in
    pass_ended (breaks5 (entries_in c.args.entries.now) n) l.j n l.invariant.2 c.loop-j-test.false
