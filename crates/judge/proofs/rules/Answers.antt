-- `judge::rules` meets its contract. Each answer is the first rule that an entry breaks, all earlier rules having passed.
use mathlib.Core.Path.{sym, ◌∙◌}
use mathlib.Core.Bool.{not}
use lib.ListN.{length}
use Rattle.call_log.specs.Decode.{first_entry}
use Rattle.rules.specs.Judge.{first1, first2}
use Rattle.rules.specs.Rules.{keeps1}
use Rattle.rules.proofs.KeptLaws.{fields_to, order_of}
use Rattle.rules.proofs.VerdictLaws.{says1, says2, says_later}
use Rattle.judge.specs.Inner.Entries.{entries_in}
use Rattle.judge.proofs.EntriesLaws.{found_some, found_not, position_is}
use Rattle.judge.proofs.rules.Goals as goal

pub returns-in-Some : goal.returns-in-Some
returns-in-Some c =
    let a = c.args in
    let f = entries_in a.entries.now in
    let n = length a.entries.now in
    let first = c.first_wrong.ensures ∙ position_is (λ bytes. not (keeps1 a.p (first_entry bytes))) a.entries.now in
    let z = found_some n (first1 f n a.p) c.in-Some.at (sym c.in-Some.is ∙ first) in
    says1 f n a.p a.slots _ c.in-Some.at z.0 z.1 c.fault.ensures

pub first_clash-requires : goal.first_clash-requires
first_clash-requires c =
    let a = c.args in
    let f = entries_in a.entries.now in
    let n = length a.entries.now in
    let first = c.first_wrong.ensures ∙ position_is (λ bytes. not (keeps1 a.p (first_entry bytes))) a.entries.now in
    fields_to f n a.p c.requires.1 (found_not n (first1 f n a.p) _ first c.in_default.not-Some)

pub returns-in-Some-first_clash : goal.returns-in-Some-first_clash
returns-in-Some-first_clash c =
    let a = c.args in
    let f = entries_in a.entries.now in
    let n = length a.entries.now in
    let first = c.first_wrong.ensures ∙ position_is (λ bytes. not (keeps1 a.p (first_entry bytes))) a.entries.now in
    let kept1 = found_not n (first1 f n a.p) _ first c.in_default.not-Some in
    let z = found_some n (first2 f n) c.in-Some-first_clash.at (sym c.in-Some-first_clash.is ∙ c.first_clash.ensures) in
    says2 f n a.p a.slots _ kept1 c.in-Some-first_clash.at z.0 z.1 c.fault-in-Some-first_clash.ensures

pub moment_rules-requires : goal.moment_rules-requires
moment_rules-requires c =
    let a = c.args in
    let f = entries_in a.entries.now in
    let n = length a.entries.now in
    let first = c.first_wrong.ensures ∙ position_is (λ bytes. not (keeps1 a.p (first_entry bytes))) a.entries.now in
    record {
      few = c.requires.0;
      fields = fields_to f n a.p c.requires.1 (found_not n (first1 f n a.p) _ first c.in_default.not-Some);
      ends = order_of f n (found_not n (first2 f n) _ c.first_clash.ensures c.in_default-first_clash.not-Some);
    }

pub returns : goal.returns
returns c =
    let a = c.args in
    let f = entries_in a.entries.now in
    let n = length a.entries.now in
    let first = c.first_wrong.ensures ∙ position_is (λ bytes. not (keeps1 a.p (first_entry bytes))) a.entries.now in
    says_later f n a.p a.slots _ (found_not n (first1 f n a.p) _ first c.in_default.not-Some)
    (found_not n (first2 f n) _ c.first_clash.ensures c.in_default-first_clash.not-Some) c.moment_rules.ensures
