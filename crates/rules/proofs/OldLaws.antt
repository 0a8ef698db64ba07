-- A log in which some 3s are made 0s is judged as the log is: every rule's test says the same of both, for each reads a result only through
-- tests that do not tell NIL at T4 from NIL at T2.
use mathlib.Core.Path.{◌≡◌, refl, sym, ap, ◌∙◌}
use mathlib.Core.Bool.{Bool, true, false, cond, ◌&&◌, ◌||◌, not}
use mathlib.Core.Logic.{inl, inr}
use Prim.Native.Nat.{ℕ, zero, suc, ◌+◌, ◌*◌}
use borrow.Author.Tests.{eqb-true}
use lib.Dec.{ltb, eqb}
use lib.ListN.{length}
use Rattle.call_log.specs.declared.Entry.{Entry}
use Rattle.call_log.specs.declared.What.{What}
use Rattle.call_log.specs.declared.What.TheVariants.{Pushed, Full, BottomNode, BottomNil, TopNil, TopLost}
use Rattle.call_log.specs.Numbers.{top_pop, nil, lost, no_moment, what, same, is_top_nil}
use Rattle.call_log.specs.Decode.{head_length, log_length}
use Rattle.call_log.specs.Encode.{Log, section_count, log_bytes}
use Rattle.call_log.proofs.EncodeLaws.{processes_decoded, slots_decoded, entry_count_decoded, length_log, whole_encoded}
use Rattle.rules.specs.Judge.{Verdict}
use Rattle.rules.specs.Search.{first, any, lowest}
use Rattle.rules.proofs.SearchLaws.{any_from}
use Rattle.rules.specs.Contents.{bears, event_at, before, applied}
use Rattle.rules.specs.Rules.{in_call, is_empty, fresh, lawful, takes_topmost, has_cause, since, keeps1, breaks1, breaks3, breaks4, breaks5}
use Rattle.rules.specs.Rules.{breaks6}
use Rattle.rules.specs.Judge.{says, first2, or_else, rules_of, head_right, judge_of}
use Rattle.rules.specs.Accepted.{entry_of}
use Rattle.rules.specs.OldLogs.{with_result, Older, OlderLog, OldAccepted, OldJudged}
use Rattle.rules.proofs.AcceptedLaws.{entries_are, accepted_says, accepted_only}

-- an entry as an old log has it
abbrev old_result : ℕ → ℕ → ℕ
old_result k r = cond (eqb k top_pop && eqb r lost) nil r

abbrev old : Entry → Entry
old e = with_result e (old_result e.kind e.result)

-- e with this kind and result
abbrev numbered : Entry → ℕ → ℕ → Entry
numbered e k r = record {
  process = e.process;
  queue = e.queue;
  kind = k;
  result = r;
  node = e.node;
  start = e.start;
  end = e.end;
  moment = e.moment;
}

-- what is the same for NIL at T2 and at T4 is the same of the old entry
alike : {A : Type 0} (F : Entry → A) (e : Entry) → F (numbered e top_pop nil) ≡ F (numbered e top_pop lost) → F (old e) ≡ F e
alike F e h = by (eqb e.kind top_pop) (eqb e.result lost) refl refl
  where
    by : (s t : Bool) → eqb e.kind top_pop ≡ s → eqb e.result lost ≡ t → F (with_result e (cond (s && t) nil e.result)) ≡ F e
    by true true a b =
        let k = eqb-true e.kind top_pop a in
        ap (λ (x : ℕ). F (numbered e x nil)) k ∙ h ∙ sym (ap (λ (x : ℕ). F (numbered e x lost)) k)
        ∙ sym (ap (λ (x : ℕ). F (numbered e e.kind x)) (eqb-true e.result lost b))
    by true false a b = refl
    by false true a b = refl
    by false false a b = refl

-- the old entries of a log and of an older one are the same
same_old : (e d : Entry) → Older e d → old d ≡ old e
same_old e d (inl p) = ap old p
same_old e d (inr p) =
    ap old p.2 ∙ by (old_result e.kind nil) (old_result e.kind e.result) (nil_stays e.kind)
    (ap (λ (k : ℕ). old_result k e.result) p.0 ∙ ap (old_result top_pop) p.1)
  where
    nil_stays : (k : ℕ) → old_result k nil ≡ nil
    nil_stays k = stays (eqb k top_pop)
      where
        stays : (s : Bool) → cond (s && eqb nil lost) nil nil ≡ nil
        stays true = refl
        stays false = refl

    by : (r s : ℕ) → r ≡ nil → s ≡ nil → with_result e r ≡ with_result e s
    by r s a b = ap (with_result e) (a ∙ sym b)

module _ (f : ℕ → Entry) (n : ℕ) where
  abbrev was : ℕ → Entry
  was j = old (f j)

  bears_old : (j : ℕ) → bears (was j) ≡ bears (f j)
  bears_old j = alike bears (f j) refl

  same_as : (w : What) → same w TopNil ≡ same w TopLost → (j : ℕ) → same w (what (was j)) ≡ same w (what (f j))
  same_as w h j = alike (λ e. same w (what e)) (f j) h

  breaks1_old : (P : ℕ) → breaks1 was P ≡ breaks1 f P
  breaks1_old P = λ i j. not (alike (keeps1 P) (f j) refl i)

  breaks3_old : breaks3 was ≡ breaks3 f
  breaks3_old = λ i j. not (cond (bears_old j i) (in_call (f j) (f j).moment) (eqb (f j).moment no_moment))
      || bears_old j i && any (λ k. bears_old k i && eqb (f k).moment (f j).moment) j

  event_old : (q m : ℕ) → event_at was n q m ≡ event_at f n q m
  event_old q m = λ i. first (λ k. bears_old k i && eqb (f k).queue q && eqb (f k).moment m) 0 n

  before_old : (q m : ℕ) → before was n q m ≡ before f n q m
  unfolding before
  before_old q zero = refl
  before_old q (suc m) = λ i. cond (ltb (event_old q m i) n)
      (alike (λ e. applied (what e) (f (event_old q m i)).node (before_old q m i)) (f (event_old q m i)) refl i) (before_old q m i)

  fresh_old : (e : Entry) → fresh was n e ≡ fresh f n e
  fresh_old e = λ i. not (any (λ k. same_as Pushed refl k i && eqb (f k).node e.node && ltb (f k).moment e.moment) n)

  breaks4_old : breaks4 was n ≡ breaks4 f n
  breaks4_old = λ i j. bears_old j i
      && not (alike (λ e. lawful (fresh_old (f j) i) (what e) (f j).node (before_old (f j).queue (f j).moment i)) (f j) refl i)

  cause_old : (e : Entry) → has_cause was n e ≡ has_cause f n e
  cause_old e = λ i. any_from (λ x. is_empty (before_old e.queue (suc x) i)) (2 * e.start) (2 * e.end + 1)
      || any (λ k. bears_old k i && eqb (f k).queue e.queue && in_call e (f k).moment && not (eqb (f k).process e.process)
      && alike (λ d. takes_topmost (what d) (before_old e.queue (f k).moment i)) (f k) refl i) n

  breaks5_old : breaks5 was n ≡ breaks5 f n
  breaks5_old = λ i j. alike (λ e. is_top_nil (what e)) (f j) refl i && not (cause_old (f j) i)

  since_old : (w : What) → same w TopNil ≡ same w TopLost → (q j : ℕ) → since w was q j ≡ since w f q j
  since_old w h q zero = refl
  since_old w h q (suc j) = λ i. cond (same_as BottomNil refl j i && eqb (f j).queue q) 0
      (cond (same_as w h j i && eqb (f j).queue q) (since_old w h q j i + 1) (since_old w h q j i))

  breaks6_old : (C : ℕ) → breaks6 was C ≡ breaks6 f C
  breaks6_old C = λ i j. same_as Full refl j i
      && ltb (since_old Pushed refl (f j).queue j i) (C + since_old BottomNode refl (f j).queue j i)

  rules_old : (P C : ℕ) → rules_of was n P C ≡ rules_of f n P C
  rules_old P C = λ i. or_else n 14 (first (breaks1_old P i) 0 n) (or_else n 15 (first2 f n) (or_else n 16 (first (breaks3_old i) 0 n)
      (or_else n 17 (first (λ j. breaks4_old i j && eqb (f j).moment (lowest (breaks4_old i) (λ k. (f k).moment) n)) 0 n)
      (or_else n 18 (first (breaks5_old i) 0 n) (or_else n 19 (first (breaks6_old C i) 0 n) (says 0 0))))))

abbrev rules_in : Log → Verdict
rules_in l = rules_of (entry_of l.entries) (length l.entries) l.P l.C

rules_same : (l m : Log) → OlderLog l m → rules_in m ≡ rules_in l
rules_same l m o =
    rw (o.processes, o.slots, o.many)
    (sym (rules_old (entry_of m.entries) (length l.entries) l.P l.C)
    ∙ ap (λ (g : ℕ → Entry). rules_of g (length l.entries) l.P l.C)
    (λ i j. same_old (entry_of l.entries j) (entry_of m.entries j) (o.each j) i)
    ∙ rules_old (entry_of l.entries) (length l.entries) l.P l.C)

pub old_accepted : OldAccepted
old_accepted l m o = (
  λ a. accepted_only (entry_of l.entries) (length l.entries) l.P l.C
      (ap (λ (v : Verdict). v.number) (sym (rules_same l m o) ∙ accepted_says (entry_of m.entries) (length m.entries) m.P m.C a)),
  λ a. accepted_only (entry_of m.entries) (length m.entries) m.P m.C
      (ap (λ (v : Verdict). v.number) (rules_same l m o ∙ accepted_says (entry_of l.entries) (length l.entries) l.P l.C a)),
)

-- the verdict on a log's bytes, by what they say
abbrev asked : ℕ → ℕ → ℕ → Verdict → Verdict
asked P C n rest =
    cond (ltb (log_length n) head_length) (says 11 0)
    (cond (not (head_right section_count P C n)) (says 12 0)
    (cond (ltb (log_length n) (log_length n)) (says 11 0) (cond (ltb (log_length n) (log_length n)) (says 13 0) rest)))

judged_as : (l : Log) → judge_of (log_bytes l) ≡ asked l.P l.C (length l.entries) (rules_in l)
judged_as l =
    rw (length_log l, (whole_encoded l).counted, processes_decoded l, slots_decoded l, entry_count_decoded l, entries_are l)

pub old_judged : OldJudged
old_judged l m o =
    judged_as m ∙ (λ i. asked (o.processes i) (o.slots i) (o.many i) (rules_same l m o i)) ∙ sym (judged_as l)
