-- The verdict is 0 exactly for the bytes of an accepted log. First over f and n, rule by rule, then over bytes.
use mathlib.Core.Path.{◌≡◌, refl, sym, ap, ◌∙◌, subst}
use mathlib.Core.Bool.{Bool, true, false, cond, ◌&&◌, not}
use mathlib.Core.Logic.{◌⊎◌, inl, inr}
use mathlib.Core.List.{List, [], ◌∷◌, ◌++◌}
use Prim.Native.Nat.{ℕ, suc, ◌+◌, ◌*◌, ◌≤◌, ◌<◌}
use native.Mathlib.Omega.{arith}
use borrow.Author.Tests.{lt-ltb, le-ltb, ltb-true, ltb-false, le-leb, leb-true, eq-eqb, eqb-true}
use lib.Dec.{ltb, leb, eqb}
use lib.ListN.{length}
use Rattle.base.specs.Bytes.{Bytes}
use Rattle.call_log.specs.declared.Entry.{Entry}
use Rattle.call_log.specs.declared.What.{What}
use Rattle.call_log.specs.declared.What.TheVariants.{Pushed, Full, BottomNode, BottomNil, TopNode, TopNil, TopLost}
use Rattle.call_log.specs.Numbers.{bears_moment, what, same, is_top_nil}
use Rattle.call_log.proofs.NumbersLaws.{same_of, same_true}
use Rattle.call_log.specs.Decode.{section_count_of, processes_of, slots_of, entry_count_of, entry_at}
use Rattle.call_log.specs.Encode.{Log, section_count, InRange, log_bytes}
use Rattle.call_log.proofs.EncodeLaws.{decoded, entry_decoded, processes_decoded, slots_decoded, entry_count_decoded, whole_encoded, encode_decode}
use Rattle.call_log.proofs.EncodeLaws.{in_range_lem}
use Rattle.rules.specs.Judge.{Verdict}
use Rattle.rules.specs.Search.{any}
use Rattle.rules.specs.Contents.{bears, on, before}
use Rattle.rules.specs.Rules.{clash, bears_at, is_empty, top_is, bottom_is, added_before, fresh, lawful, lawful_at, in_call, empty_within, takes_topmost}
use Rattle.rules.specs.Rules.{removes, has_cause, since, breaks1, breaks2, breaks3, breaks4, breaks5, breaks6}
use Rattle.rules.specs.Judge.{says, first1, first2, first3, first4, first5, first6, worst4, or_else, rules_of, head_right, judge_of}
use Rattle.rules.specs.Accepted.{Rule4, EmptyIn, RemovedIn, Accepted, entry_of, AcceptedLog, AcceptedBytes, JudgedZero}
use Rattle.base.proofs.Bools.{contra, not_so, and_i, and_0, and_1, or_l, or_r, or_e, guarded, not_i, not_e, not_f}
use Rattle.rules.proofs.SearchLaws.{from_i, from_e, Found, any_e, any_i, none_passes, none, any_no, Hit, lowest_is, lowest_le}
use Rattle.rules.proofs.FieldLaws.{fields_back, order_back, moment_back}
use Rattle.rules.proofs.KeptLaws.{fields_of, order_of, moments_of, distinct}
use Rattle.rules.proofs.ContentLaws.{topmost}
use Rattle.rules.proofs.Rule6Laws.{rule6_from, rule6_to}
use Rattle.rules.proofs.VerdictLaws.{head_of, says0, says_later, whole}

-- the ends of a queue
empty_to : (c : List ℕ) → is_empty c ≡ true → c ≡ []
empty_to [] h = refl
empty_to (x ∷ c) h = contra false h refl

abbrev pub TopIs : ℕ → List ℕ → Type 0
TopIs v c = (rest : List ℕ) × (c ≡ v ∷ rest)

abbrev pub BottomIs : ℕ → List ℕ → Type 0
BottomIs v c = (rest : List ℕ) × (c ≡ rest ++ (v ∷ []))

top_to : (v : ℕ) (c : List ℕ) → top_is v c ≡ true → TopIs v c
top_to v [] h = contra false h refl
top_to v (x ∷ c) h = (c, ap (λ (y : ℕ). y ∷ c) (eqb-true x v h))

bottom_to_lem : (v : ℕ) (c : List ℕ) → bottom_is v c ≡ true → BottomIs v c
bottom_to_lem v [] h = contra false h refl
bottom_to_lem v (x ∷ []) h = ([], ap (λ (y : ℕ). y ∷ []) (eqb-true x v h))
bottom_to_lem v (x ∷ y ∷ c) h = let r = bottom_to_lem v (y ∷ c) h in (x ∷ r.0, ap (λ (d : List ℕ). x ∷ d) r.1)

bottom_from : (v : ℕ) (c : List ℕ) → bottom_is v (c ++ (v ∷ [])) ≡ true
bottom_from v [] = eq-eqb v v refl
bottom_from v (x ∷ []) = eq-eqb v v refl
bottom_from v (x ∷ y ∷ c) = bottom_from v (y ∷ c)

module _ (f : ℕ → Entry) (n : ℕ) where
  -- rule 4
  fresh_from : (e : Entry) (c : List ℕ) → Rule4 f n e c Pushed → fresh f n e ≡ true
  fresh_from e c h = ap not (any_no (λ k. added_before e (f k)) n (λ k u. not_so (added_before e (f k)) (λ t.
      let s = and_0 (same Pushed (what (f k)) && eqb (f k).node e.node) (ltb (f k).moment e.moment) t in
      h k u (sym (same_true Pushed (what (f k)) (and_0 (same Pushed (what (f k))) (eqb (f k).node e.node) s)))
      (ltb-true (f k).moment e.moment (and_1 (same Pushed (what (f k)) && eqb (f k).node e.node) (ltb (f k).moment e.moment) t))
      (eqb-true (f k).node e.node (and_1 (same Pushed (what (f k))) (eqb (f k).node e.node) s)))))

  fresh_to : (e : Entry) (c : List ℕ) → fresh f n e ≡ true → Rule4 f n e c Pushed
  fresh_to e c h k u p m v =
      not_e (any (λ k. added_before e (f k)) n) h (any_i (λ k. added_before e (f k)) n k u
      (and_i (and_i (same_of Pushed (what (f k)) p) (eq-eqb (f k).node e.node v)) (lt-ltb (f k).moment e.moment m)))

  lawful_from : (e : Entry) (c : List ℕ) (w : What) → Rule4 f n e c w → lawful (fresh f n e) w e.node c ≡ true
  lawful_from e c Pushed h = fresh_from e c h
  lawful_from e c Full h = refl
  lawful_from e c BottomNode h = ap (bottom_is e.node) h.1 ∙ bottom_from e.node h.0
  lawful_from e c BottomNil h = ap is_empty h
  lawful_from e c TopNode h = ap (top_is e.node) h.1 ∙ eq-eqb e.node e.node refl
  lawful_from e c TopNil h = refl
  lawful_from e c TopLost h = refl

  lawful_to : (e : Entry) (c : List ℕ) (w : What) → (bears_moment w ≡ true → lawful (fresh f n e) w e.node c ≡ true) → Rule4 f n e c w
  lawful_to e c Pushed h = fresh_to e c (h refl)
  lawful_to e c Full h = tt
  lawful_to e c BottomNode h = bottom_to_lem e.node c (h refl)
  lawful_to e c BottomNil h = empty_to c (h refl)
  lawful_to e c TopNode h = top_to e.node c (h refl)
  lawful_to e c TopNil h = tt
  lawful_to e c TopLost h = tt

  -- rule 5
  module _ (e : Entry) where
    abbrev lo : ℕ
    lo = 2 * e.start

    abbrev hi : ℕ
    hi = 2 * e.end + 1

    abbrev empty : Bool
    empty = empty_within f n e.queue lo hi

    abbrev taken : Bool
    taken = any (λ k. removes f n e (f k)) n

    abbrev empty_after : ℕ → Bool
    empty_after x = is_empty (before f n e.queue (suc x))

    cause_from : EmptyIn f n e ⊎ RemovedIn f n e → has_cause f n e ≡ true
    cause_from (inl z) = or_l empty taken (from_i empty_after lo hi z.instant z.from z.to (ap is_empty z.empty))
    cause_from (inr z) =
        let d = f z.by in
        or_r empty taken (any_i (λ k. removes f n e (f k)) n z.by z.below
        (and_i (and_i (and_i (and_i (moved z.topmost) (eq-eqb d.queue e.queue z.queue))
        (and_i (le-leb lo d.moment z.from) (le-leb d.moment hi z.to)))
        (not_i (eqb d.process e.process) (λ t. z.other (eqb-true d.process e.process t)))) (top z.topmost)))
      where
        moved : (what (f z.by) ≡ TopNode) ⊎ ((what (f z.by) ≡ BottomNode) × (length (before f n e.queue (f z.by).moment) ≡ 1))
            → bears (f z.by) ≡ true
        moved (inl t) = ap bears_moment t
        moved (inr t) = ap bears_moment t.0

        top : (what (f z.by) ≡ TopNode) ⊎ ((what (f z.by) ≡ BottomNode) × (length (before f n e.queue (f z.by).moment) ≡ 1))
            → takes_topmost (what (f z.by)) (before f n e.queue (f z.by).moment) ≡ true
        top (inl t) = ap (λ (w : What). takes_topmost w (before f n e.queue (f z.by).moment)) t
        top (inr t) =
            ap (λ (w : What). takes_topmost w (before f n e.queue (f z.by).moment)) t.0
            ∙ eq-eqb (length (before f n e.queue (f z.by).moment)) 1 t.1

    cause_to : has_cause f n e ≡ true → EmptyIn f n e ⊎ RemovedIn f n e
    cause_to h = or_e empty taken h
        (λ s.
        let x = from_e empty_after lo hi s in
        inl (record { instant = x.0; from = x.1; to = x.2; empty = empty_to (before f n e.queue (suc x.0)) x.3 }))
        (λ s. inr (by (any_e (λ k. removes f n e (f k)) n s)))
      where
        by : Found (λ k. removes f n e (f k)) n → RemovedIn f n e
        by z =
            let d = f z.at in
            let c = before f n e.queue d.moment in
            let other = not (eqb d.process e.process) in
            let h3 = and_0 (on e.queue d && in_call e d.moment && other) (takes_topmost (what d) c) z.passes in
            let h2 = and_0 (on e.queue d && in_call e d.moment) other h3 in
            let o : on e.queue d ≡ true = and_0 (on e.queue d) (in_call e d.moment) h2 in
            let i : in_call e d.moment ≡ true = and_1 (on e.queue d) (in_call e d.moment) h2 in
            record {
              by = z.at;
              below = z.below;
              queue = eqb-true d.queue e.queue (and_1 (bears d) (eqb d.queue e.queue) o);
              other = λ p. not_e (eqb d.process e.process) (and_1 (on e.queue d && in_call e d.moment) other h3)
                  (eq-eqb d.process e.process p);
              from = leb-true lo d.moment (and_0 (leb lo d.moment) (leb d.moment hi) i);
              to = leb-true d.moment hi (and_1 (leb lo d.moment) (leb d.moment hi) i);
              topmost = topmost (what d) c (and_1 (on e.queue d && in_call e d.moment && other) (takes_topmost (what d) c) z.passes);
            }

  -- rule 6: what the test counts
  abbrev pushes : ℕ → ℕ
  pushes j = since Pushed f (f j).queue j

  abbrev pops : ℕ → ℕ
  pops j = since BottomNode f (f j).queue j

  -- an accepted log breaks no rule: what a theorem about logs that are made has to show
  pub accepted_says : (P C : ℕ) → Accepted f n P C → rules_of f n P C ≡ says 0 0
  accepted_says P C g =
      sym (says_later f n P C (says 0 0)
      (none (breaks1 f P) n (λ j u. ap not (fields_back P (f j) (g.rule1 j u))))
      (none (breaks2 f) n (λ j u. any_no (λ i. clash (f i) (f j)) j (λ i v. order_back (f i) (f j) (g.rule2 i j v u))))
      (says0 f n C (says 0 0)
      (none (breaks3 f) n (λ j u. rw (moment_back (f j) (g.rule3 j u)) (guarded (bears (f j)) (any (λ i. bears_at (f j).moment (f i)) j)
      (λ b. any_no (λ i. bears_at (f j).moment (f i)) j (λ i v. not_so (bears_at (f j).moment (f i)) (λ t.
      g.differ i j v u (and_0 (bears (f i)) (eqb (f i).moment (f j).moment) t) b
      (eqb-true (f i).moment (f j).moment (and_1 (bears (f i)) (eqb (f i).moment (f j).moment) t))))))))
      (none (λ j. breaks4 f n j && eqb (f j).moment (worst4 f n)) n (λ j u. ap (λ (t : Bool). t && eqb (f j).moment (worst4 f n))
      (guarded (bears (f j)) (not (lawful_at f n (f j))) (λ b. ap not (lawful_from (f j) (before f n (f j).queue (f j).moment) (what (f j))
      (g.rule4 j u))))))
      (none (breaks5 f n) n (λ j u. guarded (is_top_nil (what (f j))) (not (has_cause f n (f j)))
      (λ t. ap not (cause_from (f j) (g.rule5 j u t)))))
      (none (breaks6 f C) n (λ j u. guarded (same Full (what (f j))) (ltb (pushes j) (C + pops j))
      (λ t. le-ltb (pushes j) (C + pops j) (rule6_from f n C j u (g.rule6 j u (sym (same_true Full (what (f j)) t)))))))
      refl))

  -- and a log that breaks none is accepted
  none_unlawful : ((j : ℕ) → j < n → bears (f j) ≡ true → (f j).moment < 65536) → n ≤ first4 f n → (j : ℕ) → j < n → breaks4 f n j ≡ false
  none_unlawful small h j u = not_so (breaks4 f n j) (λ t.
      let b : bears (f j) ≡ true = and_0 (bears (f j)) (not (lawful_at f n (f j))) t in
      let k = lowest_le (breaks4 f n) (λ i. (f i).moment) n j u t in
      let z : Hit (breaks4 f n) (λ i. (f i).moment) n (worst4 f n) = lowest_is (breaks4 f n) (λ i. (f i).moment) n (omega (arith, small j u b)) in
      contra (breaks4 f n z.at && eqb (f z.at).moment (worst4 f n)) (and_i z.passes (eq-eqb (f z.at).moment (worst4 f n) z.keyed))
      (none_passes (λ j. breaks4 f n j && eqb (f j).moment (worst4 f n)) n h z.at z.below))

  accepted_from : (P C : ℕ) → n ≤ first1 f n P → n ≤ first2 f n → n ≤ first3 f n → n ≤ first4 f n → n ≤ first5 f n → n ≤ first6 f n C
      → Accepted f n P C
  accepted_from P C h1 h2 h3 h4 h5 h6 = record {
    rule1 = fields_of f n P h1;
    rule2 = order_of f n h2;
    rule3 = moments_of f n h3;
    differ = λ i j v u b d m. let e = distinct f n h3 i j (omega arith) u b d m in omega arith;
    rule4 = λ j u. lawful_to (f j) (before f n (f j).queue (f j).moment) (what (f j)) (λ b.
        not_f (lawful_at f n (f j)) (sym (ap (λ (t : Bool). t && not (lawful_at f n (f j))) b) ∙ none_unlawful small h4 j u));
    rule5 = λ j u t. cause_to (f j) (not_f (has_cause f n (f j))
        (sym (ap (λ (s : Bool). s && not (has_cause f n (f j))) t) ∙ none_passes (breaks5 f n) n h5 j u));
    rule6 = λ j u t. rule6_to f n C j u (ltb-false (pushes j) (C + pops j)
        (sym (ap (λ (s : Bool). s && ltb (pushes j) (C + pops j)) (same_of Full (what (f j)) t)) ∙ none_passes (breaks6 f C) n h6 j u));
  }
    where
      small : (j : ℕ) → j < n → bears (f j) ≡ true → (f j).moment < 65536
      small j u b = omega (arith, (moments_of f n h3 j u).to b, (fields_of f n P h1 j u).end)

  passed : (number j : ℕ) (v : Verdict) → 0 < number → (or_else n number j v).number ≡ 0 → (n ≤ j) × (v.number ≡ 0)
  passed number j v h = by (ltb j n) refl
    where
      by : (t : Bool) → ltb j n ≡ t → (cond t (says number j) v).number ≡ 0 → (n ≤ j) × (v.number ≡ 0)
      by true e z = absurd (let k : number ≡ 0 = z in omega arith)
      by false e z = (ltb-false j n e, z)

  pub accepted_only : (P C : ℕ) → (rules_of f n P C).number ≡ 0 → Accepted f n P C
  accepted_only P C z0 =
      let z1 = passed 14 (first1 f n P) _ (omega arith) z0 in
      let z2 = passed 15 (first2 f n) _ (omega arith) z1.1 in
      let z3 = passed 16 (first3 f n) _ (omega arith) z2.1 in
      let z4 = passed 17 (first4 f n) _ (omega arith) z3.1 in
      let z5 = passed 18 (first5 f n) _ (omega arith) z4.1 in
      let z6 = passed 19 (first6 f n C) (says 0 0) (omega arith) z5.1 in
      accepted_from P C z1.0 z2.0 z3.0 z4.0 z5.0 z6.0

-- the entries of a log are those that its bytes give, past its end too
pub entries_are : (l : Log) → entry_at (log_bytes l) ≡ entry_of l.entries
entries_are l = λ j i. entry_decoded l i j

pub accepted_judged : (l : Log) → InRange l → AcceptedLog l → judge_of (log_bytes l) ≡ says 0 0
accepted_judged l r g =
    let w = whole_encoded l in
    let head : head_of (log_bytes l) ≡ true =
    and_i (and_i (and_i (and_i (and_i (eq-eqb (section_count_of (log_bytes l)) section_count w.counted)
    (le-leb 1 (processes_of (log_bytes l)) (omega (arith, processes_decoded l, r.processes.0))))
    (le-leb (processes_of (log_bytes l)) 8 (omega (arith, processes_decoded l, r.processes.1))))
    (le-leb 1 (slots_of (log_bytes l)) (omega (arith, slots_decoded l, r.slots.0))))
    (le-leb (slots_of (log_bytes l)) 64 (omega (arith, slots_decoded l, r.slots.1))))
    (le-leb (entry_count_of (log_bytes l)) 256 (omega (arith, entry_count_decoded l, r.few))) in
    sym (whole (log_bytes l) (says 0 0) (omega (arith, w.sized)) head (omega (arith, w.sized)) (omega (arith, w.sized))
    (sym (accepted_says (entry_of l.entries) (length l.entries) l.P l.C g)
    ∙ sym (rw (entries_are l, processes_decoded l, slots_decoded l, entry_count_decoded l))))

-- what stands before the rules has passed
record HeadPassed (bytes : List ℕ) : Type 0 where
  pub head : head_of bytes ≡ true
  pub enough : 5 + 12 * entry_count_of bytes ≤ length bytes
  pub no_more : length bytes ≤ 5 + 12 * entry_count_of bytes
  pub rules : (rules_of (entry_at bytes) (entry_count_of bytes) (processes_of bytes) (slots_of bytes)).number ≡ 0

head_passed : (bytes : List ℕ) → (judge_of bytes).number ≡ 0 → HeadPassed bytes
head_passed bytes = by (ltb (length bytes) 5) refl (head_of bytes) refl (ltb (length bytes) (5 + 12 * entry_count_of bytes)) refl
    (ltb (5 + 12 * entry_count_of bytes) (length bytes)) refl
  where
    rest : Verdict
    rest = rules_of (entry_at bytes) (entry_count_of bytes) (processes_of bytes) (slots_of bytes)

    by : (s : Bool) → ltb (length bytes) 5 ≡ s → (t : Bool) → head_of bytes ≡ t → (u : Bool) → ltb (length bytes) (5 + 12 * entry_count_of bytes) ≡ u
        → (v : Bool) → ltb (5 + 12 * entry_count_of bytes) (length bytes) ≡ v
        → (cond s (says 11 0) (cond (not t) (says 12 0) (cond u (says 11 0) (cond v (says 13 0) rest)))).number ≡ 0 → HeadPassed bytes
    by true a t b u c v d z = absurd (let k : ◌≡◌ {A = ℕ} 11 0 = z in omega arith)
    by false a false b u c v d z = absurd (let k : ◌≡◌ {A = ℕ} 12 0 = z in omega arith)
    by false a true b true c v d z = absurd (let k : ◌≡◌ {A = ℕ} 11 0 = z in omega arith)
    by false a true b false c true d z = absurd (let k : ◌≡◌ {A = ℕ} 13 0 = z in omega arith)
    by false a true b false c false d z = record {
      head = b;
      enough = ltb-false (length bytes) (5 + 12 * entry_count_of bytes) c;
      no_more = ltb-false (5 + 12 * entry_count_of bytes) (length bytes) d;
      rules = z;
    }

-- the tests of the head up to each
module _ (m P C n : ℕ) (h : head_right m P C n ≡ true) where
  abbrev to_count : Bool
  to_count = eqb m section_count

  abbrev to_P : Bool
  to_P = to_count && leb 1 P

  abbrev to_P8 : Bool
  to_P8 = to_P && leb P 8

  abbrev to_C : Bool
  to_C = to_P8 && leb 1 C

  abbrev to_C64 : Bool
  to_C64 = to_C && leb C 64

  record HeadFacts : Type 0 where
    pub counted : m ≡ section_count
    pub P_low : 1 ≤ P
    pub P_high : P ≤ 8
    pub C_low : 1 ≤ C
    pub C_high : C ≤ 64
    pub few : n ≤ 256

  head_facts : HeadFacts
  head_facts =
      let h5 = and_0 to_C64 (leb n 256) h in
      let h4 = and_0 to_C (leb C 64) h5 in
      let h3 = and_0 to_P8 (leb 1 C) h4 in
      let h2 = and_0 to_P (leb P 8) h3 in
      record {
        counted = eqb-true m section_count (and_0 to_count (leb 1 P) h2);
        P_low = leb-true 1 P (and_1 to_count (leb 1 P) h2);
        P_high = leb-true P 8 (and_1 to_P (leb P 8) h3);
        C_low = leb-true 1 C (and_1 to_P8 (leb 1 C) h4);
        C_high = leb-true C 64 (and_1 to_C (leb C 64) h5);
        few = leb-true n 256 (and_1 to_C64 (leb n 256) h);
      }

pub judged_accepted : (bytes : List ℕ) → Bytes bytes → (judge_of bytes).number ≡ 0 → AcceptedBytes bytes
judged_accepted bytes ok z =
    let p = head_passed bytes z in
    let h = head_facts (section_count_of bytes) (processes_of bytes) (slots_of bytes) (entry_count_of bytes) p.head in
    let back : log_bytes (decoded bytes) ≡ bytes = encode_decode bytes ok
    (record { counted = h.counted; sized = omega (arith, p.enough, p.no_more) }) in
    record {
      log = decoded bytes;
      in_range = in_range_lem bytes ok h.P_low h.P_high h.C_low h.C_high h.few;
      accepted = given (decoded bytes) bytes back (accepted_only (entry_at bytes) (entry_count_of bytes) (processes_of bytes) (slots_of bytes) p.rules);
      is = sym back;
    }
  where
    given : (l : Log) (bytes : List ℕ) → log_bytes l ≡ bytes → Accepted (entry_at bytes) (entry_count_of bytes) (processes_of bytes) (slots_of bytes)
        → AcceptedLog l
    given l bytes e a =
        rw (entries_are l, processes_decoded l, slots_decoded l, entry_count_decoded l) at
        (subst (λ (b : List ℕ). Accepted (entry_at b) (entry_count_of b) (processes_of b) (slots_of b)) (sym e) a)

pub judged_0 : JudgedZero
judged_0 bytes ok = (
  judged_accepted bytes ok,
  λ a. ap (λ (b : List ℕ). (judge_of b).number) a.is
      ∙ ap (λ (v : Verdict). v.number) (accepted_judged a.log a.in_range a.accepted),
)
