-- Rules 1 to 3 of single entries and pairs: the tests and the statements say the same.
use mathlib.Core.Path.{◌≡◌, refl, sym, ap}
use mathlib.Core.Bool.{Bool, true, false, cond, ◌&&◌, ◌||◌, not, beq}
use mathlib.Core.Logic.{◌⊎◌, inl, inr}
use Prim.Native.Nat.{ℕ, ◌+◌, ◌*◌}
use native.Mathlib.Omega.{arith}
use borrow.Author.Tests.{lt-ltb, le-leb, eq-eqb, ltb-true, leb-true, eqb-true, eqb-false}
use lib.Dec.{ltb, leb, eqb}
use Rattle.call_log.specs.declared.Entry.{Entry}
use Rattle.call_log.specs.declared.What.{What}
use Rattle.call_log.specs.declared.What.TheVariants.{Pushed, Full, BottomNode, BottomNil, TopNode, TopNil, TopLost}
use Rattle.call_log.specs.Numbers.{push, bottom_pop, top_pop, nil, done, full, lost, most_result, no_moment, kind_of, result_of, what}
use Rattle.rules.specs.Contents.{bears}
use Rattle.rules.specs.Rules.{last_end, keeps1, clash, in_call, moment_right}
use Rattle.rules.specs.Accepted.{IsNil, Rule1, Rule2, Rule3}
use Rattle.base.proofs.Bools.{contra, and_i, and_0, and_1, or_l, or_r, or_e, if_so_lem, so_if, not_i, not_e, not_f}

-- the tests of rule 1, each by itself
abbrev kind_known : Entry → Bool
kind_known e = leb push e.kind && leb e.kind top_pop

abbrev on_own_queue : Entry → Bool
on_own_queue e = not (eqb e.kind push || eqb e.kind bottom_pop) || eqb e.process e.queue

abbrev full_for_push : Entry → Bool
full_for_push e = not (eqb e.result full) || eqb e.kind push

abbrev nil_for_pop : Entry → Bool
nil_for_pop e = not (eqb e.result nil) || not (eqb e.kind push)

abbrev lost_for_top_pop : Entry → Bool
lost_for_top_pop e = not (eqb e.result lost) || eqb e.kind top_pop

abbrev is_nil : ℕ → Bool
is_nil result = eqb result nil || eqb result lost

abbrev node_unless_nil : Entry → Bool
node_unless_nil e = beq (eqb e.node 0) (is_nil e.result)

-- and those of rule 2
abbrev pub ends_rise : Entry → Entry → Bool
ends_rise d e = ltb d.end e.end

abbrev pub starts_after : Entry → Entry → Bool
starts_after d e = not (eqb d.process e.process) || ltb d.end e.start

same_truth : (s t : Bool) → (s ≡ true → t ≡ true) → (t ≡ true → s ≡ true) → beq s t ≡ true
same_truth true t h k = rw (h refl)
same_truth false true h k = contra false (k refl) refl
same_truth false false h k = refl

truth_to : (s t : Bool) → beq s t ≡ true → s ≡ true → t ≡ true
truth_to true true h e = refl
truth_to true false h e = contra false h refl
truth_to false t h e = contra false e refl

truth_from : (s t : Bool) → beq s t ≡ true → t ≡ true → s ≡ true
truth_from true t h e = refl
truth_from false true h e = contra false h refl
truth_from false false h e = e

module _ (P : ℕ) (e : Entry) where
  own_to : on_own_queue e ≡ true → (e.kind ≡ push) ⊎ (e.kind ≡ bottom_pop) → e.process ≡ e.queue
  own_to h k = eqb-true e.process e.queue (if_so_lem (eqb e.kind push || eqb e.kind bottom_pop) (eqb e.process e.queue) h (either k))
    where
      either : (e.kind ≡ push) ⊎ (e.kind ≡ bottom_pop) → (eqb e.kind push || eqb e.kind bottom_pop) ≡ true
      either (inl p) = or_l (eqb e.kind push) (eqb e.kind bottom_pop) (eq-eqb e.kind push p)
      either (inr p) = or_r (eqb e.kind push) (eqb e.kind bottom_pop) (eq-eqb e.kind bottom_pop p)

  own_from : ((e.kind ≡ push) ⊎ (e.kind ≡ bottom_pop) → e.process ≡ e.queue) → on_own_queue e ≡ true
  own_from h =
      so_if (eqb e.kind push || eqb e.kind bottom_pop) (eqb e.process e.queue)
      (λ t. eq-eqb e.process e.queue (h (one (eqb e.kind push) refl t)))
    where
      one : (s : Bool) → eqb e.kind push ≡ s → (s || eqb e.kind bottom_pop) ≡ true → (e.kind ≡ push) ⊎ (e.kind ≡ bottom_pop)
      one true p t = inl (eqb-true e.kind push p)
      one false p t = inr (eqb-true e.kind bottom_pop t)

  nil_from : IsNil e.result → is_nil e.result ≡ true
  nil_from (inl p) = or_l (eqb e.result nil) (eqb e.result lost) (eq-eqb e.result nil p)
  nil_from (inr p) = or_r (eqb e.result nil) (eqb e.result lost) (eq-eqb e.result lost p)

  nil_to : is_nil e.result ≡ true → IsNil e.result
  nil_to h = or_e (eqb e.result nil) (eqb e.result lost) h (λ t. inl (eqb-true e.result nil t)) (λ t. inr (eqb-true e.result lost t))

  -- the tests of rule 1 up to each
  abbrev to_queue : Bool
  to_queue = ltb e.process P && ltb e.queue P

  abbrev to_kind : Bool
  to_kind = to_queue && kind_known e

  abbrev to_result : Bool
  to_result = to_kind && leb e.result most_result

  abbrev to_own : Bool
  to_own = to_result && on_own_queue e

  abbrev to_full : Bool
  to_full = to_own && full_for_push e

  abbrev to_nil : Bool
  to_nil = to_full && nil_for_pop e

  abbrev to_lost : Bool
  to_lost = to_nil && lost_for_top_pop e

  abbrev to_node : Bool
  to_node = to_lost && node_unless_nil e

  abbrev to_start : Bool
  to_start = to_node && leb e.start e.end

  pub fields : keeps1 P e ≡ true → Rule1 P e
  fields h =
      let h10 = and_0 to_start (leb e.end last_end) h in
      let h9 = and_0 to_node (leb e.start e.end) h10 in
      let h8 = and_0 to_lost (node_unless_nil e) h9 in
      let h7 = and_0 to_nil (lost_for_top_pop e) h8 in
      let h6 = and_0 to_full (nil_for_pop e) h7 in
      let h5 = and_0 to_own (full_for_push e) h6 in
      let h4 = and_0 to_result (on_own_queue e) h5 in
      let h3 = and_0 to_kind (leb e.result most_result) h4 in
      let h2 = and_0 to_queue (kind_known e) h3 in
      let kind = and_1 to_queue (kind_known e) h3 in
      let node = and_1 to_lost (node_unless_nil e) h9 in
      record {
        process = ltb-true e.process P (and_0 (ltb e.process P) (ltb e.queue P) h2);
        queue = ltb-true e.queue P (and_1 (ltb e.process P) (ltb e.queue P) h2);
        kind = (
          leb-true push e.kind (and_0 (leb push e.kind) (leb e.kind top_pop) kind),
          leb-true e.kind top_pop (and_1 (leb push e.kind) (leb e.kind top_pop) kind),
        );
        result = leb-true e.result most_result (and_1 to_kind (leb e.result most_result) h4);
        own = own_to (and_1 to_result (on_own_queue e) h5);
        full_push = λ r. eqb-true e.kind push (if_so_lem (eqb e.result full) (eqb e.kind push) (and_1 to_own (full_for_push e) h6)
            (eq-eqb e.result full r));
        nil_pop = λ r k. not_e (eqb e.kind push)
            (if_so_lem (eqb e.result nil) (not (eqb e.kind push)) (and_1 to_full (nil_for_pop e) h7) (eq-eqb e.result nil r))
            (eq-eqb e.kind push k);
        lost_top = λ r. eqb-true e.kind top_pop (if_so_lem (eqb e.result lost) (eqb e.kind top_pop) (and_1 to_nil (lost_for_top_pop e) h8)
            (eq-eqb e.result lost r));
        node = (
          λ v. nil_to (truth_to (eqb e.node 0) (is_nil e.result) node (eq-eqb e.node 0 v)),
          λ r. eqb-true e.node 0 (truth_from (eqb e.node 0) (is_nil e.result) node (nil_from r)),
        );
        start = leb-true e.start e.end (and_1 to_node (leb e.start e.end) h10);
        end = leb-true e.end last_end (and_1 to_start (leb e.end last_end) h);
      }

  pub fields_back : Rule1 P e → keeps1 P e ≡ true
  fields_back r =
      and_i (and_i (and_i (and_i (and_i (and_i (and_i (and_i (and_i (and_i
      (lt-ltb e.process P r.process) (lt-ltb e.queue P r.queue))
      (and_i (le-leb push e.kind r.kind.0) (le-leb e.kind top_pop r.kind.1)))
      (le-leb e.result most_result r.result))
      (own_from r.own))
      (so_if (eqb e.result full) (eqb e.kind push) (λ t. eq-eqb e.kind push (r.full_push (eqb-true e.result full t)))))
      (so_if (eqb e.result nil) (not (eqb e.kind push)) (λ t. not_i (eqb e.kind push)
      (λ k. r.nil_pop (eqb-true e.result nil t) (eqb-true e.kind push k)))))
      (so_if (eqb e.result lost) (eqb e.kind top_pop) (λ t. eq-eqb e.kind top_pop (r.lost_top (eqb-true e.result lost t)))))
      (same_truth (eqb e.node 0) (is_nil e.result)
      (λ t. nil_from (r.node.0 (eqb-true e.node 0 t))) (λ t. eq-eqb e.node 0 (r.node.1 (nil_to t)))))
      (le-leb e.start e.end r.start))
      (le-leb e.end last_end r.end)

  -- a pop that gave no node and lost no race gave NIL
  not_full : Rule1 P e → (e.kind ≡ push → ⊥) → (e.result ≡ done → ⊥) → (e.result ≡ lost → ⊥) → nil ≡ e.result
  not_full r k d l = let x : e.result ≡ full → ⊥ = λ z. k (r.full_push z) in omega (arith, r.result)

  top_kind : Rule1 P e → (e.kind ≡ push → ⊥) → (e.kind ≡ bottom_pop → ⊥) → top_pop ≡ e.kind
  top_kind r a b = omega (arith, r.kind.0, r.kind.1)

  abbrev Right : What → Type 0
  Right w = (kind_of w ≡ e.kind) × (result_of w ≡ e.result)

  -- under rule 1 an entry's kind and result are those of what it did: `what_of` never has to guess
  pub what_right : Rule1 P e → Right (what e)
  what_right r = by (eqb e.kind push) (eqb e.kind bottom_pop) (eqb e.result done) (eqb e.result lost) refl refl refl refl
    where
      no_race : e.kind ≡ push ⊎ e.kind ≡ bottom_pop → e.result ≡ lost → ⊥
      no_race (inl k) z = let t = r.lost_top z in omega arith
      no_race (inr k) z = let t = r.lost_top z in omega arith

      by : (s t u v : Bool) → eqb e.kind push ≡ s → eqb e.kind bottom_pop ≡ t → eqb e.result done ≡ u → eqb e.result lost ≡ v
          → Right (cond s (cond u Pushed Full) (cond t (cond u BottomNode BottomNil) (cond u TopNode (cond v TopLost TopNil))))
      by true t true v a b c d = (sym (eqb-true e.kind push a), sym (eqb-true e.result done c))
      by true t false v a b c d =
          let k = eqb-true e.kind push a in
          let x : e.result ≡ nil → ⊥ = λ z. r.nil_pop z k in
          let y = eqb-false e.result done c in
          let l = no_race (inl k) in
          (sym k, omega (arith, r.result))
      by false true true v a b c d = (sym (eqb-true e.kind bottom_pop b), sym (eqb-true e.result done c))
      by false true false v a b c d =
          let k = eqb-true e.kind bottom_pop b in
          (sym k, not_full r (eqb-false e.kind push a) (eqb-false e.result done c) (no_race (inr k)))
      by false false true v a b c d = (top_kind r (eqb-false e.kind push a) (eqb-false e.kind bottom_pop b), sym (eqb-true e.result done c))
      by false false false true a b c d =
          (top_kind r (eqb-false e.kind push a) (eqb-false e.kind bottom_pop b), sym (eqb-true e.result lost d))
      by false false false false a b c d = (
        top_kind r (eqb-false e.kind push a) (eqb-false e.kind bottom_pop b),
        not_full r (eqb-false e.kind push a) (eqb-false e.result done c) (eqb-false e.result lost d),
      )

module _ (d e : Entry) where
  pub order : clash d e ≡ false → Rule2 d e
  order h =
      let g : (ends_rise d e && starts_after d e) ≡ true = not_f (ends_rise d e && starts_after d e) h in
      record {
        ends_rise = ltb-true d.end e.end (and_0 (ends_rise d e) (starts_after d e) g);
        starts_after = λ p. ltb-true d.end e.start
            (if_so_lem (eqb d.process e.process) (ltb d.end e.start) (and_1 (ends_rise d e) (starts_after d e) g)
            (eq-eqb d.process e.process p));
      }

  pub order_back : Rule2 d e → clash d e ≡ false
  order_back r =
      ap not (and_i (lt-ltb d.end e.end r.ends_rise)
      (so_if (eqb d.process e.process) (ltb d.end e.start)
      (λ p. lt-ltb d.end e.start (r.starts_after (eqb-true d.process e.process p)))))

module _ (e : Entry) where
  pub moment : moment_right e ≡ true → Rule3 e
  moment h = by (bears e) refl h
    where
      by : (t : Bool) → bears e ≡ t → cond t (in_call e e.moment) (eqb e.moment no_moment) ≡ true → Rule3 e
      by true b k = record {
        from = λ s. leb-true (2 * e.start) e.moment (and_0 (leb (2 * e.start) e.moment) (leb e.moment (2 * e.end + 1)) k);
        to = λ s. leb-true e.moment (2 * e.end + 1) (and_1 (leb (2 * e.start) e.moment) (leb e.moment (2 * e.end + 1)) k);
        none = λ s. contra (bears e) b s;
      }
      by false b k = record {
        from = λ s. contra (bears e) s b;
        to = λ s. contra (bears e) s b;
        none = λ s. eqb-true e.moment no_moment k;
      }

  pub moment_back : Rule3 e → moment_right e ≡ true
  moment_back r = by (bears e) refl
    where
      by : (t : Bool) → bears e ≡ t → cond t (in_call e e.moment) (eqb e.moment no_moment) ≡ true
      by true b = and_i (le-leb (2 * e.start) e.moment (r.from b)) (le-leb e.moment (2 * e.end + 1) (r.to b))
      by false b = eq-eqb e.moment no_moment (r.none b)
