-- From the invariant at the end of a run, with every process idle, to the judge's rules.
use Prim.Native.Nat.{ℕ, zero, suc, ◌+◌, ◌*◌, ◌≤◌, ◌<◌}
use mathlib.Core.Path.{◌≡◌, refl, sym, ap, ◌∙◌, subst}
use mathlib.Core.Bool.{Bool, true, false}
use mathlib.Core.List.{List, [], ◌∷◌, ◌++◌}
use mathlib.Core.Logic.{◌⊎◌, inl, inr}
use native.Mathlib.Decide.{dec_lt}
use native.Mathlib.Omega.{arith}
use lib.ListN.{length}
use Rattle.call_log.specs.Encode.{EntryFits}
use Rattle.base.specs.Lists.{All}
use Rattle.call_log.specs.Decode.{no_entry}
use Rattle.call_log.specs.Numbers.{push, bottom_pop, top_pop, nil, done, full, lost, most_result, no_moment, kind_of, result_of, bears_moment, what_of, what}
use Rattle.call_log.proofs.NumbersLaws.{what_back}
use Rattle.call_log.specs.declared.Entry.{Entry}
use Rattle.call_log.specs.declared.What.{What}
use Rattle.call_log.specs.declared.What.TheVariants.{Pushed, Full, BottomNode, BottomNil, TopNode, TopNil, TopLost}
use Rattle.word.specs.declared.Stage.{Stage}
use Rattle.word.specs.declared.Stage.TheVariants.{Idle}
use Rattle.base.proofs.Cases.{if_lt, ever}
use Rattle.runfile.specs.Encode.{InRanges}
use Rattle.runfile.specs.File.{RunFile}
use Rattle.runs.specs.State.{State, process_at}
use Rattle.rules.specs.Accepted.{IsNil, Rule1, Rule3, Rule4, EmptyIn, RemovedIn, Accepted}
use Rattle.rules.proofs.Rule6Laws.{rule6_to}
use Rattle.rules.specs.Contents.{bears, drop_last, drop_first, applied, event_at, before}
use Rattle.runs.proofs.Scripts.{sizes_of}
use Rattle.theorems.proofs.Queues.Origins.{Origins, Differ, node_in as file_node}
use Rattle.base.specs.Lists.{All}
use Rattle.base.proofs.Lists.{all_snoc, all_at, pairs_at, in_at}
use Rattle.theorems.proofs.Queue.Cases.{top_nil_lem}
use Rattle.theorems.proofs.Queue.Content.{at, content, content_before}
use Rattle.theorems.proofs.Queue.Memory.{memory_at, as_owner}
use Rattle.theorems.proofs.Queue.Inv.{Fine, Right, Cause, empty, taken, pending}
use Rattle.theorems.proofs.Queues.Whole.{seat, nodes_by, Order, Fields, Written, Inv}
use Rattle.theorems.proofs.Rules.Room.{Room}

-- a node of the run file
abbrev NodeIn : ℕ → Type 0
NodeIn x = (1 ≤ x) × (x ≤ 65535)

last_in : (c : List ℕ) → All NodeIn c → All NodeIn (drop_last c)
last_in [] a = tt
last_in (x ∷ []) a = tt
last_in (x ∷ y ∷ c) a = (a.0, last_in (y ∷ c) a.1)

first_in : (c : List ℕ) → All NodeIn c → All NodeIn (drop_first c)
first_in [] a = tt
first_in (x ∷ c) a = a.1

applied_in : (w : What) (v : ℕ) (c : List ℕ) → (w ≡ Pushed → NodeIn v) → All NodeIn c → All NodeIn (applied w v c)
applied_in Pushed v c f a = all_snoc NodeIn c v a (f refl)
applied_in Full v c f a = a
applied_in BottomNode v c f a = last_in c a
applied_in BottomNil v c f a = a
applied_in TopNode v c f a = first_in c a
applied_in TopNil v c f a = a
applied_in TopLost v c f a = a

bottom_in : (c : List ℕ) (x : ℕ) → All NodeIn (c ++ (x ∷ [])) → NodeIn x
bottom_in [] x a = a.0
bottom_in (y ∷ c) x a = bottom_in c x a.1

-- what a written entry did
did_what : (P : ℕ) (e : Entry) (h : Written P e) → h.did ≡ what e
did_what P e h = sym (ap (λ (k : ℕ). what_of k e.result) h.kind ∙ ap (λ (k : ℕ). what_of (kind_of h.did) k) h.result ∙ what_back h.did)

written_what : (P : ℕ) (e : Entry) → Written P e → (w : What) → what e ≡ w → Fields w e
written_what P e h w d = subst (λ (x : What). Fields x e) (did_what P e h ∙ d) h.fields

-- rule 1, of an entry that did w; x and y are its kind and its result
module _ (P : ℕ) (e : Entry) (p : e.process < P) (q : e.queue < P) (order : e.start ≤ e.end) (end : e.end ≤ 32766) where
  -- node 0 exactly for NIL
  abbrev NodeRight : ℕ → Type 0
  NodeRight y = ((1 ≤ e.node) × (IsNil y → ⊥)) ⊎ ((e.node ≡ 0) × IsNil y)

  to_nil : (y : ℕ) → NodeRight y → e.node ≡ 0 → IsNil y
  to_nil y (inl h) d = absurd (omega (arith, h.0))
  to_nil y (inr h) d = h.1

  from_nil : (y : ℕ) → NodeRight y → IsNil y → e.node ≡ 0
  from_nil y (inl h) d = absurd (h.1 d)
  from_nil y (inr h) d = h.0

  no_nil : (y : ℕ) → (y ≡ nil → ⊥) × (y ≡ lost → ⊥) → IsNil y → ⊥
  no_nil y h (inl d) = h.0 d
  no_nil y h (inr d) = h.1 d

  by_numbers : (x y : ℕ) → e.kind ≡ x → e.result ≡ y
      → (push ≤ x) × (x ≤ top_pop) × (y ≤ most_result) × (y ≡ full → x ≡ push) × (y ≡ nil → x ≡ push → ⊥) × (y ≡ lost → x ≡ top_pop)
      → ((e.kind ≡ push) ⊎ (e.kind ≡ bottom_pop) → e.process ≡ e.queue) → NodeRight y → Rule1 P e
  by_numbers x y k r n own node = record {
    process = p;
    queue = q;
    kind = (omega (arith, n.0), omega (arith, n.1));
    result = omega (arith, n.2);
    own = own;
    full_push = λ d. k ∙ n.3 (sym r ∙ d);
    nil_pop = λ d c. n.4 (sym r ∙ d) (sym k ∙ c);
    lost_top = λ d. k ∙ n.5 (sym r ∙ d);
    node = (λ d. subst IsNil (sym r) (to_nil y node d), λ d. from_nil y node (subst IsNil r d));
    start = order;
    end = end;
  }

  no_own : e.kind ≡ top_pop → (e.kind ≡ push) ⊎ (e.kind ≡ bottom_pop) → e.process ≡ e.queue
  no_own k (inl d) = absurd (omega arith)
  no_own k (inr d) = absurd (omega arith)

  rule1 : (w : What) → e.kind ≡ kind_of w → e.result ≡ result_of w → Fields w e → ((IsNil (result_of w) → ⊥) → 1 ≤ e.node) → Rule1 P e
  rule1 Pushed k r h n = let u = no_nil done (omega arith) in by_numbers push done k r (omega arith) (λ _. sym h) (inl (n u, u))
  rule1 Full k r h n = let u = no_nil full (omega arith) in by_numbers push full k r (omega arith) (λ _. sym h.0) (inl (n u, u))
  rule1 BottomNode k r h n = let u = no_nil done (omega arith) in by_numbers bottom_pop done k r (omega arith) (λ _. sym h) (inl (n u, u))
  rule1 BottomNil k r h n = by_numbers bottom_pop nil k r (omega arith) (λ _. sym h.0) (inr (h.1, inl refl))
  rule1 TopNode k r h n = let u = no_nil done (omega arith) in by_numbers top_pop done k r (omega arith) (no_own k) (inl (n u, u))
  rule1 TopNil k r h n = by_numbers top_pop nil k r (omega arith) (no_own k) (inr (h.0, inl refl))
  rule1 TopLost k r h n = by_numbers top_pop lost k r (omega arith) (no_own k) (inr (h.0, inr refl))

-- rule 3: where there is no moment
no_moment_lem : (e : Entry) (w : What) → Fields w e → bears_moment w ≡ false → e.moment ≡ no_moment
no_moment_lem e Pushed h b = ever b
no_moment_lem e Full h b = h.1
no_moment_lem e BottomNode h b = ever b
no_moment_lem e BottomNil h b = ever b
no_moment_lem e TopNode h b = ever b
no_moment_lem e TopNil h b = h.1
no_moment_lem e TopLost h b = h.1

module _ (f : RunFile) (w : InRanges f) (s : State) (h : Inv (sizes_of f) s) (j : Room (sizes_of f) s) (g : Origins f s)
    (idle : (p : ℕ) → (process_at s.bench p).stage ≡ Idle)
    (short : s.bench.steps ≤ 32767) where
  abbrev l : List Entry
  l = s.log

  abbrev nodes : ℕ → ℕ → List ℕ
  nodes q x = before (at l) (length l) q x

  -- no pop is pending
  is_before : (q x : ℕ) → nodes_by q l (memory_at s q) (seat s q) x ≡ nodes q x
  is_before q x = ap (λ (z : Stage). content l q (pending (memory_at s q) (as_owner z) (seat s q).b2) x) (idle q) ∙ content_before l q x

  wrote : (i : ℕ) → i < length l → Written (length f.shares) (at l i)
  wrote i lt = all_at _ no_entry l h.written i lt

  -- the node of a push is one of the file
  file_in : (i : ℕ) → i < length l → (what (at l i) ≡ Pushed) ⊎ (what (at l i) ≡ Full) → NodeIn (at l i).node
  file_in i lt d = file_node f w s (at l i) (all_at _ no_entry l g.origin i lt d)

  nodes_in : (q x : ℕ) → All NodeIn (nodes q x)
  unfolding before
  nodes_in q zero = tt
  nodes_in q (suc x) =
      if_lt (All NodeIn) (event_at (at l) (length l) q x) (length l)
      (λ lt. applied_in (what (at l (event_at (at l) (length l) q x))) (at l (event_at (at l) (length l) q x)).node (nodes q x)
      (λ d. file_in (event_at (at l) (length l) q x) lt (inl d)) (nodes_in q x))
      (λ _. nodes_in q x)

  module _ (i : ℕ) (lt : i < length l) where
    abbrev e : Entry
    e = at l i

    fine : Fine s.bench.steps s.log (nodes_by (at s.log i).queue s.log (memory_at s (at s.log i).queue) (seat s (at s.log i).queue))
        (at s.log i)
    fine = all_at _ no_entry l h.fine i lt

    -- its node was pushed
    node_in : (w : What) → what e ≡ w → Fields w e → Right l (nodes_by e.queue l (memory_at s e.queue) (seat s e.queue)) e w
        → (e.node ≤ 65535) × ((IsNil (result_of w) → ⊥) → 1 ≤ e.node)
    node_in Pushed d g r = let b = file_in i lt (inl d) in (b.1, λ _. b.0)
    node_in Full d g r = let b = file_in i lt (inr d) in (b.1, λ _. b.0)
    node_in BottomNode d g r =
        let b = bottom_in r.0 e.node (subst (All NodeIn) (sym (is_before e.queue e.moment) ∙ r.1) (nodes_in e.queue e.moment)) in
        (b.1, λ _. b.0)
    node_in BottomNil d g r = (omega (arith, g.1), λ u. absurd (u (inl refl)))
    node_in TopNode d g r =
        let b = (subst (All NodeIn) (sym (is_before e.queue e.moment) ∙ r.1) (nodes_in e.queue e.moment)).0 in
        (b.1, λ _. b.0)
    node_in TopNil d g r = (omega (arith, g.0), λ u. absurd (u (inl refl)))
    node_in TopLost d g r = (omega (arith, g.0), λ u. absurd (u (inr refl)))

    fields : Fields (what e) e
    fields = written_what (length f.shares) e (wrote i lt) (what e) refl

    first_rule : Rule1 (length f.shares) e
    first_rule =
        let d = wrote i lt in
        let is = did_what (length f.shares) e d in
        rule1 (length f.shares) e d.process d.queue fine.order (omega (arith, fine.ended)) (what e) (d.kind ∙ ap kind_of is)
        (d.result ∙ ap result_of is) fields
        (node_in (what e) refl fields fine.right).1

    third_rule : Rule3 e
    third_rule = record { from = fine.from; to = fine.to; none = no_moment_lem e (what e) fields }

    fits : EntryFits e
    fits =
        let d = wrote i lt in
        record {
          bytes = (
            omega (arith, d.process, w.processes),
            omega (arith, d.queue, w.processes),
            omega (arith, first_rule.kind.1),
            omega (arith, first_rule.result),
          );
          pairs = (
            omega (arith, (node_in (what e) refl fields fine.right).0),
            omega (arith, fine.order, fine.ended),
            omega (arith, fine.ended),
            short_moment (bears e) refl,
          );
        }
      where
        short_moment : (b : Bool) → bears e ≡ b → e.moment < 65536
        short_moment true d = omega (arith, fine.to d, fine.ended)
        short_moment false d = omega (arith, third_rule.none d)

    -- no other push has its node
    once : what e ≡ Pushed → (k : ℕ) → k < length l → what (at l k) ≡ Pushed → (at l k).moment < e.moment → (at l k).node ≡ e.node → ⊥
    once d k u a m n = by (dec_lt k i) (dec_lt i k)
      where
        by : Dec (k < i) → Dec (i < k) → ⊥
        by (yes x) y = pairs_at Differ no_entry l g.once k i x lt a d n
        by (no x) (yes y) = pairs_at Differ no_entry l g.once i k y u d a (sym n)
        by (no x) (no y) = let z : k ≡ i = omega arith in let c : (at l k).moment ≡ (at l i).moment = ap (λ (b : ℕ). (at l b).moment) z in omega arith

    fourth_rule : (w : What) → what e ≡ w → Right l (nodes_by e.queue l (memory_at s e.queue) (seat s e.queue)) e w
        → Rule4 (at l) (length l) e (nodes e.queue e.moment) w
    fourth_rule Pushed d r = once d
    fourth_rule Full d r = tt
    fourth_rule BottomNode d r = (r.0, sym (is_before e.queue e.moment) ∙ r.1)
    fourth_rule BottomNil d r = sym (is_before e.queue e.moment) ∙ r
    fourth_rule TopNode d r = (r.0, sym (is_before e.queue e.moment) ∙ r.1)
    fourth_rule TopNil d r = tt
    fourth_rule TopLost d r = tt

    fifth_rule : Cause l (nodes_by e.queue l (memory_at s e.queue) (seat s e.queue)) e.process e.queue e.start (2 * e.end + 2)
        → EmptyIn (at l) (length l) e ⊎ RemovedIn (at l) (length l) e
    fifth_rule (empty x a b c) = inl (record { instant = x; from = a; to = omega arith; empty = sym (is_before e.queue (suc x)) ∙ c })
    fifth_rule (taken d x a b c m n) =
        let g = in_at no_entry l d x in
        let y : d ≡ at l g.0 = sym g.2 in
        inr (record {
          by = g.0;
          below = g.1;
          queue = subst (λ (z : Entry). z.queue ≡ e.queue) y b;
          other = subst (λ (z : Entry). z.process ≡ e.process → ⊥) y c;
          from = subst (λ (z : Entry). 2 * e.start ≤ z.moment) y m;
          to = subst (λ (z : Entry). z.moment ≤ 2 * e.end + 1) y (omega arith);
          topmost = inl (subst (λ (z : Entry). what z ≡ TopNode) y a);
        })

  pub rules_kept : Accepted (at l) (length l) (length f.shares) f.size
  rules_kept = record {
    rule1 = first_rule;
    rule2 = λ i k lt below. let o = pairs_at Order no_entry l h.order i k lt below in record { ends_rise = o.ends; starts_after = o.after };
    rule3 = third_rule;
    differ = λ i k lt below. (pairs_at Order no_entry l h.order i k lt below).differ;
    rule4 = λ i lt. fourth_rule i lt (what (at l i)) refl (fine i lt).right;
    rule5 = λ i lt d.
        let K = nodes_by (at l i).queue l (memory_at s (at l i).queue) (seat s (at l i).queue) in
        fifth_rule i lt (top_nil_lem (λ (w : What). Right l K (at l i) w
        → Cause l K (at l i).process (at l i).queue (at l i).start (2 * (at l i).end + 2)) (λ c. c) (λ c. c) (what (at l i)) d (fine i lt).right);
    rule6 = λ i lt d. rule6_to (at l) (length l) f.size i lt (j.fulls i lt d);
  }

  -- and all fields fit their bytes
  all_fit : (k : List Entry) → ((i : ℕ) → i < length k → EntryFits (at k i)) → All EntryFits k
  all_fit [] g = tt
  all_fit (x ∷ k) g = (g 0 (omega arith), all_fit k (λ i lt. g (suc i) (omega arith)))

  pub fields_fit : All EntryFits s.log
  fields_fit = all_fit l fits
