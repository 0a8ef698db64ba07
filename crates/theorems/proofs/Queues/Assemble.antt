-- A step of process p on queue q: the invariant of the whole from what the step gives for p and q.
use Prim.Native.Nat.{ℕ, suc, ◌+◌, ◌*◌, ◌≤◌, ◌<◌}
use mathlib.Core.Path.{◌≡◌, refl, sym, ap, ◌∙◌, subst}
use mathlib.Core.Bool.{true}
use mathlib.Core.List.{List, [], ◌∷◌, ◌++◌}
use mathlib.Core.Logic.{◌⊎◌, inl, inr}
use native.Mathlib.Omega.{arith}
use lib.ListN.{get_or, set}
use Rattle.call_log.specs.declared.Entry.{Entry}
use Rattle.word.specs.Stages.{past_b2}
use Rattle.steps.specs.Step.{stored, Stepped}
use Rattle.runs.specs.Moment.{queue_of}
use Rattle.runs.specs.State.{Process, Queue, State, fresh, nobody, queue_at, process_at}
use Rattle.runs.specs.Turn.{process_after, queue_after, ending, acted}
use Rattle.base.proofs.Cases.{if_set}
use Rattle.runs.proofs.Sound.{Steps, row_at}
use Rattle.runs.specs.Inner.Sound.{Sizes, Fit, processes, slots_at, Sound}
use Rattle.base.specs.Lists.{In, All, Pairs}
use Rattle.base.proofs.Lists.{all_snoc, all_map, all_in, in_all, pairs_snoc}
use Rattle.theorems.proofs.Queue.Memory.{Memory, memory_at, memory_after, log_after, log_after_lem}
use Rattle.theorems.proofs.Queue.Inv.{still, old, Rely, Grow, same, more, NewOk, Fine, Turn, view, pending}
use Rattle.theorems.proofs.Queue.Keeps.{thief_keeps}
use Rattle.theorems.proofs.Queue.OwnerTurn.{held_keep}
use Rattle.theorems.proofs.Queue.ThiefTurn.{calm_refl}
use Rattle.theorems.proofs.Queues.Whole.{Seat, seat, nodes_by, SeatOk, ThiefOk, Timed, Order, Written, Inv, fine_keeps, in_grow, other_same}
use Rattle.theorems.proofs.Queues.Whole.{free_grow}

module _ (f : Sizes) (w : Fit f) (s : State) (v : Sound f s) (h : Inv f s) (p : ℕ) (r : Process) (k : Steps f s p r) where
  abbrev q : ℕ
  q = queue_of p r.call

  abbrev o : Stepped
  o = row_at f s p r

  abbrev m' : Memory
  m' = memory_after (memory_at s q) o

  abbrev r' : Process
  r' = process_after s.bench.steps (queue_at s.bench q).resets r o.next

  abbrev l' : List Entry
  l' = log_after s.log (ending p r s.bench o.next)

  abbrev t : State
  t = record { bench = (acted p r s o).bench; slots = (acted p r s o).slots; log = l' }

  pub at_memory : (P : Memory → Type 0) (j : ℕ) → (j ≡ q → P m') → ((j ≡ q → ⊥) → P (memory_at s j)) → P (memory_at t j)
  at_memory P j a b =
      if_set
      (λ (x : Queue). P (record { word = x.word; resets = x.resets; slots = get_or (set s.slots q (stored (slots_at s q) o.store)) j [] }))
      s.bench.queues q j (queue_after (queue_at s.bench q) o) fresh
      (omega (arith, k.placed.queue, v.queues, w.processes))
      (λ e. if_set (λ (x : List ℕ). P (record { word = m'.word; resets = m'.resets; slots = x })) s.slots q j (stored (slots_at s q) o.store) []
      (omega (arith, k.placed.queue, v.tables, w.processes))
      (λ _. a e) (λ d. absurd (d e)))
      (λ e. if_set (λ (x : List ℕ). P (record { word = (queue_at s.bench j).word; resets = (queue_at s.bench j).resets; slots = x })) s.slots q j
      (stored (slots_at s q) o.store) []
      (omega (arith, k.placed.queue, v.tables, w.processes)) (λ d. absurd (e d)) (λ _. b e))

  pub at_record : (P : Process → Type 0) (j : ℕ) → (j ≡ p → P r') → ((j ≡ p → ⊥) → P (process_at s.bench j)) → P (process_at t.bench j)
  at_record P j a b = if_set P s.bench.processes p j r' nobody (omega (arith, k.below, v.records, w.processes)) a b

  module _ (σ' : Seat)
      (seat-q : seat t q ≡ σ')
      (seat-else : (j : ℕ) → (j ≡ q → ⊥) → seat t j ≡ seat s j)
      (turn : Turn f.size s.bench.steps p q r.start r.call σ'.node s.log (memory_at s q) (seat s q).stage (seat s q).b2 l' m' σ'.stage
      σ'.b2)
      (backs : past_b2 σ'.stage ≡ true → (σ'.b2 ≡ s.bench.steps) ⊎ ((past_b2 (seat s q).stage ≡ true) × (σ'.b2 ≡ (seat s q).b2)))
      (self : ThiefOk f.size (s.bench.steps + 1) p l' m' σ' r')
      (timed : Timed (s.bench.steps + 1) p l' r')
      (since : All (λ (e : Entry). e.process ≡ p → e.end < r.start) s.log)
      (written : All (Written (processes f)) l') where
    -- what holds of a queue and its owner, before and after
    at_queue : (P : Memory → Seat → Type 0) (j : ℕ) → (j ≡ q → P m' σ') → ((j ≡ q → ⊥) → P (memory_at s j) (seat s j)) → P (memory_at t j) (seat t j)
    at_queue P j a b =
        at_memory (λ (m : Memory). P m (seat t j)) j
        (λ e. subst (λ (x : Seat). P m' x) (sym (ap (λ (i : ℕ). seat t i) e ∙ seat-q)) (a e))
        (λ e. subst (λ (x : Seat). P (memory_at s j) x) (sym (seat-else j e)) (b e))

    at_seat : (P : Seat → Type 0) (j : ℕ) → (j ≡ q → P σ') → ((j ≡ q → ⊥) → P (seat s j)) → P (seat t j)
    at_seat P j a b = at_queue (λ m σ. P σ) j a b

    -- another queue
    kept_else : (j : ℕ) → (j ≡ q → ⊥) → (x : ℕ) → nodes_by j l' (memory_at s j) (seat s j) x ≡ nodes_by j s.log (memory_at s j) (seat s j) x
    kept_else j e x = other_same turn.grow j e (pending (memory_at s j) (seat s j).stage (seat s j).b2) x

    queue_else : (j : ℕ) → j < processes f → (j ≡ q → ⊥) → SeatOk f.size (s.bench.steps + 1) j l' (memory_at s j) (seat s j)
    queue_else j lt e =
        let o = h.queues j lt in
        let kp = kept_else j e in
        record {
          ctl = o.ctl;
          now_on = λ x i. kp x ∙ o.now_on x (omega arith);
          held = λ d.
              held_keep s.bench.steps s.log (memory_at s j) (seat s j).stage (seat s j).b2 (nodes_by j s.log (memory_at s j) (seat s j)) l'
              (memory_at s j)
              (seat s j).stage (nodes_by j l' (memory_at s j) (seat s j))
              (λ x i. kp x) refl refl (λ a. a) (λ a. a)
              (λ lt' a. free_grow turn.grow (seat s j).b2 (2 * (seat s j).b2) (omega arith) (omega arith) lt'
              (λ ps eq. h.apart j q lt k.placed.queue e d ps eq) a)
              (λ lt' a. free_grow turn.grow (seat s j).b2 (suc (2 * (seat s j).b2)) (omega arith) (omega arith) lt'
              (λ ps eq. h.apart j q lt k.placed.queue e d ps eq) a)
              (o.held d);
        }

    rely_else : (j : ℕ) → j < processes f → (j ≡ q → ⊥)
        → Rely s.bench.steps p j s.log (memory_at s j) (seat s j).stage (seat s j).b2 (nodes_by j s.log (memory_at s j) (seat s j)) l'
        (memory_at s j) (seat s j).stage (seat s j).b2 (nodes_by j l' (memory_at s j) (seat s j))
    rely_else j lt e =
        record {
          calm = calm_refl (memory_at s j) (seat s j).stage;
          change = still refl refl;
          edge = λ a b c d. old c d refl ((h.queues j lt).held c).late refl;
          kept = λ x i. kept_else j e x;
        }

    thief_else : (j : ℕ) → j < processes f → (j ≡ p → ⊥)
        → ThiefOk f.size (s.bench.steps + 1) j l' (memory_at t (queue_of j (process_at s.bench j).call))
        (seat t (queue_of j (process_at s.bench j).call)) (process_at s.bench j)
    thief_else j lt e =
        let on-lt = (v.each j lt).queue in
        at_queue (λ m σ. ThiefOk f.size (s.bench.steps + 1) j l' m σ (process_at s.bench j)) (queue_of j (process_at s.bench j).call)
        (λ d.
        thief_keeps f.size (subst (λ (i : ℕ). Rely s.bench.steps p i s.log (memory_at s i) (seat s i).stage (seat s i).b2
        (nodes_by i s.log (memory_at s i) (seat s i)) l' m' σ'.stage σ'.b2 (nodes_by i l' m' σ')) (sym d) turn.rely) (in_grow turn.grow) j
        (process_at s.bench j).start (process_at s.bench j).resets_at_t1 (λ a. e (sym a)) (process_at s.bench j).stage (h.thieves j lt))
        (λ d.
        thief_keeps f.size (rely_else (queue_of j (process_at s.bench j).call) on-lt d) (in_grow turn.grow) j (process_at s.bench j).start
        (process_at s.bench j).resets_at_t1 (λ a. e (sym a)) (process_at s.bench j).stage (h.thieves j lt))

    timed_else : (j : ℕ) → j < processes f → (j ≡ p → ⊥) → Timed (s.bench.steps + 1) j l' (process_at s.bench j)
    timed_else j lt e =
        let o = h.timed j lt in
        record { begun = omega (arith, o.begun); back_after = o.back_after; since = λ b. go l' turn.grow (o.since b) }
      where
        go : (l'' : List Entry)
            → Grow s.bench.steps p q r.start r.call s.log (seat s q).stage (seat s q).b2 (view q l' m' σ'.stage σ'.b2) l''
            → All (λ (d : Entry). d.process ≡ j → d.end < (process_at s.bench j).start) s.log
            → All (λ (d : Entry). d.process ≡ j → d.end < (process_at s.bench j).start) l''
        go l'' same a = a
        go l'' (more d w) a = all_snoc _ s.log d a (λ b. absurd (e (sym b ∙ w.by_process)))

    -- the log
    kept_all : (j x : ℕ) → x ≤ 2 * s.bench.steps → nodes_by j l' (memory_at t j) (seat t j) x ≡ nodes_by j s.log (memory_at s j) (seat s j) x
    kept_all j x i =
        at_queue (λ m σ. nodes_by j l' m σ x ≡ nodes_by j s.log (memory_at s j) (seat s j) x) j
        (λ e. rw e (turn.rely.kept x i))
        (λ e. kept_else j e x)

    abbrev FineT : Entry → Type 0
    FineT e = Fine (s.bench.steps + 1) l' (nodes_by e.queue l' (memory_at t e.queue) (seat t e.queue)) e

    old_fine : All FineT s.log
    old_fine = all_map _ _ (λ e g. fine_keeps s.bench.steps s.log _ l' _ (in_grow turn.grow) (kept_all e.queue) e g) s.log h.fine

    -- the new entry against an old one
    new_order : (e : Entry)
        → NewOk s.bench.steps p q r.start r.call s.log (seat s q).stage (seat s q).b2 (s.log ++ (e ∷ []))
        (view q l' m' σ'.stage σ'.b2) e
        → All (λ (a : Entry). Order a e) s.log
    new_order e x = all_in (λ (a : Entry). Order a e) s.log go
      where
        go : (a : Entry) → In a s.log → Order a e
        go a i =
            let fa = in_all _ s.log h.fine a i in
            let sa = in_all _ s.log since a i in
            record {
              ends = omega (arith, fa.ended, x.to_end);
              after = λ d. omega (arith, sa (d ∙ x.by_process), x.from_start);
              differ = λ b c d. in_all _ s.log (x.fresh c) a i b d;
            }

    abbrev Log : List Entry → Type 0
    Log k = (All FineT k) × (Pairs Order k)

    new_log : (l'' : List Entry) → l'' ≡ l'
        → Grow s.bench.steps p q r.start r.call s.log (seat s q).stage (seat s q).b2 (view q l' m' σ'.stage σ'.b2) l'' → Log l''
    new_log l'' el same = (old_fine, h.order)
    new_log l'' el (more e x) = (
      all_snoc FineT s.log e old_fine
          (at_queue (λ m σ. Fine (s.bench.steps + 1) l' (nodes_by e.queue l' m σ) e) e.queue
          (λ d. subst (λ (j : ℕ). Fine (s.bench.steps + 1) l' (nodes_by j l' m' σ') e) (sym x.on_queue)
          (subst (λ (k : List Entry). Fine (s.bench.steps + 1) k (nodes_by q l' m' σ') e) el x.fine))
          (λ d. absurd (d x.on_queue))),
      pairs_snoc Order s.log e h.order (new_order e x),
    )

    apart : (a b : ℕ) → a < processes f → b < processes f → (a ≡ b → ⊥) → past_b2 (seat t a).stage ≡ true → past_b2 (seat t b).stage ≡ true
        → (seat t a).b2 ≡ (seat t b).b2 → ⊥
    apart a b la lb ne =
        at_seat (λ σ. past_b2 σ.stage ≡ true → past_b2 (seat t b).stage ≡ true → σ.b2 ≡ (seat t b).b2 → ⊥) a
        (λ ea. at_seat (λ σ. past_b2 σ'.stage ≡ true → past_b2 σ.stage ≡ true → σ'.b2 ≡ σ.b2 → ⊥) b
        (λ eb. absurd (ne (ea ∙ sym eb)))
        (λ eb u v d. clash b lb eb v d (backs u)))
        (λ ea. at_seat (λ σ. past_b2 (seat s a).stage ≡ true → past_b2 σ.stage ≡ true → (seat s a).b2 ≡ σ.b2 → ⊥) b
        (λ eb u v d. clash a la ea u (sym d) (backs v))
        (λ eb. h.apart a b la lb ne))
      where
        clash : (b : ℕ) → b < processes f → (b ≡ q → ⊥) → past_b2 (seat s b).stage ≡ true → σ'.b2 ≡ (seat s b).b2
            → (σ'.b2 ≡ s.bench.steps) ⊎ ((past_b2 (seat s q).stage ≡ true) × (σ'.b2 ≡ (seat s q).b2)) → ⊥
        clash b lb e v d (inl u) = let lt = ((h.queues b lb).held v).late in omega arith
        clash b lb e v d (inr u) = h.apart q b k.placed.queue lb (λ c. e (sym c)) u.0 v (sym u.1 ∙ d)

    pub assemble : Inv f (acted p r s o)
    assemble =
        let lg = new_log l' refl turn.grow in
        let here : Inv f t = record {
          queues = λ j i. at_queue (λ m σ. SeatOk f.size (s.bench.steps + 1) j l' m σ) j
              (λ e. subst (λ (i : ℕ). SeatOk f.size (s.bench.steps + 1) i l' m' σ') (sym e) turn.own) (λ e. queue_else j i e);
          timed =
              λ j i. at_record (λ (a : Process). Timed (s.bench.steps + 1) j l' a) j (λ e. subst (λ (i : ℕ). Timed (s.bench.steps + 1) i l' r')
              (sym e) timed) (λ e. timed_else j i e);
          thieves = λ j i. at_record (λ (a : Process). ThiefOk f.size (s.bench.steps + 1) j l' (memory_at t (queue_of j a.call))
              (seat t (queue_of j a.call)) a) j
              (λ e. subst (λ (i : ℕ). ThiefOk f.size (s.bench.steps + 1) i l' (memory_at t (queue_of i r.call)) (seat t (queue_of i r.call)) r') (sym e)
              (at_queue (λ m σ. ThiefOk f.size (s.bench.steps + 1) p l' m σ r') q (λ d. self) (λ d. absurd (d refl))))
              (λ e. thief_else j i e);
          apart = apart;
          fine = lg.0;
          order = lg.1;
          written = written;
        } in
        subst (λ (l : List Entry). Inv f (record { bench = (acted p r s o).bench; slots = (acted p r s o).slots; log = l }))
        (sym (log_after_lem s.log (ending p r s.bench o.next))) here
