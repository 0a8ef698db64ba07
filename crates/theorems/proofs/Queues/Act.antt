-- A step of a process keeps the invariant of the whole, unless it is a gone-round take.
use Prim.Native.Nat.{ℕ, ◌+◌, ◌*◌, ◌≤◌, ◌<◌}
use mathlib.Core.Path.{◌≡◌, refl, sym, ap, ◌∙◌, subst}
use mathlib.Core.Bool.{Bool, true, false, cond}
use mathlib.Core.List.{List}
use mathlib.Core.Logic.{◌⊎◌, inl, inr}
use native.Mathlib.Omega.{arith}
use native.Mathlib.Decide.{dec_lt}
use lib.Dec.{leb}
use borrow.Author.Tests.{leb-true, lt-ltb, eq-eqb, ne_eqb}
use Rattle.call_log.specs.Numbers.{no_moment}
use Rattle.call_log.specs.declared.Entry.{Entry}
use Rattle.call_log.specs.declared.What.{What}
use Rattle.call_log.specs.declared.What.TheVariants.{Pushed, Full, BottomNode, BottomNil, TopNode, TopNil, TopLost}
use Rattle.word.specs.Stages.{row_number, is_idle, at_b2, past_b2, pops_slot}
use Rattle.steps.specs.Step.{loaded_slot, loaded, stage_after, Stepped}
use Rattle.steps.specs.declared.Next.{Next}
use Rattle.steps.specs.declared.Next.TheVariants as next
use Rattle.word.specs.declared.Stage.{Stage}
use Rattle.word.specs.declared.Stage.TheVariants.{Idle, P1, P2, P3, T1, T2, T3, T4, B1, B2, B3, B4, B5, B6, B7}
use Rattle.runfile.specs.declared.Call.{Call}
use Rattle.runfile.specs.declared.Call.TheVariants.{Push, Pop, Take}
use Rattle.runs.specs.Moment.{queue_of, pushed_node, is_take, entry, nil_moment, take_moment, gone_round}
use Rattle.runs.specs.State.{Process, State, queue_at, process_at}
use Rattle.runs.specs.Turn.{first_stage, begun, process_after, ending, acted}
use Rattle.base.proofs.Bools.{and_1, not_so, or_l}
use Rattle.base.proofs.Cases.{never, ever}
use Rattle.runs.proofs.KindLaws.{Within, within, first_quiet, own_queue, whose, Gives, gives}
use Rattle.runs.specs.Inner.Sound.{is_push, is_top, is_own, Sizes, Fit, processes, slots_at, Sound}
use Rattle.runs.proofs.Sound.{Was, goes, begins, Steps, row_at}
use Rattle.base.specs.Lists.{All}
use Rattle.base.proofs.Lists.{all_snoc, all_map}
use Rattle.theorems.proofs.Queue.Memory.{Memory, memory_at, memory_after, as_owner, as_popped, lim, first_lim, log_after}
use Rattle.theorems.proofs.Queue.Inv.{Control, QueueOk, Change, still, void, took, Edge, old, new, Grow, same, more, Turn, view, AtTop}
use Rattle.theorems.proofs.Queue.OwnerTurn.{owner_turn}
use Rattle.theorems.proofs.Queue.ThiefTurn.{thief_turn}
use Rattle.theorems.proofs.Queues.Whole.{Seat, seat_of, seat, SeatOk, ThiefOk, Timed, Fields, Written, Inv, old_log}
use Rattle.theorems.proofs.Queues.Assemble.{at_record, assemble}

-- a call that begins: the queue sees its first stage as it saw an idle owner
restart : (C n p q f : ℕ) (call : Call) (nd : ℕ) (l : List Entry) (m : Memory) (z : Stage) (k : ℕ) (l' : List Entry) (m' : Memory) (s' : Stage) (k' : ℕ)
    → past_b2 z ≡ false → lim m.word.bottom z ≡ m.word.bottom → Turn C n p q f call nd l m z k l' m' s' k'
    → Turn C n p q f call nd l m Idle k l' m' s' k'
restart C n p q f call nd l m z k l' m' s' k' ps li t = record {
  own = t.own;
  rely = record {
    calm =
        record {
          mono = t.rely.calm.mono;
          up = t.rely.calm.up;
          tag = t.rely.calm.tag;
          reach = λ e u a b. t.rely.calm.reach e u a (omega arith);
        };
    change = change t.rely.change;
    edge = λ a b c d. edge (t.rely.edge a b c d);
    kept = λ x i. t.rely.kept x i ∙ kk x;
  };
  grow = grow l' t.grow;
}
  where
    kk : (x : ℕ) → view q l m z k x ≡ view q l m Idle k x
    kk x = rw ps refl

    change : Change n p q m m' (view q l m z k) l' → Change n p q m m' (view q l m Idle k) l'
    change (still a b) = still a b
    change (void a) = void (sym (kk (2 * n)) ∙ a)
    change (took e a b c d g) = took e a b c d g

    edge : Edge n m z k m' k' (view q l m z k) → Edge n m Idle k m' k' (view q l m Idle k)
    edge (old a b c d e) = never (sym ps ∙ a)
    edge (new a b) = new a (sym (kk (2 * n)) ∙ b)

    clear : (e : Entry) → (2 * n ≤ e.moment) ⊎ ((past_b2 z ≡ true) × (2 * k ≤ e.moment) × (e.moment ≤ 2 * k + 1))
        → (2 * n ≤ e.moment) ⊎ ((past_b2 Idle ≡ true) × (2 * k ≤ e.moment) × (e.moment ≤ 2 * k + 1))
    clear e (inl a) = inl a
    clear e (inr a) = never (sym ps ∙ a.0)

    grow : (l'' : List Entry) → Grow n p q f call l z k (view q l' m' s' k') l'' → Grow n p q f call l Idle k (view q l' m' s' k') l''
    grow l'' same = same
    grow l'' (more e w) =
        more e (record {
          by_process = w.by_process;
          on_queue = w.on_queue;
          from_start = w.from_start;
          to_end = w.to_end;
          fine = w.fine;
          fresh = w.fresh;
          clear = λ b. clear e (w.clear b);
          node = w.node;
        })

-- an idle owner has no node
renode : (C n p q f : ℕ) (call : Call) (nd : ℕ) (l : List Entry) (m : Memory) (z : Stage) (k : ℕ) (l' : List Entry) (m' : Memory) (s' : Stage) (k' : ℕ)
    → as_owner s' ≡ s' → Turn C n p q f call nd l m z k l' m' s' k' → Turn C n p q f call (cond (is_own s') nd 0) l m z k l' m' s' k'
renode C n p q f call nd l m z k l' m' s' k' e t = by (is_own s') refl
  where
    by : (b : Bool) → is_own s' ≡ b → Turn C n p q f call (cond b nd 0) l m z k l' m' s' k'
    by true i = t
    by false i =
        let d : Idle ≡ s' = sym (ap (λ (b : Bool). cond b s' Idle) i) ∙ e in
        let c : Control C nd m' Idle = subst (Control C nd m') (sym d) t.own.ctl in
        record {
          own =
              record {
                ctl = subst (Control C 0 m') d (record { fits = c.fits; len = c.len; top_le = c.top_le; at = tt });
                now_on = t.own.now_on;
                held = t.own.held;
              };
          rely = t.rely;
          grow = t.grow;
        }

-- stages that are no top pop's
pub as_own : (z : Stage) → is_top z ≡ false → as_owner z ≡ z
as_own Idle e = refl
as_own (P1 x) e = refl
as_own (P2 x b) e = refl
as_own (P3 b) e = refl
as_own T1 e = ever e
as_own (T2 t g) e = ever e
as_own (T3 t g b) e = ever e
as_own (T4 t g b x) e = ever e
as_own B1 e = refl
as_own (B2 b) e = refl
as_own (B3 b) e = refl
as_own (B4 b x) e = refl
as_own (B5 b x t g) e = refl
as_own (B6 b x t g) e = refl
as_own (B7 b x t g) e = refl

at_owner : (C n p q f j : ℕ) (l : List Entry) (m : Memory) (s : Stage) (k : ℕ) (K : ℕ → List ℕ) (z : Stage) → is_top z ≡ false
    → AtTop C n p q f j l m s k K z
at_owner C n p q f j l m s k K Idle e = tt
at_owner C n p q f j l m s k K (P1 x) e = tt
at_owner C n p q f j l m s k K (P2 x b) e = tt
at_owner C n p q f j l m s k K (P3 b) e = tt
at_owner C n p q f j l m s k K T1 e = tt
at_owner C n p q f j l m s k K (T2 t g) e = ever e
at_owner C n p q f j l m s k K (T3 t g b) e = ever e
at_owner C n p q f j l m s k K (T4 t g b x) e = ever e
at_owner C n p q f j l m s k K B1 e = tt
at_owner C n p q f j l m s k K (B2 b) e = tt
at_owner C n p q f j l m s k K (B3 b) e = tt
at_owner C n p q f j l m s k K (B4 b x) e = tt
at_owner C n p q f j l m s k K (B5 b x t g) e = tt
at_owner C n p q f j l m s k K (B6 b x t g) e = tt
at_owner C n p q f j l m s k K (B7 b x t g) e = tt

-- the step of B2, of whoever is past it after a step
back_of : (z y : Stage) (n k : ℕ) → Within z y → past_b2 y ≡ true → (cond (at_b2 z) n k ≡ n) ⊎ ((past_b2 z ≡ true) × (cond (at_b2 z) n k ≡ k))
back_of z y n k w e = by (dec_lt 9 (row_number z))
  where
    by : Dec (9 < row_number z) → (cond (at_b2 z) n k ≡ n) ⊎ ((past_b2 z ≡ true) × (cond (at_b2 z) n k ≡ k))
    by (yes lt) = inr (lt-ltb 9 (row_number z) lt, ap (λ (b : Bool). cond b n k) (ne_eqb (row_number z) 9 (omega arith)))
    by (no ge) = inl (ap (λ (b : Bool). cond b n k) (eq-eqb (row_number z) 9 (omega (arith, leb-true 9 (row_number z) (w.b2 e)))))

module _ (f : Sizes) (w : Fit f) (s : State) (v : Sound f s) (h : Inv f s) (p : ℕ) (r : Process) (k : Steps f s p r) where
  abbrev q : ℕ
  q = queue_of p r.call

  abbrev n : ℕ
  n = s.bench.steps

  abbrev m : Memory
  m = memory_at s q

  abbrev o : Stepped
  o = row_at f s p r

  abbrev z' : Stage
  z' = stage_after o.next

  abbrev r' : Process
  r' = process_after n m.resets r o.next

  abbrev l' : List Entry
  l' = log_after s.log (ending p r s.bench o.next)

  inside : Within r.stage (stage_after (row_at f s p r).next)
  inside = within f.width f.size (queue_at s.bench q).word (loaded (slots_at s q) (loaded_slot r.stage)) r.stage

  -- the record that steps
  was_timed : (r : Process) → Was f s p r → Timed n p s.log r
  was_timed r goes = h.timed p k.below
  was_timed r (begins call _) =
      record {
        begun = omega arith;
        back_after = λ e. never (sym (first_quiet call) ∙ e);
        since = λ _. all_map _ _ (λ e g d. g.ended) s.log h.fine;
      }

  timed : Timed n p s.log r
  timed = was_timed r k.was

  timed_after : Timed (n + 1) p l' r'
  timed_after =
      record {
        begun = omega (arith, timed.begun);
        back_after = λ e. later e (back_of r.stage z' n r.b2 inside e);
        since = λ e. kept o.next e;
      }
    where
      later : past_b2 (stage_after (row_at f s p r).next) ≡ true
          → (cond (at_b2 r.stage) s.bench.steps r.b2 ≡ s.bench.steps) ⊎
          ((past_b2 r.stage ≡ true) × (cond (at_b2 r.stage) s.bench.steps r.b2 ≡ r.b2))
          → r.start ≤ cond (at_b2 r.stage) s.bench.steps r.b2
      later e (inl d) = omega (arith, d, timed.begun)
      later e (inr d) = omega (arith, d.1, timed.back_after d.0)

      kept : (x : Next) → is_idle (stage_after x) ≡ false
          → All (λ (e : Entry). e.process ≡ p → e.end < r.start) (log_after s.log (ending p r s.bench x))
      kept (next.Going z) e = timed.since k.busy
      kept next.Done e = ever e
      kept (next.Node x) e = ever e
      kept next.Nil e = ever e
      kept next.Lost e = ever e
      kept next.Full e = ever e

  -- rule 1 of a new entry
  push_owns : is_push r.stage ≡ true → queue_of p r.call ≡ p
  push_owns e = own_queue p r.call (k.placed.suits.own (or_l (is_push r.stage) (leb 8 (row_number r.stage)) e))

  wrote : (d : What) (x t : ℕ) → Fields d (entry p n r d x t) → Written (processes f) (entry p n r d x t)
  wrote d x t g = record { process = k.below; queue = k.placed.queue; did = d; kind = refl; result = refl; fields = g }

  node_written : (owner : Process) (t x : ℕ) (b : Bool) → is_take r.call ≡ b
      → Written (processes f) (cond b (entry p n r TopNode x (take_moment n owner t)) (entry p n r BottomNode x (2 * r.b2)))
  node_written owner t x true e = wrote TopNode x (take_moment n owner t) tt
  node_written owner t x false e = wrote BottomNode x (2 * r.b2) (own_queue p r.call e)

  nil_written : (b : Bool) → is_take r.call ≡ b
      → Written (processes f) (cond b (entry p n r TopNil 0 no_moment) (entry p n r BottomNil 0 (nil_moment n r)))
  nil_written true e = wrote TopNil 0 no_moment (refl, refl)
  nil_written false e = wrote BottomNil 0 (nil_moment n r) (own_queue p r.call e, refl)

  written_after : (x : Next) → Gives r.stage x → All (Written (processes f)) (log_after s.log (ending p r s.bench x))
  written_after (next.Going z) g = h.written
  written_after next.Done g = all_snoc _ s.log _ h.written (wrote Pushed (pushed_node r.call) (2 * n) (push_owns g))
  written_after (next.Node x) g =
      all_snoc _ s.log _ h.written (node_written (process_at s.bench q) (queue_at s.bench q).word.top x (is_take r.call) refl)
  written_after next.Nil g = all_snoc _ s.log _ h.written (nil_written (is_take r.call) refl)
  written_after next.Lost g = all_snoc _ s.log _ h.written (wrote TopLost 0 no_moment (refl, refl))
  written_after next.Full g = all_snoc _ s.log _ h.written (wrote Full (pushed_node r.call) no_moment (push_owns g, refl))

  written : All (Written (processes f)) l'
  written =
      written_after o.next (gives f.width f.size (queue_at s.bench q).word (loaded (slots_at s q) (loaded_slot r.stage)) r.stage)

  -- THE OWNER
  abbrev pub mine : Process → Seat
  mine r = record { stage = r.stage; b2 = r.b2; node = pushed_node r.call }

  own_seat : (r : Process) → is_own r.stage ≡ true → seat_of r ≡ mine r
  own_seat r i = λ j. record { stage = cond (i j) r.stage Idle; b2 = r.b2; node = cond (i j) (pushed_node r.call) 0 }

  module _ (i : is_own r.stage ≡ true) where
    no_take : is_take r.call ≡ false
    no_take = k.placed.suits.own i

    pub here : queue_of p r.call ≡ p
    here = own_queue p r.call no_take

    abbrev OwnOk : Process → Type 0
    OwnOk r = SeatOk f.size n p s.log (memory_at s p) (mine r)

    pub own_ok : (r : Process) → Was f s p r → is_own r.stage ≡ true → OwnOk r
    own_ok r goes i = subst (λ (σ : Seat). SeatOk f.size n p s.log (memory_at s p) σ) (own_seat r i) (h.queues p k.below)
    own_ok r (begins call z) i = first call i
      where
        idle_ok : QueueOk f.size s.bench.steps 0 s.log (memory_at s p) Idle (process_at s.bench p).b2
            (view p s.log (memory_at s p) Idle (process_at s.bench p).b2)
        idle_ok =
            subst
            (λ (x : Stage). QueueOk f.size s.bench.steps (cond (is_own x) (pushed_node (process_at s.bench p).call) 0) s.log (memory_at s p)
            (as_owner x) (process_at s.bench p).b2
            (view p s.log (memory_at s p) (as_owner x) (process_at s.bench p).b2)) z (h.queues p k.below)

        first : (call : Call) → is_own (first_stage call) ≡ true
            → SeatOk f.size s.bench.steps p s.log (memory_at s p) (mine (begun s.bench.steps call (process_at s.bench p)))
        first (Push node) i =
            let c = idle_ok.ctl in record {
              ctl = record { fits = c.fits; len = c.len; top_le = c.top_le; at = refl };
              now_on = idle_ok.now_on;
              held = never;
            }
        first Pop i =
            let c = idle_ok.ctl in record {
              ctl = record { fits = c.fits; len = c.len; top_le = c.top_le; at = tt };
              now_on = idle_ok.now_on;
              held = never;
            }
        first (Take q) i = never i

    -- before the step the queue saw its owner so, or idle where the call begins
    turn_was : (r : Process) → Was f s p r → is_own r.stage ≡ true → (q : ℕ) → q ≡ p
        → (a : ℕ) (call : Call) (nd : ℕ) (l' : List Entry) (m' : Memory) (s' : Stage) (k' : ℕ)
        → Turn f.size n p q a call nd s.log (memory_at s q) r.stage r.b2 l' m' s' k'
        → Turn f.size n p q a call nd s.log (memory_at s q) (seat s q).stage (seat s q).b2 l' m' s' k'
    turn_was r goes i q e a call nd l' m' s' k' t =
        subst (λ (σ : Seat). Turn f.size n p q a call nd s.log (memory_at s q) σ.stage σ.b2 l' m' s' k')
        (sym (ap (λ (j : ℕ). seat s j) e ∙ own_seat r i)) t
    turn_was r (begins c z) i q e a call nd l' m' s' k' t =
        subst (λ (x : Stage). Turn f.size n p q a call nd s.log (memory_at s q) x (seat s q).b2 l' m' s' k')
        (sym (ap (λ (j : ℕ). (seat s j).stage) e ∙ ap as_owner z))
        (subst (λ (x : ℕ). Turn f.size n p q a call nd s.log (memory_at s q) Idle x l' m' s' k') (sym (ap (λ (j : ℕ). (seat s j).b2) e))
        (restart f.size n p q a call nd s.log (memory_at s q) (first_stage c) (process_at s.bench p).b2 l' m' s' k' (first_quiet c)
        (first_lim c (memory_at s q).word.bottom) t))

    back_was : (r : Process) → Was f s p r → is_own r.stage ≡ true → (q : ℕ) → q ≡ p → (x : ℕ)
        → (x ≡ n) ⊎ ((past_b2 r.stage ≡ true) × (x ≡ r.b2))
        → (x ≡ n) ⊎ ((past_b2 (seat s q).stage ≡ true) × (x ≡ (seat s q).b2))
    back_was r a i q e x (inl d) = inl d
    back_was r goes i q e x (inr d) =
        let u : seat s q ≡ mine r = ap (λ (j : ℕ). seat s j) e ∙ own_seat r i in
        inr (ap (λ (σ : Seat). past_b2 σ.stage) u ∙ d.0, d.1 ∙ sym (ap (λ (σ : Seat). σ.b2) u))
    back_was r (begins c z) i q e x (inr d) = never (sym (first_quiet c) ∙ d.0)

    pub no_top : is_top z' ≡ false
    no_top = not_so (is_top z') (λ e. ever (sym (k.placed.suits.top (inside.top e)) ∙ no_take))

    own_act : Inv f (acted p r s o)
    own_act =
        let nd : ℕ = pushed_node r.call in
        let seen : as_owner z' ≡ z' = as_own z' no_top in
        let ok = subst (λ (j : ℕ). SeatOk f.size n j s.log (memory_at s j) (mine r)) (sym here) (own_ok r k.was i) in
        let t₁ = owner_turn f.width f.size n p r.call r.next r.stop r.start r.b2 r.resets_at_t1 (process_at s.bench q) m.word.top no_take
        s.log m (old_log f s h) timed.begun
        r.stage i k.placed.suits.push timed.back_after ok in
        let t₂ = turn_was r k.was i q here r.start r.call nd l' (memory_after m o) z' r'.b2 t₁ in
        let t₃ =
        renode f.size n p q r.start r.call nd s.log m (seat s q).stage (seat s q).b2 l' (memory_after m o) z' r'.b2 seen t₂ in
        let t₄ = subst (λ (x : Stage). Turn f.size n p q r.start r.call (cond (is_own z') nd 0) s.log m (seat s q).stage (seat s q).b2 l'
        (memory_after m o) x r'.b2) (sym seen) t₃ in
        assemble f w s v h p r k (seat_of r')
        (at_record f w s v h p r k (λ (a : Process). seat_of a ≡ seat_of r') q (λ e. refl) (λ e. absurd (e here)))
        (λ j ne. at_record f w s v h p r k (λ (a : Process). seat_of a ≡ seat s j) j (λ e. absurd (ne (e ∙ sym here))) (λ e. refl))
        t₄
        (λ e. back_was r k.was i q here r'.b2 (back_of r.stage z' n r.b2 inside (ap past_b2 (sym seen) ∙ e)))
        (at_owner _ _ _ _ _ _ _ _ _ _ _ z' no_top)
        timed_after
        (timed.since k.busy)
        written

  -- A TOP POP
  module _ (i : is_own r.stage ≡ false) where
    pub top : is_top r.stage ≡ true
    top = whose r.stage k.busy i

    pub take : is_take r.call ≡ true
    take = k.placed.suits.top top

    pub thief_ok : (r : Process) → Was f s p r → ThiefOk f.size n p s.log (memory_at s (queue_of p r.call)) (seat s (queue_of p r.call)) r
    thief_ok r goes = h.thieves p k.below
    thief_ok r (begins call _) = first call
      where
        first : (call : Call)
            → ThiefOk f.size s.bench.steps p s.log (memory_at s (queue_of p call)) (seat s (queue_of p call))
            (begun s.bench.steps call (process_at s.bench p))
        first (Push node) = tt
        first Pop = tt
        first (Take q) = tt

    -- its own queue sees it idle, before and after
    hidden : (z : Stage) (b nd : ℕ) → is_own z ≡ false → ◌≡◌ {A = Seat} (record { stage = as_owner z; b2 = b; node = cond (is_own z) nd 0 })
        (record { stage = Idle; b2 = b; node = 0 })
    hidden z b nd e = λ j. record { stage = cond (e j) z Idle; b2 = b; node = cond (e j) nd 0 }

    seat_was : (r : Process) → Was f s p r → is_own r.stage ≡ false → seat s p ≡ record { stage = Idle; b2 = r.b2; node = 0 }
    seat_was r goes e = hidden r.stage r.b2 (pushed_node r.call) e
    seat_was r (begins call z) e =
        hidden (process_at s.bench p).stage (process_at s.bench p).b2 (pushed_node (process_at s.bench p).call) (ap is_own z)

    not_own : is_own z' ≡ false
    not_own = not_so (is_own z') (λ e. ever (sym (inside.own e) ∙ i))

    back_same : r'.b2 ≡ r.b2
    back_same = ap (λ (b : Bool). cond b n r.b2) (not_B2 r.stage top)
      where
        not_B2 : (z : Stage) → is_top z ≡ true → at_b2 z ≡ false
        not_B2 z e =
            ne_eqb (row_number z) 9 (λ d. let x = leb-true (row_number z) 7 (and_1 (leb 4 (row_number z)) (leb (row_number z) 7) e) in omega arith)

    pub seats : (j : ℕ) → seat (acted p r s o) j ≡ seat s j
    seats j = at_record f w s v h p r k (λ (a : Process). seat_of a ≡ seat s j) j
        (λ e. hidden z' r'.b2 (pushed_node r.call) not_own ∙ ap (λ (b : ℕ). record { stage = Idle; b2 = b; node = 0 }) back_same ∙ sym
        (seat_was r k.was i) ∙ ap (λ (x : ℕ). seat s x) (sym e))
        (λ e. refl)

    thief_act : gone_round r m.resets o.next ≡ 0 → Inv f (acted p r s o)
    thief_act gone =
        let σ : Seat = seat s q in
        let owner : Process = process_at s.bench q in
        let credit : take_moment n owner m.word.top ≡ cond (pops_slot σ.stage m.word.top) (2 * σ.b2) (2 * n) =
        ap (λ (b : Bool). cond b (2 * owner.b2) (2 * n)) (sym (as_popped owner.stage m.word.top)) in
        let t₁ = thief_turn f.width f.size n p r.call r.next r.stop r.start r.b2 r.resets_at_t1 owner take σ.node s.log m σ.stage
        σ.b2 credit (old_log f s h) timed.begun
        (h.queues q k.placed.queue) r.stage top (thief_ok r k.was) gone in
        assemble f w s v h p r k σ (seats q) (λ j ne. seats j) t₁.turn (λ e. inr (e, refl)) t₁.self timed_after (timed.since k.busy) written

  pub act_ok : gone_round r (queue_at s.bench (queue_of p r.call)).resets (row_at f s p r).next ≡ 0 → Inv f (acted p r s (row_at f s p r))
  act_ok gone = by (is_own r.stage) refl
    where
      by : (b : Bool) → is_own r.stage ≡ b → Inv f (acted p r s (row_at f s p r))
      by true i = own_act i
      by false i = thief_act i gone
