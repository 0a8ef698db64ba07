-- A step of a top pop.
use Prim.Native.Nat.{ℕ, suc, ◌+◌, ◌-◌, ◌*◌, ◌≤◌, ◌<◌}
use mathlib.Core.Path.{◌≡◌, refl, sym, ap, ◌∙◌, subst}
use mathlib.Core.Bool.{Bool, true, false, cond, ◌&&◌, not}
use mathlib.Core.List.{List, [], ◌∷◌, ◌++◌}
use mathlib.Core.Option.{none, some}
use mathlib.Core.Logic.{inl, inr}
use native.Mathlib.Omega.{arith}
use native.Mathlib.Numerals.{add-one}
use lib.Dec.{eqb}
use lib.ListN.{get_or}
use lib.Seq.{slice, slice-cons}
use borrow.Author.Tests.{eq-eqb, ne_eqb, lt-ltb, le-ltb, eqb-true, eqb-false}
use Rattle.call_log.specs.Numbers.{no_moment, kind_of, result_of, bears_moment, what_of, is_top_nil}
use Rattle.call_log.specs.declared.Entry.{Entry}
use Rattle.call_log.specs.declared.What.{What}
use Rattle.call_log.specs.declared.What.TheVariants.{Pushed, TopNode, TopNil, TopLost}
use Rattle.word.specs.Stages.{past_b2, first_loaded, pops_slot, at_t1}
use Rattle.steps.specs.Step.{age_to, stage_after, Stepped}
use Rattle.word.specs.declared.Stage.{Stage}
use Rattle.word.specs.declared.Stage.TheVariants.{Idle, P1, P2, P3, T1, T2, T3, T4, B1, B2, B3, B4, B5, B6, B7}
use Rattle.runfile.specs.declared.Call.{Call}
use Rattle.runs.specs.State.{Process}
use Rattle.runs.specs.Moment.{queue_of, is_take, entry, take_moment, ended, gone_round}
use Rattle.rules.specs.Contents.{bears, drop_first, applied}
use Rattle.base.proofs.Cases.{never, ever, if_le}
use Rattle.theorems.proofs.Queue.Cases.{if_age, top_nil_lem}
use Rattle.runs.specs.Inner.Sound.{is_top}
use Rattle.base.proofs.Lists.{in_last, in_snoc}
use Rattle.theorems.proofs.Queue.Lists.{slice_none}
use Rattle.theorems.proofs.Queue.Content.{is_at, content, content_suc, add_none, add_past, swap}
use Rattle.theorems.proofs.Queue.Memory.{Memory, row_in, memory_after, with_top, lim, until, lim_past, log_after}
use Rattle.theorems.proofs.Queue.Inv.{Control, QueueOk, Cause, Right, Calm, still, void, took, old, same, more, Turn, view, pending, AtTop}
use Rattle.theorems.proofs.Queue.Inv.{Seen, Reach, Why, hit, age}
use Rattle.theorems.proofs.Queue.Keeps.{cause_keeps, cause_now}
use Rattle.theorems.proofs.Queue.OwnerTurn.{Old, free_snoc, held_keep, event_on, new_entry}

-- what is known of the limit
pub record Bounds (C : ℕ) (m : Memory) (s : Stage) : Type 0 where
  pub lim_le : lim m.word.bottom s ≤ C
  pub bottom_le : m.word.bottom ≤ lim m.word.bottom s
  pub gap : past_b2 s ≡ true → m.word.bottom < lim m.word.bottom s
  -- no node where the bottom is at or below the top
  pub none_left : m.word.bottom ≤ m.word.top → until m.word.bottom s ≤ m.word.top
  pub lim_until : past_b2 s ≡ true → lim m.word.bottom s ≡ until m.word.bottom s + 1
  pub until_lim : past_b2 s ≡ false → lim m.word.bottom s ≡ until m.word.bottom s

at_bottom : (C : ℕ) (m : Memory) (s : Stage) → past_b2 s ≡ false → lim m.word.bottom s ≡ m.word.bottom → m.word.bottom ≤ C → Bounds C m s
at_bottom C m s e l h = record {
  lim_le = omega arith;
  bottom_le = omega arith;
  gap = λ d. never (sym e ∙ d);
  none_left = λ d. rw e d;
  lim_until = λ d. never
      (sym e ∙ d);
  until_lim = λ d. rw e l;
}

above_bottom : (C : ℕ) (m : Memory) (s : Stage) → past_b2 s ≡ true → m.word.bottom < lim m.word.bottom s → lim m.word.bottom s ≤ C
    → (m.word.bottom ≤ m.word.top → lim m.word.bottom s - 1 ≤ m.word.top) → Bounds C m s
above_bottom C m s e l h n = record {
  lim_le = h;
  bottom_le = omega arith;
  gap = λ d. l;
  none_left = λ d. rw e (n d);
  lim_until = λ d. rw e
      (omega arith);
  until_lim = λ d. ever (sym e ∙ d);
}

pub bounds : (C nd : ℕ) (m : Memory) (s : Stage) → Control C nd m s → Bounds C m s
bounds C nd m Idle h = at_bottom C m Idle refl refl h.fits
bounds C nd m (P1 n) h = at_bottom C m (P1 n) refl refl h.fits
bounds C nd m (P2 n b) h = at_bottom C m (P2 n b) refl refl h.fits
bounds C nd m (P3 b) h = at_bottom C m (P3 b) refl refl h.fits
bounds C nd m T1 h = absurd h.at
bounds C nd m (T2 t g) h = absurd h.at
bounds C nd m (T3 t g b) h = absurd h.at
bounds C nd m (T4 t g b x) h = absurd h.at
bounds C nd m B1 h = at_bottom C m B1 refl refl h.fits
bounds C nd m (B2 b) h = at_bottom C m (B2 b) refl refl h.fits
bounds C nd m (B3 b) h = above_bottom C m (B3 b) refl (omega arith) (omega arith) (λ e. omega arith)
bounds C nd m (B4 b x) h = above_bottom C m (B4 b x) refl (omega arith) (omega arith) (λ e. omega arith)
bounds C nd m (B5 b x t g) h = above_bottom C m (B5 b x t g) refl (omega arith) (omega arith) (λ e. omega arith)
bounds C nd m (B6 b x t g) h = above_bottom C m (B6 b x t g) refl (omega arith) (omega arith) (λ e. omega arith)
bounds C nd m (B7 b x t g) h = above_bottom C m (B7 b x t g) refl (omega arith) (omega arith) (λ e. omega arith)

-- the owner under a taking of the top
pub under : (C nd : ℕ) (m : Memory) (v : ℕ) (s : Stage) → m.word.top ≤ v → v ≤ lim m.word.bottom s → Control C nd m s
    → Control C nd (with_top m v) s
under C nd m v Idle i j h = omega arith
under C nd m v (P1 n) i j h = omega arith
under C nd m v (P2 n b) i j h = omega arith
under C nd m v (P3 b) i j h = omega arith
under C nd m v T1 i j h = absurd h.at
under C nd m v (T2 t g) i j h = absurd h.at
under C nd m v (T3 t g b) i j h = absurd h.at
under C nd m v (T4 t g b x) i j h = absurd h.at
under C nd m v B1 i j h = omega arith
under C nd m v (B2 b) i j h = omega arith
under C nd m v (B3 b) i j h = omega arith
under C nd m v (B4 b x) i j h = omega arith
under C nd m v (B5 b x t g) i j h = omega arith
under C nd m v (B6 b x t g) i j h = omega arith
under C nd m v (B7 b x t g) i j h = omega arith

pub calm_refl : (m : Memory) (s : Stage) → Calm m s m s
calm_refl m s = record { mono = omega arith; up = omega arith; tag = λ e. refl; reach = λ e t a b. (b, refl) }

nil_not : TopNil ≡ Pushed → ⊥
nil_not e = let z : ◌≡◌ {A = ℕ} 0 1 = cc in omega arith

lost_not : TopLost ≡ Pushed → ⊥
lost_not e = let z : ◌≡◌ {A = ℕ} 0 1 = cc in omega arith

node_not : TopNode ≡ Pushed → ⊥
node_not e = let z : ◌≡◌ {A = ℕ} 0 1 = cc in omega arith

no_lt : (a b : ℕ) → a < b → b ≤ a → ⊥
no_lt a b h i = omega arith

no_suc : (t u : ℕ) → u ≡ t → t + 1 ≡ u → ⊥
no_suc t u a b = omega arith

pub not_gone : (a b : ℕ) → ◌≡◌ {A = ℕ} (cond (not (eqb a b)) 1 0) 0 → a ≡ b
not_gone a b = by (eqb a b) refl
  where
    by : (t : Bool) → eqb a b ≡ t → ◌≡◌ {A = ℕ} (cond (not t) 1 0) 0 → a ≡ b
    by true e z = eqb-true a b e
    by false e z = absurd (let y : ◌≡◌ {A = ℕ} 1 0 = z in omega arith)

pub record TurnT (C n p q f : ℕ) (call : Call) (nd' j : ℕ) (l : List Entry) (m : Memory) (s : Stage) (k : ℕ) (l' : List Entry) (m' : Memory)
    (z' : Stage) : Type 0 where
  pub turn : Turn C n p q f call nd' l m s k l' m' s k
  pub self : AtTop C (n + 1) p q f j l' m' s k (view q l' m' s k) z'

-- process p at the step n, in a top pop begun at f; s is the stage of the queue's owner, k its B2, and nd' its node
module _ (W C n p : ℕ) (call : Call) (place stop f back seen : ℕ) (owner : Process) (take : is_take call ≡ true) (nd' : ℕ) (l : List Entry)
    (m : Memory) (s : Stage)
    (k : ℕ)
    (credit : take_moment n owner m.word.top ≡ cond (pops_slot s m.word.top) (2 * k) (2 * n)) (o : Old n l) (f-le : f ≤ n)
    (h : QueueOk C n nd' l m s k (view (queue_of p call) l m s k)) where
  abbrev q : ℕ
  q = queue_of p call

  abbrev at : Stage → Process
  at z = record { stage = z; call = call; next = place; stop = stop; start = f; b2 = back; resets_at_t1 = seen }

  bd : Bounds C m s
  bd = bounds C nd' m s h.ctl

  -- a step that changes nothing and ends no call
  rest_step : (j : ℕ) (z' : Stage) → AtTop C (n + 1) p q f j l m s k (view q l m s k) z' → TurnT C n p q f call nd' j l m s k l m z'
  rest_step j z' v =
      record {
        turn = record {
          own = record {
            ctl = h.ctl;
            now_on = λ x g. h.now_on x (omega arith);
            held =
                λ e. held_keep n l m s k (view q l m s k) l m s (view q l m s k) (λ x g. refl) refl refl (λ g. g) (λ g. g) (λ d g. g) (λ d g. g)
                (h.held e);
          };
          rely = record { calm = calm_refl m s; change = still refl refl; edge = λ e d g y. old g y refl (h.held g).late refl; kept = λ x g. refl };
          grow = same;
        };
        self = v;
      }

  -- NIL, at T2 or at T4
  nil_step : (did : What) → is_top_nil did ≡ true → (j : ℕ) (z : Stage) → Cause l (view q l m s k) p q f (2 * n)
      → TurnT C n p q f call nd' j l m s k (l ++ (entry p n (at z) did 0 no_moment ∷ [])) m Idle
  nil_step did nil j z w =
      let e : Entry = entry p n (at z) did 0 no_moment in
      let silent : bears e ≡ false = top_nil_lem (λ (a : What). bears_moment (what_of (kind_of a) (result_of a)) ≡ false) refl refl did nil in
      let kp : (x : ℕ) → content (l ++ (e ∷ [])) q (pending m s k) x ≡ view q l m s k x = add_none l e q (pending m s k)
      (λ c. top_nil_lem (λ (a : What). applied (what_of (kind_of a) (result_of a)) 0 c ≡ c) refl refl did nil) in
      let cause = cause_keeps l (view q l m s k) (l ++ (e ∷ [])) (view q (l ++ (e ∷ [])) m s k) p q f (2 * n) (2 * n + 2)
      (λ d i. in_snoc l e d i) (λ x g. kp x) (omega arith) w in
      record {
        turn = record {
          own = record {
            ctl = h.ctl;
            now_on = λ x g. kp x ∙ h.now_on x (omega arith);
            held =
                λ d. held_keep n l m s k (view q l m s k) (l ++ (e ∷ [])) m s (view q (l ++ (e ∷ [])) m s k) (λ x g. kp x) refl refl (λ g. g) (λ g. g)
                (λ d g. free_snoc l e (2 * k) g (λ u. never (sym silent ∙ u)))
                (λ d g. free_snoc l e (suc (2 * k)) g (λ u. never (sym silent ∙ u))) (h.held d);
          };
          rely = record { calm = calm_refl m s; change = still refl refl; edge = λ e d g y. old g y refl (h.held g).late refl; kept = λ x g. kp x };
          grow = more e (new_entry (at z) did 0 no_moment f-le (λ d. never (sym silent ∙ d)) (λ d. never (sym silent ∙ d))
              (top_nil_lem (λ (a : What). Right (l ++ (e ∷ [])) (view q (l ++ (e ∷ [])) m s k) e (what_of (kind_of a) (result_of a))) cause cause did nil)
              (λ d. never (sym silent ∙ d)) (λ d. never (sym silent ∙ d))
              (λ d. absurd (top_nil_lem (λ (a : What). what_of (kind_of a) (result_of a) ≡ Pushed → ⊥) nil_not lost_not did nil d)));
        };
        self = tt;
      }

  -- why T2 may return NIL, and T4
  why_T2 : (j t : ℕ) → f < n → m.word.bottom ≤ t → Why n p q f j t l m (view q l m s k) → Cause l (view q l m s k) p q f (2 * n)
  why_T2 j t i e (hit c) = c
  why_T2 j t i e (age c d) =
      cause_now l (view q l m s k) p q f n i (h.now_on (2 * n) (omega arith) ∙ slice_none m.word.top (until m.word.bottom s)
      m.slots (bd.none_left (omega arith)))

  why_T4 : (j t : ℕ) → (j ≡ m.resets → m.word.top ≡ t → ⊥) → Why n p q f j t l m (view q l m s k) → Cause l (view q l m s k) p q f (2 * n)
  why_T4 j t e (hit c) = c
  why_T4 j t e (age c d) = absurd (e c d)

  abbrev won : ℕ → ℕ → Stage → Entry
  won c x z = entry p n (at z) TopNode x (2 * c)

  -- the last node, of an owner past B2: the moment is that B2's
  last_node : (j t x : ℕ) (z : Stage) → m.word.top ≡ t → past_b2 s ≡ true → lim m.word.bottom s ≡ t + 1 → j ≡ m.resets
      → Reach C f j t m s k (view q l m s k)
      → get_or m.slots t 0 ≡ x
      → TurnT C n p q f call nd' j l m s k (l ++ (won k x z ∷ [])) (with_top m (t + 1)) Idle
  last_node j t x z e ps li je r g =
      let b = bd in
      let w = h.held ps in
      let ct = h.ctl in
      let y : Entry = won k x z in
      let v = r.last je e ps li in
      let pd : pending m s k ≡ some k = rw (ps, lt-ltb m.word.top (lim m.word.bottom s) (omega arith)) refl in
      let pd' : pending (with_top m (t + 1)) s k ≡ none = rw (ps, le-ltb (t + 1) (lim m.word.bottom s) (omega arith)) refl in
      let at-k : content l q (some k) (2 * k) ≡ x ∷ [] = ap (λ a. content l q a (2 * k)) (sym pd) ∙ v.1 ∙ ap (λ (a : ℕ). a ∷ []) g in
      let sw : (i : ℕ) → content (l ++ (y ∷ [])) q none i ≡ content l q (some k) i =
      swap l y q k refl refl refl (w.free (omega arith)) (rw at-k refl) in
      let kp : (i : ℕ) → view q (l ++ (y ∷ [])) (with_top m (t + 1)) s k i ≡ view q l m s k i = λ i. rw (pd, pd') (sw i) in
      let em : slice m.word.top (until m.word.bottom s) m.slots ≡ [] = slice_none m.word.top (until m.word.bottom s) m.slots
      (omega (arith, b.lim_until ps)) in
      record {
        turn = record {
          own = record {
            ctl = under C nd' m (t + 1) s (omega arith) (omega arith) ct;
            now_on =
                λ i d. kp i ∙ h.now_on i (omega arith) ∙ em
                ∙ sym (slice_none (t + 1) (until m.word.bottom s) m.slots (omega (arith, b.lim_until ps)));
            held = λ d. record {
              late = omega (arith, w.late);
              mine = λ i. absurd (no_lt (t + 1) _ i (omega arith));
              free = λ i. absurd (no_lt (t + 1) _ i (omega arith));
              gave = λ i. kp (suc (2 * k)) ∙ ap (λ a. content l q a (suc (2 * k))) pd ∙ content_suc l q (some k) (2 * k) ∙ rw
                  (eq-eqb (2 * k) (2 * k) refl, at-k) refl;
              free1 = free_snoc l y (suc (2 * k)) w.free1 (λ a b. omega arith);
            };
          };
          rely = record {
            calm = omega arith;
            change = void (h.now_on (2 * n) (omega arith) ∙ em);
            edge = λ a d. absurd (no_suc t m.word.top e d);
            kept = λ i d. kp i;
          };
          grow = more y (new_entry (at z) TopNode x (2 * k) f-le
              (λ d. omega (arith, v.0)) (λ d. omega (arith, w.late)) ([], kp (2 * k) ∙ v.1 ∙ ap (λ (a : ℕ). a ∷ []) g) (λ d. w.free (omega arith))
              (λ d. inr (ps, omega arith, omega arith)) (λ d. absurd (node_not d)));
        };
        self = tt;
      }

  -- any other: the moment is this step's
  top_node : (j t x : ℕ) (z : Stage) → m.word.top ≡ t → t < until m.word.bottom s → get_or m.slots t 0 ≡ x
      → (ps : Bool) → past_b2 s ≡ ps → TurnT C n p q f call nd' j l m s k (l ++ (won n x z ∷ [])) (with_top m (t + 1)) Idle
  top_node j t x z e lo g ps ep =
      let b = bd in
      let ct = h.ctl in
      let y : Entry = won n x z in
      let li = until_le ps ep in
      let pd : pending (with_top m (t + 1)) s k ≡ pending m s k = pends ps ep in
      let kp : (i : ℕ) → i ≤ 2 * n → view q (l ++ (y ∷ [])) (with_top m (t + 1)) s k i ≡ view q l m s k i = λ i d. rw pd
      (add_past l y q (pending m s k) (2 * n) refl i d) in
      let sl : slice m.word.top (until m.word.bottom s) m.slots ≡ x ∷ slice (t + 1) (until m.word.bottom s) m.slots
      = rw (e, slice-cons t (until m.word.bottom s) m.slots 0 lo (omega arith), g, add-one) refl in
      record {
        turn = record {
          own = record {
            ctl = under C nd' m (t + 1) s (omega arith) (omega arith) ct;
            now_on =
                λ i d. rw pd
                (event_on n q l y (pending m s k) o (off ps ep) refl refl refl i d ∙ ap drop_first (h.now_on (2 * n) (omega arith) ∙ sl));
            held =
                λ d. held_keep n l m s k (view q l m s k) (l ++ (y ∷ [])) (with_top m (t + 1)) s
                (view q (l ++ (y ∷ [])) (with_top m (t + 1)) s k) kp refl refl
                (λ a. omega arith)
                (λ a. absurd (no_lt (t + 1) (lim m.word.bottom s) (omega (arith, b.lim_until d)) a))
                (λ a c. free_snoc l y (2 * k) c (λ u v. omega arith)) (λ a c. free_snoc l y (suc (2 * k)) c (λ u v. omega arith)) (h.held d);
          };
          rely = record {
            calm = omega arith;
            change = took y (in_last l y) refl refl refl refl;
            edge = λ a d. absurd (no_suc t m.word.top e d);
            kept = kp;
          };
          grow = more y (new_entry (at z) TopNode x (2 * n) f-le
              (λ d. omega arith) (λ d. omega arith)
              (slice (t + 1) (until m.word.bottom s) m.slots, kp (2 * n) (omega arith) ∙ h.now_on (2 * n) (omega arith) ∙ sl)
              (λ d. o (2 * n) (omega arith)) (λ d. inl (omega arith)) (λ d. absurd (node_not d)));
        };
        self = tt;
      }
    where
      until_le : (ps : Bool) → past_b2 s ≡ ps → until m.word.bottom s ≤ lim m.word.bottom s
      until_le true d = omega (arith, bd.lim_until d)
      until_le false d = omega (arith, bd.until_lim d)

      off : (ps : Bool) → past_b2 s ≡ ps → (i : ℕ) → 2 * n ≤ i → is_at (pending m s k) i ≡ false
      off true d i a =
          rw (d, lt-ltb m.word.top (lim m.word.bottom s) (omega (arith, bd.lim_until d))) (ne_eqb i (2 * k) (omega (arith, (h.held d).late)))
      off false d i a = rw d refl

      pends : (ps : Bool) → past_b2 s ≡ ps → pending (with_top m (t + 1)) s k ≡ pending m s k
      pends true d = rw (
        d,
        lt-ltb m.word.top (lim m.word.bottom s) (omega (arith, bd.lim_until d)),
        lt-ltb (t + 1) (lim m.word.bottom s)
            (omega (arith, bd.lim_until d)),
      ) refl
      pends false d = rw d refl

  seen_up : (j t g : ℕ) → Seen n p q f j t g l m (view q l m s k) → Seen (n + 1) p q f j t g l m (view q l m s k)
  seen_up j t g v = record { since = omega (arith, v.since); seen_le = v.seen_le; tag = v.tag; top = v.top; why = up v.why }
    where
      up : Why n p q f j t l m (view q l m s k) → Why (n + 1) p q f j t l m (view q l m s k)
      up (hit c) = hit (cause_keeps l (view q l m s k) l (view q l m s k) p q f (2 * n) (2 * (n + 1)) (λ e i. i) (λ x i. refl) (omega arith) c)
      up (age a b) = age a b

  -- T4 succeeds: one of the two
  win : (j t x : ℕ) (z : Stage) → m.word.top ≡ t → j ≡ m.resets → Reach C f j t m s k (view q l m s k) → get_or m.slots t 0 ≡ x
      → (ps : Bool) → past_b2 s ≡ ps → (last : Bool) → eqb (first_loaded s - 1) m.word.top ≡ last
      → TurnT C n p q f call nd' j l m s k (l ++ (entry p n (at z) TopNode x (cond (ps && last) (2 * k) (2 * n)) ∷ [])) (with_top m (t + 1)) Idle
  win j t x z e je r g true ps true la =
      let b = bd in
      let i : first_loaded s - 1 ≡ m.word.top = eqb-true (first_loaded s - 1) m.word.top la in
      last_node j t x z e ps (omega (arith, r.inside je, lim_past m.word.bottom s ps)) je r g
  win j t x z e je r g true ps false la =
      let b = bd in
      let i : first_loaded s - 1 ≡ m.word.top → ⊥ = eqb-false (first_loaded s - 1) m.word.top la in
      top_node j t x z e (omega (arith, r.inside je, b.lim_until ps, lim_past m.word.bottom s ps)) g true ps
  win j t x z e je r g false ps la lb = top_node j t x z e (omega (arith, r.inside je, bd.until_lim ps)) g false ps

  abbrev P : Stage → Stepped → Type 0
  P z u = gone_round (at z) m.resets u.next ≡ 0
      → TurnT C n p q f call nd' (cond (at_t1 z) m.resets seen) l m s k (log_after l (ended p n (at z) owner m.word.top u.next))
      (memory_after m u) (stage_after u.next)

  pub thief_turn : (z : Stage) → is_top z ≡ true → AtTop C n p q f seen l m s k (view q l m s k) z → P z (row_in W C m z)
  thief_turn Idle i v = never i
  thief_turn (P1 x) i v = never i
  thief_turn (P2 x b) i v = never i
  thief_turn (P3 b) i v = never i
  thief_turn T1 i v = λ u. rest_step m.resets (T2 m.word.top m.word.tag)
      (record { since = omega arith; seen_le = omega arith; tag = λ e. refl; top = λ e. omega arith; why = age refl refl })
  thief_turn (T2 t g) i v =
      if_le (P (T2 t g)) m.word.bottom t
      (λ e u. rw take (nil_step TopNil refl seen (T2 t g) (why_T2 seen t v.since e v.why)))
      (λ e u.
      let b = bd in
      let ct = h.ctl in
      rest_step seen (T3 t g m.word.bottom) (
        seen_up seen t g v,
        record {
          low = omega arith;
          inside = λ a. omega arith;
          last = λ a c w x. absurd
              (no_lt m.word.bottom (t + 1) (omega (arith, b.gap w)) (omega arith));
        },
      ))
  thief_turn (T3 t g b) i v = λ u. rest_step seen (T4 t g b (get_or m.slots t 0)) (seen_up seen t g v.0, v.1, λ e. refl)
  thief_turn (T4 t g b x) i v =
      if_age (P (T4 t g b x)) m.word t g
      (λ e c u.
      let je : seen ≡ m.resets = not_gone seen m.resets (rw take at u) in
      rw (take, credit) (subst (λ (a : ℕ). TurnT C n p q f call nd' seen l m s k (l ++ (entry p n (at (T4 t g b x)) TopNode x
      (cond (pops_slot s m.word.top) (2 * k) (2 * n)) ∷ []))
      (record { word = age_to m.word (t + 1) a; resets = m.resets; slots = m.slots }) Idle) c
      (win seen t x (T4 t g b x) e je v.1 (v.2 je) (past_b2 s) refl (eqb (first_loaded s - 1) m.word.top) refl)))
      (λ c u. nil_step TopLost refl seen (T4 t g b x) (why_T4 seen t (λ a w. c w (v.0.tag a)) v.0.why))
  thief_turn B1 i v = never i
  thief_turn (B2 b) i v = never i
  thief_turn (B3 b) i v = never i
  thief_turn (B4 b x) i v = never i
  thief_turn (B5 b x t g) i v = never i
  thief_turn (B6 b x t g) i v = never i
  thief_turn (B7 b x t g) i v = never i
