-- A step of the owner on its queue.
use Prim.Native.Nat.{ℕ, suc, ◌+◌, ◌-◌, ◌*◌, ◌≤◌, ◌<◌}
use mathlib.Core.Path.{◌≡◌, refl, sym, ap, ◌∙◌}
use mathlib.Core.Bool.{true, false, cond}
use mathlib.Core.List.{List, [], ◌∷◌, ◌++◌}
use mathlib.Core.Option.{Option, none, some}
use mathlib.Core.Logic.{◌⊎◌, inl, inr}
use native.Mathlib.Omega.{arith}
use native.Mathlib.Numerals.{add-one}
use native.Mathlib.Decide.{dec_lt}
use lib.Dec.{ltb}
use lib.ListN.{get_or, length, set, length-set, take}
use lib.Seq.{slice, take-set-le, get_or-set_same, get_or-set_other}
use borrow.Author.Tests.{ne_eqb, lt-ltb, le-ltb}
use Rattle.call_log.specs.Numbers.{what, no_moment}
use Rattle.call_log.specs.declared.Entry.{Entry}
use Rattle.call_log.specs.declared.What.{What}
use Rattle.call_log.specs.declared.What.TheVariants.{Pushed, Full, BottomNode, BottomNil}
use Rattle.word.specs.Stages.{past_b2, at_b2}
use Rattle.steps.specs.Step.{bottom_to, leaves as stays, stage_after, Stepped}
use Rattle.steps.specs.declared.Next.TheVariants as next
use Rattle.word.specs.declared.Stage.{Stage}
use Rattle.word.specs.declared.Stage.TheVariants.{Idle, P1, P2, P3, T1, T2, T3, T4, B1, B2, B3, B4, B5, B6, B7}
use Rattle.base.proofs.Cases.{if_eq, if_lt, never}
use Rattle.runfile.specs.declared.Call.{Call}
use Rattle.runfile.specs.declared.Call.TheVariants.{Push}
use Rattle.runs.specs.State.{Process}
use Rattle.runs.specs.Moment.{queue_of, pushed_node, is_take, entry, ended}
use Rattle.rules.specs.Contents.{bears, drop_last, applied}
use Rattle.theorems.proofs.Queue.Cases.{if_age}
use Rattle.runs.specs.Inner.Sound.{is_own, is_push}
use Rattle.base.proofs.Lists.{all_snoc}
use Rattle.theorems.proofs.Queue.Lists.{drop_last_lem, slice_none, slice_snoc, one_node}
use Rattle.theorems.proofs.Queue.Content.{Free, event_free, is_at, content, still_from, add_none, add_past, add_at, swap, pend_past, pend_at}
use Rattle.theorems.proofs.Queue.Memory.{Memory, row_in, memory_after, with_bottom, with_slot, lim, until, log_after}
use Rattle.theorems.proofs.Queue.Inv.{Control, QueueOk, Held, Calm, Change, still, void, old, new, same, more, NewOk, Right, Turn, view}
use Rattle.theorems.proofs.Queue.Inv.{pending}

-- from the step n on the log has no moments
abbrev pub Old : ℕ → List Entry → Type 0
Old n l = (x : ℕ) → 2 * n ≤ x → Free l x

pub free_snoc : (l : List Entry) (e : Entry) (x : ℕ) → Free l x → (bears e ≡ true → e.moment ≡ x → ⊥) → Free (l ++ (e ∷ [])) x
free_snoc l e x h f = all_snoc _ l e h f

-- an owner past B2 under a step that takes nothing of its pop
pub held_keep : (n : ℕ) (l : List Entry) (m : Memory) (s : Stage) (k : ℕ) (K : ℕ → List ℕ) (l' : List Entry) (m' : Memory) (s' : Stage) (K' : ℕ → List ℕ)
    → ((x : ℕ) → x ≤ 2 * n → K' x ≡ K x) → lim m'.word.bottom s' ≡ lim m.word.bottom s → m'.slots ≡ m.slots
    → (m'.word.top < lim m.word.bottom s → m.word.top < lim m.word.bottom s)
    → (lim m.word.bottom s ≤ m'.word.top → lim m.word.bottom s ≤ m.word.top)
    → (k < n → Free l (2 * k) → Free l' (2 * k)) → (k < n → Free l (suc (2 * k)) → Free l' (suc (2 * k))) → Held n l m s k K
    → Held (n + 1) l' m' s' k K'
held_keep n l m s k K l' m' s' K' kept e d a b u v h =
    let late = h.late in
    record {
      late = omega arith;
      mine = λ t. rw (kept (2 * k) (omega arith), d, e) (h.mine (a (omega arith)));
      free = λ t. u late (h.free (a (omega arith)));
      gave = λ t. kept (suc (2 * k)) (omega arith) ∙ h.gave (b (omega arith));
      free1 = v late h.free1;
    }

-- a new event at the moment 2 × n, and none after it
pub event_on : (n q : ℕ) (l : List Entry) (e : Entry) (pd : Option ℕ) → Old n l → ((x : ℕ) → 2 * n ≤ x → is_at pd x ≡ false) → bears e ≡ true
    → e.queue ≡ q
    → e.moment ≡ 2 * n
    → (x : ℕ) → 2 * (n + 1) ≤ x → content (l ++ (e ∷ [])) q pd x ≡ applied (what e) e.node (content l q pd (2 * n))
event_on n q l e pd o i a b d x h =
    still_from (l ++ (e ∷ [])) q pd (suc (2 * n))
    (λ y g c. rw (i y (omega arith), event_free (l ++ (e ∷ [])) q y c (free_snoc l e y (o y (omega arith)) (λ u v. omega arith))))
    x (omega arith)
    ∙ rw (sym d) (add_at l e q pd a b (rw d (o (2 * n) (omega arith))) (rw d (i (2 * n) (omega arith))))

-- the entry of the call of a record r of process p that ends at the step n
pub new_entry : {n p : ℕ} (r : Process) (w : What) (x t : ℕ) {l : List Entry} {s : Stage} {k : ℕ} {l' : List Entry} {K' : ℕ → List ℕ} → r.start ≤ n
    → (bears (entry p n r w x t) ≡ true → 2 * r.start ≤ t) → (bears (entry p n r w x t) ≡ true → t ≤ 2 * n + 1)
    → Right l' K' (entry p n r w x t) (what (entry p n r w x t))
    → (bears (entry p n r w x t) ≡ true → Free l t)
    → (bears (entry p n r w x t) ≡ true → (2 * n ≤ t) ⊎ ((past_b2 s ≡ true) × (2 * k ≤ t) × (t ≤ 2 * k + 1)))
    → (what (entry p n r w x t) ≡ Pushed → r.call ≡ Push x) → NewOk n p (queue_of p r.call) r.start r.call l s k l' K' (entry p n r w x t)
new_entry {n} r w x t order from to right fresh clear node = record {
  by_process = refl;
  on_queue = refl;
  from_start = refl;
  to_end = refl;
  fine = record { order = order; ended = omega arith; from = from; to = to; right = right };
  fresh = fresh;
  clear = clear;
  node = node;
}

node_not : BottomNode ≡ Pushed → ⊥
node_not e = let z : ◌≡◌ {A = ℕ} 0 1 = cc in omega arith

nil_not : BottomNil ≡ Pushed → ⊥
nil_not e = let z : ◌≡◌ {A = ℕ} 0 1 = cc in omega arith

lt_not : (a b : ℕ) → a < b → b ≤ a → ⊥
lt_not a b h i = omega arith

-- the owner, process p, at the step n; its call, begun at f, with its B2 at k
module _ (W C n p : ℕ) (call : Call) (place stop f k seen : ℕ) (owner : Process) (top : ℕ) (no_take : is_take call ≡ false) (l : List Entry)
    (m : Memory)
    (o : Old n l) (f-le : f ≤ n) where
  abbrev nd : ℕ
  nd = pushed_node call

  abbrev q : ℕ
  q = queue_of p call

  abbrev at : Stage → Process
  at z = record { stage = z; call = call; next = place; stop = stop; start = f; b2 = k; resets_at_t1 = seen }

  abbrev P : Stage → Stepped → Type 0
  P z u =
      Turn C n p q f call nd l m z k (log_after l (ended p n (at z) owner top u.next)) (memory_after m u) (stage_after u.next) (cond (at_b2 z) n k)

  abbrev Q : Stage → Type 0
  Q z = QueueOk C n nd l m z k (view q l m z k)

  -- a step that ends no call, not past B2
  quiet : (z : Stage) (m' : Memory) (z' : Stage) (k' : ℕ) → past_b2 z ≡ false → past_b2 z' ≡ false → Q z → Control C nd m' z' → Calm m z m' z'
      → m'.word.top ≡ m.word.top → m'.resets ≡ m.resets → m'.word.bottom ≡ m.word.bottom
      → slice m.word.top m.word.bottom m.slots ≡ slice m.word.top m.word.bottom m'.slots
      → Turn C n p q f call nd l m z k l m' z' k'
  quiet z m' z' k' a b h i j t r u v =
      record {
        own = record {
          ctl = i;
          now_on = λ x g. rw (b, t, u) (rw a at (h.now_on x (omega arith)) ∙ v);
          held = λ e. never (sym b ∙ e);
        };
        rely = record { calm = j; change = still t r; edge = λ e d g. never (sym b ∙ g); kept = λ x g. rw (a, b) refl };
        grow = same;
      }

  -- a step that ends no call, past B2
  on : (z : Stage) (m' : Memory) (z' : Stage) → past_b2 z ≡ true → past_b2 z' ≡ true → Q z → Control C nd m' z' → Calm m z m' z'
      → m'.word.top ≡ m.word.top
      → m'.resets ≡ m.resets → m'.slots ≡ m.slots
      → lim m'.word.bottom z' ≡ lim m.word.bottom z → Turn C n p q f call nd l m z k l m' z' k
  on z m' z' a b h i j t r u v =
      let pd : pending m' z' k ≡ pending m z k = rw (a, b, t, v) refl in
      let kp : (x : ℕ) → view q l m' z' k x ≡ view q l m z k x = λ x. ap (λ y. content l q y x) pd in
      let sl : slice m.word.top (until m.word.bottom z) m.slots ≡ slice m'.word.top (until m'.word.bottom z') m'.slots = rw
      (a, b, t, u, v) refl in
      record {
        own = record {
          ctl = i;
          now_on = λ x g. kp x ∙ h.now_on x (omega arith) ∙ sl;
          held =
              λ e. held_keep n l m z k (view q l m z k) l m' z' (view q l m' z' k) (λ x g. kp x) v u (λ g. omega arith) (λ g. omega arith) (λ d g. g)
              (λ d g. g)
              (h.held a);
        };
        rely = record { calm = j; change = still t r; edge = λ e d g y. old a (omega arith) refl (h.held a).late (rw u refl); kept = λ x g. kp x };
        grow = same;
      }

  -- a step that ends the call and leaves the nodes as they are
  writes : (e : Entry) (z : Stage) (m' : Memory) (k' : ℕ) → Q z → Control C nd m' Idle → Calm m z m' Idle
      → Change n p q m m' (view q l m z k) (l ++ (e ∷ []))
      → ((x : ℕ) → content (l ++ (e ∷ [])) q none x ≡ view q l m z k x)
      → slice m.word.top (until m.word.bottom z) m.slots ≡ slice m'.word.top m'.word.bottom m'.slots
      → NewOk n p q f call l z k (l ++ (e ∷ [])) (content (l ++ (e ∷ [])) q none) e
      → Turn C n p q f call nd l m z k (l ++ (e ∷ [])) m' Idle k'
  writes e z m' k' h i j t kp sl w =
      record {
        own = record { ctl = i; now_on = λ x g. kp x ∙ h.now_on x (omega arith) ∙ sl; held = λ e. never e };
        rely = record { calm = j; change = t; edge = λ e d g. never g; kept = λ x g. kp x };
        grow = more e w;
      }

  -- B2: the pop is pending, or the node was taken
  lower : (b : ℕ) → Q (B2 b) → Dec (m.word.top < b) → Turn C n p q f call nd l m (B2 b) k l (with_bottom m (b - 1)) (B3 b) n
  lower b h (yes d) =
      let u = h.ctl in
      let b' : b ≡ suc (b - 1) = omega arith in
      let y : slice m.word.top b m.slots ≡ slice m.word.top (b - 1) m.slots ++ (get_or m.slots (b - 1) 0 ∷ [])
      = ap (λ (j : ℕ). slice m.word.top j m.slots) b' ∙ slice_snoc m.word.top (b - 1) m.slots (omega arith) (omega arith) in
      let was : content l q none (2 * n) ≡ slice m.word.top b m.slots = h.now_on (2 * n) (omega arith)
      ∙ ap (λ (j : ℕ). slice m.word.top j m.slots)
      (sym u.at.0) in
      let pd : ltb m.word.top b ≡ true = lt-ltb m.word.top b d in
      record {
        own = record {
          ctl = omega arith;
          now_on = λ x e.
              rw pd
              (still_from l q (some n) (suc (2 * n)) (λ z i c. rw (ne_eqb z (2 * n) (omega arith), event_free l q z c (o z (omega arith)))) x (omega arith)
              ∙ pend_at l q n ∙ ap drop_last (was ∙ y) ∙ drop_last_lem (slice m.word.top (b - 1) m.slots) (get_or m.slots (b - 1) 0));
          held = λ e. record {
            late = omega arith;
            mine = λ i. rw pd (slice m.word.top (b - 1) m.slots, pend_past l q n (2 * n) (omega arith) ∙ was ∙ y);
            free = λ i. o (2 * n) (omega arith);
            gave = λ i. absurd (lt_not m.word.top b d i);
            free1 = o (suc (2 * n)) (omega arith);
          };
        };
        rely = record {
          calm = omega arith;
          change = still refl refl;
          edge = λ a e i j. new refl (was ∙ one_node m.word.top b m.slots (omega arith) (omega arith));
          kept = λ x e. rw pd (pend_past l q n x e);
        };
        grow = same;
      }
  lower b h (no d) =
      let u = h.ctl in
      let pd : ltb m.word.top b ≡ false = le-ltb m.word.top b (omega arith) in
      let em : slice m.word.top m.word.bottom m.slots ≡ [] = slice_none m.word.top m.word.bottom m.slots (omega arith) in
      record {
        own = record {
          ctl = omega arith;
          now_on = λ x e. rw pd (h.now_on x (omega arith) ∙ em ∙ sym (slice_none m.word.top (b - 1) m.slots (omega arith)));
          held = λ e. record {
            late = omega arith;
            mine = λ i. absurd (d i);
            free = λ i. o (2 * n) (omega arith);
            gave = λ i. rw pd (h.now_on (suc (2 * n)) (omega arith) ∙ em);
            free1 = o (suc (2 * n)) (omega arith);
          };
        };
        rely = record {
          calm = omega arith;
          change = still refl refl;
          edge = λ a e i j. absurd (d (omega arith));
          kept = λ x e. rw pd refl;
        };
        grow = same;
      }

  -- the owner's pop with a node
  popped : (x : ℕ) (z s : Stage) (K : ℕ → List ℕ) → f ≤ k → past_b2 s ≡ true → Held n l m s k K → get_or m.slots (lim m.word.bottom s - 1) 0 ≡ x
      → ((i : ℕ) → content (l ++ (entry p n (at z) BottomNode x (2 * k) ∷ [])) q none i ≡ K i) → m.word.top < lim m.word.bottom s
      → NewOk n p q f call l s k (l ++ (entry p n (at z) BottomNode x (2 * k) ∷ []))
      (content (l ++ (entry p n (at z) BottomNode x (2 * k) ∷ [])) q none) (entry p n (at z) BottomNode x (2 * k))
  popped x z s K g ps w e kp t =
      let v = w.mine t in
      new_entry (at z) BottomNode x (2 * k) f-le
      (λ d. omega arith) (λ d. omega (arith, w.late)) (v.0, kp (2 * k) ∙ v.1 ∙ ap (λ (j : ℕ). v.0 ++ (j ∷ [])) e) (λ d. w.free t)
      (λ d. inr (ps, omega arith, omega arith)) (λ d. absurd (node_not d))

  pub owner_turn : (z : Stage) → is_own z ≡ true → (is_push z ≡ true → call ≡ Push nd) → (past_b2 z ≡ true → f ≤ k) → Q z → P z (row_in W C m z)
  owner_turn Idle i pc g h = never i
  owner_turn (P1 x) i pc g h =
      let u = h.ctl in
      if_eq (P (P1 x)) m.word.bottom C
      (λ e.
      writes (entry p n (at (P1 x)) Full nd no_moment) (P1 x) m k h (omega arith) (omega arith) (still refl refl)
      (add_none l _ q none (λ c. refl)) refl
      (new_entry (at (P1 x)) Full nd no_moment f-le
      (λ e. never e) (λ e. never e) tt (λ e. never e) (λ e. never e) (λ e. pc refl)))
      (λ e. quiet (P1 x) m (P2 x m.word.bottom) k refl refl h (omega arith) (omega arith) refl refl refl refl)
  owner_turn (P2 x b) i pc g h =
      let u = h.ctl in
      let z : take m.word.bottom (set m.slots b x) ≡ take m.word.bottom m.slots =
      take-set-le m.word.bottom m.slots b x (omega arith) in
      let s : get_or (set m.slots b x) b 0 ≡ x = get_or-set_same m.slots b x 0 (omega arith) in
      let d : length (set m.slots b x) ≡ length m.slots = length-set m.slots b x in
      let v : (t : ℕ) → t < b → get_or (set m.slots b x) t 0 ≡ get_or m.slots t 0 = λ t k. get_or-set_other m.slots b t x 0 (omega arith) in
      quiet (P2 x b) (with_slot m b x) (P3 b) k refl refl h (omega arith)
      (record { mono = omega arith; up = omega arith; tag = λ e. refl; reach = λ e t a j. (j, v t (omega arith)) }) refl refl refl (rw z refl)
  owner_turn (P3 b) i pc g h =
      let u = h.ctl in
      let e : Entry = entry p n (at (P3 b)) Pushed nd (2 * n) in
      let y = slice_snoc m.word.top b m.slots (omega arith) (omega arith) in
      let v : slice m.word.top m.word.bottom m.slots ++ (nd ∷ []) ≡ slice m.word.top (b + 1) m.slots =
      rw (add-one, y, u.at.2, u.at.0) refl in
      record {
        own = record {
          ctl = omega arith;
          now_on = λ x d. event_on n q l e none o (λ x d. refl) refl refl refl x d ∙ ap (λ c. c ++ (nd ∷ [])) (h.now_on (2 * n) (omega arith)) ∙ v;
          held = λ d. never d;
        };
        rely = record { calm = omega arith; change = still refl refl; edge = λ a d j. never j; kept = λ x d. add_past l e q none (2 * n) refl x d };
        grow = more e (new_entry (at (P3 b)) Pushed nd (2 * n) f-le
            (λ d. omega arith) (λ d. omega arith) tt (λ d. o (2 * n) (omega arith)) (λ d. inl (omega arith)) (λ d. pc refl));
      }
  owner_turn T1 i pc g h = never i
  owner_turn (T2 t e) i pc g h = never i
  owner_turn (T3 t e b) i pc g h = never i
  owner_turn (T4 t e b x) i pc g h = never i
  owner_turn B1 i pc g h =
      let u = h.ctl in
      let y : Entry = entry p n (at B1) BottomNil 0 (2 * n) in
      if_eq (P B1) m.word.bottom 0
      (λ e. rw no_take
      (writes y B1 m k h (omega arith) (omega arith) (still refl refl) (add_none l y q none (λ c. refl)) refl
      (new_entry (at B1) BottomNil 0 (2 * n) f-le
      (λ d. omega arith) (λ d. omega arith) (add_none l y q none (λ c. refl) (2 * n) ∙ h.now_on (2 * n) (omega arith) ∙ slice_none m.word.top
      m.word.bottom m.slots (omega arith)) (λ d. o (2 * n) (omega arith)) (λ d. inl (omega arith)) (λ d. absurd (nil_not d)))))
      (λ e. quiet B1 m (B2 m.word.bottom) k refl refl h (omega arith) (omega arith) refl refl refl refl)
  owner_turn (B2 b) i pc g h = lower b h (dec_lt m.word.top b)
  owner_turn (B3 b) i pc g h =
      let u = h.ctl in on (B3 b) m (B4 b (get_or m.slots (b - 1) 0)) refl refl h (omega arith) (omega arith) refl refl refl refl
  owner_turn (B4 b x) i pc g h =
      let u = h.ctl in
      if_lt (P (B4 b x)) m.word.top (b - 1)
      (λ e.
      let y : Entry = entry p n (at (B4 b x)) BottomNode x (2 * k) in
      let w = h.held refl in
      let kp : (z : ℕ) → content (l ++ (y ∷ [])) q none z ≡ view q l m (B4 b x) k z = λ z. rw (lt-ltb m.word.top b (omega arith))
      (swap l y q k refl refl refl (w.free (omega arith)) refl z) in
      let b' : b - 1 ≡ m.word.bottom = omega arith in
      rw no_take (writes y (B4 b x) m k h (omega arith) (omega arith) (still refl refl) kp (rw b' refl)
      (popped x (B4 b x) (B4 b x) _ (g refl) refl w u.at.2 kp (omega arith))))
      (λ e. on (B4 b x) m (B5 b x m.word.top m.word.tag) refl refl h (omega arith) (omega arith) refl refl refl refl)
  owner_turn (B5 b x t a) i pc g h =
      let u = h.ctl in
      if_eq (λ (y : Stage). P (B5 b x t a) (stays (bottom_to m.word 0) (next.Going y))) (b - 1) t
      (λ e. on (B5 b x t a) (with_bottom m 0) (B6 b x t a) refl refl h (omega arith) (omega arith) refl refl refl refl)
      (λ e. on (B5 b x t a) (with_bottom m 0) (B7 b x t a) refl refl h (omega arith) (omega arith) refl refl refl refl)
  owner_turn (B6 b x t a) i pc g h =
      let u = h.ctl in
      if_age (P (B6 b x t a)) m.word t a
      (λ e d.
      let y : Entry = entry p n (at (B6 b x t a)) BottomNode x (2 * k) in
      let w = h.held refl in
      let kp : (z : ℕ) → content (l ++ (y ∷ [])) q none z ≡ view q l m (B6 b x t a) k z = λ z. rw (lt-ltb m.word.top b (omega arith))
      (swap l y q k refl refl refl (w.free (omega arith)) refl z) in
      let v = slice_none m.word.top (b - 1) m.slots (omega arith) in
      rw no_take (writes y (B6 b x t a) _ k h (omega arith) (omega arith) (void (h.now_on (2 * n) (omega arith) ∙ v)) kp
      (v ∙ sym (slice_none 0 m.word.bottom m.slots (omega arith)))
      (popped x (B6 b x t a) (B6 b x t a) _ (g refl) refl w u.at.2 kp (omega arith))))
      (λ d.
      let e : m.word.top ≡ t → ⊥ = λ e. d e (sym u.at.5) in
      on (B6 b x t a) m (B7 b x t a) refl refl h (omega arith) (omega arith) refl refl refl refl)
  owner_turn (B7 b x t a) i pc g h =
      let u = h.ctl in
      let y : Entry = entry p n (at (B7 b x t a)) BottomNil 0 (2 * k + 1) in
      let w = h.held refl in
      let kp : (z : ℕ) → content (l ++ (y ∷ [])) q none z ≡ view q l m (B7 b x t a) k z = λ z. rw (le-ltb m.word.top b (omega arith))
      (add_none l y q none (λ c. refl) z) in
      let v = slice_none m.word.top (b - 1) m.slots (omega arith) in
      rw no_take (writes y (B7 b x t a) _ k h (omega arith) (omega arith) (void (h.now_on (2 * n) (omega arith) ∙ v)) kp
      (v ∙ sym (slice_none 0 m.word.bottom m.slots (omega arith)))
      (new_entry (at (B7 b x t a)) BottomNil 0 (2 * k + 1) f-le
      (λ d. omega (arith, g refl)) (λ d. omega (arith, w.late))
      (let j : 2 * k + 1 ≡ suc (2 * k) = omega arith in ap (content (l ++ (y ∷ [])) q none) j ∙ kp
      (suc (2 * k)) ∙ w.gave (omega arith)) (λ d. rw add-one w.free1) (λ d. inr (refl, omega arith, omega arith)) (λ d. absurd (nil_not d))))
