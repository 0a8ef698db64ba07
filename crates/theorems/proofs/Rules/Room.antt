-- Rule 6 by itself. Since the owner's latest NIL bottom pop, a queue's bottom is at most its done pushes less its node-giving bottom pops, with
-- the b of an owner past B2 in the bottom's place, since its pop is not in the log yet. So a FULL has its C.
use Prim.Native.Nat.{ℕ, zero, suc, ◌+◌, ◌-◌, ◌≤◌, ◌<◌}
use mathlib.Core.Path.{◌≡◌, refl, sym, ap, ◌∙◌, subst}
use mathlib.Core.Bool.{Bool, true, false, cond, and-false}
use mathlib.Core.List.{List, [], ◌∷◌, ◌++◌}
use native.Mathlib.Decide.{dec_lt}
use native.Mathlib.Omega.{arith}
use native.Mathlib.Numerals.{add-one}
use lib.Dec.{eqb, leb}
use lib.ListN.{length, length-append, get_or-replicate, get_or-append}
use borrow.Author.Tests.{eq-eqb, ne_eqb}
use Rattle.call_log.specs.Decode.{no_entry}
use Rattle.call_log.specs.Numbers.{what, same}
use Rattle.call_log.specs.declared.Entry.{Entry}
use Rattle.call_log.specs.declared.What.{What}
use Rattle.call_log.specs.declared.What.TheVariants.{Pushed, Full, BottomNode, BottomNil, TopNode, TopNil, TopLost}
use Rattle.base.proofs.Cases.{either_way, never, ever, if_eq, if_lt, if_le, if_set}
use Rattle.base.proofs.Bools.{or_l}
use Rattle.steps.specs.Step.{loaded_slot, loaded, stage_after, Stepped}
use Rattle.steps.specs.declared.Next.{Next}
use Rattle.steps.specs.declared.Next.TheVariants as next
use Rattle.word.specs.Stages.{row_number}
use Rattle.word.specs.declared.Stage.{Stage}
use Rattle.word.specs.declared.Stage.TheVariants.{Idle, P1, P2, P3, T1, T2, T3, T4, B1, B2, B3, B4, B5, B6, B7}
use Rattle.runs.specs.Moment.{queue_of, pushed_node, is_take}
use Rattle.runs.specs.State.{Process, Queue, State, fresh, queue_at}
use Rattle.runs.specs.Turn.{queue_after, ending, acted, idle}
use Rattle.rules.specs.Rules.{did, since}
use Rattle.theorems.proofs.Queue.Cases.{if_age}
use Rattle.runs.proofs.KindLaws.{Gives, gives}
use Rattle.runs.specs.Inner.Sound.{is_push, is_own, Sizes, Fit, processes, Sound, slots_at}
use Rattle.runs.proofs.Sound.{Fresh, Was, goes, begins, Steps, row_at}
use Rattle.theorems.proofs.Queue.Content.{at}
use Rattle.theorems.proofs.Queue.Memory.{Memory, memory_at, row_in, as_owner, lim, first_lim, log_after, log_after_lem}
use Rattle.theorems.proofs.Queue.Inv.{Control}
use Rattle.theorems.proofs.Queues.Whole.{Seat, seat_of, seat, Inv}
use Rattle.theorems.proofs.Queues.Assemble.{at_record}
use Rattle.theorems.proofs.Queues.Act.{as_own, own_ok, here, no_top, take, seats}

-- how many calls of the log did w, on queue q, after its latest NIL bottom pop
abbrev pub counted : What → List Entry → ℕ → ℕ
counted w l q = since w (at l) q (length l)

-- the pushes are enough for the pops and x more
abbrev RoomFor : List Entry → ℕ → ℕ → Type 0
RoomFor l q x = x + counted BottomNode l q ≤ counted Pushed l q

-- rule 6 of entry i
abbrev Filled : ℕ → (ℕ → Entry) → ℕ → Type 0
Filled C g i = what (g i) ≡ Full → C + since BottomNode g (g i).queue i ≤ since Pushed g (g i).queue i

pub record Room (f : Sizes) (s : State) : Type 0 where
  pub room : (q : ℕ) → q < processes f → RoomFor s.log q (lim (queue_at s.bench q).word.bottom (seat s q).stage)
  pub fulls : (i : ℕ) → i < length s.log → Filled f.size (at s.log) i

-- the log with one entry more
since_same : (w : What) (g h : ℕ → Entry) (q j : ℕ) → ((i : ℕ) → i < j → h i ≡ g i) → since w h q j ≡ since w g q j
since_same w g h q zero e = refl
since_same w g h q (suc j) e = rw (e j (omega arith), since_same w g h q j (λ i u. e i (omega arith)))

module _ (l : List Entry) (e : Entry) where
  abbrev l⁺ : List Entry
  l⁺ = l ++ (e ∷ [])

  at_old : (i : ℕ) → i < length l → at l⁺ i ≡ at l i
  at_old i u = get_or-append l (e ∷ []) no_entry i u

  at_new : at l⁺ (length l) ≡ e
  at_new = last l
    where
      last : (l : List Entry) → at (l ++ (e ∷ [])) (length l) ≡ e
      last [] = refl
      last (d ∷ l) = last l

  one_more : length l⁺ ≡ suc (length l)
  one_more = length-append l (e ∷ []) ∙ add-one (length l)

  before_it : (w : What) (q : ℕ) → since w (at l⁺) q (length l) ≡ counted w l q
  before_it w q = since_same w (at l) (at l⁺) q (length l) at_old

  counted_more : (w : What) (q : ℕ) → counted w l⁺ q ≡ cond (did BottomNil q e) 0 (cond (did w q e) (counted w l q + 1) (counted w l q))
  counted_more w q = rw (one_more, at_new, before_it w q)

  -- by what the entry did
  room_after : (q x : ℕ) {s t u : Bool} → did BottomNil q e ≡ s → did BottomNode q e ≡ t → did Pushed q e ≡ u
      → x + cond s 0 (cond t (counted BottomNode l q + 1) (counted BottomNode l q)) ≤ cond s 0 (cond u (counted Pushed l q + 1) (counted Pushed l q))
      → RoomFor l⁺ q x
  room_after q x a b c h = rw (counted_more BottomNode q, counted_more Pushed q, a, b, c) h

  -- a call on another queue
  room_else : (q x : ℕ) → (e.queue ≡ q → ⊥) → RoomFor l q x → RoomFor l⁺ q x
  room_else q x d h = room_after q x (no BottomNil) (no BottomNode) (no Pushed) h
    where
      no : (w : What) → did w q e ≡ false
      no w = rw (ne_eqb e.queue q d, and-false (same w (what e)))

  filled_after : (C : ℕ) → ((i : ℕ) → i < length l → Filled C (at l) i) → (what e ≡ Full → RoomFor l e.queue C)
      → (i : ℕ) → i < length l⁺ → Filled C (at l⁺) i
  filled_after C old new i u = split (dec_lt i (length l))
    where
      split : Dec (i < length l) → Filled C (at l⁺) i
      split (yes v) =
          let same-to : (w : What) → since w (at l⁺) (at l i).queue i ≡ since w (at l) (at l i).queue i =
          λ w. since_same w (at l) (at l⁺) (at l i).queue i (λ k x. at_old k (omega arith)) in
          rw (at_old i v, same-to BottomNode, same-to Pushed) (old i v)
      split (no v) =
          let z : i ≡ length l = omega (arith, one_more) in
          rw (z, at_new, before_it BottomNode e.queue, before_it Pushed e.queue) new

-- what a step of the owner's makes of a: the bottom, or the b of an owner past B2. The bottom is b after it
abbrev Stock : ℕ → ℕ → ℕ → Next → Type 0
Stock C a b (next.Going y) = lim b y ≤ a
Stock C a b next.Done = b ≤ a + 1
Stock C a b (next.Node x) = b + 1 ≤ a
Stock C a b next.Nil = b ≡ 0
Stock C a b next.Lost = ⊥
Stock C a b next.Full = (b ≤ a) × (a ≡ C)

abbrev StockBy : ℕ → ℕ → Stepped → Type 0
StockBy C a o = Stock C a o.word.bottom o.next

stock : (W C nd : ℕ) (m : Memory) (z : Stage) → is_own z ≡ true → Control C nd m z → StockBy C (lim m.word.bottom z) (row_in W C m z)
stock W C nd m Idle i h = never i
stock W C nd m (P1 x) i h = if_eq (StockBy C m.word.bottom) m.word.bottom C (λ e. (omega arith, e)) (λ e. omega arith)
stock W C nd m (P2 x b) i h = omega arith
stock W C nd m (P3 b) i h = omega (arith, h.at.0)
stock W C nd m T1 i h = never i
stock W C nd m (T2 t g) i h = never i
stock W C nd m (T3 t g b) i h = never i
stock W C nd m (T4 t g b x) i h = never i
stock W C nd m B1 i h = if_eq (StockBy C m.word.bottom) m.word.bottom 0 (λ e. e) (λ e. omega arith)
stock W C nd m (B2 b) i h = omega (arith, h.at.0)
stock W C nd m (B3 b) i h = omega arith
stock W C nd m (B4 b x) i h = if_lt (StockBy C b) m.word.top (b - 1) (λ e. omega (arith, h.at.0)) (λ e. omega arith)
stock W C nd m (B5 b x t g) i h = either_way (λ (y : Stage). lim 0 y ≤ b) (eqb (b - 1) t) (λ e. omega arith) (λ e. omega arith)
stock W C nd m (B6 b x t g) i h = if_age (StockBy C b) m.word t g (λ e d. omega (arith, h.at.0, h.at.3)) (λ e. omega arith)
stock W C nd m (B7 b x t g) i h = h.at.0

-- a step of a top pop leaves the bottom
aside : (W C : ℕ) (m : Memory) (z : Stage) → is_own z ≡ false → (row_in W C m z).word.bottom ≡ m.word.bottom
aside W C m Idle i = refl
aside W C m (P1 x) i = ever i
aside W C m (P2 x b) i = ever i
aside W C m (P3 b) i = ever i
aside W C m T1 i = refl
aside W C m (T2 t g) i = if_le (λ (o : Stepped). o.word.bottom ≡ m.word.bottom) m.word.bottom t (λ e. refl) (λ e. refl)
aside W C m (T3 t g b) i = refl
aside W C m (T4 t g b x) i = if_age (λ (o : Stepped). o.word.bottom ≡ m.word.bottom) m.word t g (λ e d. refl) (λ e. refl)
aside W C m B1 i = ever i
aside W C m (B2 b) i = ever i
aside W C m (B3 b) i = ever i
aside W C m (B4 b x) i = ever i
aside W C m (B5 b x t g) i = ever i
aside W C m (B6 b x t g) i = ever i
aside W C m (B7 b x t g) i = ever i

pub room_idle : (f : Sizes) (s : State) → Sound f s → Inv f s → Room f s → Room f (idle s)
room_idle f s v h j = record { room = j.room; fulls = j.fulls }

pub room_fresh : (f : Sizes) → Fit f → (s : State) → Fresh f s → Room f s
room_fresh f w s z = record {
  room = λ q lt. subst (λ (l : List Entry). RoomFor l q (lim (queue_at s.bench q).word.bottom (seat s q).stage)) (sym z.log)
      (rw (z.idle q, z.queues, get_or-replicate 8 q fresh fresh (omega (arith, w.processes))) (omega arith));
  fulls = subst (λ (l : List Entry). (i : ℕ) → i < length l → Filled f.size (at l) i) (sym z.log) (λ i u. absurd (omega arith));
}

other : {A : Type 0} (w : What) → same Full w ≡ false → w ≡ Full → A
other w d e = never (sym d ∙ ap (same Full) e)

module _ (f : Sizes) (w : Fit f) (s : State) (v : Sound f s) (h : Inv f s) (j : Room f s) (p : ℕ) (r : Process) (k : Steps f s p r) where
  abbrev q : ℕ
  q = queue_of p r.call

  abbrev n : ℕ
  n = s.bench.steps

  abbrev l : List Entry
  l = s.log

  abbrev o : Stepped
  o = row_at f s p r

  abbrev logged : Next → List Entry
  logged x = log_after l (ending p r s.bench x)

  -- the new entry is on q
  else_after : (x : Next) (a y : ℕ) → (q ≡ a → ⊥) → RoomFor l a y → RoomFor (logged x) a y
  else_after (next.Going z) a y d g = g
  else_after next.Done a y d g = room_else l _ a y d g
  else_after (next.Node x) a y d g =
      either_way (λ (e : Entry). RoomFor (l ++ (e ∷ [])) a y) (is_take r.call) (λ _. room_else l _ a y d g) (λ _. room_else l _ a y d g)
  else_after next.Nil a y d g =
      either_way (λ (e : Entry). RoomFor (l ++ (e ∷ [])) a y) (is_take r.call) (λ _. room_else l _ a y d g) (λ _. room_else l _ a y d g)
  else_after next.Lost a y d g = room_else l _ a y d g
  else_after next.Full a y d g = room_else l _ a y d g

  -- and is a FULL where the step gives one
  abbrev Fulls : List Entry → Type 0
  Fulls l = (i : ℕ) → i < length l → Filled f.size (at l) i

  full_after : (e : Entry) → (what e ≡ Full → RoomFor l e.queue f.size) → Fulls (l ++ (e ∷ []))
  full_after e g = filled_after l e f.size j.fulls g

  fulls_after : (x : Next) → (x ≡ next.Full → RoomFor l q f.size) → Fulls (logged x)
  fulls_after (next.Going z) g = j.fulls
  fulls_after next.Done g = full_after _ (other Pushed refl)
  fulls_after (next.Node x) g =
      either_way (λ (e : Entry). Fulls (l ++ (e ∷ []))) (is_take r.call) (λ _. full_after _ (other TopNode refl))
      (λ _. full_after _ (other BottomNode refl))
  fulls_after next.Nil g =
      either_way (λ (e : Entry). Fulls (l ++ (e ∷ []))) (is_take r.call) (λ _. full_after _ (other TopNil refl))
      (λ _. full_after _ (other BottomNil refl))
  fulls_after next.Lost g = full_after _ (other TopLost refl)
  fulls_after next.Full g = full_after _ (λ _. g refl)

  abbrev RoomOf : List Entry → Type 0
  RoomOf l' = Room f (record { bench = (acted p r s o).bench; slots = (acted p r s o).slots; log = l' })

  -- THE OWNER
  module _ (i : is_own r.stage ≡ true) where
    no_take : is_take r.call ≡ false
    no_take = k.placed.suits.own i

    -- the bottom, or the owner's b, before the step
    abbrev a : ℕ
    a = lim (queue_at s.bench q).word.bottom r.stage

    room_before : RoomFor l q a
    room_before = was r k.was i (j.room q k.placed.queue) (here f w s v h p r k i)
      where
        was : (r : Process) → Was f s p r → is_own r.stage ≡ true
            → RoomFor s.log (queue_of p r.call)
            (lim (queue_at s.bench (queue_of p r.call)).word.bottom (seat s (queue_of p r.call)).stage)
            → queue_of p r.call ≡ p
            → RoomFor s.log (queue_of p r.call) (lim (queue_at s.bench (queue_of p r.call)).word.bottom r.stage)
        was r goes i g e =
            let z = ap (λ (x : ℕ). (seat s x).stage) e ∙ ap (λ (b : Bool). cond b r.stage Idle) i in
            subst (λ (x : Stage). RoomFor s.log (queue_of p r.call) (lim (queue_at s.bench (queue_of p r.call)).word.bottom x)) z g
        was r (begins call z) i g e =
            let b = (queue_at s.bench (queue_of p call)).word.bottom in
            let y = ap (λ (x : ℕ). (seat s x).stage) e ∙ ap as_owner z in
            subst (RoomFor s.log (queue_of p call)) (ap (lim b) y ∙ sym (first_lim call b)) g

    stocked : Stock f.size a o.word.bottom o.next
    stocked = stock f.width f.size (pushed_node r.call) (memory_at s q) r.stage i
        (subst (λ (x : ℕ). Control f.size (pushed_node r.call) (memory_at s x) r.stage) (sym (here f w s v h p r k i))
        (own_ok f w s v h p r k i r k.was i).ctl)

    here_is : eqb q q ≡ true
    here_is = eq-eqb q q refl

    room_here : (b : ℕ) (x : Next) → Stock f.size a b x → RoomFor (logged x) q (lim b (stage_after x))
    room_here b (next.Going y) g = omega (arith, room_before)
    room_here b next.Done g = room_after l _ q b refl refl here_is (omega (arith, room_before))
    room_here b (next.Node x) g = either_way (λ (e : Entry). RoomFor (l ++ (e ∷ [])) q b) (is_take r.call) (λ t. ever (sym t ∙ no_take))
        (λ _. room_after l _ q b refl here_is refl (omega (arith, room_before)))
    room_here b next.Nil g = either_way (λ (e : Entry). RoomFor (l ++ (e ∷ [])) q b) (is_take r.call) (λ t. ever (sym t ∙ no_take))
        (λ _. room_after l _ q b here_is refl refl (omega arith))
    room_here b next.Lost g = absurd g
    room_here b next.Full g = room_after l _ q b refl refl refl (omega (arith, g.0, room_before))

    full_here : o.next ≡ next.Full → RoomFor l q f.size
    full_here e = subst (RoomFor l q) (subst (Stock f.size a o.word.bottom) e stocked).1 room_before

    own_act : RoomOf (logged o.next)
    own_act = record {
      room = λ b lt. if_set (λ (m : Queue). RoomFor (logged o.next) b (lim m.word.bottom (seat (acted p r s o) b).stage))
          s.bench.queues q b (queue_after (queue_at s.bench q) o) fresh (omega (arith, k.placed.queue, v.queues, w.processes)) (mine b)
          (others b lt);
      fulls = fulls_after o.next full_here;
    }
      where
        seen : as_owner (stage_after o.next) ≡ stage_after o.next
        seen = as_own (stage_after o.next) (no_top f w s v h p r k i)

        mine : (b : ℕ) → b ≡ q → RoomFor (logged o.next) b (lim o.word.bottom (seat (acted p r s o) b).stage)
        mine b e = at_record f w s v h p r k (λ (z : Process). RoomFor (logged o.next) b (lim o.word.bottom (seat_of z).stage)) b
            (λ _. subst (λ (z : Stage). RoomFor (logged o.next) b (lim o.word.bottom z)) (sym seen)
            (subst (λ (c : ℕ). RoomFor (logged o.next) c (lim o.word.bottom (stage_after o.next))) (sym e) (room_here o.word.bottom o.next stocked)))
            (λ d. absurd (d (e ∙ here f w s v h p r k i)))

        others : (b : ℕ) → b < processes f → (b ≡ q → ⊥)
            → RoomFor (logged o.next) b (lim (queue_at s.bench b).word.bottom (seat (acted p r s o) b).stage)
        others b lt e =
            at_record f w s v h p r k (λ (z : Process). RoomFor (logged o.next) b (lim (queue_at s.bench b).word.bottom (seat_of z).stage)) b
            (λ d. absurd (e (d ∙ sym (here f w s v h p r k i)))) (λ _. else_after o.next b _ (λ d. e (sym d)) (j.room b lt))

  -- A TOP POP
  module _ (i : is_own r.stage ≡ false) where
    taking : is_take r.call ≡ true
    taking = take f w s v h p r k i

    no_push : is_push r.stage ≡ true → ⊥
    no_push e = never (sym i ∙ or_l (is_push r.stage) (leb 8 (row_number r.stage)) e)

    -- it changes no count
    top_after : (x : Next) → Gives r.stage x → (b y : ℕ) → RoomFor l b y → RoomFor (logged x) b y
    top_after (next.Going z) g b y h = h
    top_after next.Done g b y h = absurd (no_push g)
    top_after (next.Node x) g b y h =
        either_way (λ (e : Entry). RoomFor (l ++ (e ∷ [])) b y) (is_take r.call) (λ _. room_after l _ b y refl refl refl h)
        (λ t. ever (sym taking ∙ t))
    top_after next.Nil g b y h = either_way (λ (e : Entry). RoomFor (l ++ (e ∷ [])) b y) (is_take r.call) (λ _. room_after l _ b y refl refl refl h)
        (λ t. ever (sym taking ∙ t))
    top_after next.Lost g b y h = room_after l _ b y refl refl refl h
    top_after next.Full g b y h = absurd (no_push g)

    given : Gives r.stage o.next
    given = gives f.width f.size (queue_at s.bench q).word (loaded (slots_at s q) (loaded_slot r.stage)) r.stage

    thief_act : RoomOf (logged o.next)
    thief_act = record {
      room = λ b lt. subst (λ (z : Stage). RoomFor (logged o.next) b (lim (queue_at (acted p r s o).bench b).word.bottom z))
          (ap (λ (σ : Seat). σ.stage) (sym (seats f w s v h p r k i b)))
          (if_set (λ (m : Queue). RoomFor (logged o.next) b (lim m.word.bottom (seat s b).stage)) s.bench.queues q b
          (queue_after (queue_at s.bench q) o) fresh (omega (arith, k.placed.queue, v.queues, w.processes))
          (λ e. subst (λ (c : ℕ). RoomFor (logged o.next) b (lim c (seat s b).stage))
          (ap (λ (c : ℕ). (queue_at s.bench c).word.bottom) e ∙ sym (aside f.width f.size (memory_at s q) r.stage i))
          (top_after o.next given b _ (j.room b lt)))
          (λ e. top_after o.next given b _ (j.room b lt)));
      fulls = fulls_after o.next (λ e. absurd (no_push (subst (Gives r.stage) e given)));
    }

  pub room_act : Room f (acted p r s (row_at f s p r))
  room_act = subst RoomOf (sym (log_after_lem l (ending p r s.bench o.next))) (by (is_own r.stage) refl)
    where
      by : (b : Bool) → is_own r.stage ≡ b → RoomOf (logged o.next)
      by true i = own_act i
      by false i = thief_act i
