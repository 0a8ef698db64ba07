-- The invariant of one queue, its owner and a top pop, before the step n; and what a step on the queue does for all others on it.
-- l is the log so far, m what the queue holds, s its owner's stage, k the step of the owner's B2, and K the nodes by instants, with the
-- owner's pending pop laid over the log.
use Prim.Native.Nat.{ℕ, suc, ◌+◌, ◌-◌, ◌*◌, ◌≤◌, ◌<◌}
use mathlib.Core.Path.{◌≡◌}
use mathlib.Core.Bool.{true, cond, ◌&&◌}
use mathlib.Core.List.{List, [], ◌∷◌, ◌++◌}
use mathlib.Core.Option.{Option, none, some}
use mathlib.Core.Logic.{◌⊎◌}
use lib.Dec.{ltb}
use lib.ListN.{get_or, length}
use lib.Seq.{slice}
use Rattle.call_log.specs.Numbers.{what}
use Rattle.call_log.specs.declared.Entry.{Entry}
use Rattle.call_log.specs.declared.What.{What}
use Rattle.call_log.specs.declared.What.TheVariants.{Pushed, Full, BottomNode, BottomNil, TopNode, TopNil, TopLost}
use Rattle.word.specs.Stages.{past_b2}
use Rattle.word.specs.declared.Stage.{Stage}
use Rattle.word.specs.declared.Stage.TheVariants.{Idle, P1, P2, P3, T1, T2, T3, T4, B1, B2, B3, B4, B5, B6, B7}
use Rattle.runfile.specs.declared.Call.{Call}
use Rattle.runfile.specs.declared.Call.TheVariants.{Push}
use Rattle.rules.proofs.AcceptedLaws.{TopIs, BottomIs}
use Rattle.rules.specs.Contents.{bears}
use Rattle.theorems.proofs.Queue.Content.{content, Free}
use Rattle.base.specs.Lists.{In}
use Rattle.theorems.proofs.Queue.Memory.{Memory, lim, until}

-- what holds at the owner's stage; nd is the node that its call pushes
abbrev pub AtOwner : ℕ → ℕ → Memory → Stage → Type 0
AtOwner C nd m Idle = Unit {0}
AtOwner C nd m (P1 n) = n ≡ nd
AtOwner C nd m (P2 n b) = (n ≡ nd) × (b ≡ m.word.bottom) × (b < C)
AtOwner C nd m (P3 b) = (b ≡ m.word.bottom) × (b < C) × (get_or m.slots b 0 ≡ nd)
AtOwner C nd m T1 = ⊥
AtOwner C nd m (T2 t g) = ⊥
AtOwner C nd m (T3 t g b) = ⊥
AtOwner C nd m (T4 t g b x) = ⊥
AtOwner C nd m B1 = Unit {0}
AtOwner C nd m (B2 b) = (b ≡ m.word.bottom) × (1 ≤ b)
AtOwner C nd m (B3 b) = (m.word.bottom + 1 ≡ b) × (b ≤ C)
AtOwner C nd m (B4 b x) = (m.word.bottom + 1 ≡ b) × (b ≤ C) × (get_or m.slots (b - 1) 0 ≡ x)
AtOwner C nd m (B5 b x t g) =
    (m.word.bottom + 1 ≡ b) × (b ≤ C) × (get_or m.slots (b - 1) 0 ≡ x) × (b ≤ t + 1) × (t ≤ m.word.top) × (g ≡ m.word.tag)
AtOwner C nd m (B6 b x t g) =
    (m.word.bottom ≡ 0) × (b ≤ C) × (get_or m.slots (b - 1) 0 ≡ x) × (b ≡ t + 1) × (t ≤ m.word.top) × (g ≡ m.word.tag)
AtOwner C nd m (B7 b x t g) = (m.word.bottom ≡ 0) × (1 ≤ b) × (b ≤ C) × (m.word.top ≡ b) × (t ≤ m.word.top) × (g ≡ m.word.tag)

-- the numbers of the queue and its owner: the top is at most the bottom, or the b of an owner past B2
pub record Control (C nd : ℕ) (m : Memory) (s : Stage) : Type 0 where
  pub fits : m.word.bottom ≤ C
  pub len : length m.slots ≡ C
  pub top_le : m.word.top ≤ lim m.word.bottom s
  pub at : AtOwner C nd m s

-- the owner's pending pop: past B2, with its node not taken
abbrev pub pending : Memory → Stage → ℕ → Option ℕ
pending m s k = cond (past_b2 s && ltb m.word.top (lim m.word.bottom s)) (some k) none

abbrev pub view : ℕ → List Entry → Memory → Stage → ℕ → ℕ → List ℕ
view q l m s k = content l q (pending m s k)

-- of an owner past its B2 at the step k: as long as no top pop took the node of slot b−1, it is the bottom node just before the moment
-- 2 × k, which no entry has; once it is taken, the queue is empty after that moment. The moment 2 × k + 1 is free for the owner's NIL
pub record Held (n : ℕ) (l : List Entry) (m : Memory) (s : Stage) (k : ℕ) (K : ℕ → List ℕ) : Type 0 where
  pub late : k < n
  pub mine : m.word.top < lim m.word.bottom s → BottomIs (get_or m.slots (lim m.word.bottom s - 1) 0) (K (2 * k))
  pub free : m.word.top < lim m.word.bottom s → Free l (2 * k)
  pub gave : lim m.word.bottom s ≤ m.word.top → K (suc (2 * k)) ≡ []
  pub free1 : Free l (suc (2 * k))

-- from now on the nodes are those of the slots from the top up to the bottom, or up to b−1 where the owner is past B2
pub record QueueOk (C n nd : ℕ) (l : List Entry) (m : Memory) (s : Stage) (k : ℕ) (K : ℕ → List ℕ) : Type 0 where
  pub ctl : Control C nd m s
  pub now_on : (x : ℕ) → 2 * n ≤ x → K x ≡ slice m.word.top (until m.word.bottom s) m.slots
  pub held : past_b2 s ≡ true → Held n l m s k K

-- why a top pop of q by p, begun at the step f, may give NIL, by what is before the instant u
pub data Cause (l : List Entry) (K : ℕ → List ℕ) (p q f u : ℕ) : Type 0 where
  empty : (x : ℕ) → 2 * f ≤ x → x < u → K (suc x) ≡ [] → Cause l K p q f u
  taken : (e : Entry) → In e l → what e ≡ TopNode → e.queue ≡ q → (e.process ≡ p → ⊥) → 2 * f ≤ e.moment → e.moment < u → Cause l K p q f u

-- an entry of the log: rules 3 to 5, but for the nodes that are pushed
abbrev pub Right : List Entry → (ℕ → List ℕ) → Entry → What → Type 0
Right l K e Pushed = Unit {0}
Right l K e Full = Unit {0}
Right l K e BottomNode = BottomIs e.node (K e.moment)
Right l K e BottomNil = K e.moment ≡ []
Right l K e TopNode = TopIs e.node (K e.moment)
Right l K e TopNil = Cause l K e.process e.queue e.start (2 * e.end + 2)
Right l K e TopLost = Cause l K e.process e.queue e.start (2 * e.end + 2)

pub record Fine (n : ℕ) (l : List Entry) (K : ℕ → List ℕ) (e : Entry) : Type 0 where
  pub order : e.start ≤ e.end
  pub ended : e.end < n
  pub from : bears e ≡ true → 2 * e.start ≤ e.moment
  pub to : bears e ≡ true → e.moment ≤ 2 * e.end + 1
  pub right : Right l K e (what e)

-- what a step of process p on queue q does for the others on q. The numbers:
pub record Calm (m : Memory) (s : Stage) (m' : Memory) (s' : Stage) : Type 0 where
  pub mono : m.resets ≤ m'.resets
  pub up : m'.resets ≡ m.resets → m.word.top ≤ m'.word.top
  pub tag : m'.resets ≡ m.resets → m'.word.tag ≡ m.word.tag
  pub reach : m'.resets ≡ m.resets → (t : ℕ) → t ≤ m.word.top → t < lim m.word.bottom s
      → (t < lim m'.word.bottom s') × (get_or m'.slots t 0 ≡ get_or m.slots t 0)

-- the age: it stays, or the queue was empty just before this step, or p took the topmost node
pub data Change (n p q : ℕ) (m m' : Memory) (K : ℕ → List ℕ) (l' : List Entry) : Type 0 where
  still : m'.word.top ≡ m.word.top → m'.resets ≡ m.resets → Change n p q m m' K l'
  void : K (2 * n) ≡ [] → Change n p q m m' K l'
  took : (e : Entry) → In e l' → what e ≡ TopNode → e.queue ≡ q → e.process ≡ p → e.moment ≡ 2 * n → Change n p q m m' K l'

-- an owner past B2 with one node left: it was so before, or its B2 is this step
pub data Edge (n : ℕ) (m : Memory) (s : Stage) (k : ℕ) (m' : Memory) (k' : ℕ) (K : ℕ → List ℕ) : Type 0 where
  old : past_b2 s ≡ true → lim m.word.bottom s ≡ m.word.top + 1 → k' ≡ k → k < n
      → get_or m'.slots m.word.top 0 ≡ get_or m.slots m.word.top 0
      → Edge n m s k m' k' K
  new : k' ≡ n → K (2 * n) ≡ get_or m'.slots m.word.top 0 ∷ [] → Edge n m s k m' k' K

pub record Rely (n p q : ℕ) (l : List Entry) (m : Memory) (s : Stage) (k : ℕ) (K : ℕ → List ℕ) (l' : List Entry) (m' : Memory) (s' : Stage) (k' : ℕ)
    (K' : ℕ → List ℕ) : Type 0 where
  pub calm : Calm m s m' s'
  pub change : Change n p q m m' K l'
  pub edge : m'.resets ≡ m.resets → m'.word.top ≡ m.word.top → past_b2 s' ≡ true → lim m'.word.bottom s' ≡ m.word.top + 1
      → Edge n m s k m' k' K
  -- no step changes what was
  pub kept : (x : ℕ) → x ≤ 2 * n → K' x ≡ K x

-- it has its cause for a NIL, or the age is still (t, g)
pub data Why (n p q f j t : ℕ) (l : List Entry) (m : Memory) (K : ℕ → List ℕ) : Type 0 where
  hit : Cause l K p q f (2 * n) → Why n p q f j t l m K
  age : j ≡ m.resets → m.word.top ≡ t → Why n p q f j t l m K

-- a top pop that loaded the age as (t, g) when the queue had been reset j times. As long as it has not been reset again, the tag is g
-- and the top has not fallen
pub record Seen (n p q f j t g : ℕ) (l : List Entry) (m : Memory) (K : ℕ → List ℕ) : Type 0 where
  pub since : f < n
  pub seen_le : j ≤ m.resets
  pub tag : j ≡ m.resets → m.word.tag ≡ g
  pub top : j ≡ m.resets → t ≤ m.word.top
  pub why : Why n p q f j t l m K

-- a top pop that found the bottom above t. As long as the queue has not been reset again, slot t lies below the limit; and if that is
-- the slot of an owner past B2, the top pop began before that B2, which found this one node
pub record Reach (C f j t : ℕ) (m : Memory) (s : Stage) (k : ℕ) (K : ℕ → List ℕ) : Type 0 where
  pub low : t < C
  pub inside : j ≡ m.resets → t < lim m.word.bottom s
  pub last : j ≡ m.resets → m.word.top ≡ t → past_b2 s ≡ true → lim m.word.bottom s ≡ t + 1 → (f ≤ k) × (K (2 * k) ≡ get_or m.slots t 0 ∷ [])

abbrev pub AtTop : ℕ → ℕ → ℕ → ℕ → ℕ → ℕ → List Entry → Memory → Stage → ℕ → (ℕ → List ℕ) → Stage → Type 0
AtTop C n p q f j l m s k K Idle = Unit {0}
AtTop C n p q f j l m s k K (P1 _) = Unit {0}
AtTop C n p q f j l m s k K (P2 _ b) = Unit {0}
AtTop C n p q f j l m s k K (P3 b) = Unit {0}
AtTop C n p q f j l m s k K T1 = Unit {0}
AtTop C n p q f j l m s k K (T2 t g) = Seen n p q f j t g l m K
AtTop C n p q f j l m s k K (T3 t g b) = Seen n p q f j t g l m K × Reach C f j t m s k K
AtTop C n p q f j l m s k K (T4 t g b x) = Seen n p q f j t g l m K × Reach C f j t m s k K × (j ≡ m.resets → get_or m.slots t 0 ≡ x)
AtTop C n p q f j l m s k K B1 = Unit {0}
AtTop C n p q f j l m s k K (B2 b) = Unit {0}
AtTop C n p q f j l m s k K (B3 b) = Unit {0}
AtTop C n p q f j l m s k K (B4 b x) = Unit {0}
AtTop C n p q f j l m s k K (B5 b x t g) = Unit {0}
AtTop C n p q f j l m s k K (B6 b x t g) = Unit {0}
AtTop C n p q f j l m s k K (B7 b x t g) = Unit {0}

-- a new entry, of process p and queue q at the step n; s is the owner's stage and k its B2
pub record NewOk (n p q f : ℕ) (call : Call) (l : List Entry) (s : Stage) (k : ℕ) (l' : List Entry) (K' : ℕ → List ℕ) (e : Entry) : Type 0 where
  pub by_process : e.process ≡ p
  pub on_queue : e.queue ≡ q
  pub from_start : e.start ≡ f
  pub to_end : e.end ≡ n
  pub fine : Fine (n + 1) l' K' e
  pub fresh : bears e ≡ true → Free l e.moment
  pub clear : bears e ≡ true → (2 * n ≤ e.moment) ⊎ ((past_b2 s ≡ true) × (2 * k ≤ e.moment) × (e.moment ≤ 2 * k + 1))
  pub node : what e ≡ Pushed → call ≡ Push e.node

pub data Grow (n p q f : ℕ) (call : Call) (l : List Entry) (s : Stage) (k : ℕ) (K' : ℕ → List ℕ) : List Entry → Type 0 where
  same : Grow n p q f call l s k K' l
  more : (e : Entry) → NewOk n p q f call l s k (l ++ (e ∷ [])) K' e → Grow n p q f call l s k K' (l ++ (e ∷ []))

-- all that a step gives; nd' is the node of the owner's call
pub record Turn (C n p q f : ℕ) (call : Call) (nd' : ℕ) (l : List Entry) (m : Memory) (s : Stage) (k : ℕ) (l' : List Entry) (m' : Memory) (s' : Stage)
    (k' : ℕ) : Type 0 where
  pub own : QueueOk C (n + 1) nd' l' m' s' k' (view q l' m' s' k')
  pub rely : Rely n p q l m s k (view q l m s k) l' m' s' k' (view q l' m' s' k')
  pub grow : Grow n p q f call l s k (view q l' m' s' k') l'
