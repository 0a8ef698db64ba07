-- All queues and processes of a run: the invariant, and what a step on one queue leaves of the others. The only file, with
-- Assemble.antt, that knows of more than one queue.
use Prim.Native.Nat.{ℕ, ◌+◌, ◌*◌, ◌≤◌, ◌<◌}
use mathlib.Core.Path.{◌≡◌, refl, sym, ◌∙◌}
use mathlib.Core.Bool.{true, false, cond}
use mathlib.Core.List.{List}
use mathlib.Core.Option.{Option}
use mathlib.Core.Logic.{◌⊎◌, inl, inr}
use native.Mathlib.Omega.{arith}
use Rattle.call_log.specs.Numbers.{kind_of, result_of, bears_moment, no_moment, what}
use Rattle.call_log.specs.declared.Entry.{Entry}
use Rattle.call_log.specs.declared.What.{What}
use Rattle.call_log.specs.declared.What.TheVariants.{Pushed, Full, BottomNode, BottomNil, TopNode, TopNil, TopLost}
use Rattle.word.specs.Stages.{is_idle, past_b2}
use Rattle.word.specs.declared.Stage.{Stage}
use Rattle.runfile.specs.declared.Call.{Call}
use Rattle.runs.specs.Moment.{queue_of, pushed_node}
use Rattle.runs.specs.State.{Process, State, process_at}
use Rattle.rules.specs.Contents.{bears}
use Rattle.runs.specs.Inner.Sound.{is_own, Sizes, processes}
use Rattle.base.specs.Lists.{In, All, Pairs}
use Rattle.base.proofs.Lists.{all_map, in_snoc}
use Rattle.theorems.proofs.Queue.Content.{Free, content, add_other}
use Rattle.theorems.proofs.Queue.Memory.{Memory, memory_at, as_owner}
use Rattle.theorems.proofs.Queue.Inv.{QueueOk, Cause, Fine, Right, Grow, same, more, view, AtTop}
use Rattle.theorems.proofs.Queue.Keeps.{cause_keeps}
use Rattle.theorems.proofs.Queue.OwnerTurn.{Old, free_snoc}

-- a process as the owner of its queue: its own calls, and the node that it pushes
pub record Seat : Type 0 where
  pub stage : Stage
  pub b2 : ℕ
  pub node : ℕ

abbrev pub seat_of : Process → Seat
seat_of r = record { stage = as_owner r.stage; b2 = r.b2; node = cond (is_own r.stage) (pushed_node r.call) 0 }

abbrev pub seat : State → ℕ → Seat
seat s j = seat_of (process_at s.bench j)

abbrev pub nodes_by : ℕ → List Entry → Memory → Seat → ℕ → List ℕ
nodes_by q l m σ = view q l m σ.stage σ.b2

abbrev pub SeatOk : ℕ → ℕ → ℕ → List Entry → Memory → Seat → Type 0
SeatOk C n q l m σ = QueueOk C n σ.node l m σ.stage σ.b2 (nodes_by q l m σ)

abbrev pub ThiefOk : ℕ → ℕ → ℕ → List Entry → Memory → Seat → Process → Type 0
ThiefOk C n p l m σ r =
    AtTop C n p (queue_of p r.call) r.start r.resets_at_t1 l m σ.stage σ.b2 (nodes_by (queue_of p r.call) l m σ) r.stage

-- a process in its time: its call began after its entries' ends, and B2 after that
pub record Timed (n p : ℕ) (l : List Entry) (r : Process) : Type 0 where
  pub begun : r.start ≤ n
  pub back_after : past_b2 r.stage ≡ true → r.start ≤ r.b2
  pub since : is_idle r.stage ≡ false → All (λ (e : Entry). e.process ≡ p → e.end < r.start) l

-- an entry a before an entry b in the log
pub record Order (a b : Entry) : Type 0 where
  pub ends : a.end < b.end
  pub after : a.process ≡ b.process → a.end < b.start
  pub differ : bears a ≡ true → bears b ≡ true → a.moment ≡ b.moment → ⊥

-- rule 1, but for the nodes
abbrev pub Fields : What → Entry → Type 0
Fields Pushed e = e.queue ≡ e.process
Fields Full e = (e.queue ≡ e.process) × (e.moment ≡ no_moment)
Fields BottomNode e = e.queue ≡ e.process
Fields BottomNil e = (e.queue ≡ e.process) × (e.node ≡ 0)
Fields TopNode e = Unit {0}
Fields TopNil e = (e.node ≡ 0) × (e.moment ≡ no_moment)
Fields TopLost e = (e.node ≡ 0) × (e.moment ≡ no_moment)

pub record Written (P : ℕ) (e : Entry) : Type 0 where
  pub process : e.process < P
  pub queue : e.queue < P
  pub did : What
  pub kind : e.kind ≡ kind_of did
  pub result : e.result ≡ result_of did
  pub fields : Fields did e

pub record Inv (f : Sizes) (s : State) : Type 0 where
  pub queues : (q : ℕ) → q < processes f → SeatOk f.size s.bench.steps q s.log (memory_at s q) (seat s q)
  pub timed : (p : ℕ) → p < processes f → Timed s.bench.steps p s.log (process_at s.bench p)
  pub thieves : (p : ℕ) → p < processes f
      → ThiefOk f.size s.bench.steps p s.log (memory_at s (queue_of p (process_at s.bench p).call))
      (seat s (queue_of p (process_at s.bench p).call)) (process_at s.bench p)
  pub apart : (a b : ℕ) → a < processes f → b < processes f → (a ≡ b → ⊥) → past_b2 (seat s a).stage ≡ true → past_b2 (seat s b).stage ≡ true
      → (seat s a).b2 ≡ (seat s b).b2 → ⊥
  pub fine : All (λ (e : Entry). Fine s.bench.steps s.log (nodes_by e.queue s.log (memory_at s e.queue) (seat s e.queue)) e) s.log
  pub order : Pairs Order s.log
  pub written : All (Written (processes f)) s.log

-- from now on the log has no moments
pub old_log : (f : Sizes) (s : State) → Inv f s → Old s.bench.steps s.log
old_log f s h x i = all_map _ _ (λ e g b d. no_late e g b d) s.log h.fine
  where
    no_late : (e : Entry) → Fine s.bench.steps s.log (nodes_by e.queue s.log (memory_at s e.queue) (seat s e.queue)) e
        → bears e ≡ true
        → e.moment ≡ x → ⊥
    no_late e g b d = omega (arith, g.to b, g.ended)

nil_keeps : (l : List Entry) (K : ℕ → List ℕ) (l' : List Entry) (K' : ℕ → List ℕ) (n : ℕ) (e : Entry) → e.end < n → ((d : Entry) → In d l → In d l')
    → ((x : ℕ) → x ≤ 2 * n → K' x ≡ K x) → Cause l K e.process e.queue e.start (2 * e.end + 2)
    → Cause l' K' e.process e.queue e.start (2 * e.end + 2)
nil_keeps l K l' K' n e en i k h =
    cause_keeps l K l' K' e.process e.queue e.start (2 * e.end + 2) (2 * e.end + 2) i (λ x g. k x (omega arith)) (omega arith) h

right_keeps : (l : List Entry) (K : ℕ → List ℕ) (l' : List Entry) (K' : ℕ → List ℕ) (n : ℕ) (e : Entry) → e.end < n
    → ((d : Entry) → In d l → In d l')
    → ((x : ℕ) → x ≤ 2 * n → K' x ≡ K x) → (w : What) → (bears_moment w ≡ true → e.moment ≤ 2 * n) → Right l K e w → Right l' K' e w
right_keeps l K l' K' n e en i k Pushed b h = tt
right_keeps l K l' K' n e en i k Full b h = tt
right_keeps l K l' K' n e en i k BottomNode b h = (h.0, k e.moment (b refl) ∙ h.1)
right_keeps l K l' K' n e en i k BottomNil b h = k e.moment (b refl) ∙ h
right_keeps l K l' K' n e en i k TopNode b h = (h.0, k e.moment (b refl) ∙ h.1)
right_keeps l K l' K' n e en i k TopNil b h = nil_keeps l K l' K' n e en i k h
right_keeps l K l' K' n e en i k TopLost b h = nil_keeps l K l' K' n e en i k h

pub fine_keeps : (n : ℕ) (l : List Entry) (K : ℕ → List ℕ) (l' : List Entry) (K' : ℕ → List ℕ) → ((d : Entry) → In d l → In d l')
    → ((x : ℕ) → x ≤ 2 * n → K' x ≡ K x) → (e : Entry) → Fine n l K e → Fine (n + 1) l' K' e
fine_keeps n l K l' K' i k e h =
    record {
      order = h.order;
      ended = omega (arith, h.ended);
      from = h.from;
      to = h.to;
      right = right_keeps l K l' K' n e h.ended i k (what e) (λ b. omega (arith, h.to b, h.ended)) h.right;
    }

-- another queue's log and nodes
module _ {n p q f : ℕ} {call : Call} {l : List Entry} {s : Stage} {k : ℕ} {K' : ℕ → List ℕ} {l' : List Entry}
    (gr : Grow n p q f call l s k K' l') where
  pub in_grow : (e : Entry) → In e l → In e l'
  in_grow e i = go l' gr
    where
      go : (l' : List Entry) → Grow n p q f call l s k K' l' → In e l'
      go l' same = i
      go l' (more d w) = in_snoc l d e i

  pub other_same : (j : ℕ) → (j ≡ q → ⊥) → (pd : Option ℕ) (x : ℕ) → content l' j pd x ≡ content l j pd x
  other_same j ne pd x = go l' gr
    where
      go : (l' : List Entry) → Grow n p q f call l s k K' l' → content l' j pd x ≡ content l j pd x
      go l' same = refl
      go l' (more d w) = add_other l d j pd (λ e. ne (sym e ∙ w.on_queue)) x

  -- a moment of another owner's is not taken
  pub free_grow : (a x : ℕ) → 2 * a ≤ x → x ≤ 2 * a + 1 → a < n → (past_b2 s ≡ true → a ≡ k → ⊥) → Free l x → Free l' x
  free_grow a x lo hi lt ne h = go l' gr
    where
      no : (e : Entry) → e.moment ≡ x → (2 * n ≤ e.moment) ⊎ ((past_b2 s ≡ true) × (2 * k ≤ e.moment) × (e.moment ≤ 2 * k + 1)) → ⊥
      no e d (inl u) = omega arith
      no e d (inr u) = ne u.0 (omega (arith, u.1, u.2))

      go : (l' : List Entry) → Grow n p q f call l s k K' l' → Free l' x
      go l' same = h
      go l' (more e w) = free_snoc l e x h (λ b d. no e d (w.clear b))
