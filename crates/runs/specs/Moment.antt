-- The entry of a finished call, with its moment: document 01, "The log".
use Rattle.std.specs.Prelude.{ℕ, ◌+◌, ◌*◌, Bool, true, false, cond, not, ◌&&◌, eqb}
use Rattle.call_log.specs.{Numbers.kind_of, Numbers.result_of, Numbers.no_moment, declared.Entry.Entry, declared.What.What}
use Rattle.call_log.specs.declared.What.TheVariants as what
use Rattle.word.specs.Stages.{past_b2, pops_slot}
use Rattle.steps.specs.declared.Next.{Next}
use Rattle.steps.specs.declared.Next.TheVariants.{Going, Done, Node, Nil, Lost, Full}
use Rattle.runfile.specs.{declared.Call.Call, declared.Call.TheVariants.Push, declared.Call.TheVariants.Pop, declared.Call.TheVariants.Take}
use Rattle.runs.specs.State.{Process}

-- the queue of a call of process p
abbrev pub queue_of : ℕ → Call → ℕ
queue_of p (Push node) = p
queue_of p Pop = p
queue_of p (Take q) = q

abbrev pub pushed_node : Call → ℕ
pushed_node (Push node) = node
pushed_node Pop = 0
pushed_node (Take q) = 0

abbrev pub is_take : Call → Bool
is_take (Push node) = false
is_take Pop = false
is_take (Take q) = true

-- the entry of a call of process p, its record being r, that ends at step n
abbrev pub entry : ℕ → ℕ → Process → What → ℕ → ℕ → Entry
entry p n r w node moment =
    record { process = p; queue = queue_of p r.call; kind = kind_of w; result = result_of w; node = node; start = r.start; end = n; moment = moment }

-- bottom pop: NIL at B1, 2 × B1; NIL at B7, 2 × B2 + 1
abbrev pub nil_moment : ℕ → Process → ℕ
nil_moment n r = cond (past_b2 r.stage) (2 * r.b2 + 1) (2 * n)

-- top pop with a node: 2 × T4, unless the queue's owner is then in a bottom pop past B2 with b−1 = t. Then it is 2 × that B2. The top is t still.
abbrev pub take_moment : ℕ → Process → ℕ → ℕ
take_moment n owner t = cond (pops_slot owner.stage t) (2 * owner.b2) (2 * n)

abbrev pub node_entry : ℕ → ℕ → Process → Process → ℕ → ℕ → Entry
node_entry p n r owner t x =
    cond (is_take r.call) (entry p n r what.TopNode x (take_moment n owner t)) (entry p n r what.BottomNode x (2 * r.b2))

abbrev pub nil_entry : ℕ → ℕ → Process → Entry
nil_entry p n r = cond (is_take r.call) (entry p n r what.TopNil 0 no_moment) (entry p n r what.BottomNil 0 (nil_moment n r))

-- what a step gives the log: nothing, or the entry of the call that it ended
pub data Ended : Type 0 where
  Nothing : Ended
  ends : Entry → Ended

-- what step n of process p ends: r is its record, `owner` that of its queue's owner, and t the queue's top, all before the step
abbrev pub ended : ℕ → ℕ → Process → Process → ℕ → Next → Ended
ended p n r owner t (Going s) = Nothing
ended p n r owner t Done = ends (entry p n r what.Pushed (pushed_node r.call) (2 * n))
ended p n r owner t (Node x) = ends (node_entry p n r owner t x)
ended p n r owner t Nil = ends (nil_entry p n r)
ended p n r owner t Lost = ends (entry p n r what.TopLost 0 no_moment)
ended p n r owner t Full = ends (entry p n r what.Full (pushed_node r.call) no_moment)

-- gone-round takes of a step: a successful T4 whose queue was reset since its T1
abbrev pub gone_round : Process → ℕ → Next → ℕ
gone_round r resets (Going s) = 0
gone_round r resets Done = 0
gone_round r resets (Node x) = cond (is_take r.call && not (eqb r.resets_at_t1 resets)) 1 0
gone_round r resets Nil = 0
gone_round r resets Lost = 0
gone_round r resets Full = 0
