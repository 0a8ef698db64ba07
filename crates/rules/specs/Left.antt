-- C-17. The nodes that a log leaves in each queue, how often each was pushed and returned, and what follows for accepted logs. A log is f and n.
use Rattle.std.specs.Prelude.{ℕ, Result, Ok, Err, zero, suc, ◌+◌, ◌-◌, ◌<◌, ◌≤◌, Bool, true, cond, ◌&&◌, ◌||◌, ltb, leb, eqb, List, [], ◌∷◌, ◌++◌, length, replicate, ◌≡◌}
use Rattle.call_log.specs.{declared.Entry.Entry, Numbers.what, Numbers.same, Decode.entry_count_of, Decode.entry_at, Encode.most_entries}
use Rattle.call_log.specs.declared.What.TheVariants.{Pushed, BottomNode, TopNode}
use Rattle.rules.specs.{Search.count, Search.sum_to, Contents.bears, Contents.before, declared.Rule.Rule, Judge.rule_number, Judge.judge_of, Accepted.Accepted}

-- an instant after all moments: one more than the greatest, and 0 where there is none
abbrev pub after_all : (ℕ → Entry) → ℕ → ℕ
after_all f zero = 0
after_all f (suc n) = cond (bears (f n) && leb (after_all f n) (f n).moment) (suc (f n).moment) (after_all f n)

-- the nodes that the log's moments leave in queue q, top first
abbrev pub left_in : (ℕ → Entry) → ℕ → ℕ → List ℕ
left_in f n q = before f n q (after_all f n)

-- a done push, and a call that returned a node
abbrev pub pushes : Entry → Bool
pushes e = same Pushed (what e)

abbrev pub returns : Entry → Bool
returns e = same BottomNode (what e) || same TopNode (what e)

-- on queue q, with a moment below m
abbrev pub on_before : ℕ → ℕ → Entry → Bool
on_before q m e = eqb e.queue q && ltb e.moment m

-- how many nodes queue q holds just before the instant m, by calls alone: done pushes less calls that returned a node
abbrev pub pushed_by : (ℕ → Entry) → ℕ → ℕ → ℕ → ℕ
pushed_by f n q m = count (λ i. pushes (f i) && on_before q m (f i)) n

abbrev pub returned_by : (ℕ → Entry) → ℕ → ℕ → ℕ → ℕ
returned_by f n q m = count (λ i. returns (f i) && on_before q m (f i)) n

abbrev pub nodes_by : (ℕ → Entry) → ℕ → ℕ → ℕ → ℕ
nodes_by f n q m = pushed_by f n q m - returned_by f n q m

-- how often the node x was pushed, and returned, in the whole log
abbrev pub times_pushed : (ℕ → Entry) → ℕ → ℕ → ℕ
times_pushed f n x = count (λ i. pushes (f i) && eqb (f i).node x) n

abbrev pub times_returned : (ℕ → Entry) → ℕ → ℕ → ℕ
times_returned f n x = count (λ i. returns (f i) && eqb (f i).node x) n

-- how many of a list pass
abbrev pub tally : (ℕ → Bool) → List ℕ → ℕ
tally p [] = 0
tally p (y ∷ c) = cond (p y) (tally p c + 1) (tally p c)

-- how many places hold x, where queue q, of P queues, holds c q
abbrev pub places_of : ℕ → (ℕ → List ℕ) → ℕ → ℕ
places_of x c P = sum_to (λ q. tally (λ y. eqb y x) (c q)) P

-- Of every accepted log. Each returned node was pushed before, by moments, on that queue:
pub record PushedBefore (f : ℕ → Entry) (n : ℕ) (e : Entry) : Type 0 where
  pub by : ℕ
  pub below : by < n
  pub pushed : what (f by) ≡ Pushed
  pub queue : (f by).queue ≡ e.queue
  pub node : (f by).node ≡ e.node
  pub before : (f by).moment < e.moment

abbrev pub ReturnedWasPushed : Type 0
ReturnedWasPushed = (f : ℕ → Entry) (n P C : ℕ) → Accepted f n P C → (j : ℕ) → j < n → returns (f j) ≡ true → PushedBefore f n (f j)

-- no node is returned twice;
abbrev pub ReturnedOnce : Type 0
ReturnedOnce = (f : ℕ → Entry) (n P C : ℕ) → Accepted f n P C → (i j : ℕ) → i < j → j < n → returns (f i) ≡ true → returns (f j) ≡ true
    → (f i).node ≡ (f j).node → ⊥

-- at every instant a queue holds as many nodes as were pushed there less those returned;
abbrev pub HeldIsCounted : Type 0
HeldIsCounted = (f : ℕ → Entry) (n P C : ℕ) → Accepted f n P C → (q m : ℕ) → length (before f n q m) + returned_by f n q m ≡ pushed_by f n q m

-- after all moments nothing alters;
abbrev pub LeftForGood : Type 0
LeftForGood = (f : ℕ → Entry) (n q m : ℕ) → after_all f n ≤ m → before f n q m ≡ left_in f n q

-- and each node x that was pushed was pushed once, and was returned once or is in one place of P queues, where queue q holds c q: what is left there.
pub record InOnePlace (f : ℕ → Entry) (n : ℕ) (c : ℕ → List ℕ) (P x : ℕ) : Type 0 where
  pub one : times_pushed f n x ≤ 1
  pub place : times_pushed f n x ≡ times_returned f n x + places_of x c P

abbrev pub PushedOnceInOnePlace : Type 0
PushedOnceInOnePlace = (f : ℕ → Entry) (n P C : ℕ) → Accepted f n P C → (x : ℕ) → InOnePlace f n (left_in f n) P x

-- What `left` gives for a log's bytes and a queue. The judge's 11 to 16 refuse it: the log is not whole, or rules 1 to 3 put its calls in no order.
abbrev pub unordered : ℕ → Bool
unordered number = ltb 0 number && leb number 16

abbrev pub left_of : List ℕ → ℕ → List ℕ
left_of bytes q = cond (unordered (judge_of bytes).number) [] (left_in (entry_at bytes) (entry_count_of bytes) q)

-- The refusal, else 0, and how many nodes are left; they stand in front of 256 lent numbers, and 0 in all the others.
pub record Leaves (bytes : List ℕ) (q number count : ℕ) (nodes : List ℕ) : Type 0 where
  pub refused : number ≡ cond (unordered (judge_of bytes).number) (judge_of bytes).number 0
  pub counted : count ≡ length (left_of bytes q)
  pub put : nodes ≡ left_of bytes q ++ replicate (most_entries - length (left_of bytes q)) 0

-- the same in the program's answer: how many nodes are left, or the refusal
abbrev pub refusal_in : Result ℕ Rule → ℕ
refusal_in (Ok count) = 0
refusal_in (Err rule) = rule_number rule

abbrev pub count_in : Result ℕ Rule → ℕ
count_in (Ok count) = count
count_in (Err rule) = 0
