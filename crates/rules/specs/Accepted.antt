-- The rules read aloud, to compare with document 01, "What the judge accepts"; the judge's number is 0 exactly for such a log (`judged_0`).
use Rattle.std.specs.Prelude.{ℕ, suc, ◌+◌, ◌*◌, ◌<◌, ◌≤◌, true, false, cond, List, [], ◌∷◌, ◌++◌, length, get_or, ◌⊎◌, ◌↔◌, ◌≡◌}
use Rattle.base.specs.{Bytes.Bytes, Lists.In, Lists.All, Lists.Pairs}
use Rattle.call_log.specs.{declared.Entry.Entry, declared.What.What, Decode.first_entry, Encode.Log, Encode.InRange, Encode.log_bytes}
use Rattle.call_log.specs.declared.What.TheVariants.{Pushed, Full, BottomNode, BottomNil, TopNode, TopNil, TopLost}
use Rattle.call_log.specs.Numbers.{push, bottom_pop, top_pop, nil, full, lost, most_result, no_moment, what, is_top_nil}
use Rattle.rules.specs.{Contents.bears, Contents.before, Rules.last_end, Judge.judge_of}

-- NIL is 0, and 3 at T4
abbrev pub IsNil : ℕ → Type 0
IsNil result = (result ≡ nil) ⊎ (result ≡ lost)

-- Rule 1. Fields:
pub record Rule1 (P : ℕ) (e : Entry) : Type 0 where
  -- process and queue below P;
  pub process : e.process < P
  pub queue : e.queue < P
  -- kind 1 to 3, result 0 to 3;
  pub kind : (push ≤ e.kind) × (e.kind ≤ top_pop)
  pub result : e.result ≤ most_result
  pub own : (e.kind ≡ push) ⊎ (e.kind ≡ bottom_pop) → e.process ≡ e.queue  -- a push or bottom pop on its own queue;
  -- result 2 for a push only, 0 for pops only, 3 for a top pop only;
  pub full_push : e.result ≡ full → e.kind ≡ push
  pub nil_pop : e.result ≡ nil → e.kind ≡ push → ⊥
  pub lost_top : e.result ≡ lost → e.kind ≡ top_pop
  pub node : (e.node ≡ 0) ↔ IsNil e.result  -- node 0 exactly for NIL;
  -- start ≤ end ≤ 32,766.
  pub start : e.start ≤ e.end
  pub end : e.end ≤ last_end

-- Rule 2, of an entry d before e in the file.
pub record Rule2 (d e : Entry) : Type 0 where
  pub ends_rise : d.end < e.end  -- Ends rise;
  pub starts_after : d.process ≡ e.process → d.end < e.start  -- a process's call starts after its previous call's end.

-- Rule 3.
pub record Rule3 (e : Entry) : Type 0 where
  -- A moment stands where the list has one, from 2 × start to 2 × end + 1 (at most 65,533 by rule 1),
  pub from : bears e ≡ true → 2 * e.start ≤ e.moment
  pub to : bears e ≡ true → e.moment ≤ 2 * e.end + 1
  pub none : bears e ≡ false → e.moment ≡ no_moment  -- and 65,535 stands elsewhere.

-- l lists the numbers of which P holds, each once, greater ones first
pub record Lists (P : ℕ → Type 0) (l : List ℕ) : Type 0 where
  pub only : All P l
  pub once : Pairs (λ i k. k < i) l
  pub every : (i : ℕ) → P i → In i l

module _ (f : ℕ → Entry) (n : ℕ) where
  -- Rule 4, of an entry e that did w and finds its queue holding c, top first.
  abbrev pub Rule4 : Entry → List ℕ → What → Type 0
  -- a push adds a node that no earlier push on any queue added;
  Rule4 e c Pushed = (k : ℕ) → k < n → what (f k) ≡ Pushed → (f k).moment < e.moment → (f k).node ≡ e.node → ⊥
  Rule4 e c Full = Unit {0}
  -- a bottom pop gives the bottom node, or NIL exactly when empty;
  Rule4 e c BottomNode = (rest : List ℕ) × (c ≡ rest ++ (e.node ∷ []))
  Rule4 e c BottomNil = c ≡ []
  -- a top pop gives the top node.
  Rule4 e c TopNode = (rest : List ℕ) × (c ≡ e.node ∷ rest)
  Rule4 e c TopNil = Unit {0}
  Rule4 e c TopLost = Unit {0}

  -- Rule 5: from moment 2 × start to 2 × end + 1, an instant at which the queue is empty (after all moments up to it),
  pub record EmptyIn (e : Entry) : Type 0 where
    pub instant : ℕ
    pub from : 2 * e.start ≤ instant
    pub to : instant ≤ 2 * e.end + 1
    pub empty : before f n e.queue (suc instant) ≡ []

  -- or a removal of the topmost node by another process: at the top, or at the bottom where it is the one node.
  pub record RemovedIn (e : Entry) : Type 0 where
    pub by : ℕ
    pub below : by < n
    pub queue : (f by).queue ≡ e.queue
    pub other : (f by).process ≡ e.process → ⊥
    pub from : 2 * e.start ≤ (f by).moment
    pub to : (f by).moment ≤ 2 * e.end + 1
    pub topmost : (what (f by) ≡ TopNode) ⊎ ((what (f by) ≡ BottomNode) × (length (before f n e.queue (f by).moment) ≡ 1))

  -- Rule 6 speaks of calls that come before and after one another: `at` says where each entry stands.
  -- Entry i did w, on the queue of the FULL j, before the FULL and after the latest NIL bottom pop there before the FULL: after each one.
  pub record Counts (at : ℕ → ℕ) (w : What) (j i : ℕ) : Type 0 where
    pub below : i < n
    pub did : what (f i) ≡ w
    pub queue : (f i).queue ≡ (f j).queue
    pub before : at i < at j
    pub after : (k : ℕ) → k < n → what (f k) ≡ BottomNil → (f k).queue ≡ (f j).queue → at k < at j → at k < at i

  -- Of the done pushes and the node-giving bottom pops that count for the FULL j, all of them listed, pushes less pops are at least C.
  pub record Rule6 (at : ℕ → ℕ) (C j : ℕ) : Type 0 where
    pub pushes : List ℕ
    pub pops : List ℕ
    pub pushes_are : Lists (Counts at Pushed j) pushes
    pub pops_are : Lists (Counts at BottomNode j) pops
    pub enough : C + length pops ≤ length pushes

  -- A log f of n entries, P processes and C slots is accepted:
  pub record Accepted (P C : ℕ) : Type 0 where
    pub rule1 : (j : ℕ) → j < n → Rule1 P (f j)  -- Rule 1. Fields,
    pub rule2 : (i j : ℕ) → i < j → j < n → Rule2 (f i) (f j)  -- Rule 2, of every entry and every later one,
    -- Rule 3. Moments, and all moments differ,
    pub rule3 : (j : ℕ) → j < n → Rule3 (f j)
    pub differ : (i j : ℕ) → i < j → j < n → bears (f i) ≡ true → bears (f j) ≡ true → (f i).moment ≡ (f j).moment → ⊥
    -- Rule 4, just before each call's moment,
    pub rule4 : (j : ℕ) → j < n → Rule4 (f j) (before f n (f j).queue (f j).moment) (what (f j))
    -- Rule 5. A top pop with NIL, at T2 or at T4, has its cause,
    pub rule5 : (j : ℕ) → j < n → is_top_nil (what (f j)) ≡ true → EmptyIn (f j) ⊎ RemovedIn (f j)
    pub rule6 : (j : ℕ) → j < n → what (f j) ≡ Full → Rule6 (λ i. i) C j  -- Rule 6. FULL, by place in the log.

-- entry i of a list; past the end, as bytes past the end read, all numbers are 0
abbrev pub entry_of : List Entry → ℕ → Entry
entry_of es i = get_or es i (first_entry [])

abbrev pub AcceptedLog : Log → Type 0
AcceptedLog l = Accepted (entry_of l.entries) (length l.entries) l.P l.C

-- bytes that are those of an accepted log
pub record AcceptedBytes (bytes : List ℕ) : Type 0 where
  pub log : Log
  pub in_range : InRange log
  pub accepted : AcceptedLog log
  pub is : bytes ≡ log_bytes log

-- The judge gives 0 exactly for the bytes of an accepted log.
abbrev pub JudgedZero : Type 0
JudgedZero = (bytes : List ℕ) → Bytes bytes → ((judge_of bytes).number ≡ 0) ↔ AcceptedBytes bytes

-- By moments rule 6 is the same: its calls are the owner's own, in the same order by rules 1 to 3. Before a FULL is before its start.
abbrev pub time : Entry → ℕ
time e = cond (bears e) e.moment (2 * e.start)

abbrev pub SameByMoments : Type 0
SameByMoments =
    (f : ℕ → Entry) (n P C : ℕ) → ((j : ℕ) → j < n → Rule1 P (f j)) → ((i j : ℕ) → i < j → j < n → Rule2 (f i) (f j)) → ((j : ℕ) → j < n → Rule3 (f j))
    → (j : ℕ) → j < n → what (f j) ≡ Full → Rule6 f n (λ i. i) C j ↔ Rule6 f n (λ i. time (f i)) C j
