-- C-17. What is left on the table, of every closed run without gone-round takes: of the bytes of its log and the numbers of its table.
use Rattle.std.specs.Prelude.{ℕ, ◌+◌, ◌-◌, ◌*◌, ◌<◌, ◌≤◌, List, [], ◌∷◌, ◌++◌, map, length, get_or, take, replicate, ◌≡◌, refl}
use Rattle.base.specs.{Bytes.Bytes, Lists.list_of}
use Rattle.call_log.specs.{Decode.processes_of, Decode.slots_of, Decode.entry_count_of, Decode.entry_at, Encode.log_bytes}
use Rattle.rules.specs.Contents.{before}
use Rattle.rules.specs.Left.{after_all, left_in, nodes_by, times_pushed, times_returned, places_of, InOnePlace, Leaves}
use Rattle.runs.specs.{Promise.HandsBack, Run.Outcome, Run.table_row_length, Run.run_of}
use Rattle.runs.specs.Worked.{Case, room, K1, K2, K3, K4, K5, K6, three_queues}

-- the table's bottom and top of queue q
abbrev pub bottom_in : List ℕ → ℕ → ℕ
bottom_in table q = get_or table (table_row_length * q) 0

abbrev pub top_in : List ℕ → ℕ → ℕ
top_in table q = get_or table (table_row_length * q + 1) 0

-- what the slots from top up to bottom hold, in order
abbrev pub on_table : List ℕ → ℕ → List ℕ
on_table table q = list_of (bottom_in table q - top_in table q) (λ i. get_or table (table_row_length * q + 3 + (top_in table q + i)) 0)

-- the nodes that the log's moments leave in queue q
abbrev pub left_by : List ℕ → ℕ → List ℕ
left_by log q = left_in (entry_at log) (entry_count_of log) q

-- in queue q,
pub record LeftHere (log table : List ℕ) (q : ℕ) : Type 0 where
  -- the slots from top up to bottom hold, in order, exactly the nodes that the log's moments leave there,
  pub here : on_table table q ≡ left_by log q
  -- top being at most bottom, and bottom at most C;
  pub ordered : top_in table q ≤ bottom_in table q
  pub within : bottom_in table q ≤ slots_of log
  -- none when bottom equals top, and only then;
  pub none : bottom_in table q ≡ top_in table q → left_by log q ≡ []
  pub only_then : left_by log q ≡ [] → bottom_in table q ≡ top_in table q
  -- and the count of left nodes, taken from the log, is bottom less top.
  pub counted : nodes_by (entry_at log) (entry_count_of log) q (after_all (entry_at log) (entry_count_of log)) ≡ bottom_in table q - top_in table q

pub record LeftOnTable (log table : List ℕ) : Type 0 where
  pub queues : (q : ℕ) → q < processes_of log → LeftHere log table q
  -- The nodes with a done push are those returned plus those left, each in one place.
  pub nodes : (x : ℕ) → InOnePlace (entry_at log) (entry_count_of log) (on_table table) (processes_of log) x

abbrev pub EveryRunLeaves : Type 0
EveryRunLeaves = (file : List ℕ) → Bytes file → (room : ℕ) → (run_of file room).number ≡ 0 → (run_of file room).gone ≡ 0
    → LeftOnTable (run_of file room).log (run_of file room).table

-- The same of the programs, by their promises; a report begins with the number and ends with the gone-round takes. `left` gives what is on the table.
abbrev pub RunThenLeft : Type 0
RunThenLeft = (file : List ℕ) → Bytes file → (room : ℕ) (front report table : List ℕ) → HandsBack file room front report table
    → get_or report 0 0 ≡ 0 → get_or report 3 0 ≡ 0 → (q : ℕ) → q < processes_of front → (number count : ℕ) (nodes : List ℕ) → Leaves front q number count nodes
    → (number ≡ 0) × (take count nodes ≡ on_table table q)

-- Computed: of each of the first three queues, what is on the table, what the log leaves, and how many by its calls.
abbrev found : Outcome → ℕ → List (List ℕ)
found o q =
    on_table o.table q ∷ left_by o.log q
    ∷ (nodes_by (entry_at o.log) (entry_count_of o.log) q (after_all (entry_at o.log) (entry_count_of o.log)) ∷ []) ∷ []

abbrev leaves : List ℕ → List (List ℕ)
leaves nodes = nodes ∷ nodes ∷ (length nodes ∷ []) ∷ []

-- K4's gone-round take: node 1 is returned twice, and node 3 neither returned nor left
abbrev times : Outcome → ℕ → List ℕ
times o x =
    times_pushed (entry_at o.log) (entry_count_of o.log) x ∷ times_returned (entry_at o.log) (entry_count_of o.log) x
    ∷ places_of x (on_table o.table) (processes_of o.log) ∷ []

-- and with its T4 before the last push the log leaves node 3, which is not between top and bottom
abbrev earlier : List ℕ
earlier = take 28 K4.file ++ (0 ∷ 0 ∷ 0 ∷ 1 ∷ 1 ∷ 1 ∷ []) ++ replicate 15 0 ++ (1 ∷ 0 ∷ 0 ∷ 0 ∷ [])

pub worked : (map (λ (k : Case). found (run_of k.file (room k)) 0) (K1 ∷ K2 ∷ K3 ∷ K5 ∷ K6 ∷ [])
    ≡ leaves [] ∷ leaves [] ∷ leaves (6 ∷ []) ∷ leaves (3 ∷ []) ∷ leaves (7 ∷ []) ∷ [])
    × (map (found (run_of three_queues.file (room three_queues))) (0 ∷ 1 ∷ 2 ∷ []) ≡ leaves (2 ∷ 4 ∷ []) ∷ leaves (12 ∷ 13 ∷ []) ∷ leaves (22 ∷ []) ∷ [])
    × (map (times (run_of K4.file (room K4))) (1 ∷ 3 ∷ []) ≡ (1 ∷ 2 ∷ 0 ∷ []) ∷ (1 ∷ 0 ∷ 0 ∷ []) ∷ [])
    × (found (run_of earlier (room K4)) 0 ≡ [] ∷ (3 ∷ []) ∷ (0 ∷ []) ∷ [])
unfolding run_of log_bytes entry_at before
worked = (refl, refl, refl, refl)
