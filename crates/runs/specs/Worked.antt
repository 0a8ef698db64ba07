-- K1 to K8 and K13, K4 with no tag, and a run of three queues, computed: bytes in; entries, counts and the first queue's row of the table out.
use Rattle.std.specs.Prelude.{ℕ, suc, ◌-◌, ◌*◌, List, [], ◌∷◌, ◌++◌, map, length, get_or, take, drop, replicate, ◌≡◌, refl}
use Rattle.call_log.specs.{Decode.log_length, Encode.log_bytes, Worked.line, declared.Entry.Entry}
use Rattle.runfile.specs.{Encode.encode, File.record_in, Worked.k1, declared.Call.Call}
use Rattle.runfile.specs.declared.Call.TheVariants.{Push, Pop, Take}
use Rattle.runs.specs.{Run.Outcome, Run.table_row_length, Run.run_of, Shown.own_steps}

pub record Case : Type 0 where
  pub file : List ℕ
  pub steps : ℕ
  pub gone : ℕ
  -- bottom, top, tag and the first four slots of queue 0
  pub row : List ℕ
  pub entries : List Entry

abbrev case : List ℕ → ℕ → ℕ → List ℕ → List Entry → Case
case file steps gone row entries = record { file = file; steps = steps; gone = gone; row = row; entries = entries }

-- the bytes of a file with these W, C, script lengths, calls and schedule
abbrev file_of : ℕ → ℕ → List ℕ → List Call → List ℕ → List ℕ
file_of W C shares calls schedule = encode (record { width = W; size = C; shares = shares; calls = calls; schedule = schedule })

abbrev pub K1 : Case
K1 = case k1 13 0 (0 ∷ 0 ∷ 1 ∷ 7 ∷ 0 ∷ 0 ∷ 0 ∷ []) (
    line 0 0 1 1 7 0 2 4 ∷
    line 1 0 3 1 7 3 8 14 ∷
    line 0 0 2 0 0 6 12 15 ∷
    [])

-- K1's calls, with another schedule
abbrev pub K2 : Case
K2 = case (take 17 k1 ++ (0 ∷ 13 ∷ 0 ∷ 0 ∷ 0 ∷ 1 ∷ 1 ∷ 1 ∷ 0 ∷ 0 ∷ 0 ∷ 0 ∷ 0 ∷ 0 ∷ 1 ∷ [])) 13 0 (0 ∷ 0 ∷ 1 ∷ 7 ∷ 0 ∷ 0 ∷ 0 ∷ []) (
    line 0 0 1 1 7 0 2 4 ∷ line 0 0 2 1 7 6 11 14 ∷ line 1 0 3 3 0 3 12 65535 ∷ [])

abbrev pub K3 : Case
K3 = case
    (file_of 8 4 (2 ∷ 1 ∷ 1 ∷ []) (Push 5 ∷ Push 6 ∷ Take 0 ∷ Take 0 ∷ []) (replicate 6 0 ++ (1 ∷ 1 ∷ 1 ∷ 2 ∷ 2 ∷ 2 ∷ 2 ∷ 1 ∷ [])))
    14 0 (2 ∷ 1 ∷ 0 ∷ 5 ∷ 6 ∷ 0 ∷ 0 ∷ [])
    (line 0 0 1 1 5 0 2 4 ∷ line 0 0 1 1 6 3 5 10 ∷ line 2 0 3 1 5 9 12 24 ∷ line 1 0 3 3 0 6 13 65535 ∷ [])

-- K4's file, with a tag of so many bits, and its entries up to that of the top pop
abbrev file_k4 : ℕ → List ℕ
file_k4 W =
    file_of W 4 (5 ∷ 1 ∷ []) (Push 1 ∷ Pop ∷ Push 2 ∷ Pop ∷ Push 3 ∷ Take 0 ∷ []) (0 ∷ 0 ∷ 0 ∷ 1 ∷ 1 ∷ 1 ∷ (replicate 18 0 ++ (1 ∷ [])))

abbrev entries_k4 : Entry → List Entry
entries_k4 last =
    line 0 0 1 1 1 0 2 4 ∷ line 0 0 2 1 1 6 11 14 ∷ line 0 0 1 1 2 12 14 28 ∷ line 0 0 2 1 2 15 20 32 ∷ line 0 0 1 1 3 21 23 46 ∷ last ∷ []

abbrev pub K4 : Case
K4 = case (file_k4 1) 25 1 (1 ∷ 1 ∷ 0 ∷ 3 ∷ 0 ∷ 0 ∷ 0 ∷ []) (entries_k4 (line 1 0 3 1 1 3 24 48))

-- K4 with no tag: the same log and counts as with W = 1
abbrev pub K4_no_tag : Case
K4_no_tag = case (file_k4 0) K4.steps K4.gone K4.row K4.entries

abbrev pub K5 : Case
K5 = case (file_k4 2) 25 0 (1 ∷ 0 ∷ 2 ∷ 3 ∷ 0 ∷ 0 ∷ 0 ∷ []) (entries_k4 (line 1 0 3 3 0 3 24 65535))

abbrev pub K6 : Case
K6 = case (file_of 8 1 (2 ∷ []) (Push 7 ∷ Push 8 ∷ []) (replicate 4 0)) 4 0 (1 ∷ 0 ∷ 0 ∷ 7 ∷ 0 ∷ 0 ∷ 0 ∷ [])
    (line 0 0 1 1 7 0 2 4 ∷ line 0 0 1 2 8 3 3 65535 ∷ [])

abbrev pub K7 : Case
K7 = case (file_of 8 4 (1 ∷ []) (Pop ∷ []) (0 ∷ [])) 1 0 (replicate 7 0) (line 0 0 2 0 0 0 0 0 ∷ [])

abbrev pub K8 : Case
K8 = case (file_of 8 4 (0 ∷ []) [] []) 0 0 (replicate 7 0) []

abbrev pub runs : List Case
runs = K1 ∷ K2 ∷ K3 ∷ K4 ∷ K4_no_tag ∷ K5 ∷ K6 ∷ K7 ∷ K8 ∷ []

-- W = 16, C = 3, P = 3. Process 0 pushes 1, 2 and 3, pops 3 and pushes 4; process 1 pushes 11, 12 and 13, finds no room for 14, and takes 1 from queue 0;
-- process 2 pushes 21 and pops it, which is a reset, pops nothing, pushes 22, and takes 11 from queue 1, with T4 in the closing
abbrev pub three_queues : Case
three_queues = case (file_of 16 3 (5 ∷ 5 ∷ 5 ∷ []) (
    Push 1 ∷ Push 2 ∷ Push 3 ∷ Pop ∷ Push 4 ∷ Push 11 ∷ Push 12 ∷ Push 13 ∷ Push 14 ∷ Take 0 ∷ Push 21 ∷ Pop ∷ Pop ∷ Push 22 ∷ Take 1 ∷ [])
    (replicate 16 0 ++ (replicate 14 1 ++ replicate 16 2))) 47 0 (3 ∷ 1 ∷ 0 ∷ 1 ∷ 2 ∷ 4 ∷ 0 ∷ []) (
    line 0 0 1 1 1 0 2 4 ∷ line 0 0 1 1 2 3 5 10 ∷ line 0 0 1 1 3 6 8 16 ∷ line 0 0 2 1 3 9 12 20 ∷ line 0 0 1 1 4 13 15 30 ∷
    line 1 1 1 1 11 16 18 36 ∷ line 1 1 1 1 12 19 21 42 ∷ line 1 1 1 1 13 22 24 48 ∷ line 1 1 1 2 14 25 25 65535 ∷ line 1 0 3 1 1 26 29 58 ∷
    line 2 2 1 1 21 30 32 64 ∷ line 2 2 2 1 21 33 38 68 ∷ line 2 2 2 0 0 39 39 78 ∷ line 2 2 1 1 22 40 42 84 ∷ line 2 1 3 1 11 43 46 92 ∷ [])

-- a buffer that is just long enough for all calls of the file, which all end in these runs
abbrev pub room : Case → ℕ
room k = log_length (length k.entries)

-- number, entries, steps and gone-round takes; the row; the log's bytes
abbrev pub shown : Outcome → List (List ℕ)
shown o = (o.number ∷ o.entries ∷ o.steps ∷ o.gone ∷ []) ∷ take 7 o.table ∷ o.log ∷ []

abbrev pub expected : Case → List (List ℕ)
expected k =
    (0 ∷ length k.entries ∷ k.steps ∷ k.gone ∷ []) ∷ k.row
    ∷ log_bytes (record { P = get_or k.file 3 0; C = get_or k.file 2 0; entries = k.entries }) ∷ []

pub worked :
    (map (λ (k : Case). shown (run_of k.file (room k))) (three_queues ∷ runs) ≡ map expected (three_queues ∷ runs))
    -- bottom, top, tag and the slots of each of the three queues
    × (map (λ (q : ℕ). take 6 (drop (table_row_length * q) (run_of three_queues.file (room three_queues)).table)) (0 ∷ 1 ∷ 2 ∷ [])
    ≡ (3 ∷ 1 ∷ 0 ∷ 1 ∷ 2 ∷ 4 ∷ []) ∷ (3 ∷ 1 ∷ 0 ∷ 11 ∷ 12 ∷ 13 ∷ []) ∷ (1 ∷ 0 ∷ 1 ∷ 22 ∷ 0 ∷ 0 ∷ []) ∷ [])
    -- the own steps of the three calls of K1: P1 to P3, T1 to T4, and B1 to B5 with B7, the last four in the closing
    × (map (λ (e : Entry). own_steps (record_in k1) e.process e.start (suc e.end)) K1.entries ≡ 3 ∷ 4 ∷ 6 ∷ [])
    -- K13: a buffer one byte short
    × (map (λ (k : Case). shown (run_of k.file (room k - 1))) runs ≡ map (λ (k : Case). (8 ∷ 0 ∷ 0 ∷ 0 ∷ []) ∷ replicate 7 0 ∷ [] ∷ []) runs)
unfolding run_of log_bytes
worked = (refl, refl, refl, refl)
