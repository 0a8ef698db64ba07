-- The worked runs K1 to K8, K10 and K14 of document 01, and K4 with no tag, in one list: bytes in; number, entries, counts and verdict out.
use Rattle.std.specs.Prelude.{ℕ, List, [], ◌∷◌, map, ◌≡◌, refl}
use Rattle.runs.specs.Run.{refusal, run_of}
use Rattle.runs.specs.Worked.{Case, room, shown, expected, K1, K2, K3, K4, K4_no_tag, K5, K6, K7, K8}
use Rattle.rules.specs.{Contents.before, Judge.judge_of}
use Rattle.call_log.specs.{Decode.entry_at, Encode.log_bytes}

pub data Worked : Type 0 where
  ran : Case → ℕ → ℕ → Worked  -- a run, with the verdict on its log: the number, and the entry at fault
  refused : List ℕ → ℕ → Worked  -- a run file that is refused, with its number
  judged : List ℕ → ℕ → ℕ → Worked  -- a log, with the verdict on it

abbrev pub worked : List Worked
worked =
    ran K1 0 0 ∷ ran K2 0 0 ∷ ran K3 0 0 ∷ ran K4 17 5 ∷ ran K4_no_tag 17 5 ∷ ran K5 0 0 ∷ ran K6 0 0 ∷ ran K7 0 0 ∷ ran K8 0 0
    ∷ refused [] 1  -- K10: the empty file
    ∷ judged (log_bytes (record { P = 1; C = 2; entries = K6.entries })) 19 1 ∷ []  -- K14: K6's log with C = 2, one push, then FULL

abbrev verdict : List ℕ → List ℕ
verdict log = (judge_of log).number ∷ (judge_of log).entry ∷ []

-- what is found: the verdict; of a run also the number and counts, the first queue's row of the table, and the log
abbrev found : Worked → List (List ℕ)
found (ran k number entry) = verdict (run_of k.file (room k)).log ∷ shown (run_of k.file (room k))
found (refused file number) = shown (run_of file 5)
found (judged log number entry) = verdict log ∷ []

-- what document 01 prints
abbrev printed : Worked → List (List ℕ)
printed (ran k number entry) = (number ∷ entry ∷ []) ∷ expected k
printed (refused file number) = shown (refusal number)
printed (judged log number entry) = (number ∷ entry ∷ []) ∷ []

pub as_printed : map found worked ≡ map printed worked
unfolding run_of log_bytes entry_at before
as_printed = refl
