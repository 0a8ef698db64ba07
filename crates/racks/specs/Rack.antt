-- A rack of files: a two-byte count, then each file after its two-byte length; its replies, and what it leaves in the log buffer.
use Rattle.std.specs.Prelude.{ℕ, zero, suc, ◌+◌, ◌*◌, cond, ltb, eqb, List, [], ◌∷◌, ◌++◌, length, drop, ◌≡◌, Result, Ok, Err}
use Rattle.base.specs.Bytes.{number_at, pair, part}
use Rattle.rules.specs.{Judge.judge_of, Judge.Verdict}
use Rattle.runs.specs.{Promise.buffer_of, Run.Outcome, Run.run_of}
use Rattle.racks.specs.declared.Refusal.{Refusal}
use Rattle.racks.specs.declared.Refusal.TheVariants.{NoRack, NoRoom}

-- no rack, or its files
pub data Split : Type 0 where
  bad : Split
  files : List (List ℕ) → Split

-- a file before those of a split
abbrev pub before : List ℕ → Split → Split
before file bad = bad
before file (files fs) = files (file ∷ fs)

-- so many files, each after its length, and nothing after the last; a byte of a length past the end reads as 0, and the file then runs past the end
abbrev pub files_in : ℕ → List ℕ → Split
files_in zero s = cond (eqb (length s) 0) (files []) bad
files_in (suc n) s =
    cond (ltb (length s) (2 + number_at s 0)) bad (before (part s 2 (number_at s 0)) (files_in n (drop (2 + number_at s 0) s)))

-- the count, then the files
abbrev pub rack_of : List ℕ → Split
rack_of s = cond (ltb (length s) 2) bad (files_in (number_at s 0) (drop 2 s))

-- the same, written: the rack of files
abbrev pub files_bytes : List (List ℕ) → List ℕ
files_bytes [] = []
files_bytes (f ∷ fs) = pair (length f) ++ (f ++ files_bytes fs)

abbrev pub rack_bytes : List (List ℕ) → List ℕ
rack_bytes fs = pair (length fs) ++ files_bytes fs

-- the judge's number; 0 for a refused file
abbrev pub unless_refused : ℕ → Verdict → ℕ
unless_refused number verdict = cond (eqb number 0) verdict.number 0

-- that of a run's number and its log
abbrev pub judged : ℕ → List ℕ → ℕ
judged number log = unless_refused number (judge_of log)

-- a reply: number, entries, steps, gone-round, judge's number
abbrev pub reply_bytes : ℕ → ℕ → ℕ → ℕ → ℕ → List ℕ
reply_bytes number entries steps gone verdict = (number ∷ []) ++ (pair entries ++ (pair steps ++ (pair gone ++ (verdict ∷ []))))

abbrev pub reply_length : ℕ
reply_length = 8

abbrev pub judge_byte : Outcome → ℕ
judge_byte o = judged o.number o.log

abbrev pub reply_to : Outcome → List ℕ
reply_to o = reply_bytes o.number o.entries o.steps o.gone (judge_byte o)

-- the replies in order
abbrev pub replies_of : ℕ → List (List ℕ) → List ℕ
replies_of room [] = []
replies_of room (f ∷ fs) = reply_to (run_of f room) ++ replies_of room fs

-- the log buffer after the files, each of which lays its log over what the one before left
abbrev pub log_after : ℕ → List (List ℕ) → List ℕ → List ℕ
log_after room [] log = log
log_after room (f ∷ fs) log = log_after room fs (buffer_of (run_of f room) log)

-- all that the call gives: the number, the log buffer and the reply buffer
pub record Answer : Type 0 where
  pub number : ℕ
  pub log : List ℕ
  pub replies : List ℕ

-- a refusal writes nothing
abbrev pub refusal : ℕ → List ℕ → List ℕ → Answer
refusal n log replies = record { number = n; log = log; replies = replies }

-- the rest of the reply buffer keeps its bytes
abbrev pub answered : List (List ℕ) → List ℕ → List ℕ → Answer
answered fs log replies = record {
  number = 0;
  log = log_after (length log) fs log;
  replies = replies_of (length log) fs ++ drop (reply_length * length fs) replies;
}

-- the number of a refusal: 21 for no rack, 22 for too short a reply buffer
abbrev pub refusal_number : Refusal → ℕ
refusal_number NoRack = 21
refusal_number NoRoom = 22

-- that of what `rack` gives back: 0 where it refuses nothing
abbrev pub number_of : {A : Type 0} → Result A Refusal → ℕ
number_of (Ok value) = 0
number_of (Err refused) = refusal_number refused

-- 21 for no rack, then 22 for too short a reply buffer
abbrev pub answer_to : Split → List ℕ → List ℕ → Answer
answer_to bad log replies = refusal 21 log replies
answer_to (files fs) log replies = cond (ltb (length replies) (reply_length * length fs)) (refusal 22 log replies) (answered fs log replies)

-- what `rack` promises: its number and every byte of both lent buffers, for every rack and every buffer
pub record Gives (a : Answer) (number : ℕ) (log' replies' : List ℕ) : Type 0 where
  pub numbered : number ≡ a.number
  pub logged : log' ≡ a.log
  pub replied : replies' ≡ a.replies

abbrev pub Racked : List ℕ → List ℕ → List ℕ → ℕ → List ℕ → List ℕ → Type 0
Racked rack log replies number log' replies' = Gives (answer_to (rack_of rack) log replies) number log' replies'
