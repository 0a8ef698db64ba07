-- The run file: what it says, where its bytes stand, and the number that refuses it.
use Rattle.std.specs.Prelude.{ℕ, zero, suc, ◌+◌, ◌*◌, Bool, false, cond, not, ltb, leb, eqb, List, length, get_or, take, drop, ◌≡◌, Result, Ok, Err}
use Rattle.base.specs.{Bytes.byte_at, Bytes.part, Bytes.number_at, Lists.list_of}
use Rattle.runfile.specs.{declared.Call.Call, declared.Shape.Shape, declared.Refusal.Refusal}
use Rattle.runfile.specs.declared.Call.TheVariants.{Push, Pop, Take}
use Rattle.runfile.specs.declared.Refusal.TheVariants.{WrongCall, WrongNode}
use Rattle.runfile.specs.Refusals.{refusal_number, refusal_of, number_in}
use Rattle.runfile.specs.Check.{◌when◌, ◌then◌, ◌ends_before◌, any, first_of, sum, outside}

-- What a run file says: W, C, each process's share of the calls (P is the number of shares), the calls, and the schedule.
pub record RunFile : Type 0 where
  pub width : ℕ
  pub size : ℕ
  pub shares : List ℕ
  pub calls : List Call
  pub schedule : List ℕ

-- the script of process p: its share of the calls, after those of the processes below p
abbrev pub script : RunFile → ℕ → List Call
script f p = take (get_or f.shares p 0) (drop (sum (take p f.shares)) f.calls)

-- Section 1's count, and the most that W, C, P, a script length and the schedule's length may be.
abbrev pub section_count : ℕ
section_count = 2

abbrev pub most_width : ℕ
most_width = 16

abbrev pub most_size : ℕ
most_size = 64

abbrev pub most_processes : ℕ
most_processes = 8

abbrev pub longest_script : ℕ
longest_script = 32

abbrev pub longest_schedule : ℕ
longest_schedule = 4096

-- Where the bytes stand. Only section 1, W and C look at the first three bytes: a file whose section 1 has one byte more has all
-- else where it stands here, when its first byte is taken away.
abbrev pub width_in : List ℕ → ℕ
width_in s = byte_at s 1

abbrev pub size_in : List ℕ → ℕ
size_in s = byte_at s 2

-- Section 2: P, then the script lengths.
abbrev pub processes_in : List ℕ → ℕ
processes_in s = byte_at s 3

abbrev pub share_place : ℕ → ℕ
share_place p = 4 + p

abbrev pub length_at : List ℕ → ℕ → ℕ
length_at s p = byte_at s (share_place p)

abbrev pub first_lengths : List ℕ → ℕ → List ℕ
first_lengths s p = part s (share_place 0) p

-- the number of calls before those of process p
abbrev pub calls_before : List ℕ → ℕ → ℕ
calls_before s p = sum (first_lengths s p)

-- Section 3: the number of calls, then each call in three bytes, a code and an argument.
abbrev pub calls_in : List ℕ → ℕ
calls_in s = number_at s (share_place (processes_in s))

abbrev pub call_place : ℕ → ℕ → ℕ
call_place processes k = 6 + processes + 3 * k

abbrev pub calls_end : List ℕ → ℕ
calls_end s = call_place (processes_in s) (calls_in s)

-- 1 and a node; 2 and 0; 3 and a queue number below P; else what refuses it
abbrev pub call_of : ℕ → ℕ → ℕ → Result Call Refusal
call_of processes code argument =
    cond (eqb code 1) (cond (eqb argument 0) (Err WrongNode) (Ok (Push argument)))
    (cond (eqb code 2) (cond (eqb argument 0) (Ok Pop) (Err WrongCall))
    (cond (eqb code 3) (cond (ltb argument processes) (Ok (Take argument)) (Err WrongCall))
    (Err WrongCall)))

abbrev pub coded_at : List ℕ → ℕ → ℕ → Result Call Refusal
coded_at s processes k = call_of processes (byte_at s (call_place processes k)) (number_at s (call_place processes k + 1))

-- the call that is said; no good file has three bytes that say none
abbrev pub call_in : Result Call Refusal → Call
call_in (Ok call) = call
call_in (Err why) = Pop

abbrev pub call_at : List ℕ → ℕ → ℕ → Call
call_at s processes k = call_in (coded_at s processes k)

abbrev pub first_calls : List ℕ → ℕ → ℕ → List Call
first_calls s processes n = list_of n (call_at s processes)

-- Section 4: the schedule's length, then a byte per step.
abbrev pub steps_in : List ℕ → ℕ
steps_in s = number_at s (calls_end s)

abbrev pub step_place : ℕ → ℕ → ℕ → ℕ
step_place processes calls k = call_place processes calls + 2 + k

abbrev pub steps_start : List ℕ → ℕ
steps_start s = step_place (processes_in s) (calls_in s) 0

abbrev pub steps_end : List ℕ → ℕ
steps_end s = step_place (processes_in s) (calls_in s) (steps_in s)

-- what the bytes of a good file say
abbrev pub record_in : List ℕ → RunFile
record_in s = record {
  width = width_in s;
  size = size_in s;
  shares = first_lengths s (processes_in s);
  calls = first_calls s (processes_in s) (calls_in s);
  schedule = part s (steps_start s) (steps_in s);
}

-- The number that refuses call k, 0 for none: that of its code and argument, or 5 where an earlier call of the file pushes its node.
abbrev pub pushes : ℕ → Call → Bool
pushes node (Push x) = eqb x node
pushes node Pop = false
pushes node (Take queue) = false

abbrev pub wrong_after : List Call → Result Call Refusal → ℕ
wrong_after earlier (Ok (Push node)) = 5 when any (pushes node) earlier
wrong_after earlier (Ok Pop) = 0
wrong_after earlier (Ok (Take queue)) = 0
wrong_after earlier (Err why) = refusal_number why

abbrev pub wrong_at : List ℕ → ℕ → ℕ → ℕ
wrong_at s processes k = wrong_after (first_calls s processes k) (coded_at s processes k)

-- The sections. In each: the count missing (1), the count wrong, contents missing (1), then the contents from the front.
abbrev pub section1 : List ℕ → ℕ
section1 s =
    1 when s ends_before 1
    then 2 when not (eqb (byte_at s 0) section_count)
    then 1 when s ends_before 3
    then 2 when ltb most_width (width_in s)
    then 2 when outside 1 most_size (size_in s)

abbrev pub section2 : List ℕ → ℕ
section2 s =
    1 when s ends_before share_place 0
    then 3 when outside 1 most_processes (processes_in s)
    then 1 when s ends_before share_place (processes_in s)
    then 3 when any (ltb longest_script) (record_in s).shares

abbrev pub section3 : List ℕ → ℕ
section3 s =
    1 when s ends_before call_place (processes_in s) 0
    then 4 when not (eqb (calls_in s) (calls_before s (processes_in s)))
    then 1 when s ends_before calls_end s
    then first_of (wrong_at s (processes_in s)) (calls_in s)

abbrev pub section4 : List ℕ → ℕ
section4 s =
    1 when s ends_before steps_start s
    then 6 when ltb longest_schedule (steps_in s)
    then 1 when s ends_before steps_end s
    then 6 when any (leb (processes_in s)) (record_in s).schedule

-- Sections 2 to 4, and the bytes after them.
abbrev pub later_sections : List ℕ → ℕ
later_sections s = section2 s then section3 s then section4 s then 7 when ltb (steps_end s) (length s)

-- the number given for a file, 0 for a good one
abbrev pub number_of : List ℕ → ℕ
number_of s = section1 s then later_sections s

-- A file is refused by its number, or good.
pub data Answer : Type 0 where
  refused : ℕ → Answer
  good : RunFile → Answer

abbrev pub answer : ℕ → RunFile → Answer
answer zero f = good f
answer (suc n) f = refused (suc n)

-- Shut where it is only cited, since what it computes to is long.
unfoldable pub file_of : List ℕ → Answer
file_of s = answer (number_of s) (record_in s)

-- The reader's answer: what refuses a file, and of a good one W, C, P and the numbers of calls and steps.
abbrev pub shape_of : RunFile → Shape
shape_of f =
    record { width = f.width; size = f.size; processes = length f.shares; calls = length f.calls; steps = length f.schedule }

abbrev pub reading_of : Answer → Result Shape Refusal
reading_of (refused n) = Err (refusal_of n)
reading_of (good f) = Ok (shape_of f)

-- what `read` promises of its answer
pub record Reads (s : List ℕ) (r : Result Shape Refusal) : Type 0 where
  pub number : number_in r ≡ number_of s
  pub answer : r ≡ reading_of (file_of s)
