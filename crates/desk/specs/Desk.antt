-- The desk: what it gives back for a stage lent with a word and slots, and the word and the slots after it. The step is the table's.
use Rattle.std.specs.Prelude.{ℕ, cond, List, [], length, Result, Ok, Err, ◌≡◌}
use Rattle.steps.specs.{Step.stored, Step.stepped_on, Step.stage_after, Step.result_of as next_result, declared.Next.Next, declared.Next.TheVariants.Going}
use Rattle.word.specs.{Range.in_range, declared.Word.Word, declared.Stage.Stage}

-- what follows the step, or, of a refusal, the stage as it was lent
abbrev pub Answer : Type 0
Answer = Result Next Stage

-- document 01's number for an answer
abbrev pub number_of : Answer → ℕ
number_of (Ok next) = 0
number_of (Err s) = 10

-- what an answer says, in the words of the table; a refusal leaves the process at the stage that was lent
abbrev pub next_in : Answer → Next
next_in (Ok next) = next
next_in (Err s) = Going s

-- where the process stands after it; and of a call that ended, its result and its node as in the log
abbrev pub stage_of : Answer → Stage
stage_of a = stage_after (next_in a)

abbrev pub result_of : Answer → List ℕ
result_of a = next_result (next_in a)

-- the table's step where it is in range; else a refusal, which alters nothing and gives the stage back as lent
abbrev pub desk_answer : ℕ → ℕ → Word → List ℕ → Stage → Answer
desk_answer W C w slots s = cond (in_range W C (length slots) w s) (Ok (stepped_on W C w slots s).next) (Err s)

abbrev pub desk_word : ℕ → ℕ → Word → List ℕ → Stage → Word
desk_word W C w slots s = cond (in_range W C (length slots) w s) (stepped_on W C w slots s).word w

abbrev pub desk_slots : ℕ → ℕ → Word → List ℕ → Stage → List ℕ
desk_slots W C w slots s = cond (in_range W C (length slots) w s) (stored slots (stepped_on W C w slots s).store) slots

-- what the desk promises of its answer, with this paper's number and values, and of the word and the slots after it: 10 exactly where out of range
pub record AtDesk (W C : ℕ) (w : Word) (slots : List ℕ) (s : Stage) (answer : Answer) (word : Word) (after : List ℕ) : Type 0 where
  pub answered : answer ≡ desk_answer W C w slots s
  pub numbered : number_of answer ≡ cond (in_range W C (length slots) w s) 0 10
  pub staged : stage_of answer ≡ cond (in_range W C (length slots) w s) (stage_after (stepped_on W C w slots s).next) s
  pub resulted : result_of answer ≡ cond (in_range W C (length slots) w s) (next_result (stepped_on W C w slots s).next) []
  pub altered : word ≡ desk_word W C w slots s
  pub kept : after ≡ desk_slots W C w slots s
