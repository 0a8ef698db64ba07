-- Top and tag in one word, and all slots in one row: every step, log and count is as in the layout before, and the desk shows the same numbers.
use Rattle.std.specs.Prelude.{ℕ, ◌<◌, true, List, length, take, Ok, ◌≡◌}
use Rattle.word.specs.{Range.in_range, declared.Word.Word, declared.Stage.Stage}
use Rattle.steps.specs.{Step.stored, Step.stepped_on, Step.Stepped, declared.PackedWord.PackedWord, Packed.PackedStep}
use Rattle.steps.specs.Packed.{packed, packed_word, unpacked, unpacked_step, StepPacked}
use Rattle.desk.specs.Desk.{AtDesk}
use Rattle.runs.specs.Promise.{Ran, HandsBack}

pub record OneWord : Type 0 where
  -- every step on a packed word, unpacked, is the table's step, and the word that it leaves is the packing of that step's age, where it is in range
  pub every_step : (W C : ℕ) (w : PackedWord) (slots : List ℕ) (s : Stage) (answer : PackedStep) (after : List ℕ) → StepPacked W C w slots s answer after
      → in_range W C (length slots) (unpacked w) s ≡ true → let o : Stepped = stepped_on W C (unpacked w) slots s in
      (unpacked_step answer ≡ o) × (answer.word.age.word ≡ packed o.word.top o.word.tag) × (after ≡ stored slots o.store)
  -- every run's log, counts and table are those of the definition, and so those of any other bench that keeps the promise, whatever its layout
  pub every_run : (file buffer : List ℕ) (w w' : ℕ) (b b' r r' t t' : List ℕ) → Ran file buffer w b r t → Ran file buffer w' b' r' t'
      → HandsBack file (length buffer) (take w b) r t × (take w b ≡ take w' b') × (r ≡ r') × (t ≡ t')
  -- a word of the desk's three numbers, packed, stepped and unpacked, is what the desk promises in range
  pub desk_same : (W C : ℕ) (w : Word) (slots : List ℕ) (s : Stage) (answer : PackedStep) (after : List ℕ) → w.top < 65536
      → StepPacked W C (packed_word w) slots s answer after → in_range W C (length slots) w s ≡ true
      → AtDesk W C w slots s (Ok answer.next) (unpacked answer.word) after
