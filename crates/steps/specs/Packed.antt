-- Top and tag in one word of 32 bits, the tag in the upper sixteen; and what the step on such a word promises.
use Rattle.std.specs.Prelude.{ℕ, ◌+◌, ◌*◌, ◌/◌, ◌%◌, List, ◌≡◌}
use Rattle.word.specs.{Tag.next_tag, declared.Word.Word, declared.Stage.Stage}
use Rattle.steps.specs.{declared.PackedWord.PackedWord, declared.Step.Step}
use Rattle.steps.specs.Step.{Stepped, in_sixteen, stepped_on, StepOn}

-- a step on such a word
abbrev pub PackedStep : Type 0
PackedStep = Step PackedWord

abbrev pub packed : ℕ → ℕ → ℕ
packed t g = g * 65536 + t

abbrev pub top_of : ℕ → ℕ
top_of a = a % 65536

abbrev pub tag_of : ℕ → ℕ
tag_of a = a / 65536

-- the age after a reset: top 0, and the next tag, of 16 bits
abbrev pub next_age : ℕ → ℕ → ℕ
next_age W a = packed 0 (next_tag W (tag_of a) % 65536)

-- the three numbers in the layout of the box, and what such a word stands for
abbrev pub packed_word : Word → PackedWord
packed_word w = record { bottom = w.bottom; age = record { word = packed w.top w.tag } }

abbrev pub unpacked : PackedWord → Word
unpacked w = record { bottom = w.bottom; top = top_of w.age.word; tag = tag_of w.age.word }

abbrev pub unpacked_step : PackedStep → Stepped
unpacked_step o = record { word = unpacked o.word; store = o.store; reset = o.reset; next = o.next }

-- the word of 32 bits that the step leaves is the packing of the age that the table's row leaves; and unpacked the answer is the table's step
pub record StepPacked (W C : ℕ) (w : PackedWord) (slots : List ℕ) (s : Stage) (answer : PackedStep) (after : List ℕ) : Type 0 where
  pub aged : let o : Stepped = in_sixteen (stepped_on W C (unpacked w) slots s) in answer.word.age.word ≡ packed o.word.top o.word.tag
  pub unpacks : StepOn W C (unpacked w) slots s (unpacked_step answer) after
