-- What the public functions promise settles their answers.
use Rattle.std.proofs.Common.{◌≡◌, ℕ}
use Rattle.base.proofs.Settled.{one_value}
use Rattle.word.specs.declared.Word.{Word}
use Rattle.steps.specs.Packed.{packed, top_of, tag_of, next_age, packed_word, unpacked, unpacked_step, PackedStep}
use Rattle.steps.specs.Step.{Stepped}
use Rattle.steps.specs.declared.PackedAge.{PackedAge}
use Rattle.steps.specs.declared.PackedWord.{PackedWord}

-- of PackedAge::of, top, tag and next_age
pub age_of : (t g : ℕ) (r r' : PackedAge) → r.word ≡ packed t g → r'.word ≡ packed t g → r ≡ r'
age_of t g r r' p q = λ i. record { word = one_value p q i }

pub top : (a r r' : ℕ) → r ≡ top_of a → r' ≡ top_of a → r ≡ r'
top a r r' = one_value

pub tag : (a r r' : ℕ) → r ≡ tag_of a → r' ≡ tag_of a → r ≡ r'
tag a r r' = one_value

pub next_age_lem : (W a : ℕ) (r r' : PackedAge) → r.word ≡ next_age W a → r'.word ≡ next_age W a → r ≡ r'
next_age_lem W a r r' p q = λ i. record { word = one_value p q i }

-- of PackedWord::of and unpacked
pub word_of : (w : Word) (r r' : PackedWord) → r ≡ packed_word w → r' ≡ packed_word w → r ≡ r'
word_of w r r' = one_value

pub unpacked_word : (w : PackedWord) (r r' : Word) → r ≡ unpacked w → r' ≡ unpacked w → r ≡ r'
unpacked_word w r r' = one_value

-- of PackedStep::unpacked
pub unpacked_step_lem : (o : PackedStep) (r r' : Stepped) → r ≡ unpacked_step o → r' ≡ unpacked_step o → r ≡ r'
unpacked_step_lem o r r' = one_value
