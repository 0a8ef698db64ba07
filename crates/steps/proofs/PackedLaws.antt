-- Top and tag in one word: packing and unpacking, and that a word of three numbers, packed, stepped and unpacked, keeps the promise of a step on it.
use Rattle.std.proofs.Common.{◌≡◌, ℕ, ◌+◌, ◌*◌, ◌<◌, List, sym, ap, ◌∙◌, subst, mod-lt, div-add-mod', arith}
use Rattle.word.specs.declared.Word.{Word}
use Rattle.word.specs.declared.Stage.{Stage}
use Rattle.steps.specs.Step.{StepOn, Stepped}
use Rattle.steps.specs.Packed.{packed, top_of, tag_of, packed_word, unpacked, unpacked_step, StepPacked, PackedStep}
use Rattle.steps.specs.declared.PackedWord.{PackedWord}

parts : (a : ℕ) → (tag_of a * 65536 + top_of a ≡ a) × (top_of a < 65536)
parts a = (omega (arith, div-add-mod' a 65536), mod-lt a {m = 65536} (omega arith))

pub top_packed : (t g : ℕ) → t < 65536 → top_of (packed t g) ≡ t
top_packed t g h = omega (arith, (parts (packed t g)).0, (parts (packed t g)).1)

pub tag_packed : (t g : ℕ) → t < 65536 → tag_of (packed t g) ≡ g
tag_packed t g h = omega (arith, (parts (packed t g)).0, (parts (packed t g)).1)

pub packed_again : (a : ℕ) → packed (top_of a) (tag_of a) ≡ a
packed_again a = (parts a).0

pub unpacked_packed : (w : Word) → w.top < 65536 → unpacked (packed_word w) ≡ w
unpacked_packed w h = λ i. record { bottom = w.bottom; top = top_packed w.top w.tag h i; tag = tag_packed w.top w.tag h i }

-- a word of three numbers, packed, stepped and unpacked
pub on_three : (W C : ℕ) (w : Word) (slots : List ℕ) (s : Stage) (m : PackedWord) (o : PackedStep) (r : Stepped) (after : List ℕ) → w.top < 65536
    → m ≡ packed_word w
    → StepPacked W C m slots s o after → r ≡ unpacked_step o → StepOn W C w slots s r after
on_three W C w slots s m o r after h e d k =
    subst (λ (x : Stepped). StepOn W C w slots s x after) (sym k)
    (subst (λ (x : Word). StepOn W C x slots s (unpacked_step o) after) (ap unpacked e ∙ unpacked_packed w h) d.unpacks)
