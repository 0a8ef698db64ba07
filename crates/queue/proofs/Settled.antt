-- What the public function promises settles its answer.
use Rattle.std.proofs.Common.{◌≡◌, ℕ, List}
use Rattle.base.proofs.Settled.{one_value}
use Rattle.word.specs.declared.Stage.{Stage}
use Rattle.steps.specs.Packed.{StepPacked, PackedStep}
use Rattle.steps.specs.declared.PackedWord.{PackedWord}

pub step_packed : (W C : ℕ) (w : PackedWord) (slots : List ℕ) (s : Stage) (r r' : PackedStep) (l l' : List ℕ) →
    StepPacked W C w slots s r l → StepPacked W C w slots s r' l' → (r ≡ r') × (l ≡ l')
step_packed W C w slots s r r' l l' p q =
    let e = one_value p.unpacks.stepped q.unpacks.stepped in (
      λ i. record {
        word = record { bottom = (e i).word.bottom; age = record { word = one_value p.aged q.aged i } };
        store = (e i).store;
        reset = (e i).reset;
        next = (e i).next;
      },
      one_value p.unpacks.kept q.unpacks.kept,
    )
