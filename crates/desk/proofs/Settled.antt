-- What the public functions promise settles their answers: two answers that a promise allows are equal.
use mathlib.Core.Path.{◌≡◌}
use mathlib.Core.List.{List}
use Prim.Native.Nat.{ℕ}
use Rattle.base.proofs.Settled.{one_value}
use Rattle.word.specs.declared.Word.{Word}
use Rattle.word.specs.declared.Stage.{Stage}
use Rattle.desk.specs.Desk.{Answer, AtDesk}

-- of the desk's steps, the word lent or by value
pub at_desk : (W C : ℕ) (w : Word) (slots : List ℕ) (s : Stage) (a a' : Answer) (v v' : Word) (l l' : List ℕ) →
    AtDesk W C w slots s a v l → AtDesk W C w slots s a' v' l' → (a ≡ a') × (v ≡ v') × (l ≡ l')
at_desk W C w slots s a a' v v' l l' p q =
    (one_value p.answered q.answered, one_value p.altered q.altered, one_value p.kept q.kept)
