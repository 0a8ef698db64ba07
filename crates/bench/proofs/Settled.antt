-- What the public functions promise settles their answers: two answers that a promise allows are equal.
use Prim.Native.Nat.{ℕ}
use mathlib.Core.Path.{◌≡◌}
use mathlib.Core.List.{List}
use Rattle.base.proofs.Settled.{one_value}
use Rattle.runs.specs.Promise.{Ran, HandsBack}

-- of run_len and scarpgoblet_run: the number of bytes, the buffer, the report and the table
pub run_len_settled : (file buffer : List ℕ) (w w' : ℕ) (b b' r r' t t' : List ℕ) → Ran file buffer w b r t → Ran file buffer w' b' r' t'
    → (w ≡ w') × (b ≡ b') × (r ≡ r') × (t ≡ t')
run_len_settled file buffer w w' b b' r r' t t' p q =
    (one_value p.bytes q.bytes, one_value p.kept q.kept, one_value p.counts q.counts, one_value p.queues q.queues)

-- of run: the part, the report and the table
pub run_settled : (file : List ℕ) (room : ℕ) (l l' r r' t t' : List ℕ) → HandsBack file room l r t → HandsBack file room l' r' t'
    → (l ≡ l') × (r ≡ r') × (t ≡ t')
run_settled file room l l' r r' t t' p q = (one_value p.part q.part, one_value p.counts q.counts, one_value p.queues q.queues)
