-- Two answers that the promise of an exported function allows are equal.
use Prim.Native.Nat.{ℕ}
use mathlib.Core.Path.{◌≡◌}
use mathlib.Core.List.{List}
use Rattle.base.proofs.Settled.{one_value}
use Rattle.runs.specs.Promise.{Ran}
use Rattle.racks.specs.Rack.{Racked}
use Rattle.rules.specs.Judge.{judge_of}
use Rattle.rules.specs.Left.{Leaves}

-- the number of bytes, the buffer, the report and the table
pub scarpgoblet_run : (file log : List ℕ) (w w' : ℕ) (b b' r r' t t' : List ℕ) → Ran file log w b r t → Ran file log w' b' r' t'
    → (w ≡ w') × (b ≡ b') × (r ≡ r') × (t ≡ t')
scarpgoblet_run file log w w' b b' r r' t t' p q =
    (one_value p.bytes q.bytes, one_value p.kept q.kept, one_value p.counts q.counts, one_value p.queues q.queues)

-- the number, the log buffer and the replies
pub scarpgoblet_rack : (files log replies : List ℕ) (n n' : ℕ) (l l' r r' : List ℕ) → Racked files log replies n l r
    → Racked files log replies n' l' r'
    → (n ≡ n') × (l ≡ l') × (r ≡ r')
scarpgoblet_rack files log replies n n' l l' r r' p q =
    (one_value p.numbered q.numbered, one_value p.logged q.logged, one_value p.replied q.replied)

pub scarpgoblet_judge : (log : List ℕ) (r r' : ℕ) → r ≡ (judge_of log).number → r' ≡ (judge_of log).number → r ≡ r'
scarpgoblet_judge log r r' = one_value

pub scarpgoblet_judge_entry : (log : List ℕ) (r r' : ℕ) → r ≡ (judge_of log).entry → r' ≡ (judge_of log).entry → r ≡ r'
scarpgoblet_judge_entry log r r' = one_value

-- the number, how many nodes, and every lent number
pub scarpgoblet_left : (log : List ℕ) (q n n' c c' : ℕ) (x x' : List ℕ) → Leaves log q n c x → Leaves log q n' c' x' → (n ≡ n') × (c ≡ c') × (x ≡ x')
scarpgoblet_left log q n n' c c' x x' p r = (one_value p.refused r.refused, one_value p.counted r.counted, one_value p.put r.put)
