-- What `rack` promises settles its answer: two answers that the promise allows are equal.
use Prim.Native.Nat.{ℕ}
use mathlib.Core.Path.{◌≡◌, refl}
use mathlib.Core.List.{List}
use native.Mathlib.Omega.{arith}
use Rattle.std.specs.Prelude.{Result, Ok, Err}
use Rattle.base.proofs.Settled.{one_value}
use Rattle.racks.specs.declared.Refusal.{Refusal}
use Rattle.racks.specs.declared.Refusal.TheVariants.{NoRack, NoRoom}
use Rattle.racks.specs.Rack.{Racked, number_of}

-- a number stands for one answer
one_answer : (r r' : Result Unit Refusal) → number_of r ≡ number_of r' → r ≡ r'
one_answer (Ok u) (Ok v) e = refl
one_answer (Err NoRack) (Err NoRack) e = refl
one_answer (Err NoRoom) (Err NoRoom) e = refl
one_answer (Ok u) (Err NoRack) e = grind arith
one_answer (Ok u) (Err NoRoom) e = grind arith
one_answer (Err NoRack) (Ok u) e = grind arith
one_answer (Err NoRoom) (Ok u) e = grind arith
one_answer (Err NoRack) (Err NoRoom) e = grind arith
one_answer (Err NoRoom) (Err NoRack) e = grind arith

-- the number, the log buffer and the reply buffer
pub rack_settled : (rack log replies : List ℕ) (n m : ℕ) (l l' r r' : List ℕ) → Racked rack log replies n l r → Racked rack log replies m l' r'
    → (n ≡ m) × (l ≡ l') × (r ≡ r')
rack_settled rack log replies n m l l' r r' p q =
    (one_value p.numbered q.numbered, one_value p.logged q.logged, one_value p.replied q.replied)

-- and the answer that has the number
pub rack_answer : (rack log replies : List ℕ) (a b : Result Unit Refusal) (l l' r r' : List ℕ)
    → Racked rack log replies (number_of a) l r → Racked rack log replies (number_of b) l' r' → a ≡ b
rack_answer rack log replies a b l l' r r' p q = one_answer a b (rack_settled rack log replies (number_of a) (number_of b) l l' r r' p q).0
