-- Two answers that one promise allows are equal: every promise here is an equation, or a record of equations.
use Prim.Native.Nat.{ℕ, ◌/◌, ◌%◌, ◌<◌}
use mathlib.Core.Path.{◌≡◌, sym, ◌∙◌}
use mathlib.Core.List.{List}
use Rattle.base.specs.Bytes.{joined, byte_at, number_at, put_at}

pub one_value : {A : Type 0} {x y z : A} → x ≡ z → y ≡ z → x ≡ y
one_value p q = p ∙ sym q

-- a number that is widened, which is the library's work now: its answer, and how small it is
pub cast : (most x r r' : ℕ) → (r ≡ x) × (r < most) → (r' ≡ x) × (r' < most) → r ≡ r'
cast most x r r' p q = one_value p.0 q.0

pub joined_settled : (high low r r' : ℕ) → r ≡ joined high low → r' ≡ joined high low → r ≡ r'
joined_settled high low r r' = one_value

pub high_settled : (x r r' : ℕ) → r ≡ x / 256 → r' ≡ x / 256 → r ≡ r'
high_settled x r r' = one_value

pub low_settled : (x r r' : ℕ) → r ≡ x % 256 → r' ≡ x % 256 → r ≡ r'
low_settled x r r' = one_value

pub byte_at_lem : (bytes : List ℕ) (at r r' : ℕ) → r ≡ byte_at bytes at → r' ≡ byte_at bytes at → r ≡ r'
byte_at_lem bytes at r r' = one_value

pub number_at_lem : (bytes : List ℕ) (at r r' : ℕ) → r ≡ number_at bytes at → r' ≡ number_at bytes at → r ≡ r'
number_at_lem bytes at r r' = one_value

-- the buffer at exit
pub put : {A : Type 0} (at : ℕ) (items buffer r r' : List A) → r ≡ put_at at items buffer → r' ≡ put_at at items buffer → r ≡ r'
put at items buffer r r' = one_value
