-- Bytes, as both files have them: what stands at a place, and numbers of two bytes, high byte first.
use Rattle.std.specs.Prelude.{ℕ, ◌+◌, ◌*◌, ◌/◌, ◌%◌, ◌<◌, cond, leb, List, [], ◌∷◌, ◌++◌, length, get_or, take, drop}

-- a number that fits one byte, and two
abbrev pub Byte : ℕ → Type 0
Byte x = x < 256

abbrev pub Two : ℕ → Type 0
Two x = x < 65536

-- a byte past the end reads as 0
abbrev pub byte_at : List ℕ → ℕ → ℕ
byte_at bytes at = get_or bytes at 0

-- every number of the list is a byte
abbrev pub Bytes : List ℕ → Type 0
Bytes bytes = (i : ℕ) → Byte (byte_at bytes i)

-- so many bytes from a place on
abbrev pub part : List ℕ → ℕ → ℕ → List ℕ
part bytes from count = take count (drop from bytes)

-- the number of two bytes, high byte first, and its two bytes
abbrev pub joined : ℕ → ℕ → ℕ
joined high low = 256 * high + low

abbrev pub number_at : List ℕ → ℕ → ℕ
number_at bytes at = joined (byte_at bytes at) (byte_at bytes (at + 1))

abbrev pub pair : ℕ → List ℕ
pair x = x / 256 ∷ x % 256 ∷ []

-- a buffer with items put in at a place; where there is no room for all of them, as it was
abbrev pub put_at : {A : Type 0} → ℕ → List A → List A → List A
put_at at items buffer = cond (leb (at + length items) (length buffer)) (take at buffer ++ items ++ drop (at + length items) buffer) buffer
