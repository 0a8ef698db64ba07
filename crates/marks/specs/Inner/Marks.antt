-- The table of marks: one bit a node.
use Rattle.std.specs.Prelude.{Bool, List, ℕ, ◌/◌, ◌%◌, ◌^◌, eqb, set}
use Rattle.std.specs.Int.Bits.{bit_or}
use Rattle.base.specs.Bytes.{byte_at}

abbrev pub mark_bytes : ℕ
mark_bytes = 8192

-- bit i of a byte, from the lowest on
abbrev pub bit : ℕ → ℕ → ℕ
bit i byte = byte / 2 ^ i % 2

-- whether a node is marked, and the table with its mark
abbrev pub marked : List ℕ → ℕ → Bool
marked marks node = eqb (bit (node % 8) (byte_at marks (node / 8))) 1

abbrev pub with_mark : List ℕ → ℕ → List ℕ
with_mark marks node = set marks (node / 8) (bit_or (byte_at marks (node / 8)) (2 ^ (node % 8)))
