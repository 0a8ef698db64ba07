-- Each public function's promise settles its result: two results that it allows are equal.
use mathlib.Core.Path.{◌≡◌}
use mathlib.Core.Bool.{Bool}
use mathlib.Core.List.{List}
use Prim.Native.Nat.{ℕ}
use lib.Dec.{leb}
use lib.ListN.{length}
use Rattle.call_log.specs.declared.Entry.{Entry}
use Rattle.call_log.specs.declared.What.{What}
use Rattle.call_log.specs.Numbers.{kind_of, result_of, what_of, what}
use Rattle.base.specs.Bytes.{put_at}
use Rattle.base.proofs.Settled.{one_value}
use Rattle.call_log.specs.Decode.{log_length, first_entry, entry_at}
use Rattle.call_log.specs.Encode.{head_bytes, entry_bytes}

pub kind_of_lem : (w : What) (r s : ℕ) → r ≡ kind_of w → s ≡ kind_of w → r ≡ s
kind_of_lem w r s = one_value

pub result_of_lem : (w : What) (r s : ℕ) → r ≡ result_of w → s ≡ result_of w → r ≡ s
result_of_lem w r s = one_value

pub what_of_lem : (kind result : ℕ) (r s : What) → r ≡ what_of kind result → s ≡ what_of kind result → r ≡ s
what_of_lem kind result r s = one_value

pub what_lem : (e : Entry) (r s : What) → r ≡ what e → s ≡ what e → r ≡ s
what_lem e r s = one_value

-- the two conversions of an entry and its bytes
pub from_bytes : (bytes : List ℕ) (r s : Entry) → r ≡ first_entry bytes → s ≡ first_entry bytes → r ≡ s
from_bytes bytes r s = one_value

pub from_entry : (e : Entry) (r s : List ℕ) → r ≡ entry_bytes e → s ≡ entry_bytes e → r ≡ s
from_entry e r s = one_value

pub entry_at_lem : (bytes : List ℕ) (i : ℕ) (r s : Entry) → r ≡ entry_at bytes i → s ≡ entry_at bytes i → r ≡ s
entry_at_lem bytes i r s = one_value

pub length_of_lem : (n r s : ℕ) → r ≡ log_length n → s ≡ log_length n → r ≡ s
length_of_lem n r s = one_value

pub has_room : (buffer : List ℕ) (n : ℕ) (r s : Bool) → r ≡ leb (log_length n) (length buffer) → s ≡ leb (log_length n) (length buffer) → r ≡ s
has_room buffer n r s = one_value

-- the buffer at exit
pub put_head_lem : (P C n : ℕ) (buffer r s : List ℕ) → r ≡ put_at 0 (head_bytes P C n) buffer → s ≡ put_at 0 (head_bytes P C n) buffer → r ≡ s
put_head_lem P C n buffer r s = one_value

pub put_entry_lem : (at : ℕ) (e : Entry) (buffer r s : List ℕ) → r ≡ put_at at (entry_bytes e) buffer → s ≡ put_at at (entry_bytes e) buffer → r ≡ s
put_entry_lem at e buffer r s = one_value
