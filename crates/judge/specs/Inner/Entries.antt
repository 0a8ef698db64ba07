-- The entries of a log as arrays of twelve bytes, and what a pass over them finds.
use Rattle.std.specs.Prelude.{ℕ, List, [], get_or, Option, Some, None, cond, ltb}
use Rattle.call_log.specs.declared.Entry.{Entry}
use Rattle.call_log.specs.Decode.{first_entry}

-- entry i; past the last one `no_entry`, as in `entry_at`
abbrev pub entries_in : List (List ℕ) → ℕ → Entry
entries_in entries i = first_entry (get_or entries i [])

-- the entry at fault, where it is one of n
abbrev pub found : ℕ → ℕ → Option ℕ
found n j = cond (ltb j n) (Some j) None
