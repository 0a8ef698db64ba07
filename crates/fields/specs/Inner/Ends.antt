-- The ends of a queue, and what a call makes of them.
use Rattle.std.specs.Prelude.{cond, ℕ, ◌+◌, ◌-◌, ◌/◌, ◌%◌, leb}
use Rattle.call_log.specs.declared.What.{What}
use Rattle.call_log.specs.declared.What.TheVariants.{Pushed, Full, BottomNode, BottomNil, TopNode, TopNil, TopLost}

-- the ends of a queue are 65,536 × hi + lo: its nodes lie in its row from lo, the top, up to hi
abbrev pub lo_of : ℕ → ℕ
lo_of s = s % 65536

abbrev pub hi_of : ℕ → ℕ
hi_of s = s / 65536

abbrev pub ends_after : What → ℕ → ℕ
ends_after Pushed s = s + 65536
ends_after Full s = s
ends_after BottomNode s = cond (leb (hi_of s) (lo_of s)) s (s - 65536)
ends_after BottomNil s = s
ends_after TopNode s = cond (leb (hi_of s) (lo_of s)) s (s + 1)
ends_after TopNil s = s
ends_after TopLost s = s
