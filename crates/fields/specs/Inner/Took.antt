-- What the search for causes keeps of takes.
use Rattle.std.specs.Prelude.{cond, ℕ, ◌+◌}
use Rattle.call_log.specs.declared.Entry.{Entry}
use Rattle.call_log.specs.declared.What.TheVariants.{TopNode}
use Rattle.call_log.specs.Numbers.{what, same}

-- the moment after the last take from the top, where it was t before the call
abbrev pub took_after : Entry → ℕ → ℕ
took_after e t = cond (same TopNode (what e)) (e.moment + 1) t
