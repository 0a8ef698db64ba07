-- The tag: with W bits the tag after 2^W − 1 is 0. With none (W = 0) it is always 0, and so is its next value.
use Rattle.std.specs.Prelude.{ℕ, ◌+◌, ◌%◌, ◌^◌, Bool, ltb}

abbrev pub next_tag : ℕ → ℕ → ℕ
next_tag W g = (g + 1) % 2 ^ W

abbrev pub is_tag : ℕ → ℕ → Bool
is_tag W g = ltb g (2 ^ W)
