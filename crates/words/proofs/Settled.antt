-- What the public functions promise settles their answers.
use Prim.Native.Nat.{ℕ}
use mathlib.Core.Path.{◌≡◌}
use mathlib.Core.Bool.{Bool}
use mathlib.Core.List.{List}
use Rattle.base.proofs.Settled.{one_value}
use Rattle.std.specs.Prelude.{Option, map}
use Rattle.words.specs.declared.Words.{Words}
use Rattle.words.specs.Words.{start, words_of, small, numbers}

pub words_of_lem : (line : List ℕ) (before : ℕ) (r r' : Words) → r ≡ words_of (start before) line → r' ≡ words_of (start before) line → r ≡ r'
words_of_lem line before r r' = one_value

pub values : (w : Words) (r r' : List ℕ) → r ≡ map small w.numbers → r' ≡ map small w.numbers → r ≡ r'
values w r r' = one_value

-- of each of the values
pub small_of : (n : Option ℕ) (r r' : ℕ) → r ≡ small n → r' ≡ small n → r ≡ r'
small_of n r r' = one_value

pub all_numbers_lem : (w : Words) (r r' : Bool) → r ≡ numbers w → r' ≡ numbers w → r ≡ r'
all_numbers_lem w r r' = one_value
