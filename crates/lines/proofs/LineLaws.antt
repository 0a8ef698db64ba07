-- What is known of C.
use Prim.Native.Nat.{ℕ, ◌≤◌}
use mathlib.Core.Path.{◌≡◌, ap}
use mathlib.Core.List.{List}
use native.Mathlib.Omega.{arith}
use Rattle.std.specs.Prelude.{Option, Some, None, Result, Ok}
use Rattle.word.specs.declared.Sizes.{Sizes}
use Rattle.lines.specs.declared.SizesWhy.{SizesWhy}
use Rattle.words.specs.declared.Words.{Words}
use Rattle.words.specs.Words.{start, words_of}
use Rattle.base.proofs.Cases.{if_eq, if_lt}
use Rattle.lines.specs.Line.{number, size_in, width_in, sizes_in, sizes_of}

abbrev Most : ℕ → ℕ → Result Sizes SizesWhy → Type 0
Most W C r = r ≡ Ok record { width = W; size = C } → C ≤ 64

size_of : (W C V : ℕ) (size : Option ℕ) → Most W C (size_in V size)
size_of W C V None = λ e. cc
size_of W C V (Some D) =
    if_lt (Most W C) D 1 (λ _ e. cc)
    (λ _. if_lt (Most W C) 64 D (λ _ e. cc)
    (λ l e. let same : ◌≡◌ {A = Sizes} (record { width = V; size = D }) (record { width = W; size = C }) = cc in
    let d : D ≡ C = ap (λ (z : Sizes). z.size) same in omega arith))

width_of : (W C : ℕ) (width size : Option ℕ) → Most W C (width_in width size)
width_of W C None size = λ e. cc
width_of W C (Some V) size = if_lt (Most W C) 16 V (λ _ e. cc) (λ _. size_of W C V size)

words_of_two : (W C : ℕ) (w : Words) → Most W C (sizes_in w)
words_of_two W C w =
    if_eq (Most W C) w.count 1 (λ _ e. cc)
    (λ _. if_eq (Most W C) w.count 3 (λ _. width_of W C (number w 0) (number w 1))
    (λ _ e. cc))

-- a C that is read is at most 64
pub size_most : (s : List ℕ) (W C : ℕ) → sizes_of s ≡ Ok record { width = W; size = C } → C ≤ 64
size_most s W C = words_of_two W C (words_of (start 1) s)
