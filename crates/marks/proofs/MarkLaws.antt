-- Laws of the table of marks: a mark that is set alters its own bit alone, and a cleared table has none.
use mathlib.Core.Path.{◌≡◌, refl, sym, ap, ◌∙◌}
use mathlib.Core.Bool.{true, false}
use mathlib.Core.List.{List}
use Prim.Native.Nat.{ℕ, suc, ◌+◌, ◌-◌, ◌/◌, ◌%◌, ◌^◌, ◌<◌, max}
use native.Mathlib.Decide.{dec_lt}
use native.Mathlib.Omega.{arith}
use native.Mathlib.Nat.{div-eq_of_lt, mul-mod_left, one-mul, pow-suc, zero-div}
use lib.Bits.{bit_or, or_step, or_shr}
use borrow.Author.Tests.{eq-eqb}
use lib.Dec.{eqb}
use lib.ListN.{length, replicate, get_or-replicate}
use lib.Pow.{pow-add, pow-lt, shl-shr}
use lib.Seq.{get_or-set_same}
use Rattle.base.specs.Bytes.{byte_at}
use Rattle.base.proofs.Cases.{if_set}
use Rattle.marks.specs.Inner.Marks.{mark_bytes, bit, marked, with_mark}

-- a bit of an `or` is the greater of the two
bit_or_lem : (i a b : ℕ) → bit i (bit_or a b) ≡ max (bit i a) (bit i b)
bit_or_lem i a b = ap (λ (x : ℕ). x % 2) (or_shr a b i) ∙ lowest (a / 2 ^ i) (b / 2 ^ i)
  where
    lowest : (x y : ℕ) → bit_or x y % 2 ≡ max (x % 2) (y % 2)
    lowest x y = omega (arith, or_step x y)

-- the bits of 2 ^ i
own_bit : (i : ℕ) → bit i (2 ^ i) ≡ 1
own_bit i = ap (bit i) (sym (one-mul (2 ^ i))) ∙ ap (λ (x : ℕ). x % 2) (shl-shr 1 i)

other_bit : (i j : ℕ) → (j ≡ i → ⊥) → bit j (2 ^ i) ≡ 0
other_bit i j h = split (dec_lt i j)
  where
    split : Dec (i < j) → bit j (2 ^ i) ≡ 0
    split (yes q) = ap (λ (x : ℕ). x % 2) (div-eq_of_lt (pow-lt q))
    split (no q) =
        let d = i - j - 1 in
        let e : i ≡ suc d + j = omega arith in
        ap (λ (x : ℕ). bit j (2 ^ x)) e ∙ ap (bit j) (pow-add 2 (suc d) j)
        ∙ ap (λ (x : ℕ). x % 2) (shl-shr (2 ^ suc d) j ∙ pow-suc 2 d) ∙ mul-mod_left (2 ^ d) 2

-- where a mark is set, every other is as before
pub mark_own : (marks : List ℕ) (node : ℕ) → node / 8 < length marks → marked (with_mark marks node) node ≡ true
mark_own marks node h =
    let i = node % 8 in
    let byte = byte_at marks (node / 8) in
    let stored = get_or-set_same marks (node / 8) (bit_or byte (2 ^ i)) 0 h in
    eq-eqb _ _ (ap (bit i) stored ∙ bit_or_lem i byte (2 ^ i) ∙ omega (arith, own_bit i))

pub mark_other : (marks : List ℕ) (node x : ℕ) → node / 8 < length marks → (x ≡ node → ⊥) → marked (with_mark marks node) x ≡ marked marks x
mark_other marks node x h other =
    if_set (λ (b : ℕ). eqb (bit j b) 1 ≡ marked marks x) marks (node / 8) (x / 8) (bit_or byte (2 ^ i)) 0 h
    (λ e. ap (λ (b : ℕ). eqb b 1) (bit_or_lem j byte (2 ^ i) ∙ same e)) (λ _. refl)
  where
    i : ℕ
    i = node % 8

    j : ℕ
    j = x % 8

    byte : ℕ
    byte = byte_at marks (node / 8)

    same : x / 8 ≡ node / 8 → max (bit j byte) (bit j (2 ^ i)) ≡ bit j (byte_at marks (x / 8))
    same e = rw e (omega (arith, other_bit i j (λ z. other (omega (arith, e, z)))))

-- no node is marked in a cleared table
pub none_marked : (node : ℕ) → node < 65536 → marked (replicate mark_bytes 0) node ≡ false
none_marked node h = rw (get_or-replicate {A = ℕ} mark_bytes (node / 8) 0 0 (omega arith), zero-div (2 ^ (node % 8)))
