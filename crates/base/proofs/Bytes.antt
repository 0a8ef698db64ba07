-- Laws of bytes: numbers of two bytes and back, parts, lists that are bytes, and what putting bytes into a buffer does.
use Prim.Native.Nat.{ℕ, zero, suc, ◌+◌, ◌/◌, ◌%◌, ◌≤◌, ◌<◌}
use mathlib.Core.Path.{◌≡◌, refl, ◌∙◌}
use mathlib.Core.List.{List, [], ◌∷◌, ◌++◌}
use native.Mathlib.Omega.{arith}
use native.Mathlib.Nat.{div-add-mod'}
use borrow.Author.Tests.{le-leb, lt-leb, leb-true}
use lib.Dec.{leb}
use lib.ListN.{length, get_or, take, drop, length-append, length-drop}
use lib.Seq.{get_or-take, get_or-drop, length-take-le, drop-append-add, take-append_seam}
use Rattle.base.proofs.Cases.{either_way}
use Rattle.base.specs.Bytes.{Byte, Two, Bytes, part, joined, number_at, pair, put_at}

-- a number from its two bytes, and its two bytes from it
pub rejoined : (x : ℕ) → joined (x / 256) (x % 256) ≡ x
rejoined x = omega (arith, div-add-mod' x 256)

pub high : (a b : ℕ) → b < 256 → joined a b / 256 ≡ a
high a b h = omega (arith, div-add-mod' (joined a b) 256)

pub low : (a b : ℕ) → b < 256 → joined a b % 256 ≡ b
low a b h = omega (arith, div-add-mod' (joined a b) 256)

pub number_at-drop : (s : List ℕ) (i : ℕ) → number_at s i ≡ number_at (drop i s) 0
number_at-drop s i =
    let e : i + 0 ≡ i = omega arith in
    rw (get_or-drop i s 0 0, get_or-drop i s 1 0, e)

-- a part
module _ (s : List ℕ) (from count : ℕ) where
  pub part_length : from + count ≤ length s → length (part s from count) ≡ count
  part_length h = length-take-le count (drop from s) (omega (arith, length-drop from s))

  pub part_get : (i : ℕ) → i < count → get_or (part s from count) i 0 ≡ get_or s (from + i) 0
  part_get i h = get_or-take count (drop from s) i 0 h ∙ get_or-drop from s i 0

-- lists that are bytes
pub high_fits : (x : ℕ) → Two x → Byte (x / 256)
high_fits x h = omega (arith, div-add-mod' x 256)

pub low_fits : (x : ℕ) → Byte (x % 256)
low_fits x = omega (arith, div-add-mod' x 256)

pub no_bytes : Bytes []
no_bytes i = omega arith

pub one_more : (x : ℕ) (l : List ℕ) → Byte x → Bytes l → Bytes (x ∷ l)
one_more x l h b zero = h
one_more x l h b (suc i) = b i

pub both_bytes : (l k : List ℕ) → Bytes l → Bytes k → Bytes (l ++ k)
both_bytes [] k b d = d
both_bytes (x ∷ l) k b d = one_more x (l ++ k) (b 0) (both_bytes l k (λ i. b (suc i)) d)

pub all_bytes : (l : List ℕ) → ((i : ℕ) → i < length l → Byte (get_or l i 0)) → Bytes l
all_bytes [] h = no_bytes
all_bytes (x ∷ l) h = one_more x l (h 0 (omega arith)) (all_bytes l (λ i lt. h (suc i) (omega arith)))

pub pair_bytes : (x : ℕ) → Two x → Bytes (pair x)
pair_bytes x h = one_more (x / 256) (x % 256 ∷ []) (high_fits x h) (one_more (x % 256) [] (low_fits x) no_bytes)

-- putting
pub put_none : (at : ℕ) (bytes buffer : List ℕ) → length buffer < at + length bytes → buffer ≡ put_at at bytes buffer
put_none at bytes buffer h = rw (lt-leb (at + length bytes) (length buffer) h)

-- where everything up to a place is known, what is put there follows it
pub put_after : (front bytes rest : List ℕ) → length bytes ≤ length rest
    → put_at (length front) bytes (front ++ rest) ≡ front ++ bytes ++ drop (length bytes) rest
put_after front bytes rest h =
    rw (le-leb (length front + length bytes) (length (front ++ rest)) (omega (arith, length-append front rest)), take-append_seam front rest, drop-append-add front rest (length bytes))

-- nothing is lost and nothing added
pub put_same_length : (at : ℕ) (bytes buffer : List ℕ) → length (put_at at bytes buffer) ≡ length buffer
put_same_length at bytes buffer =
    either_way (λ (l : List ℕ). length l ≡ length buffer) (leb (at + length bytes) (length buffer))
    (λ e. let k = leb-true (at + length bytes) (length buffer) e in
    omega (
      arith,
      length-append (take at buffer ++ bytes) (drop (at + length bytes) buffer),
      length-append (take at buffer) bytes,
      length-take-le at buffer (omega arith),
      length-drop (at + length bytes) buffer,
    ))
    (λ e. refl)
