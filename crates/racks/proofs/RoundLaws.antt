-- Round trips: files written as a rack split into those files, and bytes that split into files are the rack of those.
use Prim.Native.Nat.{ℕ, zero, suc, ◌+◌, ◌%◌, ◌≤◌}
use mathlib.Core.Path.{◌≡◌, refl, sym, ap, ◌∙◌, subst}
use mathlib.Core.Bool.{Bool, cond}
use mathlib.Core.List.{List, [], ◌∷◌, ◌++◌}
use native.Mathlib.Omega.{arith}
use borrow.Author.Tests.{le-ltb}
use lib.Dec.{ltb}
use lib.ListN.{length, drop, length-append, take-append-drop}
use lib.Seq.{drop-drop, get_or-drop, take-append_seam, drop-append_seam}
use Rattle.base.specs.Bytes.{Byte, Two, Bytes, joined, number_at, pair, part}
use Rattle.base.specs.Lists.{All}
use Rattle.base.proofs.Bytes.{rejoined, high, low, part_length, part_get, no_bytes, all_bytes, both_bytes, pair_bytes}
use Rattle.racks.specs.Rack.{Split, bad, files, before, files_in, rack_of, files_bytes, rack_bytes}
use Rattle.racks.specs.Inner.Walk.{is_rack, files_of}
use Rattle.racks.proofs.SplitLaws.{file_end, opened, ended, counted, rack_opens}

-- files of bytes whose count and lengths fit two bytes
abbrev pub Fit : List (List ℕ) → Type 0
Fit fs = Two (length fs) × All (λ (f : List ℕ). Two (length f) × Bytes f) fs

-- written, then split
module _ (n : ℕ) (f rest : List ℕ) where
  abbrev t : List ℕ
  t = pair (length f) ++ (f ++ rest)

  one_back : files_in (suc n) t ≡ before f (files_in n rest)
  one_back =
      ap (λ (m : ℕ). cond (ltb (length t) (file_end m)) bad (before (part t 2 m) (files_in n (drop (file_end m) t)))) (rejoined (length f))
      ∙ ap (λ (b : Bool). cond b bad (before (part t 2 (length f)) (files_in n (drop (file_end (length f)) t))))
      (le-ltb (length t) (file_end (length f)) (omega (arith, length-append f rest)))
      ∙ ap (λ (l : List ℕ). before l (files_in n (drop (file_end (length f)) t))) (take-append_seam f rest)
      ∙ ap (λ (l : List ℕ). before f (files_in n l)) (sym (drop-drop (length f) 2 t) ∙ drop-append_seam f rest)

files_back : (fs : List (List ℕ)) → files_in (length fs) (files_bytes fs) ≡ files fs
files_back [] = refl
files_back (f ∷ fs) = one_back (length fs) f (files_bytes fs) ∙ ap (before f) (files_back fs)

pub splits_back : (fs : List (List ℕ)) → rack_of (rack_bytes fs) ≡ files fs
splits_back fs =
    ap (λ (b : Bool). cond b bad (files_in (number_at (rack_bytes fs) 0) (files_bytes fs))) (le-ltb (length (rack_bytes fs)) 2 (omega arith))
    ∙ ap (λ (n : ℕ). files_in n (files_bytes fs)) (rejoined (length fs)) ∙ files_back fs

-- files that fit are written as bytes
files_bytes_lem : (fs : List (List ℕ)) → All (λ (f : List ℕ). Two (length f) × Bytes f) fs → Bytes (files_bytes fs)
files_bytes_lem [] h = no_bytes
files_bytes_lem (f ∷ fs) h =
    both_bytes (pair (length f)) (f ++ files_bytes fs) (pair_bytes (length f) h.0.0)
    (both_bytes f (files_bytes fs) h.0.1 (files_bytes_lem fs h.1))

pub rack_bytes_lem : (fs : List (List ℕ)) → Fit fs → Bytes (rack_bytes fs)
rack_bytes_lem fs h = both_bytes (pair (length fs)) (files_bytes fs) (pair_bytes (length fs) h.0) (files_bytes_lem fs h.1)

-- split, then written
dropped : (k : ℕ) (s : List ℕ) → Bytes s → Bytes (drop k s)
dropped k s b i = subst Byte (sym (get_or-drop k s i 0)) (b (k + i))

empty : (s : List ℕ) → length s ≡ 0 → [] ≡ s
empty [] h = refl
empty (x ∷ s) h = absurd (omega arith)

front : (s : List ℕ) → Bytes s → 2 ≤ length s → pair (number_at s 0) ++ drop 2 s ≡ s
front [] b h = absurd (omega arith)
front (x ∷ []) b h = absurd (omega arith)
front (x ∷ y ∷ s) b h =
    ap (λ (z : ℕ). z ∷ joined x y % 256 ∷ s) (high x y (b 1)) ∙ ap (λ (z : ℕ). x ∷ z ∷ s) (low x y (b 1))

two : (s : List ℕ) → Bytes s → Two (number_at s 0)
two s b = omega (arith, b 0, b 1)

module _ (s : List ℕ) (b : Bytes s) (n : ℕ) (h : file_end n ≤ length s) where
  part_bytes : Bytes (part s 2 n)
  part_bytes =
      all_bytes (part s 2 n)
      (λ i l. subst Byte (sym (part_get s 2 n i (omega (arith, part_length s 2 n h)))) (b (2 + i)))

files_same : (n : ℕ) (s : List ℕ) (fs : List (List ℕ)) → Bytes s → files_in n s ≡ files fs → files_bytes fs ≡ s
files_same zero s fs b h = ap files_bytes (ended s fs h).1 ∙ empty s (ended s fs h).0
files_same (suc n) s fs b h =
    let o = opened n s fs h in
    let m = number_at s 0 in
    ap files_bytes o.first
    ∙ ap (λ (k : ℕ). pair k ++ (part s 2 m ++ files_bytes o.later)) (part_length s 2 m o.fits)
    ∙ ap (λ (l : List ℕ). pair m ++ (part s 2 m ++ l))
    (files_same n (drop (file_end m) s) o.later (dropped (file_end m) s b) o.left ∙ sym (drop-drop m 2 s))
    ∙ ap (λ (l : List ℕ). pair m ++ l) (take-append-drop m (drop 2 s))
    ∙ front s b (omega (arith, o.fits))

files_fit : (n : ℕ) (s : List ℕ) (fs : List (List ℕ)) → Bytes s → files_in n s ≡ files fs → All (λ (f : List ℕ). Two (length f) × Bytes f) fs
files_fit zero s fs b h = subst (All (λ (f : List ℕ). Two (length f) × Bytes f)) (sym (ended s fs h).1) tt
files_fit (suc n) s fs b h =
    let o = opened n s fs h in
    let m = number_at s 0 in
    subst (All (λ (f : List ℕ). Two (length f) × Bytes f)) (sym o.first) (
      (omega (arith, part_length s 2 m o.fits, two s b), part_bytes s b m o.fits),
      files_fit n (drop (file_end m) s) o.later (dropped (file_end m) s b) o.left,
    )

pub packs_back : (s : List ℕ) (fs : List (List ℕ)) → Bytes s → rack_of s ≡ files fs → (rack_bytes fs ≡ s) × Fit fs
packs_back s fs b h = (
  ap (λ (k : ℕ). pair k ++ files_bytes fs) count
      ∙ ap (λ (l : List ℕ). pair (number_at s 0) ++ l) (files_same (number_at s 0) (drop 2 s) fs (dropped 2 s b) split)
      ∙ front s b opens.0,
  (omega (arith, count, two s b), files_fit (number_at s 0) (drop 2 s) fs (dropped 2 s b) split),
)
  where
    opens : (2 ≤ length s) × (files_in (number_at s 0) (drop 2 s) ≡ files (files_of (rack_of s)))
    opens = rack_opens s (ap is_rack h)

    split : files_in (number_at s 0) (drop 2 s) ≡ files fs
    split = opens.1 ∙ ap (λ (x : Split). files (files_of x)) h

    count : length fs ≡ number_at s 0
    count = counted (number_at s 0) (drop 2 s) fs split
