-- How a rack splits: the first file and what is left of it, and the walk over the lengths, which sees only whether it splits.
use Prim.Native.Nat.{ℕ, zero, suc, ◌+◌, ◌-◌, ◌≤◌, ◌<◌}
use mathlib.Core.Path.{◌≡◌, refl, sym, ap, ◌∙◌}
use mathlib.Core.Bool.{Bool, true, false, cond}
use mathlib.Core.List.{List, [], ◌∷◌}
use native.Mathlib.Omega.{arith}
use borrow.Author.Tests.{ltb-false, eqb-true, eq-eqb, lt-ltb, le-ltb}
use lib.Dec.{ltb, eqb}
use lib.ListN.{length, drop, length-drop}
use lib.Seq.{drop-drop}
use Rattle.base.specs.Bytes.{number_at, part}
use Rattle.base.proofs.Bools.{by_both}
use Rattle.base.proofs.Bytes.{number_at-drop}
use Rattle.base.proofs.Cases.{never, either_way}
use Rattle.racks.specs.Rack.{Split, bad, files, before, files_in, rack_of}
use Rattle.racks.specs.Inner.Walk.{is_rack, files_of}

-- where a file of so many bytes ends, after its length
abbrev pub file_end : ℕ → ℕ
file_end n = 2 + n

-- what splits, splits into its files
pub is_files : (x : Split) → is_rack x ≡ true → x ≡ files (files_of x)
is_files bad h = never h
is_files (files fs) h = refl

-- a count is there, and the files after it
pub rack_opens : (s : List ℕ) → is_rack (rack_of s) ≡ true → (2 ≤ length s) × (files_in (number_at s 0) (drop 2 s) ≡ files (files_of (rack_of s)))
rack_opens s =
    either_way (λ (x : Split). is_rack x ≡ true → (2 ≤ length s) × (files_in (number_at s 0) (drop 2 s) ≡ files (files_of x))) (ltb (length s) 2)
    (λ e h. never h) (λ e h. (ltb-false (length s) 2 e, is_files (files_in (number_at s 0) (drop 2 s)) h))

-- of one file more: it lies within the bytes, is the first of the files, and the others split from its end on
pub record Opened (k : ℕ) (t : List ℕ) (fs : List (List ℕ)) : Type 0 where
  pub later : List (List ℕ)
  pub fits : file_end (number_at t 0) ≤ length t
  pub first : fs ≡ part t 2 (number_at t 0) ∷ later
  pub left : files_in k (drop (file_end (number_at t 0)) t) ≡ files later

pub opened : (k : ℕ) (t : List ℕ) (fs : List (List ℕ)) → files_in (suc k) t ≡ files fs → Opened k t fs
opened k t fs = by (ltb (length t) (file_end (number_at t 0))) refl (files_in k (drop (file_end (number_at t 0)) t)) refl
  where
    by : (b : Bool) → ltb (length t) (file_end (number_at t 0)) ≡ b → (x : Split) → files_in k (drop (file_end (number_at t 0)) t) ≡ x
        → cond b bad (before (part t 2 (number_at t 0)) x) ≡ files fs → Opened k t fs
    by true e x d h = never (ap is_rack h)
    by false e bad d h = never (ap is_rack h)
    by false e (files gs) d h = record { later = gs; fits = ltb-false (length t) (file_end (number_at t 0)) e; first = sym (ap files_of h); left = d }

-- after the last file nothing stands
pub ended : (t : List ℕ) (fs : List (List ℕ)) → files_in 0 t ≡ files fs → (length t ≡ 0) × (fs ≡ [])
ended t fs =
    either_way (λ (x : Split). x ≡ files fs → (length t ≡ 0) × (fs ≡ [])) (eqb (length t) 0)
    (λ e h. (eqb-true (length t) 0 e, sym (ap files_of h))) (λ e h. never (ap is_rack h))

-- there are as many files as were counted
pub counted : (n : ℕ) (t : List ℕ) (fs : List (List ℕ)) → files_in n t ≡ files fs → length fs ≡ n
counted zero t fs h = ap length (ended t fs h).1
counted (suc n) t fs h =
    let o = opened n t fs h in
    ap length o.first ∙ ap suc (counted n (drop (file_end (number_at t 0)) t) o.later o.left)

pub rack_counted : (s : List ℕ) → is_rack (rack_of s) ≡ true → length (files_of (rack_of s)) ≡ number_at s 0
rack_counted s h = counted (number_at s 0) (drop 2 s) (files_of (rack_of s)) (rack_opens s h).1

is_before : (f : List ℕ) (x : Split) → is_rack (before f x) ≡ is_rack x
is_before f bad = refl
is_before f (files fs) = refl

-- the walk, at a place, with so many files to come
module _ (s : List ℕ) (at k : ℕ) where
  stops : length s - at < file_end (number_at s at) → is_rack (files_in (suc k) (drop at s)) ≡ false
  stops h =
      rw (lt-ltb (length (drop at s)) (file_end (number_at (drop at s) 0)) (omega (arith, h, length-drop at s, number_at-drop s at)))

  goes : file_end (number_at s at) ≤ length s - at → is_rack (files_in (suc k) (drop at s)) ≡ is_rack (files_in k (drop (at + file_end (number_at s at)) s))
  goes h =
      ap (λ (b : Bool). is_rack (cond b bad (before (part (drop at s) 2 (number_at (drop at s) 0)) next)))
      (le-ltb (length (drop at s)) (file_end (number_at (drop at s) 0)) (omega (arith, h, length-drop at s, number_at-drop s at)))
      ∙ is_before (part (drop at s) 2 (number_at (drop at s) 0)) next
      ∙ ap (λ (n : ℕ). is_rack (files_in k (drop (file_end n) (drop at s)))) (sym (number_at-drop s at))
      ∙ ap (λ (l : List ℕ). is_rack (files_in k l)) (drop-drop (file_end (number_at s at)) at s)
    where
      next : Split
      next = files_in k (drop (file_end (number_at (drop at s) 0)) (drop at s))

  ends : at ≤ length s → eqb at (length s) ≡ is_rack (files_in 0 (drop at s))
  ends h =
      either_way (λ (x : Split). eqb at (length s) ≡ is_rack x) (eqb (length (drop at s)) 0)
      (λ e. let d = eqb-true (length (drop at s)) 0 e in eq-eqb at (length s) (omega (arith, d, h, length-drop at s)))
      (λ e. by_both (eqb at (length s)) false
      (λ d. sym e ∙ eq-eqb (length (drop at s)) 0 (omega (arith, eqb-true at (length s) d, length-drop at s))) never)

-- what the loop over the lengths keeps: what is left splits if the whole does
abbrev pub Walked : List ℕ → ℕ → ℕ → ℕ → Type 0
Walked s count at i = (i ≤ count) × (at ≤ length s) × (is_rack (files_in (count - i) (drop at s)) ≡ is_rack (rack_of s))

pub no_count : (s : List ℕ) → length s < 2 → false ≡ is_rack (rack_of s)
no_count s h = rw (lt-ltb (length s) 2 h)

pub walked_start : (s : List ℕ) (count : ℕ) → 2 ≤ length s → count ≡ number_at s 0 → Walked s count 2 0
walked_start s count h e = (
  omega arith,
  h,
  ap (λ (n : ℕ). is_rack (files_in n (drop 2 s))) whole
      ∙ sym (ap (λ (b : Bool). is_rack (cond b bad (files_in (number_at s 0) (drop 2 s)))) (le-ltb (length s) 2 h)),
)
  where
    whole : count - 0 ≡ number_at s 0
    whole = omega (arith, e)

module _ (s : List ℕ) (count at i n : ℕ) (w : Walked s count at i) where
  more : i < count → is_rack (files_in (suc (count - (i + 1))) (drop at s)) ≡ is_rack (rack_of s)
  more h = let e : suc (count - (i + 1)) ≡ count - i = omega arith in ap (λ (k : ℕ). is_rack (files_in k (drop at s))) e ∙ w.2

  pub walked_stops : i < count → n ≡ number_at s at → length s - at < 2 + n → false ≡ is_rack (rack_of s)
  walked_stops h e l = sym (stops s at (count - (i + 1)) (omega (arith, e, l))) ∙ more h

  pub walked_next : i < count → n ≡ number_at s at → 2 + n ≤ length s - at → Walked s count (at + (2 + n)) (i + 1)
  walked_next h e l = (
    omega arith,
    omega (arith, w.1),
    ap (λ (m : ℕ). is_rack (files_in (count - (i + 1)) (drop (at + (2 + m)) s))) e ∙ sym (goes s at (count - (i + 1)) (omega (arith, e, l))) ∙ more h,
  )

  pub walked_ends : count ≤ i → eqb at (length s) ≡ is_rack (rack_of s)
  walked_ends h =
      let e : 0 ≡ count - i = omega arith in
      ends s at 0 w.1 ∙ ap (λ (k : ℕ). is_rack (files_in k (drop at s))) e ∙ w.2
