-- The entries of a whole log as arrays of bytes; and what a pass over them finds, by the first entry that passes a test.
use mathlib.Core.Path.{◌≡◌, refl, sym, ap, ◌∙◌}
use mathlib.Core.Bool.{Bool, true, false, cond, not, true≢false}
use mathlib.Core.List.{List, [], ◌∷◌}
use Prim.Native.Nat.{ℕ, zero, suc, ◌+◌, ◌-◌, ◌*◌, ◌/◌, ◌≤◌, ◌<◌}
use native.Mathlib.Omega.{arith}
use native.Mathlib.Decide.{dec_lt}
use borrow.Author.Tests.{lt-ltb, le-ltb, ltb-true, ltb-false}
use lib.Dec.{ltb}
use lib.ListN.{length, get_or, take, drop, length-drop}
use lib.Seq.{take_all, get_or-drop, get_or-take}
use Rattle.std.specs.Prelude.{Option, Some, None}
use Rattle.std.specs.List.{position, position_or_len}
use Rattle.std.specs.Simd.{first_chunks}
use Rattle.base.specs.Bytes.{byte_at}
use Rattle.call_log.specs.Decode.{first_entry, entry_at}
use Rattle.call_log.proofs.DecodeLaws.{bytes_read, none_left}
use Rattle.rules.specs.Search.{first}
use Rattle.rules.proofs.SearchLaws.{first_found, first_end}
use Rattle.judge.specs.Inner.Entries.{entries_in, found}
use Rattle.judge.specs.Inner.Order.{Whole}

-- found, and not
pub some_is : (n j i : ℕ) → i ≡ j → i < n → Some i ≡ found n j
some_is n j i e h = rw (← e, lt-ltb i n h) refl

pub none_is : (n j : ℕ) → n ≤ j → None ≡ found n j
none_is n j h = rw (le-ltb j n h) refl

abbrev value : Option ℕ → ℕ
value (Some i) = i
value None = 0

abbrev there : Option ℕ → Bool
there (Some i) = true
there None = false

pub some_of : (t : Bool) (j i : ℕ) → Some i ≡ cond t (Some j) None → (t ≡ true) × (i ≡ j)
some_of true j i h = (refl, ap value h)
some_of false j i h = absurd (true≢false (ap there h))

pub none_of : (t : Bool) (j : ℕ) → None ≡ cond t (Some j) None → t ≡ false
none_of true j h = absurd (true≢false (ap there (sym h)))
none_of false j h = refl

pub none_by : (t : Bool) (j : ℕ) (o : Option ℕ) → o ≡ cond t (Some j) None → ((i : ℕ) → o ≡ Some i → ⊥) → t ≡ false
none_by true j o e h = absurd (h j e)
none_by false j o e h = refl

pub found_some : (n j i : ℕ) → Some i ≡ found n j → (i ≡ j) × (i < n)
found_some n j i h = let z = some_of (ltb j n) j i h in (z.1, omega (arith, z.1, ltb-true j n z.0))

pub found_none : (n j : ℕ) → None ≡ found n j → n ≤ j
found_none n j h = ltb-false j n (none_of (ltb j n) j h)

pub found_not : (n j : ℕ) (o : Option ℕ) → o ≡ found n j → ((i : ℕ) → o ≡ Some i → ⊥) → n ≤ j
found_not n j o e h = ltb-false j n (none_by (ltb j n) j o e h)

-- a pass that has come to entry i, where the first among the entries that are left is the first of all
module _ (p : ℕ → Bool) (i n : ℕ) (left : first p i (n - i) ≡ first p 0 n) where
  pub pass_found : i < n → p i ≡ true → Some i ≡ found n (first p 0 n)
  pass_found h e = some_is n (first p 0 n) i (first_found p i n h e ∙ left) h

  pub pass_ended : n ≤ i → None ≡ found n (first p 0 n)
  pass_ended h = none_is n (first p 0 n) (omega (arith, first_end p i n h, left))

-- the same by `position`
module _ (q : List ℕ → Bool) where
  position_from : (f : ℕ → List ℕ) (es : List (List ℕ)) (i : ℕ) → ((j : ℕ) → f (i + j) ≡ get_or es j [])
      → i + position_or_len q es ≡ first (λ j. q (f j)) i (length es)
  position_from f [] i h = omega arith
  position_from f (x ∷ es) i h = by (q x) refl (position_from f es (suc i) (λ j. let e : suc i + j ≡ i + suc j = omega arith in ap f e ∙ h (suc j)))
    where
      here : f i ≡ x
      here = let e : i ≡ i + 0 = omega arith in ap f e ∙ h 0

      by : (t : Bool) → q x ≡ t → suc i + position_or_len q es ≡ first (λ j. q (f j)) (suc i) (length es)
          → i + cond (not (q x)) (1 + position_or_len q es) 0 ≡ cond (q (f i)) i (first (λ j. q (f j)) (suc i) (length es))
      by true b e = rw (here, b) (omega arith)
      by false b e = rw (here, b) (omega (arith, e))

  pub position_is : (es : List (List ℕ)) → position q es ≡ found (length es) (first (λ j. q (get_or es j [])) 0 (length es))
  position_is es =
      let zero_plus : 0 + position_or_len q es ≡ position_or_len q es = omega arith in
      ap (found (length es)) (sym zero_plus ∙ position_from (λ j. get_or es j []) es 0 (λ j. let e : 0 + j ≡ j = omega arith in ap (λ (x : ℕ). get_or es x []) e))

-- the entries of a whole log
chunk_bytes : (n : ℕ) (bytes : List ℕ) (i j : ℕ) → i < n → j < 12 → byte_at (get_or (first_chunks 12 n bytes) i []) j ≡ byte_at bytes (12 * i + j)
chunk_bytes zero bytes i j h u = absurd (omega arith)
chunk_bytes (suc n) bytes zero j h u = let e : j ≡ 12 * 0 + j = omega arith in get_or-take 12 bytes j 0 u ∙ ap (byte_at bytes) e
chunk_bytes (suc n) bytes (suc i) j h u =
    let e : 12 + (12 * i + j) ≡ 12 * suc i + j = omega arith in
    chunk_bytes n (drop 12 bytes) i j (omega arith) u ∙ get_or-drop 12 bytes (12 * i + j) 0 ∙ ap (byte_at bytes) e

no_chunk : (n : ℕ) (bytes : List ℕ) (i : ℕ) → n ≤ i → get_or (first_chunks 12 n bytes) i [] ≡ []
no_chunk zero bytes i h = refl
no_chunk (suc n) bytes zero h = absurd (omega arith)
no_chunk (suc n) bytes (suc i) h = no_chunk n (drop 12 bytes) i (omega arith)

pub entries_are : (bytes : List ℕ) (n : ℕ) → Whole bytes n → entries_in (first_chunks 12 n (drop 5 bytes)) ≡ entry_at bytes
entries_are bytes n whole t i = at i (dec_lt i n) t
  where
    at : (i : ℕ) → Dec (i < n) → entries_in (first_chunks 12 n (drop 5 bytes)) i ≡ entry_at bytes i
    at i (yes h) = bytes_read _ bytes i (λ j u. let e : 5 + (12 * i + j) ≡ 5 + 12 * i + j = omega arith in
        chunk_bytes n (drop 5 bytes) i j h u ∙ get_or-drop 5 bytes (12 * i + j) 0 ∙ ap (byte_at bytes) e)
    at i (no h) = ap first_entry (no_chunk n (drop 5 bytes) i (omega arith)) ∙ none_left bytes i (omega (arith, whole))

-- as the part after the head is cut into arrays
pub chunks_are : (bytes : List ℕ) (es : List (List ℕ)) (n : ℕ) → let rest : List ℕ = take (length bytes - 5) (drop 5 bytes) in
    es ≡ first_chunks 12 (length rest / 12) rest → length es ≡ length rest / 12 → Whole bytes n → (length es ≡ n) × (entries_in es ≡ entry_at bytes)
chunks_are bytes es n front long whole =
    let rest : List ℕ = take (length bytes - 5) (drop 5 bytes) in
    let is : rest ≡ drop 5 bytes = take_all (length bytes - 5) (drop 5 bytes) (omega (arith, length-drop 5 bytes)) in
    let size : length rest / 12 ≡ n = omega (arith, ap length is, length-drop 5 bytes, whole) in
    (long ∙ size, ap entries_in (front ∙ ap (λ (k : ℕ). first_chunks 12 k rest) size ∙ ap (first_chunks 12 n) is) ∙ entries_are bytes n whole)
