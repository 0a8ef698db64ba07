-- What the reader's answer says of the file.
use mathlib.Core.Path.{◌≡◌, refl, sym, ap, ◌∙◌}
use mathlib.Core.List.{List}
use Prim.Native.Nat.{ℕ, zero, suc, ◌≤◌}
use native.Mathlib.Omega.{arith}
use Rattle.std.specs.Prelude.{Ok, Err}
use Rattle.base.proofs.Cases.{if_eq}
use Rattle.runfile.specs.declared.Refusal.{Refusal}
use Rattle.runfile.specs.declared.Refusal.TheVariants.{CutShort, WrongSizes, WrongScripts, WrongCall, WrongNode, WrongSchedule, BytesAfter, NoRoom}
use Rattle.runfile.specs.declared.Shape.{Shape}
use Rattle.runfile.specs.Refusals.{refusal_number, refusal_of, number_in}
use Rattle.runfile.specs.File.{Answer, refused, good, record_in, number_of, answer, file_of, shape_of, reading_of}
use Rattle.runfile.proofs.NumberLaws.{refused_few, number_few}

-- a number from 1 to 8 is that of its case
pub numbered : (n : ℕ) → 1 ≤ n → n ≤ 8 → refusal_number (refusal_of n) ≡ n
numbered n h k =
    if_eq on n 1 sym (λ a. if_eq on n 2 sym (λ b. if_eq on n 3 sym (λ c. if_eq on n 4 sym (λ d. if_eq on n 5 sym
    (λ e. if_eq on n 6 sym (λ f. if_eq on n 7 sym (λ g. omega arith)))))))
  where
    on : Refusal → Type 0
    on why = refusal_number why ≡ n

pub reading_refused : (s : List ℕ) (why : Refusal) → reading_of (file_of s) ≡ Err why → file_of s ≡ refused (refusal_number why)
reading_refused s why = go (file_of s) refl
  where
    go : (a : Answer) → file_of s ≡ a → reading_of a ≡ Err why → a ≡ refused (refusal_number why)
    go (refused k) d e =
        let few = refused_few s k d in
        let c : refusal_of k ≡ why = cc in
        ap refused (sym (numbered k few.0 (omega (arith, few.1))) ∙ ap refusal_number c)
    go (good f) d e = absurd (let z : ◌≡◌ {A = ℕ} 0 1 = cc in omega arith)

pub reading_good : (s : List ℕ) (r : Shape) → reading_of (file_of s) ≡ Ok r → (file_of s ≡ good (record_in s)) × (r ≡ shape_of (record_in s))
unfolding file_of
reading_good s r = go (number_of s)
  where
    go : (k : ℕ) → reading_of (answer k (record_in s)) ≡ Ok r → (answer k (record_in s) ≡ good (record_in s)) × (r ≡ shape_of (record_in s))
    go zero e = let d : r ≡ shape_of (record_in s) = cc in (refl, d)
    go (suc k) e = absurd (let z : ◌≡◌ {A = ℕ} 0 1 = cc in omega arith)

-- a reading has the number of the file
pub reading_number : (s : List ℕ) → number_in (reading_of (file_of s)) ≡ number_of s
unfolding file_of
reading_number s = go (number_of s) (number_few s)
  where
    go : (k : ℕ) → k ≤ 7 → number_in (reading_of (answer k (record_in s))) ≡ k
    go zero h = refl
    go (suc k) h = numbered (suc k) (omega arith) (omega arith)

-- a case is that of its number, which is not 0
pub case_of : (why : Refusal) → (1 ≤ refusal_number why) × (refusal_of (refusal_number why) ≡ why)
case_of CutShort = (omega arith, refl)
case_of WrongSizes = (omega arith, refl)
case_of WrongScripts = (omega arith, refl)
case_of WrongCall = (omega arith, refl)
case_of WrongNode = (omega arith, refl)
case_of WrongSchedule = (omega arith, refl)
case_of BytesAfter = (omega arith, refl)
case_of NoRoom = (omega arith, refl)

-- the reading with the number of the file
pub reading_with : (s : List ℕ) (why : Refusal) → refusal_number why ≡ number_of s → reading_of (file_of s) ≡ Err why
unfolding file_of
reading_with s why e = ap (λ (k : ℕ). reading_of (answer k (record_in s))) (sym e) ∙ go (refusal_number why) (case_of why).0 ∙ ap Err (case_of why).1
  where
    go : (k : ℕ) → 1 ≤ k → reading_of (answer k (record_in s)) ≡ Err (refusal_of k)
    go zero h = absurd (omega arith)
    go (suc k) h = refl
