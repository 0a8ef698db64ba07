-- The reader's two answers, from the check and the counts.
use mathlib.Core.Path.{◌≡◌, sym, ap, ◌∙◌}
use mathlib.Core.List.{List}
use Prim.Native.Nat.{ℕ}
use Rattle.std.specs.Prelude.{Result, Ok, Err}
use Rattle.runfile.specs.declared.Refusal.{Refusal}
use Rattle.runfile.specs.declared.Shape.{Shape}
use Rattle.runfile.specs.Refusals.{refusal_number, number_in}
use Rattle.runfile.specs.File.{record_in, number_of, file_of, shape_of, reading_of, Reads}
use Rattle.runfile.specs.Inner.Counts.{shape_in}
use Rattle.runfile.proofs.GoodLaws.{passes, passes_good, shares_length, all_calls_length, schedule_length}
use Rattle.runfile.proofs.ReadingLaws.{reading_number, reading_with}

reads : (s : List ℕ) (r : Result Shape Refusal) → r ≡ reading_of (file_of s) → Reads s r
reads s r e = record { number = ap number_in e ∙ reading_number s; answer = e }

pub read_refused : (s : List ℕ) (why : Refusal) → refusal_number why ≡ number_of s → Reads s (Err why)
read_refused s why e = reads s (Err why) (sym (reading_with s why e))

pub read_good : (s : List ℕ) (r : Shape) → 0 ≡ number_of s → r ≡ shape_in s → Reads s (Ok r)
read_good s r e d =
    let h = passes s (sym e) in
    let shape : shape_of (record_in s) ≡ shape_in s = rw (shares_length s h, all_calls_length s h, schedule_length s h) in
    reads s (Ok r) (ap Ok (d ∙ sym shape) ∙ sym (ap reading_of (passes_good s h)))
