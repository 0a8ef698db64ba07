-- One reply: what `run_len` promises of its report and its part of the buffer makes the reply's eight bytes.
use Prim.Native.Nat.{ℕ, ◌%◌, ◌≤◌, ◌<◌}
use mathlib.Core.Path.{◌≡◌, ap, ◌∙◌}
use mathlib.Core.List.{List}
use native.Mathlib.Nat.{mod-eq_of_lt}
use native.Mathlib.Omega.{arith}
use lib.ListN.{length, get_or, take, drop, length-append, length-drop}
use Rattle.base.specs.Bytes.{Bytes}
use Rattle.runs.specs.Promise.{Gives}
use Rattle.runs.specs.Run.{Outcome, run_of}
use Rattle.runs.proofs.InRange.{run_cases}
use Rattle.runs.proofs.PromiseLaws.{front_is}
use Rattle.racks.specs.Rack.{judged, judge_byte, reply_bytes, reply_to}

-- a run's number fits a byte
pub number_fits : (file : List ℕ) → Bytes file → (room : ℕ) → (run_of file room).number < 256
number_fits file b room = run_cases (λ (o : Outcome). o.number < 256) file b room (λ n low high. omega arith) (λ f e h. omega arith)

module _ (o : Outcome) (buffer : List ℕ) (written : ℕ) (buffer' report table : List ℕ) (g : Gives o buffer written buffer' report table) where
  pub written_fits : written ≤ length buffer'
  written_fits =
      let n = length o.log in
      omega (arith, g.bytes, ap length g.kept, length-append o.log (drop n buffer), length-drop n buffer)

  -- the report's numbers and the judge's
  pub told_as : (v : ℕ) → v ≡ judged (get_or report 0 0) (take written buffer')
      → reply_bytes (get_or report 0 0) (get_or report 1 0) (get_or report 2 0) (get_or report 3 0) v ≡ reply_to o
  told_as v e =
      ap (λ (r : List ℕ). reply_bytes (get_or r 0 0) (get_or r 1 0) (get_or r 2 0) (get_or r 3 0) v) g.counts
      ∙ ap (reply_bytes o.number o.entries o.steps o.gone) by_judge
    where
      by_judge : v ≡ judge_byte o
      by_judge =
          e ∙ ap (λ (r : List ℕ). judged (get_or r 0 0) (take written buffer')) g.counts
          ∙ ap (judged o.number) (front_is o buffer written buffer' report table g)

  -- the same, with the number as a byte
  pub reply_is : o.number < 256 → (v : ℕ) → v ≡ judged (get_or report 0 0) (take written buffer')
      → reply_bytes (get_or report 0 0 % 256) (get_or report 1 0) (get_or report 2 0) (get_or report 3 0) v ≡ reply_to o
  reply_is h v e =
      ap (λ (n : ℕ). reply_bytes n (get_or report 1 0) (get_or report 2 0) (get_or report 3 0) v) (mod-eq_of_lt small) ∙ told_as v e
    where
      small : get_or report 0 0 < 256
      small = omega (arith, h, ap (λ (r : List ℕ). get_or r 0 0) g.counts)
