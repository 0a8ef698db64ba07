-- Laws of the start's shares and of the final table, as the program takes them.
use Prim.Native.Nat.{ℕ, ◌+◌, ◌-◌, ◌*◌, ◌/◌, ◌%◌, ◌≤◌, ◌<◌}
use mathlib.Core.Path.{◌≡◌, refl, sym, ap, ◌∙◌}
use mathlib.Core.List.{List, [], ◌++◌, append_assoc}
use native.Mathlib.Omega.{arith}
use native.Mathlib.Decide.{dec_lt, ℕ_discrete}
use lib.ListN.{length, get_or, take, drop, set, replicate, length-take, length-set}
use lib.ListN.{get_or-replicate, get_or-eq_default}
use lib.Seq.{drop-drop, ext_get_or}
use borrow.Author.Tests.{lt-ltb, le-ltb, le-leb}
use native.Mathlib.Numerals.{add-one}
use Rattle.base.specs.Bytes.{put_at}
use Rattle.base.proofs.Cases.{if_set}
use Rattle.runfile.specs.Check.{sum}
use Rattle.runfile.proofs.CheckLaws.{sum_next}
use Rattle.runs.specs.State.{waiting, scripted}
use Rattle.records.specs.declared.Process.{Process as HeldProcess}
use Rattle.base.specs.Lists.{list_of}
use Rattle.base.proofs.Lists.{list_of-length, list_of_get_d}
use Rattle.word.specs.declared.Word.{Word}
use Rattle.runs.specs.Run.{table_row, in_table}
use Rattle.records.specs.Inner.Records.{process_in, slots_place}
use Rattle.bench.specs.Inner.Layout.{idle_held, process_at_in, slots_of, slots_in}
use Rattle.bench.proofs.LayoutLaws.{put_before, put_in, put_after, put_length, slots_get}
use borrow.Rule.Slice.PartMut.{put_mid}

-- the first p processes have their scripts, and the next one begins where they stop
pub record Scripts (shares : List ℕ) (p next : ℕ) (l : List HeldProcess) : Type 0 where
  pub whole : length l ≡ 8
  pub begins : next ≡ sum (take p shares)
  pub small : next ≤ 255 * p
  pub each : (k : ℕ) → k < p → process_at_in l k ≡ scripted shares k

pub script_more : (shares : List ℕ) (p next n : ℕ) (l : List HeldProcess) (x : HeldProcess) → Scripts shares p next l → p < 8
    → (n ≡ get_or shares p 0) × (n ≤ 255) → process_in x ≡ waiting next (next + n) → Scripts shares (p + 1) (next + n) (set l p x)
script_more shares p next n l x h lt e is =
    let stop : next + n ≡ sum (take (p + 1) shares) = omega (arith, h.begins, sum_next shares p, e.0) in
    let scripted_is : process_in x ≡ scripted shares p = is ∙ λ i. waiting (h.begins i) ((rw add-one at stop) i) in
    record {
      whole = length-set l p x ∙ h.whole;
      begins = stop;
      small = omega (arith, h.small, e.1);
      each = λ k m.
          if_set (λ (y : HeldProcess). process_in y ≡ scripted shares k) l p k x idle_held (omega (arith, h.whole))
          (λ d. scripted_is ∙ ap (scripted shares) (sym d)) (λ ne. h.each k (omega arith));
    }

-- numbers put into a list are a part of it
put_is : (at : ℕ) (xs l : List ℕ) → at + length xs ≤ length l → put_at at xs l ≡ put_mid at (length xs) l xs
put_is at xs l h = rw (le-leb (at + length xs) (length l) h)
    (append_assoc (take at l) xs (drop (at + length xs) l) ∙ ap (λ (t : List ℕ). take at l ++ (xs ++ t)) (sym (drop-drop (length xs) at l)))

-- number k of the table whose queue q has the word w q
abbrev table_of : ℕ → (ℕ → Word) → List (List ℕ) → ℕ → ℕ
table_of P w slots k = in_table P (w (k / 67)) slots (k / 67) (k % 67)

-- a table in which the rows of the first n queues stand, and 0 elsewhere
pub record Filled (n : ℕ) (w : ℕ → Word) (slots : List (List ℕ)) (table : List ℕ) : Type 0 where
  pub whole : length table ≡ 536
  pub places : (k : ℕ) → k < 536 → get_or table k 0 ≡ table_of n w slots k

by_places : (n : ℕ) (f : ℕ → ℕ) (l : List ℕ) → length l ≡ n → ((k : ℕ) → k < n → get_or l k 0 ≡ f k) → l ≡ list_of n f
by_places n f l e g = ext_get_or 0 l (list_of n f) (e ∙ sym (list_of-length n f)) (λ k h. g k (omega arith) ∙ sym (list_of_get_d n f 0 k (omega arith)))

module _ (w : ℕ → Word) (slots : List (List ℕ)) where
  within : (n k : ℕ) → k / 67 < n → table_of n w slots k ≡ get_or (table_row (w (k / 67)) (get_or slots (k / 67) [])) (k % 67) 0
  within n k h = rw (lt-ltb (k / 67) n h)

  beyond : (n k : ℕ) → n ≤ k / 67 → table_of n w slots k ≡ 0
  beyond n k h = rw (le-ltb (k / 67) n h)

  pub none_filled : Filled 0 w slots (replicate 536 0)
  none_filled = record { whole = refl; places = λ k h. get_or-replicate 536 k 0 0 h ∙ sym (beyond 0 k (omega arith)) }

  pub all_filled : (n q : ℕ) (table : List ℕ) → q ≡ n → Filled q w slots table → table ≡ list_of 536 (table_of n w slots)
  all_filled n q table e f = by_places 536 (table_of n w slots) table f.whole (λ k h. f.places k h ∙ ap (λ (i : ℕ). table_of i w slots k) e)

  module _ (q : ℕ) (row table : List ℕ) (e : row ≡ table_row (w q) (get_or slots q [])) (f : Filled q w slots table)
      (room : 67 * q + length row ≤ 536) (small : length row ≤ 67) where
    fits : 67 * q + length row ≤ length table
    fits = omega (arith, f.whole)

    inside : (k : ℕ) → k / 67 ≡ q → table_of (q + 1) w slots k ≡ get_or row (k % 67) 0
    inside k d =
        within (q + 1) k (omega arith) ∙ ap (λ (i : ℕ). get_or (table_row (w i) (get_or slots i [])) (k % 67) 0) d
        ∙ ap (λ (l : List ℕ). get_or l (k % 67) 0) (sym e)

    above : (k : ℕ) → 67 * q + length row ≤ k → Dec (k / 67 ≡ q) → table_of (q + 1) w slots k ≡ 0
    above k l (yes d) = inside k d ∙ get_or-eq_default row 0 {n = k % 67} (omega arith)
    above k l (no d) = beyond (q + 1) k (omega arith)

    put : put_at (67 * q) row table ≡ put_mid (67 * q) (length row) table row
    put = put_is (67 * q) row table fits

    place : (k : ℕ) → k < 536 → Dec (k < 67 * q) → Dec (k < 67 * q + length row)
        → get_or (put_mid (67 * q) (length row) table row) k 0 ≡ table_of (q + 1) w slots k
    place k m (yes p) r =
        put_before table row (67 * q) (length row) fits refl k p ∙ f.places k m ∙ within q k (omega arith) ∙ sym (within (q + 1) k (omega arith))
    place k m (no p) (yes r) =
        let d : k ≡ 67 * q + k % 67 = omega arith in
        ap (λ (i : ℕ). get_or (put_mid (67 * q) (length row) table row) i 0) d
        ∙ put_in table row (67 * q) (length row) fits refl (k % 67) (omega arith) ∙ sym (inside k (omega arith))
    place k m (no p) (no r) =
        let d : k ≡ 67 * q + (length row + (k - (67 * q + length row))) = omega arith in
        ap (λ (i : ℕ). get_or (put_mid (67 * q) (length row) table row) i 0) d
        ∙ put_after table row (67 * q) (length row) fits refl (k - (67 * q + length row))
        ∙ ap (λ (i : ℕ). get_or table i 0) (sym d) ∙ f.places k m ∙ beyond q k (omega arith) ∙ sym (above k (omega arith) (ℕ_discrete (k / 67) q))

    pub row_filled : Filled (q + 1) w slots (put_at (67 * q) row table)
    row_filled = rw put (record {
      whole = put_length table row (67 * q) (length row) fits refl ∙ f.whole;
      places = λ k h. place k h (dec_lt k (67 * q)) (dec_lt k (67 * q + length row));
    })

-- the slots of queue q in the row of all slots
module _ (C : ℕ) (flat : List ℕ) (q from n : ℕ) (is : from ≡ slots_place C q) (all : n ≡ C) where
  part_is : take (from + n - from) (drop from flat) ≡ slots_of C flat q
  part_is =
      let e : from + n - from ≡ C = omega (arith, all) in
      ap (λ (k : ℕ). take k (drop from flat)) e ∙ ap (λ (k : ℕ). take C (drop k flat)) is

  pub part_slots : q < 8 → take (from + n - from) (drop from flat) ≡ get_or (slots_in C flat) q []
  part_slots h = part_is ∙ sym (slots_get C flat q h)

  pub part_small : C ≤ 64 → length (take (from + n - from) (drop from flat)) ≤ 64
  part_small h = omega (arith, ap length part_is, length-take C (drop (slots_place C q) flat))
