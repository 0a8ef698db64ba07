-- WHAT IS LEFT ON THE TABLE. After the closing every process is idle, so the invariant's nodes are the slots from top up to bottom; and they are those that
-- the log leaves. The rest follows from the log's acceptance.
use Prim.Native.Nat.{ℕ, suc, ◌+◌, ◌-◌, ◌*◌, ◌/◌, ◌%◌, ◌≤◌, ◌<◌}
use mathlib.Core.Path.{◌≡◌, refl, sym, ap, ◌∙◌, subst}
use mathlib.Core.List.{List, [], ◌∷◌}
use native.Mathlib.Omega.{arith}
use borrow.Author.Tests.{lt-ltb}
use lib.Dec.{eqb}
use lib.ListN.{length, get_or, take}
use lib.Seq.{slice, length-slice, ext_get_or, get_or-take, get_or-drop}
use Rattle.base.specs.Lists.{list_of}
use Rattle.base.proofs.Lists.{list_of-length, list_of_get_d}
use Rattle.call_log.specs.declared.Entry.{Entry}
use Rattle.call_log.specs.Decode.{processes_of, entry_at, entry_count_of}
use Rattle.call_log.specs.Encode.{log_bytes}
use Rattle.call_log.proofs.EncodeLaws.{processes_decoded, slots_decoded, entry_count_decoded}
use Rattle.word.specs.declared.Stage.{Stage}
use Rattle.runfile.specs.Encode.{InRanges}
use Rattle.runfile.specs.File.{RunFile}
use Rattle.runs.specs.Run.{Outcome, closed, finished, table_at, table_row, table_row_length, table_size, in_table}
use Rattle.runs.specs.State.{State, queue_at}
use Rattle.runs.proofs.InRange.{run_cases}
use Rattle.runs.specs.Inner.Sound.{slots_at}
use Rattle.rules.specs.Left.{after_all, left_in, nodes_by, times_pushed, times_returned, tally, places_of, InOnePlace}
use Rattle.rules.proofs.AcceptedLaws.{entries_are}
use Rattle.rules.proofs.CountLaws.{sum_same}
use Rattle.rules.proofs.LeftLaws.{left_for_good, held_is_counted, pushed_once_in_one_place}
use Rattle.theorems.proofs.Queue.Content.{at, content, content_before}
use Rattle.theorems.proofs.Queue.Inv.{pending}
use Rattle.theorems.proofs.Queue.Memory.{memory_at, as_owner, lim, until}
use Rattle.theorems.proofs.Queues.Whole.{seat}
use Rattle.theorems.proofs.Rules.Accepted.{log_of, held, all_idle, log_accepted}
use Rattle.theorems.specs.Left.{bottom_in, top_in, on_table, left_by, LeftHere, LeftOnTable, EveryRunLeaves}

-- slot i of queue q in the table
abbrev slot_in : List ℕ → ℕ → ℕ → ℕ
slot_in table q i = get_or table (table_row_length * q + 3 + i) 0

-- the numbers of a queue in the table
module _ (P : ℕ) (s : State) (q : ℕ) (lt : q < P) (small : P ≤ 8) where
  abbrev table : List ℕ
  table = list_of table_size (table_at P s.bench s.slots)

  in_row : (i : ℕ) → i < 67 → get_or table (67 * q + i) 0 ≡ get_or (table_row (queue_at s.bench q).word (slots_at s q)) i 0
  in_row i u =
      let d : (67 * q + i) / 67 ≡ q = omega arith in
      let m : (67 * q + i) % 67 ≡ i = omega arith in
      list_of_get_d table_size (table_at P s.bench s.slots) 0 (67 * q + i) (omega arith)
      ∙ ap (λ (k : ℕ). in_table P (queue_at s.bench k).word s.slots k ((67 * q + i) % 67)) d
      ∙ ap (λ (k : ℕ). in_table P (queue_at s.bench q).word s.slots q k) m
      ∙ rw (lt-ltb q P lt)

  bottom_is_lem : bottom_in table q ≡ (queue_at s.bench q).word.bottom
  bottom_is_lem = let e : 67 * q ≡ 67 * q + 0 = omega arith in ap (λ (k : ℕ). get_or table k 0) e ∙ in_row 0 (omega arith)

  top_is_lem : top_in table q ≡ (queue_at s.bench q).word.top
  top_is_lem = in_row 1 (omega arith)

  slot_is : (i : ℕ) → i < 64 → slot_in table q i ≡ get_or (slots_at s q) i 0
  slot_is i u =
      let e : 67 * q + 3 + i ≡ 67 * q + suc (suc (suc i)) = omega arith in
      ap (λ (k : ℕ). get_or table k 0) e ∙ in_row (suc (suc (suc i))) (omega arith)

  table_is : (queue_at s.bench q).word.bottom ≤ length (slots_at s q) → length (slots_at s q) ≤ 64
      → on_table table q ≡ slice (queue_at s.bench q).word.top (queue_at s.bench q).word.bottom (slots_at s q)
  table_is fits few =
      let t = (queue_at s.bench q).word.top in
      let b = (queue_at s.bench q).word.bottom in
      let slots = slots_at s q in
      let long = list_of-length (bottom_in table q - top_in table q) (λ i. slot_in table q (top_in table q + i)) in
      ext_get_or 0 (on_table table q) (slice t b slots) (omega (arith, long, bottom_is_lem, top_is_lem, length-slice t b slots fits))
      (λ i u.
      let v : t + i < b = omega (arith, long, bottom_is_lem, top_is_lem) in
      list_of_get_d (bottom_in table q - top_in table q) (λ i. slot_in table q (top_in table q + i)) 0 i (omega (arith, long))
      ∙ ap (λ (k : ℕ). slot_in table q (k + i)) top_is_lem ∙ slot_is (t + i) (omega arith)
      ∙ sym (get_or-drop t (take b slots) i 0 ∙ get_or-take b slots (t + i) 0 v))

module _ (f : RunFile) (w : InRanges f) (gone : (closed f).bench.gone ≡ 0) where
  abbrev s : State
  s = closed f

  abbrev l : List Entry
  l = s.log

  abbrev P : ℕ
  P = length f.shares

  module _ (q : ℕ) (lt : q < P) where
    abbrev top : ℕ
    top = (queue_at s.bench q).word.top

    abbrev bottom : ℕ
    bottom = (queue_at s.bench q).word.bottom

    -- no pop is pending, and the slots end at the bottom
    left_is : left_in (at l) (length l) q ≡ slice top bottom (slots_at s q)
    left_is =
        let x : ℕ = after_all (at l) (length l) + 2 * s.bench.steps in
        sym (left_for_good (at l) (length l) q x (omega arith)) ∙ sym (content_before l q x)
        ∙ sym (ap (λ (z : Stage). content l q (pending (memory_at s q) (as_owner z) (seat s q).b2) x) (all_idle f w gone q))
        ∙ ((held f w gone).0.queues q lt).now_on x (omega arith)
        ∙ ap (λ (z : Stage). slice top (until bottom (as_owner z)) (slots_at s q)) (all_idle f w gone q)

    top_le : top ≤ bottom
    top_le = subst (λ (z : Stage). top ≤ lim bottom (as_owner z)) (all_idle f w gone q) ((held f w gone).0.queues q lt).ctl.top_le

    fits : bottom ≤ f.size
    fits = ((held f w gone).0.queues q lt).ctl.fits

    long : length (slots_at s q) ≡ f.size
    long = ((held f w gone).0.queues q lt).ctl.len

    counted : nodes_by (at l) (length l) q (after_all (at l) (length l)) ≡ bottom - top
    counted =
        let k = held_is_counted (at l) (length l) P f.size (log_accepted f w gone) q (after_all (at l) (length l)) in
        let n : length (left_in (at l) (length l) q) ≡ bottom - top = ap length left_is
        ∙ length-slice top bottom (slots_at s q) (omega (arith, fits, long)) in
        omega arith

  -- the log's bytes say these entries
  abbrev bytes : List ℕ
  bytes = log_bytes (log_of f)

  said : {A : Type 0} (g : (ℕ → Entry) → ℕ → A) → g (entry_at bytes) (entry_count_of bytes) ≡ g (at l) (length l)
  said g =
      ap (λ (e : ℕ → Entry). g e (entry_count_of bytes)) (entries_are (log_of f)) ∙ ap (λ (n : ℕ). g (at l) n) (entry_count_decoded (log_of f))

  abbrev numbers : List ℕ
  numbers = (finished f (closed f)).table

  here : (q : ℕ) → q < P → LeftHere bytes numbers q
  here q lt =
      let b : bottom_in numbers q ≡ bottom q lt = bottom_is_lem P s q lt w.processes.1 in
      let t : top_in numbers q ≡ top q lt = top_is_lem P s q lt w.processes.1 in
      let is : on_table numbers q ≡ left_by bytes q =
      table_is P s q lt w.processes.1 (omega (arith, fits q lt, long q lt)) (omega (arith, long q lt, w.size.1))
      ∙ sym (left_is q lt) ∙ sym (said (λ e n. left_in e n q)) in
      let size : length (left_by bytes q) ≡ bottom_in numbers q - top_in numbers q =
      ap length (sym is) ∙ list_of-length (bottom_in numbers q - top_in numbers q) (λ i. slot_in numbers q (top_in numbers q + i)) in
      record {
        here = is;
        ordered = omega (arith, b, t, top_le q lt);
        within = omega (arith, b, fits q lt, slots_decoded (log_of f));
        none = λ e. empty (left_by bytes q) (omega arith);
        only_then = λ e. let z : length (left_by bytes q) ≡ 0 = ap length e in omega (arith, size, b, t, top_le q lt);
        counted = said (λ e n. nodes_by e n q (after_all e n)) ∙ counted q lt ∙ omega (arith, b, t);
      }
    where
      empty : (c : List ℕ) → length c ≡ 0 → c ≡ []
      empty [] e = refl
      empty (x ∷ c) e = absurd (omega arith)

  each : (x : ℕ) → InOnePlace (entry_at bytes) (entry_count_of bytes) (on_table numbers) (processes_of bytes) x
  each x =
      let o = pushed_once_in_one_place (at l) (length l) P f.size (log_accepted f w gone) x in
      let pushed : times_pushed (entry_at bytes) (entry_count_of bytes) x ≡ times_pushed (at l) (length l) x = said (λ e n. times_pushed e n x) in
      record {
        one = omega (arith, pushed, o.one);
        place = omega (
          arith,
          pushed,
          o.place,
          said (λ e n. times_returned e n x),
          sum_same (λ q. tally (λ y. eqb y x) (on_table numbers q)) (λ q. tally (λ y. eqb y x) (left_in (at l) (length l) q)) P
              (λ q lt. ap (tally (λ y. eqb y x)) ((here q lt).here ∙ said (λ e n. left_in e n q))),
          ap (places_of x (on_table numbers)) (processes_decoded (log_of f)),
        );
      }

  left_on_table : LeftOnTable bytes numbers
  left_on_table = record { queues = λ q lt. here q (omega (arith, processes_decoded (log_of f))); nodes = each }

pub every_run_leaves : EveryRunLeaves
every_run_leaves file b room =
    run_cases (λ (o : Outcome). o.number ≡ 0 → o.gone ≡ 0 → LeftOnTable o.log o.table) file b room (λ n low high z. absurd (omega arith))
    (λ f e w z g. left_on_table f w g)
