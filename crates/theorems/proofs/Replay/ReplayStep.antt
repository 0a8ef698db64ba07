-- One step of a run, replayed: what it lends is what the sheet has next, the desk accepts it, and the sheet after it is that of the next state.
use Prim.Native.Nat.{ℕ, zero, suc, ◌+◌, ◌-◌, ◌≤◌, ◌<◌}
use mathlib.Core.Path.{◌≡◌, refl, sym, ap, ◌∙◌, subst}
use mathlib.Core.Bool.{Bool, true, false, cond, ◌&&◌}
use mathlib.Core.List.{List, [], ◌∷◌, map}
use native.Mathlib.Omega.{arith}
use borrow.Author.Tests.{ltb-false}
use lib.Dec.{ltb}
use lib.ListN.{length, get_or, set, drop, get_or-map}
use lib.Seq.{slice, slice-cons, slice_empty, set-get_or}
use Rattle.std.specs.Prelude.{Ok}
use Rattle.desk.specs.Desk.{number_of, stage_of, desk_answer, desk_word, desk_slots}
use Rattle.desk.proofs.DeskLaws.{row_done}
use Rattle.word.specs.Range.{in_range}
use Rattle.word.specs.Inner.InRange.{StageIn}
use Rattle.word.proofs.RangeLaws.{range_in}
use Rattle.word.specs.Stages.{is_idle}
use Rattle.steps.specs.Step.{row_of, loaded_slot, loaded, stored, stage_after, Stepped}
use Rattle.word.specs.declared.Stage.{Stage}
use Rattle.word.specs.declared.Stage.TheVariants.{Idle}
use Rattle.word.specs.declared.Word.{Word}
use Rattle.runfile.specs.Encode.{InRanges}
use Rattle.runfile.specs.File.{RunFile}
use Rattle.runfile.specs.declared.Call.{Call}
use Rattle.runfile.specs.declared.Call.TheVariants.{Pop}
use Rattle.runs.specs.Moment.{queue_of}
use Rattle.runs.specs.State.{Process, Queue, State, fresh, nobody, queue_at, process_at}
use Rattle.runs.specs.Turn.{first_stage, begun, process_after, queue_after, acted, act, idle, turn_as, turn, turning}
use Rattle.runs.proofs.KindLaws.{idle_is}
use Rattle.theorems.specs.Replay.{word_at, slots_at, Lent, answer_to, Note, first_of, queue_for, lends, noted, Sheet, note_at, who_next, sheet_after}
use Rattle.theorems.specs.Replay.{lent_with, table_of}
use Rattle.runs.proofs.Sound.{Was, goes, begins, Steps, row_at, act_is, sound_act, sound_idle}
use Rattle.runs.specs.Inner.Sound.{Sound}
use Rattle.runs.proofs.Scripts.{sizes_of, fit, finished, sum-take, Scripted, Each, ready_case, turn_case, each_act}

-- a list mapped after a store
map-set : {A B : Type 0} (g : A → B) (l : List A) (i : ℕ) (x : A) → map g (set l i x) ≡ set (map g l) i (g x)
map-set g [] i x = refl
map-set g (y ∷ l) zero x = refl
map-set g (y ∷ l) (suc i) x = ap (λ m. g y ∷ m) (map-set g l i x)

-- the sheet that belongs to a state of the run, where ps is left of the schedule
abbrev pub note_of : RunFile → Process → Note
note_of f r = record { stage = r.stage; calls = slice (finished r) r.stop f.calls }

abbrev pub sheet_of : RunFile → List ℕ → State → Sheet
sheet_of f ps s = record { schedule = ps; notes = map (note_of f) s.bench.processes; table = table_of s }

pub record Step (f : RunFile) (ps : List ℕ) (s : State) (l : Lent) (s' : State) : Type 0 where
  pub going : who_next (sheet_of f ps s) < 8
  pub next : l ≡ (let h : Sheet = sheet_of f ps s in lends (who_next h) (note_at h.notes (who_next h)))
  pub number : number_of (answer_to f.width f.size (table_of s) l) ≡ 0
  pub after : sheet_after f.width f.size (sheet_of f ps s) l ≡ sheet_of f (drop 1 ps) s'
  pub count : s'.bench.steps ≡ s.bench.steps + 1

-- a note after the desk's answer
abbrev note_after : Stage → List Call → Note
note_after z calls = record { stage = z; calls = cond (is_idle z) (drop 1 calls) calls }

module _ (f : RunFile) (h : InRanges f) (s : State) (v : Sound (sizes_of f) s) (c : Each f s) where
  abbrev notes : List Note
  notes = map (note_of f) s.bench.processes

  note_at_lem : (p : ℕ) → note_at notes p ≡ note_of f (process_at s.bench p)
  note_at_lem p = get_or-map (note_of f) s.bench.processes p nobody

  word_at_lem : (q : ℕ) → word_at (table_of s) q ≡ (queue_at s.bench q).word
  word_at_lem q = get_or-map (λ (m : Queue). m.word) s.bench.queues q fresh

  -- the desk makes the run's step: nothing is out of range
  abbrev row : ℕ → Stage → Stepped
  row q z = row_of f.width f.size (queue_at s.bench q).word (loaded (get_or s.slots q []) (loaded_slot z)) z

  desk_row : (q : ℕ) (z : Stage) → q < length f.shares → StageIn f.width f.size z
      → let w : Word = word_at (table_of s) q in
      let x : List ℕ = slots_at (table_of s) q in
      (desk_answer f.width f.size w x z ≡ Ok (row q z).next) × (desk_word f.width f.size w x z ≡ (row q z).word)
      × (desk_slots f.width f.size w x z ≡ stored x (row q z).store)
  desk_row q z lt i =
      let W = f.width in
      let C = f.size in
      let w : Word = (queue_at s.bench q).word in
      let x : List ℕ = get_or s.slots q [] in
      let e : in_range W C (length x) w z ≡ true = range_in W C (length x) w z (record {
        sizes = record { width_high = h.width; size_low = h.size.0; size_high = h.size.1; all = v.sizes q lt };
        word = v.words q lt;
        stage = i;
      }) in
      subst (λ (y : Word). (desk_answer W C y x z ≡ Ok (row q z).next) × (desk_word W C y x z ≡ (row q z).word)
      × (desk_slots W C y x z ≡ stored x (row q z).store))
      (sym (word_at_lem q)) (row_done W C w x z e)

  -- process p, whose turn it is, lends the stage z on queue q
  module _ (ps : List ℕ) (p q : ℕ) (z : Stage) (who : who_next (sheet_of f ps s) ≡ p) (small : p < 8) (lt : q < length f.shares)
      (i : StageIn f.width f.size z) where
    abbrev this : Lent
    this = record { process = p; queue = q; stage = z }

    abbrev was : Note
    was = note_of f (process_at s.bench p)

    the_answer : answer_to f.width f.size (table_of s) this ≡ Ok (row q z).next
    the_answer = (desk_row q z lt i).0

    note_after_lem : noted (note_at notes p) (answer_to f.width f.size (table_of s) this) ≡ note_after (stage_after (row q z).next) was.calls
    note_after_lem =
        ap (λ (n : Note). noted n (answer_to f.width f.size (table_of s) this)) (note_at_lem p)
        ∙ ap (λ (x : Stage). note_after x was.calls) (ap stage_of the_answer)

    one_step : (s' : State) → lends p was ≡ this
        → (table_of s').words ≡ set (table_of s).words q (row q z).word
        → s'.slots ≡ set s.slots q (stored (get_or s.slots q []) (row q z).store)
        → map (note_of f) s'.bench.processes ≡ set notes p (note_after (stage_after (row q z).next) was.calls)
        → s'.bench.steps ≡ s.bench.steps + 1
        → Step f ps s this s'
    one_step s' e words slots noting count = record {
      going = subst (λ (j : ℕ). j < 8) (sym who) small;
      next = sym (ap (λ (j : ℕ). lends j (note_at notes j)) who ∙ ap (lends p) (note_at_lem p) ∙ e);
      number = ap number_of the_answer;
      after = λ j. record {
        schedule = drop 1 ps;
        notes = (ap (set notes p) note_after_lem ∙ sym noting) j;
        table = record {
          words = (ap (set (table_of s).words q) (desk_row q z lt i).1 ∙ sym words) j;
          slots = (ap (set s.slots q) (desk_row q z lt i).2 ∙ sym slots) j;
        };
      };
      count = count;
    }

  -- of a process in a call, that call is the first that has not returned
  unreturned : (p : ℕ) (r : Process) → Scripted f p r → is_idle r.stage ≡ false
      → slice (r.next - 1) r.stop f.calls ≡ r.call ∷ slice r.next r.stop f.calls
  unreturned p r k b =
      let n : 1 ≤ r.next = k.begun b in
      let e : suc (r.next - 1) ≡ r.next = omega arith in
      slice-cons (r.next - 1) r.stop f.calls Pop (omega (arith, k.to)) (omega (arith, k.stop, h.count, sum-take (suc p) f.shares))
      ∙ ap (λ (c : Call). c ∷ slice (suc (r.next - 1)) r.stop f.calls) (k.call b) ∙ ap (λ (j : ℕ). r.call ∷ slice j r.stop f.calls) e

  -- what was noted before the process steps with the record r
  record Before (p : ℕ) (r : Process) : Type 0 where
    calls : (note_of f (process_at s.bench p)).calls ≡ r.call ∷ slice r.next r.stop f.calls
    stage : cond (is_idle (process_at s.bench p).stage) (first_stage r.call) (process_at s.bench p).stage ≡ r.stage

  before : (p : ℕ) (r : Process) → Was (sizes_of f) s p r → Scripted f p r → is_idle r.stage ≡ false → Before p r
  before p _ goes k b =
      let r : Process = process_at s.bench p in record {
        calls = ap (λ (t : Bool). slice (cond t r.next (r.next - 1)) r.stop f.calls) b ∙ unreturned p r k b;
        stage = ap (λ (t : Bool). cond t (first_stage r.call) r.stage) b;
      }
  before p _ (begins call z) k b =
      let r : Process = process_at s.bench p in
      let e : r.next + 1 - 1 ≡ r.next = omega arith in record {
        calls = ap (λ (x : Stage). slice (cond (is_idle x) r.next (r.next - 1)) r.stop f.calls) z
            ∙ ap (λ (j : ℕ). slice j r.stop f.calls) (sym e) ∙ unreturned p (begun s.bench.steps call r) k b;
        stage = ap (λ (x : Stage). cond (is_idle x) (first_stage call) x) z;
      }

  -- a step in a call
  module _ (ps : List ℕ) (p : ℕ) (r : Process) (who : who_next (sheet_of f ps s) ≡ p) (k : Steps (sizes_of f) s p r) (cr : Scripted f p r) where
    abbrev q : ℕ
    q = queue_of p r.call

    abbrev o : Stepped
    o = row_at (sizes_of f) s p r

    abbrev r' : Process
    r' = process_after s.bench.steps (queue_at s.bench q).resets r o.next

    abbrev then : List Call
    then = slice r.next r.stop f.calls

    noted_before : Before p r
    noted_before = before p r k.was cr k.busy

    busy_lends : lends p (note_of f (process_at s.bench p)) ≡ record { process = p; queue = q; stage = r.stage }
    busy_lends =
        let z : Stage = (process_at s.bench p).stage in λ i. record {
          process = p;
          queue = ap (queue_for p) noted_before.calls i;
          stage = (ap (λ (l : List Call). cond (is_idle z) (first_of l) z) noted_before.calls ∙ noted_before.stage) i;
        }

    left_after : (t : Bool) → cond t then (r.call ∷ then) ≡ slice (cond t r.next (r.next - 1)) r.stop f.calls
    left_after true = refl
    left_after false = sym (unreturned p r cr k.busy)

    busy_note : note_after (stage_after o.next) (note_of f (process_at s.bench p)).calls ≡ note_of f r'
    busy_note =
        let z : Stage = stage_after o.next in
        ap (note_after z) noted_before.calls ∙ (λ i. record { stage = z; calls = left_after (is_idle z) i })

    pub act_step : Step f ps s (lent_with p r) (act f.width f.size p r s)
    act_step =
        subst (Step f ps s (lent_with p r)) (sym (act_is (sizes_of f) s p r))
        (subst (λ (t : Bool). Step f ps s (record { process = p; queue = cond t p q; stage = r.stage }) (acted p r s o)) (sym k.busy)
        (one_step ps p q r.stage who (omega (arith, k.below, h.processes)) k.placed.queue k.placed.stage (acted p r s o) busy_lends
        (map-set (λ (m : Queue). m.word) s.bench.queues q (queue_after (queue_at s.bench q) o)) refl
        (map-set (note_of f) s.bench.processes p r' ∙ ap (set notes p) (sym busy_note)) refl))

  -- an idle step: the process has no call left
  module _ (ps : List ℕ) (p : ℕ) (who : who_next (sheet_of f ps s) ≡ p) (lt : p < length f.shares)
      (e : is_idle (process_at s.bench p).stage ≡ true)
      (same : turning f.calls p s ≡ process_at s.bench p) where
    abbrev r : Process
    r = process_at s.bench p

    abbrev begins_next : Process
    begins_next = begun s.bench.steps (get_or f.calls r.next Pop) r

    all_begun : (t : Bool) → ltb r.next r.stop ≡ t → r.stop ≤ r.next
    all_begun true d =
        let n : (turning f.calls p s).next ≡ r.next + 1 =
        ap (λ (t : Bool). (cond (t && ltb r.next r.stop) begins_next r).next) e ∙ ap (λ (t : Bool). (cond t begins_next r).next) d in
        absurd (omega (arith, ap (λ (x : Process). x.next) same))
    all_begun false d = ltb-false r.next r.stop d

    none_left : (note_of f r).calls ≡ []
    none_left =
        let n : r.next ≡ r.stop = omega (arith, all_begun (ltb r.next r.stop) refl, (c p lt).to) in
        ap (λ (t : Bool). slice (cond t r.next (r.next - 1)) r.stop f.calls) e
        ∙ ap (λ (j : ℕ). slice j r.stop f.calls) n ∙ slice_empty r.stop f.calls

    waits : r.stage ≡ Idle
    waits = idle_is r.stage e

    idle_lent : lent_with p r ≡ record { process = p; queue = p; stage = Idle }
    idle_lent = λ i. record { process = p; queue = ap (λ (t : Bool). cond t p (queue_of p r.call)) e i; stage = waits i }

    idle_lends : lends p (note_of f r) ≡ record { process = p; queue = p; stage = Idle }
    idle_lends = λ i. record {
      process = p;
      queue = ap (queue_for p) none_left i;
      stage =
          (ap (λ (l : List Call). cond (is_idle r.stage) (first_of l) r.stage) none_left ∙ ap (λ (z : Stage). cond (is_idle z) Idle z) waits) i;
    }

    idle_note : note_after Idle (note_of f r).calls ≡ note_of f r
    idle_note = λ i. record { stage = sym waits i; calls = (ap (drop 1) none_left ∙ sym none_left) i }

    idle_step_lem : Step f ps s (lent_with p r) (idle s)
    idle_step_lem =
        subst (λ (x : Lent). Step f ps s x (idle s)) (sym idle_lent)
        (one_step ps p p Idle who (omega (arith, h.processes)) lt tt (idle s) idle_lends
        (sym (ap (set (table_of s).words p) (sym (word_at_lem p)) ∙ set-get_or (table_of s).words p fresh.word)) (sym (set-get_or s.slots p []))
        (sym (ap (set notes p) (idle_note ∙ sym (note_at_lem p)) ∙ set-get_or notes p (record { stage = Idle; calls = [] }))) refl)

  -- a step of the schedule
  pub turn_step : (ps : List ℕ) (p : ℕ) → p < length f.shares
      → Step f (p ∷ ps) s (lent_with p (turning f.calls p s)) (turn f.width f.size f.calls p s)
  unfolding turn turn_as
  turn_step ps p lt =
      ready_case f h (λ (r : Process). turning f.calls p s ≡ r → Made r (is_idle r.stage)) s v c p lt
      (λ e d. subst (Made (process_at s.bench p)) (sym e) (idle_step_lem (p ∷ ps) p refl lt e d))
      (λ r k cr d. subst (Made r) (sym k.busy) (act_step (p ∷ ps) p r refl k cr))
      refl
    where
      Made : Process → Bool → Type 0
      Made r t = Step f (p ∷ ps) s (lent_with p r) (cond t (idle s) (act f.width f.size p r s))

  abbrev pub Good : State → Type 0
  Good x = Sound (sizes_of f) x × Each f x

  pub after_act : (p : ℕ) (r : Process) → Steps (sizes_of f) s p r → Scripted f p r → Good (act f.width f.size p r s)
  after_act p r k cr = subst Good (sym (act_is (sizes_of f) s p r)) (sound_act (sizes_of f) (fit f h) s v p r k, each_act f h s v c p r k cr)

  pub after_turn : (p : ℕ) → p < length f.shares → Good (turn f.width f.size f.calls p s)
  after_turn p lt = turn_case f h Good s v c p lt (λ _. (sound_idle (sizes_of f) (fit f h) s v, c)) (after_act p)
