-- A run stepped by hand at the desk: a person keeps a sheet, lends one stage after another, and notes the answers; the desk alone makes the steps.
use Rattle.std.specs.Prelude.{ℕ, zero, suc, ◌/◌, ◌%◌, ◌<◌, cond, ltb, List, [], ◌∷◌, ◌++◌, map, length, get_or, set, take, drop, replicate, ◌≡◌, refl}
use Rattle.base.specs.{Lists.list_of, Bytes.Bytes}
use Rattle.desk.specs.{Desk.number_of, Desk.stage_of, Desk.desk_answer, Desk.desk_word, Desk.desk_slots, Desk.Answer}
use Rattle.word.specs.{Stages.is_idle, declared.Stage.Stage, declared.Word.Word}
use Rattle.word.specs.declared.Stage.TheVariants.{Idle, P1, P2, P3, T1, T2, T3, T4, B1, B2, B3, B4, B5, B7}
use Rattle.runfile.specs.{File.RunFile, File.good, File.script, File.record_in, File.file_of, declared.Call.Call}
use Rattle.runs.specs.{Moment.queue_of, State.Process, State.Queue, State.State, State.fresh, State.process_at, State.start}
use Rattle.runs.specs.Run.{play, lowest, closing_steps, closed, in_table, table_row_length, table_size, Outcome, run_of, played, closing_step}
use Rattle.runs.specs.{Turn.first_stage, Turn.act, Turn.turn, Turn.turning, Worked.Case, Worked.K1, Worked.runs}

-- the table: the words and the slots of eight queues
pub record Table : Type 0 where
  pub words : List Word
  pub slots : List (List ℕ)

abbrev pub word_at : Table → ℕ → Word
word_at t q = get_or t.words q fresh.word

abbrev pub slots_at : Table → ℕ → List ℕ
slots_at t q = get_or t.slots q []

-- all 0 at first
abbrev pub fresh_table : ℕ → Table
fresh_table C = record { words = replicate 8 fresh.word; slots = replicate 8 (replicate C 0) }

-- its numbers as a run gives them
abbrev pub numbers : ℕ → Table → List ℕ
numbers P t = list_of table_size (λ k. in_table P (word_at t (k / table_row_length)) t.slots (k / table_row_length) (k % table_row_length))

-- what the desk is lent: a process's stage, with a queue's word and slots
pub record Lent : Type 0 where
  pub process : ℕ
  pub queue : ℕ
  pub stage : Stage

abbrev pub answer_to : ℕ → ℕ → Table → Lent → Answer
answer_to W C t l = desk_answer W C (word_at t l.queue) (slots_at t l.queue) l.stage

abbrev pub table_after : ℕ → ℕ → Table → Lent → Table
table_after W C t l =
    let w : Word = word_at t l.queue in
    let x : List ℕ = slots_at t l.queue in
    record { words = set t.words l.queue (desk_word W C w x l.stage); slots = set t.slots l.queue (desk_slots W C w x l.stage) }

abbrev pub replay : ℕ → ℕ → Table → List Lent → Table
replay W C t [] = t
replay W C t (l ∷ ls) = replay W C (table_after W C t l) ls

-- what is noted of a process: the stage that the desk gave it last, and the calls of its script that have not returned
pub record Note : Type 0 where
  pub stage : Stage
  pub calls : List Call

-- what it lends next: that stage, or, if that is idle, the first stage of its next call; with no call left it stays idle, on its own queue
abbrev pub first_of : List Call → Stage
first_of [] = Idle
first_of (c ∷ cs) = first_stage c

abbrev pub queue_for : ℕ → List Call → ℕ
queue_for p [] = p
queue_for p (c ∷ cs) = queue_of p c

abbrev pub lends : ℕ → Note → Lent
lends p n = record { process = p; queue = queue_for p n.calls; stage = cond (is_idle n.stage) (first_of n.calls) n.stage }

-- an answer that leaves the process idle has ended its call
abbrev pub noted : Note → Answer → Note
noted n a = record { stage = stage_of a; calls = cond (is_idle (stage_of a)) (drop 1 n.calls) n.calls }

-- the sheet: what is left of the schedule, a note of each process, and the table
pub record Sheet : Type 0 where
  pub schedule : List ℕ
  pub notes : List Note
  pub table : Table

abbrev pub note_at : List Note → ℕ → Note
note_at notes p = get_or notes p (record { stage = Idle; calls = [] })

abbrev pub lowest_half_done : List Note → ℕ
lowest_half_done [] = 0
lowest_half_done (n ∷ ns) = cond (is_idle n.stage) (suc (lowest_half_done ns)) 0

-- who steps next: by the schedule, and when it is used up the lowest half-done process; 8 means that the run is closed
abbrev pub who_next : Sheet → ℕ
who_next h = get_or h.schedule 0 (lowest_half_done h.notes)

abbrev pub sheet_after : ℕ → ℕ → Sheet → Lent → Sheet
sheet_after W C h l = record {
  schedule = drop 1 h.schedule;
  notes = set h.notes l.process (noted (note_at h.notes l.process) (answer_to W C h.table l));
  table = table_after W C h.table l;
}

abbrev pub fresh_sheet : RunFile → Sheet
fresh_sheet f = record { schedule = f.schedule; notes = list_of 8 (λ p. record { stage = Idle; calls = script f p }); table = fresh_table f.size }

-- stages that can be lent one after another: each is the one that the sheet has next, none is refused, and after the last the run is closed
abbrev pub Accepts : ℕ → ℕ → Sheet → List Lent → Type 0
Accepts W C h [] = who_next h ≡ 8
Accepts W C h (l ∷ ls) = (who_next h < 8) × (l ≡ lends (who_next h) (note_at h.notes (who_next h)))
    × (number_of (answer_to W C h.table l) ≡ 0) × Accepts W C (sheet_after W C h l) ls

-- What a run lends: at each of its steps the stage of the process's record, and the queue that it works on.
abbrev pub lent_with : ℕ → Process → Lent
lent_with p r = record { process = p; queue = cond (is_idle r.stage) p (queue_of p r.call); stage = r.stage }

unfoldable pub lent_playing : ℕ → ℕ → List Call → List ℕ → State → List Lent
unfolding turn
lent_playing W C calls [] s = []
lent_playing W C calls (p ∷ ps) s = lent_with p (turning calls p s) ∷ lent_playing W C calls ps (turn W C calls p s)

unfoldable pub lent_closing : ℕ → ℕ → ℕ → State → List Lent
unfolding act
lent_closing W C zero s = []
lent_closing W C (suc k) s =
    let p : ℕ = lowest s.bench.processes in
    let later : List Lent = lent_with p (process_at s.bench p) ∷ lent_closing W C k (closing_step W C s) in
    cond (ltb p 8) later []

unfoldable pub lent_by : RunFile → List Lent
unfolding lent_playing lent_closing play
lent_by f = lent_playing f.width f.size f.calls f.schedule (start f) ++ lent_closing f.width f.size closing_steps (played f)

-- the table of a state of a run
abbrev pub table_of : State → Table
table_of s = record { words = map (λ (m : Queue). m.word) s.bench.queues; slots = s.slots }

-- a run whose outcome is o, replayed: every stage is accepted, the queues and the table are as the run leaves them, and there is a stage a step
pub record Replayed (f : RunFile) (o : Outcome) : Type 0 where
  pub accepted : Accepts f.width f.size (fresh_sheet f) (lent_by f)
  pub queues : replay f.width f.size (fresh_table f.size) (lent_by f) ≡ table_of (closed f)
  pub table : o.table ≡ numbers (length f.shares) (replay f.width f.size (fresh_table f.size) (lent_by f))
  pub steps : o.steps ≡ length (lent_by f)

-- A run of the bench can be replayed at the desk, from the scripts, the schedule and the desk's answers alone;
abbrev pub EveryRunReplayed : Type 0
EveryRunReplayed = (file : List ℕ) → Bytes file → (room : ℕ) (f : RunFile) → file_of file ≡ good f → (run_of file room).number ≡ 0
    → Replayed f (run_of file room)

-- and in no other way: the sheet says each time what is lent next.
abbrev pub OnlyWay : Type 0
OnlyWay = (W C : ℕ) (h : Sheet) (ls ms : List Lent) → Accepts W C h ls → Accepts W C h ms → ls ≡ ms

-- what K1 lends; and a process with no call left, on its own queue
abbrev lent : ℕ → ℕ → Stage → Lent
lent p q z = record { process = p; queue = q; stage = z }

lent_in : (lent_by (record_in K1.file)
    ≡ lent 0 0 (P1 7) ∷ lent 0 0 (P2 7 0) ∷ lent 0 0 (P3 0) ∷ lent 1 0 T1 ∷ lent 1 0 (T2 0 0) ∷ lent 1 0 (T3 0 0 1) ∷ lent 0 0 B1 ∷ lent 0 0 (B2 1)
    ∷ lent 1 0 (T4 0 0 1 7) ∷ lent 0 0 (B3 1) ∷ lent 0 0 (B4 1 7) ∷ lent 0 0 (B5 1 7 1 0) ∷ lent 0 0 (B7 1 7 1 0) ∷ [])
    × (lent_by (record { width = 8; size = 4; shares = 0 ∷ 0 ∷ []; calls = []; schedule = 1 ∷ [] }) ≡ lent 1 1 Idle ∷ [])
unfolding lent_by
lent_in = (refl, refl)

-- K1 to K8: the number of stages lent, and the first queue's row after them
abbrev replayed : Case → List ℕ
replayed k =
    let f : RunFile = record_in k.file in
    length (lent_by f) ∷ take 7 (numbers (length f.shares) (replay f.width f.size (fresh_table f.size) (lent_by f)))

worked : map replayed runs ≡ map (λ (k : Case). k.steps ∷ k.row) runs
unfolding lent_by
worked = refl
