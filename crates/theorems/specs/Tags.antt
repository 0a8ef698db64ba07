-- The tag counts resets, and goes round: fewer than 2^W resets during each top pop are enough for gone-round to be 0.
use Rattle.std.specs.Prelude.{ℕ, ◌+◌, ◌%◌, ◌^◌, ◌<◌, List, length, ◌↔◌, ◌≡◌}
use Rattle.base.specs.Bytes.{Bytes}
use Rattle.word.specs.{Stages.row_number, declared.Stage.TheVariants.T4}
use Rattle.runfile.specs.{Encode.InRanges, File.RunFile, File.good, File.file_of}
use Rattle.runs.specs.{Moment.queue_of, Run.closed, Run.run_of, States.StateOf, State.State, State.queue_at, State.process_at}

-- whoever stands at T4 has seen its queue reset fewer than 2^W times since its T1; and not at all
abbrev pub FewResets : RunFile → State → Type 0
FewResets f s = (p : ℕ) → p < length f.shares → row_number (process_at s.bench p).stage ≡ row_number (T4 0 0 0 0)
    → (queue_at s.bench (queue_of p (process_at s.bench p).call)).resets < (process_at s.bench p).resets_at_t1 + 2 ^ f.width

abbrev pub NoResets : RunFile → State → Type 0
NoResets f s = (p : ℕ) → p < length f.shares → row_number (process_at s.bench p).stage ≡ row_number (T4 0 0 0 0)
    → (queue_at s.bench (queue_of p (process_at s.bench p).call)).resets ≡ (process_at s.bench p).resets_at_t1

pub record Tags (f : RunFile) : Type 0 where
  -- in every state of the run the tag is the number of resets mod 2^W,
  pub tag_is_resets : (s : State) → StateOf f s → (q : ℕ) → q < length f.shares
      → (queue_at s.bench q).word.tag ≡ (queue_at s.bench q).resets % 2 ^ f.width
  -- and where in every state of the run resets are few, no take is gone-round;
  pub none_gone_round : ((s : State) → StateOf f s → FewResets f s) → (closed f).bench.gone ≡ 0
  -- with no tag (W = 0) fewer than 2^W resets are none at all, and the tag is 0 in every state of the run
  pub few_is_none : f.width ≡ 0 → (s : State) → StateOf f s → FewResets f s ↔ NoResets f s
  pub tag_is_none : f.width ≡ 0 → (s : State) → StateOf f s → (q : ℕ) → q < length f.shares → (queue_at s.bench q).word.tag ≡ 0

abbrev pub TagsOfEveryRun : Type 0
TagsOfEveryRun = (f : RunFile) → InRanges f → Tags f

-- the same of files: of a run that is refused there is nothing to show
abbrev pub FewResetsEnough : Type 0
FewResetsEnough = (file : List ℕ) → Bytes file → (room : ℕ)
    → ((f : RunFile) → file_of file ≡ good f → (s : State) → StateOf f s → FewResets f s) → (run_of file room).gone ≡ 0
