-- EVERY LOG THE BENCH WRITES IS ACCEPTED. For every file of bytes and every buffer length: if the run's number is 0 and its gone-round
-- count is 0, the judge's verdict on the run's log is 0, entry 0.
use Prim.Native.Nat.{ℕ, ◌+◌, ◌≤◌}
use mathlib.Core.Path.{◌≡◌}
use native.Mathlib.Omega.{arith}
use lib.ListN.{length}
use Rattle.call_log.specs.Encode.{Log, InRange}
use Rattle.runfile.specs.Encode.{InRanges}
use Rattle.runfile.specs.File.{RunFile}
use Rattle.runfile.proofs.RangeLaws.{calls_most}
use Rattle.runs.proofs.ClosingLaws.{steps_most, all_closed_idle}
use Rattle.runs.proofs.EntriesLaws.{entries_most}
use Rattle.runs.specs.Run.{Outcome, closed}
use Rattle.rules.specs.Accepted.{AcceptedLog}
use Rattle.rules.proofs.AcceptedLaws.{accepted_judged}
use Rattle.rules.specs.Judge.{says, judge_of}
use Rattle.runs.specs.State.{process_at, start}
use Rattle.word.specs.declared.Stage.TheVariants.{Idle}
use Rattle.runs.proofs.KindLaws.{idle_is}
use Rattle.runs.proofs.Scripts.{sizes_of, fit, start_fresh}
use Rattle.theorems.proofs.Queues.Origins.{origins}
use Rattle.runs.proofs.States.{ByScript, reached, the_end}
use Rattle.theorems.proofs.Queues.Whole.{Inv}
use Rattle.theorems.proofs.Queues.Kept.{kept}
use Rattle.theorems.proofs.Rules.Room.{Room, room_fresh, room_idle, room_act}
use Rattle.theorems.proofs.Rules.Rules.{rules_kept, fields_fit}
use Rattle.runs.proofs.InRange.{run_cases}
use Rattle.theorems.specs.EveryLogAccepted.{EveryLogAccepted}

-- the log of the run of f
abbrev pub log_of : RunFile → Log
log_of f = record { P = length f.shares; C = f.size; entries = (closed f).log }

-- it keeps the rules
module _ (f : RunFile) (w : InRanges f) (gone : (closed f).bench.gone ≡ 0) where
  pub held : Inv (sizes_of f) (closed f) × Room (sizes_of f) (closed f)
  held =
      let z = start_fresh f w in
      kept (sizes_of f) (fit f w) (ByScript f) (start f) z (Room (sizes_of f)) (room_fresh (sizes_of f) (fit f w) (start f) z) (room_idle (sizes_of f))
      (λ s v i j p r k _. room_act (sizes_of f) (fit f w) s v i j p r k) (closed f) (reached f w (closed f) (the_end f)) gone

  short : (closed f).bench.steps ≤ 32767
  short = le (steps_most f w)
    where
      le : {n : ℕ} → n ≤ 4096 + 48 → n ≤ 32767
      le h = omega arith

  pub all_idle : (p : ℕ) → (process_at (closed f).bench p).stage ≡ Idle
  all_idle p = idle_is (process_at (closed f).bench p).stage (all_closed_idle f p)

  pub log_accepted : AcceptedLog (log_of f)
  log_accepted = rules_kept f w (closed f) held.0 held.1 (origins f w (closed f) (the_end f)) all_idle short

  pub log_in_range : InRange (log_of f)
  log_in_range = record {
    processes = w.processes;
    slots = w.size;
    few = le (entries_most f) w.count (calls_most f w);
    fit = fields_fit f w (closed f) held.0 held.1 (origins f w (closed f) (the_end f)) all_idle short;
  }
    where
      le : {a b c : ℕ} → a ≤ b → c ≡ b → c ≤ 256 → a ≤ 256
      le h e k = omega arith

pub every_log_accepted : EveryLogAccepted
every_log_accepted file b room =
    run_cases (λ (o : Outcome). o.number ≡ 0 → o.gone ≡ 0 → judge_of o.log ≡ says 0 0) file b room (λ n low high z. absurd (omega arith))
    (λ f e w z g. accepted_judged (log_of f) (log_in_range f w g) (log_accepted f w g))
