-- What the programs promise, put together with the acceptance of every log.
use Prim.Native.Nat.{ℕ}
use mathlib.Core.Path.{◌≡◌, sym, ap, ◌∙◌}
use mathlib.Core.List.{List}
use lib.ListN.{length, get_or}
use Rattle.std.specs.Prelude.{Ok}
use Rattle.runs.proofs.PromiseLaws.{front_is}
use Rattle.runs.specs.Run.{run_of}
use Rattle.rules.specs.Judge.{Verdict, says, judge_of, verdict_in}
use Rattle.rules.proofs.Settled.{one_answer}
use Rattle.theorems.specs.EveryLogAccepted.{RunThenJudge, RunThenAccepted, HostRunThenJudge}
use Rattle.theorems.proofs.Rules.Accepted.{every_log_accepted}

pub run_then_judge : RunThenJudge
run_then_judge file b room front report table h number gone v e =
    e ∙ ap judge_of h.part
    ∙ every_log_accepted file b room (sym (ap (λ (l : List ℕ). get_or l 0 0) h.counts) ∙ number)
    (sym (ap (λ (l : List ℕ). get_or l 3 0) h.counts) ∙ gone)

pub run_then_accepted : RunThenAccepted
run_then_accepted file b room front report table h number gone answer e accepted =
    one_answer answer (Ok accepted) (run_then_judge file b room front report table h number gone (verdict_in answer) e)

pub host_run_then_judge : HostRunThenJudge
host_run_then_judge file b buffer written buffer' report table h number gone n entry e d =
    let front = front_is (run_of file (length buffer)) buffer written buffer' report table h in
    let v : judge_of (run_of file (length buffer)).log ≡ says 0 0 =
    every_log_accepted file b (length buffer) (sym (ap (λ (l : List ℕ). get_or l 0 0) h.counts) ∙ number)
    (sym (ap (λ (l : List ℕ). get_or l 3 0) h.counts) ∙ gone) in (
      e ∙ ap (λ (l : List ℕ). (judge_of l).number) front ∙ ap (λ (x : Verdict). x.number) v,
      d ∙ ap (λ (l : List ℕ). (judge_of l).entry) front ∙ ap (λ (x : Verdict). x.entry) v,
    )
