-- What `left` gives of the log that `run` hands back, by what the two promise.
use Prim.Native.Nat.{ℕ, ◌-◌, ◌<◌}
use mathlib.Core.Path.{◌≡◌, sym, ap, ◌∙◌, subst}
use mathlib.Core.Bool.{Bool, false, cond}
use mathlib.Core.List.{List, []}
use lib.ListN.{length, get_or, take, replicate}
use lib.Seq.{take-append_seam}
use Rattle.call_log.specs.Decode.{processes_of}
use Rattle.runs.specs.Run.{run_of}
use Rattle.rules.specs.Judge.{Verdict}
use Rattle.rules.specs.Judge.{says, judge_of}
use Rattle.rules.specs.Left.{unordered, left_of, Leaves}
use Rattle.theorems.proofs.Rules.Accepted.{every_log_accepted}
use Rattle.theorems.proofs.Rules.Left.{every_run_leaves}
use Rattle.theorems.specs.Left.{on_table, left_by, LeftOnTable, RunThenLeft}

-- an accepted log is not refused
given : (log table : List ℕ) → LeftOnTable log table → judge_of log ≡ says 0 0 → (q : ℕ) → q < processes_of log → (number count : ℕ) (nodes : List ℕ)
    → Leaves log q number count nodes → (number ≡ 0) × (take count nodes ≡ on_table table q)
given log table t a q lt number count nodes h =
    let free : unordered (judge_of log).number ≡ false = ap (λ (v : Verdict). unordered v.number) a in
    let is : left_of log q ≡ left_by log q = ap (λ (s : Bool). cond s [] (left_by log q)) free in (
      h.refused ∙ ap (λ (s : Bool). cond s (judge_of log).number 0) free,
      ap (λ (n : ℕ). take n nodes) h.counted ∙ ap (λ (x : List ℕ). take (length (left_of log q)) x) h.put
          ∙ take-append_seam (left_of log q) (replicate (256 - length (left_of log q)) 0) ∙ is ∙ sym (t.queues q lt).here,
    )

pub run_then_left : RunThenLeft
run_then_left file b room front report table h number gone q lt n c nodes l =
    let ran = sym (ap (λ (x : List ℕ). get_or x 0 0) h.counts) ∙ number in
    let none = sym (ap (λ (x : List ℕ). get_or x 3 0) h.counts) ∙ gone in
    subst (λ (t : List ℕ). (n ≡ 0) × (take c nodes ≡ on_table t q)) (sym h.queues)
    (given (run_of file room).log (run_of file room).table (every_run_leaves file b room ran none) (every_log_accepted file b room ran none) q
    (subst (λ (x : List ℕ). q < processes_of x) h.part lt) n c nodes (subst (λ (x : List ℕ). Leaves x q n c nodes) h.part l))
