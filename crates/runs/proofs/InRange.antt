-- No step of a run of a good file is out of range, and no slot at or above C is touched. Gone-round runs are included.
use Prim.Native.Nat.{ℕ, ◌<◌, ◌≤◌}
use mathlib.Core.Path.{◌≡◌, refl, sym, subst, ◌∙◌}
use mathlib.Core.Bool.{true, false}
use mathlib.Core.List.{List, []}
use native.Mathlib.Omega.{arith}
use lib.Dec.{ltb}
use lib.ListN.{length, get_or}
use Rattle.word.specs.Range.{in_range}
use Rattle.steps.specs.Step.{loaded_slot, loaded}
use Rattle.base.proofs.Cases.{either_way, ever}
use Rattle.std.specs.Prelude.{Option, Some, IfSome}
use Rattle.steps.specs.declared.Store.{Store}
use Rattle.steps.proofs.StepLaws.{loads_below, stores_below}
use Rattle.runfile.specs.Encode.{InRanges}
use Rattle.base.specs.Bytes.{Bytes}
use Rattle.runfile.specs.File.{RunFile, Answer, refused, good, file_of}
use Rattle.runfile.proofs.NumberLaws.{refused_few}
use Rattle.runfile.proofs.RangeLaws.{good_ranges}
use Rattle.runs.specs.Moment.{queue_of}
use Rattle.call_log.specs.Decode.{log_length}
use Rattle.runs.specs.Run.{Outcome, refusal, finished, closed, outcome, run_of}
use Rattle.word.specs.Stages.{is_idle}
use Rattle.runs.specs.State.{Process, State, queue_at, process_at}
use Rattle.runs.specs.Turn.{stepping}
use Rattle.runs.proofs.Sound.{placed_in_range}
use Rattle.runs.specs.Inner.Sound.{slots_at}
use Rattle.runs.proofs.Scripts.{sizes_of, fit, ready_case}
use Rattle.runs.proofs.States.{WhoeverSteps, sound, each_scripted}

-- whoever steps next loads and stores slots below C only
pub record Touches (f : RunFile) (s : State) (p : ℕ) (r : Process) : Type 0 where
  pub loads : (at : ℕ) → loaded_slot r.stage ≡ Some at → at < f.size
  pub stores : (at node : ℕ) → is_idle r.stage ≡ false → (stepping f.width f.size p r s).store ≡ Some (record { at = at; node = node }) → at < f.size

pub below_C : WhoeverSteps Touches
below_C f h s o p lt =
    let v = sound f h s o in
    ready_case f h (Touches f s p) s v (each_scripted f h s o) p lt
    (λ e. record {
      loads = λ at l. subst (λ (o : Option ℕ). IfSome o (λ at. at < f.size)) l (loads_below f.width f.size (process_at s.bench p).stage (v.each p lt).stage);
      stores = λ at node d. ever (sym e ∙ d);
    })
    (λ r k c. record {
      loads = λ at l. subst (λ (o : Option ℕ). IfSome o (λ at. at < f.size)) l (loads_below f.width f.size r.stage k.placed.stage);
      stores = λ at node d t. subst (λ (o : Option Store). IfSome o (λ made. made.at < f.size)) t (stores_below f.width f.size (queue_at s.bench (queue_of p r.call)).word
          (loaded (slots_at s (queue_of p r.call)) (loaded_slot r.stage)) r.stage k.placed.stage);
    })

pub every_step_in_range : WhoeverSteps (λ f s p r. let q : ℕ = queue_of p r.call in
    in_range f.width f.size (length (get_or s.slots q [])) (queue_at s.bench q).word r.stage ≡ true)
every_step_in_range f h s o p lt =
    let v = sound f h s o in
    ready_case f h In s v (each_scripted f h s o) p lt (λ e. placed_in_range (sizes_of f) (fit f h) s v p (process_at s.bench p) (v.each p lt))
    (λ r k c. placed_in_range (sizes_of f) (fit f h) s v p r k.placed)
  where
    In : Process → Type 0
    In r =
        let q : ℕ = queue_of p r.call in
        in_range f.width f.size (length (get_or s.slots q [])) (queue_at s.bench q).word r.stage ≡ true

-- What a run gives: a file is refused with 1 to 7, or has a good record and is refused with 8, or is run to its end.
pub run_cases : (Q : Outcome → Type 0) (file : List ℕ) → Bytes file → (room : ℕ) → ((n : ℕ) → 1 ≤ n → n ≤ 8 → Q (refusal n))
    → ((f : RunFile) → file_of file ≡ good f → InRanges f → Q (finished f (closed f))) → Q (run_of file room)
unfolding run_of
run_cases Q file b room refuses runs = by (file_of file) refl
  where
    by : (a : Answer) → file_of file ≡ a → Q (outcome room a)
    by (refused n) e = let k = refused_few file n e in refuses n k.0 (omega (arith, k.1))
    by (good f) e =
        let h : InRanges f = good_ranges file f b e in
        either_way Q (ltb room (log_length (length f.calls))) (λ _. refuses 8 (omega arith) (omega arith)) (λ _. runs f e h)
