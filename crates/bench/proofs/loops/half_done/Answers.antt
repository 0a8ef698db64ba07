-- `loops::half_done` meets its contract.
use mathlib.Core.Path.{◌≡◌, refl, sym, ap, ◌∙◌}
use mathlib.Core.Bool.{Bool, true, false, not}
use Rattle.std.specs.Int.{from_bool}
use mathlib.Core.List.{List}
use Prim.Native.Nat.{ℕ, ◌≤◌, ◌<◌}
use native.Mathlib.Omega.{arith}
use lib.ListN.{length, get_or}
use Rattle.base.specs.Lists.{list_of}
use Rattle.base.proofs.Lists.{list_of-length, list_of_get_d}
use Rattle.runs.specs.State.{Process, nobody}
use Rattle.records.specs.declared.Process.{Process as HeldProcess}
use Rattle.bench.specs.Inner.Layout.{idle_held, process_at_in}
use Rattle.word.specs.Stages.{is_idle}
use Rattle.runs.specs.Inner.Half.{bit}
use Rattle.runs.proofs.HalfLaws.{bit_most, half_fits, half_loop}
use Rattle.bench.proofs.loops.half_done.Goals as goal

abbrev all : List HeldProcess → List Process
all l = list_of 8 (process_at_in l)

eight : (l : List HeldProcess) → length (all l) ≡ 8
eight l = list_of-length 8 (process_at_in l)

bit_is : (t : Bool) → from_bool (not t) ≡ bit t
bit_is true = refl
bit_is false = refl

half_of : (l : List HeldProcess) (i half : ℕ) (t : Bool) → half ≡ from_bool (not t) → t ≡ is_idle (get_or l i idle_held).stage → i < 8
    → half ≡ bit (is_idle (get_or (all l) i nobody).stage)
half_of l i half t h e lt =
    h ∙ bit_is t ∙ ap bit e ∙ ap (λ (x : Process). bit (is_idle x.stage)) (sym (list_of_get_d 8 (process_at_in l) nobody i lt))

half_most : (half : ℕ) (t : Bool) → half ≡ from_bool (not t) → half ≤ 1
half_most half t h = omega (arith, h ∙ bit_is t, bit_most t)

pub overflow_mul-set : goal.overflow_mul-set
overflow_mul-set c =
    let h = c.loop-i in
    omega (arith, half_fits (all c.args.processes.now) (eight c.args.processes.now) h.i h.set h.invariant c.loop-i-test.true)

pub overflow_add-set : goal.overflow_add-set
overflow_add-set c =
    let h = c.loop-i in
    omega (
      arith,
      half_fits (all c.args.processes.now) (eight c.args.processes.now) h.i h.set h.invariant c.loop-i-test.true,
      half_most _ _ c.from.ensures,
    )

pub loop-i-preserved : goal.loop-i-preserved
loop-i-preserved c =
    let l = c.args.processes.now in
    let h = c.loop-i in
    let more = c.loop-i-test.true in
    half_loop (all l) (eight l) _ _ _ h.invariant more (omega arith) (half_of l _ _ _ c.from.ensures c.is_idle.ensures (omega (arith, more)))
