-- The log of a run has at most as many entries as the file has calls: each entry is of a call that was left before.
use Prim.Native.Nat.{ℕ, zero, suc, ◌+◌, ◌-◌, ◌≤◌, ◌<◌}
use mathlib.Core.Path.{◌≡◌, refl, sym, ap, ◌∙◌}
use mathlib.Core.Bool.{Bool, true, false, true≢false}
use mathlib.Core.List.{List, [], ◌∷◌}
use native.Mathlib.Omega.{arith}
use lib.Dec.{ltb}
use lib.ListN.{length, get_or, take, set, length-set, length-append}
use borrow.Author.Tests.{ltb-true}
use Rattle.base.specs.Lists.{list_of}
use Rattle.word.specs.Stages.{is_idle}
use Rattle.steps.specs.Step.{stage_after}
use Rattle.steps.specs.declared.Next.{Next}
use Rattle.steps.specs.declared.Next.TheVariants.{Going, Done, Node, Nil, Lost, Full}
use Rattle.runfile.specs.Check.{sum}
use Rattle.runfile.specs.File.{RunFile}
use Rattle.runfile.specs.declared.Call.{Call}
use Rattle.runs.specs.Inner.Half.{bit}
use Rattle.runs.proofs.HalfLaws.{bit_most}
use Rattle.runs.specs.Inner.Left.{weight, total}
use Rattle.runs.proofs.ClosingLaws.{lowest_busy}
use Rattle.runs.proofs.Induction.{turn_keeps, play_keeps, closed_keeps}
use Rattle.runs.specs.Moment.{queue_of}
use Rattle.runs.specs.Run.{lowest, closed, closing_step, played}
use Rattle.runs.specs.State.{Process, State, nobody, queue_at, process_at, scripted, start}
use Rattle.runs.specs.Turn.{ready, process_after, entries_in, stepping, ending, act, turn, turning}

set_total : (rs : List Process) (p : ℕ) (x : Process) → total (set rs p x) + weight (get_or rs p nobody) ≤ total rs + weight x
set_total [] p x = omega arith
set_total (r ∷ rs) zero x = omega arith
set_total (r ∷ rs) (suc p) x = omega (arith, set_total rs p x)

-- a step that ends the call leaves the process idle
ends_idle : (p : ℕ) (r : Process) (s : State) (next : Next) → length (entries_in (ending p r s.bench next)) + bit (is_idle (stage_after next)) ≤ 1
ends_idle p r s (Going z) = omega (arith, bit_most (is_idle z))
ends_idle p r s Done = omega arith
ends_idle p r s (Node x) = omega arith
ends_idle p r s Nil = omega arith
ends_idle p r s Lost = omega arith
ends_idle p r s Full = omega arith

abbrev pub Bounded : ℕ → State → Type 0
Bounded N s = total s.bench.processes + length s.log ≤ N

pub act_bounded : (N W C p : ℕ) (r : Process) (s : State) → r.stop - r.next + 1 ≤ weight (process_at s.bench p) → Bounded N s
    → Bounded N (act W C p r s)
unfolding act
act_bounded N W C p r s h k =
    let o = stepping W C p r s in
    let over = ending p r s.bench o.next in
    omega (arith, ends_idle p r s o.next, length-append s.log (entries_in over), set_total s.bench.processes p (process_after s.bench.steps (queue_at s.bench (queue_of p r.call)).resets r o.next))

-- a half-done process weighs its call
pub busy_weight : (r : Process) → is_idle r.stage ≡ false → r.stop - r.next + 1 ≤ weight r
busy_weight r e = omega (arith, ap bit e)

ready_weight : (calls : List Call) (n : ℕ) (r : Process) → is_idle (ready calls n r).stage ≡ false
    → (ready calls n r).stop - (ready calls n r).next + 1 ≤ weight r
ready_weight calls n r = by_stage (is_idle r.stage) (ltb r.next r.stop) refl refl
  where
    by_stage : (t u : Bool) → is_idle r.stage ≡ t → ltb r.next r.stop ≡ u → is_idle (ready calls n r).stage ≡ false
        → (ready calls n r).stop - (ready calls n r).next + 1 ≤ weight r
    by_stage true true e d = rw (e, d) (λ h. omega (arith, ltb-true r.next r.stop d))
    by_stage true false e d = rw (e, d) (λ h. absurd (true≢false (sym e ∙ h)))
    by_stage false u e d = rw e (λ h. omega arith)

-- over a whole run, with eight processes throughout
abbrev Kept : ℕ → State → Type 0
Kept N s = (length s.bench.processes ≡ 8) × Bounded N s

act_kept : (N W C p : ℕ) (r : Process) (s : State) → r.stop - r.next + 1 ≤ weight (process_at s.bench p) → Kept N s → Kept N (act W C p r s)
unfolding act
act_kept N W C p r s h k = (eight ∙ k.0, act_bounded N W C p r s h k.1)
  where
    eight : length (act W C p r s).bench.processes ≡ length s.bench.processes
    eight =
        length-set s.bench.processes p
        (process_after s.bench.steps (queue_at s.bench (queue_of p r.call)).resets r (stepping W C p r s).next)

pub turn_bounded : (N W C : ℕ) (calls : List Call) (p : ℕ) (s : State) → Bounded N s → Bounded N (turn W C calls p s)
turn_bounded N W C calls p s h =
    turn_keeps W C calls (Bounded N) p s h
    (λ e. act_bounded N W C p (turning calls p s) s (ready_weight calls s.bench.steps (process_at s.bench p) e) h)

turn_kept : (N W C : ℕ) (calls : List Call) (p : ℕ) (s : State) → Kept N s → Kept N (turn W C calls p s)
turn_kept N W C calls p s h =
    turn_keeps W C calls (Kept N) p s h
    (λ e. act_kept N W C p (turning calls p s) s (ready_weight calls s.bench.steps (process_at s.bench p) e) h)

closing_kept : (N W C : ℕ) (s : State) → lowest s.bench.processes < 8 → Kept N s → Kept N (closing_step W C s)
closing_kept N W C s l h =
    let p = lowest s.bench.processes in
    act_kept N W C p (process_at s.bench p) s (busy_weight (process_at s.bench p) (lowest_busy s.bench.processes (omega arith))) h

-- at the start every call is left
first_most : (l : List ℕ) (n : ℕ) → sum (take n l) ≤ sum (take (suc n) l)
first_most [] zero = omega arith
first_most [] (suc n) = omega arith
first_most (x ∷ l) zero = omega arith
first_most (x ∷ l) (suc n) = omega (arith, first_most l n)

part_most : (l : List ℕ) (n : ℕ) → sum (take n l) ≤ sum l
part_most [] zero = omega arith
part_most [] (suc n) = omega arith
part_most (x ∷ l) zero = omega arith
part_most (x ∷ l) (suc n) = omega (arith, part_most l n)

-- processes whose scripts follow one another
spread : (l : List ℕ) (n k : ℕ) (f : ℕ → Process) → ((i : ℕ) → weight (f i) + sum (take (k + i) l) ≡ sum (take (suc (k + i)) l))
    → total (list_of n f) + sum (take k l) ≤ sum l
spread l zero k f h = omega (arith, part_most l k)
spread l (suc n) k f h =
    let z : k + 0 ≡ k = omega arith in
    let first : weight (f 0) + sum (take k l) ≡ sum (take (suc k) l) = rw z at (h 0) in
    let more = spread l n (suc k) (λ i. f (suc i)) (λ i. let e : k + suc i ≡ suc k + i = omega arith in rw e at (h (suc i))) in
    omega arith

share : (l : List ℕ) (p : ℕ) → weight (scripted l p) + sum (take p l) ≡ sum (take (suc p) l)
share l p = omega (arith, first_most l p)

pub start_bounded : (f : RunFile) → Bounded (sum f.shares) (start f)
start_bounded f =
    let more = spread f.shares 8 0 (scripted f.shares) (λ i. let e : 0 + i ≡ i = omega arith in rw e (share f.shares i)) in
    omega arith

-- before the closing they are still so many
pub played_bounded : (f : RunFile) → Bounded (sum f.shares) (played f)
played_bounded f =
    play_keeps (λ n. Bounded (sum f.shares)) f.width f.size f.calls (λ n. turn_bounded (sum f.shares) f.width f.size f.calls)
    f.schedule 0 (start f) (start_bounded f)

within : (N : ℕ) (s : State) → Bounded N s → length s.log ≤ N
within N s h = omega arith

pub entries_most : (f : RunFile) → length (closed f).log ≤ sum f.shares
entries_most f =
    within (sum f.shares) (closed f)
    (closed_keeps f (λ n. Kept (sum f.shares)) (λ n. turn_kept (sum f.shares) f.width f.size f.calls) (λ n. closing_kept (sum f.shares) f.width f.size)
    (refl, start_bounded f)).holds.1
