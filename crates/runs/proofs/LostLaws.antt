-- Result 3 is written exactly for NIL at T4: no other row answers `Lost`, and no other answer is written so.
use Prim.Native.Nat.{ℕ, ◌-◌}
use mathlib.Core.Path.{◌≡◌, refl, sym, ap, ◌∙◌, subst}
use mathlib.Core.List.{List, []}
use mathlib.Core.Logic.{◌↔◌}
use native.Mathlib.Omega.{arith}
use lib.Dec.{eqb, ltb, leb}
use lib.ListN.{get_or}
use Rattle.call_log.specs.Numbers.{lost}
use Rattle.call_log.specs.declared.Entry.{Entry}
use Rattle.word.specs.Stages.{is_idle}
use Rattle.word.specs.declared.Stage.{Stage}
use Rattle.word.specs.declared.Stage.TheVariants.{Idle, P1, P2, P3, T1, T2, T3, T4, B1, B2, B3, B4, B5, B6, B7}
use Rattle.word.specs.declared.Word.{Word}
use Rattle.steps.specs.Step.{same_age, row_of, loaded_slot, loaded, Stepped}
use Rattle.steps.specs.declared.Next.{Next}
use Rattle.steps.specs.declared.Next.TheVariants.{Going, Done, Node, Nil, Lost, Full}
use Rattle.steps.proofs.StepLaws.{failed_T4}
use Rattle.base.proofs.Cases.{either_way, ever}
use Rattle.runs.specs.Moment.{queue_of, is_take, ended}
use Rattle.runs.specs.Shown.{FailsT4, Writes3}
use Rattle.runs.specs.State.{Process, State, queue_at, process_at}
use Rattle.runs.specs.Turn.{stepping, ending}
use Rattle.runs.specs.Inner.Sound.{slots_at}
use Rattle.runs.proofs.Scripts.{ready_case}
use Rattle.runs.proofs.States.{WhoeverSteps, sound, each_scripted}

-- what an answer that is written with 3 is
written_lost : (p n : ℕ) (r owner : Process) (t : ℕ) (x : Next) → Writes3 (ended p n r owner t x) → x ≡ Lost
written_lost p n r owner t (Going z) h = absurd h
written_lost p n r owner t Done h = absurd (omega arith)
written_lost p n r owner t (Node y) h =
    absurd ((either_way (λ (e : Entry). e.result ≡ lost → ⊥) (is_take r.call) (λ _ d. omega arith) (λ _ d. omega arith)) h)
written_lost p n r owner t Nil h =
    absurd ((either_way (λ (e : Entry). e.result ≡ lost → ⊥) (is_take r.call) (λ _ d. omega arith) (λ _ d. omega arith)) h)
written_lost p n r owner t Lost h = refl
written_lost p n r owner t Full h = absurd (omega arith)

-- which rows answer so
abbrev pub LostIn : Word → Stage → Next → Type 0
LostIn w s (Going z) = Unit {0}
LostIn w s Done = Unit {0}
LostIn w s (Node x) = Unit {0}
LostIn w s Nil = Unit {0}
LostIn w s Lost = FailsT4 w s
LostIn w s Full = Unit {0}

abbrev LostBy : Word → Stage → Stepped → Type 0
LostBy w s o = LostIn w s o.next

pub row_lost : (W C : ℕ) (w : Word) (v : ℕ) (s : Stage) → LostIn w s (row_of W C w v s).next
row_lost W C w v Idle = tt
row_lost W C w v (P1 node) = either_way (LostBy w (P1 node)) (eqb w.bottom C) (λ e. tt) (λ e. tt)
row_lost W C w v (P2 node b) = tt
row_lost W C w v (P3 b) = tt
row_lost W C w v T1 = tt
row_lost W C w v (T2 t g) = either_way (LostBy w (T2 t g)) (leb w.bottom t) (λ e. tt) (λ e. tt)
row_lost W C w v (T3 t g b) = tt
row_lost W C w v (T4 t g b x) = either_way (LostBy w (T4 t g b x)) (same_age w t g) (λ e. tt)
    (λ e. (t, g, b, x, refl, e))
row_lost W C w v B1 = either_way (LostBy w B1) (eqb w.bottom 0) (λ e. tt) (λ e. tt)
row_lost W C w v (B2 b) = tt
row_lost W C w v (B3 b) = tt
row_lost W C w v (B4 b x) = either_way (LostBy w (B4 b x)) (ltb w.top (b - 1)) (λ e. tt) (λ e. tt)
row_lost W C w v (B5 b x t g) = tt
row_lost W C w v (B6 b x t g) = either_way (LostBy w (B6 b x t g)) (same_age w t g) (λ e. tt) (λ e. tt)
row_lost W C w v (B7 b x t g) = tt

module _ (W C p : ℕ) (r : Process) (s : State) where
  abbrev q : ℕ
  q = queue_of p r.call

  abbrev w : Word
  w = (queue_at s.bench q).word

  abbrev Three : Next → Type 0
  Three x = Writes3 (ending p r s.bench x)

  lost_only : Three (stepping W C p r s).next → FailsT4 w r.stage
  lost_only h =
      let slots : List ℕ = get_or s.slots q [] in
      subst (LostIn w r.stage)
      (written_lost p s.bench.steps r (process_at s.bench q) w.top (stepping W C p r s).next h)
      (row_lost W C w (loaded slots (loaded_slot r.stage)) r.stage)

  lost_row : (v : ℕ) → FailsT4 w r.stage → Three (row_of W C w v r.stage).next
  lost_row v h =
      subst Three (sym (ap (λ (z : Stage). (row_of W C w v z).next) h.4
      ∙ ap (λ (o : Stepped). o.next) (failed_T4 W C w v h.0 h.1 h.2 h.3 h.5))) refl

pub lost_3 : WhoeverSteps (λ f s p r. Writes3 (ending p r s.bench (stepping f.width f.size p r s).next)
    ↔ FailsT4 (queue_at s.bench (queue_of p r.call)).word r.stage)
lost_3 f h s o p lt =
    let v = sound f h s o in
    ready_case f h (λ (r : Process). Writes3 (ending p r s.bench (stepping f.width f.size p r s).next)
    ↔ FailsT4 (queue_at s.bench (queue_of p r.call)).word r.stage) s v (each_scripted f h s o) p lt
    (λ e. (lost_only f.width f.size p (process_at s.bench p) s, λ y. ever (sym e ∙ ap is_idle y.4)))
    (λ r k c. (
      lost_only f.width f.size p r s,
      lost_row f.width f.size p r s (loaded (slots_at s (queue_of p r.call)) (loaded_slot r.stage)),
    ))
