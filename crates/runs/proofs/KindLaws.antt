-- Which calls a stage belongs to, and that a step stays within its call.
use Prim.Native.Nat.{ℕ, ◌-◌}
use mathlib.Core.Path.{◌≡◌, refl, sym, ◌∙◌}
use mathlib.Core.Bool.{true, false}
use lib.Dec.{ltb, leb, eqb}
use Rattle.runs.specs.Moment.{queue_of, is_take}
use Rattle.runs.specs.Inner.Sound.{is_push, is_top, is_own, is_first, Suits}
use Rattle.runs.specs.Turn.{first_stage}
use Rattle.word.specs.Stages.{row_number, is_idle, past_b2}
use Rattle.steps.specs.Step.{same_age, row_of, stage_after, Stepped}
use Rattle.base.proofs.Cases.{either_way, never, ever}
use Rattle.word.specs.declared.Word.{Word}
use Rattle.word.specs.declared.Stage.{Stage}
use Rattle.word.specs.declared.Stage.TheVariants.{Idle, P1, P2, P3, T1, T2, T3, T4, B1, B2, B3, B4, B5, B6, B7}
use Rattle.steps.specs.declared.Next.{Next}
use Rattle.steps.specs.declared.Next.TheVariants as next
use Rattle.runfile.specs.declared.Call.{Call}
use Rattle.runfile.specs.declared.Call.TheVariants.{Push, Pop, Take}

-- what a step from the stage s to the stage s' keeps
pub record Within (s s' : Stage) : Type 0 where
  pub own : is_own s' ≡ true → is_own s ≡ true
  pub top : is_top s' ≡ true → is_top s ≡ true
  pub push : is_push s' ≡ true → is_push s ≡ true
  pub first : is_first s' ≡ false
  -- whoever is past B2 was there, or at B2
  pub b2 : past_b2 s' ≡ true → leb 9 (row_number s) ≡ true

of_push : (s s' : Stage) → is_push s ≡ true → is_own s ≡ true → (is_top s' ≡ true → is_top s ≡ true) → is_first s' ≡ false → past_b2 s' ≡ false
    → Within s s'
of_push s s' a b c d e = record { own = λ _. b; top = c; push = λ _. a; first = d; b2 = λ x. ever (sym x ∙ e) }

of_top : (s s' : Stage) → is_top s ≡ true → (is_own s' ≡ true → is_own s ≡ true) → (is_push s' ≡ true → is_push s ≡ true) → is_first s' ≡ false
    → past_b2 s' ≡ false
    → Within s s'
of_top s s' a b c d e = record { own = b; top = λ _. a; push = c; first = d; b2 = λ x. ever (sym x ∙ e) }

of_pop : (s s' : Stage) → is_own s ≡ true → (is_top s' ≡ true → is_top s ≡ true) → (is_push s' ≡ true → is_push s ≡ true) → is_first s' ≡ false
    → (past_b2 s' ≡ true → leb 9 (row_number s) ≡ true) → Within s s'
of_pop s s' a b c d e = record { own = λ _. a; top = b; push = c; first = d; b2 = e }

abbrev To : Stage → Stepped → Type 0
To s o = Within s (stage_after o.next)

pub within : (W C : ℕ) (w : Word) (v : ℕ) (s : Stage) → Within s (stage_after (row_of W C w v s).next)
within W C w v Idle = record { own = λ e. e; top = λ e. e; push = λ e. e; first = refl; b2 = never }
within W C w v (P1 node) =
    either_way (To (P1 node)) (eqb w.bottom C) (λ _. of_push _ _ refl refl (λ e. e) refl refl) (λ _. of_push _ _ refl refl (λ e. e) refl refl)
within W C w v (P2 node b) = of_push _ _ refl refl (λ e. e) refl refl
within W C w v (P3 b) = of_push _ _ refl refl (λ e. e) refl refl
within W C w v T1 = of_top _ _ refl (λ e. e) (λ e. e) refl refl
within W C w v (T2 t g) =
    either_way (To (T2 t g)) (leb w.bottom t) (λ _. of_top _ _ refl (λ e. e) (λ e. e) refl refl) (λ _. of_top _ _ refl (λ e. e) (λ e. e) refl refl)
within W C w v (T3 t g b) = of_top _ _ refl (λ e. e) (λ e. e) refl refl
within W C w v (T4 t g b x) =
    either_way (To (T4 t g b x)) (same_age w t g) (λ _. of_top _ _ refl (λ e. e) (λ e. e) refl refl) (λ _. of_top _ _ refl (λ e. e) (λ e. e) refl refl)
within W C w v B1 =
    either_way (To B1) (eqb w.bottom 0) (λ _. of_pop _ _ refl (λ e. e) (λ e. e) refl never) (λ _. of_pop _ _ refl (λ e. e) (λ e. e) refl never)
within W C w v (B2 b) = of_pop _ _ refl (λ e. e) (λ e. e) refl (λ _. refl)
within W C w v (B3 b) = of_pop _ _ refl (λ e. e) (λ e. e) refl (λ _. refl)
within W C w v (B4 b x) =
    either_way (To (B4 b x)) (ltb w.top (b - 1)) (λ _. of_pop _ _ refl (λ e. e) (λ e. e) refl (λ _. refl))
    (λ _. of_pop _ _ refl (λ e. e) (λ e. e) refl (λ _. refl))
within W C w v (B5 b x t g) =
    either_way (Within (B5 b x t g)) (eqb (b - 1) t) (λ _. of_pop _ _ refl (λ e. e) (λ e. e) refl (λ _. refl))
    (λ _. of_pop _ _ refl (λ e. e) (λ e. e) refl (λ _. refl))
within W C w v (B6 b x t g) =
    either_way (To (B6 b x t g)) (same_age w t g) (λ _. of_pop _ _ refl (λ e. e) (λ e. e) refl (λ _. refl))
    (λ _. of_pop _ _ refl (λ e. e) (λ e. e) refl (λ _. refl))
within W C w v (B7 b x t g) = of_pop _ _ refl (λ e. e) (λ e. e) refl (λ _. refl)

pub still_suits : (call : Call) (s s' : Stage) → Within s s' → Suits call s → Suits call s'
still_suits call s s' k h = record { own = λ e. h.own (k.own e); top = λ e. h.top (k.top e); push = λ e. h.push (k.push e) }

pub first_suits : (call : Call) → Suits call (first_stage call)
first_suits (Push node) = record { own = λ e. refl; top = λ e. never e; push = λ e. refl }
first_suits Pop = record { own = λ e. refl; top = λ e. never e; push = λ e. never e }
first_suits (Take q) = record { own = λ e. never e; top = λ e. refl; push = λ e. never e }

pub first_quiet : (call : Call) → past_b2 (first_stage call) ≡ false
first_quiet (Push node) = refl
first_quiet Pop = refl
first_quiet (Take q) = refl

pub idle_is : (s : Stage) → is_idle s ≡ true → s ≡ Idle
idle_is Idle e = refl
idle_is (P1 node) e = never e
idle_is (P2 node b) e = never e
idle_is (P3 b) e = never e
idle_is T1 e = never e
idle_is (T2 t g) e = never e
idle_is (T3 t g b) e = never e
idle_is (T4 t g b x) e = never e
idle_is B1 e = never e
idle_is (B2 b) e = never e
idle_is (B3 b) e = never e
idle_is (B4 b x) e = never e
idle_is (B5 b x t g) e = never e
idle_is (B6 b x t g) e = never e
idle_is (B7 b x t g) e = never e

-- a call that is no top pop is on the process's own queue
pub own_queue : (p : ℕ) (call : Call) → is_take call ≡ false → queue_of p call ≡ p
own_queue p (Push node) e = refl
own_queue p Pop e = refl
own_queue p (Take q) e = ever e

-- a stage is of a top pop, of the owner's calls, or idle
pub whose : (s : Stage) → is_idle s ≡ false → is_own s ≡ false → is_top s ≡ true
whose Idle i e = ever i
whose (P1 node) i e = ever e
whose (P2 node b) i e = ever e
whose (P3 b) i e = ever e
whose T1 i e = refl
whose (T2 t g) i e = refl
whose (T3 t g b) i e = refl
whose (T4 t g b x) i e = refl
whose B1 i e = ever e
whose (B2 b) i e = ever e
whose (B3 b) i e = ever e
whose (B4 b x) i e = ever e
whose (B5 b x t g) i e = ever e
whose (B6 b x t g) i e = ever e
whose (B7 b x t g) i e = ever e

-- a push only is done or FULL
abbrev pub Gives : Stage → Next → Type 0
Gives s (next.Going z) = Unit {0}
Gives s next.Done = is_push s ≡ true
Gives s (next.Node x) = Unit {0}
Gives s next.Nil = Unit {0}
Gives s next.Lost = Unit {0}
Gives s next.Full = is_push s ≡ true

abbrev GivesBy : Stage → Stepped → Type 0
GivesBy s o = Gives s o.next

pub gives : (W C : ℕ) (w : Word) (v : ℕ) (s : Stage) → Gives s (row_of W C w v s).next
gives W C w v Idle = tt
gives W C w v (P1 node) = either_way (GivesBy (P1 node)) (eqb w.bottom C) (λ e. refl) (λ e. tt)
gives W C w v (P2 node b) = tt
gives W C w v (P3 b) = refl
gives W C w v T1 = tt
gives W C w v (T2 t g) = either_way (GivesBy (T2 t g)) (leb w.bottom t) (λ e. tt) (λ e. tt)
gives W C w v (T3 t g b) = tt
gives W C w v (T4 t g b x) = either_way (GivesBy (T4 t g b x)) (same_age w t g) (λ e. tt) (λ e. tt)
gives W C w v B1 = either_way (GivesBy B1) (eqb w.bottom 0) (λ e. tt) (λ e. tt)
gives W C w v (B2 b) = tt
gives W C w v (B3 b) = tt
gives W C w v (B4 b x) = either_way (GivesBy (B4 b x)) (ltb w.top (b - 1)) (λ e. tt) (λ e. tt)
gives W C w v (B5 b x t g) = tt
gives W C w v (B6 b x t g) = either_way (GivesBy (B6 b x t g)) (same_age w t g) (λ e. tt) (λ e. tt)
gives W C w v (B7 b x t g) = tt
