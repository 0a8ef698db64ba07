-- The states that idle steps and steps in calls lead to from a fresh one, whatever calls are begun; and one induction over them.
use Prim.Native.Nat.{ℕ}
use Rattle.runs.specs.State.{Process, State}
use Rattle.runs.specs.Turn.{acted, idle}
use Rattle.runs.proofs.Sound.{Steps, Fresh, row_at, sound_act, sound_idle, sound_fresh}
use Rattle.runs.specs.Inner.Sound.{Sizes, Fit, Sound}

-- `Ok` is what is known besides of a record with which a process steps
pub data Reached (f : Sizes) (Ok : State → ℕ → Process → Type 0) (s₀ : State) : State → Type 0 where
  begins : Reached f Ok s₀ s₀
  idles : (s : State) → Reached f Ok s₀ s → Reached f Ok s₀ (idle s)
  acts : (s : State) → Reached f Ok s₀ s → (p : ℕ) (r : Process) → Steps f s p r → Ok s p r → Reached f Ok s₀ (acted p r s (row_at f s p r))

module _ (f : Sizes) (h : Fit f) (Ok : State → ℕ → Process → Type 0) (s₀ : State) (z : Fresh f s₀) (J : State → Type 0)
    (j-start : J s₀)
    (j-idle : (s : State) → Sound f s → J s → J (idle s))
    (j-act : (s : State) → Sound f s → J s → (p : ℕ) (r : Process) → Steps f s p r → Ok s p r → J (acted p r s (row_at f s p r))) where
  pub everywhere : (s : State) → Reached f Ok s₀ s → Sound f s × J s
  everywhere _ begins = (sound_fresh f h s₀ z, j-start)
  everywhere _ (idles s o) = let b = everywhere s o in (sound_idle f h s b.0, j-idle s b.0 b.1)
  everywhere _ (acts s o p r k ok) = let b = everywhere s o in (sound_act f h s b.0 p r k, j-act s b.0 b.1 p r k ok)

pub sound : (f : Sizes) → Fit f → (Ok : State → ℕ → Process → Type 0) (s₀ : State) → Fresh f s₀ → (s : State) → Reached f Ok s₀ s → Sound f s
sound f h Ok s₀ z s o = (everywhere f h Ok s₀ z (λ s. Unit {0}) tt (λ s v i. tt) (λ s v i p r k ok. tt) s o).0
