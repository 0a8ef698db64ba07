-- What one queue holds, its word, its resets and its slots together, and how far its owner's stage lets the top go.
use Prim.Native.Nat.{ℕ, ◌+◌, ◌-◌}
use mathlib.Core.Path.{◌≡◌, refl}
use mathlib.Core.Bool.{true, cond}
use mathlib.Core.List.{List, [], ◌∷◌, ◌++◌, append-nil}
use lib.ListN.{set}
use Rattle.word.specs.Stages.{past_b2, first_loaded, pops_slot}
use Rattle.steps.specs.Step.{bottom_to, age_to, loaded_slot, loaded, stored, row_of, Stepped}
use Rattle.word.specs.declared.Stage.{Stage}
use Rattle.word.specs.declared.Stage.TheVariants.{Idle, P1, P2, P3, T1, T2, T3, T4, B1, B2, B3, B4, B5, B6, B7}
use Rattle.word.specs.declared.Word.{Word}
use Rattle.call_log.specs.declared.Entry.{Entry}
use Rattle.runs.specs.Moment.{Ended, Nothing, ends}
use Rattle.runs.specs.State.{State, queue_at}
use Rattle.runfile.specs.declared.Call.{Call}
use Rattle.runfile.specs.declared.Call.TheVariants.{Push, Pop, Take}
use Rattle.runs.specs.Turn.{first_stage, entries_in}
use Rattle.base.proofs.Cases.{never}
use Rattle.runs.specs.Inner.Sound.{is_own, slots_at}

pub record Memory : Type 0 where
  pub word : Word
  pub resets : ℕ
  pub slots : List ℕ

abbrev pub memory_at : State → ℕ → Memory
memory_at s q = record { word = (queue_at s.bench q).word; resets = (queue_at s.bench q).resets; slots = slots_at s q }

abbrev pub row_in : ℕ → ℕ → Memory → Stage → Stepped
row_in W C m s = row_of W C m.word (loaded m.slots (loaded_slot s)) s

abbrev pub memory_after : Memory → Stepped → Memory
memory_after m o = record { word = o.word; resets = cond o.reset (m.resets + 1) m.resets; slots = stored m.slots o.store }

abbrev pub with_bottom : Memory → ℕ → Memory
with_bottom m b = record { word = bottom_to m.word b; resets = m.resets; slots = m.slots }

abbrev pub with_slot : Memory → ℕ → ℕ → Memory
with_slot m at node = record { word = m.word; resets = m.resets; slots = set m.slots at node }

abbrev pub with_top : Memory → ℕ → Memory
with_top m t = record { word = age_to m.word t m.word.tag; resets = m.resets; slots = m.slots }

-- what a queue sees of its owner: the owner's own calls
abbrev pub as_owner : Stage → Stage
as_owner s = cond (is_own s) s Idle

-- the b of an owner past B2, and else the bottom
abbrev pub lim : ℕ → Stage → ℕ
lim bottom Idle = bottom
lim bottom (P1 node) = bottom
lim bottom (P2 node b) = bottom
lim bottom (P3 b) = bottom
lim bottom T1 = bottom
lim bottom (T2 t g) = bottom
lim bottom (T3 t g b) = bottom
lim bottom (T4 t g b x) = bottom
lim bottom B1 = bottom
lim bottom (B2 b) = bottom
lim bottom (B3 b) = b
lim bottom (B4 b x) = b
lim bottom (B5 b x t g) = b
lim bottom (B6 b x t g) = b
lim bottom (B7 b x t g) = b

pub first_lim : (call : Call) (b : ℕ) → lim b (first_stage call) ≡ b
first_lim (Push node) b = refl
first_lim Pop b = refl
first_lim (Take q) b = refl

-- where the nodes of the queue end
abbrev pub until : ℕ → Stage → ℕ
until bottom s = cond (past_b2 s) (lim bottom s - 1) bottom

pub lim_past : (bottom : ℕ) (s : Stage) → past_b2 s ≡ true → first_loaded s ≡ lim bottom s
lim_past bottom Idle e = never e
lim_past bottom (P1 node) e = never e
lim_past bottom (P2 node b) e = never e
lim_past bottom (P3 b) e = never e
lim_past bottom T1 e = never e
lim_past bottom (T2 t g) e = never e
lim_past bottom (T3 t g b) e = never e
lim_past bottom (T4 t g b x) e = never e
lim_past bottom B1 e = never e
lim_past bottom (B2 b) e = never e
lim_past bottom (B3 b) e = refl
lim_past bottom (B4 b x) e = refl
lim_past bottom (B5 b x t g) e = refl
lim_past bottom (B6 b x t g) e = refl
lim_past bottom (B7 b x t g) e = refl

-- the owner in a top pop is not past B2
pub as_popped : (s : Stage) (t : ℕ) → pops_slot (as_owner s) t ≡ pops_slot s t
as_popped Idle t = refl
as_popped (P1 node) t = refl
as_popped (P2 node b) t = refl
as_popped (P3 b) t = refl
as_popped T1 t = refl
as_popped (T2 u g) t = refl
as_popped (T3 u g b) t = refl
as_popped (T4 u g b x) t = refl
as_popped B1 t = refl
as_popped (B2 b) t = refl
as_popped (B3 b) t = refl
as_popped (B4 b x) t = refl
as_popped (B5 b x u g) t = refl
as_popped (B6 b x u g) t = refl
as_popped (B7 b x u g) t = refl

-- the log after a step
abbrev pub log_after : List Entry → Ended → List Entry
log_after l Nothing = l
log_after l (ends e) = l ++ (e ∷ [])

pub log_after_lem : (l : List Entry) (x : Ended) → l ++ entries_in x ≡ log_after l x
log_after_lem l Nothing = append-nil l
log_after_lem l (ends e) = refl
