-- The table of marks keeps up with the calls.
use mathlib.Core.Path.{◌≡◌, refl, sym, ap, ◌∙◌}
use mathlib.Core.Bool.{Bool, true, false, ◌||◌, or-false}
use mathlib.Core.List.{List}
use Prim.Native.Nat.{ℕ, ◌+◌, ◌/◌, ◌<◌}
use native.Mathlib.Decide.{ℕ_discrete}
use native.Mathlib.Omega.{arith}
use borrow.Author.Tests.{eq-eqb, ne_eqb}
use lib.ListN.{length, length-set, replicate, length-replicate}
use Rattle.base.proofs.Bools.{or_r}
use Rattle.marks.specs.Inner.Marks.{mark_bytes, marked, with_mark}
use Rattle.marks.proofs.MarkLaws.{mark_own, mark_other, none_marked}
use Rattle.runfile.specs.declared.Call.TheVariants.{Push}
use Rattle.std.specs.Prelude.{Result, Ok}
use Rattle.runfile.specs.declared.Call.{Call}
use Rattle.runfile.specs.declared.Refusal.{Refusal}
use Rattle.runfile.specs.Check.{◌when◌, any}
use Rattle.runfile.specs.File.{coded_at, call_in, call_at, first_calls, pushes, wrong_at}
use Rattle.reader.proofs.CheckLaws.{any_more}
use Rattle.reader.specs.Inner.Marks.{Marks}

-- no node is marked in a cleared table, and no call is looked at
pub cleared : (s : List ℕ) (P : ℕ) → Marks (replicate mark_bytes 0) (first_calls s P 0)
cleared s P = record { size = length-replicate {A = ℕ} mark_bytes 0; nodes = none_marked }

module _ (s : List ℕ) (P k : ℕ) where
  abbrev earlier : ℕ → Bool
  earlier x = any (pushes x) (first_calls s P k)

  with_call : (x : ℕ) (c : Result Call Refusal) → coded_at s P k ≡ c → (earlier x || pushes x (call_in c)) ≡ any (pushes x) (first_calls s P (k + 1))
  with_call x c e = sym (any_more (pushes x) (call_at s P) k ∙ ap (λ (d : Result Call Refusal). earlier x || pushes x (call_in d)) e)

  -- call k, with a table of the calls before it
  module _ (marks : List ℕ) (h : Marks marks (first_calls s P k)) where
    module _ (node : ℕ) (below : node < 65536) (e : coded_at s P k ≡ Ok (Push node)) where
      pub push_wrong : wrong_at s P k ≡ (5 when marked marks node)
      push_wrong = rw (e, h.nodes node below)

      inside : node / 8 < length marks
      inside = omega (arith, h.size)

      by_node : (x : ℕ) → x < 65536 → Dec (x ≡ node) → marked (with_mark marks node) x ≡ (earlier x || pushes x (Push node))
      by_node x lt (yes z) = rw (z, mark_own marks node inside, eq-eqb node node refl) (sym (or_r (earlier node) true refl))
      by_node x lt (no z) = rw (ne_eqb node x (λ i. z (sym i))) (mark_other marks node x inside z ∙ h.nodes x lt ∙ sym (or-false (earlier x)))

      pub after_push : Marks (with_mark marks node) (first_calls s P (k + 1))
      after_push = record {
        size = length-set marks (node / 8) _ ∙ h.size;
        nodes = λ x lt. by_node x lt (ℕ_discrete x node) ∙ with_call x (Ok (Push node)) e;
      }

    pub after_other : (c : Result Call Refusal) → coded_at s P k ≡ c → ((x : ℕ) → pushes x (call_in c) ≡ false) → Marks marks (first_calls s P (k + 1))
    after_other c e none = record {
      size = h.size;
      nodes = λ x lt. h.nodes x lt ∙ sym (ap (λ (t : Bool). earlier x || t) (none x) ∙ or-false (earlier x)) ∙ with_call x c e;
    }
