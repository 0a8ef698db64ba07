-- What the accessors give of a good file is what the record has.
use mathlib.Core.Path.{◌≡◌, sym, ap, ◌∙◌, subst}
use mathlib.Core.List.{List, [], ◌∷◌}
use Prim.Native.Nat.{ℕ, zero, suc, ◌+◌, ◌<◌, ◌≤◌}
use native.Mathlib.Omega.{arith}
use lib.ListN.{length, get_or, take, drop}
use lib.Seq.{take-take, get_or-take, get_or-drop}
use Rattle.base.specs.Bytes.{part}
use Rattle.base.proofs.Bytes.{part_get}
use Rattle.runfile.specs.declared.Call.TheVariants.{Pop}
use Rattle.std.specs.Prelude.{Ok}
use Rattle.runfile.specs.Check.{sum}
use Rattle.runfile.specs.File.{RunFile, good, script, processes_in, calls_in, step_place, length_at, calls_before, call_at, record_in, file_of, shape_of}
use Rattle.runfile.specs.File.{reading_of}
use Rattle.runfile.proofs.CallLaws.{call_get}
use Rattle.runfile.proofs.GoodLaws.{Passes, good_passes, shares_length, all_calls_length, schedule_length}

pub record Access (s : List ℕ) (f : RunFile) : Type 0 where
  pub shape : reading_of (file_of s) ≡ Ok (shape_of f)
  pub share : (p : ℕ) → p < length f.shares → length_at s p ≡ get_or f.shares p 0
  pub before : (p : ℕ) → p ≤ length f.shares → calls_before s p ≡ sum (take p f.shares)
  pub call : (k : ℕ) → k < length f.calls → call_at s (length f.shares) k ≡ get_or f.calls k Pop
  pub scripted : (p k : ℕ) → p < length f.shares → k < get_or f.shares p 0
      → call_at s (length f.shares) (calls_before s p + k) ≡ get_or (script f p) k Pop
  pub steps : part s (step_place (length f.shares) (length f.calls) 0) (length f.schedule) ≡ f.schedule

-- a process's script lies within the calls
within : (l : List ℕ) (p : ℕ) → p < length l → sum (take p l) + get_or l p 0 ≤ sum l
within [] p h = absurd (omega arith)
within (x ∷ l) zero h = omega arith
within (x ∷ l) (suc p) h = omega (arith, within l p (omega arith))

module _ (s : List ℕ) (h : Passes s) where
  abbrev f : RunFile
  f = record_in s

  before_is : (p : ℕ) → p ≤ length f.shares → calls_before s p ≡ sum (take p f.shares)
  before_is p le = ap sum (sym (take-take p (processes_in s) (drop 4 s) (omega (arith, shares_length s h))))

  call_is : (k : ℕ) → k < length f.calls → call_at s (length f.shares) k ≡ get_or f.calls k Pop
  call_is k lt =
      rw (shares_length s h) (sym (call_get s (processes_in s) (calls_in s) k (omega (arith, all_calls_length s h))))

  scripted_is : (p k : ℕ) → p < length f.shares → k < get_or f.shares p 0
      → call_at s (length f.shares) (calls_before s p + k) ≡ get_or (script f p) k Pop
  scripted_is p k below lt =
      let at = sum (take p f.shares) in
      let e : calls_before s p ≡ at = before_is p (omega arith) in
      let n = all_calls_length s h ∙ h.count in
      ap (λ (i : ℕ). call_at s (length f.shares) (i + k)) e
      ∙ call_is (at + k) (omega (arith, within f.shares p below))
      ∙ sym (get_or-take (get_or f.shares p 0) (drop at f.calls) k Pop lt ∙ get_or-drop at f.calls k Pop)

  steps_is : part s (step_place (length f.shares) (length f.calls) 0) (length f.schedule) ≡ f.schedule
  steps_is = rw (shares_length s h, all_calls_length s h, schedule_length s h)

pub good_access : (s : List ℕ) (f : RunFile) → file_of s ≡ good f → Access s f
good_access s f e =
    let d = good_passes s f e in
    let h = d.0 in
    subst (Access s) d.1 (record {
      shape = ap reading_of (e ∙ ap good (sym d.1));
      share = λ p lt. sym (part_get s 4 (processes_in s) p (omega (arith, shares_length s h)));
      before = before_is s h;
      call = call_is s h;
      scripted = scripted_is s h;
      steps = steps_is s h;
    })
