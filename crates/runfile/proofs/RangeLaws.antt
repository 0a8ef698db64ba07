-- What is read as good is in range.
use mathlib.Core.Path.{◌≡◌, refl, sym, ap, ◌∙◌, subst}
use mathlib.Core.List.{List, [], ◌∷◌}
use Prim.Native.Nat.{ℕ, suc, ◌+◌, ◌*◌, ◌<◌, ◌≤◌}
use native.Mathlib.Omega.{arith}
use borrow.Author.Tests.{ltb-false, leb-false, eq-eqb}
use lib.Dec.{ltb, leb}
use lib.ListN.{length, get_or}
use Rattle.base.specs.Bytes.{Bytes, number_at}
use Rattle.base.proofs.Cases.{if_eq, if_lt, never}
use Rattle.runfile.specs.declared.Call.{Call}
use Rattle.runfile.specs.declared.Call.TheVariants.{Push, Pop}
use Rattle.std.specs.Prelude.{Result}
use Rattle.runfile.specs.declared.Refusal.{Refusal}
use Rattle.runfile.specs.Check.{sum}
use Rattle.runfile.specs.File.{RunFile, good, longest_script, processes_in, calls_in, call_place, call_of, coded_at, call_in, first_calls, pushes}
use Rattle.runfile.specs.File.{wrong_after, wrong_at, record_in, file_of}
use Rattle.runfile.specs.Encode.{CallInRange, InRanges}
use Rattle.runfile.proofs.CheckLaws.{first_none, any_none}
use Rattle.runfile.proofs.CallLaws.{calls_length, call_get, first_push}
use Rattle.runfile.proofs.GoodLaws.{Passes, good_passes, shares_length, all_calls_length, schedule_length}

-- a call that is not refused is in range
call_in_range : (P code argument : ℕ) (earlier : List Call) → argument ≤ 65535
    → wrong_after earlier (call_of P code argument) ≡ 0 → CallInRange P (call_in (call_of P code argument))
call_in_range P code x earlier h =
    if_eq Q code 1 (λ _. if_eq Q x 0 (λ _ e. absurd (omega arith)) (λ n e. (omega arith, h)))
    (λ _. if_eq Q code 2 (λ _. if_eq Q x 0 (λ _ e. tt) (λ _ e. absurd (omega arith)))
    (λ _. if_eq Q code 3 (λ _. if_lt Q x P (λ l e. l) (λ _ e. absurd (omega arith)))
    (λ _ e. absurd (omega arith))))
  where
    Q : Result Call Refusal → Type 0
    Q c = wrong_after earlier c ≡ 0 → CallInRange P (call_in c)

number_most : (s : List ℕ) → Bytes s → (i : ℕ) → number_at s i ≤ 65535
number_most s b i = omega (arith, b i, b (i + 1))

module _ (s : List ℕ) (b : Bytes s) (h : Passes s) where
  abbrev P : ℕ
  P = processes_in s

  pub call_right : (k : ℕ) → k < calls_in s → wrong_at s P k ≡ 0
  call_right k lt = first_none (wrong_at s P) (calls_in s) k h.calls lt

  call : (k : ℕ) → k < calls_in s → CallInRange (length (record_in s).shares) (get_or (record_in s).calls k Pop)
  call k lt =
      let at = call_place P k in
      rw (shares_length s h, call_get s P (calls_in s) k lt)
      (call_in_range P (get_or s at 0) (number_at s (at + 1)) (first_calls s P k) (number_most s b (at + 1)) (call_right k lt))

  once : (j k node : ℕ) → j < k → k < calls_in s → get_or (record_in s).calls j Pop ≡ Push node → get_or (record_in s).calls k Pop ≡ Push node → ⊥
  once j k node lt below e d =
      let earlier = first_calls s P k in
      let none = first_push earlier (coded_at s P k) node (call_right k below) (sym (call_get s P (calls_in s) k below) ∙ d) in
      let at : get_or earlier j Pop ≡ Push node = call_get s P k j lt ∙ sym (call_get s P (calls_in s) j (omega arith)) ∙ e in
      never
      (sym (any_none (pushes node) Pop earlier j none (omega (arith, calls_length s P k)))
      ∙ ap (pushes node) at ∙ eq-eqb node node refl)

  pub record_in_range : InRanges (record_in s)
  record_in_range =
      let p = shares_length s h in
      let n = all_calls_length s h in
      let m = schedule_length s h in
      record {
        width = h.width;
        size = h.size;
        processes = omega (arith, h.processes);
        shares = λ k lt. ltb-false longest_script _ (any_none (ltb longest_script) 0 (record_in s).shares k h.shares lt);
        count = n ∙ h.count;
        calls = λ k lt. call k (omega arith);
        once = λ j k x lt below. once j k x lt (omega arith);
        steps = omega (arith, h.steps);
        schedule = λ k lt. omega (arith, leb-false P _ (any_none (leb P) 0 (record_in s).schedule k h.schedule lt));
      }

-- what is read as good is in range
pub good_ranges : (s : List ℕ) (f : RunFile) → Bytes s → file_of s ≡ good f → InRanges f
good_ranges s f b e =
    let d = good_passes s f e in
    subst InRanges d.1 (record_in_range s b d.0)

sum_most : (l : List ℕ) → ((p : ℕ) → p < length l → get_or l p 0 ≤ longest_script) → sum l ≤ longest_script * length l
sum_most [] h = omega arith
sum_most (x ∷ l) h = omega (arith, h 0 (omega arith), sum_most l (λ p lt. h (suc p) (omega arith)))

-- a file in range has at most 256 calls
pub calls_most : (f : RunFile) → InRanges f → length f.calls ≤ 256
calls_most f r = omega (arith, r.count, r.processes, sum_most f.shares r.shares)
