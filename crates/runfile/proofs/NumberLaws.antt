-- A refused file has a number from 1 to 7.
use Prim.Native.Nat.{ℕ, zero, suc, ◌+◌, ◌≤◌}
use mathlib.Core.Path.{◌≡◌, subst}
use mathlib.Core.Bool.{Bool, not}
use lib.Dec.{ltb, leb, eqb}
use lib.ListN.{length}
use mathlib.Core.List.{List}
use native.Mathlib.Omega.{arith}
use Rattle.base.specs.Bytes.{byte_at, number_at}
use Rattle.base.proofs.Cases.{either_way, if_eq, if_lt}
use Rattle.runfile.specs.declared.Call.{Call}
use Rattle.runfile.specs.declared.Call.TheVariants.{Push, Pop, Take}
use Rattle.std.specs.Prelude.{Result, Ok}
use Rattle.runfile.specs.declared.Refusal.{Refusal}
use Rattle.runfile.specs.Check.{◌when◌, ◌then◌, ◌ends_before◌, any, first_of, outside}
use Rattle.runfile.specs.File.{section_count, most_width, most_size, most_processes, longest_script, longest_schedule, width_in, size_in, share_place}
use Rattle.runfile.specs.File.{calls_before, steps_in, step_place, RunFile, Answer, refused, good, answer, call_place, call_of, first_calls, pushes}
use Rattle.runfile.specs.File.{wrong_after, wrong_at, processes_in, calls_in, section1, section2, section3, section4, number_of, record_in, file_of}

abbrev Few : ℕ → Type 0
Few n = n ≤ 7

when_few : (n : ℕ) (t : Bool) → Few n → Few (n when t)
when_few n t h = either_way Few t (λ e. h) (λ e. omega arith)

then_few : (a b : ℕ) → Few a → Few b → Few (a then b)
then_few zero b h k = k
then_few (suc a) b h k = h

first_few : (g : ℕ → ℕ) (n : ℕ) → ((i : ℕ) → Few (g i)) → Few (first_of g n)
first_few g zero h = omega arith
first_few g (suc n) h = then_few (first_of g n) (g n) (first_few g n h) (h n)

call_few : (earlier : List Call) (P code argument : ℕ) → Few (wrong_after earlier (call_of P code argument))
call_few earlier P code x =
    if_eq Q code 1 (λ _. if_eq Q x 0 (λ _. omega arith) (λ _. right (Push x)))
    (λ _. if_eq Q code 2 (λ _. if_eq Q x 0 (λ _. right Pop) (λ _. omega arith))
    (λ _. if_eq Q code 3 (λ _. if_lt Q x P (λ _. right (Take x)) (λ _. omega arith)) (λ _. omega arith)))
  where
    Q : Result Call Refusal → Type 0
    Q c = Few (wrong_after earlier c)

    right : (call : Call) → Few (wrong_after earlier (Ok call))
    right (Push node) = when_few 5 (any (pushes node) earlier) (omega arith)
    right Pop = omega arith
    right (Take queue) = omega arith

-- a section, as all four are: the count missing, the count wrong, contents missing, then what is inside
section_few : (n : ℕ) (missing wrong short : Bool) (inside : ℕ) → Few n → Few inside
    → Few (1 when missing then n when wrong then 1 when short then inside)
section_few n missing wrong short inside h k =
    then_few (1 when missing) _ (when_few 1 missing (omega arith))
    (then_few (n when wrong) _ (when_few n wrong h) (then_few (1 when short) inside (when_few 1 short (omega arith)) k))

pub number_few : (s : List ℕ) → Few (number_of s)
number_few s =
    then_few (section1 s) _
    (section_few 2 (s ends_before 1) (not (eqb (byte_at s 0) section_count)) (s ends_before 3) _ (omega arith)
    (then_few (2 when ltb most_width (width_in s)) _ (when_few 2 (ltb most_width (width_in s)) (omega arith))
    (when_few 2 (outside 1 most_size (size_in s)) (omega arith))))
    (then_few (section2 s) _
    (section_few 3 (s ends_before (share_place 0)) (outside 1 most_processes P) (s ends_before (share_place P)) _ (omega arith)
    (when_few 3 (any (ltb longest_script) (record_in s).shares) (omega arith)))
    (then_few (section3 s) _
    (section_few 4 (s ends_before (call_place P 0)) (not (eqb n (calls_before s P))) (s ends_before (call_place P n)) _ (omega arith)
    (first_few (wrong_at s P) n (λ k. call_few (first_calls s P k) P (byte_at s (call_place P k)) (number_at s (call_place P k + 1)))))
    (then_few (section4 s) _
    (section_few 6 (s ends_before (step_place P n 0)) (ltb longest_schedule (steps_in s)) (s ends_before (step_place P n (steps_in s))) _ (omega arith)
    (when_few 6 (any (leb P) (record_in s).schedule) (omega arith)))
    (when_few 7 (ltb (step_place P n (steps_in s)) (length s)) (omega arith)))))
  where
    P : ℕ
    P = processes_in s

    n : ℕ
    n = calls_in s

abbrev RefusedFew : Answer → Type 0
RefusedFew (refused n) = (1 ≤ n) × Few n
RefusedFew (good f) = Unit {0}

answer_few : (n : ℕ) (f : RunFile) → Few n → RefusedFew (answer n f)
answer_few zero f h = tt
answer_few (suc n) f h = (omega arith, h)

pub refused_few : (s : List ℕ) (n : ℕ) → file_of s ≡ refused n → (1 ≤ n) × (n ≤ 7)
unfolding file_of
refused_few s n e = subst RefusedFew e (answer_few (number_of s) (record_in s) (number_few s))
