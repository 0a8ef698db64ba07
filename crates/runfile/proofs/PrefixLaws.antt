-- Every part of a good file that is shorter and begins as it does gives 1, and a good file with bytes after it gives 7.
use mathlib.Core.Path.{◌≡◌, sym, ap, ◌∙◌, subst}
use mathlib.Core.Bool.{Bool, false, not}
use mathlib.Core.List.{List, ◌++◌}
use Prim.Native.Nat.{ℕ, ◌+◌, ◌<◌, ◌≤◌}
use native.Mathlib.Decide.{dec_lt}
use native.Mathlib.Omega.{arith}
use borrow.Author.Tests.{lt-ltb, le-ltb, eq-eqb}
use lib.Dec.{ltb, leb, eqb}
use lib.ListN.{length, get_or, drop, length-append, length-drop, get_or-append}
use lib.Seq.{drop-append-le, take-append-le}
use Rattle.base.specs.Bytes.{part, number_at}
use Rattle.runfile.specs.declared.Call.{Call}
use Rattle.runfile.specs.Check.{◌when◌, ◌then◌, any, sum, outside}
use Rattle.runfile.specs.File.{RunFile, refused, good, section_count, most_width, most_size, most_processes, longest_schedule, processes_in, calls_in}
use Rattle.runfile.specs.File.{steps_in, call_place, step_place, coded_at, call_in, call_at, first_calls, calls_before, wrong_after, wrong_at, record_in}
use Rattle.runfile.specs.File.{section1, section2, section3, section4, number_of, file_of}
use Rattle.runfile.proofs.CheckLaws.{then_on, first_none, first_all}
use Rattle.runfile.proofs.CallLaws.{list_of_same}
use Rattle.runfile.proofs.GoodLaws.{Passes, good_passes, section, pass1, pass2, pass3, pass4, after_sections, inside_range}

-- a section that the file does not reach to the end of
section_cut : (reach number counted : ℕ) (wrong : Bool) (ended rest : ℕ) → (counted ≤ reach → (wrong ≡ false) × (reach < ended))
    → section reach number counted wrong ended rest ≡ 1
section_cut reach number counted wrong ended rest h = split (dec_lt reach counted)
  where
    split : Dec (reach < counted) → section reach number counted wrong ended rest ≡ 1
    split (yes q) = rw (lt-ltb reach counted q)
    split (no q) =
        let l : counted ≤ reach = omega arith in
        rw (le-ltb reach counted l, (h l).0, lt-ltb reach ended (h l).1)

-- what a file says is settled by its front, as far as that reaches
module _ (a x : List ℕ) where
  abbrev s : List ℕ
  s = a ++ x

  byte_same : (i : ℕ) → i < length a → get_or s i 0 ≡ get_or a i 0
  byte_same i h = get_or-append a x 0 i h

  number_same : (i : ℕ) → i + 1 < length a → number_at s i ≡ number_at a i
  number_same i h = rw (byte_same i (omega arith), byte_same (i + 1) h)

  part_same : (i k : ℕ) → i + k ≤ length a → part s i k ≡ part a i k
  part_same i k h = rw (drop-append-le i a x (omega arith), take-append-le k (drop i a) x (omega (arith, length-drop i a)))

  abbrev P : ℕ
  P = processes_in a

  abbrev n : ℕ
  n = calls_in a

  abbrev m : ℕ
  m = steps_in a

  processes_same : 4 ≤ length a → processes_in s ≡ P
  processes_same h = byte_same 3 h

  shares_same : 4 + P ≤ length a → (record_in s).shares ≡ (record_in a).shares
  shares_same h = rw (processes_same (omega arith)) (part_same 4 P h)

  count_same : 6 + P ≤ length a → calls_in s ≡ n
  count_same h = rw (processes_same (omega arith)) (number_same (4 + P) (omega arith))

  coded_same : (k : ℕ) → call_place P k + 3 ≤ length a → coded_at s P k ≡ coded_at a P k
  coded_same k h = rw (byte_same (call_place P k) (omega arith), number_same (call_place P k + 1) (omega arith))

  wrong_same : call_place P n ≤ length a → (k : ℕ) → k < n → wrong_at s P k ≡ wrong_at a P k
  wrong_same h k lt =
      let earlier = list_of_same k (call_at s P) (call_at a P) (λ j below. ap call_in (coded_same j (omega arith))) in
      ap (λ (l : List Call). wrong_after l (coded_at s P k)) earlier ∙ ap (wrong_after (first_calls a P k)) (coded_same k (omega arith))

  steps_same : step_place P n 0 ≤ length a → steps_in s ≡ m
  steps_same h = rw (count_same (omega arith), processes_same (omega arith)) (number_same (call_place P n) (omega arith))

  schedule_same : step_place P n m ≤ length a → (record_in s).schedule ≡ (record_in a).schedule
  schedule_same h =
      rw (steps_same (omega arith), count_same (omega arith), processes_same (omega arith)) (part_same (step_place P n 0) m (omega arith))

-- a file t whose bytes say in a section what a good file s says there passes that section
module _ (s t : List ℕ) (h : Passes s) where
  abbrev P' : ℕ
  P' = processes_in t

  abbrev n' : ℕ
  n' = calls_in t

  carry1 : 3 ≤ length t → ((i : ℕ) → i < 3 → get_or s i 0 ≡ get_or t i 0) → section1 t ≡ 0
  carry1 there e =
      pass1 t there (sym (e 0 (omega arith)) ∙ h.mark)
      (subst (λ (w : ℕ). w ≤ most_width) (e 1 (omega arith)) h.width)
      (subst (λ (w : ℕ). (1 ≤ w) × (w ≤ most_size)) (e 2 (omega arith)) h.size)

  module _ (p : processes_in s ≡ P') (shares : (record_in s).shares ≡ (record_in t).shares) where
    carry2 : 4 + P' ≤ length t → section2 t ≡ 0
    carry2 there = pass2 t there (subst (λ (q : ℕ). (1 ≤ q) × (q ≤ most_processes)) p h.processes) (rw (← shares) h.shares)

    module _ (n : calls_in s ≡ n') where
      carry3 : ((k : ℕ) → k < n' → wrong_at s P' k ≡ wrong_at t P' k) → call_place P' n' ≤ length t → section3 t ≡ 0
      carry3 same there =
          pass3 t there (sym n ∙ h.count ∙ ap sum shares)
          (first_all (wrong_at t P') n' (λ k lt.
          sym (same k lt) ∙ ap (λ (q : ℕ). wrong_at s q k) (sym p)
          ∙ first_none (wrong_at s (processes_in s)) (calls_in s) k h.calls (omega (arith, n))))

      carry4 : steps_in s ≡ steps_in t → (record_in s).schedule ≡ (record_in t).schedule → step_place P' n' (steps_in t) ≤ length t → section4 t ≡ 0
      carry4 m schedule there =
          pass4 t there (subst (λ (k : ℕ). k ≤ longest_schedule) m h.steps)
          (ap (λ (q : ℕ). any (leb q) (record_in t).schedule) (sym p)
          ∙ ap (any (leb (processes_in s))) (sym schedule)
          ∙ h.schedule)

module _ (a x : List ℕ) where
  more_length : length (a ++ x) ≡ length a + length x
  more_length = length-append a x

  -- a good file a with the bytes x after it
  appended_number : Passes a → 0 < length x → number_of (a ++ x) ≡ 7
  appended_number h some =
      let l = more_length in
      let e = h.whole in
      let p : processes_in (a ++ x) ≡ processes_in a = processes_same a x (omega arith) in
      let sh : (record_in (a ++ x)).shares ≡ (record_in a).shares = shares_same a x (omega arith) in
      let n : calls_in (a ++ x) ≡ calls_in a = count_same a x (omega arith) in
      let w = wrong_same a x (omega arith) in
      let m : steps_in (a ++ x) ≡ steps_in a = steps_same a x (omega arith) in
      let sc : (record_in (a ++ x)).schedule ≡ (record_in a).schedule = schedule_same a x (omega arith) in
      after_sections (a ++ x)
      (carry1 a (a ++ x) h (omega arith) (λ i lt. sym (byte_same a x i (omega arith))))
      (carry2 a (a ++ x) h (sym p) (sym sh) (omega arith))
      (carry3 a (a ++ x) h (sym p) (sym sh) (sym n) (λ k lt. rw p (sym (w k (omega arith)))) (omega arith))
      (carry4 a (a ++ x) h (sym p) (sym sh) (sym n) (sym m) (sym sc) (omega arith))
      ∙ rw (lt-ltb (step_place (processes_in (a ++ x)) (calls_in (a ++ x)) (steps_in (a ++ x))) (length (a ++ x)) (omega arith))

  -- a file that the bytes x after it would make good
  module _ (h : Passes (a ++ x)) (some : 0 < length x) where
    cut1 : length a < 3 → section1 a ≡ 1
    cut1 short =
        section_cut (length a) 2 1 (not (eqb (get_or a 0 0) section_count)) 3 _
        (λ there. (rw (eq-eqb (get_or a 0 0) section_count (sym (byte_same a x 0 there) ∙ h.mark)), short))

    cut2 : length a < 4 + processes_in (a ++ x) → section2 a ≡ 1
    cut2 short =
        section_cut (length a) 3 4 (outside 1 most_processes (processes_in a)) (4 + processes_in a) _
        (λ there. let p = processes_same a x there in
        (ap (outside 1 most_processes) (sym p) ∙ inside_range 1 most_processes (processes_in (a ++ x)) h.processes, omega arith))

    cut3 : 4 + processes_in a ≤ length a → length a < call_place (processes_in (a ++ x)) (calls_in (a ++ x)) → section3 a ≡ 1
    cut3 before short =
        let p = processes_same a x (omega arith) in
        let sh = shares_same a x before in
        section_cut (length a) 4 (call_place (processes_in a) 0) (not (eqb (calls_in a) (calls_before a (processes_in a))))
        (call_place (processes_in a) (calls_in a)) _
        (λ there. let n = count_same a x (omega arith) in
        (rw (eq-eqb (calls_in a) (calls_before a (processes_in a)) (sym n ∙ h.count ∙ ap sum sh)), omega arith))

    cut4 : call_place (processes_in a) (calls_in a) ≤ length a → section4 a ≡ 1
    cut4 before =
        let p = processes_same a x (omega arith) in
        let n = count_same a x (omega arith) in
        let l = more_length in
        let e = h.whole in
        section_cut (length a) 6 (step_place (processes_in a) (calls_in a) 0) (ltb longest_schedule (steps_in a))
        (step_place (processes_in a) (calls_in a) (steps_in a)) _
        (λ there. let m = steps_same a x there in
        (le-ltb longest_schedule (steps_in a) (omega (arith, h.steps)), omega arith))

    from4 : call_place (processes_in a) (calls_in a) ≤ length a → section3 a ≡ 0
    from4 there =
        carry3 (a ++ x) a h (processes_same a x (omega arith)) (shares_same a x (omega arith)) (count_same a x (omega arith))
        (wrong_same a x there) there

    from3 : 4 + processes_in a ≤ length a → section2 a ≡ 0
    from3 there = carry2 (a ++ x) a h (processes_same a x (omega arith)) (shares_same a x there) there

    prefix_number : number_of a ≡ 1
    prefix_number = first (dec_lt (length a) 3)
      where
        third : 4 + processes_in a ≤ length a → Dec (length a < call_place (processes_in (a ++ x)) (calls_in (a ++ x)))
            → (section3 a then section4 a then 7 when ltb (step_place (processes_in a) (calls_in a) (steps_in a)) (length a)) ≡ 1
        third before (yes q) = rw (cut3 before q)
        third before (no q) =
            let p = processes_same a x (omega arith) in
            let n = count_same a x (omega arith) in
            then_on (section3 a) _ (from4 (omega arith)) ∙ rw (cut4 (omega arith))

        second : 3 ≤ length a → Dec (length a < 4 + processes_in (a ++ x))
            → (section2 a then section3 a then section4 a then 7 when ltb (step_place (processes_in a) (calls_in a) (steps_in a)) (length a)) ≡ 1
        second before (yes q) = rw (cut2 q)
        second before (no q) =
            let p = processes_same a x (omega arith) in
            then_on (section2 a) _ (from3 (omega arith)) ∙ third (omega arith) (dec_lt (length a) _)

        first : Dec (length a < 3) → number_of a ≡ 1
        first (yes q) = rw (cut1 q)
        first (no q) =
            then_on (section1 a) _ (carry1 (a ++ x) a h (omega arith) (λ i lt. byte_same a x i (omega arith)))
            ∙ second (omega arith) (dec_lt (length a) _)

-- a proper prefix of a good file ends inside a section
pub prefix : (a x : List ℕ) (f : RunFile) → file_of (a ++ x) ≡ good f → 0 < length x → file_of a ≡ refused 1
unfolding file_of
prefix a x f e some = rw (prefix_number a x (good_passes (a ++ x) f e).0 some)

-- a good file with bytes after it
pub appended : (a x : List ℕ) (f : RunFile) → file_of a ≡ good f → 0 < length x → file_of (a ++ x) ≡ refused 7
unfolding file_of
appended a x f e some = rw (appended_number a x (good_passes a f e).0 some)
