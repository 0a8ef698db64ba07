-- The round trip: every record in range, encoded, is read back as itself. So the reader refuses no good file.
use mathlib.Core.Path.{◌≡◌, refl, sym, ap, ◌∙◌}
use mathlib.Core.Bool.{false}
use mathlib.Core.List.{List, [], ◌∷◌, ◌++◌, append_assoc}
use Prim.Native.Nat.{ℕ, zero, suc, ◌+◌, ◌*◌, ◌<◌}
use native.Mathlib.Omega.{arith}
use borrow.Author.Tests.{le-ltb, lt-ltb, lt-leb, ne_eqb}
use lib.Dec.{ltb, leb}
use lib.ListN.{length, get_or, drop, length-append}
use lib.Seq.{take-append_seam, drop-append_seam, drop-drop, take_all, drop_at}
use Rattle.base.specs.Bytes.{number_at}
use Rattle.base.proofs.Bytes.{rejoined, number_at-drop}
use Rattle.base.proofs.Lists.{list_of_all}
use Rattle.runfile.specs.declared.Call.{Call}
use Rattle.runfile.specs.declared.Call.TheVariants.{Push, Pop, Take}
use Rattle.std.specs.Prelude.{Ok}
use Rattle.runfile.specs.Check.{sum}
use Rattle.runfile.specs.File.{RunFile, good, longest_script, calls_in, steps_in, call_place, step_place, coded_at, call_in, call_at, first_calls}
use Rattle.runfile.specs.File.{pushes, wrong_after, wrong_at, record_in, file_of}
use Rattle.runfile.specs.Encode.{CallInRange, InRanges, call_bytes, calls_bytes, encode}
use Rattle.runfile.proofs.SectionBytes.{bytes3, bytes4}
use Rattle.runfile.proofs.CheckLaws.{first_all, any_all}
use Rattle.runfile.proofs.CallLaws.{list_of_same, calls_length, call_get, coded_from, coded_drop}
use Rattle.runfile.proofs.GoodLaws.{Passes, passes_good}

calls_bytes-length : (cs : List Call) → length (calls_bytes cs) ≡ 3 * length cs
calls_bytes-length [] = refl
calls_bytes-length (c ∷ cs) = rw (length-append (call_bytes c) (calls_bytes cs), three c) (omega (arith, calls_bytes-length cs))
  where
    three : (c : Call) → length (call_bytes c) ≡ 3
    three (Push x) = refl
    three Pop = refl
    three (Take q) = refl

-- a call in range is read back, and its three bytes stand before what follows
call_back : (P : ℕ) (c : Call) (l : List ℕ) → CallInRange P c → coded_from P (call_bytes c ++ l) 0 ≡ Ok c
call_back P (Push x) l h = rw (rejoined x, ne_eqb x 0 (λ z. omega arith))
call_back P Pop l h = refl
call_back P (Take q) l h = rw (rejoined q, lt-ltb q P h)

after_call : (c : Call) (l : List ℕ) → drop 3 (call_bytes c ++ l) ≡ l
after_call (Push x) l = refl
after_call Pop l = refl
after_call (Take q) l = refl

calls_back : (P : ℕ) (cs : List Call) (l : List ℕ) → ((k : ℕ) → k < length cs → CallInRange P (get_or cs k Pop))
    → (k : ℕ) → k < length cs → coded_from P (calls_bytes cs ++ l) (3 * k) ≡ Ok (get_or cs k Pop)
calls_back P [] l h k lt = absurd (omega arith)
calls_back P (c ∷ cs) l h zero lt = rw (append_assoc (call_bytes c) (calls_bytes cs) l) (call_back P c (calls_bytes cs ++ l) (h 0 lt))
calls_back P (c ∷ cs) l h (suc k) lt =
    let e : 3 * suc k ≡ 3 + 3 * k = omega arith in
    let t = calls_bytes cs ++ l in
    rw (append_assoc (call_bytes c) (calls_bytes cs) l, e)
    (sym (coded_drop P (call_bytes c ++ t) 3 (3 * k))
    ∙ ap (λ (u : List ℕ). coded_from P u (3 * k)) (after_call c t)
    ∙ calls_back P cs l (λ j below. h (suc j) (omega arith)) k (omega arith))

-- where the parts of an encoded file stand
module _ (f : RunFile) where
  abbrev s : List ℕ
  s = encode f

  abbrev P : ℕ
  P = length f.shares

  abbrev n : ℕ
  n = length f.calls

  abbrev m : ℕ
  m = length f.schedule

  abbrev fourth : List ℕ
  fourth = bytes4 f

  abbrev third : List ℕ
  third = bytes3 f ++ fourth

  at_third : drop (4 + P) s ≡ third
  at_third = sym (drop-drop P 4 s) ∙ drop-append_seam f.shares third

  calls_number : calls_in s ≡ n
  calls_number = number_at-drop s (4 + P) ∙ ap (λ (l : List ℕ). number_at l 0) at_third ∙ rejoined n

  at_calls : drop (6 + P) s ≡ calls_bytes f.calls ++ fourth
  at_calls =
      let e : 4 + P + 2 ≡ 6 + P = omega arith in
      ap (λ (i : ℕ). drop i s) (sym e) ∙ sym (drop-drop 2 (4 + P) s) ∙ ap (drop 2) at_third

  at_fourth : drop (call_place P n) s ≡ fourth
  at_fourth =
      sym (drop-drop (3 * n) (6 + P) s) ∙ ap (drop (3 * n)) at_calls
      ∙ drop_at (calls_bytes f.calls) fourth (3 * n) (calls_bytes-length f.calls)

  steps_number : steps_in s ≡ m
  steps_number =
      ap (λ (k : ℕ). number_at s (call_place P k)) calls_number
      ∙ number_at-drop s (call_place P n)
      ∙ ap (λ (l : List ℕ). number_at l 0) at_fourth
      ∙ rejoined m

  at_schedule : drop (step_place P (calls_in s) 0) s ≡ f.schedule
  at_schedule =
      let e : step_place P (calls_in s) 0 ≡ call_place P n + 2 = omega (arith, calls_number) in
      ap (λ (i : ℕ). drop i s) e ∙ sym (drop-drop 2 (call_place P n) s) ∙ ap (drop 2) at_fourth

  all_length : length s ≡ step_place P n m
  all_length =
      omega (
        arith,
        length-append f.shares third,
        length-append (calls_bytes f.calls) fourth,
        calls_bytes-length f.calls,
      )

  shares_back : (record_in s).shares ≡ f.shares
  shares_back = take-append_seam f.shares third

  schedule_back : (record_in s).schedule ≡ f.schedule
  schedule_back = rw (at_schedule, steps_number) (take_all m f.schedule (omega arith))

  module _ (r : InRanges f) where
    coded_back : (k : ℕ) → k < n → coded_at s P k ≡ Ok (get_or f.calls k Pop)
    coded_back k lt =
        sym (coded_drop P s (6 + P) (3 * k)) ∙ ap (λ (l : List ℕ). coded_from P l (3 * k)) at_calls
        ∙ calls_back P f.calls fourth r.calls k lt

    all_calls_back : (record_in s).calls ≡ f.calls
    all_calls_back =
        ap (λ (k : ℕ). first_calls s P k) calls_number
        ∙ list_of_same n (call_at s P) (λ k. get_or f.calls k Pop) (λ k lt. ap call_in (coded_back k lt))
        ∙ list_of_all Pop f.calls

    record_back : record_in s ≡ f
    record_back = λ i. record {
      width = f.width;
      size = f.size;
      shares = shares_back i;
      calls = all_calls_back i;
      schedule = schedule_back i;
    }

    right : (k : ℕ) → k < n → wrong_at s P k ≡ 0
    right k lt = ap (wrong_after (first_calls s P k)) (coded_back k lt) ∙ by_call (get_or f.calls k Pop) refl
      where
        apart : (node : ℕ) → get_or f.calls k Pop ≡ Push node → (j : ℕ) (c : Call) → j < k → get_or f.calls j Pop ≡ c → pushes node c ≡ false
        apart node e j (Push x) below d = ne_eqb x node (λ z. r.once j k node below lt (d ∙ ap Push z) e)
        apart node e j Pop below d = refl
        apart node e j (Take q) below d = refl

        by_call : (c : Call) → get_or f.calls k Pop ≡ c → wrong_after (first_calls s P k) (Ok c) ≡ 0
        by_call (Push node) e =
            rw (any_all (pushes node) Pop (first_calls s P k) (λ j below.
            let l : j < k = omega (arith, calls_length s P k) in
            ap (pushes node) (call_get s P k j l ∙ ap call_in (coded_back j (omega arith))) ∙ apart node e j (get_or f.calls j Pop) l refl))
        by_call Pop e = refl
        by_call (Take q) e = refl

    passes_back : Passes s
    passes_back = record {
      mark = refl;
      width = r.width;
      size = r.size;
      processes = r.processes;
      shares = rw shares_back (any_all (ltb longest_script) 0 f.shares (λ p lt. le-ltb longest_script _ (r.shares p lt)));
      count = calls_number ∙ r.count ∙ ap sum (sym shares_back);
      calls = rw calls_number (first_all (wrong_at s P) n right);
      steps = omega (arith, steps_number, r.steps);
      schedule = rw schedule_back (any_all (leb P) 0 f.schedule (λ k lt. lt-leb P _ (r.schedule k lt)));
      whole = omega (arith, all_length, calls_number, steps_number);
    }

-- every record in range, encoded, is read back as itself
pub round_trip : (f : RunFile) → InRanges f → file_of (encode f) ≡ good f
round_trip f r = passes_good (encode f) (passes_back f r) ∙ ap good (record_back f r)
