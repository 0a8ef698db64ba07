-- What is read as good is encoded as the bytes that were read: only one file says it.
use mathlib.Core.Path.{◌≡◌, refl, sym, ap, ◌∙◌, subst}
use mathlib.Core.List.{List, [], ◌∷◌, ◌++◌, append_assoc}
use Prim.Native.Nat.{ℕ, zero, suc, ◌+◌, ◌*◌, ◌<◌, ◌≤◌}
use native.Mathlib.Omega.{arith}
use lib.ListN.{length, get_or, take, drop, length-drop, take-append-drop}
use lib.Seq.{get_or-drop, drop-drop, take_all, take-add}
use Rattle.base.specs.Bytes.{Byte, Bytes, byte_at, number_at, pair}
use Rattle.base.specs.Lists.{list_of}
use Rattle.base.proofs.Bytes.{high, low, number_at-drop}
use Rattle.base.proofs.Cases.{if_eq, if_lt}
use Rattle.runfile.specs.declared.Call.{Call}
use Rattle.std.specs.Prelude.{Result}
use Rattle.runfile.specs.declared.Refusal.{Refusal}
use Rattle.runfile.specs.File.{first_calls, RunFile, good, section_count, width_in, size_in, processes_in, calls_in, steps_in, call_place, step_place, call_of}
use Rattle.runfile.specs.File.{first_calls, coded_at, call_in, wrong_after, record_in, file_of}
use Rattle.runfile.specs.Encode.{call_bytes, calls_bytes, encode}
use Rattle.runfile.proofs.SectionBytes.{bytes3, bytes4}
use Rattle.runfile.proofs.GoodLaws.{Passes, good_passes, shares_length, all_calls_length, schedule_length}
use Rattle.runfile.proofs.RangeLaws.{call_right}

two_front : (t : List ℕ) → 2 ≤ length t → Byte (get_or t 1 0) → pair (number_at t 0) ≡ take 2 t
two_front [] h b = absurd (omega arith)
two_front (x ∷ []) h b = absurd (omega arith)
two_front (x ∷ y ∷ t) h b = rw (high x y b, low x y b)

three_front : (t : List ℕ) → 3 ≤ length t → Byte (get_or t 2 0) → get_or t 0 0 ∷ pair (number_at t 1) ≡ take 3 t
three_front [] h b = absurd (omega arith)
three_front (x ∷ t) h b = ap (λ (l : List ℕ). x ∷ l) (two_front t (omega arith) b)

four_front : (t : List ℕ) → 4 ≤ length t → get_or t 0 0 ∷ get_or t 1 0 ∷ get_or t 2 0 ∷ get_or t 3 0 ∷ [] ≡ take 4 t
four_front [] h = absurd (omega arith)
four_front (w ∷ []) h = absurd (omega arith)
four_front (w ∷ x ∷ []) h = absurd (omega arith)
four_front (w ∷ x ∷ y ∷ []) h = absurd (omega arith)
four_front (w ∷ x ∷ y ∷ z ∷ t) h = refl

-- a call that is not refused has the bytes of what they say
call_bytes_lem : (P code x : ℕ) (earlier : List Call) → wrong_after earlier (call_of P code x) ≡ 0 → call_bytes (call_in (call_of P code x)) ≡ code ∷ pair x
call_bytes_lem P code x earlier =
    if_eq Q code 1 (λ c. if_eq Q x 0 (λ _ h. absurd (omega arith)) (λ _ h. rw c))
    (λ _. if_eq Q code 2 (λ c. if_eq Q x 0 (λ e h. rw (c, e)) (λ _ h. absurd (omega arith)))
    (λ _. if_eq Q code 3 (λ c. if_lt Q x P (λ _ h. rw c) (λ _ h. absurd (omega arith)))
    (λ _ h. absurd (omega arith))))
  where
    Q : Result Call Refusal → Type 0
    Q c = wrong_after earlier c ≡ 0 → call_bytes (call_in c) ≡ code ∷ pair x

-- a part, and what follows it
join : (s : List ℕ) (i k j : ℕ) → i + k ≡ j → take k (drop i s) ++ drop j s ≡ drop i s
join s i k j e = rw (← e) (ap (λ (l : List ℕ). take k (drop i s) ++ l) (sym (drop-drop k i s)) ∙ take-append-drop k (drop i s))

module _ (s : List ℕ) (b : Bytes s) where
  later : (i : ℕ) → Bytes (drop i s)
  later i k = subst Byte (sym (get_or-drop i s k 0)) (b (i + k))

  pair_at : (i : ℕ) → 2 + i ≤ length s → pair (number_at s i) ≡ take 2 (drop i s)
  pair_at i lt = ap pair (number_at-drop s i) ∙ two_front (drop i s) (omega (arith, length-drop i s)) (later i 1)

  three_at : (i : ℕ) → 3 + i ≤ length s → byte_at s i ∷ pair (number_at s (i + 1)) ≡ take 3 (drop i s)
  three_at i lt =
      let z : i + 0 ≡ i = omega arith in
      let e : i + 1 + 1 ≡ i + 2 = omega arith in
      sym (rw (get_or-drop i s 0 0, get_or-drop i s 1 0, get_or-drop i s 2 0, z, e)) ∙ three_front (drop i s) (omega (arith, length-drop i s)) (later i 2)

  -- n calls from a place on
  calls_bytes_lem : (f : ℕ → Call) (n at : ℕ) → at + 3 * n ≤ length s
      → ((k : ℕ) → k < n → call_bytes (f k) ≡ byte_at s (at + 3 * k) ∷ pair (number_at s (at + 3 * k + 1)))
      → calls_bytes (list_of n f) ≡ take (3 * n) (drop at s)
  calls_bytes_lem f zero at h e = refl
  calls_bytes_lem f (suc n) at h e =
      let z : at + 3 * 0 ≡ at = omega arith in
      let more : 3 * suc n ≡ 3 + 3 * n = omega arith in
      let next : (k : ℕ) → at + 3 * suc k ≡ at + 3 + 3 * k = λ k. omega arith in
      let first : call_bytes (f 0) ≡ take 3 (drop at s) =
      e 0 (omega arith) ∙ ap (λ (i : ℕ). byte_at s i ∷ pair (number_at s (i + 1))) z ∙ three_at at (omega arith) in
      let others =
      calls_bytes_lem (λ k. f (suc k)) n (at + 3) (omega arith)
      (λ k lt. e (suc k) (omega arith) ∙ ap (λ (i : ℕ). byte_at s i ∷ pair (number_at s (i + 1))) (next k)) in
      rw (more, take-add 3 (3 * n) (drop at s), drop-drop 3 at s)
      (ap (λ (l : List ℕ). l ++ calls_bytes (list_of n (λ k. f (suc k)))) first ∙ ap (λ (l : List ℕ). take 3 (drop at s) ++ l) others)

  module _ (h : Passes s) where
    abbrev P : ℕ
    P = processes_in s

    abbrev n : ℕ
    n = calls_in s

    -- the calls, and the bytes after them
    calls_at : calls_bytes (record_in s).calls ≡ take (3 * n) (drop (6 + P) s)
    calls_at =
        calls_bytes_lem (λ k. call_in (coded_at s P k)) n (6 + P) (omega (arith, h.whole))
        (λ k lt. call_bytes_lem P (byte_at s (call_place P k)) (number_at s (call_place P k + 1)) (first_calls s P k) (call_right s b h k lt))

    fourth_at : bytes4 (record_in s) ≡ drop (call_place P n) s
    fourth_at =
        let at = step_place P n 0 in
        let whole : take (steps_in s) (drop at s) ≡ drop at s = take_all (steps_in s) (drop at s) (omega (arith, length-drop at s, h.whole)) in
        ap (λ (l : List ℕ). pair (length (record_in s).schedule) ++ l) whole
        ∙ ap (λ (x : ℕ). pair x ++ drop at s) (schedule_length s h)
        ∙ ap (λ (l : List ℕ). l ++ drop at s) (pair_at (call_place P n) (omega (arith, h.whole)))
        ∙ join s (call_place P n) 2 at (omega arith)

    third_at : bytes3 (record_in s) ++ drop (call_place P n) s ≡ drop (4 + P) s
    third_at =
        append_assoc (pair (length (record_in s).calls)) (calls_bytes (record_in s).calls) (drop (call_place P n) s)
        ∙ ap (λ (l : List ℕ). pair (length (record_in s).calls) ++ (l ++ drop (call_place P n) s)) calls_at
        ∙ ap (λ (l : List ℕ). pair (length (record_in s).calls) ++ l) (join s (6 + P) (3 * n) (call_place P n) refl)
        ∙ ap (λ (x : ℕ). pair x ++ drop (6 + P) s) (all_calls_length s h)
        ∙ ap (λ (l : List ℕ). l ++ drop (6 + P) s) (pair_at (4 + P) (omega (arith, h.whole)))
        ∙ join s (4 + P) 2 (6 + P) (omega arith)

    record_bytes : encode (record_in s) ≡ s
    record_bytes =
        ap (λ (l : List ℕ). front (record_in s) (third l)) fourth_at
        ∙ ap (front (record_in s)) third_at
        ∙ ap (λ (x : ℕ). start x ++ ((record_in s).shares ++ drop (4 + P) s)) (shares_length s h)
        ∙ ap (λ (l : List ℕ). start P ++ l) (join s 4 P (4 + P) refl)
        ∙ ap (λ (x : ℕ). (x ∷ width_in s ∷ size_in s ∷ P ∷ []) ++ drop 4 s) (sym h.mark)
        ∙ ap (λ (l : List ℕ). l ++ drop 4 s) (four_front s (omega (arith, h.whole)))
        ∙ take-append-drop 4 s
      where
        start : ℕ → List ℕ
        start x = section_count ∷ width_in s ∷ size_in s ∷ x ∷ []

        third : List ℕ → List ℕ
        third l = bytes3 (record_in s) ++ l

        front : RunFile → List ℕ → List ℕ
        front f l = start (length f.shares) ++ (f.shares ++ l)

pub good_bytes : (s : List ℕ) (f : RunFile) → Bytes s → file_of s ≡ good f → encode f ≡ s
good_bytes s f b e =
    let d = good_passes s f e in
    ap encode (sym d.1) ∙ record_bytes s b d.0
