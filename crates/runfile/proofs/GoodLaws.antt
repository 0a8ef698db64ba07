-- What number 0 says of a file, test by test, both ways.
use mathlib.Core.Path.{◌≡◌, refl, ◌∙◌}
use mathlib.Core.Bool.{Bool, false, not}
use mathlib.Core.List.{List}
use Prim.Native.Nat.{ℕ, zero, suc, ◌+◌, ◌≤◌}
use native.Mathlib.Omega.{arith}
use borrow.Author.Tests.{ltb-false, eqb-true, le-ltb, eq-eqb, not-false}
use lib.Dec.{ltb, leb, eqb}
use lib.ListN.{length, get_or}
use Rattle.base.proofs.Bools.{or_0, or_1}
use Rattle.base.proofs.Bytes.{part_length}
use Rattle.runfile.specs.Check.{◌when◌, ◌then◌, any, first_of, outside}
use Rattle.runfile.proofs.CheckLaws.{then_on, then_none, when_none}
use Rattle.runfile.specs.File.{RunFile, good, section_count, most_width, most_size, most_processes, longest_script, longest_schedule, width_in, size_in}
use Rattle.runfile.specs.File.{processes_in, calls_in, steps_in, calls_before, call_place, step_place, wrong_at, record_in, section1, section2}
use Rattle.runfile.specs.File.{section3, section4, number_of, answer, file_of}
use Rattle.runfile.proofs.CallLaws.{calls_length}

pub record Passes (s : List ℕ) : Type 0 where
  pub mark : get_or s 0 0 ≡ section_count
  pub width : width_in s ≤ most_width
  pub size : (1 ≤ size_in s) × (size_in s ≤ most_size)
  pub processes : (1 ≤ processes_in s) × (processes_in s ≤ most_processes)
  pub shares : any (ltb longest_script) (record_in s).shares ≡ false
  pub count : calls_in s ≡ calls_before s (processes_in s)
  pub calls : first_of (wrong_at s (processes_in s)) (calls_in s) ≡ 0
  pub steps : steps_in s ≤ longest_schedule
  pub schedule : any (leb (processes_in s)) (record_in s).schedule ≡ false
  pub whole : length s ≡ step_place (processes_in s) (calls_in s) (steps_in s)

within : (low high x : ℕ) → outside low high x ≡ false → (low ≤ x) × (x ≤ high)
within low high x e = (ltb-false x low (or_0 (ltb x low) (ltb high x) e), ltb-false high x (or_1 (ltb x low) (ltb high x) e))

pub inside_range : (low high x : ℕ) → (low ≤ x) × (x ≤ high) → outside low high x ≡ false
inside_range low high x h = rw (le-ltb x low h.0, le-ltb high x h.1)

-- the form of every section; `counted` and `ended` are where the file must reach to hold the count and the contents
abbrev pub section : ℕ → ℕ → ℕ → Bool → ℕ → ℕ → ℕ
section reach number counted wrong ended inside =
    1 when ltb reach counted then number when wrong then 1 when ltb reach ended then inside

module _ (reach number counted : ℕ) (wrong : Bool) (ended rest : ℕ) where
  pub section_none : section reach (suc number) counted wrong ended rest ≡ 0
      → (counted ≤ reach) × (wrong ≡ false) × (ended ≤ reach) × (rest ≡ 0)
  section_none e =
      let a = then_none (1 when ltb reach counted) _ e in
      let b = then_none (suc number when wrong) _ a.1 in
      let d = then_none (1 when ltb reach ended) rest b.1 in (
        ltb-false reach counted (when_none 0 (ltb reach counted) a.0),
        when_none number wrong b.0,
        ltb-false reach ended (when_none 0 (ltb reach ended) d.0),
        d.1,
      )

  pub section_pass : counted ≤ reach → wrong ≡ false → ended ≤ reach → section reach number counted wrong ended rest ≡ rest
  section_pass h e k = rw (le-ltb reach counted h, e, le-ltb reach ended k)

module _ (s : List ℕ) where
  abbrev P : ℕ
  P = processes_in s

  abbrev n : ℕ
  n = calls_in s

  abbrev m : ℕ
  m = steps_in s

  pub passes : number_of s ≡ 0 → Passes s
  passes e =
      let a = then_none (section1 s) _ e in
      let b = then_none (section2 s) _ a.1 in
      let d = then_none (section3 s) _ b.1 in
      let f = then_none (section4 s) _ d.1 in
      let s1 = section_none (length s) 1 1 (not (eqb (get_or s 0 0) section_count)) 3 _ a.0 in
      let s2 = section_none (length s) 2 4 (outside 1 most_processes P) (4 + P) _ b.0 in
      let s3 = section_none (length s) 3 (call_place P 0) (not (eqb n (calls_before s P))) (call_place P n) _ d.0 in
      let s4 = section_none (length s) 5 (step_place P n 0) (ltb longest_schedule m) (step_place P n m) _ f.0 in
      let wc = then_none (2 when ltb most_width (width_in s)) _ s1.3 in
      record {
        mark = eqb-true (get_or s 0 0) section_count (not-false _ s1.1);
        width = ltb-false most_width (width_in s) (when_none 1 _ wc.0);
        size = within 1 most_size (size_in s) (when_none 1 _ wc.1);
        processes = within 1 most_processes P s2.1;
        shares = when_none 2 _ s2.3;
        count = eqb-true n (calls_before s P) (not-false _ s3.1);
        calls = s3.3;
        steps = ltb-false longest_schedule m s4.1;
        schedule = when_none 5 _ s4.3;
        whole = let t = ltb-false (step_place P n m) (length s) (when_none 6 _ f.1) in let u = s4.2 in omega arith;
      }

  -- each section passes when it is there and its tests hold
  pub pass1 : 3 ≤ length s → get_or s 0 0 ≡ section_count → width_in s ≤ most_width → (1 ≤ size_in s) × (size_in s ≤ most_size)
      → section1 s ≡ 0
  pass1 there mark width size =
      section_pass (length s) 2 1 (not (eqb (get_or s 0 0) section_count)) 3 _ (omega arith) (rw mark) there
      ∙ rw (le-ltb most_width (width_in s) width, inside_range 1 most_size (size_in s) size)

  pub pass2 : 4 + P ≤ length s → (1 ≤ P) × (P ≤ most_processes) → any (ltb longest_script) (record_in s).shares ≡ false → section2 s ≡ 0
  pass2 there range shares =
      section_pass (length s) 3 4 (outside 1 most_processes P) (4 + P) _ (omega arith) (inside_range 1 most_processes P range) there ∙ rw shares

  pub pass3 : call_place P n ≤ length s → n ≡ calls_before s P → first_of (wrong_at s P) n ≡ 0 → section3 s ≡ 0
  pass3 there count calls =
      section_pass (length s) 4 (call_place P 0) (not (eqb n (calls_before s P))) (call_place P n) _ (omega arith)
      (rw (eq-eqb n (calls_before s P) count)) there
      ∙ calls

  pub pass4 : step_place P n m ≤ length s → m ≤ longest_schedule → any (leb P) (record_in s).schedule ≡ false → section4 s ≡ 0
  pass4 there steps schedule =
      section_pass (length s) 6 (step_place P n 0) (ltb longest_schedule m) (step_place P n m) _ (omega arith) (le-ltb longest_schedule m steps) there
      ∙ rw schedule

  pub after_sections : section1 s ≡ 0 → section2 s ≡ 0 → section3 s ≡ 0 → section4 s ≡ 0
      → number_of s ≡ (7 when ltb (step_place P n m) (length s))
  after_sections a b c d =
      then_on (section1 s) _ a ∙ then_on (section2 s) _ b ∙ then_on (section3 s) _ c ∙ then_on (section4 s) _ d

  pub passes_number : Passes s → number_of s ≡ 0
  passes_number h =
      after_sections
      (pass1 (omega (arith, h.whole)) h.mark h.width h.size)
      (pass2 (omega (arith, h.whole)) h.processes h.shares)
      (pass3 (omega (arith, h.whole)) h.count h.calls)
      (pass4 (omega (arith, h.whole)) h.steps h.schedule)
      ∙ rw (le-ltb (step_place P n m) (length s) (omega (arith, h.whole)))

answer_good : (k : ℕ) (g f : RunFile) → answer k g ≡ good f → (k ≡ 0) × (g ≡ f)
answer_good zero g f e = (refl, cc)
answer_good (suc k) g f e = absurd (let z : ◌≡◌ {A = ℕ} 0 1 = cc in omega arith)

-- a good file passes every test, and the record is what its bytes say
pub good_passes : (s : List ℕ) (f : RunFile) → file_of s ≡ good f → Passes s × (record_in s ≡ f)
unfolding file_of
good_passes s f e =
    let d = answer_good (number_of s) (record_in s) f e in
    (passes s d.0, d.1)

pub passes_good : (s : List ℕ) → Passes s → file_of s ≡ good (record_in s)
unfolding file_of
passes_good s h = rw (passes_number s h)

module _ (s : List ℕ) (h : Passes s) where
  pub shares_length : length (record_in s).shares ≡ processes_in s
  shares_length = part_length s 4 (processes_in s) (omega (arith, h.whole))

  pub all_calls_length : length (record_in s).calls ≡ calls_in s
  all_calls_length = calls_length s (processes_in s) (calls_in s)

  pub schedule_length : length (record_in s).schedule ≡ steps_in s
  schedule_length = part_length s (step_place (processes_in s) (calls_in s) 0) (steps_in s) (omega (arith, h.whole))
