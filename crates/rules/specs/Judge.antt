-- What the judge says of a log's bytes: document 01, "Numbers given back".
use Rattle.std.specs.Prelude.{ℕ, Result, Ok, Err, Bool, cond, not, ◌&&◌, ltb, leb, eqb, List, length}
use Rattle.call_log.specs.{declared.Entry.Entry, Encode.section_count, Encode.most_entries}
use Rattle.call_log.specs.Decode.{head_length, log_length, section_count_of, processes_of, slots_of, entry_count_of, entry_at}
use Rattle.rules.specs.{declared.Rule.Rule, declared.Fault.Fault, Search.first, Search.lowest}
use Rattle.rules.specs.declared.Rule.TheVariants.{CutShort, Head, TooLong, Fields, Ends, Moments, Contents, Causes, Full}
use Rattle.rules.specs.Rules.{breaks1, breaks2, breaks3, breaks4, breaks5, breaks6}

-- a number, 0 for an accepted log, and the entry at fault
pub record Verdict : Type 0 where
  pub number : ℕ
  pub entry : ℕ

abbrev pub says : ℕ → ℕ → Verdict
says number j = record { number = number; entry = j }

-- the entry that breaks a rule, the first in file order; n where none does
abbrev pub first1 : (ℕ → Entry) → ℕ → ℕ → ℕ
first1 f n P = first (breaks1 f P) 0 n

abbrev pub first2 : (ℕ → Entry) → ℕ → ℕ
first2 f n = first (breaks2 f) 0 n

abbrev pub first3 : (ℕ → Entry) → ℕ → ℕ
first3 f n = first (breaks3 f) 0 n

-- for rule 4 the first by moment
abbrev pub worst4 : (ℕ → Entry) → ℕ → ℕ
worst4 f n = lowest (breaks4 f n) (λ i. (f i).moment) n

abbrev pub first4 : (ℕ → Entry) → ℕ → ℕ
first4 f n = first (λ j. breaks4 f n j && eqb (f j).moment (worst4 f n)) 0 n

abbrev pub first5 : (ℕ → Entry) → ℕ → ℕ
first5 f n = first (breaks5 f n) 0 n

abbrev pub first6 : (ℕ → Entry) → ℕ → ℕ → ℕ
first6 f n C = first (breaks6 f C) 0 n

-- `number` at entry j where there is such an entry of n, else what comes next
abbrev pub or_else : ℕ → ℕ → ℕ → Verdict → Verdict
or_else n number j next = cond (ltb j n) (says number j) next

-- the rules that speak of moments, 3 to 6, in order, each over the whole log
abbrev pub moment_rules_of : (ℕ → Entry) → ℕ → ℕ → Verdict
moment_rules_of f n C =
    or_else n 16 (first3 f n) (or_else n 17 (first4 f n) (or_else n 18 (first5 f n) (or_else n 19 (first6 f n C) (says 0 0))))

-- all rules in order
abbrev pub rules_of : (ℕ → Entry) → ℕ → ℕ → ℕ → Verdict
rules_of f n P C = or_else n 14 (first1 f n P) (or_else n 15 (first2 f n) (moment_rules_of f n C))

-- section 1's count, P (1 to 8) and C (1 to 64) are right, and there are at most 256 entries
abbrev pub head_right : ℕ → ℕ → ℕ → ℕ → Bool
head_right m P C n = eqb m section_count && leb 1 P && leb P 8 && leb 1 C && leb C 64 && leb n most_entries

-- 11 for the head, 12, 11 for the entries, 13, then the rules; 0 and 11 to 13 give entry 0
abbrev pub judge_of : List ℕ → Verdict
judge_of bytes =
    cond (ltb (length bytes) head_length) (says 11 0)
    (cond (not (head_right (section_count_of bytes) (processes_of bytes) (slots_of bytes) (entry_count_of bytes))) (says 12 0)
    (cond (ltb (length bytes) (log_length (entry_count_of bytes))) (says 11 0)
    (cond (ltb (log_length (entry_count_of bytes)) (length bytes)) (says 13 0)
    (rules_of (entry_at bytes) (entry_count_of bytes) (processes_of bytes) (slots_of bytes)))))

-- The judge's answer in the program, in document 01's numbers: 11 for a log that is cut short, 12 for its head, 13 for bytes after it, 14 to 19 for
-- rules 1 to 6.
abbrev pub rule_number : Rule → ℕ
rule_number CutShort = 11
rule_number Head = 12
rule_number TooLong = 13
rule_number Fields = 14
rule_number Ends = 15
rule_number Moments = 16
rule_number Contents = 17
rule_number Causes = 18
rule_number Full = 19

abbrev pub verdict_in : Result (Unit {0}) Fault → Verdict
verdict_in (Ok accepted) = says 0 0
verdict_in (Err fault) = says (rule_number fault.rule) fault.entry
