-- No bench and no judge that keeps its promise is one of the wrong ones that document 01 names: each would differ in a worked run.
use Prim.Native.Nat.{ℕ, zero, suc}
use mathlib.Core.Path.{◌≡◌, refl, sym, ap, ◌∙◌}
use mathlib.Core.Bool.{Bool, true, ◌&&◌}
use mathlib.Core.List.{List, [], ◌∷◌}
use native.Mathlib.Omega.{arith}
use borrow.Author.Tests.{ltb-true}
use lib.Dec.{ltb}
use lib.ListN.{length, get_or, replicate, length-replicate}
use Rattle.base.specs.Bytes.{Bytes}
use Rattle.base.proofs.Bytes.{no_bytes, one_more}
use Rattle.base.proofs.Bools.{and_0, and_1}
use Rattle.call_log.specs.Decode.{entry_at}
use Rattle.call_log.specs.Encode.{log_bytes}
use Rattle.runs.specs.Promise.{HandsBack, report_of}
use Rattle.runs.specs.Run.{Outcome, table_size, run_of}
use Rattle.runs.specs.Worked.{Case, K1, K3, K4, K5, K8, room}
use Rattle.runs.proofs.PromiseLaws.{front_is}
use Rattle.rules.specs.Contents.{before}
use Rattle.rules.specs.Judge.{Verdict}
use Rattle.theorems.specs.ShutOut.{FrontHandedBack, Bench, Judge, Always, log_of, ShutOut}

pub front_handed_back : FrontHandedBack
front_handed_back file buffer written buffer' report table h = record {
  part = front_is (run_of file (length buffer)) buffer written buffer' report table h;
  counts = h.counts;
  queues = h.queues;
}

-- that a list that is written out has bytes only is computed
abbrev fits : List ℕ → Bool
fits [] = true
fits (x ∷ xs) = ltb x 256 && fits xs

fitting : (l : List ℕ) → fits l ≡ true → Bytes l
fitting [] e = no_bytes
fitting (x ∷ xs) e = one_more x xs (ltb-true x 256 (and_0 (ltb x 256) (fits xs) e)) (fitting xs (and_1 (ltb x 256) (fits xs) e))

-- the buffer of a worked run
abbrev empty : Case → List ℕ
empty k = replicate (room k) 0

-- what a worked run gives
abbrev outcome : Case → Outcome
outcome k = run_of k.file (room k)

zeros : (n : ℕ) → Bytes (replicate n 0)
zeros zero = no_bytes
zeros (suc n) = one_more 0 (replicate n 0) (omega arith) (zeros n)

module _ (b : Bench) (k : Case) (bytes : fits k.file ≡ true) where
  handed : HandsBack k.file (length (empty k)) (b.gives k.file (empty k)).log (b.gives k.file (empty k)).report (b.gives k.file (empty k)).table
  handed = b.keeps k.file (empty k) (fitting k.file bytes) (zeros (room k))

  ran : run_of k.file (length (empty k)) ≡ outcome k
  ran = ap (run_of k.file) (length-replicate (room k) 0)

  log_is : log_of b k ≡ (outcome k).log
  log_is = handed.part ∙ ap (λ (o : Outcome). o.log) ran

  report_is : (b.gives k.file (empty k)).report ≡ report_of (outcome k)
  report_is = handed.counts ∙ ap report_of ran

  table_is : (b.gives k.file (empty k)).table ≡ (outcome k).table
  table_is = handed.queues ∙ ap (λ (o : Outcome). o.table) ran

refuses_all : (b : Bench) → Always b (λ g. get_or g.report 0 0 ≡ 0 → ⊥) → ⊥
unfolding run_of
refuses_all b h = h K1.file (empty K1) (fitting K1.file refl) (zeros (room K1)) (ap (λ (l : List ℕ). get_or l 0 0) (report_is b K1 refl))

-- K1 has three entries and K8 none
same_log : (b : Bench) (log : List ℕ) → Always b (λ g. g.log ≡ log) → ⊥
unfolding run_of log_bytes
same_log b log h =
    let three : length log ≡ 41 = sym (ap length (h K1.file (empty K1) (fitting K1.file refl) (zeros (room K1))))
    ∙ ap length (log_is b K1 refl) in
    let none : length log ≡ 5 = sym (ap length (h K8.file (empty K8) (fitting K8.file refl) (zeros (room K8))))
    ∙ ap length (log_is b K8 refl) in
    omega arith

-- the bottom of queue 0 is 2 after K3
moves_nothing : (b : Bench) → Always b (λ g. g.table ≡ replicate table_size 0) → ⊥
unfolding run_of
moves_nothing b h =
    let e : ◌≡◌ {A = ℕ} 2 0 =
    sym (ap (λ (l : List ℕ). get_or l 0 0) (table_is b K3 refl))
    ∙ ap (λ (l : List ℕ). get_or l 0 0) (h K3.file (empty K3) (fitting K3.file refl) (zeros (room K3))) in
    omega arith

-- the first push of K1 starts at 0 and ends at 2
all_at_once : (b : Bench) → Always b (λ g. (i : ℕ) → (entry_at g.log i).end ≡ (entry_at g.log i).start) → ⊥
unfolding run_of log_bytes entry_at
all_at_once b h =
    let e : ◌≡◌ {A = ℕ} 2 0 =
    sym (ap (λ (l : List ℕ). (entry_at l 0).end) (log_is b K1 refl)) ∙ h K1.file (empty K1) (fitting K1.file refl) (zeros (room K1)) 0
    ∙ ap (λ (l : List ℕ). (entry_at l 0).start) (log_is b K1 refl) in
    omega arith

-- process 1 gets nothing in K3
first_step_takes : (b : Bench) → ((i : ℕ) → (entry_at (log_of b K3) i).process ≡ 1 → (entry_at (log_of b K3) i).node ≡ 5) → ⊥
unfolding run_of log_bytes entry_at
first_step_takes b h =
    let e : ◌≡◌ {A = ℕ} 0 5 =
    sym (ap (λ (l : List ℕ). (entry_at l 3).node) (log_is b K3 refl)) ∙ h 3 (ap (λ (l : List ℕ). (entry_at l 3).process) (log_is b K3 refl)) in
    omega arith

-- K4 and K5 have six entries and 25 steps both; one take of K4 is gone-round, and none of K5
made_up_counts : (b : Bench) (gone : ℕ → ℕ → ℕ) → Always b (λ g. get_or g.report 3 0 ≡ gone (get_or g.report 1 0) (get_or g.report 2 0)) → ⊥
unfolding run_of
made_up_counts b gone h =
    let one : 1 ≡ gone 6 25 = counted K4 refl 1 refl in
    let none : 0 ≡ gone 6 25 = counted K5 refl 0 refl in
    omega arith
  where
    counted : (k : Case) → fits k.file ≡ true → (n : ℕ) → report_of (outcome k) ≡ 0 ∷ 6 ∷ 25 ∷ n ∷ [] → n ≡ gone 6 25
    counted k bytes n e =
        let r = report_is b k bytes ∙ e in
        sym (ap (λ (l : List ℕ). get_or l 3 0) r) ∙ h k.file (empty k) (fitting k.file bytes) (zeros (room k))
        ∙ ap (λ (l : List ℕ). gone (get_or l 1 0) (get_or l 2 0)) r

-- K4's log has a node that was returned twice
always_accepts : (j : Judge) → ((log : List ℕ) → Bytes log → (j.says log).number ≡ 0) → ⊥
unfolding run_of log_bytes entry_at before
always_accepts j h =
    let bytes : Bytes (outcome K4).log = fitting (outcome K4).log refl in
    let e : ◌≡◌ {A = ℕ} 17 0 = sym (ap (λ (v : Verdict). v.number) (j.keeps (outcome K4).log bytes)) ∙ h (outcome K4).log bytes in
    omega arith

never_accepts : (j : Judge) → ((log : List ℕ) → Bytes log → (j.says log).number ≡ 0 → ⊥) → ⊥
unfolding run_of log_bytes entry_at before
never_accepts j h =
    let bytes : Bytes (outcome K1).log = fitting (outcome K1).log refl in
    h (outcome K1).log bytes (ap (λ (v : Verdict). v.number) (j.keeps (outcome K1).log bytes))

pub shut_out : ShutOut
shut_out = record {
  refuses_all = refuses_all;
  same_log = same_log;
  moves_nothing = moves_nothing;
  all_at_once = all_at_once;
  first_step_takes = first_step_takes;
  made_up_counts = made_up_counts;
  always_accepts = always_accepts;
  never_accepts = never_accepts;
}
