-- The log's bytes as the program leaves them in the buffer, and that with them the run gives what is promised.
use Prim.Native.Nat.{ℕ, suc, ◌+◌, ◌*◌, ◌≤◌}
use mathlib.Core.Path.{◌≡◌, refl, sym, ap, ◌∙◌}
use mathlib.Core.List.{List, [], ◌∷◌, ◌++◌, append_assoc}
use native.Mathlib.Omega.{arith}
use lib.ListN.{length, take, drop, length-append, length-drop, take-append-drop}
use lib.Seq.{drop_at, length-take-le, drop-drop}
use borrow.Author.Tests.{le-leb}
use Rattle.base.specs.Bytes.{put_at}
use Rattle.base.specs.Lists.{list_of}
use Rattle.call_log.specs.Encode.{Log, head_bytes, entry_bytes, entries_bytes, log_bytes}
use Rattle.base.proofs.Bytes.{put_after}
use Rattle.call_log.proofs.EncodeLaws.{length_log}
use Rattle.call_log.specs.declared.Entry.{Entry}
use Rattle.runfile.specs.File.{RunFile}
use Rattle.bench.specs.Inner.Layout.{slots_in, put_entries, Becomes}
use Rattle.runs.specs.Promise.{Gives}
use Rattle.bench.specs.Inner.Finish.{Finishes}
use Rattle.runs.specs.Run.{table_size, table_at, finished}
use Rattle.bench.specs.declared.Bench.{Bench as HeldBench}
use Rattle.runs.specs.State.{Bench, State}

-- entries that are put in follow what stands before them
put_front : (es : List Entry) (n : ℕ) (front rest : List ℕ) → length front ≡ 5 + 12 * n → 12 * length es ≤ length rest
    → put_entries n es (front ++ rest) ≡ front ++ (entries_bytes es ++ drop (12 * length es) rest)
put_front [] n front rest e h = refl
put_front (d ∷ es) n front rest e h =
    ap (λ (k : ℕ). put_entries (suc n) es (put_at k (entry_bytes d) (front ++ rest))) (sym e)
    ∙ ap (put_entries (suc n) es) (put_after front (entry_bytes d) rest (omega arith))
    ∙ put_front es (suc n) (front ++ entry_bytes d) (drop 12 rest) (omega (arith, length-append front (entry_bytes d))) (simp length-drop (omega arith))
    ∙ append_assoc front (entry_bytes d) (entries_bytes es ++ drop (12 * length es) (drop 12 rest))
    ∙ ap (λ (l : List ℕ). front ++ (entry_bytes d ++ (entries_bytes es ++ l))) (drop-drop (12 * length es) 12 rest ∙ ap (λ (k : ℕ). drop k rest) count)
    ∙ ap (λ (l : List ℕ). front ++ l) (sym (append_assoc (entry_bytes d) (entries_bytes es) (drop (12 * suc (length es)) rest)))
  where
    count : 12 + 12 * length es ≡ 12 * suc (length es)
    count = omega arith

module _ (P C : ℕ) (es : List Entry) (log₀ : List ℕ) (h : 5 + 12 * length es ≤ length log₀) where
  five : length (take 5 log₀) ≡ 5
  five = length-take-le 5 log₀ (omega arith)

  put_all : put_entries 0 es log₀ ≡ take 5 log₀ ++ (entries_bytes es ++ drop (12 * length es) (drop 5 log₀))
  put_all =
      ap (put_entries 0 es) (sym (take-append-drop 5 log₀))
      ∙ put_front es 0 (take 5 log₀) (drop 5 log₀) (omega (arith, five)) (simp length-drop (omega arith))

  with_head : (l : List ℕ) → 5 ≤ length l → put_at 0 (head_bytes P C (length es)) l ≡ head_bytes P C (length es) ++ drop 5 l
  with_head l k = rw (le-leb (0 + 5) (length l) (omega arith))

  -- the buffer with entries and head is the log, and then what it held
  pub log_bytes_lem : put_at 0 (head_bytes P C (length es)) (put_entries 0 es log₀) ≡ log_bytes (record {
    P = P;
    C = C;
    entries = es;
  }) ++ drop (5 + 12 * length es) log₀
  unfolding log_bytes
  log_bytes_lem =
      let rest = drop (12 * length es) (drop 5 log₀) in
      let all : 5 + 12 * length es ≡ 12 * length es + 5 = omega arith in
      ap (put_at 0 (head_bytes P C (length es))) put_all
      ∙ with_head (take 5 log₀ ++ (entries_bytes es ++ rest)) (omega (arith, five, length-append (take 5 log₀) (entries_bytes es ++ rest)))
      ∙ ap (λ (l : List ℕ). head_bytes P C (length es) ++ l) (drop_at (take 5 log₀) (entries_bytes es ++ rest) 5 five)
      ∙ sym (append_assoc (head_bytes P C (length es)) (entries_bytes es) rest)
      ∙ ap (λ (l : List ℕ). (head_bytes P C (length es) ++ entries_bytes es) ++ l) (drop-drop (12 * length es) 5 log₀)

-- the program's last part gives what is promised of a finished run
pub finished_gives : (f : RunFile) (s : State) (buffer : List ℕ) (b : HeldBench) (flat log : List ℕ) (written : ℕ) (buffer' report table : List ℕ)
    → Becomes f.size 0 buffer s b flat log → 5 + 12 * length s.log ≤ length buffer
    → Finishes (length f.shares) f.size b flat log written buffer' report table → Gives (finished f s) buffer written buffer' report table
finished_gives f s buffer b flat log written buffer' report table h room g = record {
  bytes = g.bytes ∙ ap (λ (n : ℕ). 5 + 12 * n) count ∙ sym (length_log whole);
  kept =
      g.kept
      ∙ ap (λ (n : ℕ). put_at 0 (head_bytes P f.size n) log) count
      ∙ ap (put_at 0 (head_bytes P f.size (length s.log))) h.bytes
      ∙ log_bytes_lem P f.size s.log buffer room
      ∙ ap (λ (n : ℕ). log_bytes whole ++ drop n buffer) (sym (length_log whole));
  counts =
      g.counts ∙ ap (λ (n : ℕ). 0 ∷ n ∷ b.steps ∷ b.gone ∷ []) count
      ∙ ap (λ (x : Bench). 0 ∷ length s.log ∷ x.steps ∷ x.gone ∷ []) h.bench;
  queues =
      g.queues ∙ ap (λ (x : Bench). list_of table_size (table_at P x (slots_in f.size flat))) h.bench
      ∙ ap (λ (l : List (List ℕ)). list_of table_size (table_at P s.bench l)) h.slots;
}
  where
    P : ℕ
    P = length f.shares

    whole : Log
    whole = record { P = length f.shares; C = f.size; entries = s.log }

    count : b.entries ≡ length s.log
    count = omega (arith, h.count)
