-- A log, and its bytes in document 01's order: section 1, the number of entries, the entries.
use Rattle.std.specs.Prelude.{ℕ, ◌≤◌, List, [], ◌∷◌, ◌++◌, length}
use Rattle.base.specs.{Bytes.Byte, Bytes.Two, Bytes.pair, Lists.All}
use Rattle.call_log.specs.declared.Entry.{Entry}

-- P processes, C slots, and the entries
pub record Log : Type 0 where
  pub P : ℕ
  pub C : ℕ
  pub entries : List Entry

-- section 1's count
abbrev pub section_count : ℕ
section_count = 2

abbrev pub most_entries : ℕ
most_entries = 256

-- a byte 2, then P, C; two bytes, the number of entries
abbrev pub head_bytes : ℕ → ℕ → ℕ → List ℕ
head_bytes P C n = section_count ∷ P ∷ C ∷ pair n

-- process, queue, kind, result, node, start, end, moment; each of the last four takes two bytes
abbrev pub entry_bytes : Entry → List ℕ
entry_bytes e = e.process ∷ e.queue ∷ e.kind ∷ e.result ∷ (pair e.node ++ pair e.start ++ pair e.end ++ pair e.moment)

abbrev pub entries_bytes : List Entry → List ℕ
entries_bytes [] = []
entries_bytes (e ∷ es) = entry_bytes e ++ entries_bytes es

unfoldable pub log_bytes : Log → List ℕ
log_bytes l = head_bytes l.P l.C (length l.entries) ++ entries_bytes l.entries

-- the fields fit their bytes
pub record EntryFits (e : Entry) : Type 0 where
  pub bytes : Byte e.process × Byte e.queue × Byte e.kind × Byte e.result
  pub pairs : Two e.node × Two e.start × Two e.end × Two e.moment

-- P and C in the run file's ranges, at most 256 entries, and all fields fit
pub record InRange (l : Log) : Type 0 where
  pub processes : (1 ≤ l.P) × (l.P ≤ 8)
  pub slots : (1 ≤ l.C) × (l.C ≤ 64)
  pub few : length l.entries ≤ most_entries
  pub fit : All EntryFits l.entries
