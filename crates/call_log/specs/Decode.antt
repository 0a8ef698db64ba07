-- What stands in a log's bytes. Bytes past the end read as 0, so that every list of bytes has entries.
use Rattle.std.specs.Prelude.{ℕ, ◌+◌, ◌*◌, List, [], drop}
use Rattle.base.specs.Bytes.{byte_at, number_at}
use Rattle.call_log.specs.declared.Entry.{Entry}

-- section 1 and the number of entries take five bytes, an entry twelve
abbrev pub head_length : ℕ
head_length = 5

abbrev pub entry_length : ℕ
entry_length = 12

-- 5 + 12 × n, the length of a log of n entries, which is also where entry n begins
abbrev pub log_length : ℕ → ℕ
log_length n = head_length + entry_length * n

-- section 1: its count, a byte 2, then P, C; section 2: the number of entries
abbrev pub section_count_of : List ℕ → ℕ
section_count_of bytes = byte_at bytes 0

abbrev pub processes_of : List ℕ → ℕ
processes_of bytes = byte_at bytes 1

abbrev pub slots_of : List ℕ → ℕ
slots_of bytes = byte_at bytes 2

abbrev pub entry_count_of : List ℕ → ℕ
entry_count_of bytes = number_at bytes 3

-- the entry whose twelve bytes stand in front
abbrev pub first_entry : List ℕ → Entry
first_entry bytes = record {
  process = byte_at bytes 0;
  queue = byte_at bytes 1;
  kind = byte_at bytes 2;
  result = byte_at bytes 3;
  node = number_at bytes 4;
  start = number_at bytes 6;
  end = number_at bytes 8;
  moment = number_at bytes 10;
}

unfoldable pub entry_at : List ℕ → ℕ → Entry
entry_at bytes i = first_entry (drop (log_length i) bytes)

-- what stands past the end
abbrev pub no_entry : Entry
no_entry = first_entry []
