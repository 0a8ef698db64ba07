-- Entry i of a log: where its bytes are cut off before it nothing is left of them; else it is what its twelve bytes say, read one by one.
use mathlib.Core.Path.{◌≡◌, sym, ap, ◌∙◌}
use mathlib.Core.List.{List, []}
use Prim.Native.Nat.{ℕ, ◌+◌, ◌*◌, ◌≤◌, ◌<◌}
use native.Mathlib.Omega.{arith}
use lib.Seq.{get_or-drop}
use lib.ListN.{length, drop, drop_of_length-le}
use Rattle.base.specs.Bytes.{byte_at, joined}
use Rattle.call_log.specs.declared.Entry.{Entry}
use Rattle.call_log.specs.Decode.{entry_at, first_entry}

pub none_left : (bytes : List ℕ) (i : ℕ) → length bytes ≤ 5 + 12 * i → first_entry [] ≡ entry_at bytes i
unfolding entry_at
none_left bytes i past = sym (ap first_entry (drop_of_length-le bytes past))

-- an entry whose fields are all 0
pub zeros_read : (e : Entry) → (e.process ≡ 0)
    × ((e.queue ≡ 0) × ((e.kind ≡ 0) × ((e.result ≡ 0) × ((e.node ≡ 0) × ((e.start ≡ 0) × ((e.end ≡ 0) × (e.moment ≡ 0))))))) → e ≡ first_entry []
zeros_read e h = λ i. record {
  process = h.0 i;
  queue = h.1.0 i;
  kind = h.1.1.0 i;
  result = h.1.1.1.0 i;
  node = h.1.1.1.1.0 i;
  start = h.1.1.1.1.1.0 i;
  end = h.1.1.1.1.1.1.0 i;
  moment = h.1.1.1.1.1.1.1 i;
}

-- an entry whose bytes were read one by one
pub bytes_read : (read bytes : List ℕ) (i : ℕ) → ((j : ℕ) → j < 12 → byte_at read j ≡ byte_at bytes (5 + 12 * i + j))
    → first_entry read ≡ entry_at bytes i
unfolding entry_at
bytes_read read bytes i h = λ t. record {
  process = b 0 (omega arith) t;
  queue = b 1 (omega arith) t;
  kind = b 2 (omega arith) t;
  result = b 3 (omega arith) t;
  node = joined (b 4 (omega arith) t) (b 5 (omega arith) t);
  start = joined (b 6 (omega arith) t) (b 7 (omega arith) t);
  end = joined (b 8 (omega arith) t) (b 9 (omega arith) t);
  moment = joined (b 10 (omega arith) t) (b 11 (omega arith) t);
}
  where
    b : (j : ℕ) → j < 12 → byte_at read j ≡ byte_at (drop (5 + 12 * i) bytes) j
    b j u = h j u ∙ sym (get_or-drop (5 + 12 * i) bytes j 0)
