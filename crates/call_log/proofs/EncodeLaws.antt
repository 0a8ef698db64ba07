-- The round trip of a log and its bytes.
use mathlib.Core.Path.{◌≡◌, refl, sym, ap, ◌∙◌}
use mathlib.Core.List.{List, [], ◌∷◌, ◌++◌}
use Prim.Native.Nat.{ℕ, zero, suc, ◌+◌, ◌*◌, ◌/◌, ◌%◌, ◌≤◌, ◌<◌}
use native.Mathlib.Omega.{arith}
use lib.ListN.{length, get_or, take, drop, length-append, length-drop, take-append-drop}
use lib.Seq.{take_all, take-add, drop-nil, drop-drop, drop-append-add, get_or-drop}
use Rattle.base.specs.Bytes.{Byte, Two, byte_at, Bytes, joined, number_at, pair}
use Rattle.base.specs.Lists.{list_of, All}
use Rattle.base.proofs.Bytes.{rejoined, high, low, no_bytes, one_more, both_bytes, pair_bytes}
use Rattle.base.proofs.Lists.{list_of-length, list_of-take, list_of_all}
use Rattle.call_log.specs.declared.Entry.{Entry}
use Rattle.call_log.specs.Decode.{entry_length, log_length, section_count_of, first_entry, entry_at, no_entry, processes_of, slots_of, entry_count_of}
use Rattle.call_log.specs.Encode.{Log, section_count, most_entries, head_bytes, entry_bytes, entries_bytes, log_bytes, EntryFits, InRange}

-- the log that some bytes say, and whether they are whole: they have its length and section 1's count
unfoldable pub decoded : List ℕ → Log
decoded bytes = record { P = processes_of bytes; C = slots_of bytes; entries = list_of (entry_count_of bytes) (entry_at bytes) }

pub record Whole (bytes : List ℕ) : Type 0 where
  pub counted : section_count_of bytes ≡ section_count
  pub sized : length bytes ≡ log_length (entry_count_of bytes)

-- decoding what was encoded
entry_decode_encode : (e : Entry) (rest : List ℕ) → first_entry (entry_bytes e ++ rest) ≡ e
entry_decode_encode e rest = λ i. record {
  process = e.process;
  queue = e.queue;
  kind = e.kind;
  result = e.result;
  node = rejoined e.node i;
  start = rejoined e.start i;
  end = rejoined e.end i;
  moment = rejoined e.moment i;
}

entry_back : (es : List Entry) (i : ℕ) → first_entry (drop (entry_length * i) (entries_bytes es)) ≡ get_or es i no_entry
entry_back [] i = ap first_entry (drop-nil (entry_length * i))
entry_back (e ∷ es) zero = entry_decode_encode e (entries_bytes es)
entry_back (e ∷ es) (suc i) =
    let k : entry_length * suc i ≡ entry_length + entry_length * i = omega arith in
    rw k (ap first_entry (drop-append-add (entry_bytes e) (entries_bytes es) (entry_length * i)) ∙ entry_back es i)

pub entry_decoded : (l : Log) (i : ℕ) → entry_at (log_bytes l) i ≡ get_or l.entries i no_entry
unfolding entry_at log_bytes
entry_decoded l i =
    ap first_entry (drop-append-add (head_bytes l.P l.C (length l.entries)) (entries_bytes l.entries) (entry_length * i))
    ∙ entry_back l.entries i

pub processes_decoded : (l : Log) → processes_of (log_bytes l) ≡ l.P
unfolding log_bytes
processes_decoded l = refl

pub slots_decoded : (l : Log) → slots_of (log_bytes l) ≡ l.C
unfolding log_bytes
slots_decoded l = refl

pub entry_count_decoded : (l : Log) → entry_count_of (log_bytes l) ≡ length l.entries
unfolding log_bytes
entry_count_decoded l = rejoined (length l.entries)

pub decode_encode : (l : Log) → decoded (log_bytes l) ≡ l
unfolding decoded log_bytes
decode_encode l = λ i. record { P = l.P; C = l.C; entries = back i }
  where
    back : list_of (entry_count_of (log_bytes l)) (entry_at (log_bytes l)) ≡ l.entries
    back =
        ap (λ (n : ℕ). list_of n (entry_at (log_bytes l))) (entry_count_decoded l)
        ∙ ap (λ (f : ℕ → Entry). list_of (length l.entries) f) (λ j i. entry_decoded l i j)
        ∙ list_of_all no_entry l.entries

pub length_entries : (es : List Entry) → length (entries_bytes es) ≡ entry_length * length es
length_entries [] = refl
length_entries (e ∷ es) = omega (arith, length-append (entry_bytes e) (entries_bytes es), length_entries es)

pub length_log : (l : Log) → length (log_bytes l) ≡ log_length (length l.entries)
unfolding log_bytes
length_log l = omega (arith, length-append (head_bytes l.P l.C (length l.entries)) (entries_bytes l.entries), length_entries l.entries)

-- encoding what was decoded
module _ (bytes : List ℕ) (ok : Bytes bytes) where
  entry_encode_decode : (at : ℕ) → at + entry_length ≤ length bytes → entry_bytes (first_entry (drop at bytes)) ≡ take entry_length (drop at bytes)
  entry_encode_decode at h = (λ i. b 0 ∷ b 1 ∷ b 2 ∷ b 3 ∷ hi 4 i ∷ lo 4 i ∷ hi 6 i ∷ lo 6 i ∷ hi 8 i ∷ lo 8 i ∷ hi 10 i ∷ lo 10 i ∷ [])
      ∙ list_of-take 0 entry_length (drop at bytes) (simp length-drop (omega arith))
    where
      b : ℕ → ℕ
      b k = byte_at (drop at bytes) k

      fits : (k : ℕ) → b k < 256
      fits k = rw get_or-drop (ok (at + k))

      hi : (k : ℕ) → joined (b k) (b (k + 1)) / 256 ≡ b k
      hi k = high (b k) (b (k + 1)) (fits (k + 1))

      lo : (k : ℕ) → joined (b k) (b (k + 1)) % 256 ≡ b (k + 1)
      lo k = low (b k) (b (k + 1)) (fits (k + 1))

  rows : (n at : ℕ) → at + entry_length * n ≤ length bytes
      → entries_bytes (list_of n (λ i. first_entry (drop (at + entry_length * i) bytes))) ≡ take (entry_length * n) (drop at bytes)
  rows zero at h = refl
  rows (suc n) at h =
      let z : at + entry_length * 0 ≡ at = omega arith in
      let s : entry_length * suc n ≡ entry_length + entry_length * n = omega arith in
      let next : (i : ℕ) → at + entry_length * suc i ≡ at + entry_length + entry_length * i = λ i. omega arith in
      rw (s, z, take-add entry_length (entry_length * n) (drop at bytes), drop-drop entry_length at bytes)
      (ap (λ (l : List ℕ). l ++ entries_bytes (list_of n (λ i. first_entry (drop (at + entry_length * suc i) bytes))))
      (entry_encode_decode at (omega arith))
      ∙ ap (λ (l : List ℕ). take entry_length (drop at bytes) ++ l)
      (ap (λ (f : ℕ → Entry). entries_bytes (list_of n f)) (λ j i. first_entry (drop (next i j) bytes)) ∙ rows n (at + entry_length) (omega arith)))

  pub encode_decode : Whole bytes → log_bytes (decoded bytes) ≡ bytes
  unfolding decoded log_bytes entry_at
  encode_decode w =
      rw (list_of-length (entry_count_of bytes) (λ i. first_entry (drop (log_length i) bytes)), rows (entry_count_of bytes) 5 (omega arith))
      (ap (λ (l : List ℕ). head_bytes (processes_of bytes) (slots_of bytes) (entry_count_of bytes) ++ l)
      (take_all (entry_length * entry_count_of bytes) (drop 5 bytes) (simp length-drop (omega arith)))
      ∙ ap (λ (l : List ℕ). l ++ drop 5 bytes) head ∙ take-append-drop 5 bytes)
    where
      fits : byte_at bytes 4 < 256
      fits = ok 4

      head : head_bytes (processes_of bytes) (slots_of bytes) (entry_count_of bytes) ≡ take 5 bytes
      head =
          let h = byte_at bytes 3 in
          let l = byte_at bytes 4 in
          (λ i. sym w.counted i ∷ byte_at bytes 1 ∷ byte_at bytes 2 ∷ high h l fits i ∷ low h l fits i ∷ [])
          ∙ list_of-take 0 5 bytes (omega arith)

  -- what is read from bytes fits them
  pub entry_fits : (i : ℕ) → EntryFits (entry_at bytes i)
  unfolding entry_at
  entry_fits i = record { bytes = (one 0, one 1, one 2, one 3); pairs = (two 4, two 6, two 8, two 10) }
    where
      one : (k : ℕ) → Byte (byte_at (drop (log_length i) bytes) k)
      one k = rw get_or-drop (ok (log_length i + k))

      two : (k : ℕ) → Two (number_at (drop (log_length i) bytes) k)
      two k = omega (arith, one k, one (k + 1))

  pub in_range_lem : 1 ≤ processes_of bytes → processes_of bytes ≤ 8 → 1 ≤ slots_of bytes → slots_of bytes ≤ 64 → entry_count_of bytes ≤ most_entries
      → InRange (decoded bytes)
  unfolding decoded
  in_range_lem p q c d n = record {
    processes = (p, q);
    slots = (c, d);
    few = omega (arith, list_of-length (entry_count_of bytes) (entry_at bytes));
    fit = fits (entry_count_of bytes) (entry_at bytes) entry_fits;
  }
    where
      fits : (n : ℕ) (f : ℕ → Entry) → ((i : ℕ) → EntryFits (f i)) → All EntryFits (list_of n f)
      fits zero f h = tt
      fits (suc n) f h = (h 0, fits n (λ i. f (suc i)) (λ i. h (suc i)))

-- the bytes of a log in range are bytes
entry_bytes_lem : (e : Entry) → EntryFits e → Bytes (entry_bytes e)
entry_bytes_lem e h =
    let d = pair e.end ++ pair e.moment in
    let c = pair e.start ++ d in
    let b = pair e.node ++ c in
    let ended = both_bytes (pair e.end) (pair e.moment) (pair_bytes e.end h.pairs.2) (pair_bytes e.moment h.pairs.3) in
    let started = both_bytes (pair e.start) d (pair_bytes e.start h.pairs.1) ended in
    let named = both_bytes (pair e.node) c (pair_bytes e.node h.pairs.0) started in
    one_more e.process (e.queue ∷ e.kind ∷ e.result ∷ b) h.bytes.0
    (one_more e.queue (e.kind ∷ e.result ∷ b) h.bytes.1
    (one_more e.kind (e.result ∷ b) h.bytes.2 (one_more e.result b h.bytes.3 named)))

entries_bytes_lem : (es : List Entry) → All EntryFits es → Bytes (entries_bytes es)
entries_bytes_lem [] a = no_bytes
entries_bytes_lem (e ∷ es) a = both_bytes (entry_bytes e) (entries_bytes es) (entry_bytes_lem e a.0) (entries_bytes_lem es a.1)

pub bytes_encoded : (l : Log) → InRange l → Bytes (log_bytes l)
unfolding log_bytes
bytes_encoded l h =
    let n = length l.entries in
    both_bytes (head_bytes l.P l.C n) (entries_bytes l.entries)
    (one_more 2 (l.P ∷ l.C ∷ pair n) (omega arith)
    (one_more l.P (l.C ∷ pair n) (omega (arith, h.processes.1))
    (one_more l.C (pair n) (omega (arith, h.slots.1)) (pair_bytes n (omega (arith, h.few))))))
    (entries_bytes_lem l.entries h.fit)

pub whole_encoded : (l : Log) → Whole (log_bytes l)
unfolding log_bytes
whole_encoded l = record { counted = refl; sized = omega (arith, length_log l, entry_count_decoded l) }
