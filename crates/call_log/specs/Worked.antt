-- The log's numbers, and the bytes of K1's last entry, computed.
use Rattle.std.specs.Prelude.{ℕ, true, false, List, [], ◌∷◌, map, ◌≡◌, refl}
use Rattle.call_log.specs.Decode.{first_entry, entry_at, no_entry, log_length}
use Rattle.call_log.specs.{Encode.head_bytes, Encode.entry_bytes, declared.Entry.Entry}
use Rattle.call_log.specs.Numbers.{kind_of, result_of, bears_moment, what_of, same, is_top_nil}
use Rattle.call_log.specs.declared.What.TheVariants.{Pushed, Full, BottomNil, TopNode, TopNil, TopLost}

numbered : (map kind_of (Full ∷ BottomNil ∷ TopNode ∷ []) ≡ 1 ∷ 2 ∷ 3 ∷ []) × (map result_of (TopNil ∷ Pushed ∷ Full ∷ []) ≡ 0 ∷ 1 ∷ 2 ∷ [])
    × (map bears_moment (BottomNil ∷ TopNil ∷ []) ≡ true ∷ false ∷ []) × (what_of 1 2 ≡ Full) × (what_of 3 0 ≡ TopNil)
    × (map (same TopNil) (TopNil ∷ BottomNil ∷ []) ≡ true ∷ false ∷ [])
    -- C-15: NIL at T4 is 3, of a top pop only; both have no moment, and both are a top pop with NIL
    × (kind_of TopLost ≡ 3) × (result_of TopLost ≡ 3) × (bears_moment TopLost ≡ false) × (what_of 3 3 ≡ TopLost) × (what_of 2 3 ≡ BottomNil)
    × (same TopNil TopLost ≡ false) × (is_top_nil TopLost ≡ true) × (is_top_nil TopNil ≡ true) × (is_top_nil TopNode ≡ false) × (is_top_nil BottomNil ≡ false)
numbered = (refl, refl, refl, refl, refl, refl, refl, refl, refl, refl, refl, refl, refl, refl, refl, refl)

-- an entry as the program prints it
abbrev pub line : ℕ → ℕ → ℕ → ℕ → ℕ → ℕ → ℕ → ℕ → Entry
line process queue kind result node start end moment =
    record { process = process; queue = queue; kind = kind; result = result; node = node; start = start; end = end; moment = moment }

abbrev last : Entry
last = line 0 0 2 0 0 6 12 15

abbrev last_bytes : List ℕ
last_bytes = 0 ∷ 0 ∷ 2 ∷ 0 ∷ 0 ∷ 0 ∷ 0 ∷ 6 ∷ 0 ∷ 12 ∷ 0 ∷ 15 ∷ []

-- its bytes, and back; entry 0 after the head, no entry past the end; a log's length, and the longest
placed : (entry_bytes last ≡ last_bytes) × (first_entry last_bytes ≡ last) × (head_bytes 2 4 3 ≡ 2 ∷ 2 ∷ 4 ∷ 0 ∷ 3 ∷ [])
    × (entry_at (2 ∷ 1 ∷ 4 ∷ 0 ∷ 1 ∷ last_bytes) 0 ≡ last) × (entry_at (2 ∷ 1 ∷ 4 ∷ 0 ∷ 1 ∷ last_bytes) 1 ≡ no_entry)
    × (log_length 3 ≡ 41) × (log_length 256 ≡ 3077)
unfolding entry_at
placed = (refl, refl, refl, refl, refl, refl, refl)
