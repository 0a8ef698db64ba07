-- The tag at its edges, and where stages stand, computed.
use Rattle.std.specs.Prelude.{ℕ, true, false, [], ◌∷◌, map, ◌≡◌, refl}
use Rattle.word.specs.{Tag.next_tag, Tag.is_tag, declared.Word.Word}
use Rattle.word.specs.Stages.{row_number, first_loaded, is_idle, at_t1, at_b2, past_b2, pops_slot}
use Rattle.word.specs.declared.Stage.TheVariants.{Idle, T1, T2, T3, B2, B3, B7}

-- a control word: bottom, top, tag
abbrev pub word : ℕ → ℕ → ℕ → Word
word b t g = record { bottom = b; top = t; tag = g }

-- the tag goes round; with no bits it is 0, and so is its next value
round : (next_tag 2 3 ≡ 0) × (map (next_tag 16) (65534 ∷ 65535 ∷ []) ≡ 65535 ∷ 0 ∷ []) × (next_tag 0 0 ≡ 0)
    × (map (is_tag 1) (1 ∷ 2 ∷ []) ≡ true ∷ false ∷ []) × (map (is_tag 0) (0 ∷ 1 ∷ []) ≡ true ∷ false ∷ [])
round = (refl, refl, refl, refl, refl)

-- where stages stand, with a stage beside each that stands elsewhere
stands : (map row_number (Idle ∷ B7 1 7 0 0 ∷ []) ≡ 0 ∷ 14 ∷ []) × (map first_loaded (T3 2 0 3 ∷ T1 ∷ []) ≡ 2 ∷ 0 ∷ [])
    × (map is_idle (Idle ∷ T1 ∷ []) ≡ true ∷ false ∷ []) × (map at_t1 (T1 ∷ T2 0 0 ∷ []) ≡ true ∷ false ∷ [])
    × (map at_b2 (B2 1 ∷ B3 1 ∷ []) ≡ true ∷ false ∷ []) × (map past_b2 (B3 1 ∷ B2 1 ∷ []) ≡ true ∷ false ∷ [])
    × (map (pops_slot (B3 2)) (1 ∷ 2 ∷ []) ≡ true ∷ false ∷ []) × (pops_slot (B2 2) 1 ≡ false)
stands = (refl, refl, refl, refl, refl, refl, refl, refl)
