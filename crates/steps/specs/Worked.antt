-- The table at its edges, computed: the places where document 01 says that errors tempt.
use Rattle.std.specs.Prelude.{ℕ, List, [], ◌∷◌, map, Some, None, ◌≡◌, refl}
use Rattle.steps.specs.{Step.leaves, Step.resets, Step.row_of, Step.in_sixteen, Step.loaded_slot, Step.Stepped}
use Rattle.steps.specs.Packed.{packed, top_of, tag_of, next_age, unpacked}
use Rattle.steps.specs.declared.Next.TheVariants.{Going, Node, Nil, Lost, Full}
use Rattle.word.specs.{Worked.word, declared.Word.Word, declared.Stage.Stage}
use Rattle.word.specs.declared.Stage.TheVariants.{P1, P2, P3, T2, T3, T4, B3, B4, B5, B6, B7}

-- the row of a stage at W, on a word, with four slots: what is found, and what is due
abbrev row : ℕ → Word → Stage → Stepped → Stepped × Stepped
row W w s due = (row_of W 4 w 0 s, due)

-- bottom b and the age a, of 32 bits
abbrev held : ℕ → ℕ → Word
held b a = unpacked (record { bottom = b; age = record { word = a } })

abbrev rows : List (Stepped × Stepped)
rows =
    -- FULL at b = C and not one place early
    row 8 (word 4 0 0) (P1 7) (leaves (word 4 0 0) Full) ∷ row 8 (word 3 0 0) (P1 7) (leaves (word 3 0 0) (Going (P2 7 3))) ∷
    -- NIL at T2 where b ≤ t, which is not NIL at T4 (C-15)
    row 8 (word 1 1 0) (T2 1 0) (leaves (word 1 1 0) Nil) ∷ row 8 (word 2 1 0) (T2 1 0) (leaves (word 2 1 0) (Going (T3 1 0 2))) ∷
    -- T4 compares top and tag; where one is another the race was lost
    row 8 (word 1 0 5) (T4 0 5 1 7) (leaves (word 1 1 5) (Node 7)) ∷ row 8 (word 1 0 6) (T4 0 5 1 7) (leaves (word 1 0 6) Lost) ∷
    row 8 (word 1 1 5) (T4 0 5 1 7) (leaves (word 1 1 5) Lost) ∷
    -- the owner gets no node at B4 where b−1 = t
    row 8 (word 1 0 0) (B4 2 7) (leaves (word 1 0 0) (Node 7)) ∷ row 8 (word 0 0 0) (B4 1 7) (leaves (word 0 0 0) (Going (B5 1 7 0 0))) ∷
    -- B7 gives the age top 0 and the next tag; with no tag B6 finds (0, 0) and writes (0, 0): it has changed the age, and returns its node
    row 2 (word 0 1 2) (B7 1 7 0 2) (resets 2 (word 0 1 2) 2 Nil) ∷ row 0 (word 0 0 0) (B6 1 7 0 0) (resets 0 (word 0 0 0) 0 (Node 7)) ∷
    -- T4 compares the whole word and stores the whole word: a tag of 257 is not 1, though the lower halves agree
    row 16 (held 1 65536) (T4 0 1 1 7) (leaves (held 1 65537) (Node 7)) ∷ row 16 (held 1 16842752) (T4 0 1 1 7) (leaves (held 1 16842752) Lost) ∷ []

worked : map (λ r. r.0) rows ≡ map (λ r. r.1) rows
worked = refl

-- words after a reset: of the two above; at tag 65,535; and B7 takes the age that B4 loaded, (1, 65,535), not the one that it finds, (1, 8)
reset : ((resets 2 (word 0 1 2) 2 Nil).word ≡ word 0 0 3) × ((resets 0 (word 0 0 0) 0 (Node 7)).word ≡ word 0 0 0)
    × ((row_of 16 4 (held 0 4294901760) 0 (B6 1 7 0 65535)).word ≡ held 0 0) × ((row_of 16 4 (held 0 524289) 0 (B7 1 7 1 65535)).word ≡ held 0 0)
reset = (refl, refl, refl, refl)

-- T3 loads slot t and B3 slot b−1; P2 loads none, and stores
loads : map loaded_slot (T3 2 0 3 ∷ B3 3 ∷ P2 7 3 ∷ []) ≡ Some 2 ∷ Some 2 ∷ None ∷ []
loads = refl

-- the age in one word: tag 257 and top 1 are 257 × 65,536 + 1; the age after tag 65,535 is the word 0, and with no tag it is always 0
ages : (packed 1 257 ≡ 16842753) × (top_of 16842753 ≡ 1) × (tag_of 16842753 ≡ 257)
    × (next_age 16 (packed 1 65535) ≡ 0) × (next_age 0 (packed 1 0) ≡ 0) × (next_age 16 (packed 3 7) ≡ 524288)
ages = (refl, refl, refl, refl, refl, refl)

-- out of range a bottom, a top or a tag goes round; in range nothing does
goes_round : map (λ (o : Stepped). (in_sixteen o).word) (row_of 8 4 (word 0 0 0) 0 (P3 65535) ∷ row_of 8 4 (word 0 65535 0) 0 (T4 65535 0 1 7)
    ∷ row_of 17 4 (word 0 1 0) 0 (B7 1 7 0 65535) ∷ row_of 8 4 (word 3 0 0) 0 (P3 3) ∷ []) ≡ word 0 0 0 ∷ word 0 0 0 ∷ word 0 0 0 ∷ word 4 0 0 ∷ []
goes_round = refl
