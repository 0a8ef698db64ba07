-- Steps at the desk, computed: K1 by hand, K4's tag that goes round and K5's that does not, tags of 16 bits, and each refusal of document 01's list.
use Rattle.std.specs.Prelude.{ℕ, List, [], ◌∷◌, map, replicate, Ok, Err, ◌≡◌, refl}
use Rattle.desk.specs.Desk.{Answer, number_of, stage_of, result_of, desk_answer, desk_word, desk_slots}
use Rattle.steps.specs.{declared.Next.Next, declared.Next.TheVariants.Going, declared.Next.TheVariants.Done, declared.Next.TheVariants.Node}
use Rattle.steps.specs.declared.Next.TheVariants.{Nil, Lost, Full}
use Rattle.word.specs.{Worked.word, declared.Word.Word, declared.Stage.Stage}
use Rattle.word.specs.declared.Stage.TheVariants.{Idle, P1, P2, P3, T1, T2, T3, T4, B1, B2, B3, B4, B5, B6, B7}

-- an answer of the desk, with the word and the slots that it leaves
abbrev After : Type 0
After = Answer × Word × List ℕ

-- the desk at W and C, lent a word, slots and a stage: what is found, and what is due
abbrev gives : ℕ → ℕ → Word → List ℕ → Stage → After → After × After
gives W C w slots s due = ((desk_answer W C w slots s, desk_word W C w slots s, desk_slots W C w slots s), due)

-- it steps, and leaves a word and slots; it steps and alters nothing; and it refuses, and alters nothing
abbrev step : ℕ → ℕ → Word → List ℕ → Stage → Next → Word → List ℕ → After × After
step W C w slots s next w' slots' = gives W C w slots s (Ok next, w', slots')

abbrev keeps : ℕ → ℕ → Word → List ℕ → Stage → Next → After × After
keeps W C w slots s next = step W C w slots s next w slots

abbrev refused : ℕ → ℕ → Word → List ℕ → Stage → After × After
refused W C w slots s = gives W C w slots s (Err s, w, slots)

-- four slots with a node in slot 0
abbrev slots : ℕ → List ℕ
slots node = node ∷ 0 ∷ 0 ∷ 0 ∷ []

abbrev cases : List (After × After)
cases =
    -- K1: its push, on a fresh word,
    keeps 8 4 (word 0 0 0) (slots 0) (P1 7) (Going (P2 7 0)) ∷ step 8 4 (word 0 0 0) (slots 0) (P2 7 0) (Going (P3 0)) (word 0 0 0) (slots 7) ∷
    step 8 4 (word 0 0 0) (slots 7) (P3 0) Done (word 1 0 0) (slots 7) ∷
    -- the other process's T1 to T3,
    keeps 8 4 (word 1 0 0) (slots 7) T1 (Going (T2 0 0)) ∷ keeps 8 4 (word 1 0 0) (slots 7) (T2 0 0) (Going (T3 0 0 1)) ∷
    keeps 8 4 (word 1 0 0) (slots 7) (T3 0 0 1) (Going (T4 0 0 1 7)) ∷
    -- the owner's B1 and B2, and the T4 that takes the node past them,
    keeps 8 4 (word 1 0 0) (slots 7) B1 (Going (B2 1)) ∷ step 8 4 (word 1 0 0) (slots 7) (B2 1) (Going (B3 1)) (word 0 0 0) (slots 7) ∷
    step 8 4 (word 0 0 0) (slots 7) (T4 0 0 1 7) (Node 7) (word 0 1 0) (slots 7) ∷
    -- and the closing: the owner goes on to B7, and has NIL
    keeps 8 4 (word 0 1 0) (slots 7) (B3 1) (Going (B4 1 7)) ∷ keeps 8 4 (word 0 1 0) (slots 7) (B4 1 7) (Going (B5 1 7 1 0)) ∷
    keeps 8 4 (word 0 1 0) (slots 7) (B5 1 7 1 0) (Going (B7 1 7 1 0)) ∷ step 8 4 (word 0 1 0) (slots 7) (B7 1 7 1 0) Nil (word 0 0 1) (slots 7) ∷
    -- K4: at W = 1 two resets bring the tag back, and a T4 from before them gets its node, though slot 0 has another
    step 1 4 (word 0 0 0) (slots 1) (B6 1 1 0 0) (Node 1) (word 0 0 1) (slots 1) ∷
    step 1 4 (word 0 0 1) (slots 2) (B6 1 2 0 1) (Node 2) (word 0 0 0) (slots 2) ∷
    step 1 4 (word 1 0 0) (slots 3) (T4 0 0 1 1) (Node 1) (word 1 1 0) (slots 3) ∷
    -- K5: at W = 2 the tag is then 2, and the T4 has lost the race
    step 2 4 (word 0 0 1) (slots 2) (B6 1 2 0 1) (Node 2) (word 0 0 2) (slots 2) ∷ keeps 2 4 (word 1 0 2) (slots 3) (T4 0 0 1 1) Lost ∷
    -- K4 with no tag: each B6 finds (0, 0) and leaves (0, 0), and the T4 gets its node as at W = 1
    keeps 0 4 (word 0 0 0) (slots 1) (B6 1 1 0 0) (Node 1) ∷ keeps 0 4 (word 0 0 0) (slots 2) (B6 1 2 0 0) (Node 2) ∷
    step 0 4 (word 1 0 0) (slots 3) (T4 0 0 1 1) (Node 1) (word 1 1 0) (slots 3) ∷
    -- K2: the owner has the last node, and the T4 has lost the race; a T2 that finds nothing has NIL
    keeps 8 4 (word 0 0 1) (slots 7) (T4 0 0 1 7) Lost ∷ keeps 8 4 (word 0 0 1) (slots 7) (T2 0 1) Nil ∷
    -- K6: FULL at C = 1; a node of any 16-bit value; an idle stage
    keeps 8 1 (word 1 0 0) (5 ∷ []) (P1 6) Full ∷ step 16 1 (word 0 0 65535) (5 ∷ []) (P2 0 0) (Going (P3 0)) (word 0 0 65535) (0 ∷ []) ∷
    step 16 1 (word 0 0 65535) (5 ∷ []) (P2 65535 0) (Going (P3 0)) (word 0 0 65535) (65535 ∷ []) ∷
    keeps 8 4 (word 1 0 0) (slots 7) Idle (Going Idle) ∷
    -- bottom, top, b and tag as high as they may be, with a tag of eight bits and with none
    keeps 8 4 (word 4 4 255) (slots 0) (T4 3 255 4 7) Lost ∷ keeps 0 4 (word 4 4 0) (slots 0) (T4 3 0 4 7) Lost ∷
    -- W = 16: the tag after 65,535 is 0, at B6 and at B7, which looks at B4's age and not at the word; a tag of 257 is not 1
    step 16 4 (word 0 0 65535) (slots 7) (B6 1 7 0 65535) (Node 7) (word 0 0 0) (slots 7) ∷
    step 16 4 (word 0 1 65535) (slots 7) (B7 1 7 1 65535) Nil (word 0 0 0) (slots 7) ∷
    step 16 4 (word 0 1 8) (slots 7) (B7 1 7 1 65535) Nil (word 0 0 0) (slots 7) ∷ keeps 16 4 (word 1 0 257) (slots 7) (T4 0 1 1 7) Lost ∷
    step 16 4 (word 1 0 257) (slots 7) (T4 0 257 1 7) (Node 7) (word 1 1 257) (slots 7) ∷
    -- W not 0 to 16, C not 1 to 64, the slots not C in number
    refused 17 4 (word 0 0 0) (slots 0) B1 ∷ refused 8 0 (word 0 0 0) [] B1 ∷ refused 8 65 (word 0 0 0) (replicate 65 0) B1 ∷
    refused 8 3 (word 0 0 0) (slots 0) B1 ∷ refused 8 5 (word 0 0 0) (slots 0) B1 ∷
    -- a bottom or top of the word above C, its tag not below 2^W; so also where the stage is idle; with no tag, a loaded one that is not 0
    refused 8 4 (word 5 0 0) (slots 0) B1 ∷ refused 8 4 (word 0 5 0) (slots 0) B1 ∷ refused 8 4 (word 0 0 256) (slots 0) B1 ∷
    refused 0 4 (word 0 0 1) (slots 0) B1 ∷ refused 8 4 (word 5 0 0) (slots 0) Idle ∷ refused 0 4 (word 0 0 0) (slots 0) (T2 0 1) ∷
    map (refused 8 4 (word 0 0 0) (slots 0)) (
    -- a loaded b or t above C, a loaded tag not below 2^W
    P2 7 5 ∷ T3 0 0 5 ∷ B2 5 ∷ T2 5 0 ∷ B5 1 7 5 0 ∷ T2 0 256 ∷ T4 0 256 1 7 ∷ B7 1 7 0 256 ∷
    -- b at P2 or P3 equal to C, t at T3 or T4 equal to C, b at B2 to B7 equal to 0
    P2 7 4 ∷ P3 4 ∷ T3 4 0 4 ∷ T4 4 0 4 7 ∷ B2 0 ∷ B3 0 ∷ B4 0 7 ∷ B5 0 7 0 0 ∷ B6 0 7 0 0 ∷ B7 0 7 0 0 ∷ [])

worked : map (λ c. c.0) cases ≡ map (λ c. c.1) cases
worked = refl

-- the paper's numbers and values for an answer of each kind
numbered : (map number_of (Ok (Node 7) ∷ Err T1 ∷ []) ≡ 0 ∷ 10 ∷ [])
    × (map stage_of (Ok (Going (P3 0)) ∷ Ok (Node 7) ∷ Err (B2 0) ∷ []) ≡ P3 0 ∷ Idle ∷ B2 0 ∷ [])
    × (map (λ (n : Next). result_of (Ok n)) (Node 7 ∷ Nil ∷ Lost ∷ Full ∷ Done ∷ []) ≡ (1 ∷ 7 ∷ []) ∷ (0 ∷ 0 ∷ []) ∷ (3 ∷ 0 ∷ []) ∷ (2 ∷ []) ∷ (1 ∷ []) ∷ [])
numbered = (refl, refl, refl)
