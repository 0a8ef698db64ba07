-- Files, each with its number: K9 to K12; for each number a file that gives it and a neighbour that does not; and files with two faults.
use Rattle.std.specs.Prelude.{ℕ, suc, List, [], ◌∷◌, ◌++◌, map, take, drop, replicate, ◌≡◌, refl}
use Rattle.base.specs.Lists.{list_of}
use Rattle.runfile.specs.{declared.Call.TheVariants.Push, declared.Call.TheVariants.Pop, declared.Call.TheVariants.Take, Encode.calls_bytes}
use Rattle.runfile.specs.Refusals.{number_in}
use Rattle.runfile.specs.File.{good, file_of, reading_of, later_sections, length_at, calls_before, call_at, step_place, wrong_at}

-- one process, no call, no schedule
abbrev boxed : ℕ → ℕ → List ℕ
boxed width size = 2 ∷ width ∷ size ∷ 1 ∷ 0 ∷ 0 ∷ 0 ∷ 0 ∷ 0 ∷ []

-- P processes, no call, no schedule
abbrev no_calls : ℕ → List ℕ
no_calls P = 2 ∷ 8 ∷ 4 ∷ P ∷ (replicate P 0 ++ (0 ∷ 0 ∷ 0 ∷ 0 ∷ []))

-- one process, no call, a schedule with the two bytes of its length
abbrev scheduled : ℕ → ℕ → List ℕ → List ℕ
scheduled high low steps = 2 ∷ 8 ∷ 4 ∷ 1 ∷ 0 ∷ 0 ∷ 0 ∷ high ∷ low ∷ steps

-- one process, n calls in bytes, no schedule
abbrev scripted : ℕ → List ℕ → List ℕ
scripted n calls = 2 ∷ 8 ∷ 4 ∷ 1 ∷ n ∷ 0 ∷ n ∷ (calls ++ (0 ∷ 0 ∷ []))

abbrev calling : ℕ → ℕ → ℕ → List ℕ
calling code high low = scripted 1 (code ∷ high ∷ low ∷ [])

-- two processes, a call of each with a code and an argument, no schedule
abbrev twice : ℕ → ℕ → ℕ → ℕ → List ℕ
twice code x code' y = 2 ∷ 8 ∷ 4 ∷ 2 ∷ 1 ∷ 1 ∷ 0 ∷ 2 ∷ code ∷ 0 ∷ x ∷ code' ∷ 0 ∷ y ∷ 0 ∷ 0 ∷ []

abbrev push_bytes : List ℕ → List ℕ
push_bytes nodes = calls_bytes (map Push nodes)

-- each number with its file
abbrev cases : List (ℕ × List ℕ)
cases =
    (0, scheduled 16 0 (replicate 4096 0)) ∷ (6, scheduled 16 1 (replicate 4097 0)) ∷  -- K9: a schedule of 4,096 steps, and of 4,097
    (1, []) ∷  -- K10: the empty file
    -- K11: W from 0 to 16, C from 1 to 64
    (0, boxed 0 4) ∷ (0, boxed 1 4) ∷ (0, boxed 16 4) ∷ (2, boxed 17 4) ∷ (2, boxed 8 0) ∷ (0, boxed 8 1) ∷ (0, boxed 8 64) ∷ (2, boxed 8 65) ∷
    -- K12: a script of 33 calls, and of 32
    (3, scripted 33 (calls_bytes (replicate 33 Pop))) ∷ (0, scripted 32 (calls_bytes (replicate 32 Pop))) ∷
    (1, take 8 (boxed 8 4)) ∷ (0, boxed 8 4) ∷  -- 1: a byte short, and whole
    -- 2: section 1's count; a count is looked at before what follows it is missed, and that before it is wrong
    (2, 3 ∷ drop 1 (boxed 8 4)) ∷ (2, 3 ∷ []) ∷ (1, 2 ∷ []) ∷ (1, 2 ∷ 17 ∷ []) ∷
    (3, no_calls 0) ∷ (0, no_calls 8) ∷ (3, no_calls 9) ∷  -- 3: P from 1 to 8
    (4, 2 ∷ 8 ∷ 4 ∷ 1 ∷ 0 ∷ 0 ∷ 1 ∷ 2 ∷ 0 ∷ 0 ∷ 0 ∷ 0 ∷ []) ∷  -- 4: more calls than the lengths say
    -- 4: the codes, and the arguments of codes 2 and 3
    (4, calling 0 0 0) ∷ (4, calling 4 0 0) ∷ (0, calling 2 0 0) ∷ (4, calling 2 0 1) ∷ (4, calling 2 1 0) ∷
    (0, calling 3 0 0) ∷ (4, calling 3 0 1) ∷ (4, calling 3 1 0) ∷
    (5, calling 1 0 0) ∷ (0, calling 1 0 1) ∷ (0, calling 1 1 0) ∷ (0, calling 1 255 255) ∷  -- 5: node 0, and a node of each byte
    -- 5: a node that another process pushed; the first call that is wrong decides
    (5, twice 1 7 1 7) ∷ (0, twice 1 7 1 8) ∷ (0, twice 1 7 3 1) ∷ (5, twice 1 0 9 0) ∷ (4, twice 9 0 1 0) ∷
    -- 5: nodes whose marks share a byte, or a bit in two bytes; and the last node twice
    (0, scripted 2 (push_bytes (8 ∷ 9 ∷ []))) ∷ (0, scripted 2 (push_bytes (7 ∷ 15 ∷ []))) ∷
    (0, scripted 2 (push_bytes (255 ∷ 511 ∷ []))) ∷ (0, scripted 2 (push_bytes (32767 ∷ 65535 ∷ []))) ∷ (5, scripted 2 (push_bytes (65535 ∷ 65535 ∷ []))) ∷
    -- 5: a wrong code before the repeat, and after it
    (4, scripted 3 (push_bytes (7 ∷ []) ++ (4 ∷ 0 ∷ 0 ∷ push_bytes (7 ∷ [])))) ∷ (5, scripted 3 (push_bytes (7 ∷ 7 ∷ []) ++ (4 ∷ 0 ∷ 0 ∷ []))) ∷
    -- 6: a process not below P; a length that is wrong, and steps that are missing
    (6, scheduled 0 1 (1 ∷ [])) ∷ (0, scheduled 0 1 (0 ∷ [])) ∷ (6, scheduled 16 1 []) ∷ (1, scheduled 16 0 []) ∷
    (7, scheduled 0 0 (0 ∷ [])) ∷ (0, scheduled 0 0 []) ∷  -- 7: a byte after section 4
    -- Two faults each: the earlier in the order of the sections decides, and in a section the earlier of its tests.
    -- P is 9, and the call count is 1 where the lengths say none
    (3, 2 ∷ 8 ∷ 4 ∷ 9 ∷ (replicate 9 0 ++ (0 ∷ 1 ∷ 0 ∷ 0 ∷ []))) ∷
    (1, 2 ∷ 8 ∷ 4 ∷ 2 ∷ 33 ∷ []) ∷  -- a script length of 33, and the second length missing
    -- a script of 33 calls, and a call of code 4; and a call count of 1
    (3, scripted 33 (4 ∷ 0 ∷ 0 ∷ calls_bytes (replicate 32 Pop))) ∷ (3, 2 ∷ 8 ∷ 4 ∷ 1 ∷ 33 ∷ 0 ∷ 1 ∷ 2 ∷ 0 ∷ 0 ∷ 0 ∷ 0 ∷ []) ∷
    (4, 2 ∷ 8 ∷ 4 ∷ 1 ∷ 1 ∷ 0 ∷ 2 ∷ 2 ∷ 0 ∷ 0 ∷ []) ∷  -- a call count of 2 for a length of 1, and the second call missing
    -- a call of code 4, and the second call missing; and the schedule's length missing
    (1, 2 ∷ 8 ∷ 4 ∷ 1 ∷ 2 ∷ 0 ∷ 2 ∷ 4 ∷ 0 ∷ 0 ∷ []) ∷ (4, 2 ∷ 8 ∷ 4 ∷ 1 ∷ 1 ∷ 0 ∷ 1 ∷ 4 ∷ 0 ∷ 0 ∷ []) ∷
    (5, 2 ∷ 8 ∷ 4 ∷ 1 ∷ 1 ∷ 0 ∷ 1 ∷ 1 ∷ 0 ∷ 0 ∷ 16 ∷ 1 ∷ []) ∷  -- a call of node 0, and a schedule of 4,097 steps
    -- a step of process 1 of 1, and a step missing; and a byte after section 4
    (1, scheduled 0 2 (1 ∷ [])) ∷ (6, scheduled 0 1 (1 ∷ 0 ∷ [])) ∷ []

-- computed on the definition that `read` is proved to follow
worked : map (λ c. number_in (reading_of (file_of c.1))) cases ≡ map (λ c. c.0) cases
unfolding file_of
worked = refl

-- Eight processes, 256 pushes, no schedule: the number of the last call, where it repeats the first and where it does not; the tests run such files.
abbrev pushing : List ℕ → List ℕ
pushing nodes = 2 ∷ 8 ∷ 4 ∷ 8 ∷ (replicate 8 32 ++ (1 ∷ 0 ∷ (push_bytes nodes ++ (0 ∷ 0 ∷ []))))

last_push : (wrong_at (pushing (list_of 255 suc ++ (1 ∷ []))) 8 255 ≡ 5) × (wrong_at (pushing (list_of 256 suc)) 8 255 ≡ 0)
last_push = (refl, refl)

-- K1's file, a line a section, and what it says
abbrev pub k1 : List ℕ
k1 =
    2 ∷ 8 ∷ 4 ∷
    2 ∷ 2 ∷ 1 ∷
    0 ∷ 3 ∷ 1 ∷ 0 ∷ 7 ∷ 2 ∷ 0 ∷ 0 ∷ 3 ∷ 0 ∷ 0 ∷
    0 ∷ 9 ∷ 0 ∷ 0 ∷ 0 ∷ 1 ∷ 1 ∷ 1 ∷ 0 ∷ 0 ∷ 1 ∷
    []

pub k1_says : file_of k1 ≡ good (record {
  width = 8;
  size = 4;
  shares = 2 ∷ 1 ∷ [];
  calls = Push 7 ∷ Pop ∷ Take 0 ∷ [];
  schedule = 0 ∷ 0 ∷ 0 ∷ 1 ∷ 1 ∷ 1 ∷ 0 ∷ 0 ∷ 1 ∷ [];
})
unfolding file_of
k1_says = refl

-- what the accessors give of it, and past its end
accessed : (length_at k1 0 ≡ 2) × (length_at k1 1 ≡ 1) × (calls_before k1 0 ≡ 0) × (calls_before k1 1 ≡ 2)
    × (call_at k1 2 0 ≡ Push 7) × (call_at k1 2 1 ≡ Pop) × (call_at k1 2 2 ≡ Take 0) × (call_at k1 2 99 ≡ Pop)
    × (step_place 2 3 0 ≡ 19) × (step_place 2 3 9 ≡ 28)
accessed = (refl, refl, refl, refl, refl, refl, refl, refl, refl, refl)

-- K1 with a section 1 of four bytes, and without the first of them: sections 2 to 4 and the accessors find what they find in K1.
abbrev longer : List ℕ
longer = 3 ∷ 8 ∷ 4 ∷ 1 ∷ drop 3 k1

found : (later_sections (drop 1 longer) ≡ 0) × (length_at (drop 1 longer) 0 ≡ 2) × (calls_before (drop 1 longer) 1 ≡ 2)
    × (call_at (drop 1 longer) 2 0 ≡ Push 7) × (later_sections (drop 1 longer ++ (0 ∷ [])) ≡ 7)
found = (refl, refl, refl, refl, refl)
