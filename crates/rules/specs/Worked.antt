-- Worked logs: bytes, and the number and entry that document 01 gives for them. Each refusal stands beside a neighbour that is accepted.
use Rattle.std.specs.Prelude.{ℕ, List, [], ◌∷◌, ◌++◌, map, take, replicate, ◌≡◌, refl}
use Rattle.call_log.specs.{declared.Entry.Entry, declared.What.What, Decode.entry_count_of, Decode.entry_at, Encode.head_bytes, Encode.log_bytes, Worked.line}
use Rattle.call_log.specs.declared.What.TheVariants.{Pushed, Full, BottomNode, BottomNil, TopNode, TopNil, TopLost}
use Rattle.call_log.specs.Numbers.{push, bottom_pop, top_pop, nil, full, lost, no_moment, kind_of, result_of}
use Rattle.rules.specs.{Judge.Verdict, Contents.before, Judge.says, Judge.judge_of}
use Rattle.rules.specs.Left.{after_all, nodes_by, times_pushed, left_of}

-- process, queue, what happened, node, start, end, moment
abbrev call : ℕ → ℕ → What → ℕ → ℕ → ℕ → ℕ → Entry
call p q w v s e m = line p q (kind_of w) (result_of w) v s e m

abbrev bytes_of : ℕ → ℕ → List Entry → List ℕ
bytes_of P C es = log_bytes (record { P = P; C = C; entries = es })

abbrev of : List ℕ → ℕ → ℕ → List ℕ × Verdict
of bytes number entry = (bytes, says number entry)

abbrev gives : ℕ → ℕ → ℕ → ℕ → List Entry → List ℕ × Verdict
gives number entry P C es = of (bytes_of P C es) number entry

abbrev accepted : ℕ → ℕ → List Entry → List ℕ × Verdict
accepted = gives 0 0

-- logs of one entry each, of two processes and four slots, that get the same number
abbrev alone : ℕ → List Entry → List (List ℕ × Verdict)
alone number = map (λ (e : Entry). gives number 0 2 4 (e ∷ []))

-- process 0's push of 7, and two pushes, with calls that end after them in this order
abbrev after : List Entry → List Entry
after es = call 0 0 Pushed 7 0 2 4 ∷ es

abbrev after_two : List Entry → List Entry
after_two es = call 0 0 Pushed 5 0 2 4 ∷ call 0 0 Pushed 6 3 5 10 ∷ es

-- a NIL bottom pop of process p, a NIL top pop of queue 0 at T2, and a FULL that keeps v: start, end, moment
abbrev empty : ℕ → ℕ → ℕ → ℕ → Entry
empty p s e m = call p p BottomNil 0 s e m

abbrev none : ℕ → ℕ → ℕ → Entry
none p s e = call p 0 TopNil 0 s e no_moment

abbrev no_room : ℕ → ℕ → Entry
no_room v s = call 0 0 Full v s s no_moment

-- document 01's worked runs, as logs; a NIL top pop of K2 and K3 is given
abbrev k1 : List Entry
k1 = after (call 1 0 TopNode 7 3 8 14 ∷ empty 0 6 12 15 ∷ [])

abbrev k2 : What → List Entry
k2 nothing = after (call 0 0 BottomNode 7 6 11 14 ∷ call 1 0 nothing 0 3 12 no_moment ∷ [])

abbrev k3 : What → List Entry
k3 nothing = after_two (call 2 0 TopNode 5 9 12 24 ∷ call 1 0 nothing 0 6 13 no_moment ∷ [])

abbrev k4 : Entry → List Entry
k4 last =
    call 0 0 Pushed 1 0 2 4 ∷ call 0 0 BottomNode 1 6 11 14 ∷ call 0 0 Pushed 2 12 14 28 ∷ call 0 0 BottomNode 2 15 20 32 ∷ call 0 0 Pushed 3 21 23 46
    ∷ last ∷ []

-- the box of C-12: a node pushed and popped again, then calls that end in this order
abbrev emptied : List Entry → List Entry
emptied es = after (call 0 0 BottomNode 7 3 8 8 ∷ es)

-- a log of one entry, a bottom pop with NIL at step 0
abbrev one : List ℕ
one = head_bytes 1 4 1 ++ (0 ∷ 0 ∷ 2 ∷ replicate 9 0)

abbrev worked : List (List ℕ × Verdict)
worked =
    -- K1 to K8: K3 is NIL with a node remaining, and a lawful race
    accepted 2 4 k1 ∷ accepted 2 4 (k2 TopLost) ∷ accepted 3 4 (k3 TopLost)
    ∷ gives 17 5 2 4 (k4 (call 1 0 TopNode 1 3 24 48)) ∷ accepted 2 4 (k4 (call 1 0 TopLost 0 3 24 no_moment))
    ∷ accepted 1 1 (after (no_room 8 3 ∷ [])) ∷ accepted 1 4 (empty 0 0 0 0 ∷ []) ∷ accepted 1 4 []
    ∷ accepted 2 4 (k2 TopNil) ∷ accepted 3 4 (k3 TopNil) ∷ accepted 2 4 (k4 (none 1 3 24))  -- C-15: old logs, with 0 for NIL at T4 too
    -- K14, and with another push
    ∷ gives 19 1 1 2 (after (no_room 8 3 ∷ [])) ∷ accepted 1 2 (after (call 0 0 Pushed 8 3 5 10 ∷ no_room 9 6 ∷ []))
    ∷ gives 19 1 2 1 (call 1 1 Pushed 7 0 2 4 ∷ no_room 8 3 ∷ [])  -- a push on another queue does not count
    -- C-12: the box that claimed FULL on an empty queue; without the NIL pop; with a NIL pop of another queue in its place, and after the FULL
    ∷ gives 19 3 1 1 (emptied (empty 0 9 9 18 ∷ no_room 8 10 ∷ [])) ∷ gives 19 2 1 1 (emptied (no_room 8 9 ∷ []))
    ∷ gives 19 3 2 1 (emptied (empty 1 9 9 18 ∷ no_room 8 10 ∷ [])) ∷ gives 19 2 1 1 (emptied (no_room 8 9 ∷ empty 0 10 10 20 ∷ []))
    -- with another push before the FULL; that push with a NIL pop of another queue after it
    ∷ accepted 1 1 (emptied (empty 0 9 9 18 ∷ call 0 0 Pushed 8 10 12 24 ∷ no_room 9 13 ∷ []))
    ∷ accepted 2 1 (emptied (call 0 0 Pushed 8 9 11 22 ∷ empty 1 12 12 24 ∷ no_room 9 13 ∷ []))
    -- a pop after the FULL does not count, nor does a top pop
    ∷ accepted 1 1 (after (no_room 8 3 ∷ call 0 0 BottomNode 7 4 9 10 ∷ empty 0 10 10 20 ∷ []))
    ∷ accepted 2 1 (after (call 1 0 TopNode 7 3 6 12 ∷ no_room 8 7 ∷ []))
    -- 11 for the head and for the entries, 13
    ∷ of [] 11 0 ∷ of (take 4 one) 11 0 ∷ of (take 5 one) 11 0 ∷ of (take 16 one) 11 0 ∷ of one 0 0 ∷ of (one ++ (0 ∷ [])) 13 0
    ∷ of (bytes_of 2 4 k1 ++ (0 ∷ [])) 13 0
    -- 12 before 11 for the entries
    ∷ of (3 ∷ 1 ∷ 4 ∷ 0 ∷ 0 ∷ []) 12 0 ∷ of (head_bytes 1 4 257) 12 0 ∷ of (head_bytes 1 4 256) 11 0
    ∷ gives 12 0 0 4 [] ∷ gives 12 0 9 4 [] ∷ accepted 8 4 [] ∷ gives 12 0 1 0 [] ∷ gives 12 0 1 65 [] ∷ accepted 1 64 []
    -- 15: ends that are equal; a call that starts at its process's previous end; the later in the file
    ∷ gives 15 1 2 4 (empty 0 0 2 0 ∷ empty 1 0 2 2 ∷ []) ∷ accepted 2 4 (empty 0 0 2 0 ∷ empty 1 0 3 2 ∷ [])
    ∷ gives 15 1 1 4 (empty 0 0 2 0 ∷ empty 0 2 3 6 ∷ []) ∷ accepted 1 4 (empty 0 0 2 0 ∷ empty 0 3 3 6 ∷ [])
    ∷ gives 15 2 2 4 (empty 0 0 2 0 ∷ empty 1 0 3 2 ∷ empty 0 2 4 6 ∷ [])
    ∷ gives 16 1 2 4 (empty 0 0 1 2 ∷ empty 1 0 2 2 ∷ []) ∷ accepted 2 4 (empty 0 0 1 2 ∷ empty 1 0 2 3 ∷ [])  -- 16: a moment twice
    -- 17: a node pushed before, on another queue; a wrong node at either end; NIL with a node there; a node from nothing
    ∷ gives 17 1 2 4 (after (call 1 1 Pushed 7 3 5 10 ∷ [])) ∷ accepted 2 4 (after (call 1 1 Pushed 8 3 5 10 ∷ []))
    ∷ gives 17 2 1 4 (after_two (call 0 0 BottomNode 5 6 9 14 ∷ [])) ∷ accepted 1 4 (after_two (call 0 0 BottomNode 6 6 9 14 ∷ []))
    ∷ gives 17 2 2 4 (after_two (call 1 0 TopNode 6 6 9 18 ∷ [])) ∷ accepted 2 4 (after_two (call 1 0 TopNode 5 6 9 18 ∷ []))
    ∷ gives 17 1 1 4 (after (empty 0 3 3 6 ∷ [])) ∷ gives 17 0 2 4 (call 1 0 TopNode 7 0 3 6 ∷ [])
    -- the first by moment, which stands later in the file; and the other way round
    ∷ gives 17 1 2 4 (call 0 0 BottomNode 9 0 5 10 ∷ call 1 1 BottomNode 8 0 6 2 ∷ [])
    ∷ gives 17 0 2 4 (call 0 0 BottomNode 9 0 5 2 ∷ call 1 1 BottomNode 8 0 6 10 ∷ [])
    -- two entries at odds with a queue that holds 7: the first by moment stands later in the file
    ∷ gives 17 2 2 4 (after (call 0 0 BottomNode 9 3 9 18 ∷ call 1 0 TopNode 8 3 10 8 ∷ []))
    -- 18: a race claimed, and no removal in the window; NIL at T4 has the causes of NIL at T2, an empty queue among them
    ∷ gives 18 2 2 4 (after_two (none 1 6 13 ∷ [])) ∷ gives 18 2 2 4 (after_two (call 1 0 TopLost 0 6 13 no_moment ∷ []))
    ∷ accepted 2 4 (call 1 0 TopLost 0 0 1 no_moment ∷ after []) ∷ gives 18 1 2 4 (after (call 1 0 TopLost 0 3 4 no_moment ∷ []))
    -- a removal at the bottom that leaves the topmost node; and one that takes it
    ∷ gives 18 3 2 4 (after_two (call 0 0 BottomNode 6 7 9 16 ∷ none 1 6 13 ∷ [])) ∷ accepted 2 4 (after (call 0 0 BottomNode 7 7 9 16 ∷ none 1 6 13 ∷ []))
    -- a removal exactly at 2 × start, and an instant before
    ∷ accepted 3 4 (after_two (call 2 0 TopNode 5 6 9 14 ∷ none 1 7 10 ∷ [])) ∷ gives 18 3 3 4 (after_two (call 2 0 TopNode 5 6 9 13 ∷ none 1 7 10 ∷ []))
    -- a removal exactly at 2 × end + 1, and an instant after
    ∷ accepted 3 4 (after_two (none 1 6 8 ∷ call 2 0 TopNode 5 6 9 17 ∷ [])) ∷ gives 18 2 3 4 (after_two (none 1 6 8 ∷ call 2 0 TopNode 5 6 9 18 ∷ []))
    -- empty at 2 × start and filled right after it, and filled at it
    ∷ accepted 2 4 (call 0 0 Pushed 5 0 2 5 ∷ none 1 2 4 ∷ []) ∷ gives 18 1 2 4 (call 0 0 Pushed 5 0 2 4 ∷ none 1 2 4 ∷ [])
    -- emptied at 2 × end + 1, and an instant after
    ∷ accepted 2 4 (after (none 1 6 8 ∷ call 0 0 BottomNode 7 6 9 17 ∷ [])) ∷ gives 18 1 2 4 (after (none 1 6 8 ∷ call 0 0 BottomNode 7 6 9 18 ∷ []))
    -- each rule over the whole log, in order: of two that are broken the earlier is named, though its entry is the later one. Rules 1 and 2,
    ∷ gives 14 2 1 4 (empty 0 0 3 0 ∷ empty 0 1 2 2 ∷ call 0 0 BottomNil 7 4 4 8 ∷ [])
    ∷ gives 15 1 2 4 (empty 0 0 2 6 ∷ empty 1 0 2 2 ∷ []) ∷ gives 15 1 2 4 (no_room 6 0 ∷ empty 1 0 0 0 ∷ [])  -- 2 and 3, 2 and 6,
    -- 3 and 4, 3 and 5,
    ∷ gives 16 1 1 4 (call 0 0 BottomNode 9 0 1 0 ∷ empty 0 2 3 8 ∷ []) ∷ gives 16 2 2 4 (after (none 1 3 4 ∷ call 0 0 BottomNode 7 5 6 20 ∷ []))
    -- 4 and 5, 4 and 6,
    ∷ gives 17 2 2 4 (after (none 1 3 4 ∷ empty 0 5 6 10 ∷ [])) ∷ gives 17 1 1 4 (no_room 6 0 ∷ call 0 0 BottomNode 9 1 2 2 ∷ [])
    ∷ gives 18 2 2 2 (after (no_room 6 3 ∷ none 1 4 5 ∷ []))  -- 5 and 6
    -- Rule 1, each of its conditions broken by an entry alone, and entries beside them that keep it:
    ∷ (alone 14 (
    -- a process and a queue not below P; kinds 0 and 4; result 4
    call 2 1 TopNil 0 0 2 no_moment ∷ call 1 2 TopNil 0 0 2 no_moment ∷ line 0 0 0 nil 0 0 2 4 ∷ line 0 0 4 nil 0 0 2 no_moment
    ∷ line 1 0 top_pop 4 7 0 2 4 ∷ line 1 0 top_pop 4 0 0 2 no_moment
    -- a push and a bottom pop on another's queue; 2 for a pop, 0 for a push, 3 for a push or a bottom pop
    ∷ call 0 1 Pushed 7 0 2 4 ∷ call 0 1 BottomNil 0 0 2 4 ∷ line 0 0 bottom_pop full 7 0 2 4 ∷ line 0 0 top_pop full 7 0 2 no_moment
    ∷ line 0 0 push nil 0 0 2 no_moment ∷ line 0 0 push lost 0 0 2 no_moment ∷ line 0 0 push lost 7 0 2 4 ∷ line 0 0 bottom_pop lost 0 0 2 4
    -- node 0 without NIL, and NIL with a node; a start after the end; an end above 32,766
    ∷ call 0 0 Pushed 0 0 2 4 ∷ call 0 0 BottomNil 7 0 2 4 ∷ call 1 0 TopLost 7 0 2 no_moment ∷ empty 0 3 2 6 ∷ none 1 0 32767
    ∷ []) ++ alone 0 (call 1 1 Pushed 7 0 2 4 ∷ none 1 0 2 ∷ call 1 0 TopLost 0 0 2 no_moment ∷ empty 0 0 2 4 ∷ none 1 0 32766 ∷ [])
    -- and rule 3: no moment where one is wanted, one where none is; the ends of the call's time
    ++ alone 16 (
    call 0 0 Pushed 7 0 2 no_moment ∷ call 1 0 TopNil 0 0 2 4 ∷ call 1 0 TopLost 0 0 2 4 ∷ call 0 0 Full 7 0 0 0 ∷ empty 0 1 2 1 ∷ empty 0 1 2 6
    ∷ []) ++ alone 0 (empty 0 1 2 2 ∷ empty 0 1 2 5 ∷ []))

pub all_right : map (λ c. judge_of c.0) worked ≡ map (λ c. c.1) worked
unfolding entry_at before log_bytes
all_right = refl

abbrev k6 : List ℕ
k6 = bytes_of 1 1 (after (no_room 8 3 ∷ []))

-- what is left in queue 0, and how many nodes by its calls: of K3's and K6's logs, of two that break rule 4, and of one whose calls have no order
abbrev left : List ℕ → List (List ℕ)
left bytes = left_of bytes 0 ∷ (nodes_by (entry_at bytes) (entry_count_of bytes) 0 (after_all (entry_at bytes) (entry_count_of bytes)) ∷ []) ∷ []

pub left_right :
    -- of K6's log, 7 was pushed, and 8, which had FULL, was not
    (map (times_pushed (entry_at k6) (entry_count_of k6)) (7 ∷ 8 ∷ []) ≡ 1 ∷ 0 ∷ [])
    × (map left (
    bytes_of 3 4 (k3 TopNil) ∷ k6 ∷ bytes_of 2 4 (k4 (call 1 0 TopNode 1 3 24 48)) ∷ bytes_of 1 4 (after_two (call 0 0 BottomNode 5 6 9 14 ∷ []))
    ∷ bytes_of 1 4 (after (call 0 0 Pushed 8 3 5 5 ∷ [])) ∷ []
    ) ≡ ((6 ∷ []) ∷ (1 ∷ []) ∷ []) ∷ ((7 ∷ []) ∷ (1 ∷ []) ∷ []) ∷ ([] ∷ (0 ∷ []) ∷ []) ∷ ((5 ∷ []) ∷ (1 ∷ []) ∷ []) ∷ ([] ∷ (2 ∷ []) ∷ []) ∷ [])
unfolding entry_at before log_bytes
left_right = (refl, refl)
