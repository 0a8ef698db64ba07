-- Document 01, "What the judge accepts": when entry j of a log breaks each rule. The log is f, from an entry's index to the entry, with n entries,
-- P processes and C slots. A rule is asked only of logs that keep the earlier ones.
use Rattle.std.specs.Prelude.{ℕ, zero, suc, ◌+◌, ◌-◌, ◌*◌, Bool, true, false, cond, not, ◌&&◌, ◌||◌, ltb, leb, eqb, List, [], ◌∷◌, length}
use Rattle.base.specs.Words.{bool_eq}
use Rattle.call_log.specs.{declared.Entry.Entry, declared.What.What}
use Rattle.call_log.specs.declared.What.TheVariants.{Pushed, Full, BottomNode, BottomNil, TopNode, TopNil, TopLost}
use Rattle.call_log.specs.Numbers.{push, bottom_pop, top_pop, nil, full, lost, most_result, no_moment, what, same, is_top_nil}
use Rattle.rules.specs.{Search.any, Contents.bears, Contents.on, Contents.before}

-- RULE 1. Fields:
abbrev pub last_end : ℕ
last_end = 32766

abbrev pub keeps1 : ℕ → Entry → Bool
keeps1 P e =
    -- process and queue below P;
    ltb e.process P && ltb e.queue P
    -- kind 1 to 3, result 0 to 3;
    && (leb push e.kind && leb e.kind top_pop) && leb e.result most_result
    -- a push or bottom pop on its own queue;
    && (not (eqb e.kind push || eqb e.kind bottom_pop) || eqb e.process e.queue)
    -- result 2 for a push only, 0 for pops only, 3 for a top pop only (C-15);
    && (not (eqb e.result full) || eqb e.kind push)
    && (not (eqb e.result nil) || not (eqb e.kind push))
    && (not (eqb e.result lost) || eqb e.kind top_pop)
    -- node 0 exactly for NIL, which is 0, and 3 at T4;
    && bool_eq (eqb e.node 0) (eqb e.result nil || eqb e.result lost)
    -- start ≤ end ≤ 32,766.
    && leb e.start e.end && leb e.end last_end

abbrev pub breaks1 : (ℕ → Entry) → ℕ → ℕ → Bool
breaks1 f P j = not (keeps1 P (f j))

-- RULE 2, of an entry d before e in the file. Ends rise; a process's call starts after its previous call's end: where ends rise, that is the last end
-- of all its earlier calls.
abbrev pub clash : Entry → Entry → Bool
clash d e = not (ltb d.end e.end && (not (eqb d.process e.process) || ltb d.end e.start))

-- of entries that clash the later in the file
abbrev pub breaks2 : (ℕ → Entry) → ℕ → Bool
breaks2 f j = any (λ i. clash (f i) (f j)) j

-- RULE 3. A moment stands exactly where the list above has one, and 65,535 elsewhere; each moment lies from 2 × start to
-- 2 × end + 1, and all moments differ.
abbrev pub in_call : Entry → ℕ → Bool
in_call e m = leb (2 * e.start) m && leb m (2 * e.end + 1)

-- a moment in the call's time is at most 65,533 by rule 1, so that it never looks like none
abbrev pub moment_right : Entry → Bool
moment_right e = cond (bears e) (in_call e e.moment) (eqb e.moment no_moment)

-- d bears the moment m
abbrev pub bears_at : ℕ → Entry → Bool
bears_at m d = bears d && eqb d.moment m

-- of entries with the same moment the later in the file
abbrev pub breaks3 : (ℕ → Entry) → ℕ → Bool
breaks3 f j = not (moment_right (f j)) || bears (f j) && any (λ i. bears_at (f j).moment (f i)) j

-- RULE 4. Calls with a moment, taken by rising moment from empty queues, are lawful: a push adds at the bottom a node that no earlier push on any
-- queue added; a bottom pop gives the bottom node, or NIL exactly when empty; a top pop gives the top node.
abbrev pub is_empty : List ℕ → Bool
is_empty [] = true
is_empty (x ∷ c) = false

abbrev pub top_is : ℕ → List ℕ → Bool
top_is v [] = false
top_is v (x ∷ c) = eqb x v

abbrev pub bottom_is : ℕ → List ℕ → Bool
bottom_is v [] = false
bottom_is v (x ∷ []) = eqb x v
bottom_is v (x ∷ y ∷ c) = bottom_is v (y ∷ c)

-- d is an earlier push of e's node
abbrev pub added_before : Entry → Entry → Bool
added_before e d = same Pushed (what d) && eqb d.node e.node && ltb d.moment e.moment

abbrev pub fresh : (ℕ → Entry) → ℕ → Entry → Bool
fresh f n e = not (any (λ k. added_before e (f k)) n)

-- the call gives or adds v, and its queue holds c, top first
abbrev pub lawful : Bool → What → ℕ → List ℕ → Bool
lawful new Pushed v c = new
lawful new Full v c = true
lawful new BottomNode v c = bottom_is v c
lawful new BottomNil v c = is_empty c
lawful new TopNode v c = top_is v c
lawful new TopNil v c = true
lawful new TopLost v c = true

abbrev pub lawful_at : (ℕ → Entry) → ℕ → Entry → Bool
lawful_at f n e = lawful (fresh f n e) (what e) e.node (before f n e.queue e.moment)

abbrev pub breaks4 : (ℕ → Entry) → ℕ → ℕ → Bool
breaks4 f n j = bears (f j) && not (lawful_at f n (f j))

-- RULE 5. A top pop with NIL has, from moment 2 × start to 2 × end + 1, an instant at which its queue is empty (after all
-- moments up to it), or a removal of the topmost node by another process.
-- the queue is empty at an instant a, a + 1, .. b
abbrev pub empty_within : (ℕ → Entry) → ℕ → ℕ → ℕ → ℕ → Bool
empty_within f n q a b = any (λ k. is_empty (before f n q (suc (a + k)))) (suc b - a)

-- a removal of the topmost node from c: by a pop at the top, or at the bottom where there is one node
abbrev pub takes_topmost : What → List ℕ → Bool
takes_topmost w c = same TopNode w || same BottomNode w && eqb (length c) 1

abbrev pub removes : (ℕ → Entry) → ℕ → Entry → Entry → Bool
removes f n e d =
    on e.queue d && in_call e d.moment && not (eqb d.process e.process)
    && takes_topmost (what d) (before f n e.queue d.moment)

abbrev pub has_cause : (ℕ → Entry) → ℕ → Entry → Bool
has_cause f n e = empty_within f n e.queue (2 * e.start) (2 * e.end + 1) || any (λ k. removes f n e (f k)) n

abbrev pub breaks5 : (ℕ → Entry) → ℕ → ℕ → Bool
breaks5 f n j = is_top_nil (what (f j)) && not (has_cause f n (f j))

-- RULE 6 (C-12). FULL: on that queue, counting done pushes and node-giving bottom pops after its latest NIL bottom pop and
-- before the FULL (from the log's beginning if there is none), pushes less pops are at least C. All of it by place in the log.
-- d did w, on queue q
abbrev pub did : What → ℕ → Entry → Bool
did w q d = same w (what d) && eqb d.queue q

-- how many entries before j did w, on queue q, after its latest NIL bottom pop: at each of them the count begins anew
abbrev pub since : What → (ℕ → Entry) → ℕ → ℕ → ℕ
since w f q zero = 0
since w f q (suc j) = cond (did BottomNil q (f j)) 0 (cond (did w q (f j)) (since w f q j + 1) (since w f q j))

abbrev pub breaks6 : (ℕ → Entry) → ℕ → ℕ → Bool
breaks6 f C j = same Full (what (f j)) && ltb (since Pushed f (f j).queue j) (C + since BottomNode f (f j).queue j)
