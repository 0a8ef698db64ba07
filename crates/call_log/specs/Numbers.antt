-- The log's numbers as document 01, "The log", gives them, and document 02 in C-15, each once, and which calls have a moment.
use Rattle.std.specs.Prelude.{ℕ, Bool, cond, not, ◌&&◌, ◌||◌, eqb}
use Rattle.call_log.specs.{declared.Entry.Entry, declared.What.What}
use Rattle.call_log.specs.declared.What.TheVariants.{Pushed, Full, BottomNode, BottomNil, TopNode, TopNil, TopLost}

-- kinds
abbrev pub push : ℕ
push = 1

abbrev pub bottom_pop : ℕ
bottom_pop = 2

abbrev pub top_pop : ℕ
top_pop = 3

-- results
abbrev pub nil : ℕ
nil = 0

-- done, or a node
abbrev pub done : ℕ
done = 1

abbrev pub full : ℕ
full = 2

-- NIL at T4: a top pop that lost the race
abbrev pub lost : ℕ
lost = 3

abbrev pub most_result : ℕ
most_result = lost

-- stands where there is no moment
abbrev pub no_moment : ℕ
no_moment = 65535

abbrev pub kind_of : What → ℕ
kind_of Pushed = push
kind_of Full = push
kind_of BottomNode = bottom_pop
kind_of BottomNil = bottom_pop
kind_of TopNode = top_pop
kind_of TopNil = top_pop
kind_of TopLost = top_pop

abbrev pub result_of : What → ℕ
result_of Pushed = done
result_of Full = full
result_of BottomNode = done
result_of BottomNil = nil
result_of TopNode = done
result_of TopNil = nil
result_of TopLost = lost

-- what a kind and a result say happened; rule 1 refuses all pairs but the seven of `kind_of` and `result_of`
abbrev pub what_of : ℕ → ℕ → What
what_of kind result =
    cond (eqb kind push) (cond (eqb result done) Pushed Full)
    (cond (eqb kind bottom_pop) (cond (eqb result done) BottomNode BottomNil)
    (cond (eqb result done) TopNode (cond (eqb result lost) TopLost TopNil)))

abbrev pub what : Entry → What
what e = what_of e.kind e.result

abbrev pub same : What → What → Bool
same a b = eqb (kind_of a) (kind_of b) && eqb (result_of a) (result_of b)

-- a top pop with NIL, at T2 or at T4
abbrev pub is_top_nil : What → Bool
is_top_nil w = same TopNil w || same TopLost w

-- top pop NIL and FULL have no moment
abbrev pub bears_moment : What → Bool
bears_moment w = not (is_top_nil w || same Full w)
