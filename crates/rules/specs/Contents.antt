-- Which nodes each queue holds at each instant, by the calls' moments alone. A log is f, from an entry's index to the entry, with n entries.
use Rattle.std.specs.Prelude.{ℕ, zero, suc, Bool, cond, ◌&&◌, ltb, eqb, List, [], ◌∷◌, ◌++◌}
use Rattle.call_log.specs.{declared.Entry.Entry, declared.What.What, Numbers.bears_moment, Numbers.what}
use Rattle.call_log.specs.declared.What.TheVariants.{Pushed, Full, BottomNode, BottomNil, TopNode, TopNil, TopLost}
use Rattle.rules.specs.Search.{first}

-- whether the list of moments in document 01, "The log", has one for such a call
abbrev pub bears : Entry → Bool
bears e = bears_moment (what e)

abbrev pub drop_last : List ℕ → List ℕ
drop_last [] = []
drop_last (x ∷ []) = []
drop_last (x ∷ y ∷ c) = x ∷ drop_last (y ∷ c)

abbrev pub drop_first : List ℕ → List ℕ
drop_first [] = []
drop_first (x ∷ c) = c

-- what a call makes of its queue's nodes c, top first, whatever they are; v is its node
abbrev pub applied : What → ℕ → List ℕ → List ℕ
applied Pushed v c = c ++ (v ∷ [])
applied Full v c = c
applied BottomNode v c = drop_last c
applied BottomNil v c = c
applied TopNode v c = drop_first c
applied TopNil v c = c
applied TopLost v c = c

-- e bears a moment, on queue q; and it is m
abbrev pub on : ℕ → Entry → Bool
on q e = bears e && eqb e.queue q

abbrev pub happens : ℕ → ℕ → Entry → Bool
happens q m e = on q e && eqb e.moment m

-- the first entry, of queue q, that bears the moment m; n where there is none
abbrev pub event_at : (ℕ → Entry) → ℕ → ℕ → ℕ → ℕ
event_at f n q m = first (λ i. happens q m (f i)) 0 n

abbrev pub applied_at : (ℕ → Entry) → ℕ → ℕ → List ℕ → List ℕ
applied_at f n i c = cond (ltb i n) (applied (what (f i)) (f i).node c) c

-- the nodes of queue q, top first, just before the instant m; so `before .. (suc m)` is after all moments up to m
unfoldable pub before : (ℕ → Entry) → ℕ → ℕ → ℕ → List ℕ
before f n q zero = []
before f n q (suc m) = applied_at f n (event_at f n q m) (before f n q m)
