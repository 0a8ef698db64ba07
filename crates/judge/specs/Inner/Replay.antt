-- A queue's nodes between two places of its row, and the nodes that were pushed.
use Rattle.std.specs.Prelude.{◌≡◌, Bool, true, false, not, ◌||◌, List, ℕ, ◌<◌, eqb, fold}
use Rattle.std.proofs.Math.Seq.{slice}
use Rattle.call_log.specs.declared.Entry.{Entry}
use Rattle.call_log.specs.declared.What.TheVariants.{Pushed}
use Rattle.call_log.specs.Numbers.{what, same}
use Rattle.fields.specs.Inner.Ends.{lo_of, hi_of}

abbrev pub held_in : List ℕ → ℕ → List ℕ
held_in row s = slice (lo_of s) (hi_of s) row

-- a node is none of these
abbrev pub new_in : List ℕ → ℕ → Bool
new_in nodes v = not (fold (λ hit x. hit || eqb x v) false nodes)

-- no two pushes of a log are of one node
abbrev pub Differ : (ℕ → Entry) → ℕ → Type 0
Differ f n = (i j : ℕ) → i < n → j < n → same Pushed (what (f i)) ≡ true → same Pushed (what (f j)) ≡ true → (f i).node ≡ (f j).node → i ≡ j
