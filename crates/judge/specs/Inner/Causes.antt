-- What the search for causes keeps of each queue.
use Rattle.std.specs.Prelude.{◌≡◌, Bool, cond, ◌&&◌, not, List, ℕ, ◌+◌, ◌-◌, ◌*◌, ◌%◌, ◌^◌, ◌<◌, ◌≤◌, eqb, ltb, leb, get_or, set, length}
use Rattle.call_log.specs.declared.Entry.{Entry}
use Rattle.call_log.specs.declared.What.{What}
use Rattle.call_log.specs.declared.What.TheVariants.{Pushed, Full, BottomNode, BottomNil, TopNode, TopNil, TopLost}
use Rattle.call_log.specs.Numbers.{what}
use Rattle.rules.specs.Search.{any}
use Rattle.rules.specs.Accepted.{Rule3}
use Rattle.rules.specs.Judge.{first3, first4}
use Rattle.fields.specs.Inner.Took.{took_after}
use Rattle.judge.specs.Inner.Order.{Fields, Ordered}

-- a queue's shelf is 65,536 times how many nodes it holds, plus the moment at which it was filled; what a lawful call at moment m makes of it
abbrev pub shelf_by : What → ℕ → ℕ → ℕ
shelf_by Pushed m s = cond (ltb s 65536) (65536 + m) (s + 65536)
shelf_by Full m s = s
shelf_by BottomNode m s = cond (ltb s 65536) s (s - 65536)
shelf_by BottomNil m s = s
shelf_by TopNode m s = cond (ltb s 65536) s (s - 65536)
shelf_by TopNil m s = s
shelf_by TopLost m s = s

abbrev pub shelf_after : Entry → ℕ → ℕ
shelf_after e s = shelf_by (what e) e.moment s

-- the shelves of eight queues, and after them for each queue and process the moment after the process's last take
abbrev pub took_at : ℕ → ℕ → ℕ
took_at q p = 8 * q + p + 8

abbrev pub shelved : Entry → List ℕ → List ℕ
shelved e l = set l e.queue (shelf_after e (get_or l e.queue 0))

abbrev pub passed_by : Entry → List ℕ → List ℕ
passed_by e l = set (shelved e l) (took_at e.queue e.process) (took_after e (get_or (shelved e l) (took_at e.queue e.process) 0))

abbrev pub Passable : Entry → List ℕ → Type 0
Passable e l = (e.queue < 8) × (e.process < 8) × (get_or l e.queue 0 < 2 ^ 31) × (length l ≡ 72)

-- one of the first k processes, but this one, took from the top of queue q after an instant
abbrev pub other_took : List ℕ → ℕ → ℕ → ℕ → ℕ → Bool
other_took l q process from k = any (λ p. not (eqb p process) && ltb from (get_or l (took_at q p) 0)) k

-- a NIL top pop e has no cause: its queue holds a node, and has since its start, and no other process took one at the top since
abbrev pub uncaused_by : List ℕ → Entry → Bool
uncaused_by l e =
    leb 65536 (get_or l e.queue 0) && leb (get_or l e.queue 0 % 65536) (2 * e.start) && not (other_took l e.queue e.process (2 * e.start) 8)

-- rules 1 and 3 are kept, ends rise, and the keys are those of the entries
pub record Clean (f : ℕ → Entry) (n : ℕ) (keys : List ℕ) (count : ℕ) : Type 0 where
  pub small : n ≤ 256
  pub fields : Fields f n
  pub moments : (j : ℕ) → j < n → Rule3 (f j)
  pub ordered : Ordered f n keys count
  pub ends : (i j : ℕ) → i < j → j < n → (f i).end < (f j).end

-- rules 3 and 4 are kept
abbrev pub Kept34 : (ℕ → Entry) → ℕ → Type 0
Kept34 f n = (n ≤ first3 f n) × (n ≤ first4 f n)
