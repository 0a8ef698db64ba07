-- Document 01's table, row by row. W is the tag's width, C the number of slots, w the control word, v the value of the slot that is loaded.
use Rattle.std.specs.Prelude.{ℕ, ◌+◌, ◌-◌, ◌%◌, Bool, true, false, cond, ◌&&◌, ltb, leb, eqb, List, [], ◌∷◌, get_or, set, Option, Some, None, ◌≡◌}
use Rattle.word.specs.{Tag.next_tag, Stages.row_number, Stages.first_loaded, declared.Word.Word, declared.Stage.Stage}
use Rattle.word.specs.declared.Stage.TheVariants.{Idle, P1, P2, P3, T1, T2, T3, T4, B1, B2, B3, B4, B5, B6, B7}
use Rattle.steps.specs.{declared.Next.Next, declared.Store.Store, declared.Step.Step}
use Rattle.steps.specs.declared.Next.TheVariants.{Going, Done, Node, Nil, Lost, Full}

-- a step on three numbers
abbrev pub Stepped : Type 0
Stepped = Step Word

abbrev pub bottom_to : Word → ℕ → Word
bottom_to w b = record { bottom = b; top = w.top; tag = w.tag }

abbrev pub age_to : Word → ℕ → ℕ → Word
age_to w t g = record { bottom = w.bottom; top = t; tag = g }

-- a step that leaves the word w, stores in no slot and is no reset
abbrev pub leaves : Word → Next → Stepped
leaves w n = record { word = w; store = None; reset = false; next = n }

-- age becomes (0, next g)
abbrev pub resets : ℕ → Word → ℕ → Next → Stepped
resets W w g n = record { word = age_to w 0 (next_tag W g); store = None; reset = true; next = n }

-- age is still (t, g): then it is "changed" at T4 and B6, also where the word written is the same, as at B6 with no tag and top 0
abbrev pub same_age : Word → ℕ → ℕ → Bool
same_age w t g = eqb w.top t && eqb w.tag g

-- NIL at T4 is `Lost`: the race was lost (C-15)
abbrev pub row_of : ℕ → ℕ → Word → ℕ → Stage → Stepped
row_of W C w v Idle = leaves w (Going Idle)
row_of W C w v (P1 node) = cond (eqb w.bottom C) (leaves w Full) (leaves w (Going (P2 node w.bottom)))
row_of W C w v (P2 node b) = record { word = w; store = Some (record { at = b; node = node }); reset = false; next = Going (P3 b) }
row_of W C w v (P3 b) = leaves (bottom_to w (b + 1)) Done
row_of W C w v T1 = leaves w (Going (T2 w.top w.tag))
row_of W C w v (T2 t g) = cond (leb w.bottom t) (leaves w Nil) (leaves w (Going (T3 t g w.bottom)))
row_of W C w v (T3 t g b) = leaves w (Going (T4 t g b v))
row_of W C w v (T4 t g b x) = cond (same_age w t g) (leaves (age_to w (t + 1) g) (Node x)) (leaves w Lost)
row_of W C w v B1 = cond (eqb w.bottom 0) (leaves w Nil) (leaves w (Going (B2 w.bottom)))
row_of W C w v (B2 b) = leaves (bottom_to w (b - 1)) (Going (B3 b))
row_of W C w v (B3 b) = leaves w (Going (B4 b v))
row_of W C w v (B4 b x) = cond (ltb w.top (b - 1)) (leaves w (Node x)) (leaves w (Going (B5 b x w.top w.tag)))
row_of W C w v (B5 b x t g) = leaves (bottom_to w 0) (Going (cond (eqb (b - 1) t) (B6 b x t g) (B7 b x t g)))
row_of W C w v (B6 b x t g) = cond (same_age w t g) (resets W w g (Node x)) (leaves w (Going (B7 b x t g)))
row_of W C w v (B7 b x t g) = resets W w g Nil

-- the slot that a stage loads: at T3 slot t, at B3 slot b−1, each by the number that its call loaded first
abbrev pub loaded_slot : Stage → Option ℕ
loaded_slot s =
    cond (eqb (row_number s) (row_number (T3 0 0 0))) (Some (first_loaded s))
    (cond (eqb (row_number s) (row_number (B3 0))) (Some (first_loaded s - 1)) None)

abbrev pub loaded : List ℕ → Option ℕ → ℕ
loaded slots None = 0
loaded slots (Some at) = get_or slots at 0

abbrev pub stored : List ℕ → Option Store → List ℕ
stored slots None = slots
stored slots (Some made) = set slots made.at made.node

-- This paper's values for what follows a step. Where the process stands: one whose call has returned is idle.
abbrev pub stage_after : Next → Stage
stage_after (Going s) = s
stage_after Done = Idle
stage_after (Node x) = Idle
stage_after Nil = Idle
stage_after Lost = Idle
stage_after Full = Idle

-- of a call that returned, its result and its node as in the log: NIL at T4 is 3 (C-15); done and FULL leave the node to the push
abbrev pub result_of : Next → List ℕ
result_of (Going s) = []
result_of Done = 1 ∷ []
result_of (Node x) = 1 ∷ x ∷ []
result_of Nil = 0 ∷ 0 ∷ []
result_of Lost = 3 ∷ 0 ∷ []
result_of Full = 2 ∷ []

-- the step of a stage on a queue's slots
abbrev pub stepped_on : ℕ → ℕ → Word → List ℕ → Stage → Stepped
stepped_on W C w slots s = row_of W C w (loaded slots (loaded_slot s)) s

-- The code answers for every word and stage, the numbers of the word as 16 bits: a larger one goes round. A step in range leaves none such.
abbrev pub in_sixteen : Stepped → Stepped
in_sixteen o = record {
  word = record { bottom = o.word.bottom % 65536; top = o.word.top % 65536; tag = o.word.tag % 65536 };
  store = o.store;
  reset = o.reset;
  next = o.next;
}

-- what the step promises: its answer, with the values that it stands for, and every slot
pub record StepOn (W C : ℕ) (w : Word) (slots : List ℕ) (s : Stage) (answer : Stepped) (after : List ℕ) : Type 0 where
  pub stepped : answer ≡ in_sixteen (stepped_on W C w slots s)
  pub staged : stage_after answer.next ≡ stage_after (stepped_on W C w slots s).next
  pub resulted : result_of answer.next ≡ result_of (stepped_on W C w slots s).next
  pub kept : after ≡ stored slots (stepped_on W C w slots s).store
