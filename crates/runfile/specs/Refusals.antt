-- What refuses a file, by number: each case of the program's answer and its number.
use Rattle.std.specs.Prelude.{ℕ, cond, eqb, Result, Ok, Err}
use Rattle.runfile.specs.declared.Refusal.{Refusal}
use Rattle.runfile.specs.declared.Refusal.TheVariants.{CutShort, WrongSizes, WrongScripts, WrongCall, WrongNode, WrongSchedule, BytesAfter, NoRoom}

abbrev pub refusal_number : Refusal → ℕ
refusal_number CutShort = 1
refusal_number WrongSizes = 2
refusal_number WrongScripts = 3
refusal_number WrongCall = 4
refusal_number WrongNode = 5
refusal_number WrongSchedule = 6
refusal_number BytesAfter = 7
refusal_number NoRoom = 8

-- the case with a number from 1 to 8
abbrev pub refusal_of : ℕ → Refusal
refusal_of n =
    cond (eqb n 1) CutShort
    (cond (eqb n 2) WrongSizes
    (cond (eqb n 3) WrongScripts
    (cond (eqb n 4) WrongCall
    (cond (eqb n 5) WrongNode
    (cond (eqb n 6) WrongSchedule
    (cond (eqb n 7) BytesAfter NoRoom))))))

-- the number of an answer, 0 where nothing is refused
abbrev pub number_in : {A : Type 0} → Result A Refusal → ℕ
number_in (Err why) = refusal_number why
number_in (Ok x) = 0
