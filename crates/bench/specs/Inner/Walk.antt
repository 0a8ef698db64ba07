-- What the program's one loop does with a schedule, in the closing or not.
use Rattle.std.specs.Prelude.{ℕ, Bool, cond, ◌&&◌, ◌||◌, leb, List, [], ◌∷◌}
use Rattle.word.specs.Stages.{is_idle}
use Rattle.runfile.specs.File.{first_calls}
use Rattle.runfile.specs.declared.Call.{Call}
use Rattle.runfile.specs.declared.Shape.{Shape}
use Rattle.runs.specs.State.{Process, State, process_at}
use Rattle.runs.specs.Turn.{act, idle, turning}
use Rattle.bench.specs.declared.Bench.{Bench as HeldBench}
use Rattle.bench.specs.Inner.Layout.{state_in}

-- the record with which process p makes its step: in the closing no call is begun
abbrev pub walking : Bool → List Call → ℕ → State → Process
walking closing calls p s = cond closing (process_at s.bench p) (turning calls p s)

-- a process that is in no call and begins none
abbrev pub rests : Bool → Process → Bool
rests closing r = is_idle r.stage && (closing || leb r.stop r.next)

-- a process in no call is passed over in the closing, and else its idle step counts
unfoldable pub walked_one : Bool → ℕ → ℕ → List Call → ℕ → State → State
unfolding act
walked_one closing W C calls p s =
    let r : Process = walking closing calls p s in
    cond (is_idle r.stage) (cond closing s (idle s)) (act W C p r s)

unfoldable pub walked : Bool → ℕ → ℕ → List Call → List ℕ → State → State
unfolding walked_one
walked closing W C calls [] s = s
walked closing W C calls (p ∷ ps) s = walked closing W C calls ps (walked_one closing W C calls p s)

-- what it does with the calls of a file, from the state that a bench and its slots stand for
abbrev pub walked_from : Bool → List ℕ → Shape → List ℕ → HeldBench → List ℕ → State
walked_from closing file shape schedule b flat =
    walked closing shape.width shape.size (first_calls file shape.processes shape.calls) schedule (state_in shape.size b flat)
