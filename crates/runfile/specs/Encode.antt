-- The ranges of a run file, and the file as bytes.
use Rattle.std.specs.Prelude.{ℕ, ◌<◌, ◌≤◌, List, [], ◌∷◌, ◌++◌, length, get_or, ◌≡◌}
use Rattle.base.specs.Bytes.{pair}
use Rattle.runfile.specs.{declared.Call.Call, Check.sum}
use Rattle.runfile.specs.File.{RunFile, section_count, most_width, most_size, most_processes, longest_script, longest_schedule}
use Rattle.runfile.specs.declared.Call.TheVariants.{Push, Pop, Take}

-- a call, of a file for so many processes
abbrev pub CallInRange : ℕ → Call → Type 0
CallInRange processes (Push node) = (1 ≤ node) × (node ≤ 65535)
CallInRange processes Pop = Unit
CallInRange processes (Take queue) = queue < processes

pub record InRanges (f : RunFile) : Type 0 where
  pub width : f.width ≤ most_width
  pub size : (1 ≤ f.size) × (f.size ≤ most_size)
  pub processes : (1 ≤ length f.shares) × (length f.shares ≤ most_processes)
  pub shares : (p : ℕ) → p < length f.shares → get_or f.shares p 0 ≤ longest_script
  pub count : length f.calls ≡ sum f.shares
  pub calls : (k : ℕ) → k < length f.calls → CallInRange (length f.shares) (get_or f.calls k Pop)
  pub once : (j k node : ℕ) → j < k → k < length f.calls
      → get_or f.calls j Pop ≡ Push node → get_or f.calls k Pop ≡ Push node → ⊥
  pub steps : length f.schedule ≤ longest_schedule
  pub schedule : (k : ℕ) → k < length f.schedule → get_or f.schedule k 0 < length f.shares

abbrev pub call_bytes : Call → List ℕ
call_bytes (Push node) = 1 ∷ pair node
call_bytes Pop = 2 ∷ pair 0
call_bytes (Take queue) = 3 ∷ pair queue

abbrev pub calls_bytes : List Call → List ℕ
calls_bytes [] = []
calls_bytes (c ∷ cs) = call_bytes c ++ calls_bytes cs

-- section 1, section 2, section 3 and section 4
abbrev pub encode : RunFile → List ℕ
encode f =
    (section_count ∷ f.width ∷ f.size ∷ [])
    ++ ((length f.shares ∷ f.shares)
    ++ ((pair (length f.calls) ++ calls_bytes f.calls)
    ++ (pair (length f.schedule) ++ f.schedule)))
