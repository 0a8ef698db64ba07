-- The bytes of a run file, section by section.
use Rattle.std.specs.Prelude.{ℕ, List, [], ◌∷◌, ◌++◌, length}
use Rattle.base.specs.Bytes.{pair}
use Rattle.runfile.specs.File.{RunFile, section_count}
use Rattle.runfile.specs.Encode.{calls_bytes}

abbrev pub bytes1 : RunFile → List ℕ
bytes1 f = section_count ∷ f.width ∷ f.size ∷ []

abbrev pub bytes2 : RunFile → List ℕ
bytes2 f = length f.shares ∷ f.shares

abbrev pub bytes3 : RunFile → List ℕ
bytes3 f = pair (length f.calls) ++ calls_bytes f.calls

abbrev pub bytes4 : RunFile → List ℕ
bytes4 f = pair (length f.schedule) ++ f.schedule
