-- The counts as the bytes give them, of a good file or not.
use Rattle.std.specs.Prelude.{List, ℕ}
use Rattle.runfile.specs.declared.Shape.{Shape}
use Rattle.runfile.specs.File.{width_in, size_in, processes_in, calls_in, steps_in}

abbrev pub shape_in : List ℕ → Shape
shape_in s = record { width = width_in s; size = size_in s; processes = processes_in s; calls = calls_in s; steps = steps_in s }
