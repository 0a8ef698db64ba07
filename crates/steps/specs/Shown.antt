-- What follows a step, as the desk prints it.
use Rattle.std.specs.Prelude.{ℕ, List, ◌++◌, codes, decimal}
use Rattle.word.specs.Shown.{shown as shown_stage}
use Rattle.steps.specs.declared.Next.{Next}
use Rattle.steps.specs.declared.Next.TheVariants.{Going, Done, Node, Nil, Lost, Full}

abbrev pub shown : Next → List ℕ
shown (Going s) = codes "next " ++ shown_stage s
shown Done = codes "done"
shown (Node n) = codes "node " ++ decimal n
shown Nil = codes "nil"
shown Lost = codes "lost"
shown Full = codes "full"
