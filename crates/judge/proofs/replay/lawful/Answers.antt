-- `judge::replay::lawful` meets its contract. Each arm by what stands at that end of a part of an array.
use mathlib.Core.Path.{◌≡◌, sym, ap, ◌∙◌}
use mathlib.Core.Bool.{Bool, not}
use mathlib.Core.List.{List}
use Prim.Native.Nat.{ℕ}
use Rattle.call_log.specs.declared.What.{What}
use Rattle.call_log.specs.declared.What.TheVariants.{Pushed, BottomNode, BottomNil}
use Rattle.rules.specs.Rules.{lawful}
use Rattle.fields.specs.Inner.Ends.{lo_of, hi_of}
use Rattle.judge.specs.Inner.Replay.{held_in}
use Rattle.judge.proofs.DequeLaws.{content_last, content_empty}
use Rattle.judge.proofs.replay.lawful.Goals as goal

-- what holds of the kind of call that the code was told holds of the call's own
of_kind : (new : Bool) (node : ℕ) (held : List ℕ) (x w did : What) (r : Bool) → did ≡ x → did ≡ w → r ≡ lawful new x node held
    → r ≡ lawful new w node held
of_kind new node held x w did r is told h = h ∙ ap (λ (y : What). lawful new y node held) (sym is ∙ told)

pub returns-in-Pushed : goal.returns-in-Pushed
returns-in-Pushed c =
    let a = c.args in
    of_kind _ a.e.node (held_in a.row.now a.ends) Pushed _ _ _ c.in-Pushed.is c.what.ensures
    (ap not c.among.ensures)

pub returns-then-lo-hi : goal.returns-then-lo-hi
returns-then-lo-hi c =
    let a = c.args in
    of_kind _ a.e.node (held_in a.row.now a.ends) BottomNode _ _ _ c.in-BottomNode.is c.what.ensures
    (content_last a.row.now (lo_of a.ends) (hi_of a.ends) a.e.node c.if-lo-hi.true c.requires.0)

pub returns-in-BottomNil : goal.returns-in-BottomNil
returns-in-BottomNil c =
    let a = c.args in
    of_kind _ a.e.node (held_in a.row.now a.ends) BottomNil _ _ _ c.in-BottomNil.is c.what.ensures
    (content_empty a.row.now (lo_of a.ends) (hi_of a.ends) c.requires.0)
