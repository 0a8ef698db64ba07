-- `fields::keeps_fields` meets its contract: what kind, result and node may be together is what the rule's phrases on them say.
use mathlib.Core.Path.{◌≡◌, ap, ◌∙◌}
use mathlib.Core.Bool.{Bool, ◌&&◌, ◌||◌}
use lib.Dec.{eqb, ltb, leb}
use Rattle.rules.specs.Rules.{last_end}
use Rattle.fields.proofs.FieldLaws.{phrases_together}
use Rattle.fields.proofs.keeps_fields.Goals as goal

pub returns : goal.returns
returns c =
    let a = c.args in
    let e = a.e in
    ap (λ (t : Bool). ltb e.process a.p && ltb e.queue a.p && t && (eqb e.kind 3 || eqb e.process e.queue)
    && leb e.start e.end && leb e.end last_end) c.possible.ensures
    ∙ ap (λ (t : Bool). t && leb e.start e.end && leb e.end last_end)
    (phrases_together (ltb e.process a.p && ltb e.queue a.p) e.kind e.result (eqb e.node 0) (eqb e.process e.queue))
