-- Top and tag in one word: the three theorems.
use mathlib.Core.Path.{refl, ap, ◌∙◌}
use lib.ListN.{length}
use Rattle.word.proofs.RangeLaws.{in_range_lem}
use Rattle.steps.specs.Step.{loaded, loaded_slot, Stepped}
use Rattle.steps.specs.Packed.{packed, packed_word, unpacked, unpacked_step}
use Rattle.steps.proofs.StepLaws.{sixteen_in}
use Rattle.steps.proofs.PackedLaws.{on_three}
use Rattle.std.specs.Prelude.{Ok}
use Rattle.desk.proofs.DeskLaws.{at_desk}
use Rattle.base.proofs.Settled.{one_value}
use Rattle.theorems.specs.OneWord.{OneWord}
use Rattle.theorems.proofs.Programs.ShutOut.{front_handed_back}

pub one_word : OneWord
one_word = record {
  every_step = λ W C w slots s answer after h e.
      let d = sixteen_in W C (length slots) (unpacked w) (loaded slots (loaded_slot s)) s (in_range_lem W C (length slots) (unpacked w) s e) in
      (h.unpacks.stepped ∙ d, h.aged ∙ ap (λ (o : Stepped). packed o.word.top o.word.tag) d, h.unpacks.kept);
  every_run = λ file buffer w w' b b' r r' t t' p q.
      let d = front_handed_back file buffer w b r t p in
      let k = front_handed_back file buffer w' b' r' t' q in
      (d, one_value d.part k.part, one_value d.counts k.counts, one_value d.queues k.queues);
  desk_same = λ W C w slots s answer after h d e.
      at_desk W C w slots s after (unpacked_step answer) (Ok answer.next) e
      (on_three W C w slots s (packed_word w) answer (unpacked_step answer) after h refl d refl) refl;
}
