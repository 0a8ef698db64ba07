-- What the bench holds for a state of a run.
use Prim.Native.Nat.{ℕ, ◌<◌}
use mathlib.Core.Path.{◌≡◌, sym, ap, ◌∙◌}
use mathlib.Core.List.{List, []}
use native.Mathlib.Omega.{arith}
use native.Mathlib.Decide.{dec_lt}
use lib.ListN.{get_or, get_or-eq_default}
use Rattle.steps.specs.Packed.{packed_word, unpacked}
use Rattle.steps.specs.declared.PackedWord.{PackedWord}
use Rattle.steps.proofs.PackedLaws.{packed_again}
use Rattle.runs.specs.State.{Bench, Queue, State, fresh, queue_at}
use Rattle.bench.specs.Inner.Layout.{fresh_held, bench_in, Becomes}
use Rattle.bench.specs.declared.Bench.{Bench as HeldBench}
use Rattle.bench.specs.declared.Queue.{Queue as HeldQueue}
use Rattle.bench.specs.Held.{EveryStateHeld}
use Rattle.bench.proofs.LayoutLaws.{slots_get, slot, queue_is}

packed_unpacked : (w : PackedWord) → packed_word (unpacked w) ≡ w
packed_unpacked w = λ i. record { bottom = w.bottom; age = record { word = packed_again w.age.word i } }

module _ (C n : ℕ) (log : List ℕ) (s : State) (b : HeldBench) (flat log' : List ℕ) (h : Becomes C n log s b flat log') where
  word : (q : ℕ) → Dec (q < 8) → (get_or b.queues q fresh_held).word ≡ packed_word (queue_at s.bench q).word
  word q (yes l) =
      sym (packed_unpacked (get_or b.queues q fresh_held).word)
      ∙ ap (λ (m : Queue). packed_word m.word) (sym (queue_is b q l)) ∙ ap (λ (x : Bench). packed_word (queue_at x q).word) h.bench
  word q (no l) =
      ap (λ (m : HeldQueue). m.word) (get_or-eq_default b.queues fresh_held {n = q} (omega (arith, h.whole.queues)))
      ∙ ap (λ (m : Queue). packed_word m.word) (sym (get_or-eq_default (bench_in b).queues fresh {n = q} (omega arith)))
      ∙ ap (λ (x : Bench). packed_word (queue_at x q).word) h.bench

pub every_state_held : EveryStateHeld
every_state_held C n log s b flat log' h = record {
  words = λ q. word C n log s b flat log' h q (dec_lt q 8);
  slots =
      λ q i l k. sym (slot C flat q i k) ∙ ap (λ (r : List ℕ). get_or r i 0) (sym (slots_get C flat q l))
      ∙ ap (λ (x : List (List ℕ)). get_or (get_or x q []) i 0) h.slots;
}
