-- Rule 1 of kind, result and node together: what the rule's phrases say.
use mathlib.Core.Path.{◌≡◌, refl, sym}
use mathlib.Core.Bool.{Bool, true, false, cond, ◌&&◌, ◌||◌, not, and-false, beq}
use Prim.Native.Nat.{ℕ, ◌<◌, ◌≤◌}
use native.Mathlib.Omega.{arith}
use native.Mathlib.Decide.{dec_lt}
use borrow.Author.Tests.{eq-eqb, ne_eqb, lt-leb}
use lib.Dec.{eqb, leb}
use Rattle.call_log.specs.Numbers.{push, bottom_pop, top_pop, nil, done, full, lost, most_result}
use Rattle.rules.specs.Search.{any}
use Rattle.rules.proofs.SearchLaws.{any_none}
use Rattle.fields.specs.Inner.Fields.{possible}

-- the phrases on kind k, result r, whether the node is 0 and whether the queue is the process's own, after others that say s
abbrev phrases : Bool → ℕ → ℕ → Bool → Bool → Bool
phrases s k r none own =
    s && (leb push k && leb k top_pop) && leb r most_result
    && (not (eqb k push || eqb k bottom_pop) || own)
    && (not (eqb r full) || eqb k push) && (not (eqb r nil) || not (eqb k push)) && (not (eqb r lost) || eqb k top_pop)
    && beq none (eqb r nil || eqb r lost)

abbrev together : Bool → ℕ → ℕ → Bool → Bool → Bool
together s k r none own = s && possible k r (not none) && (eqb k top_pop || own)

-- they agree on the sixteen pairs of kind and result
abbrev differ : Bool → Bool → ℕ → ℕ → Bool
differ none own k r = not (beq (together true k r none own) (phrases true k r none own))

sixteen : (none own : Bool) → any (λ k. any (differ none own k) 4) 4 ≡ false
sixteen true true = refl
sixteen true false = refl
sixteen false true = refl
sixteen false false = refl

alike : (s t : Bool) → not (beq s t) ≡ false → s ≡ t
alike true true h = refl
alike true false h = h
alike false true h = sym h
alike false false h = refl

-- and no other pair is allowed
no_kind : (k r : ℕ) (node : Bool) → 4 ≤ k → possible k r node ≡ false
no_kind k r true h = rw (ne_eqb k push (λ e. omega arith), ne_eqb k bottom_pop (λ e. omega arith), ne_eqb k top_pop (λ e. omega arith)) refl
no_kind k r false h = rw (ne_eqb k bottom_pop (λ e. omega arith), ne_eqb k top_pop (λ e. omega arith)) refl

no_result : (k r : ℕ) (node : Bool) → 4 ≤ r → possible k r node ≡ false
no_result k r true h =
    rw (ne_eqb r done (λ e. omega arith), ne_eqb r full (λ e. omega arith), and-false (eqb k push), and-false (eqb k bottom_pop || eqb k top_pop)) refl
no_result k r false h =
    rw (ne_eqb r nil (λ e. omega arith), ne_eqb r lost (λ e. omega arith), and-false (eqb k bottom_pop || eqb k top_pop), and-false (eqb k top_pop)) refl

pub phrases_together : (s : Bool) (k r : ℕ) (none own : Bool) → together s k r none own ≡ phrases s k r none own
phrases_together false k r none own = refl
phrases_together true k r none own = split (dec_lt k 4) (dec_lt r 4)
  where
    split : Dec (k < 4) → Dec (r < 4) → together true k r none own ≡ phrases true k r none own
    split (yes u) (yes v) = alike (together true k r none own) (phrases true k r none own)
        (any_none (differ none own k) 4 (any_none (λ k. any (differ none own k) 4) 4 (sixteen none own) k u) r v)
    split (yes u) (no v) = rw (no_result k r (not none) (omega arith), lt-leb r 3 (omega arith), and-false (leb push k && leb k top_pop)) refl
    split (no u) v = rw (no_kind k r (not none) (omega arith), lt-leb k 3 (omega arith), and-false (leb push k)) refl
