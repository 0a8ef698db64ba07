-- The trailing zeros of the set of half-done processes give the lowest of them; zero means that the run is closed.
use Prim.Native.Nat.{ℕ, suc, ◌+◌, ◌-◌, ◌*◌, ◌/◌, ◌%◌, ◌^◌, ◌≤◌, ◌<◌}
use mathlib.Core.Path.{◌≡◌, refl, sym, ap, ◌∙◌}
use mathlib.Core.Bool.{Bool, true, false, cond}
use mathlib.Core.List.{List, [], ◌∷◌}
use native.Mathlib.Omega.{arith}
use native.Mathlib.Nat.{div-add-mod', mod-lt, pow-suc}
use lib.Count.{count_trailing_zeros, trailing_of_zero, under}
use lib.ListN.{length, get_or, drop, length-drop}
use lib.Pow.{pow_mono}
use lib.Seq.{drop-cons}
use Rattle.word.specs.Stages.{is_idle}
use Rattle.runs.specs.Run.{lowest}
use Rattle.runs.specs.State.{Process, nobody}
use Rattle.runs.specs.Inner.Half.{bit, half_done}

pub bit_most : (t : Bool) → bit t ≤ 1
bit_most true = omega arith
bit_most false = omega arith

-- the set of n processes is below 2^n
pub half_below : (rs : List Process) → half_done rs < 2 ^ length rs
half_below [] = omega arith
half_below (r ∷ rs) = omega (arith, half_below rs, bit_most (is_idle r.stage), pow-suc 2 (length rs))

-- its trailing zeros
low_bit : (t : Bool) (m : ℕ) → (2 * m + bit t) % 2 ≡ bit t
low_bit t m = omega (arith, bit_most t, div-add-mod' (2 * m + bit t) 2, mod-lt (2 * m + bit t) {m = 2} (omega arith))

high_bits : (t : Bool) (m : ℕ) → (2 * m + bit t) / 2 ≡ m
high_bits t m = omega (arith, bit_most t, div-add-mod' (2 * m + bit t) 2, mod-lt (2 * m + bit t) {m = 2} (omega arith))

bit_under : (t : Bool) (n : ℕ) → under (bit t) n ≡ cond t (suc n) 0
bit_under true n = refl
bit_under false n = refl

pub half_lowest : (rs : List Process) → count_trailing_zeros (length rs) (half_done rs) ≡ lowest rs
unfolding count_trailing_zeros
half_lowest [] = refl
half_lowest (r ∷ rs) =
    let t = is_idle r.stage in
    rw (low_bit t (half_done rs), high_bits t (half_done rs), half_lowest rs) (bit_under t (lowest rs))

-- zero means that the run is closed
pub none_half : (rs : List Process) → half_done rs ≡ 0 → lowest rs ≡ length rs
none_half rs e = sym (half_lowest rs) ∙ ap (count_trailing_zeros (length rs)) e ∙ trailing_of_zero (length rs)

pub some_half : (rs : List Process) → (half_done rs ≡ 0 → ⊥) → lowest rs < length rs
some_half [] h = absurd (h refl)
some_half (r ∷ rs) h = by_stage (is_idle r.stage) refl (some_half rs)
  where
    by_stage : (t : Bool) → is_idle r.stage ≡ t → ((half_done rs ≡ 0 → ⊥) → lowest rs < length rs) → lowest (r ∷ rs) < suc (length rs)
    by_stage true e more = let b : bit (is_idle r.stage) ≡ 0 = ap bit e in rw e (omega (arith, more (λ z. h (omega arith))))
    by_stage false e more = rw e (omega arith)

-- one process more, from the highest on
pub half_next : (rs : List Process) (i : ℕ) (d : Process) → i < length rs
    → half_done (drop i rs) ≡ 2 * half_done (drop (suc i) rs) + bit (is_idle (get_or rs i d).stage)
half_next rs i d h = ap half_done (drop-cons rs i d h)

-- the program's loop, from the highest process down to process i
module _ (rs : List Process) (eight : length rs ≡ 8) where
  pub half_fits : (i set : ℕ) → set ≡ half_done (drop i rs) → 0 < i → set < 128
  half_fits i set e h =
      let m = pow_mono {i = length (drop i rs)} {j = 7} (simp length-drop (omega arith)) in
      omega (arith, half_below (drop i rs))

  pub half_loop : (i set half : ℕ) → set ≡ half_done (drop i rs) → 0 < i → i ≤ 8 → half ≡ bit (is_idle (get_or rs (i - 1) nobody).stage)
      → 2 * set + half ≡ half_done (drop (i - 1) rs)
  half_loop i set half e h l d =
      let k : suc (i - 1) ≡ i = omega arith in
      rw (half_next rs (i - 1) nobody (omega arith), k, e, d)

  -- the set at the closing
  pub next_closed : (set : ℕ) → set ≡ half_done rs → count_trailing_zeros 8 set ≡ lowest rs
  next_closed set e = ap (count_trailing_zeros 8) e ∙ ap (λ (n : ℕ). count_trailing_zeros n (half_done rs)) (sym eight) ∙ half_lowest rs

  pub run_closed : (set : ℕ) → set ≡ half_done rs → set ≡ 0 → lowest rs ≡ 8
  run_closed set e z = none_half rs (sym e ∙ z) ∙ eight

  pub run_open : (set : ℕ) → set ≡ half_done rs → (set ≡ 0 → ⊥) → count_trailing_zeros 8 set < 8
  run_open set e z = omega (arith, next_closed set e, some_half rs (λ h. z (e ∙ h)))
