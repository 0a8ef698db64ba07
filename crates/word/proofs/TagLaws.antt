-- What is true of the tag, once, over its width W.
use mathlib.Core.Path.{◌≡◌, sym, ◌∙◌}
use mathlib.Core.Bool.{true}
use Prim.Native.Nat.{ℕ, zero, suc, ◌+◌, ◌-◌, ◌*◌, ◌%◌, ◌^◌, ◌≤◌, ◌<◌}
use native.Mathlib.Nat.{mod-lt, mod-eq_of_lt, mod-eq-sub-mod, mod_self, mod-add-mod, one-mul}
use native.Mathlib.Decide.{dec_lt}
use native.Mathlib.Omega.{arith}
use lib.Pow.{pow_pos, pow-lt, mod-mod-pow, shl_exact}
use borrow.Author.Tests.{lt-ltb}
use Rattle.word.specs.Tag.{next_tag, is_tag}

-- the one law for the code: a number that has gone round at 16 bits goes round at W of them as the number itself does
pub goes_round : (W n : ℕ) → W ≤ 16 → n % 2 ^ 16 % 2 ^ W ≡ n % 2 ^ W
goes_round W n h =
    let e : 16 - W + W ≡ 16 = omega arith in
    rw e at (mod-mod-pow n (16 - W) W)

-- 1 << W
pub tags : (W : ℕ) → W < 16 → (1 * 2 ^ W) % 2 ^ 16 ≡ 2 ^ W
tags W h = shl_exact 1 W 16 (omega arith) (omega arith) ∙ one-mul (2 ^ W)

-- the next tag, of 16 bits, whatever the width
pub next_narrow : (W g up : ℕ) → W < 16 → up ≡ (g + 1) % 2 ^ 16 → up % ((1 * 2 ^ W) % 2 ^ 16) ≡ next_tag W g % 65536
next_narrow W g up h e =
    let d : next_tag W g % 65536 ≡ next_tag W g = mod-eq_of_lt (omega (arith, mod-lt (g + 1) (pow_pos W), pow-lt h)) in
    rw (tags W h, e, d) (goes_round W (g + 1) (omega arith))

pub next_wide : (W g up : ℕ) → 16 ≤ W → up ≡ (g + 1) % 2 ^ 16 → up ≡ next_tag W g % 65536
next_wide W g up h e =
    let d : W - 16 + 16 ≡ W = omega arith in
    e ∙ sym (rw d at (mod-mod-pow (g + 1) (W - 16) 16))

pub tag_wide : (W g : ℕ) → 16 ≤ W → g < 2 ^ 16 → true ≡ is_tag W g
tag_wide W g h k = elim (dec_lt 16 W) [
  | yes p ↦ sym (lt-ltb g (2 ^ W) (omega (arith, pow-lt {i = 16} {j = W} p)))
  | no p ↦ let e : W ≡ 16 = omega arith in rw e (sym (lt-ltb g (2 ^ 16) k))
]

-- the next tag is below 2^W
pub next_below : (W g : ℕ) → next_tag W g < 2 ^ W
next_below W g = mod-lt (g + 1) (pow_pos W)

-- and differs from the present one, where there is a tag: W is 1 or more
differs : (m g : ℕ) → 1 < m → (g + 1) % m ≡ g → ⊥
differs m g h e = elim (dec_lt (g + 1) m) [
  | yes p ↦ omega (arith, mod-eq_of_lt p)
  | no p ↦
      let q : g + 1 ≡ m = omega (arith, mod-lt (g + 1) {m = m} (omega arith)) in
      omega (arith, mod_self m, rw q at e)
]

pub next_differs : (W g : ℕ) → 1 ≤ W → next_tag W g ≡ g → ⊥
next_differs W g h e = differs (2 ^ W) g (pow-lt {i = 0} {j = W} (omega arith)) e

-- the tag after k resets
abbrev pub tag_after : ℕ → ℕ → ℕ → ℕ
tag_after W zero g = g
tag_after W (suc k) g = next_tag W (tag_after W k g)

pub after_resets : (W k g : ℕ) → g < 2 ^ W → tag_after W k g ≡ (g + k) % 2 ^ W
after_resets W zero g h = let e : g + 0 ≡ g = omega arith in rw (e, mod-eq_of_lt h)
after_resets W (suc k) g h =
    let e : g + k + 1 ≡ g + suc k = omega arith in
    rw (after_resets W k g h, mod-add-mod, e)

-- equal tags and fewer than 2^W resets between mean none
comes_back : (m g k : ℕ) → g < m → k < m → (g + k) % m ≡ g → k ≡ 0
comes_back m g k h j e = elim (dec_lt (g + k) m) [
  | yes p ↦ omega (arith, mod-eq_of_lt p)
  | no p ↦ omega (arith, mod-eq-sub-mod {n = g + k} {m = m} (omega arith), mod-eq_of_lt {n = g + k - m} {m = m} (omega arith))
]

pub equal_tags : (W g k : ℕ) → g < 2 ^ W → k < 2 ^ W → tag_after W k g ≡ g → k ≡ 0
equal_tags W g k h j e = comes_back (2 ^ W) g k h j (sym (after_resets W k g h) ∙ e)
