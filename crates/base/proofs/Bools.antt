-- Truth values: what a conjunction, a disjunction and a negation say.
use mathlib.Core.Path.{◌≡◌, refl, sym}
use mathlib.Core.Bool.{Bool, true, false, ◌&&◌, ◌||◌, not}
use Prim.Native.Nat.{ℕ}
use native.Mathlib.Omega.{arith}

pub contra : {A : Type 0} (t : Bool) → t ≡ true → t ≡ false → A
contra true p q = absurd (let z : ◌≡◌ {A = ℕ} 0 1 = cc in omega arith)
contra false p q = absurd (let z : ◌≡◌ {A = ℕ} 0 1 = cc in omega arith)

pub not_so : (t : Bool) → (t ≡ true → ⊥) → t ≡ false
not_so true h = absurd (h refl)
not_so false h = refl

pub and_i : {s t : Bool} → s ≡ true → t ≡ true → (s && t) ≡ true
and_i p q = rw (p, q)

pub and_0 : (s t : Bool) → (s && t) ≡ true → s ≡ true
and_0 true t h = refl
and_0 false t h = h

pub and_1 : (s t : Bool) → (s && t) ≡ true → t ≡ true
and_1 true t h = h
and_1 false t h = contra false h refl

pub or_l : (s t : Bool) → s ≡ true → (s || t) ≡ true
or_l s t h = rw h

pub or_r : (s t : Bool) → t ≡ true → (s || t) ≡ true
or_r true t h = refl
or_r false t h = h

pub or_e : {A : Type 0} (s t : Bool) → (s || t) ≡ true → (s ≡ true → A) → (t ≡ true → A) → A
or_e true t h a b = a refl
or_e false t h a b = b h

pub by_both : (s t : Bool) → (s ≡ true → t ≡ true) → (t ≡ true → s ≡ true) → s ≡ t
by_both true t h k = sym (h refl)
by_both false true h k = k refl
by_both false false h k = refl

pub or_0 : (s t : Bool) → (s || t) ≡ false → s ≡ false
or_0 true t h = h
or_0 false t h = refl

pub or_1 : (s t : Bool) → (s || t) ≡ false → t ≡ false
or_1 true t h = contra true refl h
or_1 false t h = h

pub guarded : (s t : Bool) → (s ≡ true → t ≡ false) → (s && t) ≡ false
guarded true t h = h refl
guarded false t h = refl

-- `not s || t`: if s then t
pub if_so_lem : (s t : Bool) → (not s || t) ≡ true → s ≡ true → t ≡ true
if_so_lem true t h e = h
if_so_lem false t h e = contra false e refl

pub so_if : (s t : Bool) → (s ≡ true → t ≡ true) → (not s || t) ≡ true
so_if true t h = h refl
so_if false t h = refl

pub not_i : (t : Bool) → (t ≡ true → ⊥) → not t ≡ true
not_i true h = absurd (h refl)
not_i false h = refl

pub not_e : (t : Bool) → not t ≡ true → t ≡ true → ⊥
not_e true h e = contra false h refl
not_e false h e = contra false e refl

pub not_f : (t : Bool) → not t ≡ false → t ≡ true
not_f true h = refl
not_f false h = sym h
