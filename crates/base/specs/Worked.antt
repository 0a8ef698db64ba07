-- Numbers and buffers, computed: a number, and one whose second byte is not there; the bytes of a number; bytes put into a buffer, with room and without.
use Rattle.std.specs.Prelude.{ℕ, [], ◌∷◌, ◌≡◌, refl}
use Rattle.base.specs.Bytes.{number_at, pair, put_at}

worked : (number_at (9 ∷ 1 ∷ 2 ∷ []) 1 ≡ 258) × (number_at (9 ∷ 1 ∷ []) 1 ≡ 256) × (pair 258 ≡ 1 ∷ 2 ∷ [])
    × (put_at {A = ℕ} 1 (7 ∷ 8 ∷ []) (1 ∷ 2 ∷ 3 ∷ 4 ∷ []) ≡ 1 ∷ 7 ∷ 8 ∷ 4 ∷ [])
    × (put_at {A = ℕ} 3 (7 ∷ 8 ∷ []) (1 ∷ 2 ∷ 3 ∷ 4 ∷ []) ≡ 1 ∷ 2 ∷ 3 ∷ 4 ∷ [])
worked = (refl, refl, refl, refl, refl)
