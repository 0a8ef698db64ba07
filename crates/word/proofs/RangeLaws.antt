-- `in_range` as facts on numbers, and back: what proofs use in place of the tests.
use mathlib.Core.Path.{◌≡◌, refl}
use mathlib.Core.Bool.{true, ◌&&◌}
use Rattle.std.proofs.lemmas.Bool.{and_parts, and_from}
use Prim.Native.Nat.{ℕ, ◌^◌, ◌≤◌, ◌<◌}
use borrow.Author.Tests.{ltb-true, leb-true, eqb-true, lt-ltb, le-leb, eq-eqb}
use Rattle.word.specs.Range.{sizes_in, age_in, take_in, pop_in, stage_in, in_range}
use Rattle.word.specs.Inner.InRange.{SizesIn, StageIn, InRange}
use Rattle.word.specs.declared.Word.{Word}
use Rattle.word.specs.declared.Stage.{Stage}
use Rattle.word.specs.declared.Stage.TheVariants.{Idle, P1, P2, P3, T1, T2, T3, T4, B1, B2, B3, B4, B5, B6, B7}

module _ (W C : ℕ) where
  sizes_in_lem : (slots : ℕ) → sizes_in W C slots ≡ true → SizesIn W C slots
  sizes_in_lem slots e =
      let d = and_parts _ _ e in
      let c = and_parts _ _ d.0 in
      let b = and_parts _ _ c.0 in
      record {
        width_high = leb-true W 16 b.0;
        size_low = leb-true 1 C b.1;
        size_high = leb-true C 64 c.1;
        all = eqb-true slots C d.1;
      }

  in_sizes : (slots : ℕ) → SizesIn W C slots → sizes_in W C slots ≡ true
  in_sizes slots h =
      and_from _ _ (and_from _ _ (and_from _ _ (le-leb W 16 h.width_high) (le-leb 1 C h.size_low)) (le-leb C 64 h.size_high)) (eq-eqb slots C h.all)

  age_in_lem : (t g : ℕ) → age_in W C t g ≡ true → (t ≤ C) × (g < 2 ^ W)
  age_in_lem t g e = let p = and_parts _ _ e in (leb-true t C p.0, ltb-true g (2 ^ W) p.1)

  in_age : (t g : ℕ) → t ≤ C → g < 2 ^ W → age_in W C t g ≡ true
  in_age t g h k = and_from _ _ (le-leb t C h) (lt-ltb g (2 ^ W) k)

  pop_in_lem : (b : ℕ) → pop_in C b ≡ true → (1 ≤ b) × (b ≤ C)
  pop_in_lem b e = let p = and_parts _ _ e in (leb-true 1 b p.0, leb-true b C p.1)

  in_pop : (b : ℕ) → 1 ≤ b → b ≤ C → pop_in C b ≡ true
  in_pop b h k = and_from _ _ (le-leb 1 b h) (le-leb b C k)

  take_in_lem : (t g b : ℕ) → take_in W C t g b ≡ true → (t < C) × (g < 2 ^ W) × (b ≤ C)
  take_in_lem t g b e =
      let p = and_parts _ _ e in
      let q = and_parts _ _ p.0 in
      (ltb-true t C q.0, ltb-true g (2 ^ W) q.1, leb-true b C p.1)

  in_take : (t g b : ℕ) → t < C → g < 2 ^ W → b ≤ C → take_in W C t g b ≡ true
  in_take t g b h k l = and_from _ _ (and_from _ _ (lt-ltb t C h) (lt-ltb g (2 ^ W) k)) (le-leb b C l)

  -- of an owner past B4
  owner_in : (b t g : ℕ) → (pop_in C b && age_in W C t g) ≡ true → (1 ≤ b) × (b ≤ C) × (t ≤ C) × (g < 2 ^ W)
  owner_in b t g e =
      let p = and_parts _ _ e in
      let q = pop_in_lem b p.0 in
      let r = age_in_lem t g p.1 in
      (q.0, q.1, r.0, r.1)

  in_owner : (b t g : ℕ) → (1 ≤ b) × (b ≤ C) × (t ≤ C) × (g < 2 ^ W) → (pop_in C b && age_in W C t g) ≡ true
  in_owner b t g h = and_from _ _ (in_pop b h.0 h.1) (in_age t g h.2 h.3)

  pub stage_in_lem : (s : Stage) → stage_in W C s ≡ true → StageIn W C s
  stage_in_lem Idle e = tt
  stage_in_lem (P1 node) e = tt
  stage_in_lem (P2 node b) e = ltb-true b C e
  stage_in_lem (P3 b) e = ltb-true b C e
  stage_in_lem T1 e = tt
  stage_in_lem (T2 t g) e = age_in_lem t g e
  stage_in_lem (T3 t g b) e = take_in_lem t g b e
  stage_in_lem (T4 t g b x) e = take_in_lem t g b e
  stage_in_lem B1 e = tt
  stage_in_lem (B2 b) e = pop_in_lem b e
  stage_in_lem (B3 b) e = pop_in_lem b e
  stage_in_lem (B4 b x) e = pop_in_lem b e
  stage_in_lem (B5 b x t g) e = owner_in b t g e
  stage_in_lem (B6 b x t g) e = owner_in b t g e
  stage_in_lem (B7 b x t g) e = owner_in b t g e

  pub in_stage : (s : Stage) → StageIn W C s → stage_in W C s ≡ true
  in_stage Idle h = refl
  in_stage (P1 node) h = refl
  in_stage (P2 node b) h = lt-ltb b C h
  in_stage (P3 b) h = lt-ltb b C h
  in_stage T1 h = refl
  in_stage (T2 t g) h = in_age t g h.0 h.1
  in_stage (T3 t g b) h = in_take t g b h.0 h.1 h.2
  in_stage (T4 t g b x) h = in_take t g b h.0 h.1 h.2
  in_stage B1 h = refl
  in_stage (B2 b) h = in_pop b h.0 h.1
  in_stage (B3 b) h = in_pop b h.0 h.1
  in_stage (B4 b x) h = in_pop b h.0 h.1
  in_stage (B5 b x t g) h = in_owner b t g h
  in_stage (B6 b x t g) h = in_owner b t g h
  in_stage (B7 b x t g) h = in_owner b t g h

  pub in_range_lem : (slots : ℕ) (w : Word) (s : Stage) → in_range W C slots w s ≡ true → InRange W C slots w s
  in_range_lem slots w s e =
      let p = and_parts _ _ e in
      let q = and_parts _ _ p.0 in
      let r = and_parts _ _ q.1 in
      let age = age_in_lem w.top w.tag r.1 in
      record {
        sizes = sizes_in_lem slots q.0;
        word = record { bottom_in = leb-true w.bottom C r.0; top_in = age.0; tag_in = age.1 };
        stage = stage_in_lem s p.1;
      }

  pub range_in : (slots : ℕ) (w : Word) (s : Stage) → InRange W C slots w s → in_range W C slots w s ≡ true
  range_in slots w s h =
      let word = and_from _ _ (le-leb w.bottom C h.word.bottom_in) (in_age w.top w.tag h.word.top_in h.word.tag_in) in
      and_from _ _ (and_from _ _ (in_sizes slots h.sizes) word) (in_stage s h.stage)
