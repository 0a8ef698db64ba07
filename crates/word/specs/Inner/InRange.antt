-- What it is to be in range, as facts on numbers: the rows of the table ask for them, and `in_range` tests them.
use Rattle.std.specs.Prelude.{◌≡◌, ℕ, ◌^◌, ◌≤◌, ◌<◌}
use Rattle.word.specs.declared.Word.{Word}
use Rattle.word.specs.declared.Stage.{Stage}
use Rattle.word.specs.declared.Stage.TheVariants.{Idle, P1, P2, P3, T1, T2, T3, T4, B1, B2, B3, B4, B5, B6, B7}

pub record SizesIn (W C slots : ℕ) : Type 0 where
  pub width_high : W ≤ 16
  pub size_low : 1 ≤ C
  pub size_high : C ≤ 64
  pub all : slots ≡ C

pub record WordIn (W C : ℕ) (w : Word) : Type 0 where
  pub bottom_in : w.bottom ≤ C
  pub top_in : w.top ≤ C
  pub tag_in : w.tag < 2 ^ W

abbrev pub StageIn : ℕ → ℕ → Stage → Type 0
StageIn W C Idle = Unit {0}
StageIn W C (P1 node) = Unit {0}
StageIn W C (P2 node b) = b < C
StageIn W C (P3 b) = b < C
StageIn W C T1 = Unit {0}
StageIn W C (T2 t g) = (t ≤ C) × (g < 2 ^ W)
StageIn W C (T3 t g b) = (t < C) × (g < 2 ^ W) × (b ≤ C)
StageIn W C (T4 t g b x) = (t < C) × (g < 2 ^ W) × (b ≤ C)
StageIn W C B1 = Unit {0}
StageIn W C (B2 b) = (1 ≤ b) × (b ≤ C)
StageIn W C (B3 b) = (1 ≤ b) × (b ≤ C)
StageIn W C (B4 b x) = (1 ≤ b) × (b ≤ C)
StageIn W C (B5 b x t g) = (1 ≤ b) × (b ≤ C) × (t ≤ C) × (g < 2 ^ W)
StageIn W C (B6 b x t g) = (1 ≤ b) × (b ≤ C) × (t ≤ C) × (g < 2 ^ W)
StageIn W C (B7 b x t g) = (1 ≤ b) × (b ≤ C) × (t ≤ C) × (g < 2 ^ W)

pub record InRange (W C slots : ℕ) (w : Word) (s : Stage) : Type 0 where
  pub sizes : SizesIn W C slots
  pub word : WordIn W C w
  pub stage : StageIn W C s
