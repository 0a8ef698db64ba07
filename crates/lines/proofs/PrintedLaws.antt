-- A stage as it is printed, in the words in which it is typed: its name, and each number after a space. It is read back as that stage.
use Prim.Native.Nat.{ℕ, zero, suc, ◌+◌, ◌*◌, ◌-◌, ◌/◌, ◌%◌, ◌<◌, ◌≤◌}
use mathlib.Core.Path.{◌≡◌, refl, sym, ap, ◌∙◌}
use mathlib.Core.Bool.{true, false, cond}
use mathlib.Core.List.{List, [], ◌∷◌, ◌++◌}
use native.Mathlib.Omega.{arith}
use lib.Dec.{ltb}
use lib.ListN.{get_or, drop}
use Prim.Native.String.{String}
use borrow.Author.Tests.{le-ltb, ne_eqb}
use Rattle.word.specs.Shown.{shown}
use Rattle.word.specs.Stages.{listed, row_number}
use Rattle.word.specs.declared.Stage.{Stage}
use Rattle.word.specs.declared.Stage.TheVariants.{Idle, P1, P2, P3, T1, T2, T3, T4, B1, B2, B3, B4, B5, B6, B7}
use Rattle.std.specs.Prelude.{Option, Some, Ok, codes, decimal}
use Rattle.std.proofs.lemmas.Fmt.{decimal_digit, decimal_step}
use Rattle.std.proofs.Common.{append-nil, append_assoc}
use Rattle.words.specs.declared.Words.{Words}
use Rattle.base.proofs.Cases.{if_lt}
use Rattle.words.specs.Words.{blank, counted, fed, ended, words_of}
use Rattle.lines.specs.Line.{typed, spelling, line_in, line_of}
use Rattle.base.specs.{Bytes.Two, Lists.All}

-- the last k decimal digits of n
abbrev pub digits : ℕ → ℕ → List ℕ
digits zero n = []
digits (suc k) n = digits k (n / 10) ++ ((48 + n % 10) ∷ [])

-- how many digits a number below 100,000 has
abbrev pub places : ℕ → ℕ
places n = cond (ltb n 10) 1 (cond (ltb n 100) 2 (cond (ltb n 1000) 3 (cond (ltb n 10000) 4 5)))

abbrev pub spaced : List ℕ → List ℕ
spaced [] = []
spaced (n ∷ numbers) = 32 ∷ (digits (places n) n ++ spaced numbers)

-- the stages by their rows
abbrev pub names : List String
names = "idle" ∷ "P1" ∷ "P2" ∷ "P3" ∷ "T1" ∷ "T2" ∷ "T3" ∷ "T4" ∷ "B1" ∷ "B2" ∷ "B3" ∷ "B4" ∷ "B5" ∷ "B6" ∷ "B7" ∷ []

abbrev pub name_of : Stage → String
name_of s = get_or names (row_number s) ""

abbrev pub numbers_of : Stage → List ℕ
numbers_of s = drop 1 (listed s)

abbrev pub printed : Stage → List ℕ
printed s = typed (name_of s) ++ spaced (numbers_of s)

-- digits that follow one another, as a number after n
abbrev counting : Option ℕ → List ℕ → Option ℕ
counting n [] = n
counting n (c ∷ s) = counting (counted n c) s

counting_append : (n : Option ℕ) (s t : List ℕ) → counting n (s ++ t) ≡ counting (counting n s) t
counting_append n [] t = refl
counting_append n (c ∷ s) t = counting_append (counted n c) s t

words_append : (w : Words) (s t : List ℕ) → words_of w (s ++ t) ≡ words_of (words_of w s) t
words_append w [] t = refl
words_append w (c ∷ s) t = words_append (fed w c) s t

one_digit : (n d : ℕ) → d < 10 → 10 * n + d < 65536 → counted (Some n) (48 + d) ≡ Some (10 * n + d)
one_digit n d h k =
    let e : 48 + d - 48 ≡ d = omega arith in
    rw (le-ltb (48 + d) 48 (omega arith), le-ltb 57 (48 + d) (omega arith), e, le-ltb 65535 (10 * n + d) (omega arith))

-- 10 to the power k
abbrev room : ℕ → ℕ
room zero = 1
room (suc k) = 10 * room k

digits_count : (k n : ℕ) → n < room k → n < 65536 → counting (Some 0) (digits k n) ≡ Some n
digits_count zero n h l = ap Some (omega arith)
digits_count (suc k) n h l =
    let e : counting (Some 0) (digits k (n / 10)) ≡ Some (n / 10) = digits_count k (n / 10) (omega arith) (omega arith) in
    counting_append (Some 0) (digits k (n / 10)) ((48 + n % 10) ∷ [])
    ∙ ap (λ (m : Option ℕ). counted m (48 + n % 10)) e
    ∙ one_digit (n / 10) (n % 10) (omega arith) (omega arith)
    ∙ ap Some (omega arith)

-- bytes of a word: no blank among them
abbrev Solid : List ℕ → Type 0
Solid [] = Unit {0}
Solid (c ∷ s) = (blank c ≡ false) × Solid s

solid_append : (s t : List ℕ) → Solid s → Solid t → Solid (s ++ t)
solid_append [] t h k = k
solid_append (c ∷ s) t h k = (h.0, solid_append s t h.1 k)

solid_digits : (k n : ℕ) → Solid (digits k n)
solid_digits zero n = tt
solid_digits (suc k) n =
    solid_append (digits k (n / 10)) ((48 + n % 10) ∷ []) (solid_digits k (n / 10))
    (rw (ne_eqb (48 + n % 10) 32 (λ e. omega arith), ne_eqb (48 + n % 10) 9 (λ e. omega arith), ne_eqb (48 + n % 10) 13 (λ e. omega arith)) refl, tt)

not_empty : (s : List ℕ) (d : ℕ) → s ++ (d ∷ []) ≡ [] → ⊥
not_empty [] d e = let z : ◌≡◌ {A = ℕ} 0 1 = cc in omega arith
not_empty (c ∷ s) d e = let z : ◌≡◌ {A = ℕ} 0 1 = cc in omega arith

some_digit : (k n : ℕ) → digits (suc k) n ≡ [] → ⊥
some_digit k n = not_empty (digits k (n / 10)) (48 + n % 10)

-- there are places for the number, and one at least
enough : (n : ℕ) → n < 65536 → (n < room (places n)) × (digits (places n) n ≡ [] → ⊥)
enough n h =
    if_lt Q n 10 (λ l. (l, some_digit 0 n)) (λ _. if_lt Q n 100 (λ l. (l, some_digit 1 n)) (λ _. if_lt Q n 1000 (λ l. (l, some_digit 2 n))
    (λ _. if_lt Q n 10000 (λ l. (l, some_digit 3 n)) (λ _. (omega arith, some_digit 4 n)))))
  where
    Q : ℕ → Type 0
    Q k = (n < room k) × (digits k n ≡ [] → ⊥)

-- a word that is counted in one place: `before` it, and `put n` once its number is n
module _ (before : Words) (put : Option ℕ → Words) (begun : (c : ℕ) → blank c ≡ false → fed before c ≡ put (counted (Some 0) c))
    (more : (n : Option ℕ) (c : ℕ) → blank c ≡ false → fed (put n) c ≡ put (counted n c)) where
  rest : (n : Option ℕ) (s : List ℕ) → Solid s → words_of (put n) s ≡ put (counting n s)
  rest n [] h = refl
  rest n (c ∷ s) h = ap (λ (w : Words). words_of w s) (more n c h.0) ∙ rest (counted n c) s h.1

  word : (s : List ℕ) → Solid s → (s ≡ [] → ⊥) → words_of before s ≡ put (counting (Some 0) s)
  word [] h k = absurd (k refl)
  word (c ∷ s) h k = ap (λ (w : Words). words_of w s) (begun c h.0) ∙ rest (counted (Some 0) c) s h.1

  number : (n : ℕ) → n < 65536 → (t : List ℕ) → words_of before (digits (places n) n ++ t) ≡ words_of (put (Some n)) t
  number n h t =
      let p = enough n h in
      words_append before (digits (places n) n) t
      ∙ ap (λ (w : Words). words_of w t)
      (word (digits (places n) n) (solid_digits (places n) n) p.1 ∙ ap put (digits_count (places n) n p.0 h))

-- so many words read, the last of them just read, or a blank after it too
abbrev at : ℕ → ℕ → Option ℕ → Option ℕ → Option ℕ → Option ℕ → Words
at count name a b c d = record { inside = true; count = count; name = name; numbers = a ∷ b ∷ c ∷ d ∷ [] }

abbrev gap : ℕ → ℕ → Option ℕ → Option ℕ → Option ℕ → Option ℕ → Words
gap count name a b c d = ended (at count name a b c d)

-- no digit yet
abbrev fresh : Option ℕ
fresh = Some 0

module _ (name a : ℕ) (ha : a < 65536) where
  one : (t : List ℕ) → words_of (gap 1 name fresh fresh fresh fresh) (digits (places a) a ++ t) ≡ words_of (at 2 name (Some a) fresh fresh fresh) t
  one = number (gap 1 name fresh fresh fresh fresh) (λ (n : Option ℕ). at 2 name n fresh fresh fresh) (λ c e. rw e) (λ n c e. rw e) a ha

  module _ (b : ℕ) (hb : b < 65536) where
    two : (t : List ℕ) → words_of (gap 1 name fresh fresh fresh fresh) (digits (places a) a ++ 32 ∷ (digits (places b) b ++ t))
        ≡ words_of (at 3 name (Some a) (Some b) fresh fresh) t
    two t =
        one _
        ∙ number (gap 2 name (Some a) fresh fresh fresh) (λ (n : Option ℕ). at 3 name (Some a) n fresh fresh) (λ c e. rw e) (λ n c e. rw e) b hb t

    module _ (c : ℕ) (hc : c < 65536) where
      three : (t : List ℕ)
          → words_of (gap 1 name fresh fresh fresh fresh) (digits (places a) a ++ 32 ∷ (digits (places b) b ++ 32 ∷ (digits (places c) c ++ t)))
          ≡ words_of (at 4 name (Some a) (Some b) (Some c) fresh) t
      three t =
          two _
          ∙ number (gap 3 name (Some a) (Some b) fresh fresh) (λ (n : Option ℕ). at 4 name (Some a) (Some b) n fresh)
          (λ c e. rw e) (λ n c e. rw e) c hc t

      four : (d : ℕ) → d < 65536
          → words_of (gap 1 name fresh fresh fresh fresh)
          (digits (places a) a ++ 32 ∷ (digits (places b) b ++ 32 ∷ (digits (places c) c ++ 32 ∷ (digits (places d) d ++ []))))
          ≡ at 5 name (Some a) (Some b) (Some c) (Some d)
      four d hd =
          three _
          ∙ number (gap 4 name (Some a) (Some b) (Some c) fresh) (λ (n : Option ℕ). at 5 name (Some a) (Some b) (Some c) n)
          (λ c e. rw e) (λ n c e. rw e) d hd []

-- the name of a stage, as its letters spell it
abbrev spelt : Stage → ℕ
spelt s = spelling 1 (typed (name_of s))

pub read_back : (s : Stage) → All Two (numbers_of s) → line_of (printed s) ≡ Ok s
read_back Idle h = refl
read_back T1 h = refl
read_back B1 h = refl
read_back (P1 a) h = ap line_in (one (spelt (P1 a)) a h.0 [])
read_back (P3 a) h = ap line_in (one (spelt (P3 a)) a h.0 [])
read_back (B2 a) h = ap line_in (one (spelt (B2 a)) a h.0 [])
read_back (B3 a) h = ap line_in (one (spelt (B3 a)) a h.0 [])
read_back (P2 a b) h = ap line_in (two (spelt (P2 a b)) a h.0 b h.1.0 [])
read_back (T2 a b) h = ap line_in (two (spelt (T2 a b)) a h.0 b h.1.0 [])
read_back (B4 a b) h = ap line_in (two (spelt (B4 a b)) a h.0 b h.1.0 [])
read_back (T3 a b c) h = ap line_in (three (spelt (T3 a b c)) a h.0 b h.1.0 c h.1.1.0 [])
read_back (T4 a b c d) h = ap line_in (four (spelt (T4 a b c d)) a h.0 b h.1.0 c h.1.1.0 d h.1.1.1.0)
read_back (B5 a b c d) h = ap line_in (four (spelt (B5 a b c d)) a h.0 b h.1.0 c h.1.1.0 d h.1.1.1.0)
read_back (B6 a b c d) h = ap line_in (four (spelt (B6 a b c d)) a h.0 b h.1.0 c h.1.1.0 d h.1.1.1.0)
read_back (B7 a b c d) h = ap line_in (four (spelt (B7 a b c d)) a h.0 b h.1.0 c h.1.1.0 d h.1.1.1.0)

-- a number as the program prints it
more_digits : (k n : ℕ) → 10 ≤ n → n < 65536 → decimal (n / 10) ≡ digits k (n / 10) → decimal n ≡ digits (suc k) n
more_digits k n h l e = decimal_step n h (omega arith) ∙ ap (λ (s : List ℕ). s ++ ((48 + n % 10) ∷ [])) e

digits_1 : (n : ℕ) → n < 10 → decimal n ≡ digits 1 n
digits_1 n h = let e : n % 10 ≡ n = omega arith in decimal_digit n h ∙ rw e

digits_2 : (n : ℕ) → 10 ≤ n → n < 100 → decimal n ≡ digits 2 n
digits_2 n h l = more_digits 1 n h (omega arith) (digits_1 (n / 10) (omega arith))

digits_3 : (n : ℕ) → 100 ≤ n → n < 1000 → decimal n ≡ digits 3 n
digits_3 n h l = more_digits 2 n (omega arith) (omega arith) (digits_2 (n / 10) (omega arith) (omega arith))

digits_4 : (n : ℕ) → 1000 ≤ n → n < 10000 → decimal n ≡ digits 4 n
digits_4 n h l = more_digits 3 n (omega arith) (omega arith) (digits_3 (n / 10) (omega arith) (omega arith))

printed_number : (n : ℕ) → n < 65536 → decimal n ≡ digits (places n) n
printed_number n h =
    if_lt Q n 10 (digits_1 n) (λ a. if_lt Q n 100 (digits_2 n a) (λ b. if_lt Q n 1000 (digits_3 n b)
    (λ c. if_lt Q n 10000 (digits_4 n c)
    (λ d. more_digits 4 n (omega arith) h (digits_4 (n / 10) (omega arith) (omega arith))))))
  where
    Q : ℕ → Type 0
    Q k = decimal n ≡ digits k n

last : (n : ℕ) → n < 65536 → decimal n ≡ digits (places n) n ++ []
last n h = printed_number n h ∙ sym (append-nil _)

then : (n : ℕ) → n < 65536 → (s t : List ℕ) → s ≡ t → decimal n ++ (codes " " ++ s) ≡ digits (places n) n ++ (32 ∷ t)
then n h s t e = ap (λ (d : List ℕ). d ++ (32 ∷ s)) (printed_number n h) ∙ ap (λ (u : List ℕ). digits (places n) n ++ (32 ∷ u)) e

two_numbers : (a b : ℕ) → a < 65536 → b < 65536
    → decimal a ++ (codes " " ++ decimal b) ≡ digits (places a) a ++ (32 ∷ (digits (places b) b ++ []))
two_numbers a b h k = then a h _ _ (last b k)

three_numbers : (a b c : ℕ) → a < 65536 → b < 65536 → c < 65536
    → decimal a ++ (codes " " ++ (decimal b ++ (codes " " ++ decimal c)))
    ≡ digits (places a) a ++ (32 ∷ (digits (places b) b ++ (32 ∷ (digits (places c) c ++ []))))
three_numbers a b c h k l = then a h _ _ (two_numbers b c k l)

four_numbers : (a b c d : ℕ) → a < 65536 → b < 65536 → c < 65536 → d < 65536
    → decimal a ++ (codes " " ++ (decimal b ++ (codes " " ++ (decimal c ++ (codes " " ++ decimal d)))))
    ≡ digits (places a) a ++ (32 ∷ (digits (places b) b ++ (32 ∷ (digits (places c) c ++ (32 ∷ (digits (places d) d ++ []))))))
four_numbers a b c d h k l m = then a h _ _ (three_numbers b c d k l m)

-- a stage as the program prints it
shown_printed : (s : Stage) → All Two (numbers_of s) → shown s ≡ printed s
shown_printed Idle h = refl
shown_printed T1 h = refl
shown_printed B1 h = refl
shown_printed (P1 a) h = ap (λ (s : List ℕ). codes "P1 " ++ s) (last a h.0)
shown_printed (P3 a) h = ap (λ (s : List ℕ). codes "P3 " ++ s) (last a h.0)
shown_printed (B2 a) h = ap (λ (s : List ℕ). codes "B2 " ++ s) (last a h.0)
shown_printed (B3 a) h = ap (λ (s : List ℕ). codes "B3 " ++ s) (last a h.0)
shown_printed (P2 a b) h = simp append_assoc (ap (λ (s : List ℕ). codes "P2 " ++ s) (two_numbers a b h.0 h.1.0))
shown_printed (T2 a b) h = simp append_assoc (ap (λ (s : List ℕ). codes "T2 " ++ s) (two_numbers a b h.0 h.1.0))
shown_printed (B4 a b) h = simp append_assoc (ap (λ (s : List ℕ). codes "B4 " ++ s) (two_numbers a b h.0 h.1.0))
shown_printed (T3 a b c) h = simp append_assoc (ap (λ (s : List ℕ). codes "T3 " ++ s) (three_numbers a b c h.0 h.1.0 h.1.1.0))
shown_printed (T4 a b c d) h = simp append_assoc (ap (λ (s : List ℕ). codes "T4 " ++ s) (four_numbers a b c d h.0 h.1.0 h.1.1.0 h.1.1.1.0))
shown_printed (B5 a b c d) h = simp append_assoc (ap (λ (s : List ℕ). codes "B5 " ++ s) (four_numbers a b c d h.0 h.1.0 h.1.1.0 h.1.1.1.0))
shown_printed (B6 a b c d) h = simp append_assoc (ap (λ (s : List ℕ). codes "B6 " ++ s) (four_numbers a b c d h.0 h.1.0 h.1.1.0 h.1.1.1.0))
shown_printed (B7 a b c d) h = simp append_assoc (ap (λ (s : List ℕ). codes "B7 " ++ s) (four_numbers a b c d h.0 h.1.0 h.1.1.0 h.1.1.1.0))

pub shown_back : (s : Stage) → All Two (numbers_of s) → line_of (shown s) ≡ Ok s
shown_back s h = ap line_of (shown_printed s h) ∙ read_back s h
