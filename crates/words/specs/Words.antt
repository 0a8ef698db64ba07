-- The words of a line stand apart by blanks; a number is 0 to 65,535, and none for a word that is no such number.
use Rattle.std.specs.Prelude.{ℕ, ◌+◌, ◌-◌, ◌*◌, Bool, true, false, cond, ◌&&◌, ◌||◌, ltb, leb, eqb}
use Rattle.std.specs.Prelude.{List, [], ◌∷◌, get_or, set, replicate, Option, Some, None, is_some}
use Rattle.words.specs.declared.Words.{Words}

-- a space, a tab or a carriage return
abbrev pub blank : ℕ → Bool
blank c = (eqb c 32 || eqb c 9) || eqb c 13

-- a small letter as a capital, any other byte as it is
abbrev pub capital : ℕ → ℕ
capital c = cond (ltb c 97) c (cond (ltb 122 c) c (c - 32))

-- a name with one letter more: base 256, from 1 on; from the fifth letter on it is no stage's
abbrev pub spelled : ℕ → ℕ → ℕ
spelled name c = cond (ltb name 1099511627776) (256 * name + capital c) name

-- a number with one digit more
abbrev pub counted : Option ℕ → ℕ → Option ℕ
counted None c = None
counted (Some n) c = cond (ltb c 48) None (cond (ltb 57 c) None (cond (ltb 65535 (10 * n + (c - 48))) None (Some (10 * n + (c - 48)))))

-- which word a byte that is no blank belongs to, the sixth and all after it as one
abbrev pub word_at : Bool → ℕ → ℕ
word_at inside count = cond inside count (cond (ltb count 6) (count + 1) 6)

-- the words with one byte more: it lengthens the word that it belongs to, and alters no other
abbrev pub longer : Words → ℕ → ℕ → Words
longer w at c = record {
  inside = true;
  count = at;
  name = cond (eqb at 1) (spelled w.name c) w.name;
  numbers = cond (leb 2 at && leb at 5) (set w.numbers (at - 2) (counted (get_or w.numbers (at - 2) None) c)) w.numbers;
}

abbrev pub ended : Words → Words
ended w = record { inside = false; count = w.count; name = w.name; numbers = w.numbers }

abbrev pub fed : Words → ℕ → Words
fed w c = cond (blank c) (ended w) (longer w (word_at w.inside w.count) c)

abbrev pub start : ℕ → Words
start before = record { inside = false; count = before; name = 1; numbers = replicate 4 (Some 0) }

abbrev pub words_of : Words → List ℕ → Words
words_of w [] = w
words_of w (c ∷ s) = words_of (fed w c) s

-- all four are numbers
abbrev pub numbers : Words → Bool
numbers w = ((number 0 && number 1) && number 2) && number 3
  where
    number : ℕ → Bool
    number i = is_some (get_or w.numbers i None)

-- a number, and 0 for none
abbrev pub small : Option ℕ → ℕ
small None = 0
small (Some n) = n
