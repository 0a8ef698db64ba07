-- The worked racks, computed on the definitions: bytes in; number, replies and log buffer out.
use Rattle.std.specs.Prelude.{ℕ, List, [], ◌∷◌, ◌++◌, map, drop, replicate, ◌≡◌, refl}
use Rattle.call_log.specs.{Decode.entry_at, Encode.log_bytes}
use Rattle.rules.specs.Contents.{before}
use Rattle.runs.specs.{Run.run_of, Worked.K1, Worked.K4, Worked.K8}
use Rattle.racks.specs.Rack.{Answer, refusal, rack_of, rack_bytes, answer_to}

-- the buffers as lent: a log filled with 238, replies filled with 221
abbrev lent : List ℕ → ℕ → ℕ → Answer
lent rack log replies = answer_to (rack_of rack) (replicate log 238) (replicate replies 221)

-- K1, K4, an empty file and K8: in the log buffer K8's five bytes lie over K4's log, and three bytes are as lent
pub four_files : lent (rack_bytes (K1.file ∷ K4.file ∷ [] ∷ K8.file ∷ [])) 80 34 ≡ record {
  number = 0;
  log = (2 ∷ 1 ∷ 4 ∷ 0 ∷ 0 ∷ []) ++ (drop 5 (run_of K4.file 80).log ++ (238 ∷ 238 ∷ 238 ∷ []));
  replies =
      0 ∷ 0 ∷ 3 ∷ 0 ∷ 13 ∷ 0 ∷ 0 ∷ 0 ∷
      0 ∷ 0 ∷ 6 ∷ 0 ∷ 25 ∷ 0 ∷ 1 ∷ 17 ∷
      1 ∷ 0 ∷ 0 ∷ 0 ∷ 0 ∷ 0 ∷ 0 ∷ 0 ∷
      0 ∷ 0 ∷ 0 ∷ 0 ∷ 0 ∷ 0 ∷ 0 ∷ 0 ∷
      221 ∷ 221 ∷ [];
}
unfolding run_of log_bytes entry_at before
four_files = refl

-- a log buffer that is too short for a file: the file is refused with 8, as singly, and the call is not
pub short_log : lent (rack_bytes (K8.file ∷ K1.file ∷ [])) 40 16 ≡ record {
  number = 0;
  log = (2 ∷ 1 ∷ 4 ∷ 0 ∷ 0 ∷ []) ++ replicate 35 238;
  replies = replicate 8 0 ++ (8 ∷ replicate 7 0);
}
unfolding run_of log_bytes
short_log = refl

-- no file at all is a rack, with any reply buffer
pub none : lent (0 ∷ 0 ∷ []) 3 0 ≡ record { number = 0; log = replicate 3 238; replies = [] }
none = refl

-- no racks: nothing, half a count, a byte after the last file, a length that is not there, a file that runs past the end
pub refused_21 :
    map (λ (rack : List ℕ). lent rack 3 8) ([] ∷ (0 ∷ []) ∷ (0 ∷ 0 ∷ 5 ∷ []) ∷ (0 ∷ 1 ∷ []) ∷ (0 ∷ 1 ∷ 0 ∷ 3 ∷ 2 ∷ 8 ∷ []) ∷ [])
    ≡ replicate 5 (refusal 21 (replicate 3 238) (replicate 8 221))
refused_21 = refl

-- a reply buffer one byte short; with a byte after the file too it is no rack
pub refused_22 : (lent (rack_bytes (K8.file ∷ [])) 5 7 ≡ refusal 22 (replicate 5 238) (replicate 7 221))
    × (lent (rack_bytes (K8.file ∷ []) ++ (0 ∷ [])) 5 7 ≡ refusal 21 (replicate 5 238) (replicate 7 221))
refused_22 = (refl, refl)
