-- The three answers to a rack, from whether it splits and how long the reply buffer is.
use Prim.Native.Nat.{ℕ, ◌*◌, ◌≤◌, ◌<◌}
use mathlib.Core.Path.{◌≡◌, refl, sym, ap, subst}
use mathlib.Core.Bool.{Bool, true, false, cond}
use mathlib.Core.List.{List}
use native.Mathlib.Omega.{arith}
use borrow.Author.Tests.{lt-ltb, le-ltb}
use lib.Dec.{ltb}
use lib.ListN.{length}
use Rattle.base.specs.Bytes.{number_at}
use Rattle.base.proofs.Cases.{never, ever}
use Rattle.racks.specs.Rack.{Gives, Racked}
use Rattle.racks.specs.Rack.{Split, bad, files, Answer, rack_of, reply_length, refusal, answered, answer_to}
use Rattle.racks.specs.Inner.Walk.{is_rack, files_of, RunsAll}
use Rattle.racks.proofs.SplitLaws.{rack_counted}

module _ (log replies : List ℕ) where
  refused_21 : (x : Split) → is_rack x ≡ false → Gives (answer_to x log replies) 21 log replies
  refused_21 bad h = record { numbered = refl; logged = refl; replied = refl }
  refused_21 (files fs) h = ever h

  -- of what splits, the answer by the test of the reply buffer
  tested : (x : Split) (b : Bool) → is_rack x ≡ true → (ltb (length replies) (reply_length * length (files_of x)) ≡ b)
      → cond b (refusal 22 log replies) (answered (files_of x) log replies) ≡ answer_to x log replies
  tested bad b h e = never h
  tested (files fs) b h e = ap (λ (t : Bool). cond t (refusal 22 log replies) (answered fs log replies)) (sym e)

  module _ (s : List ℕ) where
    pub gives_21 : is_rack (rack_of s) ≡ false → Racked s log replies 21 log replies
    gives_21 h = refused_21 (rack_of s) h

    module _ (h : is_rack (rack_of s) ≡ true) where
      pub gives_22 : length replies < reply_length * number_at s 0 → Racked s log replies 22 log replies
      gives_22 l =
          subst (λ (a : Answer). Gives a 22 log replies)
          (tested (rack_of s) true h (lt-ltb (length replies) (reply_length * length (files_of (rack_of s))) (omega (arith, l, rack_counted s h))))
          (record { numbered = refl; logged = refl; replied = refl })

      pub gives_0 : reply_length * number_at s 0 ≤ length replies → (log' replies' : List ℕ) → RunsAll s log replies log' replies'
          → Racked s log replies 0 log' replies'
      gives_0 l log' replies' g =
          subst (λ (a : Answer). Gives a 0 log' replies')
          (tested (rack_of s) false h (le-ltb (length replies) (reply_length * length (files_of (rack_of s))) (omega (arith, l, rack_counted s h))))
          (record { numbered = refl; logged = g.logged; replied = g.replied })
