-- Each public function's promise settles its result: two results that it allows are equal.
use mathlib.Core.Path.{◌≡◌}
use mathlib.Core.Bool.{Bool, cond}
use Prim.Native.Nat.{ℕ}
use lib.Dec.{eqb}
use Rattle.base.proofs.Settled.{one_value}
use Rattle.call_log.specs.declared.Entry.{Entry}
use Rattle.call_log.specs.Numbers.{no_moment, what}
use Rattle.rules.specs.Rules.{keeps1, in_call}
use Rattle.fields.specs.Inner.Ends.{ends_after}
use Rattle.fields.specs.Inner.Took.{took_after}

pub keeps_fields : (p : ℕ) (e : Entry) (r r' : Bool) → r ≡ keeps1 p e → r' ≡ keeps1 p e → r ≡ r'
keeps_fields p e r r' = one_value

pub moment_right_lem : (wanted : Bool) (e : Entry) (r r' : Bool) → r ≡ cond wanted (in_call e e.moment) (eqb e.moment no_moment)
    → r' ≡ cond wanted (in_call e e.moment) (eqb e.moment no_moment) → r ≡ r'
moment_right_lem wanted e r r' = one_value

-- of bears, pushed, full and top_nil
pub told : (f : Entry → Bool) (e : Entry) (r r' : Bool) → r ≡ f e → r' ≡ f e → r ≡ r'
told f e r r' = one_value

pub took_after_lem : (e : Entry) (t r r' : ℕ) → r ≡ took_after e t → r' ≡ took_after e t → r ≡ r'
took_after_lem e t r r' = one_value

pub moved : (ends : ℕ) (e : Entry) (r r' : ℕ) → r ≡ ends_after (what e) ends → r' ≡ ends_after (what e) ends → r ≡ r'
moved ends e r r' = one_value

-- of a choice, which is an `if` now
pub choose : (h : Bool) (a b r r' : ℕ) → r ≡ cond h a b → r' ≡ cond h a b → r ≡ r'
choose h a b r r' = one_value
