-- A top pop under a step of another process.
use Prim.Native.Nat.{ℕ, suc, ◌+◌, ◌-◌, ◌*◌, ◌≤◌, ◌<◌}
use mathlib.Core.Path.{◌≡◌, sym, ap, ◌∙◌}
use mathlib.Core.List.{List, [], ◌∷◌}
use native.Mathlib.Omega.{arith}
use lib.ListN.{get_or}
use Rattle.call_log.specs.declared.Entry.{Entry}
use Rattle.word.specs.declared.Stage.{Stage}
use Rattle.word.specs.declared.Stage.TheVariants.{Idle, P1, P2, P3, T1, T2, T3, T4, B1, B2, B3, B4, B5, B6, B7}
use Rattle.base.specs.Lists.{In}
use Rattle.theorems.proofs.Queue.Memory.{Memory}
use Rattle.theorems.proofs.Queue.Inv.{Cause, empty, taken, AtTop, Seen, Reach, Why, hit, age, Rely, Change, still, void, took, Edge, old, new}

pub cause_keeps : (l : List Entry) (K : ℕ → List ℕ) (l' : List Entry) (K' : ℕ → List ℕ) (p q f u u' : ℕ) → ((e : Entry) → In e l → In e l')
    → ((x : ℕ) → x ≤ u → K' x ≡ K x) → u ≤ u'
    → Cause l K p q f u → Cause l' K' p q f u'
cause_keeps l K l' K' p q f u u' i k h (empty x a b c) = empty x a (omega arith) (k (suc x) (omega arith) ∙ c)
cause_keeps l K l' K' p q f u u' i k h (taken e a b c d g j) = taken e (i e a) b c d g (omega arith)

-- nothing there before the step n
pub cause_now : (l : List Entry) (K : ℕ → List ℕ) (p q f n : ℕ) → f < n → K (2 * n) ≡ [] → Cause l K p q f (2 * n)
cause_now l K p q f n h e =
    let d : suc (2 * n - 1) ≡ 2 * n = omega arith in
    empty (2 * n - 1) (omega arith) (omega arith) (rw d e)

module _ (C : ℕ) {n p q : ℕ} {l : List Entry} {m : Memory} {s : Stage} {k : ℕ} {K : ℕ → List ℕ} {l' : List Entry} {m' : Memory} {s' : Stage} {k' : ℕ}
    {K' : ℕ → List ℕ}
    (y : Rely n p q l m s k K l' m' s' k' K') (i : (e : Entry) → In e l → In e l') (r f j : ℕ) (ne : p ≡ r → ⊥) where
  why_keeps : (t : ℕ) → f < n → Why n r q f j t l m K → Change n p q m m' K l' → Why (n + 1) r q f j t l' m' K'
  why_keeps t h (hit c) z = hit (cause_keeps l K l' K' r q f (2 * n) (2 * (n + 1)) i y.kept (omega arith) c)
  why_keeps t h (age a b) (still c d) = age (omega arith) (omega arith)
  why_keeps t h (age a b) (void c) = hit (cause_keeps l K l' K' r q f (2 * n) (2 * (n + 1)) i y.kept (omega arith) (cause_now l K r q f n h c))
  why_keeps t h (age a b) (took e c d g o v) = hit (taken e c d g (λ u. ne (sym o ∙ u)) (omega arith) (omega arith))

  seen_keeps : (t g : ℕ) → Seen n r q f j t g l m K → Seen (n + 1) r q f j t g l' m' K'
  seen_keeps t g h =
      let mono = y.calm.mono in
      record {
        since = omega (arith, h.since);
        seen_le = omega (arith, h.seen_le);
        tag = λ e. y.calm.tag (omega (arith, h.seen_le)) ∙ h.tag (omega (arith, h.seen_le));
        top = λ e. omega (arith, y.calm.up (omega (arith, h.seen_le)), h.top (omega (arith, h.seen_le)));
        why = why_keeps t h.since h.why y.change;
      }

  reach_keeps : (t g : ℕ) → Seen n r q f j t g l m K → Reach C f j t m s k K → Reach C f j t m' s' k' K'
  reach_keeps t g h v =
      let mono = y.calm.mono in
      let le = h.seen_le in
      record {
        low = v.low;
        inside = λ e. (y.calm.reach (omega arith) t (h.top (omega arith)) (v.inside (omega arith))).0;
        last = λ e d o u.
            let e₁ : m'.resets ≡ m.resets = omega arith in
            let e₂ : t ≤ m.word.top = h.top (omega arith) in
            let e₃ : m.word.top ≤ m'.word.top = y.calm.up e₁ in
            let e₄ : m.word.top ≡ t = omega arith in
            go e d e₄ (y.edge e₁ (omega arith) o (omega arith));
      }
    where
      go : j ≡ m'.resets → m'.word.top ≡ t → m.word.top ≡ t → Edge n m s k m' k' K → (f ≤ k') × (K' (2 * k') ≡ get_or m'.slots t 0 ∷ [])
      go e d w (old a b c o u) =
          let mono = y.calm.mono in
          let w' = v.last (omega (arith, h.seen_le)) w a (omega arith) in
          rw (c, y.kept (2 * k) (omega arith)) (w'.0, w'.1 ∙ ap (λ (a : ℕ). a ∷ []) (sym (rw w at u)))
      go e d w (new a b) = rw (a, y.kept (2 * n) (omega arith)) (omega (arith, h.since), b ∙ ap (λ (t : ℕ). get_or m'.slots t 0 ∷ []) w)

  pub thief_keeps : (z : Stage) → AtTop C n r q f j l m s k K z → AtTop C (n + 1) r q f j l' m' s' k' K' z
  thief_keeps Idle h = tt
  thief_keeps (P1 _) h = tt
  thief_keeps (P2 _ b) h = tt
  thief_keeps (P3 b) h = tt
  thief_keeps T1 h = tt
  thief_keeps (T2 t g) h = seen_keeps t g h
  thief_keeps (T3 t g b) h = (seen_keeps t g h.0, reach_keeps t g h.0 h.1)
  thief_keeps (T4 t g b x) h = (
    seen_keeps t g h.0,
    reach_keeps t g h.0 h.1,
    λ e.
        let mono = y.calm.mono in
        let le = h.0.seen_le in
        (y.calm.reach (omega arith) t (h.0.top (omega arith)) (h.1.inside (omega arith))).1 ∙ h.2 (omega arith),
  )
  thief_keeps B1 h = tt
  thief_keeps (B2 b) h = tt
  thief_keeps (B3 b) h = tt
  thief_keeps (B4 b x) h = tt
  thief_keeps (B5 b x t g) h = tt
  thief_keeps (B6 b x t g) h = tt
  thief_keeps (B7 b x t g) h = tt
