-- The nodes of a queue by instants, as the judge has them, with the owner's pending pop laid over the log; and how they change as the
-- log grows.
use Prim.Native.Nat.{ℕ, zero, suc, ◌*◌, ◌≤◌, ◌<◌}
use mathlib.Core.Path.{◌≡◌, refl, sym, ap, ◌∙◌}
use mathlib.Core.Bool.{Bool, true, false, cond}
use mathlib.Core.List.{List, [], ◌∷◌, ◌++◌}
use mathlib.Core.Option.{Option, none, some}
use native.Mathlib.Omega.{arith}
use native.Mathlib.Decide.{dec_lt, ℕ_discrete}
use lib.Dec.{ltb, eqb}
use lib.ListN.{length, get_or}
use borrow.Author.Tests.{eqb-true, eq-eqb, ne_eqb, lt-ltb, ltb-true}
use Rattle.call_log.specs.Decode.{no_entry}
use Rattle.call_log.specs.Numbers.{what}
use Rattle.call_log.specs.declared.Entry.{Entry}
use Rattle.base.proofs.Bools.{by_both, and_i, and_0, and_1, not_so}
use Rattle.rules.specs.Contents.{bears, drop_last, applied, on, happens, event_at, applied_at, before}
use Rattle.rules.specs.Search.{first}
use Rattle.base.specs.Lists.{All}

-- the entries of a log, as the judge is given them
abbrev pub at : List Entry → ℕ → Entry
at l i = get_or l i no_entry

-- what the log's event at the instant x makes of the nodes c of queue q
unfoldable pub event : List Entry → ℕ → ℕ → List ℕ → List ℕ
event l q x c = applied_at (at l) (length l) (event_at (at l) (length l) q x) c

first_shift : (p : ℕ → Bool) (i k : ℕ) → first p (suc i) k ≡ suc (first (λ j. p (suc j)) i k)
first_shift p i zero = refl
first_shift p i (suc k) = by (p (suc i)) (first_shift p (suc i) k)
  where
    by : (b : Bool) → first p (suc (suc i)) k ≡ suc (first (λ j. p (suc j)) (suc i) k)
        → cond b (suc i) (first p (suc (suc i)) k) ≡ suc (cond b i (first (λ j. p (suc j)) (suc i) k))
    by true h = refl
    by false h = h

ltb_suc : (a b : ℕ) → ltb (suc a) (suc b) ≡ ltb a b
ltb_suc a b = by_both (ltb (suc a) (suc b)) (ltb a b) (λ h. lt-ltb a b (omega (arith, ltb-true (suc a) (suc b) h)))
    (λ h. lt-ltb (suc a) (suc b) (omega (arith, ltb-true a b h)))

event_none : (q x : ℕ) (c : List ℕ) → event [] q x c ≡ c
unfolding event
event_none q x c = refl

event_cons : (e : Entry) (l : List Entry) (q x : ℕ) (c : List ℕ)
    → event (e ∷ l) q x c ≡ cond (happens q x e) (applied (what e) e.node c) (event l q x c)
unfolding event
event_cons e l q x c = by (happens q x e) refl
  where
    by : (b : Bool) → happens q x e ≡ b
        → applied_at (at (e ∷ l)) (suc (length l)) (cond b 0 (first (λ i. happens q x (at (e ∷ l) i)) 1 (length l))) c
        ≡ cond b (applied (what e) e.node c) (applied_at (at l) (length l) (event_at (at l) (length l) q x) c)
    by true d = ap (λ (t : Bool). cond t (applied (what e) e.node c) c) (lt-ltb 0 (suc (length l)) (omega arith))
    by false d =
        ap (λ (i : ℕ). applied_at (at (e ∷ l)) (suc (length l)) i c) (first_shift (λ i. happens q x (at (e ∷ l) i)) 0 (length l))
        ∙ ap (λ (t : Bool). cond t (applied (what (at l (event_at (at l) (length l) q x))) (at l (event_at (at l) (length l) q x)).node c) c)
        (ltb_suc (event_at (at l) (length l) q x) (length l))

-- no entry has the moment x
abbrev pub Free : List Entry → ℕ → Type 0
Free l x = All (λ (e : Entry). bears e ≡ true → e.moment ≡ x → ⊥) l

-- an entry happens at its moment, on its queue
pub happens_is : (e : Entry) (q x : ℕ) → bears e ≡ true → e.queue ≡ q → e.moment ≡ x → happens q x e ≡ true
happens_is e q x a b c = and_i (and_i a (eq-eqb e.queue q b)) (eq-eqb e.moment x c)

pub happens_bears : (e : Entry) (q x : ℕ) → happens q x e ≡ true → bears e ≡ true
happens_bears e q x h = and_0 (bears e) (eqb e.queue q) (and_0 (on q e) (eqb e.moment x) h)

pub happens_on : (e : Entry) (q x : ℕ) → happens q x e ≡ true → e.queue ≡ q
happens_on e q x h = eqb-true e.queue q (and_1 (bears e) (eqb e.queue q) (and_0 (on q e) (eqb e.moment x) h))

pub happens_at : (e : Entry) (q x : ℕ) → happens q x e ≡ true → e.moment ≡ x
happens_at e q x h = eqb-true e.moment x (and_1 (on q e) (eqb e.moment x) h)

free_not : (e : Entry) (q x : ℕ) → (bears e ≡ true → e.moment ≡ x → ⊥) → happens q x e ≡ false
free_not e q x f = not_so (happens q x e) (λ h. f (happens_bears e q x h) (happens_at e q x h))

pub event_free : (l : List Entry) (q x : ℕ) (c : List ℕ) → Free l x → event l q x c ≡ c
event_free [] q x c h = event_none q x c
event_free (e ∷ l) q x c h = event_cons e l q x c ∙ rw (free_not e q x h.0) (event_free l q x c h.1)

-- a new entry is heard only where none was
event_snoc : (P : List ℕ → Type 0) (l : List Entry) (e : Entry) (q x : ℕ) (c : List ℕ) → P (event l q x c)
    → (event l q x c ≡ c → happens q x e ≡ true → P (applied (what e) e.node c)) → P (event (l ++ (e ∷ [])) q x c)
event_snoc P [] e q x c a f = rw (event_cons e [] q x c) (by (happens q x e) refl)
  where
    by : (t : Bool) → happens q x e ≡ t → P (cond t (applied (what e) e.node c) (event [] q x c))
    by true h = f (event_none q x c) h
    by false h = a
event_snoc P (d ∷ l) e q x c a f =
    rw (event_cons d (l ++ (e ∷ [])) q x c)
    (by (happens q x d) (rw (event_cons d l q x c) at a) (λ b. f (event_cons d l q x c ∙ b)) (event_snoc P l e q x c))
  where
    by : (t : Bool) → P (cond t (applied (what d) d.node c) (event l q x c))
        → (cond t (applied (what d) d.node c) (event l q x c) ≡ c → happens q x e ≡ true → P (applied (what e) e.node c))
        → (P (event l q x c) → (event l q x c ≡ c → happens q x e ≡ true → P (applied (what e) e.node c)) → P (event (l ++ (e ∷ [])) q x c))
        → P (cond t (applied (what d) d.node c) (event (l ++ (e ∷ [])) q x c))
    by true a f more = a
    by false a f more = more a f

event_hit : (l : List Entry) (e : Entry) (q x : ℕ) (c : List ℕ) → Free l x → happens q x e ≡ true
    → event (l ++ (e ∷ [])) q x c ≡ applied (what e) e.node c
event_hit [] e q x c f h = event_cons e [] q x c ∙ rw h
event_hit (d ∷ l) e q x c f h = event_cons d (l ++ (e ∷ [])) q x c ∙ rw (free_not d q x f.0) (event_hit l e q x c f.1 h)

event_miss : (l : List Entry) (e : Entry) (q x : ℕ) (c : List ℕ) → (happens q x e ≡ true → ⊥) → event (l ++ (e ∷ [])) q x c ≡ event l q x c
event_miss l e q x c f = event_snoc (λ o. o ≡ event l q x c) l e q x c refl (λ a b. absurd (f b))

-- the pending pop: the step of its owner's B2
abbrev pub is_at : Option ℕ → ℕ → Bool
is_at none x = false
is_at (some k) x = eqb x (2 * k)

abbrev pub turn : List Entry → ℕ → Option ℕ → ℕ → List ℕ → List ℕ
turn l q pd x c = cond (is_at pd x) (drop_last c) (event l q x c)

-- the nodes of queue q, top first, just before an instant
unfoldable pub content : List Entry → ℕ → Option ℕ → ℕ → List ℕ
content l q pd zero = []
content l q pd (suc x) = turn l q pd x (content l q pd x)

pub content_suc : (l : List Entry) (q : ℕ) (pd : Option ℕ) (x : ℕ) → content l q pd (suc x) ≡ turn l q pd x (content l q pd x)
unfolding content
content_suc l q pd x = refl

-- with no pop pending they are the judge's
pub content_before : (l : List Entry) (q x : ℕ) → content l q none x ≡ before (at l) (length l) q x
unfolding content before event
content_before l q zero = refl
content_before l q (suc x) = ap (λ (c : List ℕ). applied_at (at l) (length l) (event_at (at l) (length l) q x) c) (content_before l q x)

-- two contents agree as long as their turns do, at the nodes that are there
agree : (l : List Entry) (q : ℕ) (pd : Option ℕ) (l' : List Entry) (pd' : Option ℕ) (n : ℕ)
    → ((x : ℕ) → x < n → turn l' q pd' x (content l q pd x) ≡ turn l q pd x (content l q pd x))
    → (x : ℕ) → x ≤ n → content l' q pd' x ≡ content l q pd x
unfolding content
agree l q pd l' pd' n f zero h = refl
agree l q pd l' pd' n f (suc x) h = ap (λ c. turn l' q pd' x c) (agree l q pd l' pd' n f x (omega arith)) ∙ f x (omega arith)

-- nothing happens from a on
pub still_from : (l : List Entry) (q : ℕ) (pd : Option ℕ) (a : ℕ) → ((x : ℕ) → a ≤ x → (c : List ℕ) → turn l q pd x c ≡ c) → (x : ℕ) → a ≤ x
    → content l q pd x ≡ content l q pd a
unfolding content
still_from l q pd a f zero h = let e : a ≡ 0 = omega arith in rw e
still_from l q pd a f (suc x) h = split (dec_lt x a) (λ g. still_from l q pd a f x g)
  where
    split : Dec (x < a) → (a ≤ x → content l q pd x ≡ content l q pd a) → content l q pd (suc x) ≡ content l q pd a
    split (yes d) ih = let e : a ≡ suc x = omega arith in rw e
    split (no d) ih = f x (omega arith) _ ∙ ih (omega arith)

-- an entry with no effect
pub add_none : (l : List Entry) (e : Entry) (q : ℕ) (pd : Option ℕ) → ((c : List ℕ) → applied (what e) e.node c ≡ c) → (x : ℕ)
    → content (l ++ (e ∷ [])) q pd x ≡ content l q pd x
add_none l e q pd f x =
    agree l q pd (l ++ (e ∷ [])) pd x
    (λ y i. event_snoc (λ o. cond (is_at pd y) (drop_last (content l q pd y)) o ≡ turn l q pd y (content l q pd y)) l e q y (content l q pd y) refl
    (λ a b. ap (λ (o : List ℕ). cond (is_at pd y) (drop_last (content l q pd y)) o) (f (content l q pd y) ∙ sym a)))
    x (omega arith)

-- an entry of another queue
pub add_other : (l : List Entry) (e : Entry) (q : ℕ) (pd : Option ℕ) → (e.queue ≡ q → ⊥) → (x : ℕ)
    → content (l ++ (e ∷ [])) q pd x ≡ content l q pd x
add_other l e q pd f x =
    agree l q pd (l ++ (e ∷ [])) pd x (λ y i. rw (event_miss l e q y (content l q pd y) (λ a. f (happens_on e q y a)))) x (omega arith)

-- an entry at a new moment: before it, and at it
pub add_past : (l : List Entry) (e : Entry) (q : ℕ) (pd : Option ℕ) (n : ℕ) → e.moment ≡ n → (x : ℕ) → x ≤ n
    → content (l ++ (e ∷ [])) q pd x ≡ content l q pd x
add_past l e q pd n h x g =
    agree l q pd (l ++ (e ∷ [])) pd n (λ y i. rw (event_miss l e q y (content l q pd y) (λ a. let b = happens_at e q y a in omega arith))) x g

pub add_at : (l : List Entry) (e : Entry) (q : ℕ) (pd : Option ℕ) → bears e ≡ true → e.queue ≡ q → Free l e.moment → is_at pd e.moment ≡ false
    → content (l ++ (e ∷ [])) q pd (suc e.moment) ≡ applied (what e) e.node (content l q pd e.moment)
add_at l e q pd a b f g =
    content_suc (l ++ (e ∷ [])) q pd e.moment
    ∙ rw (
      g,
      event_hit l e q e.moment (content (l ++ (e ∷ [])) q pd e.moment) f (happens_is e q e.moment a b refl),
      add_past l e q pd e.moment refl
          e.moment (omega arith),
    )

-- the pending pop becomes an entry, or gives way to one, at the same moment and with the same effect there
pub swap : (l : List Entry) (e : Entry) (q k : ℕ) → bears e ≡ true → e.queue ≡ q → e.moment ≡ 2 * k → Free l (2 * k)
    → applied (what e) e.node (content l q (some k) (2 * k)) ≡ drop_last (content l q (some k) (2 * k))
    → (x : ℕ) → content (l ++ (e ∷ [])) q none x ≡ content l q (some k) x
swap l e q k a b m f h x = agree l q (some k) (l ++ (e ∷ [])) none x (λ y i. go y (ℕ_discrete y (2 * k))) x (omega arith)
  where
    go : (y : ℕ) → Dec (y ≡ 2 * k) → turn (l ++ (e ∷ [])) q none y (content l q (some k) y) ≡ turn l q (some k) y (content l q (some k) y)
    go y (yes d) = rw (d, eq-eqb (2 * k) (2 * k) refl, event_hit l e q (2 * k) (content l q (some k) (2 * k)) f (happens_is e q (2 * k) a b m)) h
    go y (no d) = rw (ne_eqb y (2 * k) d, event_miss l e q y (content l q (some k) y) (λ t. d (sym (happens_at e q y t) ∙ m)))

-- a pop becomes pending
pub pend_past : (l : List Entry) (q n x : ℕ) → x ≤ 2 * n → content l q (some n) x ≡ content l q none x
pend_past l q n x h = agree l q none l (some n) (2 * n) (λ y i. rw (ne_eqb y (2 * n) (omega arith))) x h

pub pend_at : (l : List Entry) (q n : ℕ) → content l q (some n) (suc (2 * n)) ≡ drop_last (content l q none (2 * n))
pend_at l q n = content_suc l q (some n) (2 * n) ∙ rw (eq-eqb (2 * n) (2 * n) refl, pend_past l q n (2 * n) (omega arith))
