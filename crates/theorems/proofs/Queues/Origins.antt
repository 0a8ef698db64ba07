-- Every push of the bench's log, done or FULL, is a call of the file that its process has finished; so no two push one node.
use Prim.Native.Nat.{ℕ, zero, suc, ◌-◌, ◌*◌, ◌≤◌, ◌<◌}
use mathlib.Core.Path.{◌≡◌, refl, sym, ap, ◌∙◌, subst}
use mathlib.Core.Bool.{Bool, true, false, cond}
use mathlib.Core.List.{List, [], ◌∷◌, ◌++◌}
use mathlib.Core.Logic.{◌⊎◌, inl, inr}
use native.Mathlib.Decide.{dec_lt}
use native.Mathlib.Omega.{arith}
use lib.ListN.{length, get_or, take, get_or-eq_default}
use Rattle.call_log.specs.Numbers.{what, no_moment}
use Rattle.call_log.specs.declared.Entry.{Entry}
use Rattle.call_log.specs.declared.What.{What}
use Rattle.call_log.specs.declared.What.TheVariants.{Pushed, Full, BottomNode, BottomNil, TopNode, TopNil, TopLost}
use Rattle.word.specs.Stages.{is_idle}
use Rattle.base.proofs.Cases.{either_way, if_set}
use Rattle.steps.specs.Step.{stage_after, loaded_slot, loaded}
use Rattle.steps.specs.declared.Next.{Next}
use Rattle.steps.specs.declared.Next.TheVariants as next
use Rattle.runfile.specs.Check.{sum}
use Rattle.runfile.specs.Encode.{CallInRange, InRanges}
use Rattle.runfile.specs.File.{RunFile}
use Rattle.runfile.specs.declared.Call.TheVariants.{Push, Pop}
use Rattle.runs.specs.Moment.{queue_of, pushed_node, is_take, entry, nil_moment, take_moment, node_entry, nil_entry}
use Rattle.runs.specs.State.{Process, State, nobody, queue_at, process_at, start}
use Rattle.runs.specs.Turn.{process_after, ending, acted}
use Rattle.runs.proofs.KindLaws.{Gives, gives}
use Rattle.runs.specs.Inner.Sound.{is_push, Sound, slots_at}
use Rattle.base.specs.Lists.{All, Pairs}
use Rattle.base.proofs.Lists.{all_snoc, all_map, all_in, in_all, pairs_snoc}
use Rattle.theorems.proofs.Queue.Memory.{log_after, log_after_lem}
use Rattle.runs.proofs.Sound.{Was, goes, begins, Steps, row_at}
use Rattle.runs.proofs.Reached.{everywhere}
use Rattle.runs.specs.States.{StateOf}
use Rattle.runs.proofs.States.{ByScript, reached}
use Rattle.runs.proofs.Scripts.{sizes_of, fit, low, high, finished, Scripted, Each, each_act, each_start, start_fresh}

abbrev pub Pushes : What → Type 0
Pushes w = (w ≡ Pushed) ⊎ (w ≡ Full)

pub record From (f : RunFile) (s : State) (e : Entry) : Type 0 where
  pub call : ℕ
  pub process : e.process < length f.shares
  pub above : low f e.process ≤ call
  pub below : call < finished (process_at s.bench e.process)
  pub pushes : get_or f.calls call Pop ≡ Push e.node

abbrev pub Differ : Entry → Entry → Type 0
Differ a b = what a ≡ Pushed → what b ≡ Pushed → a.node ≡ b.node → ⊥

pub record Origins (f : RunFile) (s : State) : Type 0 where
  pub each : Each f s
  pub origin : All (λ (e : Entry). Pushes (what e) → From f s e) s.log
  pub once : Pairs Differ s.log

-- no two calls of the file push one node
pop_not : (node : ℕ) → Pop ≡ Push node → ⊥
pop_not node e = let z : ◌≡◌ {A = ℕ} 0 1 = cc in omega arith

pub inside : (f : RunFile) (k node : ℕ) → get_or f.calls k Pop ≡ Push node → k < length f.calls
inside f k node e = by (dec_lt k (length f.calls))
  where
    by : Dec (k < length f.calls) → k < length f.calls
    by (yes lt) = lt
    by (no ge) = absurd (pop_not node (sym (get_or-eq_default f.calls Pop {n = k} (omega arith)) ∙ e))

unique : (f : RunFile) → InRanges f → (i j node : ℕ) → get_or f.calls i Pop ≡ Push node → get_or f.calls j Pop ≡ Push node → i ≡ j
unique f w i j node a b = by (dec_lt i j) (dec_lt j i)
  where
    by : Dec (i < j) → Dec (j < i) → i ≡ j
    by (yes lt) d = absurd (w.once i j node lt (inside f j node b) a b)
    by (no x) (yes lt) = absurd (w.once j i node lt (inside f i node a) b a)
    by (no x) (no y) = omega arith

-- the calls of two processes lie apart
sum_up : (a b : ℕ) (l : List ℕ) → a ≤ b → sum (take a l) ≤ sum (take b l)
sum_up zero b l h = omega arith
sum_up (suc a) zero l h = absurd (omega arith)
sum_up (suc a) (suc b) [] h = omega arith
sum_up (suc a) (suc b) (x ∷ l) h = omega (arith, sum_up a b l (omega arith))

one_process : (f : RunFile) (i a b : ℕ) → low f a ≤ i → i < high f a → low f b ≤ i → i < high f b → a ≡ b
one_process f i a b la ha lb hb = by (dec_lt a b) (dec_lt b a)
  where
    by : Dec (a < b) → Dec (b < a) → a ≡ b
    by (yes lt) d = absurd (let k = sum_up (suc a) b f.shares (omega arith) in omega arith)
    by (no x) (yes lt) = absurd (let k = sum_up (suc b) a f.shares (omega arith) in omega arith)
    by (no x) (no y) = omega arith

finished_le : (r : Process) → finished r ≤ r.next
finished_le r = either_way (λ (n : ℕ). n ≤ r.next) (is_idle r.stage) (λ _. omega arith) (λ _. omega arith)

pub node_other : (p n : ℕ) (r owner : Process) (t x : ℕ) (b : Bool)
    → Pushes (what (cond b (entry p n r TopNode x (take_moment n owner t)) (entry p n r BottomNode x (2 * r.b2)))) → ⊥
node_other p n r owner t x true (inl e) = let z : ◌≡◌ {A = ℕ} 0 1 = cc in omega arith
node_other p n r owner t x true (inr e) = let z : ◌≡◌ {A = ℕ} 0 1 = cc in omega arith
node_other p n r owner t x false (inl e) = let z : ◌≡◌ {A = ℕ} 0 1 = cc in omega arith
node_other p n r owner t x false (inr e) = let z : ◌≡◌ {A = ℕ} 0 1 = cc in omega arith

pub nil_other : (p n : ℕ) (r : Process) (b : Bool) → Pushes (what (cond b (entry p n r TopNil 0 no_moment) (entry p n r BottomNil 0 (nil_moment n r))))
    → ⊥
nil_other p n r true (inl e) = let z : ◌≡◌ {A = ℕ} 0 1 = cc in omega arith
nil_other p n r true (inr e) = let z : ◌≡◌ {A = ℕ} 0 1 = cc in omega arith
nil_other p n r false (inl e) = let z : ◌≡◌ {A = ℕ} 0 1 = cc in omega arith
nil_other p n r false (inr e) = let z : ◌≡◌ {A = ℕ} 0 1 = cc in omega arith

lost_other : Pushes TopLost → ⊥
lost_other (inl e) = let z : ◌≡◌ {A = ℕ} 0 1 = cc in omega arith
lost_other (inr e) = let z : ◌≡◌ {A = ℕ} 0 1 = cc in omega arith

module _ (f : RunFile) (w : InRanges f) (s : State) (v : Sound (sizes_of f) s) (i : Origins f s) (p : ℕ) (r : Process) (k : Steps (sizes_of f) s p r)
    (c : Scripted f p r) where
  abbrev n : ℕ
  n = s.bench.steps

  abbrev o : Next
  o = (row_at (sizes_of f) s p r).next

  abbrev t : State
  t = acted p r s (row_at (sizes_of f) s p r)

  finished_old : (r : Process) → Was (sizes_of f) s p r → is_idle r.stage ≡ false → finished r ≡ finished (process_at s.bench p)
  finished_old r goes b = refl
  finished_old r (begins call z) b = rw (b, z) (omega arith)

  here : finished r ≡ r.next - 1
  here = rw k.busy refl

  up : (x : Next) → finished r ≤ cond (is_idle (stage_after x)) r.next (r.next - 1)
  up x = rw k.busy (either_way (λ (n : ℕ). r.next - 1 ≤ n) (is_idle (stage_after x)) (λ _. omega arith) (λ _. omega arith))

  abbrev r' : Process
  r' = process_after n (queue_at s.bench (queue_of p r.call)).resets r o

  at_record : (P : Process → Type 0) (j : ℕ) → (j ≡ p → P r') → ((j ≡ p → ⊥) → P (process_at s.bench j))
      → P (process_at (acted p r s (row_at (sizes_of f) s p r)).bench j)
  at_record P j a b = if_set P s.bench.processes p j r' nobody (omega (arith, k.below, v.records, w.processes)) a b

  grows : (j : ℕ) → finished (process_at s.bench j) ≤ finished (process_at (acted p r s (row_at (sizes_of f) s p r)).bench j)
  grows j = at_record (λ (a : Process). finished (process_at s.bench j) ≤ finished a) j
      (λ e. subst (λ (a : ℕ). finished (process_at s.bench a) ≤ finished r') (sym e) (omega (arith, finished_old r k.was k.busy, up o)))
      (λ e. omega arith)

  abbrev Orig : Entry → Type 0
  Orig e = Pushes (what e) → From f t e

  old : All Orig s.log
  old =
      all_map _ _ (λ e g d. let a = g d in record {
        call = a.call;
        process = a.process;
        above = a.above;
        below = omega (arith, a.below, grows e.process);
        pushes = a.pushes;
      }) s.log i.origin

  -- the push that ends
  module _ (e : Entry) (by : e.process ≡ p) (is : r.call ≡ Push e.node) (over : stage_after o ≡ stage_after next.Done) where
    new : From f t e
    new = record {
      call = r.next - 1;
      process = subst (λ (j : ℕ). j < length f.shares) (sym by) k.below;
      above = subst (λ (j : ℕ). low f j ≤ r.next - 1) (sym by) (omega (arith, here, c.from));
      below = at_record (λ (a : Process). r.next - 1 < finished a) e.process
          (λ d. subst (λ (z : _). r.next - 1 < cond (is_idle z) r.next (r.next - 1)) (sym over) (omega (arith, c.begun k.busy)))
          (λ d. absurd (d by));
      pushes = c.call k.busy ∙ is;
    }

    apart : All (λ (a : Entry). Differ a e) s.log
    apart = all_in _ s.log (λ a j b d g.
        let oa = in_all _ s.log i.origin a j (inl b) in
        let d₁ = unique f w oa.call (r.next - 1) e.node (oa.pushes ∙ ap Push g) (c.call k.busy ∙ is) in
        let ea = i.each a.process oa.process in
        let lo = finished_le (process_at s.bench a.process) in
        let d₂ : a.process ≡ p = one_process f (r.next - 1) a.process p (omega (arith, oa.above)) (omega (arith, oa.below, ea.stop, ea.to))
        (omega (arith, here, c.from)) (omega (arith, c.begun k.busy, c.to, c.stop)) in
        let d₃ : finished (process_at s.bench a.process) ≡ finished (process_at s.bench p) =
        ap (λ (j : ℕ). finished (process_at s.bench j)) d₂ in
        omega (arith, oa.below, here, finished_old r k.was k.busy))

  abbrev Log : List Entry → Type 0
  Log l = All Orig l × Pairs Differ l

  push_is : is_push r.stage ≡ true → r.call ≡ Push (pushed_node r.call)
  push_is g = k.placed.suits.push g

  no_pushed : (e : Entry) → (Pushes (what e) → ⊥) → All (λ (a : Entry). Differ a e) s.log
  no_pushed e u = all_in _ s.log (λ a j b d g. absurd (u (inl d)))

  with_new : (e : Entry) → Orig e → All (λ (a : Entry). Differ a e) s.log → Log (s.log ++ (e ∷ []))
  with_new e a b = (all_snoc _ s.log e old a, pairs_snoc Differ s.log e i.once b)

  logged : (x : Next) → o ≡ x → Gives r.stage x → Log (log_after s.log (ending p r s.bench x))
  logged (next.Going z) d g = (old, i.once)
  logged next.Done d g =
      with_new _ (λ _. new (entry p n r Pushed (pushed_node r.call) (2 * n)) refl (push_is g) (ap stage_after d))
      (apart (entry p n r Pushed (pushed_node r.call) (2 * n)) refl (push_is g) (ap stage_after d))
  logged (next.Node x) d g =
      let u =
      node_other p n r (process_at s.bench (queue_of p r.call)) (queue_at s.bench (queue_of p r.call)).word.top x (is_take r.call) in
      with_new _ (λ y. absurd (u y))
      (no_pushed (node_entry p n r (process_at s.bench (queue_of p r.call)) (queue_at s.bench (queue_of p r.call)).word.top x) u)
  logged next.Nil d g = let u = nil_other p n r (is_take r.call) in with_new _ (λ y. absurd (u y)) (no_pushed (nil_entry p n r) u)
  logged next.Lost d g = with_new _ (λ y. absurd (lost_other y)) (no_pushed (entry p n r TopLost 0 no_moment) lost_other)
  logged next.Full d g =
      with_new _ (λ _. new (entry p n r Full (pushed_node r.call) no_moment) refl (push_is g) (ap stage_after d))
      (apart (entry p n r Full (pushed_node r.call) no_moment) refl (push_is g) (ap stage_after d))

  origins_act : Origins f (acted p r s (row_at (sizes_of f) s p r))
  origins_act =
      let lg = logged o refl
      (gives f.width f.size (queue_at s.bench (queue_of p r.call)).word (loaded (slots_at s (queue_of p r.call)) (loaded_slot r.stage)) r.stage) in
      let lg' : Log t.log = subst Log (sym (log_after_lem s.log (ending p r s.bench o))) lg in
      record { each = each_act f w s v i.each p r k c; origin = lg'.0; once = lg'.1 }

-- in every state of a run of a good file, gone-round takes or not
pub origins : (f : RunFile) → InRanges f → (s : State) → StateOf f s → Origins f s
origins f w s o = (everywhere (sizes_of f) (fit f w) (ByScript f) (start f) (start_fresh f w) (Origins f)
    (record { each = each_start f w; origin = tt; once = tt })
    (λ s v i. record {
      each = i.each;
      origin =
          all_map _ _
          (λ e g d. let a = g d in record { call = a.call; process = a.process; above = a.above; below = a.below; pushes = a.pushes }) s.log
          i.origin;
      once = i.once;
    })
    (λ s v i p r k c. origins_act f w s v i p r k c.0) s (reached f w s o)).1

pub node_in : (f : RunFile) → InRanges f → (s : State) (e : Entry) → From f s e → (1 ≤ e.node) × (e.node ≤ 65535)
node_in f w s e h = subst (CallInRange (length f.shares)) h.pushes (w.calls h.call (inside f h.call e.node h.pushes))
