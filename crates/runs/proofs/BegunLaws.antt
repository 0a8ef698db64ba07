-- Every call that was begun is in the log once, those of a process in the order of its script, and nothing else is in it.
use Prim.Native.Nat.{ℕ, zero, suc, ◌+◌, ◌-◌, ◌≤◌, ◌<◌}
use mathlib.Core.Path.{◌≡◌, refl, sym, ap, ◌∙◌, subst}
use mathlib.Core.Bool.{Bool, true, false, cond, ◌&&◌, false≢true, true≢false}
use mathlib.Core.List.{List, [], ◌∷◌, ◌++◌, map, append-nil, append_assoc}
use native.Mathlib.Omega.{arith}
use native.Mathlib.Numerals.{add-one}
use native.Mathlib.Decide.{dec_lt, ℕ_discrete}
use borrow.Author.Tests.{eq-eqb, ne_eqb}
use lib.Dec.{eqb, ltb, leb}
use lib.ListN.{length, get_or, take, drop, set, length-take, length-drop, length-set, get_or-eq_default}
use lib.Seq.{take-nil, take-suc, get_or-take, get_or-drop, get_or-set_same, get_or-set_other}
use Rattle.base.specs.Lists.{list_of}
use Rattle.base.proofs.Lists.{list_of_get_d}
use Rattle.call_log.specs.Numbers.{push, bottom_pop, top_pop}
use Rattle.call_log.specs.declared.Entry.{Entry}
use Rattle.word.specs.Stages.{row_number, is_idle}
use Rattle.steps.specs.Step.{same_age, row_of, loaded, loaded_slot, stage_after, Stepped}
use Rattle.steps.specs.declared.Next.{Next}
use Rattle.steps.specs.declared.Next.TheVariants.{Going, Done, Node, Nil, Lost, Full}
use Rattle.word.specs.declared.Stage.{Stage}
use Rattle.word.specs.declared.Stage.TheVariants.{Idle, P1, P2, P3, T1, T2, T3, T4, B1, B2, B3, B4, B5, B6, B7}
use Rattle.word.specs.declared.Word.{Word}
use Rattle.runfile.specs.Check.{sum}
use Rattle.runfile.proofs.CheckLaws.{sum_next}
use Rattle.runfile.specs.Encode.{InRanges}
use Rattle.runfile.specs.File.{RunFile, script}
use Rattle.runfile.specs.declared.Call.{Call}
use Rattle.runfile.specs.declared.Call.TheVariants.{Push, Pop, Take}
use Rattle.runs.proofs.ClosingLaws.{lowest_busy, all_closed_idle}
use Rattle.runs.specs.Moment.{queue_of, pushed_node, is_take, ended, Ended, Nothing, ends}
use Rattle.runs.specs.Run.{lowest, closed, closing_step}
use Rattle.runs.proofs.Induction.{next_of, ended_by, record_after, turn_keeps, closed_keeps}
use Rattle.runs.specs.Shown.{entries_of, call_in, calls_begun, BegunOnce}
use Rattle.runs.specs.State.{Process, State, nobody, scripted, start, queue_at, process_at}
use Rattle.runs.specs.Turn.{first_stage, begun, ready, entries_in, act, turn, turning}
use Rattle.base.proofs.Cases.{either_way}
use Rattle.runs.proofs.TurnLaws.{begins}

-- the calls of process p that a log tells of
abbrev calls_by : ℕ → List Entry → List Call
calls_by p log = map call_in (entries_of p log)

-- where the script of process p starts in the calls of the file
abbrev first_call : RunFile → ℕ → ℕ
first_call f p = sum (take p f.shares)

-- a longer log tells of more calls
of_append : (p : ℕ) (l m : List Entry) → calls_by p (l ++ m) ≡ calls_by p l ++ calls_by p m
of_append p [] m = refl
of_append p (e ∷ l) m = at (eqb e.process p) (of_append p l m)
  where
    at : (t : Bool) → calls_by p (l ++ m) ≡ calls_by p l ++ calls_by p m
        → map call_in (cond t (e ∷ entries_of p (l ++ m)) (entries_of p (l ++ m)))
        ≡ map call_in (cond t (e ∷ entries_of p l) (entries_of p l)) ++ calls_by p m
    at true later = ap (λ (x : List Call). call_in e ∷ x) later
    at false later = later

-- what a step ends is its process's
abbrev By : ℕ → Ended → Type 0
By p Nothing = Unit {0}
By p (ends e) = e.process ≡ p

ended_by_lem : (p n : ℕ) (r owner : Process) (t : ℕ) (next : Next) → By p (ended p n r owner t next)
ended_by_lem p n r owner t (Going z) = tt
ended_by_lem p n r owner t Done = refl
ended_by_lem p n r owner t (Node x) = either_way (λ (e : Entry). e.process ≡ p) (is_take r.call) (λ e. refl) (λ e. refl)
ended_by_lem p n r owner t Nil = either_way (λ (e : Entry). e.process ≡ p) (is_take r.call) (λ e. refl) (λ e. refl)
ended_by_lem p n r owner t Lost = refl
ended_by_lem p n r owner t Full = refl

by_own : (p : ℕ) (over : Ended) → By p over → calls_by p (entries_in over) ≡ map call_in (entries_in over)
by_own p Nothing h = refl
by_own p (ends e) h = rw (eq-eqb e.process p h)

by_other : (p j : ℕ) (over : Ended) → By p over → (j ≡ p → ⊥) → calls_by j (entries_in over) ≡ []
by_other p j Nothing h ne = refl
by_other p j (ends e) h ne = rw (ne_eqb e.process j (λ d. ne (sym d ∙ h)))

-- the kind of a stage by its row, and of a call
abbrev kind_at : Stage → ℕ
kind_at z = cond (is_idle z) 0 (cond (ltb (row_number z) (row_number T1)) push (cond (ltb (row_number z) (row_number B1)) top_pop bottom_pop))

abbrev kind_called : Call → ℕ
kind_called (Push node) = push
kind_called Pop = bottom_pop
kind_called (Take q) = top_pop

-- what a step may lead to in a call of kind k
abbrev Keeps : ℕ → Next → Type 0
Keeps k (Going z) = kind_at z ≡ k
Keeps k Done = k ≡ push
Keeps k (Node x) = bottom_pop ≤ k
Keeps k Nil = bottom_pop ≤ k
Keeps k Lost = k ≡ top_pop
Keeps k Full = k ≡ push

abbrev KeptBy : ℕ → Stepped → Type 0
KeptBy k o = Keeps k o.next

row_keeps : (W C : ℕ) (w : Word) (v : ℕ) (z : Stage) → Keeps (kind_at z) (row_of W C w v z).next
row_keeps W C w v Idle = refl
row_keeps W C w v (P1 node) = either_way (KeptBy push) (eqb w.bottom C) (λ e. refl) (λ e. refl)
row_keeps W C w v (P2 node b) = refl
row_keeps W C w v (P3 b) = refl
row_keeps W C w v T1 = refl
row_keeps W C w v (T2 t g) = either_way (KeptBy top_pop) (leb w.bottom t) (λ e. omega arith) (λ e. refl)
row_keeps W C w v (T3 t g b) = refl
row_keeps W C w v (T4 t g b x) = either_way (KeptBy top_pop) (same_age w t g) (λ e. omega arith) (λ e. refl)
row_keeps W C w v B1 = either_way (KeptBy bottom_pop) (eqb w.bottom 0) (λ e. omega arith) (λ e. refl)
row_keeps W C w v (B2 b) = refl
row_keeps W C w v (B3 b) = refl
row_keeps W C w v (B4 b x) = either_way (KeptBy bottom_pop) (ltb w.top (b - 1)) (λ e. omega arith) (λ e. refl)
row_keeps W C w v (B5 b x t g) = either_way (λ (y : Stage). kind_at y ≡ bottom_pop) (eqb (b - 1) t) (λ e. refl) (λ e. refl)
row_keeps W C w v (B6 b x t g) = either_way (KeptBy bottom_pop) (same_age w t g) (λ e. omega arith) (λ e. refl)
row_keeps W C w v (B7 b x t g) = omega arith

step_keeps : (W C p : ℕ) (r : Process) (s : State) → Keeps (kind_at r.stage) (next_of W C p r s)
step_keeps W C p r s =
    let q : ℕ = queue_of p r.call in
    row_keeps W C (queue_at s.bench q).word (loaded (get_or s.slots q []) (loaded_slot r.stage)) r.stage

-- a call by its kind, as `call_in` has it
push_call : (c : Call) → kind_called c ≡ push → Push (pushed_node c) ≡ c
push_call (Push node) h = refl
push_call Pop h = absurd (omega arith)
push_call (Take q) h = absurd (omega arith)

take_call : (p : ℕ) (c : Call) → is_take c ≡ true → Take (queue_of p c) ≡ c
take_call p (Push node) e = absurd (false≢true e)
take_call p Pop e = absurd (false≢true e)
take_call p (Take q) e = refl

lost_call : (p : ℕ) (c : Call) → kind_called c ≡ top_pop → Take (queue_of p c) ≡ c
lost_call p (Push node) h = absurd (omega arith)
lost_call p Pop h = absurd (omega arith)
lost_call p (Take q) h = refl

pop_call : (c : Call) → is_take c ≡ false → bottom_pop ≤ kind_called c → Pop ≡ c
pop_call (Push node) e h = absurd (omega arith)
pop_call Pop e h = refl
pop_call (Take q) e h = absurd (true≢false e)

going_busy : (z : Stage) → 1 ≤ kind_at z → is_idle z ≡ false
going_busy z h = at (is_idle z) refl
  where
    at : (t : Bool) → is_idle z ≡ t → t ≡ false
    at true e = absurd (let k : kind_at z ≡ 0 = rw e in omega arith)
    at false e = refl

busy_kind : (z : Stage) → is_idle z ≡ false → 1 ≤ kind_at z
busy_kind z e =
    rw e (either_way (λ (k : ℕ). 1 ≤ k) (ltb (row_number z) (row_number T1)) (λ d. omega arith)
    (λ d. either_way (λ (k : ℕ). 1 ≤ k) (ltb (row_number z) (row_number B1)) (λ b. omega arith) (λ b. omega arith)))

next_kind : (k : ℕ) (next : Next) → Keeps k next → is_idle (stage_after next) ≡ false → kind_at (stage_after next) ≡ k
next_kind k (Going z) h e = h
next_kind k Done h e = absurd (true≢false e)
next_kind k (Node x) h e = absurd (true≢false e)
next_kind k Nil h e = absurd (true≢false e)
next_kind k Lost h e = absurd (true≢false e)
next_kind k Full h e = absurd (true≢false e)

-- the call that a process at a stage is in; none where it is idle
abbrev call_at : Stage → Call → List Call
call_at z c = cond (is_idle z) [] (c ∷ [])

alone : {c d : Call} → c ≡ d → c ∷ [] ≡ d ∷ []
alone e = ap (λ (x : Call). x ∷ []) e

abbrev Told : Call → Entry → Type 0
Told c e = call_in e ∷ [] ≡ c ∷ []

-- a step either goes on in its call or ends it, and then the entry tells of it
told_once : (p n : ℕ) (r owner : Process) (t : ℕ) (next : Next)
    → Keeps (kind_called r.call) next → 1 ≤ kind_called r.call
    → map call_in (entries_in (ended p n r owner t next)) ++ call_at (stage_after next) r.call ≡ r.call ∷ []
told_once p n r owner t (Going z) k busy = rw (going_busy z (omega arith))
told_once p n r owner t Done k busy = alone (push_call r.call k)
told_once p n r owner t (Node x) k busy =
    either_way (Told r.call) (is_take r.call) (λ d. alone (take_call p r.call d)) (λ d. alone (pop_call r.call d k))
told_once p n r owner t Nil k busy =
    either_way (Told r.call) (is_take r.call) (λ d. alone (take_call p r.call d)) (λ d. alone (pop_call r.call d k))
told_once p n r owner t Lost k busy = alone (lost_call p r.call k)
told_once p n r owner t Full k busy = alone (push_call r.call k)

-- the calls told so far of process p, and then the one that it is in, are those that it has begun of its script
record Follows (f : RunFile) (told : List Call) (p : ℕ) (r : Process) : Type 0 where
  stop : r.stop ≡ first_call f p + get_or f.shares p 0
  from : first_call f p ≤ r.next
  upto : r.next ≤ r.stop
  kind : is_idle r.stage ≡ false → kind_at r.stage ≡ kind_called r.call
  calls : told ++ call_at r.stage r.call ≡ take (r.next - first_call f p) (script f p)

idle_calls : (f : RunFile) (told : List Call) (p : ℕ) (r : Process) → Follows f told p r → is_idle r.stage ≡ true
    → told ≡ take (r.next - first_call f p) (script f p)
idle_calls f told p r h e =
    sym (append-nil told) ∙ ap (λ (t : Bool). told ++ cond t [] (r.call ∷ [])) (sym e) ∙ h.calls

busy_calls : (f : RunFile) (told : List Call) (p : ℕ) (r : Process) → Follows f told p r → is_idle r.stage ≡ false
    → told ++ (r.call ∷ []) ≡ take (r.next - first_call f p) (script f p)
busy_calls f told p r h e = ap (λ (t : Bool). told ++ cond t [] (r.call ∷ [])) (sym e) ∙ h.calls

-- a script lies within the calls of the file
sum-take : (n : ℕ) (l : List ℕ) → sum (take n l) ≤ sum l
sum-take zero l = omega arith
sum-take (suc n) [] = omega arith
sum-take (suc n) (x ∷ l) = omega (arith, sum-take n l)

next_first : (f : RunFile) (p : ℕ) → first_call f (p + 1) ≡ first_call f p + get_or f.shares p 0
next_first f p = sum_next f.shares p

script_length : (f : RunFile) (p : ℕ) → length f.calls ≡ sum f.shares → length (script f p) ≡ get_or f.shares p 0
script_length f p e = simp (length-take, length-drop) (omega (arith, e, next_first f p, sum-take (p + 1) f.shares))

-- one more call of the script
script_next : (f : RunFile) (p k : ℕ) → length f.calls ≡ sum f.shares → k < get_or f.shares p 0
    → take (suc k) (script f p) ≡ take k (script f p) ++ (get_or f.calls (first_call f p + k) Pop ∷ [])
script_next f p k e lt =
    take-suc (script f p) k Pop (omega (arith, script_length f p e))
    ∙ ap (λ (c : Call). take k (script f p) ++ (c ∷ []))
    (get_or-take (get_or f.shares p 0) (drop (first_call f p) f.calls) k Pop lt ∙ get_or-drop (first_call f p) f.calls k Pop)

-- beginning a call
module _ (f : RunFile) (count : length f.calls ≡ sum f.shares) (told : List Call) (p n : ℕ) (r : Process) (h : Follows f told p r) where
  begun_follows : is_idle r.stage ≡ true → r.next < r.stop → is_idle (first_stage (get_or f.calls r.next Pop)) ≡ false
      → Follows f told p (begun n (get_or f.calls r.next Pop) r)
  begun_follows idle lt busy =
      let c : Call = get_or f.calls r.next Pop in
      let k : ℕ = r.next - first_call f p in
      let here : first_call f p + k ≡ r.next = omega (arith, h.from) in
      let more : suc k ≡ r.next + 1 - first_call f p = omega (arith, h.from) in record {
        stop = h.stop;
        from = omega (arith, h.from);
        upto = omega arith;
        kind = λ e. first_kind c;
        calls =
            ap (λ (t : Bool). told ++ cond t [] (c ∷ [])) busy
            ∙ ap (λ (l : List Call). l ++ (c ∷ [])) (idle_calls f told p r h idle)
            ∙ ap (λ (j : ℕ). take k (script f p) ++ (get_or f.calls j Pop ∷ [])) (sym here)
            ∙ sym (script_next f p k count (omega (arith, h.stop)))
            ∙ ap (λ (j : ℕ). take j (script f p)) more;
      }
    where
      first_kind : (c : Call) → kind_at (first_stage c) ≡ kind_called c
      first_kind (Push node) = refl
      first_kind Pop = refl
      first_kind (Take q) = refl

  ready_follows : is_idle (ready f.calls n r).stage ≡ false → Follows f told p (ready f.calls n r)
  ready_follows =
      either_way (λ (x : Process). is_idle x.stage ≡ false → Follows f told p x) (is_idle r.stage && ltb r.next r.stop)
      (λ e busy. begun_follows (left_true (is_idle r.stage) (ltb r.next r.stop) e) (begins (is_idle r.stage) r.next r.stop e) busy)
      (λ e busy. h)
    where
      left_true : (s t : Bool) → (s && t) ≡ true → s ≡ true
      left_true true t e = refl
      left_true false t e = e

-- a step of process p in its call
module _ (W C p : ℕ) (r : Process) (s : State) where
  abbrev log_after : List Entry
  log_after = s.log ++ entries_in (ended_by W C p r s)

  ends_own : By p (ended_by W C p r s)
  ends_own =
      let q : ℕ = queue_of p r.call in
      ended_by_lem p s.bench.steps r (process_at s.bench q) (queue_at s.bench q).word.top (next_of W C p r s)

  -- it tells of no other process
  other_calls : (j : ℕ) → (j ≡ p → ⊥) → calls_by j log_after ≡ calls_by j s.log
  other_calls j ne =
      of_append j s.log (entries_in (ended_by W C p r s))
      ∙ ap (λ (l : List Call). calls_by j s.log ++ l) (by_other p j (ended_by W C p r s) ends_own ne)
      ∙ append-nil (calls_by j s.log)

  -- and of its call once
  own_calls : Keeps (kind_called r.call) (next_of W C p r s) → 1 ≤ kind_called r.call
      → calls_by p log_after ++ call_at (stage_after (next_of W C p r s)) r.call ≡ calls_by p s.log ++ (r.call ∷ [])
  own_calls kept known =
      let q : ℕ = queue_of p r.call in
      let told : List Call = calls_by p s.log in
      let new : List Entry = entries_in (ended_by W C p r s) in
      let rest : List Call = call_at (stage_after (next_of W C p r s)) r.call in
      ap (λ (l : List Call). l ++ rest) (of_append p s.log new)
      ∙ append_assoc told (calls_by p new) rest
      ∙ ap (λ (l : List Call). told ++ (l ++ rest)) (by_own p (ended_by W C p r s) ends_own)
      ∙ ap (λ (l : List Call). told ++ l)
      (told_once p s.bench.steps r (process_at s.bench q) (queue_at s.bench q).word.top (next_of W C p r s) kept known)

  own_follows : (f : RunFile) → is_idle r.stage ≡ false → Follows f (calls_by p s.log) p r
      → Follows f (calls_by p log_after) p (record_after W C p r s)
  own_follows f busy h =
      let next : Next = next_of W C p r s in
      let kept : Keeps (kind_called r.call) next = subst (λ (k : ℕ). Keeps k next) (h.kind busy) (step_keeps W C p r s) in
      let known : 1 ≤ kind_called r.call = omega (arith, busy_kind r.stage busy, h.kind busy) in record {
        stop = h.stop;
        from = h.from;
        upto = h.upto;
        kind = next_kind (kind_called r.call) next kept;
        calls = own_calls kept known ∙ busy_calls f (calls_by p s.log) p r h busy;
      }

-- the log of a run tells of each process what it has begun
record Tells (f : RunFile) (s : State) : Type 0 where
  follows : (p : ℕ) → p < 8 → Follows f (calls_by p s.log) p (process_at s.bench p)
  others : (p : ℕ) → 8 ≤ p → calls_by p s.log ≡ []

-- with eight processes throughout
record Sound (f : RunFile) (s : State) : Type 0 where
  eight : length s.bench.processes ≡ 8
  tells : Tells f s

act_tells : (f : RunFile) (W C p : ℕ) (r : Process) (s : State) → length s.bench.processes ≡ 8 → p < 8 → is_idle r.stage ≡ false
    → Follows f (calls_by p s.log) p r → Tells f s → Tells f (act W C p r s)
unfolding act
act_tells f W C p r s eight there busy h was = record {
  follows = λ j lt. split j lt (ℕ_discrete j p);
  others = λ j ge. other_calls W C p r s j (λ d. omega arith) ∙ was.others j ge;
}
  where
    l : List Process
    l = s.bench.processes

    r' : Process
    r' = record_after W C p r s

    log' : List Entry
    log' = log_after W C p r s

    split : (j : ℕ) → j < 8 → Dec (j ≡ p) → Follows f (calls_by j log') j (get_or (set l p r') j nobody)
    split j lt (yes d) =
        subst (λ (k : ℕ). Follows f (calls_by k log') k (get_or (set l p r') k nobody)) (sym d)
        (subst (Follows f (calls_by p log') p) (sym (get_or-set_same l p r' nobody (omega (arith, eight)))) (own_follows W C p r s f busy h))
    split j lt (no d) =
        subst (Follows f (calls_by j log') j) (sym (get_or-set_other l p j r' nobody d))
        (subst (λ (told : List Call). Follows f told j (process_at s.bench j)) (sym (other_calls W C p r s j d)) (was.follows j lt))

act_sound : (f : RunFile) (W C p : ℕ) (r : Process) (s : State) → p < 8 → is_idle r.stage ≡ false
    → Follows f (calls_by p s.log) p r → Sound f s → Sound f (act W C p r s)
unfolding act
act_sound f W C p r s there busy follows h = record {
  eight = length-set s.bench.processes p (record_after W C p r s) ∙ h.eight;
  tells = act_tells f W C p r s h.eight there busy follows h.tells;
}

-- a process that has a step to make is one of the eight
turning_there : (calls : List Call) (p : ℕ) (s : State) → length s.bench.processes ≡ 8 → is_idle (turning calls p s).stage ≡ false → p < 8
turning_there calls p s eight busy = split (dec_lt p 8)
  where
    split : Dec (p < 8) → p < 8
    split (yes lt) = lt
    split (no ge) =
        let gone : process_at s.bench p ≡ nobody = get_or-eq_default s.bench.processes nobody {n = p} (omega (arith, eight)) in
        absurd (true≢false (sym (ap (λ (x : Process). is_idle (ready calls s.bench.steps x).stage) gone) ∙ busy))

turn_sound : (f : RunFile) → InRanges f → (p : ℕ) (s : State) → Sound f s → Sound f (turn f.width f.size f.calls p s)
turn_sound f ok p s h =
    turn_keeps f.width f.size f.calls (Sound f) p s
    (record { eight = h.eight; tells = record { follows = h.tells.follows; others = h.tells.others } })
    (λ busy.
    let there : p < 8 = turning_there f.calls p s h.eight busy in
    act_sound f f.width f.size p (turning f.calls p s) s there busy
    (ready_follows f ok.count (calls_by p s.log) p s.bench.steps (process_at s.bench p) (h.tells.follows p there) busy) h)

closing_sound : (f : RunFile) (s : State) → lowest s.bench.processes < 8 → Sound f s → Sound f (closing_step f.width f.size s)
closing_sound f s lt h =
    let p : ℕ = lowest s.bench.processes in
    let busy : is_idle (process_at s.bench p).stage ≡ false = lowest_busy s.bench.processes (omega (arith, h.eight)) in
    act_sound f f.width f.size p (process_at s.bench p) s lt busy (h.tells.follows p lt) h

start_sound : (f : RunFile) → Sound f (start f)
start_sound f = record { eight = refl; tells = record { follows = λ p lt. at p lt; others = λ p ge. refl } }
  where
    waits : (p : ℕ) → Follows f [] p (scripted f.shares p)
    waits p = record {
      stop = ap (λ (n : ℕ). first_call f n) (sym (add-one p)) ∙ next_first f p;
      from = omega arith;
      upto = omega (arith, ap (λ (n : ℕ). first_call f n) (sym (add-one p)), next_first f p);
      kind = λ e. absurd (true≢false e);
      calls = ap (λ (n : ℕ). take n (script f p)) (none (first_call f p));
    }
      where
        none : (n : ℕ) → 0 ≡ n - n
        none n = omega arith

    at : (p : ℕ) → p < 8 → Follows f [] p (get_or (list_of 8 (scripted f.shares)) p nobody)
    at p lt = subst (Follows f [] p) (sym (list_of_get_d 8 (scripted f.shares) nobody p lt)) (waits p)

sound : (f : RunFile) → InRanges f → Sound f (closed f)
sound f ok =
    (closed_keeps f (λ n s. Sound f s) (λ n p s. turn_sound f ok p s) (λ n s. closing_sound f s) (start_sound f)).holds

-- after the closing no call is half-done, so the log tells of all that were begun
module _ (f : RunFile) (ok : InRanges f) where
  told_all : (p : ℕ) → p < 8 → calls_by p (closed f).log ≡ take (calls_begun f (closed f) p) (script f p)
  told_all p lt =
      idle_calls f (calls_by p (closed f).log) p (process_at (closed f).bench p) ((sound f ok).tells.follows p lt) (all_closed_idle f p)

  -- a process from P on has no script
  none_told : (p : ℕ) → length f.shares ≤ p → calls_by p (closed f).log ≡ []
  none_told p ge = split (dec_lt p 8)
    where
      split : Dec (p < 8) → calls_by p (closed f).log ≡ []
      split (yes lt) =
          let n : ℕ = calls_begun f (closed f) p in
          told_all p lt
          ∙ ap (λ (m : ℕ). take n (take m (drop (first_call f p) f.calls))) (get_or-eq_default f.shares 0 {n = p} ge)
          ∙ take-nil n
      split (no far) = (sound f ok).tells.others p (omega arith)

-- a log that tells of no process from P on has no entry of one
no_entry_lem : (P : ℕ) (l : List Entry) → ((p : ℕ) → P ≤ p → calls_by p l ≡ []) → (k : ℕ) (d : Entry) → k < length l → (get_or l k d).process < P
no_entry_lem P [] h k d lt = absurd (omega arith)
no_entry_lem P (e ∷ l) h zero d lt = split (dec_lt e.process P)
  where
    split : Dec (e.process < P) → e.process < P
    split (yes below) = below
    split (no ge) =
        let some : call_in e ∷ calls_by e.process l ≡ [] = rw (eq-eqb e.process e.process refl) at (h e.process (omega arith)) in
        absurd (let z : ◌≡◌ {A = ℕ} 0 1 = cc in omega arith)
no_entry_lem P (e ∷ l) h (suc k) d lt = no_entry_lem P l (λ p ge. later p (eqb e.process p) (h p ge)) k d (omega arith)
  where
    later : (p : ℕ) (t : Bool) → map call_in (cond t (e ∷ entries_of p l) (entries_of p l)) ≡ [] → calls_by p l ≡ []
    later p true none = absurd (let z : ◌≡◌ {A = ℕ} 0 1 = cc in omega arith)
    later p false none = none

-- every call that was begun is in the log once
pub begun_once : (f : RunFile) → InRanges f → BegunOnce f (closed f)
begun_once f ok = record {
  told = λ p lt. told_all f ok p (omega (arith, ok.processes));
  place = λ p lt. omega (arith, (follows p lt).from);
  within = λ p lt. omega (arith, (follows p lt).upto, (follows p lt).stop);
  below = no_entry_lem (length f.shares) (closed f).log (none_told f ok);
}
  where
    follows : (p : ℕ) → p < length f.shares → Follows f (calls_by p (closed f).log) p (process_at (closed f).bench p)
    follows p lt = (sound f ok).tells.follows p (omega (arith, ok.processes))
