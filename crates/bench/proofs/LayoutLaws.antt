-- Laws of the row of slots, of entries put into a log, and of the program's arrays.
use Prim.Native.Nat.{ℕ, suc, ◌+◌, ◌-◌, ◌*◌, ◌≤◌, ◌<◌}
use mathlib.Core.Path.{◌≡◌, sym, ap, ◌∙◌, subst}
use mathlib.Core.List.{List, [], ◌∷◌, ◌++◌}
use native.Mathlib.Omega.{arith}
use native.Mathlib.Decide.{dec_lt, ℕ_discrete}
use lib.ListN.{length, get_or, take, drop, set, length-set, length-drop, get_or-append}
use lib.Seq.{get_or-take, get_or-drop, get_or-append-add, get_or-set_same, get_or-set_other, ext_get_or, length-take-le}
use borrow.Rule.Slice.PartMut.{put_mid, same_len_mid}
use Rattle.base.specs.Bytes.{put_at}
use Rattle.base.specs.Lists.{list_of}
use Rattle.call_log.specs.Encode.{entry_bytes}
use Rattle.base.proofs.Lists.{list_of-length, list_of_get_d, rows_apart}
use Rattle.call_log.specs.declared.Entry.{Entry}
use Rattle.steps.specs.Step.{stored, Stepped}
use Rattle.steps.specs.Packed.{unpacked, StepPacked, PackedStep}
use Rattle.word.specs.declared.Stage.{Stage}
use Rattle.steps.specs.declared.PackedWord.{PackedWord}
use Rattle.steps.proofs.StepLaws.{stored_length}
use Rattle.records.specs.Inner.Records.{process_in, slots_place}
use Rattle.bench.specs.Inner.Layout.{fresh_held, idle_held, queue_of_held, queue_in, record_in, bench_in, slots_of, slots_in, StepsIn, put_entries}
use Rattle.runs.specs.State.{Process, Queue, fresh, nobody, queue_at, process_at}
use Rattle.runs.specs.Inner.Counted.{Counted}
use Rattle.bench.specs.declared.Bench.{Bench as HeldBench}
use Rattle.records.specs.declared.Process.{Process as HeldProcess}

-- a list with a part put in its place
module _ (xs ys : List ℕ) (a k : ℕ) (h : a + k ≤ length xs) (e : length ys ≡ k) where
  front : length (take a xs) ≡ a
  front = length-take-le a xs (omega arith)

  pub put_before : (n : ℕ) → n < a → get_or (put_mid a k xs ys) n 0 ≡ get_or xs n 0
  put_before n l = get_or-append (take a xs) (ys ++ drop k (drop a xs)) 0 n (omega (arith, front)) ∙ get_or-take a xs n 0 l

  put_past : (m : ℕ) → get_or (put_mid a k xs ys) (a + m) 0 ≡ get_or (ys ++ drop k (drop a xs)) m 0
  put_past m =
      ap (λ (i : ℕ). get_or (take a xs ++ (ys ++ drop k (drop a xs))) (i + m) 0) (sym front)
      ∙ get_or-append-add (take a xs) (ys ++ drop k (drop a xs)) m 0

  pub put_in : (m : ℕ) → m < k → get_or (put_mid a k xs ys) (a + m) 0 ≡ get_or ys m 0
  put_in m l = put_past m ∙ get_or-append ys (drop k (drop a xs)) 0 m (omega arith)

  pub put_after : (r : ℕ) → get_or (put_mid a k xs ys) (a + (k + r)) 0 ≡ get_or xs (a + (k + r)) 0
  put_after r =
      put_past (k + r)
      ∙ ap (λ (i : ℕ). get_or (ys ++ drop k (drop a xs)) (i + r) 0) (sym e)
      ∙ get_or-append-add ys (drop k (drop a xs)) r 0
      ∙ get_or-drop k (drop a xs) r 0 ∙ get_or-drop a xs (k + r) 0

  pub put_length : length (put_mid a k xs ys) ≡ length xs
  put_length = same_len_mid a k xs ys (e ∙ sym (length-take-le k (drop a xs) (simp length-drop (omega arith))))

-- the slots of a queue end where those of the next begin, and all lie in the row
pub row_in : (C q : ℕ) → C ≤ 64 → q < 8 → C * q + C ≤ 512
row_in C q small h = omega (arith, rows_apart C q 8 h)

pub slots_get : (C : ℕ) (flat : List ℕ) (q : ℕ) → q < 8 → get_or (slots_in C flat) q [] ≡ slots_of C flat q
slots_get C flat q h = list_of_get_d 8 (slots_of C flat) [] q h

pub slots_length : (C : ℕ) (flat : List ℕ) (q : ℕ) → C * q + C ≤ length flat → length (slots_of C flat q) ≡ C
slots_length C flat q h = length-take-le C (drop (C * q) flat) (simp length-drop (omega arith))

pub slot : (C : ℕ) (flat : List ℕ) (i j : ℕ) → j < C → get_or (slots_of C flat i) j 0 ≡ get_or flat (C * i + j) 0
slot C flat i j h = get_or-take C (drop (C * i) flat) j 0 h ∙ get_or-drop (C * i) flat j 0

module _ (C q : ℕ) (flat row : List ℕ) (whole : length flat ≡ 512) (small : C ≤ 64) (h : q < 8) (e : length row ≡ C) where
  abbrev changed : List ℕ
  changed = put_mid (C * q) C flat row

  fits : (i : ℕ) → i < 8 → C * i + C ≤ length flat
  fits i l = omega (arith, row_in C i small l)

  same : length changed ≡ length flat
  same = put_length flat row (C * q) C (fits q h) e

  mine : slots_of C changed q ≡ row
  mine =
      let m = slots_length C changed q (omega (arith, same, fits q h)) in
      ext_get_or 0 (slots_of C changed q) row (m ∙ sym e)
      (λ j l. slot C changed q j (omega arith) ∙ put_in flat row (C * q) C (fits q h) e j (omega arith))

  at : (i j : ℕ) → (i ≡ q → ⊥) → j < C → get_or changed (C * i + j) 0 ≡ get_or flat (C * i + j) 0
  at i j d m = split (dec_lt i q)
    where
      split : Dec (i < q) → get_or changed (C * i + j) 0 ≡ get_or flat (C * i + j) 0
      split (yes p) = put_before flat row (C * q) C (fits q h) e (C * i + j) (omega (arith, rows_apart C i q p))
      split (no p) =
          let r : ℕ = C * i + j - (C * q + C) in
          let k : C * i + j ≡ C * q + (C + r) = omega (arith, rows_apart C q i (omega arith)) in
          rw k (put_after flat row (C * q) C (fits q h) e r)

  other : (i : ℕ) → i < 8 → (i ≡ q → ⊥) → slots_of C changed i ≡ slots_of C flat i
  other i l d =
      let m = slots_length C changed i (omega (arith, same, fits i l)) in
      ext_get_or 0 (slots_of C changed i) (slots_of C flat i) (m ∙ sym (slots_length C flat i (fits i l)))
      (λ j g. slot C changed i j (omega arith) ∙ at i j d (omega arith) ∙ sym (slot C flat i j (omega arith)))

  pub slots_put : slots_in C changed ≡ set (slots_in C flat) q row
  slots_put =
      let n = list_of-length 8 (slots_of C changed) in
      let m = list_of-length 8 (slots_of C flat) in
      ext_get_or [] (slots_in C changed) (set (slots_in C flat) q row) (n ∙ sym (length-set (slots_in C flat) q row ∙ m))
      (λ i l. split i (omega arith) (ℕ_discrete i q))
    where
      split : (i : ℕ) → i < 8 → Dec (i ≡ q) → get_or (slots_in C changed) i [] ≡ get_or (set (slots_in C flat) q row) i []
      split i l (yes p) =
          slots_get C changed i l ∙ ap (slots_of C changed) p ∙ mine
          ∙ sym (ap (λ (x : ℕ). get_or (set (slots_in C flat) q row) x []) p ∙ get_or-set_same (slots_in C flat) q row [] (omega (arith, list_of-length 8 (slots_of C flat))))
      split i l (no p) =
          slots_get C changed i l ∙ other i l p ∙ sym (slots_get C flat i l) ∙ sym (get_or-set_other (slots_in C flat) q i row [] p)

-- the program's step on its part of the row
module _ (W C : ℕ) (w : PackedWord) (flat : List ℕ) (q : ℕ) (z : Stage) (r : PackedStep) where
  on_place : (row : List ℕ) → length flat ≡ 512 → q < 8 → C ≤ 64 → StepPacked W C w (take (C * q + C - C * q) (drop (C * q) flat)) z r row
      → StepsIn W C w flat q z r (put_mid (C * q) (C * q + C - C * q) flat row)
  on_place row whole h small d =
      let e : C * q + C - C * q ≡ C = omega arith in
      let t : StepPacked W C w (slots_of C flat q) z r row = subst (λ (n : ℕ). StepPacked W C w (take n (drop (C * q) flat)) z r row) e d in
      let k : row ≡ stored (slots_of C flat q) r.store = t.unpacks.kept
      ∙ ap (λ (o : Stepped). stored (slots_of C flat q) o.store) (sym t.unpacks.stepped) in
      let l = stored_length (slots_of C flat q) r.store in
      record {
        stepped = rw (slots_get C flat q h) t.unpacks.stepped;
        slots =
            rw (e, slots_get C flat q h) (slots_put C q flat row whole small h (ap length k ∙ l ∙ slots_length C flat q (omega (arith, row_in C q small h))) ∙ ap (set (slots_in C flat) q) k);
      }

  pub on_part : (row : List ℕ) (from n : ℕ) → from ≡ slots_place C q → n ≡ C → length flat ≡ 512 → q < 8 → C ≤ 64
      → StepPacked W C w (take (from + n - from) (drop from flat)) z r row → StepsIn W C w flat q z r (put_mid from (from + n - from) flat row)
  on_part row from n is all whole h small =
      rw (is, all) (on_place row whole h small)

-- entries put into a log, in two parts
pub put_append : (n : ℕ) (es ds : List Entry) (log : List ℕ) → put_entries n (es ++ ds) log ≡ put_entries (n + length es) ds (put_entries n es log)
put_append n [] ds log = let e : n + 0 ≡ n = omega arith in rw e
put_append n (e ∷ es) ds log =
    let k : n + suc (length es) ≡ suc n + length es = omega arith in
    rw k (put_append (suc n) es ds (put_at (5 + 12 * n) (entry_bytes e) log))

-- queue q and process p of the program's arrays are those of the bench that they stand for
pub queue_is : (b : HeldBench) (q : ℕ) → q < 8 → queue_at (bench_in b) q ≡ queue_in b q
queue_is b q h = list_of_get_d 8 (queue_in b) fresh q h

pub process_is : (b : HeldBench) (p : ℕ) → p < 8 → process_at (bench_in b) p ≡ record_in b p
process_is b p h = list_of_get_d 8 (record_in b) nobody p h

module _ (b : HeldBench) (m : ℕ) (h : Counted m (bench_in b)) where
  pub held_resets : (q : ℕ) → q < 8 → (get_or b.queues q fresh_held).resets ≤ b.steps
  held_resets q l = omega (arith, h.resets q, ap (λ (x : Queue). x.resets) (queue_is b q l))

  pub held_b2 : (p : ℕ) → p < 8 → (get_or b.processes p idle_held).b2 ≤ b.steps
  held_b2 p l = omega (arith, h.b2 p, ap (λ (x : Process). x.b2) (process_is b p l))

-- an array with x at place i, and otherwise as it was
pub record Put {A : Type 0} (d : A) (l l' : List A) (i : ℕ) (x : A) : Type 0 where
  pub here : get_or l' i d ≡ x
  pub other : (j : ℕ) → (j ≡ i → ⊥) → get_or l' j d ≡ get_or l j d

module _ {A : Type 0} (d : A) (l : List A) (i : ℕ) (x : A) where
  pub put_set : i < length l → Put d l (set l i x) i x
  put_set h = record { here = get_or-set_same l i x d h; other = λ j ne. get_or-set_other l i j x d ne }

list_of_put : {A : Type 0} (f g : ℕ → A) (d : A) (n i : ℕ) (x : A) → i < n → g i ≡ x → ((j : ℕ) → (j ≡ i → ⊥) → g j ≡ f j)
    → list_of n g ≡ set (list_of n f) i x
list_of_put {A} f g d n i x lt e o =
    ext_get_or d (list_of n g) (set (list_of n f) i x) (list_of-length n g ∙ sym (length-set (list_of n f) i x ∙ list_of-length n f))
    (λ j m. split j (omega (arith, list_of-length n g)) (ℕ_discrete j i))
  where
    split : (j : ℕ) → j < n → Dec (j ≡ i) → get_or (list_of n g) j d ≡ get_or (set (list_of n f) i x) j d
    split j l (yes k) =
        ap (λ (h : ℕ). get_or (list_of n g) h d) k ∙ list_of_get_d n g d i lt ∙ e
        ∙ sym (ap (λ (h : ℕ). get_or (set (list_of n f) i x) h d) k ∙ get_or-set_same (list_of n f) i x d (omega (arith, list_of-length n f)))
    split j l (no k) = list_of_get_d n g d j l ∙ o j k ∙ sym (list_of_get_d n f d j l) ∙ sym (get_or-set_other (list_of n f) i j x d k)

-- what a step of process p on queue q changes in the program's arrays
pub record Changes (b b' : HeldBench) (p q : ℕ) (w : PackedWord) (n : ℕ) (z : HeldProcess) : Type 0 where
  pub queues : Put fresh_held b.queues b'.queues q (record { word = w; resets = n })
  pub processes : Put idle_held b.processes b'.processes p z

-- and in the bench that they stand for
module _ (b b' : HeldBench) (p q : ℕ) (w : PackedWord) (n : ℕ) (z : HeldProcess) (h : Changes b b' p q w n z) where
  pub queues_changed : q < 8 → (bench_in b').queues ≡ set (bench_in b).queues q (record { word = unpacked w; resets = n })
  queues_changed lt =
      list_of_put (queue_in b) (queue_in b') fresh 8 q (record { word = unpacked w; resets = n }) lt
      (ap queue_of_held h.queues.here)
      (λ j ne. ap queue_of_held (h.queues.other j ne))

  pub processes_changed : p < 8 → (bench_in b').processes ≡ set (bench_in b).processes p (process_in z)
  processes_changed lt =
      list_of_put (record_in b) (record_in b') nobody 8 p (process_in z) lt (ap process_in h.processes.here)
      (λ j ne. ap process_in (h.processes.other j ne))
