-- The files of a rack run from the front: what is left of them gives, from the buffers as they are, what all of them give from the buffers as lent.
use Prim.Native.Nat.{ℕ, suc, ◌+◌, ◌-◌, ◌*◌, ◌≤◌, ◌<◌}
use mathlib.Core.Path.{◌≡◌, refl, sym, ap, ◌∙◌, subst}
use mathlib.Core.List.{List, [], ◌∷◌, ◌++◌, append_assoc, append-nil}
use native.Mathlib.Omega.{arith}
use lib.ListN.{length, take, drop, length-drop, length-append}
use lib.Seq.{drop-drop}
use Rattle.base.specs.Bytes.{number_at, part, put_at}
use Rattle.base.proofs.Bytes.{number_at-drop, put_after}
use Rattle.runs.specs.Promise.{buffer_of}
use Rattle.runs.specs.Run.{run_of}
use Rattle.racks.specs.Rack.{files, files_in, rack_of, reply_length, reply_to, replies_of, log_after}
use Rattle.racks.specs.Inner.Walk.{files_of, RunsOne, Checked, RunsAll}
use Rattle.racks.proofs.SplitLaws.{file_end, Opened, opened, ended, rack_opens, rack_counted}

-- what the loop over the files keeps, i files on
pub record Along (s log₀ replies₀ : List ℕ) (count : ℕ) (log replies : List ℕ) (at place i : ℕ) : Type 0 where
  pub rest : List (List ℕ)
  pub done : List ℕ
  pub few : i ≤ count
  pub within : at ≤ length s
  pub left : files_in (count - i) (drop at s) ≡ files rest
  pub kept : length log ≡ length log₀
  pub logged : log_after (length log₀) rest log ≡ log_after (length log₀) (files_of (rack_of s)) log₀
  pub placed : place ≡ reply_length * i
  pub filled : length done ≡ place
  pub replied : replies ≡ done ++ drop place replies₀
  pub whole : done ++ replies_of (length log₀) rest ≡ replies_of (length log₀) (files_of (rack_of s))
  pub all : count ≡ length (files_of (rack_of s))
  pub room : reply_length * count ≤ length replies₀

pub along_start : (s log replies : List ℕ) (count : ℕ) → Checked s replies → count ≡ number_at s 0 → Along s log replies count log replies 2 0 0
along_start s log replies count h e = record {
  rest = files_of (rack_of s);
  done = [];
  few = omega arith;
  within = (rack_opens s h.good).0;
  left = ap (λ (n : ℕ). files_in n (drop 2 s)) all_left_lem ∙ (rack_opens s h.good).1;
  kept = refl;
  logged = refl;
  placed = refl;
  filled = refl;
  replied = refl;
  whole = refl;
  all = e ∙ sym (rack_counted s h.good);
  room = omega (arith, e, h.room);
}
  where
    all_left_lem : count - 0 ≡ number_at s 0
    all_left_lem = omega (arith, e)

module _ (s log₀ replies₀ : List ℕ) (count : ℕ) (log replies : List ℕ) (at place i : ℕ) (w : Along s log₀ replies₀ count log replies at place i) where
  pub replies_kept : length replies ≡ length replies₀
  replies_kept =
      ap length w.replied ∙ length-append w.done (drop place replies₀)
      ∙ omega (arith, w.filled, w.placed, w.room, w.few, length-drop place replies₀)

  module _ (h : i < count) where
    next : Opened (count - (i + 1)) (drop at s) w.rest
    next =
        let e : suc (count - (i + 1)) ≡ count - i = omega arith in
        opened (count - (i + 1)) (drop at s) w.rest (ap (λ (k : ℕ). files_in k (drop at s)) e ∙ w.left)

    -- the next file lies within the rack
    pub file_fits : at + 2 + number_at s at ≤ length s
    file_fits = omega (arith, next.fits, w.within, number_at-drop s at, length-drop at s)

    module _ (n : ℕ) (e : n ≡ number_at s at) (log' replies' : List ℕ) (same : length log' ≡ length log)
        (given : RunsOne (part s (at + 2) (at + 2 + n - (at + 2))) log replies place log' replies') where
      g : RunsOne (part s (at + 2) n) log replies place log' replies'
      g =
          let d : at + 2 + n - (at + 2) ≡ n = omega arith in
          subst (λ (k : ℕ). RunsOne (part s (at + 2) k) log replies place log' replies') d given

      abbrev file : List ℕ
      file = part s (at + 2) n

      abbrev reply : List ℕ
      reply = reply_to (run_of file (length log₀))

      first : w.rest ≡ file ∷ next.later
      first =
          next.first
          ∙ ap (λ (m : ℕ). part (drop at s) 2 m ∷ next.later) (sym (e ∙ number_at-drop s at))
          ∙ ap (λ (l : List ℕ). take n l ∷ next.later) (drop-drop 2 at s)

      -- the reply goes behind those that are written
      put : replies' ≡ w.done ++ reply ++ drop (place + 8) replies₀
      put =
          g.replied
          ∙ ap (λ (m : ℕ). put_at place (reply_to (run_of file m)) replies) w.kept
          ∙ ap (λ (l : List ℕ). put_at place reply l) w.replied
          ∙ ap (λ (m : ℕ). put_at m reply (w.done ++ drop place replies₀)) (sym w.filled)
          ∙ put_after w.done reply (drop place replies₀) (omega (arith, length-drop place replies₀, w.placed, w.room))
          ∙ ap (λ (l : List ℕ). w.done ++ reply ++ l) (drop-drop 8 place replies₀)

      pub along_next : Along s log₀ replies₀ count log' replies' (at + 2 + n) (place + 8) (i + 1)
      along_next = record {
        rest = next.later;
        done = w.done ++ reply;
        few = omega arith;
        within = omega (arith, e, file_fits);
        left = ap (λ (l : List ℕ). files_in (count - (i + 1)) l) beyond ∙ next.left;
        kept = same ∙ w.kept;
        logged =
            ap (log_after (length log₀) next.later) (g.logged ∙ ap (λ (m : ℕ). buffer_of (run_of file m) log) w.kept)
            ∙ ap (λ (fs : List (List ℕ)). log_after (length log₀) fs log) (sym first) ∙ w.logged;
        placed = omega (arith, w.placed);
        filled = omega (arith, length-append w.done reply, w.filled);
        replied = put;
        whole =
            append_assoc w.done reply (replies_of (length log₀) next.later)
            ∙ ap (λ (fs : List (List ℕ)). w.done ++ replies_of (length log₀) fs) (sym first) ∙ w.whole;
        all = w.all;
        room = w.room;
      }
        where
          beyond : drop (at + 2 + n) s ≡ drop (file_end (number_at (drop at s) 0)) (drop at s)
          beyond =
              let k : at + 2 + n ≡ at + file_end (number_at (drop at s) 0) = omega (arith, e, number_at-drop s at) in
              ap (λ (m : ℕ). drop m s) k ∙ sym (drop-drop (file_end (number_at (drop at s) 0)) at s)

  pub along_all : count ≤ i → RunsAll s log₀ replies₀ log replies
  along_all h = record {
    logged = ap (λ (fs : List (List ℕ)). log_after (length log₀) fs log) (sym none) ∙ w.logged;
    replied =
        w.replied
        ∙ ap (λ (l : List ℕ). l ++ drop place replies₀)
        (sym (append-nil w.done) ∙ ap (λ (fs : List (List ℕ)). w.done ++ replies_of (length log₀) fs) (sym none) ∙ w.whole)
        ∙ ap (λ (m : ℕ). replies_of (length log₀) (files_of (rack_of s)) ++ drop m replies₀) end;
  }
    where
      over : 0 ≡ count - i
      over = omega arith

      none : w.rest ≡ []
      none = (ended (drop at s) w.rest (ap (λ (k : ℕ). files_in k (drop at s)) over ∙ w.left)).1

      end : place ≡ reply_length * length (files_of (rack_of s))
      end = omega (arith, w.placed, w.few, w.all)
