-- Single calls, one after another, give the replies and leave the log buffer that a rack of their files does.
use Prim.Native.Nat.{ℕ}
use mathlib.Core.Path.{◌≡◌, ap, ◌∙◌}
use mathlib.Core.List.{List, [], ◌∷◌, ◌++◌}
use lib.ListN.{length, get_or}
use Rattle.runs.specs.Run.{run_of}
use Rattle.racks.specs.Rack.{unless_refused, reply_to, replies_of, log_after}
use Rattle.racks.specs.Singly.{Single, AsSingly}
use Rattle.racks.proofs.ReplyLaws.{told_as}

single : (file log log' reply : List ℕ) → Single file log log' reply → reply ≡ reply_to (run_of file (length log))
single file log log' reply s =
    s.told
    ∙ told_as (run_of file (length log)) log s.written log' s.report s.table s.ran _
    (ap (unless_refused (get_or s.report 0 0)) s.judged)

pub as_singly : AsSingly
as_singly [] log log' replies h = h
as_singly (f ∷ fs) log log' replies h =
    let s = h.3 in
    let later = as_singly fs h.0 log' h.2 h.4 in (
      later.0 ∙ ap (λ (m : ℕ). log_after m fs h.0) s.same ∙ ap (log_after (length log) fs) s.ran.kept,
      h.5
          ∙ ap (λ (l : List ℕ). l ++ h.2) (single f log h.0 h.1 s)
          ∙ ap (λ (l : List ℕ). reply_to (run_of f (length log)) ++ l) (later.1 ∙ ap (λ (m : ℕ). replies_of m fs) s.same),
    )
