-- A record in range is encoded in bytes: the round trip is one of real files.
use mathlib.Core.List.{List, [], ◌∷◌, ◌++◌}
use Prim.Native.Nat.{ℕ, suc, ◌<◌, ◌≤◌}
use native.Mathlib.Omega.{arith}
use lib.ListN.{length, get_or}
use Rattle.base.specs.Bytes.{Bytes, pair}
use Rattle.base.proofs.Bytes.{no_bytes, one_more, both_bytes, all_bytes, pair_bytes}
use Rattle.runfile.specs.declared.Call.{Call}
use Rattle.runfile.specs.declared.Call.TheVariants.{Push, Pop, Take}
use Rattle.runfile.specs.File.{RunFile, most_processes}
use Rattle.runfile.specs.Encode.{CallInRange, InRanges, call_bytes, calls_bytes, encode}
use Rattle.runfile.proofs.SectionBytes.{bytes1, bytes2, bytes3, bytes4}
use Rattle.runfile.proofs.RangeLaws.{calls_most}

call_bytes_lem : (P : ℕ) (c : Call) → P ≤ most_processes → CallInRange P c → Bytes (call_bytes c)
call_bytes_lem P (Push x) h r = one_more 1 (pair x) (omega arith) (pair_bytes x (omega (arith, r.1)))
call_bytes_lem P Pop h r = one_more 2 (pair 0) (omega arith) (pair_bytes 0 (omega arith))
call_bytes_lem P (Take q) h r = one_more 3 (pair q) (omega arith) (pair_bytes q (omega arith))

calls_bytes_lem : (P : ℕ) (cs : List Call) → P ≤ most_processes → ((k : ℕ) → k < length cs → CallInRange P (get_or cs k Pop)) → Bytes (calls_bytes cs)
calls_bytes_lem P [] h r = no_bytes
calls_bytes_lem P (c ∷ cs) h r =
    both_bytes (call_bytes c) (calls_bytes cs) (call_bytes_lem P c h (r 0 (omega arith))) (calls_bytes_lem P cs h (λ k lt. r (suc k) (omega arith)))

pub encode_bytes : (f : RunFile) → InRanges f → Bytes (encode f)
encode_bytes f r =
    let shares : Bytes f.shares = all_bytes f.shares (λ p lt. omega (arith, r.shares p lt)) in
    let calls : Bytes (calls_bytes f.calls) = calls_bytes_lem (length f.shares) f.calls r.processes.1 r.calls in
    let steps : Bytes f.schedule = all_bytes f.schedule (λ k lt. omega (arith, r.schedule k lt, r.processes)) in
    let first : Bytes (bytes1 f) =
    one_more 2 (f.width ∷ f.size ∷ []) (omega arith)
    (one_more f.width (f.size ∷ []) (omega (arith, r.width)) (one_more f.size [] (omega (arith, r.size)) no_bytes)) in
    let second : Bytes (bytes2 f) = one_more (length f.shares) f.shares (omega (arith, r.processes)) shares in
    let third : Bytes (bytes3 f) =
    both_bytes (pair (length f.calls)) (calls_bytes f.calls) (pair_bytes (length f.calls) (omega (arith, calls_most f r))) calls in
    let fourth : Bytes (bytes4 f) =
    both_bytes (pair (length f.schedule)) f.schedule (pair_bytes (length f.schedule) (omega (arith, r.steps))) steps in
    both_bytes (bytes1 f) (bytes2 f ++ (bytes3 f ++ bytes4 f)) first
    (both_bytes (bytes2 f) (bytes3 f ++ bytes4 f) second (both_bytes (bytes3 f) (bytes4 f) third fourth))
