-- `one` meets its contract: the report and the judge's number are the reply's bytes.
use Prim.Native.Nat.{ℕ}
use mathlib.Core.Path.{ap, ◌∙◌}
use mathlib.Core.List.{List}
use Rattle.base.specs.Bytes.{put_at}
use Rattle.racks.proofs.ReplyLaws.{number_fits, reply_is}
use Rattle.rack.proofs.one.Goals as goal

pub returns : goal.returns
returns c =
    let g = c.run_len-written.ensures in
    let fits = number_fits c.args.file.now (λ i. (c.type_inv.file i).fits) _ in
    record {
      logged = g.kept;
      replied =
          c.put_reply.ensures
          ∙ ap (λ (bytes : List ℕ). put_at c.args.place bytes c.args.replies.now)
          (reply_is _ c.args.log.now _ _ _ _ g fits _ c.judged-verdict.ensures);
    }
