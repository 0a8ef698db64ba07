-- `judge::moment_rules_in` meets its contract: what `last_rules` asks is what the earlier rules, having passed, say.
use native.Mathlib.Omega.{arith}
use mathlib.Core.Path.{◌≡◌, ap, ◌∙◌}
use Prim.Native.Nat.{ℕ, ◌<◌}
use mathlib.Core.List.{[]}
use lib.ListN.{length, get_or, replicate}
use Rattle.std.proofs.lemmas.List.{get_or-replicate, length-replicate}
use Rattle.rules.proofs.KeptLaws.{moments_of}
use Rattle.judge.specs.Inner.Entries.{entries_in}
use Rattle.judge.proofs.KeyLaws.{ordered_part}
use Rattle.judge.proofs.moment_rules_in.Goals as goal

cleared : (width q : ℕ) → q < 8 → length (get_or (replicate 8 (replicate {A = ℕ} width 0)) q []) ≡ width
cleared width q u = ap length (get_or-replicate 8 q (replicate width 0) [] u) ∙ length-replicate width 0

pub first_unlawful-requires : goal.first_unlawful-requires
first_unlawful-requires g c =
    let p = c.in-Ok.ensures.kept.1 in
    let f = entries_in c.args.entries.now in
    let n = length c.args.entries.now in
    let ordered = ordered_part f n c.by_moment.new.keys c.in-Ok.sorted.count p (omega (arith, p.few, c.requires.roomy.0)) in
    (omega (arith, c.requires.roomy.1), (omega (arith, c.requires.roomy.1), (c.requires.fields, (ordered, (c.requires.roomy, (cleared g.row.WIDTH, c.watched-watch.ensures))))))

pub last_rules-requires-clause-clean : goal.last_rules-requires-clause-clean
last_rules-requires-clause-clean g c =
    let p = c.in-Ok.ensures.kept in
    let f = entries_in c.args.entries.now in
    let n = length c.args.entries.now in
    record {
      small = omega (arith, c.requires.roomy.0, c.requires.roomy.1);
      fields = c.requires.fields;
      moments = moments_of f n p.0;
      ordered = ordered_part f n c.by_moment.new.keys c.in-Ok.sorted.count p.1 (omega (arith, p.1.few, c.requires.roomy.0));
      ends = λ i j u v. (c.requires.ends i j u v).ends_rise;
    }
