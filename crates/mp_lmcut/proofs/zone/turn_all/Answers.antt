use Rattle.std.proofs.Common.{◌≡◌, true, get_or, below_more, arith}
use Rattle.mp_relaxed.specs.Relaxed.{operator_at}
use Rattle.mp_estimates.specs.Lowering.{value_at}
use Rattle.mp_lmcut.specs.Cut.{in_zone}
use Rattle.mp_lmcut.specs.Sides.{IsTurned, Supports, is_free}
use Rattle.mp_lmcut.proofs.MarkLemmas.{grown_refl, grown_trans, grown_weaker}
use Rattle.mp_lmcut.proofs.ZoneLemmas.{adder_adds, turned_inside, turned_kept, turns_back}
use Rattle.mp_lmcut.proofs.zone.turn_all.Goals as goal

pub loop-k-init : goal.loop-k-init
loop-k-init c = record {
  grown = grown_refl (λ y. in_zone (value_at c.args.numbers.now) c.args.problem.now.operators c.args.problem.now.goals y ≡ true) c.args.marks.now;
  done = λ j lt. absurd (omega arith);
}

pub loop-k-preserved : goal.loop-k-preserved
loop-k-preserved c =
    let v = value_at c.args.numbers.now in
    let os = c.args.problem.now.operators in
    let goals = c.args.problem.now.goals in
    let k = get_or c.args.adders.now c.loop-k.k-index 0 in
    record {
      grown = grown_trans (λ y. in_zone v os goals y ≡ true) _ _ _ c.loop-k.invariant.grown
          (grown_weaker (λ y. (is_free v (operator_at os k) ≡ true) × Supports v (operator_at os k).pre y) (λ y. in_zone v os goals y ≡ true) _ _
          (λ y such. turned_inside v os goals k c.args.x y (c.requires.operators c.loop-k.k-index 0 (omega arith))
          (adder_adds v os goals c.args.x c.args.adders.now c.loop-k.k-index c.requires.adders (omega arith) (c.requires.operators c.loop-k.k-index 0 (omega arith)))
          c.requires.zone such.0 such.1)
          c.in_ok-turn_back.ensures.grown);
      done = below_more (λ j. IsTurned v (operator_at os (get_or c.args.adders.now j 0)) c.turn_back.new.marks.flags) c.loop-k.k-index
          (λ j lt. turned_kept v (operator_at os (get_or c.args.adders.now j 0)) _ _ c.in_ok-turn_back.ensures.grown.kept (c.loop-k.invariant.done j lt))
          c.in_ok-turn_back.ensures.done;
    }

pub returns-clause-done : goal.returns-clause-done
returns-clause-done c =
    turns_back (value_at c.args.numbers.now) c.args.problem.now.operators c.args.problem.now.goals c.args.x c.args.adders.now c.loop-k.marks.flags c.requires.adders
    (λ j lt. c.loop-k.invariant.done j (omega arith))
