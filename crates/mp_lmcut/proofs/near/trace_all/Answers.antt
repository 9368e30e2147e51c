use Rattle.std.proofs.Common.{◌≡◌, false, get_or, below_more, sym, ◌∙◌, arith}
use Rattle.mp_relaxed.specs.Relaxed.{operator_at}
use Rattle.mp_estimates.specs.Lowering.{value_at}
use Rattle.mp_lmcut.specs.Sides.{IsBehind, IsTraced, IsTracedFrom, is_source}
use Rattle.mp_lmcut.proofs.AskLemmas.{traced_kept, traces_from_adders}
use Rattle.mp_lmcut.proofs.MarkLemmas.{grown_refl, grown_trans, grown_weaker}
use Rattle.mp_lmcut.proofs.ZoneLemmas.{adder_adds}
use Rattle.mp_lmcut.proofs.near.trace_all.Goals as goal

pub loop-k-init : goal.loop-k-init
loop-k-init c = record {
  len = c.requires.asked;
  grown = grown_refl (IsBehind (value_at c.args.numbers.now) c.args.most c.args.problem.now.operators c.args.zone.now.flags c.args.x) c.args.asked.now;
  done = λ j lt. absurd (omega (arith, lt));
}

pub loop-k-preserved : goal.loop-k-preserved
loop-k-preserved c =
    let v = value_at c.args.numbers.now in
    let os = c.args.problem.now.operators in
    let zone = c.args.zone.now.flags in
    let adders = c.args.adders.now in
    let k = get_or adders c.loop-k.k-index 0 in
    let within = c.requires.operators c.loop-k.k-index 0 (omega arith) in
    let adding = adder_adds v os c.args.problem.now.goals c.args.x adders c.loop-k.k-index c.requires.adders (omega arith) within in
    let grown = c.in_ok-found.ensures.grown in
    record {
      len = grown.sized ∙ c.loop-k.invariant.len;
      grown = grown_trans (IsBehind v c.args.most os zone c.args.x) _ _ _ c.loop-k.invariant.grown
          (grown_weaker (IsTracedFrom v c.args.most zone (operator_at os k)) (IsBehind v c.args.most os zone c.args.x) _ _
          (λ y traced. record { k = k; within = within; adding = adding; traced = traced })
          grown);
      done = below_more (λ j. (is_source v c.args.most (operator_at os (get_or adders j 0)) ≡ false) × IsTraced v zone (operator_at os (get_or adders j 0)) c.trace.new.asked.flags) c.loop-k.k-index
          (λ j lt. let was = c.loop-k.invariant.done j lt in (was.0, traced_kept v zone (operator_at os (get_or adders j 0)) _ _ grown.kept was.1))
          (sym c.in_ok-found.ensures.value ∙ c.if-found.false, c.in_ok-found.ensures.done c.if-found.false);
    }

pub returns-then-found-clause-found : goal.returns-then-found-clause-found
returns-then-found-clause-found c = λ _.
    let v = value_at c.args.numbers.now in
    let os = c.args.problem.now.operators in
    let adders = c.args.adders.now in
    let within = c.requires.operators c.loop-k.k-index 0 (omega arith) in
    record {
      k = get_or adders c.loop-k.k-index 0;
      within = within;
      adding = adder_adds v os c.args.problem.now.goals c.args.x adders c.loop-k.k-index c.requires.adders (omega arith) within;
      source = sym c.in_ok-found.ensures.value ∙ c.if-found.true;
    }

pub returns-then-found-clause-grown : goal.returns-then-found-clause-grown
returns-then-found-clause-grown c =
    let v = value_at c.args.numbers.now in
    let os = c.args.problem.now.operators in
    let zone = c.args.zone.now.flags in
    let adders = c.args.adders.now in
    let k = get_or adders c.loop-k.k-index 0 in
    let within = c.requires.operators c.loop-k.k-index 0 (omega arith) in
    let adding = adder_adds v os c.args.problem.now.goals c.args.x adders c.loop-k.k-index c.requires.adders (omega arith) within in
    grown_trans (IsBehind v c.args.most os zone c.args.x) _ _ _ c.loop-k.invariant.grown
    (grown_weaker (IsTracedFrom v c.args.most zone (operator_at os k)) (IsBehind v c.args.most os zone c.args.x) _ _
    (λ y traced. record { k = k; within = within; adding = adding; traced = traced })
    c.in_ok-found.ensures.grown)

pub returns-clause-done : goal.returns-clause-done
returns-clause-done c = λ _.
    traces_from_adders (value_at c.args.numbers.now) c.args.most c.args.problem.now.operators c.args.zone.now.flags c.args.x c.args.adders.now c.loop-k.asked.flags c.requires.adders
    (λ j lt. c.loop-k.invariant.done j (omega arith))
