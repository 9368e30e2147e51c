use Rattle.std.proofs.Common.{◌≡◌, suc, ◌+◌, ◌-◌, ◌≤◌, length, ap, sym, ◌∙◌, subst, arith}
use Rattle.std.specs.Option.{IfSome, option_map_or}
use Rattle.mp_relaxed.specs.Relaxed.{state_of}
use Rattle.mp_lmcut.specs.Cut.{cuts}
use Rattle.mp_lmcut.proofs.CostLemmas.{same_adders}
use Rattle.mp_lmcut.proofs.RoundLemmas.{no_cuts}
use Rattle.mp_lmcut.proofs.rounds.play.Goals as goal

pub round-requires-clause-adders : goal.round-requires-clause-adders
round-requires-clause-adders c =
    same_adders c.args.problem.now c.loop.problem c.args.adders.now (sym c.loop.invariant.kept) c.requires.adders

pub loop-preserved : goal.loop-preserved
loop-preserved c =
    let now = c.loop.problem in
    let later = c.round.new.problem in
    let p = c.args.publics.now.members in
    let q = c.args.privates.now.members in
    let m = length c.args.problem.now.operators - (c.loop.counter + 1) in
    let one : length c.args.problem.now.operators - c.loop.counter ≡ suc m = omega arith in
    let whole = ap (λ n. cuts n now.operators now.goals (state_of now p q)) one in
    let paid = c.in_ok-cost.ensures.paid m ∙ ap (λ a. option_map_or (λ cost. cost + cuts m later.operators later.goals (state_of later p q)) a 0) c.in-Some.is in
    let small : c.in-Some.cost ≤ 16000000 = subst (λ a. IfSome a (λ n. n ≤ 16000000)) c.in-Some.is c.in_ok-cost.ensures.small in
    record {
      total = omega (arith, c.loop.invariant.total, whole, paid);
      values = c.in_ok-cost.ensures.values;
      small = omega (arith, c.loop.invariant.small, small);
      kept = c.round.ensures.kept ∙ c.loop.invariant.kept;
      counted = c.round.ensures.counted ∙ c.loop.invariant.counted;
      sized = c.round.ensures.sized ∙ c.loop.invariant.sized;
    }

pub returns-in_default-clause-total : goal.returns-in_default-clause-total
returns-in_default-clause-total c =
    let now = c.loop.problem in
    let later = c.round.new.problem in
    let p = c.args.publics.now.members in
    let q = c.args.privates.now.members in
    let m = length c.args.problem.now.operators - (c.loop.counter + 1) in
    let one : length c.args.problem.now.operators - c.loop.counter ≡ suc m = omega arith in
    let whole = ap (λ n. cuts n now.operators now.goals (state_of now p q)) one in
    let paid = c.in_ok-cost.ensures.paid m ∙ ap (λ a. option_map_or (λ cost. cost + cuts m later.operators later.goals (state_of later p q)) a 0) c.in_default.is in
    omega (arith, c.loop.invariant.total, whole, paid)

pub returns-clause-total : goal.returns-clause-total
returns-clause-total c =
    let now = c.loop.problem in
    let p = c.args.publics.now.members in
    let q = c.args.privates.now.members in
    let none : length c.args.problem.now.operators - c.loop.counter ≡ 0 = omega arith in
    let whole = ap (λ n. cuts n now.operators now.goals (state_of now p q)) none ∙ no_cuts now.operators now.goals (state_of now p q) in
    omega (arith, c.loop.invariant.total, whole)
