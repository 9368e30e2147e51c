use Rattle.std.proofs.Common.{◌<◌, length, subst, ◌∙◌, arith}
use Rattle.std.proofs.lemmas.List.{get_or_default}
use Rattle.mp_estimates.specs.Lowering.{unknown}
use Rattle.mp_estimates.proofs.LoweringLemmas.{fallen_one}
use Rattle.mp_pdb.proofs.table.lower.Goals as goal

pub returns-in_ok-push-clause-fallen : goal.returns-in_ok-push-clause-fallen
returns-in_ok-push-clause-fallen c =
    let within : c.args.mask < length c.args.numbers.now.items = omega arith in
    fallen_one c.args.numbers.now.items c.args.queue.now c.push.new.self c.args.mask c.args.cost within
    (subst (λ n. c.args.cost < n) (c.index.ensures ∙ get_or_default c.args.numbers.now.items c.args.mask c.index.result.now unknown within) c.if-cost-index.true)
    c.in_ok-push.ensures
