use Rattle.std.proofs.Common.{ap, sym, ◌∙◌, arith}
use Rattle.mp_relaxed.specs.Relaxed.{RelaxedProblem}
use Rattle.mp_relaxed.specs.Memo.{value_in}
use Rattle.mp_lmcut.specs.Cut.{lmcut_of}
use Rattle.mp_lmcut.specs.Sides.{costless}
use Rattle.mp_lmcut.proofs.CostLemmas.{as_many, costless_repriced, same_adders}
use Rattle.mp_lmcut.proofs.lmcut.estimate.Goals as goal

pub value_of-requires-clause-counted : goal.value_of-requires-clause-counted
value_of-requires-clause-counted c =
    let same = ap costless c.set_back.ensures ∙ costless_repriced c.args.costs.now c.args.problem.now c.requires.each in
    omega (arith, as_many c.set_back.new.problem c.args.problem.now same, c.requires.counted)

pub value_of-requires-clause-adders : goal.value_of-requires-clause-adders
value_of-requires-clause-adders c =
    let same = ap costless c.set_back.ensures ∙ costless_repriced c.args.costs.now c.args.problem.now c.requires.each in
    same_adders c.args.problem.now c.set_back.new.problem c.args.adders.now (sym same) c.requires.adders

pub returns-clause-found : goal.returns-clause-found
returns-clause-found c =
    c.in_ok-found.ensures.found
    ∙ ap (λ (r : RelaxedProblem). value_in lmcut_of r c.args.publics.now.members c.args.privates.now.members) c.set_back.ensures

pub returns-clause-kept : goal.returns-clause-kept
returns-clause-kept c =
    c.value_of.ensures.kept ∙ ap costless c.set_back.ensures ∙ costless_repriced c.args.costs.now c.args.problem.now c.requires.each

pub returns-in_err-found-clause-kept : goal.returns-in_err-found-clause-kept
returns-in_err-found-clause-kept c =
    c.value_of.ensures.kept ∙ ap costless c.set_back.ensures ∙ costless_repriced c.args.costs.now c.args.problem.now c.requires.each
