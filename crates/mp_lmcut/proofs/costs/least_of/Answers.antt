use Rattle.std.proofs.Common.{◌+◌, drop, ap, sym, ◌∙◌, arith}
use Rattle.std.proofs.lemmas.List.{drop_all}
use Rattle.mp_estimates.specs.Estimates.{lesser}
use Rattle.mp_lmcut.specs.Cut.{least}
use Rattle.mp_lmcut.proofs.CutLemmas.{least_more, lesser-none}
use Rattle.mp_lmcut.proofs.costs.least_of.Goals as goal

pub loop-cost-preserved : goal.loop-cost-preserved
loop-cost-preserved c =
    ap (λ a. lesser a (least (drop (c.loop-cost.cost-index + 1) c.args.costs.now))) c.lesser_of.ensures
    ∙ least_more c.args.costs.now c.loop-cost.cost-index 0 c.loop-cost.known (omega arith)
    ∙ c.loop-cost.invariant

pub returns : goal.returns
returns c =
    sym (lesser-none c.loop-cost.known)
    ∙ ap (λ l. lesser c.loop-cost.known (least l)) (sym (drop_all c.loop-cost.cost-index c.args.costs.now (omega arith)))
    ∙ c.loop-cost.invariant
