use Rattle.mp_factor.proofs.Basics.{Ok, ap, sym, ◌∙◌, node_of}
use Rattle.mp_factor.proofs.FirstCostLemmas.{found_of}
use Rattle.mp_factor.proofs.first_costs.check_given.Goals as goal

pub check_value-requires : goal.check_value-requires
check_value-requires c =
    c.function_key.ensures ∙ found_of (node_of c.args.tree.now) c.in-Gives.value c.in-Gives.at (sym (c.in-Ok.is ∙ ap Ok c.in-Gives.is) ∙ c.requires.said)
