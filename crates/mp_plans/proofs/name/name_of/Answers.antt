use Rattle.std.proofs.Common.{sym, ◌∙◌}
use Rattle.mp_plans.proofs.NameLemmas.{named_again}
use Rattle.mp_plans.proofs.name.name_of.Goals as goal

pub returns : goal.returns
returns c = named_again c.args.word.now _ (sym c.is_name.ensures ∙ c.if-not-is_name.false) c.in_ok-name.ensures
