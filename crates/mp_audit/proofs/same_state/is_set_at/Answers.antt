use Rattle.std.proofs.Common.{ap, ◌∙◌}
use Rattle.mp_audit.proofs.SameLemmas.{is_one}
use Rattle.mp_audit.proofs.same_state.is_set_at.Goals as goal

pub returns-in-Some : goal.returns-in-Some
returns-in-Some c = c.is_set.ensures ∙ ap (is_one c.args.facts.now) c.in-Some.ensures

pub returns-in-None : goal.returns-in-None
returns-in-None c = ap (is_one c.args.facts.now) c.in-None.ensures
