use Rattle.std.proofs.Common.{◌<◌, ◌+◌, ◌^◌, ℕ, eqb-true, subst}
use Rattle.mp_audit.proofs.SameLemmas.{least_decides, none_least}
use Rattle.mp_audit.proofs.same_state.is_least.Goals as goal

pub returns-in-Some-clause-least : goal.returns-in-Some-clause-least
returns-in-Some-clause-least c = least_decides c.args.set.now.members c.args.from c.in-Some.least c.args.fact c.in-Some.ensures.some

pub returns-in-Some-clause-fits : goal.returns-in-Some-clause-fits
returns-in-Some-clause-fits c = λ e. subst (λ (n : ℕ). n + 1 < 2 ^ 32) (eqb-true c.in-Some.least c.args.fact e) c.in-Some.ensures.next.1

pub returns-in-None-clause-least : goal.returns-in-None-clause-least
returns-in-None-clause-least c = none_least c.args.set.now.members c.args.from c.args.fact c.in-None.ensures.none
