use Rattle.mp_audit.proofs.Soundness.{none_is_cheaper}
use Rattle.mp_audit.proofs.laws.no_plan_is_cheaper.Goals as goal

pub returns : goal.returns
returns c = λ tasks certificate t plan member audited solves. none_is_cheaper tasks certificate audited t plan member solves
