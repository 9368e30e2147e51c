use Rattle.std.proofs.Common.{ap, ◌∙◌}
use Rattle.mp_sexp.specs.Bytes.{folded}
use Rattle.mp_maker.specs.Domain.{domain}
use Rattle.mp_maker.proofs.FoldedLemmas.{folded_domain, same_value}
use Rattle.mp_maker.proofs.family.domain.Goals as goal

pub returns : goal.returns
unfolding domain
returns c = same_value _ _ _ (ap folded c.as_bytes.ensures.value ∙ folded_domain) c.folded.ensures
