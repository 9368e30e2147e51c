use Rattle.mp_forms.proofs.TakenFiles.{words_named}
use Rattle.mp_forms.specs.Uses.{domain_uses, problem_uses}
use Rattle.mp_forms.proofs.laws.words_are_names_or_variables.Goals as goal

pub returns-clause-domains : goal.returns-clause-domains
returns-clause-domains c = λ domain named. words_named (domain_uses domain) named

pub returns-clause-problems : goal.returns-clause-problems
returns-clause-problems c = λ problem named. words_named (problem_uses problem) named
