use Rattle.mp_lifting.proofs.Basics.{sym, ◌∙◌}
use Rattle.mp_lifting.proofs.Words.{first_cut}
use Rattle.mp_lifting.proofs.texts.first_word.Goals as goal

pub returns-in-Some-clause-first : goal.returns-in-Some-clause-first
returns-in-Some-clause-first c = first_cut c.args.text.now c.in-Some.at (sym c.first_space.ensures.space ∙ c.in-Some.is)
