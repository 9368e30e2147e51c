use Rattle.std.proofs.Common.{ap, ◌∙◌}
use Rattle.mp_sexp.specs.Bytes.{folded}
use Rattle.mp_maker.proofs.FoldedLemmas.{folded_problem, same_value}
use Rattle.mp_maker.proofs.problem.problem_file.Goals as goal

pub returns : goal.returns
returns c =
    same_value _ _ _ (ap folded (c.as_slice.ensures ∙ c.in_ok-text.ensures) ∙ folded_problem _ _ _ c.requires.agent) c.folded.ensures
