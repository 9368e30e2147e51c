use Rattle.std.proofs.Common.{[], ◌∷◌}
use Rattle.mp_files.specs.Asked.{file_asked}
use Rattle.mp_files.specs.Fetched.{names_of}
use Rattle.mp_files.proofs.Acts.{first_read, then_read}
use Rattle.mp_files.proofs.fetched.texts_of_agent.Goals as goal

pub returns-in_err-domain-clause-acts : goal.returns-in_err-domain-clause-acts
returns-in_err-domain-clause-acts g c =
    let names = names_of c.args.names.now in
    first_read (file_asked names.domain) (file_asked names.problem ∷ []) _ _ c.in_err-domain.ensures.acts

pub returns-in_err-problem-clause-acts : goal.returns-in_err-problem-clause-acts
returns-in_err-problem-clause-acts g c =
    let names = names_of c.args.names.now in
    then_read (file_asked names.domain) (file_asked names.problem ∷ []) _ _ _ c.in_ok-domain.ensures.acts
    (first_read (file_asked names.problem) [] _ _ c.in_err-problem.ensures.acts)

pub returns-clause-acts : goal.returns-clause-acts
returns-clause-acts g c =
    let names = names_of c.args.names.now in
    then_read (file_asked names.domain) (file_asked names.problem ∷ []) _ _ _ c.in_ok-domain.ensures.acts
    (first_read (file_asked names.problem) [] _ _ c.in_ok-problem.ensures.acts)
