use Rattle.std.proofs.Common.{map, subst}
use Rattle.mp_files.specs.Fetched.{names_of}
use Rattle.mp_top.specs.Asked.{agents_of}
use Rattle.mp_top.specs.Decided.{SolvesFor}
use Rattle.mp_top.proofs.Acts.{agents_read}
use Rattle.mp_top.proofs.Decided.{decided_solve}
use Rattle.mp_top.proofs.deciding.decide_solve.Goals as goal
use Rattle.mp_words.specs.Reads.{solve_by}

pub returns-in-Err-clause-acts : goal.returns-in-Err-clause-acts
returns-in-Err-clause-acts g c =
    agents_read (map names_of c.args.files.now) (agents_of (solve_by c.args.request.now).names) _ _ c.requires.names c.in-Err.ensures.acts

pub returns-in-Ok-solve_for-clause-acts : goal.returns-in-Ok-solve_for-clause-acts
returns-in-Ok-solve_for-clause-acts g c =
    agents_read (map names_of c.args.files.now) (agents_of (solve_by c.args.request.now).names) _ _ c.requires.names c.in-Ok.ensures.acts

pub returns-in-Ok-solve_for-clause-outcome : goal.returns-in-Ok-solve_for-clause-outcome
returns-in-Ok-solve_for-clause-outcome g c =
    let w = solve_by c.args.request.now in
    let held = g.S.Source.held c.args.source.now in
    let d = c.in-Ok-solve_for.decision in
    decided_solve held w (map names_of c.args.files.now) c.in-Ok.team d c.requires.names c.in-Ok.ensures.read
    (subst (λ t. SolvesFor w.search w.work.one w.trace t d) c.as_slice.ensures c.in-Ok-solve_for.ensures.outcome)
