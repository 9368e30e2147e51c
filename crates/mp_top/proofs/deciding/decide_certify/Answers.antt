use Rattle.std.proofs.Common.{map, subst}
use Rattle.mp_files.specs.Fetched.{names_of}
use Rattle.mp_top.specs.Asked.{agents_of}
use Rattle.mp_top.specs.Decided.{CertifiesFor}
use Rattle.mp_top.proofs.Acts.{agents_read}
use Rattle.mp_top.proofs.Decided.{decided_certify}
use Rattle.mp_top.proofs.deciding.decide_certify.Goals as goal
use Rattle.mp_words.specs.Reads.{certify_by}

pub returns-in-Err-clause-acts : goal.returns-in-Err-clause-acts
returns-in-Err-clause-acts g c =
    agents_read (map names_of c.args.files.now) (agents_of (certify_by c.args.request.now).names) _ _ c.requires.names c.in-Err.ensures.acts

pub returns-in-Ok-certify_for-clause-acts : goal.returns-in-Ok-certify_for-clause-acts
returns-in-Ok-certify_for-clause-acts g c =
    agents_read (map names_of c.args.files.now) (agents_of (certify_by c.args.request.now).names) _ _ c.requires.names c.in-Ok.ensures.acts

pub returns-in-Ok-certify_for-clause-outcome : goal.returns-in-Ok-certify_for-clause-outcome
returns-in-Ok-certify_for-clause-outcome g c =
    let w = certify_by c.args.request.now in
    let held = g.S.Source.held c.args.source.now in
    let d = c.in-Ok-certify_for.decision in
    decided_certify held w (map names_of c.args.files.now) c.in-Ok.team d c.requires.names c.in-Ok.ensures.read
    (subst (λ t. CertifiesFor w.limit t d) c.as_slice.ensures c.in-Ok-certify_for.ensures.outcome)
