use Rattle.mp_optimality.proofs.CertifiedRuns.{told_certificate}
use Rattle.mp_optimality.proofs.certifying.told_certificate.Goals as goal

pub returns : goal.returns
returns c =
    let made = c.in_ok-certificate in
    let tasks = c.args.world.now.tasks in
    told_certificate tasks c.args.world.now.world made.certificate made.ensures.certified made.ensures.holds c.certificate_text.result
    (c.certificate_text.ensures.read tasks made.ensures.agents made.ensures.fits)
