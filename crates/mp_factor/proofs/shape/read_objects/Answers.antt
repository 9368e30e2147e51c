use Rattle.mp_factor.proofs.Basics.{refl, ◌∙◌, misshapen}
use Rattle.mp_factor.proofs.shape.read_objects.Goals as goal

pub returns : goal.returns
returns c =
    let domain = c.in_ok-read_section.ensures (misshapen c.args.whole) c.shape_fault-missing.ensures in
    c.pair.ensures ∙ rw (c.pair-domain.ensures, domain, c.in_ok-read_listed.ensures) refl
