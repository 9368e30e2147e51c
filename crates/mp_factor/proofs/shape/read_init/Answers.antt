use Rattle.mp_factor.proofs.Basics.{refl, ◌∙◌, Says, empty_start}
use Rattle.mp_factor.proofs.shape.read_init.Goals as goal

pub returns : goal.returns
returns c =
    let start = c.in_ok-start.ensures (Says empty_start) (rw (c.new.ensures, c.new-2.ensures) refl) in
    c.pair.ensures ∙ rw start refl
