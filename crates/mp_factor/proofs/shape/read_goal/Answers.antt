use Rattle.mp_factor.proofs.Basics.{[], Ok, ap, refl, ◌∙◌, Says}
use Rattle.mp_factor.proofs.shape.read_goal.Goals as goal

pub returns : goal.returns
returns c =
    let goals = c.in_ok-goals.ensures (Says []) (ap Ok c.new.ensures) in
    c.pair.ensures ∙ rw goals refl
