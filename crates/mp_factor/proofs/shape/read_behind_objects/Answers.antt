use Rattle.mp_factor.proofs.Basics.{false, refl, ◌∙◌, Says}
use Rattle.mp_factor.proofs.shape.read_behind_objects.Goals as goal

pub returns : goal.returns
returns c =
    let metric = c.in_ok-metric.ensures (Says false) refl in
    c.pair.ensures ∙ rw (c.in_ok-goals.ensures, c.in_ok-start.ensures, metric) refl
