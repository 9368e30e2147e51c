use Rattle.mp_views.proofs.Basics.{◌∙◌, sorted_once}
use Rattle.mp_views.proofs.open.join.Goals as goal

pub returns : goal.returns
returns c =
    let all = c.in_ok-shown.ensures in
    c.in_ok-view.ensures ∙ (λ i. record {
      changed = sorted_once (all.changed i);
      negated = sorted_once (all.negated i);
      init = sorted_once (all.init i);
    })
