use Rattle.std.proofs.Common.{◌≤◌, All, ap, sym, ◌∙◌, subst}
use Rattle.std.specs.Option.{unwrap_or}
use Rattle.mp_lmcut.proofs.CutLemmas.{least_enough}
use Rattle.mp_lmcut.proofs.costs.pay.Goals as goal

pub lower_all-requires-clause-enough : goal.lower_all-requires-clause-enough
lower_all-requires-clause-enough c =
    subst (λ n. All (λ cost. n ≤ cost) c.args.costs.now) (sym (c.unwrap_or-by.ensures ∙ ap (λ a. unwrap_or a 0) c.least_of.ensures))
    (least_enough c.args.costs.now)
