use Rattle.std.proofs.Common.{option_map, ◌∙◌}
use Rattle.mp_relaxed.specs.Values.{greatest}
use Rattle.mp_lmcut.proofs.rounds.value_of.Goals as goal

pub returns-clause-found : goal.returns-clause-found
returns-clause-found c =
    let found = c.greatest-found.ensures ∙ (λ i. greatest (λ x. c.in_ok-find.ensures.values x i) (c.goals.ensures.value i)) in
    c.with_total.ensures ∙ (λ i. option_map (λ _. c.in_ok-total.ensures.total i) (found i))
