use Rattle.mp_split.proofs.Basics.{◌<◌, All, ap, subst, sym, ◌∙◌}
use Rattle.std.specs.FinSet.{contains-from_list_nat}
use Rattle.std.specs.List.{list_all}
use Rattle.mp_sets.specs.Numbers.{SizedSet, holds}
use Rattle.mp_split.proofs.closed.are_goals_met.Goals as goal

pub holds-requires : goal.holds-requires
holds-requires c =
    subst (λ (s : SizedSet). All (λ x. x < s.size) c.args.ground.now.goal_priv) (sym c.in_ok-start.ensures) c.requires.goal_priv

pub returns : goal.returns
returns c =
    let g = c.args.ground.now in
    c.holds.ensures ∙ ap (λ (s : SizedSet). holds s.members g.goal_priv) c.in_ok-start.ensures
    ∙ (λ i. list_all (λ n. contains-from_list_nat g.start n i) g.goal_priv)
