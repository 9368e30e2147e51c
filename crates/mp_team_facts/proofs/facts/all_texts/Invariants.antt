use Rattle.std.proofs.Common.{◌≡◌, take}
use Rattle.std.specs.List.{flat_map}
use Rattle.mp_team_facts.proofs.facts.all_texts.Given as goal

abbrev pub invariant-loop-made : goal.invariant-loop-made
invariant-loop-made l = l.texts.items ≡ flat_map (λ g. g.publics) (take l.made-index l.grounds)
