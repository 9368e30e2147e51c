use Rattle.mp_grounder.proofs.Basics.{◌≡◌, map, take, ground_action, act_at}
use Rattle.mp_grounder.proofs.turning.own_acts.Given as goal

abbrev pub invariant-loop-at : goal.invariant-loop-at
invariant-loop-at l =
    record {
      made : l.acts ≡ map (act_at l.places) (map (ground_action l.factor l.facts.keys) (take l.at l.instances));
      pre : l.numbers.pre.facts ≡ l.facts.keys;
      add : l.numbers.add.facts ≡ l.facts.keys;
      del : l.numbers.del.facts ≡ l.facts.keys;
    }
