-- What is needed where facts are handed on one after another.
use Rattle.mp_ground_facts.proofs.Basics.{◌≡◌, filter, List, [], GroundAtom, LiftedFactor, has_complement, with_complements}
use Rattle.std.proofs.lemmas.List.Elements.{filter_agree}
use Rattle.std.proofs.lemmas.List.Sums.{fold-append}
use Rattle.mp_list.proofs.Bools.{and_true}

-- of no others, all that have complements are none
pub no_others : (factor : LiftedFactor) (atoms : List GroundAtom) → with_complements factor [] atoms ≡ filter (has_complement factor) atoms
no_others factor atoms = filter_agree _ _ (λ a. and_true (has_complement factor a)) atoms

pub ruleset fold_steps = (fold-append, no_others)
