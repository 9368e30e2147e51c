use Rattle.mp_factor.proofs.Basics.{◌≡◌, map, length, nodes_in, same_names}
use Rattle.mp_forms.specs.Parts.{word_of}
use Rattle.mp_factor.proofs.function_key.FunctionKeyPartialEq.eq.Given as goal

abbrev pub decreases-loop-ours : goal.decreases-loop-ours
decreases-loop-ours l = length l.ours

abbrev pub invariant-loop-ours : goal.invariant-loop-ours
invariant-loop-ours l = same_names (map word_of (nodes_in l.ours)) (map word_of (nodes_in l.others)) ≡ same_names l.self l.other
