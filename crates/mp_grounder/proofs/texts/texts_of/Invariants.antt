use Rattle.mp_grounder.proofs.Basics.{◌≡◌, map, take, text_at}
use Rattle.mp_grounder.proofs.texts.texts_of.Given as goal

abbrev pub invariant-loop-fact : goal.invariant-loop-fact
invariant-loop-fact l = l.texts ≡ map (text_at l.names) (take l.fact-index l.facts)
