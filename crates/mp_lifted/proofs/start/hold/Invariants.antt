use Rattle.mp_lifted.proofs.Basics.{◌≡◌, ◌||◌, take, GroundAtom, is_among, is_held, has_kind}
use Rattle.std.proofs.Common.{filter}
use Rattle.mp_lifted.proofs.start.hold.Given as goal

abbrev pub invariant-loop-fact : goal.invariant-loop-fact
invariant-loop-fact l = (a : GroundAtom) → is_held l.held.keys a ≡ (is_held l.fn.held.keys a || is_among a (filter (has_kind l.factor l.private) (take l.fact-index l.facts)))
