use Rattle.mp_ground_facts.proofs.Basics.{◌≡◌, ◌++◌, drop, numbers_where, is_initial}
use Rattle.mp_ground_facts.proofs.numbering.start_numbers.Given as goal

abbrev pub invariant-loop-fact : goal.invariant-loop-fact
invariant-loop-fact l = record {
  counted : l.number ≡ l.fact-index;
  left : l.out ++ numbers_where l.number (is_initial l.start) (drop l.fact-index l.facts)
      ≡ numbers_where 0 (is_initial l.start) l.facts;
}
