use Rattle.mp_split.proofs.Basics.{◌≡◌, ◌++◌, drop, numbers_where, is_listed, is_true}
use Rattle.mp_sets.specs.Numbers.{IsAboveLast}
use Rattle.mp_split.proofs.common.start_and_goals.Given as goal

abbrev pub invariant-loop-text : goal.invariant-loop-text
invariant-loop-text l = record {
  counted : l.place ≡ l.text-index;
  above : IsAboveLast l.start l.place × IsAboveLast l.wanted l.place;
  start : l.start ++ numbers_where l.place (is_true l.init) (drop l.text-index l.table) ≡ numbers_where 0 (is_true l.init) l.table;
  wanted : l.wanted ++ numbers_where l.place (λ text. is_listed text l.goals) (drop l.text-index l.table)
      ≡ numbers_where 0 (λ text. is_listed text l.goals) l.table;
}
