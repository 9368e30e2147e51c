use Rattle.std.proofs.Common.{◌≡◌, ◌+◌, ◌-◌, []}
use Rattle.std.specs.List.{filter, list_any, range_with_len}
use Rattle.mp_search.specs.Concern.{is_receiver}
use Rattle.mp_search.specs.StateKeys.{reached_state}
use Rattle.mp_search.proofs.concern.first_receiver.Given as goal

abbrev pub invariant-loop-before : goal.invariant-loop-before
invariant-loop-before l = record {
  left : list_any (is_receiver l.task (reached_state l.state)) (range_with_len (l.before + 1) (l.task.agents - l.before))
      ≡ list_any (is_receiver l.task (reached_state l.state)) (range_with_len 1 l.task.agents);
  none : filter (is_receiver l.task (reached_state l.state)) (range_with_len 1 l.before) ≡ [];
}
