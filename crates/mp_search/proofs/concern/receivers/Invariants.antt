use Rattle.std.proofs.Common.{◌≡◌, ◌≤◌}
use Rattle.std.specs.List.{filter, range_with_len}
use Rattle.mp_search.specs.Concern.{is_receiver}
use Rattle.mp_search.specs.StateKeys.{reached_state}
use Rattle.mp_search.proofs.concern.receivers.Given as goal

abbrev pub invariant-loop-before : goal.invariant-loop-before
invariant-loop-before l = record {
  within : l.before ≤ l.task.agents;
  made : l.to ≡ filter (is_receiver l.task (reached_state l.state)) (range_with_len 1 l.before);
}
