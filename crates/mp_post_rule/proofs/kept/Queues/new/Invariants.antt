use Rattle.std.proofs.Common.{◌≡◌, [], replicate}
use Rattle.mp_post_rule.proofs.kept.Queues.new.Given as goal

abbrev pub invariant-loop : goal.invariant-loop
invariant-loop l = l.rows.items ≡ replicate l.counter []
