use Rattle.std.proofs.Common.{◌≡◌, ◌≤◌, ◌+◌, drop}
use Rattle.mp_post_rule.specs.Queues.{count_puts}
use Rattle.mp_post.proofs.growth.puts_in.Given as goal

abbrev pub invariant-loop-entry : goal.invariant-loop-entry
invariant-loop-entry l = record {
  counted : l.count + count_puts (drop l.entry-index l.batch) ≡ count_puts l.batch;
  few : l.count ≤ l.entry-index;
}
