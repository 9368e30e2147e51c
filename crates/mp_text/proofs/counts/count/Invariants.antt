use Rattle.std.proofs.Common.{◌≡◌, ◌≤◌, ◌+◌, ◌*◌, ◌^◌, length, drop}
use Rattle.mp_messages.specs.History.{schedule}
use Rattle.mp_text.specs.Outcome.{messages, message_bytes}
use Rattle.mp_text.proofs.counts.count.Given as goal

-- what was counted so far, and the counts of the entries that are left, make the whole
abbrev pub invariant-loop-at : goal.invariant-loop-at
invariant-loop-at l = record {
  events : l.events + length (schedule (drop l.at l.log)) ≡ length (schedule l.log);
  messages : l.messages + length (messages (drop l.at l.log)) ≡ length (messages l.log);
  bytes : l.total + message_bytes (drop l.at l.log) ≡ message_bytes l.log;
  few_events : l.events ≤ l.at;
  few_messages : l.messages ≤ l.at;
  few_bytes : l.total ≤ l.at * 2 ^ 64;
}
