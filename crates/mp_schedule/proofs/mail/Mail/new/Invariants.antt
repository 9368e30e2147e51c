use Rattle.std.proofs.Common.{◌≡◌, [], replicate}
use Rattle.mp_schedule.proofs.mail.Mail.new.Given as goal

abbrev pub invariant-loop : goal.invariant-loop
invariant-loop l = l.rows.items ≡ replicate l.counter (replicate l.agents [])
