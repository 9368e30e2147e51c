use Rattle.std.proofs.Common.{◌≡◌, drop}
use Rattle.mp_messages.proofs.Loops.{with_front}
use Rattle.mp_certificates.specs.Reading.{lists_at}
use Rattle.mp_certificates.proofs.fact_lists.push_privates.Given as goal

-- the lists so far and those that are left make the whole
abbrev pub invariant-loop-task : goal.invariant-loop-task
invariant-loop-task l =
    with_front l.lists (lists_at (drop l.task-index l.tasks) l.rest) ≡ with_front l.fn.lists (lists_at l.tasks l.text)
