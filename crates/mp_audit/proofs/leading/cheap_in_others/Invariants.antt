use Rattle.std.proofs.Common.{◌≡◌, drop}
use Rattle.std.specs.List.{flat_map}
use Rattle.mp_audit.specs.Failures.{cheap_in_other}
use Rattle.mp_audit.specs.States.{joint_of}
use Rattle.mp_audit.proofs.leading.cheap_in_others.Given as goal

abbrev pub invariant-loop-other : goal.invariant-loop-other
invariant-loop-other l =
    let given = cheap_in_other l.known.bounds.now.entries l.entry l.bound l.task l.action l.act (joint_of l.reached) in
    flat_map given (drop l.other-index l.tasks) ≡ flat_map given l.known.tasks.now
