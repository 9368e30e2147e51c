use Rattle.std.proofs.Common.{refl}
use Rattle.mp_nodes.proofs.AfterSteps.{refused}
use Rattle.mp_nodes.proofs.steps.receive.Goals as goal

pub returns-in_err-outs-clause-refused : goal.returns-in_err-outs-clause-refused
returns-in_err-outs-clause-refused g c = refused g.H.Heuristic.value c.args.me
    (record { machine = c.args.machine.now; batch = c.args.batch.now }) (record { machine = c.step.new.self; batch = c.args.batch.now })
    c.args.from c.args.bytes.now c.requires.free c.requires.may c.in_err-outs.field-0.0 c.from_residual.result c.in_err-outs.ensures refl
    c.from_residual.ensures.1
