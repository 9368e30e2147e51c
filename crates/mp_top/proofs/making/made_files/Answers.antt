use Rattle.std.proofs.Common.{◌+◌}
use Rattle.mp_files.specs.Fetched.{names_of}
use Rattle.mp_top.specs.Asked.{made_name}
use Rattle.mp_top.proofs.Made.{named_more}
use Rattle.mp_top.proofs.making.made_files.Goals as goal

pub loop-agent-preserved : goal.loop-agent-preserved
loop-agent-preserved c =
    named_more names_of made_name c.loop-agent.files.items c.push.new.self.items c.made_names.result _ c.loop-agent.agent (c.args.size + 1)
    c.loop-agent-test.true c.in_ok-push.ensures.items c.made_names.ensures c.loop-agent.invariant
