use Rattle.std.proofs.Common.{◌≡◌, ◌++◌, List, length, map}
use Rattle.std.specs.List.{fold}
use Rattle.std.specs.Vec.Iter.{into_iter_items, into_iter_len}
use Rattle.mp_machine.specs.AgentRecord.{AgentRecord}
use Rattle.mp_world.specs.Events.{with_sent}
use Rattle.mp_world.specs.Logs.{put_by}
use Rattle.mp_schedule.specs.UnderWay.{world_with}
use Rattle.mp_schedule.proofs.steps.send_all.Given as goal

abbrev pub invariant-loop-out : goal.invariant-loop-out
invariant-loop-out l = record {
  count : into_iter_len l.out-iterator ≡ length (into_iter_items l.out-iterator);
  log : l.log ++ map (put_by l.from) (into_iter_items l.out-iterator) ≡ l.fn.log ++ map (put_by l.from) l.fn.outs;
  mail : (records : List AgentRecord) → length records ≡ l.agents
      → fold (with_sent l.from) (world_with records l.mail) (into_iter_items l.out-iterator)
      ≡ fold (with_sent l.from) (world_with records l.fn.mail) l.fn.outs;
}
