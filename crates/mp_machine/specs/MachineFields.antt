-- A machine of the program as contracts see it.
use Rattle.std.specs.Prelude.{◌≡◌, Option, None}
use Rattle.mp_search.specs.Search.{AgentSearch}
use Rattle.mp_machine.specs.declared.member.Member.{Member}
use Rattle.mp_machine.specs.declared.refusal.StepRefusal.{StepRefusal}
use Rattle.mp_machine.specs.AgentRecord.{AgentRecord}
use Rattle.mp_machine.specs.Machine.{AgentMachine}
use Rattle.mp_machine.specs.MemberFields.{IsMember, IsReady, record_of}

abbrev pub agent_machine : AgentSearch → Member → Option StepRefusal → AgentMachine
agent_machine s m stopped = record { done = record_of s m; stopped = stopped }

pub record IsMachine (s : AgentSearch) (m : Member) (stopped : Option StepRefusal) : Type 0 where
  pub member : IsMember s.task m
  pub ready : stopped ≡ None → IsReady s m

-- the search of an agent
pub record IsSearchOf (s : AgentSearch) (r : AgentRecord) : Type 0 where
  pub task : s.task ≡ r.task
  pub limit : s.limit ≡ r.limit
  pub done : s.done ≡ r.search
