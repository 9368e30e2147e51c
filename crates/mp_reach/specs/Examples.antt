-- What the cook and the waiter may have found: their initial states alone, still to be expanded or
-- expanded in vain.
use Rattle.std.specs.Prelude.{Bool, true, false, Option, Some, []}
use Rattle.mp_store.specs.declared.entry.Mark.{Mark}
use Rattle.mp_store.specs.declared.entry.Mark.TheVariants.{Open, Expanded}
use Rattle.mp_task.specs.Plan.{joint_start}
use Rattle.mp_order.specs.Examples.{cook, waiter, cook_and_waiter}
use Rattle.mp_task.specs.AgentTask.{AgentTask}
use Rattle.mp_reach.specs.Found.{Entry, Found}
use Rattle.mp_reach.specs.LeadsOn.{Known}

-- the joint start in an agent's search
abbrev pub root : AgentTask → Known
root t = record { agent = t.me; state = joint_start cook_and_waiter }

abbrev pub root_entry : Mark → AgentTask → Entry Known
root_entry mark t = record { state = root t; cost = 0; estimate = 0; mark = mark }

-- the entry of the cook for true, and that of the waiter for false
abbrev pub root_of_each : Mark → Bool → Option (Entry Known)
root_of_each mark true = Some (root_entry mark cook)
root_of_each mark false = Some (root_entry mark waiter)

-- nothing is expanded yet
abbrev pub begun : Found Bool Known
begun = record { entry = root_of_each Open; sent = []; under_way = [] }

-- both entries are expanded, and what they lead to was forgotten
abbrev pub forgotten : Found Bool Known
forgotten = record { entry = root_of_each Expanded; sent = []; under_way = [] }
