-- A task of the program as the plain task that contracts see.
use Rattle.mp_task.specs.declared.task.Task.TheInside.{Inside}
use Rattle.mp_task.specs.AgentTask.{AgentTask}

abbrev pub agent_task : Inside → AgentTask
agent_task t = record {
  me = t.me;
  agents = t.agents;
  publics = t.publics;
  privates = t.privates;
  start_pub = t.start_pub;
  start_priv = t.start_priv;
  goal_pub = t.goal_pub;
  goal_priv = t.goal_priv;
  acts = t.acts;
  far = t.far;
  met = t.met;
}
