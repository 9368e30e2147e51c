-- Worked teams. The left one walks from far to near and drops; the right one lifts what lies in the
-- middle and lays it at the end; in the team of three a bell is rung there, which takes away what
-- lies in the middle.
use Rattle.std.specs.Prelude.{ℕ, Bool, true, false, List, [], ◌∷◌}
use Rattle.mp_task.specs.declared.act.Act.{Act}
use Rattle.mp_task.specs.declared.act.Far.{Far}
use Rattle.mp_task.specs.AgentTask.{AgentTask}
use Rattle.mp_task.specs.Plan.{TaskStep}

-- Public are end (0) and mid (1). Private are far (0) and near (1) of the left one, held (0) of the
-- right one, and rung (0) of the bell.
abbrev pub walk : Act
walk = record {
  pre_pub = [];
  pre_priv = 0 ∷ [];
  add_pub = [];
  add_priv = 1 ∷ [];
  del_pub = [];
  del_priv = 0 ∷ [];
  cost = 1;
}

abbrev pub drop_it : Act
drop_it = record {
  pre_pub = [];
  pre_priv = 1 ∷ [];
  add_pub = 1 ∷ [];
  add_priv = [];
  del_pub = [];
  del_priv = [];
  cost = 1;
}

abbrev pub lift : Act
lift = record {
  pre_pub = 1 ∷ [];
  pre_priv = [];
  add_pub = [];
  add_priv = 0 ∷ [];
  del_pub = 1 ∷ [];
  del_priv = [];
  cost = 1;
}

abbrev pub lay : Act
lay = record {
  pre_pub = [];
  pre_priv = 0 ∷ [];
  add_pub = 0 ∷ [];
  add_priv = [];
  del_pub = [];
  del_priv = [];
  cost = 1;
}

abbrev pub ring : Act
ring = record {
  pre_pub = 0 ∷ [];
  pre_priv = [];
  add_pub = 0 ∷ [];
  add_priv = 0 ∷ [];
  del_pub = 0 ∷ 1 ∷ [];
  del_priv = [];
  cost = 1;
}

-- the public parts of the actions but for walk, which is private
abbrev pub dropped : Far
dropped = record { by = 1; pre = []; add = 1 ∷ []; del = []; cost = 1 }

abbrev pub lifted : Far
lifted = record { by = 2; pre = 1 ∷ []; add = []; del = 1 ∷ []; cost = 1 }

abbrev pub laid : Far
laid = record { by = 2; pre = []; add = 0 ∷ []; del = []; cost = 1 }

-- it deletes end and adds it, so that of its deletes mid alone is seen
abbrev pub rung : Far
rung = record { by = 3; pre = 0 ∷ []; add = 0 ∷ []; del = 1 ∷ []; cost = 1 }

-- the tasks, for a team of so many agents whose flags and whose others' parts are these
abbrev pub left : ℕ → List Bool → List Far → AgentTask
left agents met far = record {
  me = 1;
  agents = agents;
  publics = 2;
  privates = 2;
  start_pub = [];
  start_priv = 0 ∷ [];
  goal_pub = 0 ∷ [];
  goal_priv = [];
  acts = walk ∷ drop_it ∷ [];
  far = far;
  met = met;
}

abbrev pub right : ℕ → List Bool → List Far → AgentTask
right agents met far = record {
  me = 2;
  agents = agents;
  publics = 2;
  privates = 1;
  start_pub = [];
  start_priv = [];
  goal_pub = 0 ∷ [];
  goal_priv = [];
  acts = lift ∷ lay ∷ [];
  far = far;
  met = met;
}

abbrev pub bell : ℕ → List Bool → List Far → AgentTask
bell agents met far = record {
  me = 3;
  agents = agents;
  publics = 2;
  privates = 1;
  start_pub = [];
  start_priv = [];
  goal_pub = 0 ∷ [];
  goal_priv = 0 ∷ [];
  acts = ring ∷ [];
  far = far;
  met = met;
}

-- a team of two, whose left one has these parts of the right one
abbrev pub two : List Far → List AgentTask
two far = left 2 (true ∷ true ∷ []) far ∷ right 2 (true ∷ true ∷ []) (dropped ∷ []) ∷ []

-- a team of three, whose left one has these parts of the others
abbrev pub three : List Far → List AgentTask
three far =
    left 3 (true ∷ true ∷ false ∷ []) far
    ∷ right 3 (true ∷ true ∷ false ∷ []) (dropped ∷ rung ∷ [])
    ∷ bell 3 (true ∷ true ∷ false ∷ []) (dropped ∷ lifted ∷ laid ∷ [])
    ∷ []

-- walk, drop, lift and lay; and the same with nothing lifted before it is laid
abbrev pub careful : List TaskStep
careful =
    record { agent = 1; action = 0 }
    ∷ record { agent = 1; action = 1 }
    ∷ record { agent = 2; action = 0 }
    ∷ record { agent = 2; action = 1 }
    ∷ []

abbrev pub hasty : List TaskStep
hasty =
    record { agent = 1; action = 0 }
    ∷ record { agent = 1; action = 1 }
    ∷ record { agent = 2; action = 1 }
    ∷ record { agent = 2; action = 0 }
    ∷ []
