-- A worked team of two: a cook washes its hands, serves a meal and rests, and a waiter fetches a
-- tray, carries the meal out and is paid. Serving and carrying are public, the rest is private.
use Rattle.std.specs.Prelude.{ℕ, false, List, [], ◌∷◌}
use Rattle.std.specs.FinSet as set
use Rattle.mp_task.specs.declared.act.Act.{Act}
use Rattle.mp_task.specs.declared.act.Far.{Far}
use Rattle.mp_task.specs.AgentTask.{AgentTask}
use Rattle.mp_task.specs.Plan.{JointState, TaskStep}

-- Public are ready (0) and out (1). Private are washed (0) and rested (1) of the cook, and tray (0)
-- and paid (1) of the waiter.

-- an action that asks for nothing and changes nothing
abbrev pub idle : Act
idle = record {
  pre_pub = [];
  pre_priv = [];
  add_pub = [];
  add_priv = [];
  del_pub = [];
  del_priv = [];
  cost = 1;
}

-- one that makes one private fact true
abbrev pub privately : ℕ → Act
privately fact = record idle { add_priv = fact ∷ [] }

abbrev pub serve : Act
serve = record idle { pre_priv = 0 ∷ []; add_pub = 0 ∷ [] }

abbrev pub carry : Act
carry = record idle {
  pre_pub = 0 ∷ [];
  pre_priv = 0 ∷ [];
  add_pub = 1 ∷ [];
  del_pub = 0 ∷ [];
}

abbrev pub served : Far
served = record { by = 1; pre = []; add = 0 ∷ []; del = []; cost = 1 }

abbrev pub carried : Far
carried = record { by = 2; pre = 0 ∷ []; add = 1 ∷ []; del = 0 ∷ []; cost = 1 }

-- one of the two, whose public action and whose other's part are these; its private goal is fact 1
abbrev pub one_of_two : ℕ → Act → Far → AgentTask
one_of_two me shown part = record {
  me = me;
  agents = 2;
  publics = 2;
  privates = 2;
  start_pub = [];
  start_priv = [];
  goal_pub = 1 ∷ [];
  goal_priv = 1 ∷ [];
  acts = privately 0 ∷ shown ∷ privately 1 ∷ [];
  far = part ∷ [];
  met = false ∷ false ∷ [];
}

abbrev pub cook : AgentTask
cook = one_of_two 1 serve carried

abbrev pub waiter : AgentTask
waiter = one_of_two 2 carry served

abbrev pub cook_and_waiter : List AgentTask
cook_and_waiter = cook ∷ waiter ∷ []

-- what the two do: the cook's actions in their order, and the waiter's
abbrev pub washing : TaskStep
washing = record { agent = 1; action = 0 }

abbrev pub serving : TaskStep
serving = record { agent = 1; action = 1 }

abbrev pub resting : TaskStep
resting = record { agent = 1; action = 2 }

abbrev pub fetching : TaskStep
fetching = record { agent = 2; action = 0 }

abbrev pub carrying : TaskStep
carrying = record { agent = 2; action = 1 }

abbrev pub collecting : TaskStep
collecting = record { agent = 2; action = 2 }

-- a plan out of order, in which the cook washes its hands once more at the end
abbrev pub unordered : List TaskStep
unordered = fetching ∷ washing ∷ serving ∷ resting ∷ carrying ∷ collecting ∷ washing ∷ []

-- the same in order: a block of each, and the closing group of each
abbrev pub ordered : List TaskStep
ordered = washing ∷ serving ∷ fetching ∷ carrying ∷ resting ∷ collecting ∷ []

-- the state in which the meal is out
abbrev pub meal_out : JointState
meal_out = record {
  publics = set.from_list (1 ∷ []);
  privates = set.from_list (0 ∷ []) ∷ set.from_list (0 ∷ []) ∷ [];
}
