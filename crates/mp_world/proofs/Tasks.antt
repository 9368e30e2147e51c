-- What an agent does never changes its task.
use Rattle.mp_world.proofs.Basics.{◌≡◌, ℕ, List, Option, refl, Ok}
use Rattle.mp_world.specs.AgentWords.{Local, AgentRecord, local, Step, with_state}
use Rattle.mp_world.specs.SearchWords.{Numbers}
use Rattle.mp_world.proofs.LocalCases.{StepCases, each_local}

abbrev KeepsTask : AgentRecord → Step → Type 0
KeepsTask r s = s.after.task ≡ r.task

keeping : StepCases KeepsTask
keeping = record {
  acts = λ r. record {
    silent = refl;
    root = λ entry back length is. refl;
    hop = λ entry back agent sent more is. refl;
    pick = λ agent cost given other. refl;
    ended = λ v kind given. refl;
  };
  report = λ r. refl;
  notes = λ r new s keeps. keeps;
  begins = λ r new number s keeps. keeps;
  picked = λ r s keeps. keeps;
  ended = λ r ending share. refl;
}

module _ (value : Numbers → Numbers → Option ℕ) where
  -- the task after a step is the one before it
  pub local_keeps_task : (r : AgentRecord) (event : Local) (bytes : List ℕ) (s : Step) → local value r event bytes ≡ Ok s
      → s.after.task ≡ r.task
  unfolding with_state
  local_keeps_task r event bytes s is = each_local KeepsTask keeping value r event bytes s refl (λ from x. refl) is
