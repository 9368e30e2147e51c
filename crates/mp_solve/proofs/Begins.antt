-- Agents with the tasks of files may begin.
use Rattle.std.proofs.Common.{◌≤◌, ℕ, List, length, subst, sym}
use Rattle.mp_forms.specs.declared.factor.Factor.{Factor}
use Rattle.mp_stands.specs.Numbering.{Numbering}
use Rattle.mp_stands.specs.Stands.{Stands}
use Rattle.mp_task.specs.AgentTask.{AgentTask}
use Rattle.mp_task.specs.Limits.{most_expansions}
use Rattle.mp_solve.specs.Machines.{MayBegin}

pub may_begin : (limit : ℕ) (team : List Factor) (numbering : Numbering) (tasks : List AgentTask) → Stands team numbering tasks
    → 1 ≤ limit → limit ≤ most_expansions → 1 ≤ length team → length team ≤ 16 → MayBegin limit tasks
may_begin limit team numbering tasks stands from_1 most some at_most = record {
  from_1 = from_1;
  most = most;
  agree = stands.agree;
  some = subst (λ n. 1 ≤ n) (sym stands.one_each) some;
  at_most = subst (λ n. n ≤ 16) (sym stands.one_each) at_most;
}
