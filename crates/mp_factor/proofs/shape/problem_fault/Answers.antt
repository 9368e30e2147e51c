use Rattle.mp_factor.proofs.Basics.{node_of, problem_from, problem_rule}
use Rattle.mp_factor.proofs.ReadFiles.{first_fault}
use Rattle.mp_factor.proofs.shape.problem_fault.Goals as goal

pub returns : goal.returns
returns c = first_fault problem_from _ (problem_rule (node_of c.args.tree.now)) _ c.in_ok-read_problem.ensures c.fault_in.ensures
