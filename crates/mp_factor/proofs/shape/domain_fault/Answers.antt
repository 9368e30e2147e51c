use Rattle.mp_factor.proofs.Basics.{node_of, domain_from, domain_rule}
use Rattle.mp_factor.proofs.ReadFiles.{first_fault}
use Rattle.mp_factor.proofs.shape.domain_fault.Goals as goal

pub returns : goal.returns
returns c = first_fault domain_from _ (domain_rule (node_of c.args.tree.now)) _ c.in_ok-read_domain.ensures c.fault_in.ensures
