use Rattle.mp_factor.proofs.Basics.{node_of, nodes_in, is_headed, place_of}
use Rattle.mp_factor.proofs.OnceLemmas.{once_there, once_missing}
use Rattle.mp_factor.proofs.sections.read_section.Goals as goal

pub returns-in_ok-read-in-Some : goal.returns-in_ok-read-in-Some
returns-in_ok-read-in-Some g c reading is =
    once_there (λ t. node_of t.now) (is_headed c.args.keyword.now) place_of (g.F.Form.rule c.args.form.now) reading (nodes_in c.args.sections.now) _ _ _ _ _
    c.check_single-single.ensures c.section.ensures c.in-Some.is c.in_ok-read-in-Some.ensures c.second.ensures

pub returns-in-None : goal.returns-in-None
returns-in-None g c reading is =
    once_missing (λ t. node_of t.now) (is_headed c.args.keyword.now) place_of (g.F.Form.rule c.args.form.now) reading (nodes_in c.args.sections.now) _ _ _ _
    c.check_single-single.ensures c.section.ensures c.in-None.is is c.second-in-None.ensures
