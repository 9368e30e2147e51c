use Rattle.mp_factor.proofs.Basics.{codes, node_of, nodes_in, domain_from, keyword, domain_words, problem_words, sections_rule, domain_parts, title_rule}
use Rattle.mp_factor.proofs.ReadFiles.{behind_two}
use Rattle.mp_factor.proofs.shape.read_domain_members.Goals as goal

pub returns : goal.returns
returns c =
    let title = title_rule (codes "domain") (node_of c.args.title.now) in
    let sections = nodes_in c.args.sections.now in
    behind_two domain_from (keyword (codes "define") (node_of c.args.head.now)) (sections_rule domain_words problem_words sections) (domain_parts title sections) _ _ _ _ _
    c.expect-define.ensures c.in_ok-right.ensures (c.in_ok-parts.ensures title c.in_ok-name.ensures) c.second.ensures c.second-2.ensures
