use Rattle.mp_factor.proofs.Basics.{codes, node_of, nodes_in, problem_from, keyword, domain_words, problem_words, sections_rule, problem_parts, title_rule}
use Rattle.mp_factor.proofs.ReadFiles.{behind_two, problem_read}
use Rattle.mp_factor.proofs.shape.read_problem_members.Goals as goal

pub returns : goal.returns
returns c =
    let title = title_rule (codes "problem") (node_of c.args.title.now) in
    let sections = nodes_in c.args.sections.now in
    behind_two problem_from (keyword (codes "define") (node_of c.args.head.now)) (sections_rule problem_words domain_words sections)
    (problem_parts c.args.whole title sections) _ _ _ _ _ c.expect-define.ensures c.in_ok-right.ensures
    (problem_read c.args.whole title sections _ _ _ c.in_ok-name.ensures c.in_ok-known.ensures c.in_ok-parts.ensures)
    c.second.ensures c.second-2.ensures
