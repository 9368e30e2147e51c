use Rattle.mp_factor.proofs.Basics.{◌≡◌, sym, ap, subst, ◌∙◌, codes, IfOk, node_of, nodes_in, found_in, said_found, problem_from, define_members, problem_sections}
use Rattle.mp_factor.proofs.Steps.{two_and_others}
use Rattle.mp_factor.proofs.ReadFiles.{by_members, too_few}
use Rattle.mp_factor.proofs.shape.read_problem.Goals as goal

pub returns-in-len2-up : goal.returns-in-len2-up
returns-in-len2-up c =
    let node = node_of c.args.tree.now in
    let whole = c.place-in-len2-up.result in
    subst (λ r. IfOk c.read_problem_members.result (λ found. said_found problem_from found ≡ found_in r))
    (sym (by_members (codes "problem") problem_sections node whole (nodes_in c.members.result.now) c.place-in-len2-up.ensures c.members.ensures
    ∙ ap (λ ns. define_members (codes "problem") problem_sections whole ns)
    (two_and_others c.members.result.now c.head-item.result c.title-item.result c.in-len2-up.len_at_least c.head-item.is c.title-item.is)))
    c.read_problem_members.ensures

pub returns-in_default : goal.returns-in_default
returns-in_default c =
    ap (λ r. said_found problem_from r) c.shape_fault.ensures
    ∙ sym (ap (λ r. found_in r) (by_members (codes "problem") problem_sections (node_of c.args.tree.now) c.place.result (nodes_in c.members.result.now) c.place.ensures c.members.ensures
    ∙ too_few (codes "problem") problem_sections c.place.result c.members.result.now c.in_default.len_below))
