use Rattle.mp_factor.proofs.Basics.{◌≡◌, false, [], sym, ap, ◌∙◌, codes, nodes_in, Says, found_in, said_found, domain_from, names, objects, predicates, functions, in_section, listed_rule, actions_rule, domain_of, domain_parts}
use Rattle.mp_factor.proofs.PartLemmas.{paired, paired_as, with_six}
use Rattle.mp_factor.proofs.shape.read_domain_parts.Goals as goal

pub returns : goal.returns
unfolding domain_parts
returns c reading name =
    let sections = nodes_in c.args.sections.now in
    let types = in_section (codes ":types") (listed_rule (names false)) (Says []) sections in
    let constants = in_section (codes ":constants") (listed_rule objects) (Says []) sections in
    let declared = in_section (codes ":predicates") (listed_rule predicates) (Says []) sections in
    let valued = in_section (codes ":functions") (listed_rule functions) (Says []) sections in
    let read : c.pair.result ≡ paired (paired (paired (paired (paired (found_in reading) (found_in types)) (found_in constants)) (found_in declared)) (found_in valued)) (found_in (actions_rule sections)) =
    paired_as _ _ _ _ _ c.pair.ensures
    (c.in_ok-functions.ensures
    ∙ ap (λ r. paired (paired r (found_in declared)) (found_in valued))
    (c.in_ok-constants.ensures ∙ ap (λ r. paired (paired r (found_in types)) (found_in constants)) name))
    c.in_ok-read_actions.ensures in
    ap (λ r. said_found domain_from r) read ∙ sym (with_six domain_of reading types constants declared valued (actions_rule sections))
