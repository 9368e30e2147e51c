use Rattle.mp_factor.proofs.Basics.{[], Ok, ap, node_of, nodes_in, is_headed, place_of, Says, listed_rule}
use Rattle.mp_factor.proofs.OnceLemmas.{once_there, once_missing}
use Rattle.mp_factor.proofs.sections.read_listed.Goals as goal

pub returns-in_ok-read_list-in-Some : goal.returns-in_ok-read_list-in-Some
returns-in_ok-read_list-in-Some g c =
    once_there (λ t. node_of t.now) (is_headed c.args.keyword.now) place_of (listed_rule (g.L.Listing.listing c.args.listing.now)) (Says []) (nodes_in c.args.sections.now) _ _ _ _ _
    c.check_single-single.ensures c.section.ensures c.in-Some.is c.in_ok-read_list-in-Some.ensures c.second.ensures

pub returns-in-None : goal.returns-in-None
returns-in-None g c =
    once_missing (λ t. node_of t.now) (is_headed c.args.keyword.now) place_of (listed_rule (g.L.Listing.listing c.args.listing.now)) (Says []) (nodes_in c.args.sections.now) _ _ _ _
    c.check_single-single.ensures c.section.ensures c.in-None.is (ap Ok c.new.ensures) c.second-in-None.ensures
