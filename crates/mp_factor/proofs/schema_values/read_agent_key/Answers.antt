use Rattle.mp_factor.proofs.Basics.{[], map, Ok, ap, codes, is_word, place_of, Says, key_nodes, agent_rule}
use Rattle.mp_factor.proofs.OnceLemmas.{once_there, once_missing}
use Rattle.mp_factor.proofs.schema_values.read_agent_key.Goals as goal

pub returns-in_ok-read_agent-in-Some : goal.returns-in_ok-read_agent-in-Some
returns-in_ok-read_agent-in-Some c =
    once_there key_nodes (λ k. is_word (codes ":agent") k.key) (λ k. place_of k.key) (λ k. agent_rule c.args.action.whole k.value)
    (Says []) (map key_nodes c.args.action.keys.now) _ _ _ _ _
    c.check_single-single.ensures c.first_named.ensures c.in-Some.is c.in_ok-read_agent-in-Some.ensures c.second.ensures

pub returns-in-None : goal.returns-in-None
returns-in-None c =
    once_missing key_nodes (λ k. is_word (codes ":agent") k.key) (λ k. place_of k.key) (λ k. agent_rule c.args.action.whole k.value)
    (Says []) (map key_nodes c.args.action.keys.now) _ _ _ _
    c.check_single-single.ensures c.first_named.ensures c.in-None.is (ap Ok c.new.ensures) c.second-in-None.ensures
