use Rattle.mp_factor.proofs.Basics.{map, refl, is_word, place_of, Says, wanted, key_nodes}
use Rattle.mp_factor.proofs.OnceLemmas.{once_there, once_missing}
use Rattle.mp_factor.proofs.schema_values.read_key.Goals as goal

pub returns-in_ok-read_wanted-in-Some : goal.returns-in_ok-read_wanted-in-Some
returns-in_ok-read_wanted-in-Some g c =
    once_there key_nodes (λ k. is_word c.args.keyword.now k.key) (λ k. place_of k.key) (λ k. wanted (g.F.Form.rule c.args.form.now) c.args.action.whole k.value)
    (Says c.args.missing) (map key_nodes c.args.action.keys.now) _ _ _ _ _
    c.check_single-single.ensures c.first_named.ensures c.in-Some.is c.in_ok-read_wanted-in-Some.ensures c.second.ensures

pub returns-in-None : goal.returns-in-None
returns-in-None g c =
    once_missing key_nodes (λ k. is_word c.args.keyword.now k.key) (λ k. place_of k.key) (λ k. wanted (g.F.Form.rule c.args.form.now) c.args.action.whole k.value)
    (Says c.args.missing) (map key_nodes c.args.action.keys.now) _ _ _ _
    c.check_single-single.ensures c.first_named.ensures c.in-None.is refl c.second-in-None.ensures
