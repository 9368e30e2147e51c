use Rattle.mp_factor.proofs.Basics.{[], map, ap, ◌∙◌, wanted, found_in, key_nodes, in_key, condition_rule, effect_rule}
use Rattle.std.proofs.Common.{codes}
use Rattle.mp_factor.proofs.PartLemmas.{paired, paired_as}
use Rattle.mp_factor.proofs.schema_values.read_parts.Goals as goal

pub returns : goal.returns
returns c =
    let keys = map key_nodes c.args.action.keys.now in
    let whole = c.args.action.whole in
    let pre = c.in_ok-pre.ensures
    ∙ ap (λ r. paired r (found_in (in_key (codes ":precondition") (wanted condition_rule whole) [] keys))) c.in_ok-params.ensures in
    paired_as _ _ _ _ _ c.pair.ensures pre
    (c.in_ok-effect.ensures ∙ ap (λ m. found_in (in_key (codes ":effect") (wanted effect_rule whole) m keys)) c.nothing.ensures)
