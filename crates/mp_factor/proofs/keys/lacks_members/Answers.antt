use Rattle.mp_factor.proofs.Basics.{length, sym, ap, ◌∙◌, node_of, value_length}
use Rattle.std.specs.Prelude.{nat_lt}
use Rattle.std.proofs.lemmas.List.{length-map}
use Rattle.mp_factor.proofs.keys.lacks_members.Goals as goal

pub returns : goal.returns
returns c =
    ap (λ n. nat_lt (length c.args.key.value.now) n) c.value_len.ensures
    ∙ ap (λ n. nat_lt n (value_length (node_of c.args.key.key.now))) (sym (length-map c.args.key.value.now node_of))
