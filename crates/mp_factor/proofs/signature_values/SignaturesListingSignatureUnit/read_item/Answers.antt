use Rattle.mp_factor.proofs.Basics.{node_of, signature_rule}
use Rattle.mp_factor.proofs.TypedLemmas.{untyped_item}
use Rattle.mp_factor.proofs.signature_values.SignaturesListingSignatureUnit.read_item.Goals as goal

pub returns : goal.returns
returns g c =
    untyped_item tt (signature_rule c.args.self.now.private (g.N.Form.rule c.args.self.now.name) (node_of c.args.tree.now)) c.read_signature.result c.read_signature.ensures
