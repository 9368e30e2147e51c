use Rattle.mp_factor.proofs.Basics.{node_of}
use Rattle.mp_factor.proofs.TypedLemmas.{declared_item}
use Rattle.mp_factor.proofs.typed_values.PlainListingTypedWordList.read_item.Goals as goal

pub returns : goal.returns
returns g c = declared_item c.args.self.now.private c.args.item_type.now (g.W.Form.rule c.args.self.now.word (node_of c.args.tree.now)) _ c.declared.result c.in_ok-read.ensures c.declared.ensures
