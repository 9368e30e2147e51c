use Rattle.mp_typing.proofs.Basics.{◌∙◌, ap, number_of}
use Rattle.mp_typing.proofs.IndexLemmas.{looked_up}
use Rattle.mp_typing.proofs.index.Index.find.Goals as goal

pub returns : goal.returns
returns c =
    c.copied.ensures ∙ c.get.ensures.value ∙ looked_up c.args.name.now c.self.inside.first.entries
    ∙ ap (number_of c.args.name.now) c.self.view_is
