use Rattle.mp_typing.proofs.Basics.{◌∙◌, sym, ap, is_among}
use Rattle.mp_typing.proofs.NameSets.{among_keys}
use Rattle.mp_typing.proofs.names.NameSet.contains.Goals as goal

pub returns : goal.returns
returns c =
    c.contains.ensures ∙ sym (among_keys c.self.inside.names.keys c.args.name.now)
    ∙ ap (λ names. is_among names c.args.name.now) c.self.view_is
