use Rattle.std.proofs.Common.{ap, eqb, subst, sym, ◌∙◌, arith}
use Rattle.std.proofs.lemmas.List.{get_or_read}
use Rattle.mp_pdb.specs.Masks.{Shows}
use Rattle.mp_pdb.specs.Pattern.{is_in}
use Rattle.mp_pdb.proofs.MaskLemmas.{is_in_turned, shows_any}
use Rattle.mp_pdb.proofs.pattern.Pattern.has.Goals as goal

pub returns : goal.returns
returns c =
    let facts = c.self.inside.facts.items in
    let same_size = ap (λ s. s.size) c.self.view_is in
    let read = get_or_read c.self.inside.places.items c.args.fact _ (omega arith) c.index.ensures 0 in
    shows_any facts (λ y. eqb c.args.fact y) c.index.result.now (subst (Shows facts (λ y. eqb c.args.fact y)) (sym read) (c.self.invariant.shown c.args.fact (omega arith)))
    ∙ is_in_turned c.args.fact facts
    ∙ ap (λ s. is_in s.facts c.args.fact) c.self.view_is
