use Rattle.std.proofs.Common.{Bool, List, ap, ◌∙◌}
use Rattle.mp_checker.specs.Marked.{is_marked}
use Rattle.mp_checker.proofs.AskLemmas.{asked_more, holds_is}
use Rattle.mp_checker.proofs.asked.holds_at.Goals as goal

pub returns-clause-holds : goal.returns-clause-holds
returns-clause-holds c =
    holds_is c.args.facts.now c.atom_place.new.facts c.args.agent c.args.args.now c.args.literal.now c.in_ok-number.number c.is_marked-is_true.result c.agrees.result
    c.in_ok-number.ensures.stays c.in_ok-number.ensures.place
    (c.is_marked-is_true.ensures ∙ ap (λ (ms : List Bool). is_marked ms c.in_ok-number.number) c.as_slice.ensures.value)
    c.agrees.ensures

pub returns-clause-noted : goal.returns-clause-noted
returns-clause-noted c = λ before a.
    asked_more c.args.agent c.args.args.now before c.args.literal.now c.args.facts.now.known.keys c.atom_place.new.facts.known.keys
    c.args.places.now.needs.items c.args.places.now.against.items c.note.new.places.needs.items c.note.new.places.against.items c.in_ok-number.number
    c.in_ok-number.ensures.grows c.in_ok-number.ensures.place c.in_ok-note.ensures.needs c.in_ok-note.ensures.against a
