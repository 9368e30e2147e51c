use Rattle.mp_lifting.proofs.Basics.{◌≡◌, ◌&&◌, not, map, take, filter, if◌then◌else◌, Literal, lifted_atom, is_of}
use Rattle.mp_lifting.proofs.Parts.{has_sign}
use Rattle.mp_lifting.proofs.actions.parted.Given as goal

abbrev pub invariant-loop-literal : goal.invariant-loop-literal
invariant-loop-literal l =
    l.made ≡ map (λ (t : Literal). lifted_atom l.vocabulary l.schema.params t.atom)
    (filter
    (λ (t : Literal). has_sign l.part.positive t
    && (if l.part.changed then is_of l.shown.privates l.shown.own l.shown.shown t.atom.word.name
    else not (is_of l.shown.privates l.shown.own l.shown.shown t.atom.word.name)))
    (take l.literal-index l.schema.pre))
