use Rattle.std.proofs.Common.{[], sym, subst}
use Rattle.mp_checker.specs.Places.{ArePlaces}
use Rattle.mp_checker.proofs.MarkLemmas.{stayed_none, stayed_again}
use Rattle.mp_checker.proofs.PlaceLemmas.{grown_none, grown_again, no_places, atom_more, atoms_all}
use Rattle.mp_checker.proofs.places.atom_places.Goals as goal

pub loop-atom-init : goal.loop-atom-init
loop-atom-init c = (
  grown_none c.args.facts.now.known.keys,
  stayed_none c.args.facts.now,
  subst (ArePlaces c.args.facts.now.known.keys []) (sym c.clear.ensures.items) (no_places c.args.facts.now.known.keys),
)

pub loop-atom-preserved : goal.loop-atom-preserved
loop-atom-preserved c =
    let l = c.loop-atom in
    let new = c.atom_place.new.facts in (
      grown_again c.args.facts.now.known.keys l.facts.known.keys new.known.keys l.invariant.0 c.in_ok-atom_place.ensures.grows,
      stayed_again c.args.facts.now l.facts new l.invariant.1 c.in_ok-atom_place.ensures.stays,
      subst (ArePlaces new.known.keys _) (sym c.in_ok-push.ensures.items)
          (atom_more c.args.agent c.args.args.now c.args.atoms.now l.atom-index c.atom-item.result l.facts.known.keys new.known.keys l.made.items c.in_ok-atom_place.field-0
          c.loop-atom-test.true c.atom-item.is c.in_ok-atom_place.ensures.grows l.invariant.2 c.in_ok-atom_place.ensures.place),
    )

pub returns-clause-grows : goal.returns-clause-grows
returns-clause-grows c = c.loop-atom.invariant.0

pub returns-clause-stays : goal.returns-clause-stays
returns-clause-stays c = c.loop-atom.invariant.1

pub returns-clause-places : goal.returns-clause-places
returns-clause-places c =
    let l = c.loop-atom in
    atoms_all c.args.agent c.args.args.now c.args.atoms.now l.atom-index l.facts.known.keys l.made.items c.loop-atom-test.false l.invariant.2
