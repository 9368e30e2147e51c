use Rattle.std.proofs.Common.{◌≡◌, ◌||◌, ◌&&◌, not, List, ℕ, map, sym, ap, subst, ◌∙◌}
use Rattle.mp_checker.specs.At.{fact_at, is_one_of}
use Rattle.mp_checker.specs.Places.{ArePlaces, HasGrown}
use Rattle.mp_checker.proofs.MarkLemmas.{stayed_again}
use Rattle.mp_checker.proofs.PlaceLemmas.{grown_again, places_stay}
use Rattle.mp_checker.proofs.changes.change.Goals as goal

pub returns-clause-changed : goal.returns-clause-changed
returns-clause-changed c = λ f.
    let agent = c.args.agent in
    let first = c.atom_places.new.facts.known.keys in
    let second = c.atom_places-2.new.facts.known.keys in
    let args : c.as_slice-args.result.now ≡ c.args.room.now.args.items = c.as_slice-args.ensures.value in
    let add : c.as_slice.result.now ≡ c.args.action.now.add = c.as_slice.ensures in
    let del : c.as_slice-2.result.now ≡ c.args.action.now.del = c.as_slice-2.ensures in
    let set = map (fact_at agent c.args.room.now.args.items) c.args.action.now.add in
    let cleared = map (fact_at agent c.args.room.now.args.items) c.args.action.now.del in
    let dels : ArePlaces second cleared c.atom_places-2.new.made.items =
    subst (λ t. t) (λ i. ArePlaces second (map (fact_at agent (args i)) (del i)) c.atom_places-2.new.made.items) c.in_ok-atom_places-2.ensures.places in
    let adds : ArePlaces second set c.atom_places.new.made.items =
    places_stay first second set c.atom_places.new.made.items c.in_ok-atom_places-2.ensures.grows
    (subst (λ t. t) (λ i. ArePlaces first (map (fact_at agent (args i)) (add i)) c.atom_places.new.made.items) c.in_ok-atom_places.ensures.places) in
    c.in_ok-mark_changes.ensures.changed cleared set
    (subst (λ (ns : List ℕ). ArePlaces second cleared ns) (sym c.as_slice-3.ensures.value) dels)
    (subst (λ (ns : List ℕ). ArePlaces second set ns) (sym c.as_slice-4.ensures.value) adds) f
    ∙ ap (λ b. is_one_of set f || (b && not (is_one_of cleared f)))
    (stayed_again c.args.facts.now c.atom_places.new.facts c.atom_places-2.new.facts c.in_ok-atom_places.ensures.stays c.in_ok-atom_places-2.ensures.stays f)

pub returns-clause-grows : goal.returns-clause-grows
returns-clause-grows c =
    let start = c.args.facts.now.known.keys in
    let first = c.atom_places.new.facts.known.keys in
    let second = c.atom_places-2.new.facts.known.keys in
    subst (HasGrown start) (sym c.in_ok-mark_changes.ensures.known)
    (grown_again start first second c.in_ok-atom_places.ensures.grows c.in_ok-atom_places-2.ensures.grows)

pub returns-clause-adds : goal.returns-clause-adds
returns-clause-adds c =
    let agent = c.args.agent in
    let first = c.atom_places.new.facts.known.keys in
    let second = c.atom_places-2.new.facts.known.keys in
    let made = c.atom_places.new.made.items in
    let args : c.as_slice-args.result.now ≡ c.args.room.now.args.items = c.as_slice-args.ensures.value in
    let add : c.as_slice.result.now ≡ c.args.action.now.add = c.as_slice.ensures in
    let set = map (fact_at agent c.args.room.now.args.items) c.args.action.now.add in
    subst (λ ks. ArePlaces ks set made) (sym c.in_ok-mark_changes.ensures.known)
    (places_stay first second set made c.in_ok-atom_places-2.ensures.grows
    (subst (λ t. t) (λ i. ArePlaces first (map (fact_at agent (args i)) (add i)) made) c.in_ok-atom_places.ensures.places))

pub returns-clause-dels : goal.returns-clause-dels
returns-clause-dels c =
    let agent = c.args.agent in
    let second = c.atom_places-2.new.facts.known.keys in
    let made = c.atom_places-2.new.made.items in
    let args : c.as_slice-args.result.now ≡ c.args.room.now.args.items = c.as_slice-args.ensures.value in
    let del : c.as_slice-2.result.now ≡ c.args.action.now.del = c.as_slice-2.ensures in
    let cleared = map (fact_at agent c.args.room.now.args.items) c.args.action.now.del in
    subst (λ ks. ArePlaces ks cleared made) (sym c.in_ok-mark_changes.ensures.known)
    (subst (λ t. t) (λ i. ArePlaces second (map (fact_at agent (args i)) (del i)) made) c.in_ok-atom_places-2.ensures.places)
