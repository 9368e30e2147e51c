use Rattle.mp_split.proofs.Basics.{◌≡◌, List, ap, map, subst, ◌∙◌, IfOk-weaker, text_places_in, Act, ArePlaces, act_at, act_in}
use Rattle.mp_split.proofs.InPlace.{acts_stay}
use Rattle.mp_split.proofs.OneTask.{acts_fit, acts_same}
use Rattle.mp_split.proofs.task.own_acts.Goals as goal

pub returns-then-are_places : goal.returns-then-are_places
returns-then-are_places c =
    let table = c.args.table.now in
    let own = c.args.publics.now in
    let are = c.in_ok-numbers.ensures ∙ ap (text_places_in table) c.as_slice.ensures in
    let numbers = c.in_ok-numbers.numbers in
    acts_stay numbers (subst ArePlaces c.as_slice-2.ensures.numbers (c.are_places.ensures c.if-are_places.true)) c.args.privates c.args.acts
    (acts_fit table own numbers c.requires.rise c.requires.publics are c.args.privates c.args.acts c.requires.fits)
    ∙ acts_same table own numbers c.requires.rise c.requires.publics are c.args.privates c.args.acts c.requires.rises c.requires.fits

pub renumbered-requires : goal.renumbered-requires
renumbered-requires c =
    let table = c.args.table.now in
    let are = c.in_ok-numbers.ensures ∙ ap (text_places_in table) c.as_slice.ensures in
    acts_fit table c.args.publics.now c.in_ok-numbers.numbers c.requires.rise c.requires.publics are c.args.privates c.args.acts c.requires.fits

pub returns : goal.returns
returns c =
    let table = c.args.table.now in
    let own = c.args.publics.now in
    let numbers = c.in_ok-numbers.numbers in
    let same = acts_same table own numbers c.requires.rise c.requires.publics (c.in_ok-numbers.ensures ∙ ap (text_places_in table) c.as_slice.ensures)
    c.args.privates c.args.acts c.requires.rises c.requires.fits in
    IfOk-weaker c.renumbered.result (λ (acts : List Act). acts ≡ map (act_at numbers) c.args.acts)
    (λ (acts : List Act). acts ≡ map (act_in table own) c.args.acts) (λ acts is. is ∙ same) c.renumbered.ensures
