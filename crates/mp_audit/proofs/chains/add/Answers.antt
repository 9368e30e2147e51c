use Rattle.std.proofs.Common.{◌≡◌, ◌<◌, ◌+◌, ◌++◌, ◌∷◌, [], List, ℕ, length, sym, ap, subst, ◌∙◌, arith}
use Rattle.std.specs.Prelude.{slice_index, slice_set}
use Rattle.std.proofs.lemmas.List.{length_push}
use Rattle.mp_audit.specs.Chains.{place_in}
use Rattle.mp_audit.specs.States.{sized}
use Rattle.mp_audit.proofs.ChainLemmas.{one_chained}
use Rattle.mp_audit.proofs.chains.add.Goals as goal

pub place_of-place-requires : goal.place_of-place-requires
place_of-place-requires c = subst (λ (xs : List ℕ). 0 < length xs) (sym c.as_slice-last.ensures.value) c.requires

pub returns-clause-chained : goal.returns-clause-chained
returns-clause-chained c = λ tasks bounds b chained there made.
    let old = c.args.chains.now in
    let last_is = c.as_slice-last.ensures.value in
    let grown = ap length c.in_ok-push.ensures.items ∙ length_push old.before.items c.number_at-earlier.result in
    let all = c.push.new.self.ok.0 in
    let is = c.len.ensures in
    let kept = c.in_ok-number.ensures.ok in
    let next : c.in_ok-number.number ≡ length old.before.items + 1 = omega (arith, grown, all, is, kept) in
    one_chained tasks bounds b old _ (sized c.args.agent c.args.state.now) c.place_of-place.result chained there made
    (c.place_of-place.ensures.place ∙ ap (λ (xs : List ℕ). place_in (length xs) (sized c.args.agent c.args.state.now)) last_is)
    (subst (λ (xs : List ℕ). c.place_of-place.result < length xs) last_is c.place_of-place.ensures.within)
    (c.in_ok-push.ensures.items
    ∙ ap (λ (n : ℕ). old.before.items ++ n ∷ []) (c.number_at-earlier.ensures ∙ ap (λ (xs : List ℕ). slice_index xs c.place_of-place.result) last_is))
    (c.put.ensures ∙ ap (slice_set old.last.items c.place_of-place.result) next)

pub returns-clause-more : goal.returns-clause-more
returns-clause-more c = ap length c.in_ok-push.ensures.items ∙ length_push c.args.chains.now.before.items c.number_at-earlier.result
