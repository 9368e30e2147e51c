use Rattle.std.proofs.Common.{◌≡◌, not, ap, ◌∙◌}
use Rattle.mp_sets.specs.Numbers.{SizedSet}
use Rattle.mp_certify.specs.declared.key.StateKey.{StateKey}
use Rattle.mp_certify.specs.Keys.{state_of_key, HasKeySizes}
use Rattle.mp_certify.proofs.KeyLemmas.{one_more, there}
use Rattle.mp_certify.proofs.key.is_new.Goals as goal

pub returns : goal.returns
returns c = λ e later is keys.
    let x = c.args.shown.now in
    let publics : c.reborrow.result ≡ x.publics = c.reborrow.ensures in
    let mine : c.reborrow-2.result ≡ x.mine = c.reborrow-2.ensures in
    let key : StateKey = record { publics = c.reborrow.result; mine = c.reborrow-2.result; tags = x.tags } in
    let sizes : HasKeySizes x.publics.size x.mine.size key = record {
      publics_size = ap (λ (s : SizedSet). s.size) publics;
      privates_size = ap (λ (s : SizedSet). s.size) mine;
    } in
    let state : state_of_key key ≡ e.key = λ j. record {
      publics = (ap (λ (s : SizedSet). s.members) publics ∙ is.publics) j;
      mine = (ap (λ (s : SizedSet). s.members) mine ∙ is.mine) j;
      tags = is.tags j;
    } in (
      c.in_ok-fresh.ensures.added ∙ ap not (there x.publics.size x.mine.size later c.args.met.now.keys c.insert.new.self.keys keys key sizes e state),
      one_more x.publics.size x.mine.size later c.args.met.now.keys c.insert.new.self.keys keys key sizes e state c.in_ok-fresh.ensures.updates.0,
    )
