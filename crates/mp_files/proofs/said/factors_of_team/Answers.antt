use Rattle.std.proofs.Common.{◌≡◌, ◌++◌, ◌∷◌, [], ◌∙◌, Some, suc, ap, arith, drop, length, map, slice_get, sym}
use Rattle.std.proofs.lemmas.Option.{slice_get_within}
use Rattle.std.specs.Vec.Iter.{into_iter_items}
use Rattle.mp_files.specs.File.{Checks}
use Rattle.mp_files.specs.Reading.{Each, Refuses}
use Rattle.mp_files.specs.Said.{parts_of}
use Rattle.mp_files.proofs.Each.{grown, handed_on, item_left, one_refusal, one_step, others_left}
use Rattle.mp_files.proofs.said.factors_of_team.Goals as goal

pub returns-in_err-factor-clause-cause : goal.returns-in_err-factor-clause-cause
returns-in_err-factor-clause-cause c =
    let items = c.args.parts.items in
    let team = c.loop-more.team in
    let more = c.in-Some.more in
    let left : more ∷ into_iter_items c.next.new.self ≡ drop (length team) items = sym c.in-Some.ensures.steps.0 ∙ c.loop-more.invariant.left in
    let here : c.len.result ≡ length team = c.len.ensures in
    let at : slice_get items c.len.result ≡ Some more = ap (slice_get items) here ∙ item_left items (length team) more (into_iter_items c.next.new.self) left in
    handed_on c.from_residual.result c.in_err-factor.field-0.0 (Refuses (Each Checks (map parts_of items))) c.from_residual.ensures.1
    (one_refusal parts_of Checks items team c.len.result more c.in_err-factor.field-0.0 here at c.loop-more.invariant.checked c.in_err-factor.ensures.cause)

pub loop-more-preserved : goal.loop-more-preserved
loop-more-preserved c =
    let items = c.args.parts.items in
    let team = c.loop-more.team in
    let new = c.push.new.self in
    let more = c.in-Some.more in
    let factor = c.in_ok-factor.factor in
    let left : more ∷ into_iter_items c.next.new.self ≡ drop (length team) items = sym c.in-Some.ensures.steps.0 ∙ c.loop-more.invariant.left in
    let here : c.len.result ≡ length team = c.len.ensures in
    let first : slice_get items (length team) ≡ Some more = item_left items (length team) more (into_iter_items c.next.new.self) left in
    let at : slice_get items c.len.result ≡ Some more = ap (slice_get items) here ∙ first in
    let appended : new ≡ team ++ factor ∷ [] = c.in_ok-push.ensures.ok in
    let larger : length new ≡ suc (length team) = grown team new factor appended in
    record {
      next = tt;
      finite = tt;
      within = omega (arith, larger, slice_get_within items (length team) more first);
      left = others_left items (length team) more (into_iter_items c.next.new.self) left ∙ ap (λ n. drop n items) (sym larger);
      checked = one_step parts_of Checks items team new c.len.result more factor here at c.loop-more.invariant.checked c.in_ok-factor.ensures.factor appended;
    }
