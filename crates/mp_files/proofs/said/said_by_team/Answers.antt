use Rattle.std.proofs.Common.{◌≡◌, ◌++◌, ◌∷◌, [], ◌∙◌, Some, suc, ap, arith, drop, length, map, slice_get, sym}
use Rattle.std.proofs.lemmas.List.{length-map}
use Rattle.std.proofs.lemmas.Option.{slice_get_within}
use Rattle.std.specs.Vec.Iter.{into_iter_items}
use Rattle.mp_files.specs.Fetched.{texts_of}
use Rattle.mp_files.specs.Reading.{Each, Refuses}
use Rattle.mp_files.specs.Said.{parts_of}
use Rattle.mp_files.specs.Team.{Says}
use Rattle.mp_files.proofs.Each.{grown, handed_on, item_left, mapped_more, one_refusal, one_step, others_left}
use Rattle.mp_files.proofs.said.said_by_team.Goals as goal

pub returns-in_err-said-clause-cause : goal.returns-in_err-said-clause-cause
returns-in_err-said-clause-cause c =
    let items = c.args.texts.items in
    let parts = c.loop-more.parts.items in
    let more = c.in-Some.more in
    let left : more ∷ into_iter_items c.next.new.self ≡ drop (length parts) items = sym c.in-Some.ensures.steps.0 ∙ c.loop-more.invariant.left in
    let size = c.loop-more.parts.ok.0 in
    let here : length parts ≡ c.len.result = omega (arith, size, c.len.ensures) in
    let at : slice_get items c.len.result ≡ Some more = ap (slice_get items) (sym here) ∙ item_left items (length parts) more (into_iter_items c.next.new.self) left in
    handed_on c.from_residual.result c.in_err-said.field-0.0 (Refuses (Each Says (map texts_of items))) c.from_residual.ensures.1
    (one_refusal texts_of Says items (map parts_of parts) c.len.result more c.in_err-said.field-0.0 (sym here ∙ sym (length-map parts parts_of)) at c.loop-more.invariant.said c.in_err-said.ensures.cause)

pub loop-more-preserved : goal.loop-more-preserved
loop-more-preserved c =
    let items = c.args.texts.items in
    let parts = c.loop-more.parts.items in
    let new = c.push.new.items.items in
    let more = c.in-Some.more in
    let said = c.in_ok-said.said in
    let left : more ∷ into_iter_items c.next.new.self ≡ drop (length parts) items = sym c.in-Some.ensures.steps.0 ∙ c.loop-more.invariant.left in
    let size = c.loop-more.parts.ok.0 in
    let here : length parts ≡ c.len.result = omega (arith, size, c.len.ensures) in
    let first : slice_get items (length parts) ≡ Some more = item_left items (length parts) more (into_iter_items c.next.new.self) left in
    let at : slice_get items c.len.result ≡ Some more = ap (slice_get items) (sym here) ∙ first in
    let appended : new ≡ parts ++ said ∷ [] = c.in_ok-push.ensures.appended in
    let larger : length new ≡ suc (length parts) = grown parts new said appended in
    record {
      next = tt;
      finite = tt;
      within = omega (arith, larger, slice_get_within items (length parts) more first);
      left = others_left items (length parts) more (into_iter_items c.next.new.self) left ∙ ap (λ n. drop n items) (sym larger);
      said = one_step texts_of Says items (map parts_of parts) (map parts_of new) c.len.result more (parts_of said)
          (sym here ∙ sym (length-map parts parts_of)) at c.loop-more.invariant.said c.in_ok-said.ensures.said (mapped_more parts_of parts new said appended);
    }
