use Rattle.std.proofs.Common.{◌≡◌, ◌++◌, ◌∷◌, [], ◌∙◌, All, Some, suc, ap, arith, drop, length, map, slice_get, subst, sym}
use Rattle.std.proofs.lemmas.List.{length-map}
use Rattle.std.proofs.lemmas.List.Elements.{All-append, All-cons, All-nil}
use Rattle.std.proofs.lemmas.Option.{slice_get_within}
use Rattle.std.specs.Vec.Iter.{into_iter_items}
use Rattle.mp_files.specs.Fetched.{IsShort, texts_of}
use Rattle.mp_files.specs.Reading.{Each, Refuses}
use Rattle.mp_files.specs.Team.{MeasuresTwo}
use Rattle.mp_files.proofs.Each.{grown, handed_on, item_left, mapped_more, one_refusal, one_step, others_left}
use Rattle.mp_files.proofs.measured.measured.Goals as goal

pub returns-in_err-fitting-clause-cause : goal.returns-in_err-fitting-clause-cause
returns-in_err-fitting-clause-cause c =
    let items = c.args.texts.items in
    let measured = c.loop-more.measured.items in
    let more = c.in-Some.more in
    let left : more ∷ into_iter_items c.next.new.self ≡ drop (length measured) items = sym c.in-Some.ensures.steps.0 ∙ c.loop-more.invariant.left in
    let size = c.loop-more.measured.ok.0 in
    let here : length measured ≡ c.len.result = omega (arith, size, c.len.ensures) in
    let at : slice_get items c.len.result ≡ Some more = ap (slice_get items) (sym here) ∙ item_left items (length measured) more (into_iter_items c.next.new.self) left in
    handed_on c.from_residual.result c.in_err-fitting.field-0.0 (Refuses (Each MeasuresTwo (map texts_of items))) c.from_residual.ensures.1
    (one_refusal texts_of MeasuresTwo items (map texts_of measured) c.len.result more c.in_err-fitting.field-0.0 (sym here ∙ sym (length-map measured texts_of)) at c.loop-more.invariant.fits c.in_err-fitting.ensures.cause)

pub loop-more-preserved : goal.loop-more-preserved
loop-more-preserved c =
    let items = c.args.texts.items in
    let measured = c.loop-more.measured.items in
    let new = c.push.new.items.items in
    let more = c.in-Some.more in
    let fitting = c.in_ok-fitting.fitting in
    let left : more ∷ into_iter_items c.next.new.self ≡ drop (length measured) items = sym c.in-Some.ensures.steps.0 ∙ c.loop-more.invariant.left in
    let size = c.loop-more.measured.ok.0 in
    let here : length measured ≡ c.len.result = omega (arith, size, c.len.ensures) in
    let first : slice_get items (length measured) ≡ Some more = item_left items (length measured) more (into_iter_items c.next.new.self) left in
    let at : slice_get items c.len.result ≡ Some more = ap (slice_get items) (sym here) ∙ first in
    let appended : new ≡ measured ++ fitting ∷ [] = c.in_ok-push.ensures.appended in
    let larger : length new ≡ suc (length measured) = grown measured new fitting appended in
    record {
      next = tt;
      finite = tt;
      within = omega (arith, larger, slice_get_within items (length measured) more first);
      left = others_left items (length measured) more (into_iter_items c.next.new.self) left ∙ ap (λ n. drop n items) (sym larger);
      fits = one_step texts_of MeasuresTwo items (map texts_of measured) (map texts_of new) c.len.result more (texts_of fitting)
          (sym here ∙ sym (length-map measured texts_of)) at c.loop-more.invariant.fits c.in_ok-fitting.ensures.texts (mapped_more texts_of measured new fitting appended);
      short = subst (All (λ t. IsShort (texts_of t))) (sym appended) (All-append (λ t. IsShort (texts_of t)) measured (fitting ∷ []) c.loop-more.invariant.short (All-cons (λ t. IsShort (texts_of t)) fitting [] c.in_ok-fitting.ensures.short (All-nil (λ t. IsShort (texts_of t)))));
    }
