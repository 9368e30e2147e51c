use Rattle.mp_typing.proofs.Basics.{◌++◌, ◌+◌, ◌∙◌, ℕ, List, refl, ap, items_of, listed_by, places_of}
use Rattle.mp_typing.proofs.ByTypeLemmas.{object_more}
use Rattle.mp_typing.proofs.hierarchy.objects_by_type.Goals as goal

pub loop-object-init : goal.loop-object-init
unfolding places_of
loop-object-init c =
    record {
      counted = refl;
      listed = λ name. ap (λ (es : List (List ℕ × List ℕ)). items_of es name) c.new-listed.ensures.empty;
    }

pub loop-object-preserved : goal.loop-object-preserved
loop-object-preserved c =
    let l = c.loop-object in
    let o = c.object-item.result in
    record {
      counted = ap (λ (n : ℕ). n + 1) l.invariant.counted;
      listed = λ name.
          c.in_ok-add_to_each.ensures name
          ∙ ap (λ (ps : List ℕ). ps ++ listed_by l.place o.now.types name) (l.invariant.listed name)
          ∙ object_more c.args.objects.now l.object-index l.place o name c.loop-object-test.true c.object-item.is l.invariant.counted;
    }
