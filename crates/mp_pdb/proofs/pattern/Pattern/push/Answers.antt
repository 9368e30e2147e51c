use Rattle.std.proofs.Common.{◌*◌, ◌%◌, ◌^◌, ◌<◌, ◌++◌, ◌∷◌, [], length, ap, sym, subst, ◌∙◌, arith}
use Rattle.std.proofs.Math.ListN.{set as set_at}
use Rattle.std.proofs.lemmas.List.{get_or_read}
use Rattle.std.specs.Prelude.{bit_or}
use Rattle.mp_pdb.specs.Masks.{ArePlaces}
use Rattle.mp_pdb.proofs.MaskLemmas.{more_places}
use Rattle.mp_pdb.proofs.pattern.Pattern.push.Goals as goal

pub invariant_of-self-2 : goal.invariant_of-self-2
invariant_of-self-2 c =
    let facts = c.self.inside.facts.items in
    let places = c.self.inside.places.items in
    let word = c.index_mut.result.now in
    let same_size = ap (λ s. s.size) c.self.view_is in
    let same_facts = ap (λ s. length s.facts) c.self.view_is in
    let long = c.self.inside.facts.ok.0 in
    let below = c.requires.below in
    let room = c.requires.room in
    let within : c.args.fact < length places = omega arith in
    subst (λ fs. ArePlaces fs (set_at places c.args.fact (bit_or word (1 * 2 ^ c.len-place.result % 2 ^ 16)))) (sym c.in_ok-push.ensures.items)
    (subst (λ n. ArePlaces (facts ++ c.args.fact ∷ []) (set_at places c.args.fact (bit_or word (1 * 2 ^ n % 2 ^ 16)))) (sym (c.len-place.ensures ∙ long))
    (more_places facts places c.args.fact word c.self.invariant within (omega arith)
    (get_or_read places c.args.fact _ within c.index_mut.ensures.value 0)))
