-- What agents show before grounding: public predicates alone, and what one agent shows is joined to itself.
use Rattle.mp_views.proofs.Basics.{◌≡◌, true, false, List, [], ◌∷◌, ◌++◌, map, sym, ap, ◌∙◌, bytes_eq, append-nil, Factor, Text, is_listed, privates_of, fact_text, changed_predicates, negated_predicates}
use Rattle.mp_views.proofs.Basics.{sorted_once}
use Rattle.std.specs.Cmp.Lexicographic.{bytes_decides}
use Rattle.std.specs.List.{filter}
use Rattle.std.proofs.lemmas.Bool.{not-true}
use Rattle.mp_list.proofs.Members.{some_member}
use Rattle.mp_typing.proofs.Passing.{taken_passes}
use Rattle.mp_views.specs.Opened.{is_public_predicate, public_predicates, public_init, open_view, joined}
use Rattle.mp_views.proofs.SortedLaws.{texts_rise, same_texts, texts_unchanged}

pub shown_is_public : (factor : Factor) (names : List Text) (q : Text) → is_listed q (public_predicates factor names) ≡ true → is_listed q (privates_of factor).predicates ≡ false
shown_is_public factor names q here =
    let left : List Text = filter (is_public_predicate factor) names in
    let found = some_member (λ n. bytes_eq q n) left (sym (same_texts left q) ∙ here) in
    let taken = taken_passes (is_public_predicate factor) names found.0 found.1 in
    not-true (is_listed q (privates_of factor).predicates) (ap (is_public_predicate factor) ((bytes_decides q found.0).0 found.2) ∙ taken.1)

twice : (texts : List Text) → sorted_once (sorted_once texts ++ []) ≡ sorted_once texts
twice texts = ap sorted_once (append-nil (sorted_once texts)) ∙ texts_unchanged (sorted_once texts) (texts_rise texts)

pub one_joined : (factor : Factor) → joined (open_view factor ∷ []) ≡ open_view factor
one_joined factor = λ i. record {
  changed = twice (filter (is_public_predicate factor) (changed_predicates factor)) i;
  negated = twice (filter (is_public_predicate factor) (negated_predicates factor)) i;
  init = twice (map fact_text (public_init factor)) i;
}
