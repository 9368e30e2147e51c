-- Of two factors that are the same in numbers, the same atoms are in range, the same are private, and the same are true
-- at the start. The texts of public atoms are the same.
use Rattle.std.proofs.Common.{◌≡◌, ℕ, ◌<◌, Bool, true, false, List, [], ◌∷◌, map, length, All, Some, slice_get, if◌then◌else◌, refl, sym, ap, ◌∙◌, subst}
use Rattle.std.proofs.lemmas.Bool.{or_parts}
use Rattle.std.proofs.lemmas.List.{length-map}
use Rattle.std.proofs.lemmas.List.Elements.{All-head, All-tail}
use Rattle.std.proofs.lemmas.Option.{slice_get-get_or}
use Rattle.std.specs.List.{list_any}
use Rattle.mp_forms.specs.declared.factor.Factor.{Factor}
use Rattle.mp_sexp.specs.Numbers.{name_at}
use Rattle.mp_joint.specs.Fact.{Text, is_listed}
use Rattle.mp_joint.specs.FactorContribution.{privates_of}
use Rattle.mp_lifted.specs.declared.lifted.GroundAtom.{GroundAtom}
use Rattle.mp_lifted.specs.declared.lifted.LiftedFactor.{LiftedFactor}
use Rattle.mp_lifting.specs.declared.view.OpenView.{OpenView}
use Rattle.mp_lifting.specs.Factors.{lifted_factor}
use Rattle.mp_lifting.specs.Texts.{bracketed, fact_text}
use Rattle.mp_lifting.specs.Vocabulary.{vocabulary_of}
use Rattle.mp_lifted.specs.Atoms.{is_among}
use Rattle.mp_lifted.specs.Start.{is_so, is_private, is_true_at_start}
use Rattle.mp_ground_laws.specs.Checked.{IsChecked}
use Rattle.mp_ground_laws.specs.Named.{named_objects}
use Rattle.mp_ground_laws.specs.Numbered.{named_fact, IsObject, IsInRange}
use Rattle.mp_ground_laws.proofs.Parts.{parts_of}
use Rattle.mp_ground_laws.proofs.Texts.{known_texts}
use Rattle.mp_stands.specs.Translation.{AreAlike}

-- a flag that is false stands there
flag_there : (test : Text → Bool) (names : List Text) (n : ℕ) → n < length names → is_so (map test names) n ≡ false
    → slice_get (map test names) n ≡ Some false
flag_there test names n less h =
    slice_get-get_or (map test names) n false (subst (λ count. n < count) (sym (length-map names test)) less)
    ∙ ap Some h

-- where two lists of facts are the same but for those that are not asked for
by_kind : (a : GroundAtom) (private' : Bool) (own shown others : List GroundAtom)
    → (private' ≡ false → is_among a shown ≡ is_among a others)
    → is_among a (if private' then own else shown) ≡ is_among a (if private' then own else others)
by_kind a true own shown others same = refl
by_kind a false own shown others same = same refl

-- an atom stands for the same names in both
pub record HasSameNames (f g : Factor) (a : GroundAtom) : Type 0 where
  pub predicate : name_at (vocabulary_of g).predicates a.symbol ≡ name_at (vocabulary_of f).predicates a.symbol
  pub args : named_objects g a.args ≡ named_objects f a.args

-- a factor in numbers, with the initial facts that others show as the other factor can name them
abbrev pub with_known : OpenView → Factor → Factor → LiftedFactor
with_known view f g = record (lifted_factor f view) { known = (lifted_factor g view).known }

module _ (view : OpenView) (f g : Factor) (alike : AreAlike view f g) where
  -- ---- numbers in range

  predicate_count : length (vocabulary_of g).predicates ≡ length (vocabulary_of f).predicates
  predicate_count =
      sym (length-map (vocabulary_of g).predicates (λ p. is_listed p (privates_of g).predicates))
      ∙ ap (λ (lifted : LiftedFactor). length lifted.private_predicates) alike.lifted
      ∙ length-map (vocabulary_of f).predicates (λ p. is_listed p (privates_of f).predicates)

  object_count : length (vocabulary_of g).objects ≡ length (vocabulary_of f).objects
  object_count =
      sym (length-map (vocabulary_of g).objects (λ o. is_listed o (privates_of g).objects))
      ∙ ap (λ (lifted : LiftedFactor). length lifted.private_objects) alike.lifted
      ∙ length-map (vocabulary_of f).objects (λ o. is_listed o (privates_of f).objects)

  pub range_of_both : (a : GroundAtom) → IsInRange f a → IsInRange g a
  range_of_both a h = record {
    symbol = subst (λ count. a.symbol < count) (sym predicate_count) h.symbol;
    args = subst (λ count. All (λ n. n < count) a.args) (sym object_count) h.args;
  }

  -- ---- private atoms, and the names of public ones

  pub same_privacy : (a : GroundAtom) → is_private (lifted_factor g view) a ≡ is_private (lifted_factor f view) a
  same_privacy a = ap (λ lifted. is_private lifted a) alike.lifted

  public_args : (ns : List ℕ) → All (IsObject f) ns → list_any (is_so (lifted_factor f view).private_objects) ns ≡ false
      → named_objects g ns ≡ named_objects f ns
  public_args [] range h = refl
  public_args (n ∷ ns) range h =
      let flags = (lifted_factor f view).private_objects in
      let parts = or_parts (is_so flags n) (list_any (is_so flags) ns) h in
      let there =
      flag_there (λ o. is_listed o (privates_of f).objects) (vocabulary_of f).objects n
      (All-head (IsObject f) n ns range) parts.0 in
      λ i. alike.public_objects n there i ∷ public_args ns (All-tail (IsObject f) n ns range) parts.1 i

  pub public_names : (a : GroundAtom) → IsInRange f a → is_private (lifted_factor f view) a ≡ false → HasSameNames f g a
  public_names a range h =
      let lifted = lifted_factor f view in
      let parts =
      or_parts (is_so lifted.private_predicates a.symbol) (list_any (is_so lifted.private_objects) a.args) h in
      let there =
      flag_there (λ p. is_listed p (privates_of f).predicates) (vocabulary_of f).predicates a.symbol
      range.symbol parts.0 in
      record {
        predicate = alike.public_predicates a.symbol there;
        args = public_args a.args range.args parts.1;
      }

  -- ---- the start

  module _ (of_f : IsChecked f) (of_g : IsChecked g) where
    -- a public atom that others show is known to both or to none
    shown_of_both : (a : GroundAtom) → IsInRange f a → is_private (lifted_factor f view) a ≡ false
        → is_among a (lifted_factor g view).known ≡ is_among a (lifted_factor f view).known
    shown_of_both a range h =
        let names = public_names a range h in
        let text : fact_text (named_fact 0 g a) ≡ fact_text (named_fact 0 f a) =
        λ i. bracketed (names.predicate i ∷ names.args i) in
        known_texts 0 g a view.init of_g (parts_of g of_g.no_fault) (range_of_both a range)
        ∙ ap (λ t. is_listed t view.init) text
        ∙ sym (known_texts 0 f a view.init of_f (parts_of f of_f.no_fault) range)

    pub same_with_known : (a : GroundAtom) → IsInRange f a
        → is_true_at_start (with_known view f g) a ≡ is_true_at_start (lifted_factor f view) a
    same_with_known a range =
        by_kind a (is_private (lifted_factor f view) a)
        (lifted_factor f view).init (lifted_factor g view).known (lifted_factor f view).known (shown_of_both a range)

    pub same_start : (a : GroundAtom) → IsInRange f a
        → is_true_at_start (lifted_factor g view) a ≡ is_true_at_start (lifted_factor f view) a
    same_start a range = ap (λ lifted. is_true_at_start lifted a) alike.lifted ∙ same_with_known a range
