-- Facts in numbers are the same where the facts by names are, if the names of one are known.
use Rattle.std.proofs.Common.{◌≡◌, ℕ, true, false, ◌||◌, eqb, List, [], ◌∷◌, map, length, get_or, Option, Some, None, refl, sym, ap, ◌∙◌, arith, inl, inr, drop}
use Rattle.std.specs.Bool.{Decides}
use Rattle.std.specs.Cmp.{unsigned_Decides}
use Rattle.std.specs.Cmp.Lexicographic.{pointwise}
use Rattle.std.specs.Option.{option_eq, option_map_or, is_some}
use Rattle.std.specs.Str.{bytes_eq}
use Rattle.std.proofs.lemmas.Bool.{false≢true, cases_Bool}
use Rattle.std.proofs.lemmas.Bool.Decides.{Decides-and, Decides-like}
use Rattle.std.proofs.lemmas.Slice.Eq.{bytes_eq-Decides, slice_eq-Decides}
use Rattle.mp_list.proofs.Bools.{same_tests}
use Rattle.mp_sexp.specs.Numbers.{is_named, name_at, number_in, place_in}
use Rattle.mp_sexp.proofs.NamesAt.{name_at_number, number_below}
use Rattle.mp_sexp.proofs.Places.{has_place}
use Rattle.mp_joint.specs.declared.fact.NamedFact.{NamedFact}
use Rattle.mp_joint.specs.Fact.{Text, same_owner, same_fact, is_among}
use Rattle.mp_checker.specs.declared.fact.FactNumbers.{FactNumbers}
use Rattle.mp_checker.specs.AgentView.{AreKnown}
use Rattle.mp_checker.specs.At.{is_one_of, numbers_of}
use Rattle.mp_checker.specs.Keys.{same_numbers}

-- ---- what the tests of facts decide

Decides-optional : (o p : Option ℕ) → Decides (option_eq eqb o p) (o ≡ p)
Decides-optional None None = (λ e. refl, λ e. refl)
Decides-optional None (Some n) = (λ e. absurd (false≢true e), λ e. absurd cc)
Decides-optional (Some m) None = (λ e. absurd (false≢true e), λ e. absurd cc)
Decides-optional (Some m) (Some n) = Decides-like (eqb m n) (ap Some) (λ e. cc) (unsigned_Decides m n)

pub Decides-numbers : (f g : FactNumbers) → Decides (same_numbers f g) (f ≡ g)
Decides-numbers f g =
    Decides-like _
    (λ all j. record { owner = all.0 j; symbol = all.1.0 j; objects = all.1.1 j })
    (λ e. (ap (λ (x : FactNumbers). x.owner) e, (ap (λ (x : FactNumbers). x.symbol) e, ap (λ (x : FactNumbers). x.objects) e)))
    (Decides-and _ _ (Decides-optional f.owner g.owner)
    (Decides-and _ _ (unsigned_Decides f.symbol g.symbol)
    (slice_eq-Decides unsigned_Decides f.objects g.objects (pointwise eqb f.objects g.objects) refl)))

Decides-owner : (o p : Option ℕ) → Decides (same_owner o p) (o ≡ p)
Decides-owner None None = (λ e. refl, λ e. refl)
Decides-owner None (Some n) = (λ e. absurd (false≢true e), λ e. absurd cc)
Decides-owner (Some m) None = (λ e. absurd (false≢true e), λ e. absurd cc)
Decides-owner (Some m) (Some n) = Decides-like (eqb m n) (ap Some) (λ e. cc) (unsigned_Decides m n)

pub Decides-fact : (f g : NamedFact) → Decides (same_fact f g) (f ≡ g)
Decides-fact f g =
    Decides-like _
    (λ all j. record { owner = all.0 j; predicate = all.1.0 j; args = all.1.1 j })
    (λ e. (ap (λ (x : NamedFact). x.owner) e, (ap (λ (x : NamedFact). x.predicate) e, ap (λ (x : NamedFact). x.args) e)))
    (Decides-and _ _ (Decides-owner f.owner g.owner)
    (Decides-and _ _ (bytes_eq-Decides f.predicate g.predicate)
    (slice_eq-Decides bytes_eq-Decides f.args g.args (pointwise bytes_eq f.args g.args) refl)))

-- ---- names of one number

none_of : (o : Option ℕ) → is_some o ≡ false → o ≡ None
none_of None h = refl
none_of (Some n) h = cc

unknown : (names : List Text) (a : Text) → is_named names a ≡ false → number_in names a ≡ length names
unfolding number_in
unknown names a h =
    ap (λ o. option_map_or (λ place. place) o (length names)) (none_of (place_in names a) (has_place a 0 names ∙ h))

pub same_name : (names : List Text) (a b : Text) → is_named names b ≡ true → number_in names a ≡ number_in names b → a ≡ b
same_name names a b known e =
    elim (cases_Bool (is_named names a)) [
      | inl there ↦ sym (name_at_number names a there) ∙ ap (name_at names) e ∙ name_at_number names b known
      | inr absent ↦
          let below = number_below names b known in
          let none = unknown names a absent in
          absurd (omega (arith, below, none, e))
    ]

same_names : (names xs ys : List Text) → AreKnown names ys → map (number_in names) xs ≡ map (number_in names) ys → xs ≡ ys
same_names names [] [] known e = refl
same_names names [] (y ∷ ys) known e = absurd (cc)
same_names names (x ∷ xs) [] known e = absurd (cc)
same_names names (x ∷ xs) (y ∷ ys) known e =
    let head : number_in names x ≡ number_in names y = ap (λ ns. get_or ns 0 0) e in
    let tail : map (number_in names) xs ≡ map (number_in names) ys = ap (drop 1) e in
    λ i. same_name names x y known.0 head i ∷ same_names names xs ys known.1 tail i

pub record IsKnown (names : List Text) (f : NamedFact) : Type 0 where
  pub predicate : is_named names f.predicate ≡ true
  pub args : AreKnown names f.args

pub same_known : (names : List Text) (f g : NamedFact) → IsKnown names g → numbers_of names f ≡ numbers_of names g → f ≡ g
same_known names f g known e =
    let owners : f.owner ≡ g.owner = ap (λ (x : FactNumbers). x.owner) e in
    let predicates = same_name names f.predicate g.predicate known.predicate (ap (λ (x : FactNumbers). x.symbol) e) in
    let args = same_names names f.args g.args known.args (ap (λ (x : FactNumbers). x.objects) e) in
    λ i. record { owner = owners i; predicate = predicates i; args = args i }

-- the known one in front
pub same_as_named : (names : List Text) (f g : NamedFact) → IsKnown names g
    → same_numbers (numbers_of names g) (numbers_of names f) ≡ same_fact f g
same_as_named names f g known =
    same_tests (same_numbers (numbers_of names g) (numbers_of names f)) (same_fact f g)
    (λ h. (Decides-fact f g).1 (same_known names f g known (sym ((Decides-numbers (numbers_of names g) (numbers_of names f)).0 h))))
    (λ h. (Decides-numbers (numbers_of names g) (numbers_of names f)).1 (ap (numbers_of names) (sym ((Decides-fact f g).0 h))))

-- the same, with the known one in front in both
pub same_as_value : (names : List Text) (f g : NamedFact) → IsKnown names g
    → same_numbers (numbers_of names g) (numbers_of names f) ≡ same_fact g f
same_as_value names f g known =
    same_tests (same_numbers (numbers_of names g) (numbers_of names f)) (same_fact g f)
    (λ h. (Decides-fact g f).1 (sym (same_known names f g known (sym ((Decides-numbers (numbers_of names g) (numbers_of names f)).0 h)))))
    (λ h. (Decides-numbers (numbers_of names g) (numbers_of names f)).1 (ap (numbers_of names) ((Decides-fact g f).0 h)))

-- all facts are known
abbrev pub AreKnownFacts : List Text → List NamedFact → Type 0
AreKnownFacts names [] = Unit {0}
AreKnownFacts names (f ∷ fs) = IsKnown names f × AreKnownFacts names fs

pub one_of_named : (names : List Text) (f : NamedFact) (gs : List NamedFact) → AreKnownFacts names gs
    → is_one_of (map (numbers_of names) gs) (numbers_of names f) ≡ is_among f gs
one_of_named names f [] known = refl
one_of_named names f (g ∷ gs) known = λ i. same_as_named names f g known.0 i || one_of_named names f gs known.1 i
