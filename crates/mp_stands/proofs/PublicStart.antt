-- Which public facts and complements are true at the start, read off their texts.
use Rattle.std.proofs.Common.{arith, ◌≡◌, ℕ, ◌+◌, ◌-◌, Bool, true, false, not, List, [], ◌∷◌, ◌++◌, length, take, drop, All, Some, None, slice_get, if◌then◌else◌, refl, sym, ap, ◌∙◌, subst, inl, inr, map, length-append}
use Rattle.std.proofs.lemmas.Bool.{true≢false, cases_Bool}
use Rattle.std.proofs.lemmas.List.{take_all, take-append-le, take-append-drop}
use Rattle.std.proofs.lemmas.Slice.Eq.{bytes_eq-Decides}
use Rattle.std.specs.Prelude.{codes, Contains}
use Rattle.mp_forms.specs.declared.factor.Factor.{Factor}
use Rattle.mp_task.proofs.Agreeing.{Contains-slice_get}
use Rattle.mp_typing.specs.Places.{numbers_where}
use Rattle.mp_joint.specs.declared.fact.NamedFact.{NamedFact}
use Rattle.mp_joint.specs.declared.fact.SignedFact.{SignedFact}
use Rattle.mp_joint.specs.Fact.{Text, is_listed}
use Rattle.mp_joint.specs.FactorContribution.{team_of}
use Rattle.mp_joint.specs.Instance.{holds}
use Rattle.mp_joint.specs.Plan.{joint_start}
use Rattle.mp_lifting.specs.Texts.{bracketed, fact_text, signed_text}
use Rattle.mp_stands.specs.Stands.{AreTrueAtStart}
use Rattle.mp_ground_laws.specs.Checked.{IsChecked}
use Rattle.mp_grounder.specs.declared.grounded.Ground.{Ground}
use Rattle.mp_split.specs.TaskOf.{complemented, is_complement, is_true}
use Rattle.mp_split.specs.Team.{AreGrounded, open_views}
use Rattle.mp_stands.proofs.Facts.{IsTold, nobody}
use Rattle.mp_stands.proofs.TaskNumbers.{text_at, fact_at}
use Rattle.mp_stands.proofs.Places.{from_places, to_places, from_start}
use Rattle.mp_stands.proofs.Starting.{public_start}
use Rattle.mp_stands.proofs.Tables.{IsPublicOfOne, one_told, texts}
use Rattle.mp_stands.proofs.Words.{AreSpelled, complement_text, opened_once, opens_again}

-- ---- complements

-- the text of the fact whose complement it is
fact_again : (text : Text) → complemented (complement_text text) ≡ text
fact_again text =
    let long : length (text ++ 41 ∷ []) ≡ length text + 1 = length-append text (41 ∷ []) in
    let count : length (complement_text text) - 6 ≡ length text = omega (arith, long) in
    ap (λ n. take n (text ++ 41 ∷ [])) count
    ∙ take-append-le (length text) text (41 ∷ []) (omega arith) ∙ take_all (length text) text (omega arith)

-- a fact does not begin as a complement, since no second bracket is opened in its text
pub no_complement : (p : Text) (xs : List Text) → AreSpelled p xs → is_complement (bracketed (p ∷ xs)) ≡ false
no_complement p xs h =
    let text = bracketed (p ∷ xs) in
    elim (cases_Bool (is_complement text)) [
      | inl is ↦
          let whole : text ≡ codes "(not (" ++ drop 6 text =
          sym (take-append-drop 6 text) ∙ ap (λ t. t ++ drop 6 text) ((bytes_eq-Decides (take 6 text) (codes "(not (")).0 is) in
          absurd (true≢false (ap opens_again (sym whole) ∙ opened_once p xs h))
      | inr differs ↦ differs
    ]

-- ---- what is true

module _ (team : List Factor) (all : All IsChecked team) where
  -- read by a test that tells complements
  true_by : (x : SignedFact) → x.fact.owner ≡ None → IsTold x → is_complement (signed_text x) ≡ not x.positive
      → is_true (open_views team).init (signed_text x) ≡ holds (joint_start (team_of team)) x
  true_by x public told tells = by x.positive x.fact public told tells
    where
      by : (a : Bool) (f : NamedFact) → f.owner ≡ None → AreSpelled f.predicate f.args
          → is_complement (signed_text (record { positive = a; fact = f })) ≡ not a
          → is_true (open_views team).init (signed_text (record { positive = a; fact = f })) ≡ holds (joint_start (team_of team)) (record { positive = a; fact = f })
      by true f public told tells =
          ap (λ b. if b then not (is_listed (complemented (fact_text f)) (open_views team).init) else is_listed (fact_text f) (open_views team).init) tells
          ∙ public_start f team public told all
      by false f public told tells =
          let text = complement_text (fact_text f) in
          ap (λ b. if b then not (is_listed (complemented text) (open_views team).init) else is_listed text (open_views team).init) tells
          ∙ ap (λ t. not (is_listed t (open_views team).init)) (fact_again (fact_text f))
          ∙ ap not (public_start f team public told all)

  module _ (grounds : List Ground) (are : AreGrounded team grounds) (publics : List SignedFact) (same : map signed_text publics ≡ texts team grounds all are)
      (of : (x : SignedFact) → Contains publics x → IsPublicOfOne team grounds all are x) where
    told_at : (n : ℕ) (x : SignedFact) → slice_get publics n ≡ Some x → IsTold x
    told_at n x at = one_told team grounds all are x (of x (Contains-slice_get publics n x at)).counted_by

    tells : (x : SignedFact) → IsTold x → is_complement (signed_text x) ≡ not x.positive
    tells x told = by x.positive x.fact told
      where
        by : (a : Bool) (f : NamedFact) → AreSpelled f.predicate f.args → is_complement (signed_text (record { positive = a; fact = f })) ≡ not a
        by true f told = no_complement f.predicate f.args told
        by false f told = refl

    truth_at : (n : ℕ) (x : SignedFact) → slice_get publics n ≡ Some x
        → is_true (open_views team).init (signed_text x) ≡ holds (joint_start (team_of team)) x
    truth_at n x at =
        let told = told_at n x at in
        true_by x (nobody x.fact.owner (of x (Contains-slice_get publics n x at)).public) told (tells x told)

    -- the public numbers of what is true at the start
    pub public_starts : AreTrueAtStart team publics (numbers_where 0 (is_true (open_views team).init) (texts team grounds all are))
    public_starts n =
        let table = texts team grounds all are in
        let test = is_true (open_views team).init in (
          λ found.
              let p = from_places 0 test table n found in
              let here = fact_at team grounds all are publics same of p.index p.item p.at in
              let truth = truth_at p.index here.0 here.1 in
              (here.0, ap (slice_get publics) (p.is ∙ from_start p.index) ∙ here.1, sym truth ∙ ap test here.2 ∙ p.passes),
          λ h.
              subst (Contains (numbers_where 0 test table)) (from_start n)
              (to_places 0 test table n (signed_text h.0) (text_at team grounds all are publics same of n h.0 h.1) (truth_at n h.0 h.1 ∙ h.2)),
        )
