-- Numbers that stand for facts and complements: which are named, and whether all of them are true.
use Rattle.std.proofs.Common.{◌≡◌, ℕ, List, Bool, ◌&&◌, eqb, inl, inr, sym, ◌∙◌, subst, Option, Some}
use Rattle.std.proofs.lemmas.Bool.{and_parts, and_from}
use Rattle.std.proofs.lemmas.Option.{same_Some}
use Rattle.std.specs.FinSet as set
use Rattle.std.specs.List.{list_any, list_all}
use Rattle.std.specs.Prelude.{Contains, Decides, slice_get}
use Rattle.mp_list.proofs.Bools.{same_tests}
use Rattle.mp_list.proofs.Members.{all_at}
use Rattle.mp_task.proofs.Agreeing.{Contains-slice_get}
use Rattle.mp_sets.specs.Numbers.{Numbers, holds}
use Rattle.mp_forms.specs.declared.factor.Factor.{Factor}
use Rattle.mp_joint.specs.declared.fact.SignedFact.{SignedFact}
use Rattle.mp_stands.specs.Numbering.{AreNumbersOf}
use Rattle.mp_stands.specs.Stands.{AreCounted}
use Rattle.mp_stands.proofs.MemberLists.{Decides-number, all_from, one_place}

-- a set has the numbers of what passes a test
pub record Fits (table : List SignedFact) (numbers : Numbers) (test : SignedFact → Bool) : Type 0 where
  pub each : (n : ℕ) (x : SignedFact) → slice_get table n ≡ Some x → set.contains numbers n ≡ test x

pub swapped : (publics privates facts : List SignedFact) (ps qs : List ℕ) → AreNumbersOf publics privates facts ps qs → AreNumbersOf privates publics facts qs ps
swapped publics privates facts ps qs are = record {
  each = λ x here. elim (are.each x here) [ inl public ↦ inr public | inr private ↦ inl private ];
  only_public = are.only_private;
  only_private = are.only_public;
}

-- a number of a table is named exactly where it stands for one of the facts
pub Decides-named : (team : List Factor) (owner other : Option ℕ) (table others facts : List SignedFact) (ps qs : List ℕ)
    → (owner ≡ other → ⊥) → AreCounted team owner table → AreCounted team other others → AreNumbersOf table others facts ps qs
    → (n : ℕ) (x : SignedFact) → slice_get table n ≡ Some x → Decides (list_any (λ y. eqb y n) ps) (Contains facts x)
Decides-named team owner other table others facts ps qs differ counted away are n x here = (
  λ h.
      let stands = are.only_public n ((Decides-number ps n).0 h) in
      subst (Contains facts) (same_Some stands.0 x (sym stands.1 ∙ here)) stands.2,
  λ listed.
      elim (are.each x listed) [
        | inl mine ↦
            let same : mine.0 ≡ n = one_place table mine.0 n x counted.once mine.2 here in
            (Decides-number ps n).1 (subst (Contains ps) same mine.1)
        | inr its ↦
            absurd (differ
            (sym ((counted.exact x).0 (Contains-slice_get table n x here)).0
            ∙ ((away.exact x).0 (Contains-slice_get others its.0 x its.2)).0))
      ],
)

-- the numbers of facts are all true exactly where all the facts pass
pub numbers_hold : (test : SignedFact → Bool) (publics privates facts : List SignedFact) (ps qs : List ℕ) (shared own : Numbers)
    → AreNumbersOf publics privates facts ps qs → Fits publics shared test → Fits privates own test
    → (holds shared ps && holds own qs) ≡ list_all test facts
numbers_hold test publics privates facts ps qs shared own are fits fits_own = same_tests (holds shared ps && holds own qs) (list_all test facts)
    (λ h. all_from test facts (λ x here.
    elim (are.each x here) [
      | inl number ↦ sym (fits.each number.0 x number.2) ∙ all_at (set.contains shared) ps number.0 (and_parts (holds shared ps) (holds own qs) h).0 number.1
      | inr number ↦ sym (fits_own.each number.0 x number.2) ∙ all_at (set.contains own) qs number.0 (and_parts (holds shared ps) (holds own qs) h).1 number.1
    ]))
    (λ h.
    and_from (holds shared ps) (holds own qs)
    (all_from (set.contains shared) ps (λ n there. let x = are.only_public n there in fits.each n x.0 x.1 ∙ all_at test facts x.0 h x.2))
    (all_from (set.contains own) qs (λ n there. let x = are.only_private n there in fits_own.each n x.0 x.1 ∙ all_at test facts x.0 h x.2)))
