-- Places in a list of facts that grows.
use Rattle.std.proofs.Common.{◌≡◌, ℕ, ◌+◌, ◌<◌, ◌≤◌, Bool, true, false, cond, not, ◌||◌, ◌&&◌, List, [], ◌∷◌, ◌++◌, map, length, get_or, take, refl, sym, ap, subst, ◌∙◌, arith, append_assoc, inl, inr}
use Rattle.std.specs.Prelude.{filter}
use Rattle.std.specs.List.{list_any, list_all, position_or_len}
use Rattle.std.proofs.lemmas.Bool.{false≢true, cases_Bool}
use Rattle.std.proofs.lemmas.List.{map-append, append-nil, take_all}
use Rattle.std.proofs.lemmas.List.Folds.{list_all-append}
use Rattle.mp_list.proofs.Bools.{and_true}
use Rattle.mp_lifting.proofs.Growing.{one_more}
use Rattle.mp_checker.specs.declared.fact.FactNumbers.{FactNumbers}
use Rattle.mp_checker.specs.declared.numbered.NumberedAtom.{NumberedAtom}
use Rattle.mp_checker.specs.declared.numbered.NumberedLiteral.{NumberedLiteral}
use Rattle.mp_checker.specs.declared.numbered.ObjectNumber.{ObjectNumber}
use Rattle.mp_checker.specs.At.{fact_at, is_true}
use Rattle.mp_checker.specs.Keys.{same_numbers}
use Rattle.mp_checker.specs.Places.{place, IsPlace, ArePlaces, HasGrown, asked_in, asked_facts}
use Rattle.mp_checker.proofs.SameNumbers.{Decides-numbers}

-- ---- lists that grow

pub grown_none : (facts : List FactNumbers) → HasGrown facts facts
grown_none facts = record { more = []; is = sym (append-nil facts) }

pub grown_again : (a b c : List FactNumbers) → HasGrown a b → HasGrown b c → HasGrown a c
grown_again a b c g h = record {
  more = g.more ++ h.more;
  is = h.is ∙ ap (λ xs. xs ++ h.more) g.is ∙ append_assoc a g.more h.more;
}

pub both_pass : (a b : Bool) → a ≡ true → b ≡ true → (a && b) ≡ true
both_pass a b p q = ap (λ x. x && b) p ∙ q

pub first_passes : (a b : Bool) → (a && b) ≡ true → a ≡ true
first_passes true b h = refl
first_passes false b h = absurd (false≢true h)

pub other_passes : (a b : Bool) → (a && b) ≡ true → b ≡ true
other_passes true b h = h
other_passes false b h = absurd (false≢true h)

-- a fact that is there stays there
pub any_more : (p : FactNumbers → Bool) (xs more : List FactNumbers) → list_any p xs ≡ true → list_any p (xs ++ more) ≡ true
any_more p [] more h = absurd (false≢true h)
any_more p (x ∷ xs) more h =
    elim (cases_Bool (p x)) [
      | inl passes ↦ ap (λ b. b || list_any p (xs ++ more)) passes
      | inr fails ↦
          ap (λ b. b || list_any p (xs ++ more)) fails
          ∙ any_more p xs more (sym (ap (λ b. b || list_any p xs) fails) ∙ h)
    ]

-- at its place
pub place_stays : (p : FactNumbers → Bool) (xs more : List FactNumbers) → list_any p xs ≡ true → position_or_len p (xs ++ more) ≡ position_or_len p xs
place_stays p [] more h = absurd (false≢true h)
place_stays p (x ∷ xs) more h =
    elim (cases_Bool (p x)) [
      | inl passes ↦
          ap (λ b. cond (not b) (1 + position_or_len p (xs ++ more)) 0) passes
          ∙ sym (ap (λ b. cond (not b) (1 + position_or_len p xs) 0) passes)
      | inr fails ↦
          ap (λ b. cond (not b) (1 + position_or_len p (xs ++ more)) 0) fails
          ∙ ap (λ n. 1 + n) (place_stays p xs more (sym (ap (λ b. b || list_any p xs) fails) ∙ h))
          ∙ sym (ap (λ b. cond (not b) (1 + position_or_len p xs) 0) fails)
    ]

all_there : (facts more these : List FactNumbers) → list_all (is_true facts) these ≡ true → list_all (is_true (facts ++ more)) these ≡ true
all_there facts more [] h = refl
all_there facts more (f ∷ fs) h =
    both_pass (is_true (facts ++ more) f) (list_all (is_true (facts ++ more)) fs)
    (any_more (same_numbers f) facts more (first_passes (is_true facts f) (list_all (is_true facts) fs) h))
    (all_there facts more fs (other_passes (is_true facts f) (list_all (is_true facts) fs) h))

all_stay : (facts more these : List FactNumbers) → list_all (is_true facts) these ≡ true → map (place facts) these ≡ map (place (facts ++ more)) these
all_stay facts more [] h = refl
all_stay facts more (f ∷ fs) h =
    λ i. sym (place_stays (same_numbers f) facts more (first_passes (is_true facts f) (list_all (is_true facts) fs) h)) i
    ∷ all_stay facts more fs (other_passes (is_true facts f) (list_all (is_true facts) fs) h) i

pub places_stay : (old new these : List FactNumbers) (numbers : List ℕ) → HasGrown old new → ArePlaces old these numbers → ArePlaces new these numbers
places_stay old new these numbers g a =
    subst (λ facts. ArePlaces facts these numbers) (sym g.is) (record {
      are = a.are ∙ all_stay old g.more these a.there;
      there = all_there old g.more these a.there;
    })

-- one more fact with its place
pub one_place : (facts these : List FactNumbers) (numbers : List ℕ) (f : FactNumbers) (n : ℕ) → ArePlaces facts these numbers → IsPlace facts f n
    → ArePlaces facts (these ++ f ∷ []) (numbers ++ n ∷ [])
one_place facts these numbers f n a p = record {
  are = (λ i. a.are i ++ p.is i ∷ []) ∙ sym (map-append (place facts) these (f ∷ []));
  there =
      list_all-append (is_true facts) these (f ∷ [])
      ∙ both_pass (list_all (is_true facts) these) (is_true facts f && true) a.there (and_true (is_true facts f) ∙ p.there);
}

pub no_places : (facts : List FactNumbers) → ArePlaces facts [] []
no_places facts = record { are = refl; there = refl }

-- facts of one place are one, where the second is there
pub same_place : (facts : List FactNumbers) (f g : FactNumbers) → is_true facts g ≡ true → place facts f ≡ place facts g → f ≡ g
same_place [] f g h e = absurd (false≢true h)
same_place (k ∷ ks) f g h e = at (same_numbers f k) (same_numbers g k) refl refl h e (same_place ks f g)
  where
    at : (a b : Bool) → same_numbers f k ≡ a → same_numbers g k ≡ b → (b || is_true ks g) ≡ true
        → cond (not a) (1 + place ks f) 0 ≡ cond (not b) (1 + place ks g) 0
        → (is_true ks g ≡ true → place ks f ≡ place ks g → f ≡ g) → f ≡ g
    at true true p q h e rest = (Decides-numbers f k).0 p ∙ sym ((Decides-numbers g k).0 q)
    at true false p q h e rest = absurd (omega (arith, e))
    at false true p q h e rest = absurd (omega (arith, e))
    at false false p q h e rest = rest h (omega (arith, e))

-- ---- in loops over atoms and literals

pub atom_more : (agent : ℕ) (args : List ObjectNumber) (atoms : List NumberedAtom) (i : ℕ) (a : NumberedAtom) (old new : List FactNumbers) (made : List ℕ) (n : ℕ)
    → i < length atoms → a ≡ get_or atoms i a → HasGrown old new → ArePlaces old (map (fact_at agent args) (take i atoms)) made
    → IsPlace new (fact_at agent args a) n → ArePlaces new (map (fact_at agent args) (take (i + 1) atoms)) (made ++ n ∷ [])
atom_more agent args atoms i a old new made n lt is g so_far p =
    subst (λ these. ArePlaces new these (made ++ n ∷ []))
    (sym (ap (map (fact_at agent args)) (one_more atoms i a lt is) ∙ map-append (fact_at agent args) (take i atoms) (a ∷ [])))
    (one_place new (map (fact_at agent args) (take i atoms)) made (fact_at agent args a) n (places_stay old new _ made g so_far) p)

pub atoms_all : (agent : ℕ) (args : List ObjectNumber) (atoms : List NumberedAtom) (i : ℕ) (facts : List FactNumbers) (made : List ℕ) → length atoms ≤ i
    → ArePlaces facts (map (fact_at agent args) (take i atoms)) made → ArePlaces facts (map (fact_at agent args) atoms) made
atoms_all agent args atoms i facts made past a = subst (λ as'. ArePlaces facts (map (fact_at agent args) as') made) (take_all i atoms past) a

pub asked_next : (agent : ℕ) (args : List ObjectNumber) (positive : Bool) (before : List NumberedLiteral) (l : NumberedLiteral)
    → asked_facts agent args positive (before ++ l ∷ []) ≡ asked_facts agent args positive before ++ asked_facts agent args positive (l ∷ [])
asked_next agent args positive [] l = refl
asked_next agent args positive (k ∷ ks) l =
    elim (cases_Bool (asked_in positive k)) [
      | inl passes ↦
          ap (λ b. map (λ (m : NumberedLiteral). fact_at agent args m.atom) (cond b (k ∷ filter (asked_in positive) (ks ++ l ∷ [])) (filter (asked_in positive) (ks ++ l ∷ [])))) passes
          ∙ ap (λ fs. fact_at agent args k.atom ∷ fs) (asked_next agent args positive ks l)
          ∙ sym (ap (λ b. map (λ (m : NumberedLiteral). fact_at agent args m.atom) (cond b (k ∷ filter (asked_in positive) ks) (filter (asked_in positive) ks)) ++ asked_facts agent args positive (l ∷ [])) passes)
      | inr fails ↦
          ap (λ b. map (λ (m : NumberedLiteral). fact_at agent args m.atom) (cond b (k ∷ filter (asked_in positive) (ks ++ l ∷ [])) (filter (asked_in positive) (ks ++ l ∷ [])))) fails
          ∙ asked_next agent args positive ks l
          ∙ sym (ap (λ b. map (λ (m : NumberedLiteral). fact_at agent args m.atom) (cond b (k ∷ filter (asked_in positive) ks) (filter (asked_in positive) ks)) ++ asked_facts agent args positive (l ∷ [])) fails)
    ]

-- facts and others behind them
pub joined_places : (facts these others : List FactNumbers) (numbers more : List ℕ) → ArePlaces facts these numbers → ArePlaces facts others more
    → ArePlaces facts (these ++ others) (numbers ++ more)
joined_places facts these others numbers more a b = record {
  are = (λ i. a.are i ++ b.are i) ∙ sym (map-append (place facts) these others);
  there =
      list_all-append (is_true facts) these others
      ∙ both_pass (list_all (is_true facts) these) (list_all (is_true facts) others) a.there b.there;
}
