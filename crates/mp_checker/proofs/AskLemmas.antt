-- Literals that are looked at one after another, and the numbers of their facts.
use Rattle.std.proofs.Common.{◌≡◌, ℕ, ◌+◌, ◌<◌, ◌≤◌, Bool, true, false, cond, not, List, [], ◌∷◌, ◌++◌, map, length, get_or, take, drop, Some, None, if◌then◌else◌, refl, sym, ap, subst, ◌∙◌}
use Rattle.std.specs.List.{position_from}
use Rattle.std.proofs.Math.ListN.{drop_of_length-le}
use Rattle.std.proofs.lemmas.List.{append-nil, drop_more, take_all}
use Rattle.mp_lifting.proofs.Growing.{one_more}
use Rattle.mp_checker.specs.declared.fact.FactNumbers.{FactNumbers}
use Rattle.mp_checker.specs.declared.facts.Facts.{Facts}
use Rattle.mp_checker.specs.declared.numbered.NumberedLiteral.{NumberedLiteral}
use Rattle.mp_checker.specs.declared.numbered.ObjectNumber.{ObjectNumber}
use Rattle.mp_checker.specs.At.{fact_at, holds_at, named_state, numbers_of}
use Rattle.mp_joint.specs.Fact.{Text}
use Rattle.mp_checker.specs.Marked.{is_marked, true_facts, HaveStayed}
use Rattle.mp_checker.specs.Places.{IsPlace, ArePlaces, AreAsked, HasGrown, asked_facts, asked_in}
use Rattle.mp_checker.proofs.MarkLemmas.{mark_is, stayed_none, stayed_again}
use Rattle.mp_checker.proofs.PlaceLemmas.{asked_next, grown_none, grown_again, no_places, one_place, places_stay}

-- ---- a literal more

one_asked : (agent : ℕ) (args : List ObjectNumber) (positive : Bool) (before : List NumberedLiteral) (l : NumberedLiteral) (old new : List FactNumbers) (made : List ℕ) (n : ℕ)
    → asked_in positive l ≡ true → HasGrown old new → IsPlace new (fact_at agent args l.atom) n → ArePlaces old (asked_facts agent args positive before) made
    → ArePlaces new (asked_facts agent args positive (before ++ l ∷ [])) (made ++ n ∷ [])
one_asked agent args positive before l old new made n passes g p a =
    let one : asked_facts agent args positive (l ∷ []) ≡ fact_at agent args l.atom ∷ [] =
    ap (λ b. map (λ (m : NumberedLiteral). fact_at agent args m.atom) (cond b (l ∷ []) [])) passes in
    subst (λ these. ArePlaces new these (made ++ n ∷ []))
    (sym (asked_next agent args positive before l ∙ ap (λ fs. asked_facts agent args positive before ++ fs) one))
    (one_place new (asked_facts agent args positive before) made (fact_at agent args l.atom) n (places_stay old new (asked_facts agent args positive before) made g a) p)

none_asked : (agent : ℕ) (args : List ObjectNumber) (positive : Bool) (before : List NumberedLiteral) (l : NumberedLiteral) (old new : List FactNumbers) (made : List ℕ)
    → asked_in positive l ≡ false → HasGrown old new → ArePlaces old (asked_facts agent args positive before) made
    → ArePlaces new (asked_facts agent args positive (before ++ l ∷ [])) made
none_asked agent args positive before l old new made fails g a =
    let none : asked_facts agent args positive (l ∷ []) ≡ [] =
    ap (λ b. map (λ (m : NumberedLiteral). fact_at agent args m.atom) (cond b (l ∷ []) [])) fails in
    subst (λ these. ArePlaces new these made)
    (sym (asked_next agent args positive before l ∙ ap (λ fs. asked_facts agent args positive before ++ fs) none ∙ append-nil (asked_facts agent args positive before)))
    (places_stay old new (asked_facts agent args positive before) made g a)

pub asked_more : (agent : ℕ) (args : List ObjectNumber) (before : List NumberedLiteral) (l : NumberedLiteral) (old new : List FactNumbers) (needs against needs_new against_new : List ℕ) (n : ℕ)
    → HasGrown old new → IsPlace new (fact_at agent args l.atom) n
    → needs_new ≡ (if l.positive then needs ++ n ∷ [] else needs) → against_new ≡ (if l.positive then against else against ++ n ∷ [])
    → AreAsked old agent args before needs against → AreAsked new agent args (before ++ l ∷ []) needs_new against_new
asked_more agent args before l old new needs against needs_new against_new n g p x y a = by l.positive refl
  where
    by : (b : Bool) → l.positive ≡ b → AreAsked new agent args (before ++ l ∷ []) needs_new against_new
    by true e = record {
      positive = subst (ArePlaces new (asked_facts agent args true (before ++ l ∷ []))) (sym (x ∙ ap (λ b. if b then needs ++ n ∷ [] else needs) e))
          (one_asked agent args true before l old new needs n e g p a.positive);
      negative = subst (ArePlaces new (asked_facts agent args false (before ++ l ∷ []))) (sym (y ∙ ap (λ b. if b then against else against ++ n ∷ []) e))
          (none_asked agent args false before l old new against (ap not e) g a.negative);
    }
    by false e = record {
      positive = subst (ArePlaces new (asked_facts agent args true (before ++ l ∷ []))) (sym (x ∙ ap (λ b. if b then needs ++ n ∷ [] else needs) e))
          (none_asked agent args true before l old new needs e g a.positive);
      negative = subst (ArePlaces new (asked_facts agent args false (before ++ l ∷ []))) (sym (y ∙ ap (λ b. if b then against else against ++ n ∷ []) e))
          (one_asked agent args false before l old new against n (ap not e) g p a.negative);
    }

-- whether it holds, by the mark of its fact's number
pub holds_is : (old new : Facts) (agent : ℕ) (args : List ObjectNumber) (l : NumberedLiteral) (n : ℕ) (marked answer : Bool)
    → HaveStayed old new → IsPlace new.known.keys (fact_at agent args l.atom) n → marked ≡ is_marked new.marks.items n
    → answer ≡ (if l.positive then marked else not marked) → answer ≡ holds_at (true_facts old) agent args l
holds_is old new agent args l n marked answer stayed p mark is =
    is ∙ ap (λ b. if l.positive then b else not b) (mark ∙ mark_is new (fact_at agent args l.atom) n p ∙ stayed (fact_at agent args l.atom))

-- ---- in a loop

abbrev pub fails : Facts → ℕ → List ObjectNumber → NumberedLiteral → Bool
fails facts agent args l = not (holds_at (true_facts facts) agent args l)

-- the first i literals hold, and the numbers of their facts are noted
pub record HasAsked
    (start facts : Facts)
    (agent : ℕ)
    (args : List ObjectNumber)
    (literals : List NumberedLiteral)
    (i : ℕ)
    (needs against : List ℕ)
    : Type 0 where
  pub grown : HasGrown start.known.keys facts.known.keys
  pub stayed : HaveStayed start facts
  pub rest : position_from (fails start agent args) i (drop i literals) ≡ position_from (fails start agent args) 0 literals
  pub asked : AreAsked facts.known.keys agent args (take i literals) needs against

pub asked_none : (facts : Facts) (agent : ℕ) (args : List ObjectNumber) (literals : List NumberedLiteral) (needs against : List ℕ) → needs ≡ [] → against ≡ []
    → HasAsked facts facts agent args literals 0 needs against
asked_none facts agent args literals needs against n m = record {
  grown = grown_none facts.known.keys;
  stayed = stayed_none facts;
  rest = refl;
  asked = record {
    positive = subst (ArePlaces facts.known.keys []) (sym n) (no_places facts.known.keys);
    negative = subst (ArePlaces facts.known.keys []) (sym m) (no_places facts.known.keys);
  };
}

same_holds : (start facts : Facts) (agent : ℕ) (args : List ObjectNumber) (l : NumberedLiteral) → HaveStayed start facts
    → holds_at (true_facts facts) agent args l ≡ holds_at (true_facts start) agent args l
same_holds start facts agent args l stayed =
    ap (λ b. if l.positive then b else not b) (stayed (fact_at agent args l.atom))

rest_from : (p : NumberedLiteral → Bool) (literals : List NumberedLiteral) (i : ℕ) (l : NumberedLiteral) → i < length literals → l ≡ get_or literals i l
    → position_from p i (drop i literals) ≡ cond (p l) (Some i) (position_from p (i + 1) (drop (i + 1) literals))
rest_from p literals i l lt is = ap (position_from p i) (drop_more literals i l lt ∙ ap (λ (x : NumberedLiteral). x ∷ drop (i + 1) literals) (sym is))

its_test : (start facts : Facts) (agent : ℕ) (args : List ObjectNumber) (l : NumberedLiteral) (holds b : Bool) → HaveStayed start facts
    → holds ≡ holds_at (true_facts facts) agent args l → holds ≡ b → fails start agent args l ≡ not b
its_test start facts agent args l holds b stayed h is = ap not (sym (h ∙ same_holds start facts agent args l stayed) ∙ is)

-- a literal that holds
pub asked_one : (start facts new : Facts) (agent : ℕ) (args : List ObjectNumber) (literals : List NumberedLiteral) (i : ℕ) (l : NumberedLiteral) (holds : Bool)
    (needs against needs_new against_new : List ℕ) → HasAsked start facts agent args literals i needs against → i < length literals → l ≡ get_or literals i l
    → HasGrown facts.known.keys new.known.keys → HaveStayed facts new → holds ≡ holds_at (true_facts facts) agent args l → holds ≡ true
    → ((before : List NumberedLiteral) → AreAsked facts.known.keys agent args before needs against → AreAsked new.known.keys agent args (before ++ l ∷ []) needs_new against_new)
    → HasAsked start new agent args literals (i + 1) needs_new against_new
asked_one start facts new agent args literals i l holds needs against needs_new against_new h lt is g stayed test passes noted = record {
  grown = grown_again start.known.keys facts.known.keys new.known.keys h.grown g;
  stayed = stayed_again start facts new h.stayed stayed;
  rest =
      sym (rest_from (fails start agent args) literals i l lt is
      ∙ ap (λ b. cond b (Some i) (position_from (fails start agent args) (i + 1) (drop (i + 1) literals))) (its_test start facts agent args l holds true h.stayed test passes))
      ∙ h.rest;
  asked =
      subst (λ ls. AreAsked new.known.keys agent args ls needs_new against_new) (sym (one_more literals i l lt is))
      (noted (take i literals) h.asked);
}

-- the first that doesn't
pub asked_failing : (start facts : Facts) (agent : ℕ) (args : List ObjectNumber) (literals : List NumberedLiteral) (i : ℕ) (l : NumberedLiteral) (holds : Bool)
    (needs against : List ℕ) → HasAsked start facts agent args literals i needs against → i < length literals → l ≡ get_or literals i l
    → holds ≡ holds_at (true_facts facts) agent args l → holds ≡ false → Some i ≡ position_from (fails start agent args) 0 literals
asked_failing start facts agent args literals i l holds needs against h lt is test stops =
    sym (rest_from (fails start agent args) literals i l lt is
    ∙ ap (λ b. cond b (Some i) (position_from (fails start agent args) (i + 1) (drop (i + 1) literals))) (its_test start facts agent args l holds false h.stayed test stops))
    ∙ h.rest

pub asked_all : (start facts : Facts) (agent : ℕ) (args : List ObjectNumber) (literals : List NumberedLiteral) (i : ℕ) (needs against : List ℕ)
    → HasAsked start facts agent args literals i needs against → length literals ≤ i → None ≡ position_from (fails start agent args) 0 literals
asked_all start facts agent args literals i needs against h past =
    sym (ap (position_from (fails start agent args) i) (drop_of_length-le literals past)) ∙ h.rest

pub noted_all : (start facts : Facts) (agent : ℕ) (args : List ObjectNumber) (literals : List NumberedLiteral) (i : ℕ) (needs against : List ℕ)
    → HasAsked start facts agent args literals i needs against → length literals ≤ i → AreAsked facts.known.keys agent args literals needs against
noted_all start facts agent args literals i needs against h past =
    subst (λ ls. AreAsked facts.known.keys agent args ls needs against) (take_all i literals past) h.asked

-- ---- states by names

pub same_state : (names : List Text) (old new : Facts) → HaveStayed old new → named_state names (true_facts new) ≡ named_state names (true_facts old)
same_state names old new stayed = λ i f. stayed (numbers_of names f) i
