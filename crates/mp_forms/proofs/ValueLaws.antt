-- What the start says gives a function one cost.
use Rattle.mp_forms.proofs.Basics.{◌≡◌, ℕ, Bool, true, false, not, List, [], ◌∷◌, ◌++◌, map, All, refl, sym, ap, ◌∙◌, inr, true≢false, if◌then◌else◌, ◌==◌, flat_map, bytes_eq, eqb-true, map-append, All-nil, All-cons, All-head, All-tail, All-weaker}
use Rattle.mp_forms.proofs.Basics.{bytes_eq-Decides, Node, Value, Fact, names_of_atom, HasOneCostEach, Reading, Says, each, Given, fact_rule, given_in, given, value_in, same_names, differs, differing}
use Rattle.std.proofs.Common.{inl, append_assoc, append-nil}
use Rattle.std.proofs.lemmas.Bool.{and_parts, and_from, both_ways, cases_Bool, not-false}
use Rattle.std.proofs.lemmas.List.Elements.{All-push}
use Rattle.mp_forms.specs.declared.init_values.Fact.TheVariants as facts
use Rattle.mp_forms.specs.Limits.{GivesNoOther}
use Rattle.mp_forms.proofs.GivesLemmas.{Gives, gives_says, gives_both}

-- ---- names that are the same

pub same_by_test : (as' bs : List (List ℕ)) → same_names as' bs ≡ true → as' ≡ bs
same_by_test [] [] e = refl
same_by_test [] (b ∷ bs) e = absurd (true≢false (sym e))
same_by_test (a ∷ as') [] e = absurd (true≢false (sym e))
same_by_test (a ∷ as') (b ∷ bs) e =
    let both = and_parts (bytes_eq a b) (same_names as' bs) e in
    rw ((bytes_eq-Decides a b).0 both.0, same_by_test as' bs both.1)

test_by_same : (as' : List (List ℕ)) → same_names as' as' ≡ true
test_by_same [] = refl
test_by_same (a ∷ as') = and_from (bytes_eq a a) (same_names as' as') ((bytes_eq-Decides a a).1 refl) (test_by_same as')

-- ---- each value is as those before it

abbrev value_of : Given → Value
value_of g = g.value

abbrev names : Given → List (List ℕ)
names g = names_of_atom g.value.of

-- what gives the same function no other cost than this one
abbrev AgreesWith : Given → Value → Type 0
AgreesWith g v = GivesNoOther v g.value

agree : (before : List Given) (g : Given) → HasOneCostEach (map value_of before) → differs before g ≡ false → All (AgreesWith g) (map value_of before)
unfolding differs
agree [] g each same = All-nil (AgreesWith g)
agree (e ∷ es) g each same = elim (cases_Bool (same_names (names e) (names g))) [
  | inl is ↦
      let named = same_by_test (names e) (names g) is in
      let no_other : not (e.value.cost == g.value.cost) ≡ false = rw is at same in
      let costs = eqb-true e.value.cost g.value.cost (not-false (e.value.cost == g.value.cost) no_other) in
      All-cons (AgreesWith g) e.value (map value_of es) (λ names. costs)
      (All-weaker (GivesNoOther e.value) (AgreesWith g)
      (λ (v : Value) (one : GivesNoOther e.value v) (s : names_of_atom v.of ≡ names g). sym (one (named ∙ sym s)) ∙ costs) (map value_of es) each.0)
  | inr other ↦
      All-cons (AgreesWith g) e.value (map value_of es)
      (λ s. absurd (both_ways (same_names (names e) (names g)) other (ap (λ (ns : List (List ℕ)). same_names (names e) ns) (sym s) ∙ test_by_same (names e))))
      (agree es g each.1 (rw other at same))
]

-- one more value, which is no other one
push_one : (values : List Value) (value : Value) → HasOneCostEach values → All (λ (v : Value). GivesNoOther v value) values → HasOneCostEach (values ++ value ∷ [])
push_one [] value each agrees = (All-nil (GivesNoOther value), tt)
push_one (v ∷ values) value each agrees = (
  All-push (GivesNoOther v) values value each.0 (All-head (λ (w : Value). GivesNoOther w value) v values agrees),
  push_one values value each.1 (All-tail (λ (w : Value). GivesNoOther w value) v values agrees),
)

first_same : (b : Bool) (g : Given) (gs : List Given) → (if b then g ∷ [] else []) ++ gs ≡ [] → b ≡ false
first_same true g gs e = absurd (let impossible : ⊥ = cc in impossible)
first_same false g gs e = refl

others_same : (b : Bool) (g : Given) (gs : List Given) → (if b then g ∷ [] else []) ++ gs ≡ [] → gs ≡ []
others_same true g gs e = absurd (let impossible : ⊥ = cc in impossible)
others_same false g gs e = e

one_cost : (before gs : List Given) → HasOneCostEach (map value_of before) → differing before gs ≡ [] → HasOneCostEach (map value_of (before ++ gs))
unfolding differing
one_cost before [] each none = rw (append-nil before) each
one_cost before (g ∷ gs) each none =
    let behind = differing (before ++ g ∷ []) gs in
    let more = push_one (map value_of before) g.value each (agree before g each (first_same (differs before g) g behind none)) in
    let here : HasOneCostEach (map value_of (before ++ g ∷ [])) = rw (map-append value_of before (g ∷ [])) more in
    rw (append_assoc before (g ∷ []) gs) at (one_cost (before ++ g ∷ []) gs here (others_same (differs before g) g behind none))

-- ---- the values of members are those that facts give

given_here : (r : Reading Fact) → Gives (λ (f : Fact). map value_of (given_in r) ≡ value_in f) r
given_here r f e = ap (λ (s : Reading Fact). map value_of (given_in s)) e ∙ by f
  where
    by : (f : Fact) → map value_of (given_in (Says f)) ≡ value_in f
    by (facts.Holds atom) = refl
    by (facts.Gives value at) = refl

given_all : (nodes : List Node) → Gives (λ (fs : List Fact). map value_of (given nodes) ≡ flat_map value_in fs) (each fact_rule nodes)
unfolding given each
given_all [] = gives_says (λ (fs : List Fact). [] ≡ flat_map value_in fs) [] refl
given_all (n ∷ ns) =
    gives_both (λ (f : Fact). map value_of (given_in (fact_rule n)) ≡ value_in f) (λ (fs : List Fact). map value_of (given ns) ≡ flat_map value_in fs)
    (λ (fs : List Fact). map value_of (given_in (fact_rule n) ++ given ns) ≡ flat_map value_in fs) (λ f fs. f ∷ fs) (fact_rule n) (each fact_rule ns)
    (λ f fs here others. map-append value_of (given_in (fact_rule n)) (given ns) ∙ rw (here, others)) (given_here (fact_rule n)) (given_all ns)

pub values_gives : (nodes : List Node) → differing [] (given nodes) ≡ [] → Gives (λ (fs : List Fact). HasOneCostEach (flat_map value_in fs)) (each fact_rule nodes)
values_gives nodes none fs says = rw (given_all nodes fs says) at (one_cost [] (given nodes) tt none)
