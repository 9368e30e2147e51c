-- The start of a team and its goals, one agent after another.
use Rattle.std.proofs.Common.{◌≡◌, ℕ, zero, suc, ◌+◌, ◌<◌, ◌≤◌, Bool, true, false, not, ◌||◌, List, [], ◌∷◌, ◌++◌, map, length, get_or, drop, Option, Some, None, if◌then◌else◌, refl, sym, ap, subst, ◌∙◌, arith}
use Rattle.std.specs.List.{list_any, flat_map}
use Rattle.std.specs.Option.{option_or}
use Rattle.std.proofs.Math.ListN.{drop_of_length-le}
use Rattle.std.proofs.lemmas.List.{drop_more}
use Rattle.std.proofs.lemmas.List.Folds.{find-append}
use Rattle.mp_list.proofs.Bools.{or_false}
use Rattle.mp_forms.specs.Limits.{names_of_atom}
use Rattle.mp_forms.specs.declared.atom_values.Atom.{Atom}
use Rattle.mp_forms.specs.declared.typed_values.Typed.{Typed}
use Rattle.mp_forms.specs.declared.factor.Factor.{Factor}
use Rattle.mp_joint.specs.declared.fact.NamedFact.{NamedFact}
use Rattle.mp_joint.specs.declared.fact.SignedFact.{SignedFact}
use Rattle.mp_joint.specs.Fact.{Text, same_fact, is_among}
use Rattle.mp_joint.specs.FactorContribution.{privates_of, facts_of}
use Rattle.mp_joint.specs.Grounding.{fact_of}
use Rattle.mp_joint.specs.Instance.{State, holds}
use Rattle.mp_checker.specs.declared.fact.FactNumbers.{FactNumbers}
use Rattle.mp_checker.specs.declared.numbered.NumberedAtom.{NumberedAtom}
use Rattle.mp_checker.specs.AgentView.{AgentView, Covers, AreOf, names_of}
use Rattle.mp_checker.specs.At.{fact_at, is_true, numbers_of, named_state}
use Rattle.mp_checker.specs.Keys.{same_numbers}
use Rattle.mp_checker.specs.Numbering.{numbered_atom}
use Rattle.mp_checker.specs.Taken.{failing}
use Rattle.mp_checker.specs.Team.{starts, goals_of}
use Rattle.mp_checker.specs.Words.{names_of_schema, names_of_value, names_of_factor}
use Rattle.mp_checker.proofs.AtomsAt.{atom_at, known_fact}
use Rattle.mp_checker.proofs.CoversLemmas.{covers_left, covers_right}
use Rattle.mp_checker.proofs.SameNumbers.{same_as_named}

-- ---- initial facts of an agent

pub init_covered : (names : List Text) (factor : Factor) → Covers names (names_of_factor factor) → Covers names (flat_map names_of_atom factor.problem.init)
init_covered names factor c =
    let objects = map (λ (o : Typed). o.word.name) factor.domain.constants ++ map (λ (o : Typed). o.word.name) factor.problem.objects in
    let before = objects ++ flat_map names_of_schema factor.domain.schemas in
    covers_right names before (flat_map names_of_atom factor.problem.init)
    (covers_left names (before ++ flat_map names_of_atom factor.problem.init) (flat_map names_of_value factor.problem.values) c)

added_before : (same later kept : Bool) → (later || (if same then true else kept)) ≡ ((same || later) || kept)
added_before true true kept = refl
added_before true false kept = refl
added_before false later kept = refl

atom_at_place : (as' : List Atom) (i : ℕ) (a : Atom) → i < length as' → a ≡ get_or as' i a → drop i as' ≡ a ∷ drop (i + 1) as'
atom_at_place as' i a lt is = drop_more as' i a lt ∙ ap (λ (b : Atom). b ∷ drop (i + 1) as') (sym is)

covered_at : (names : List Text) (as' : List Atom) (i : ℕ) (a : Atom) → i < length as' → a ≡ get_or as' i a → Covers names (flat_map names_of_atom as') → Covers names (names_of_atom a)
covered_at names [] i a lt is c = absurd (omega (arith, lt))
covered_at names (b ∷ bs) zero a lt is c = subst (λ x. Covers names (names_of_atom x)) (sym is) (covers_left names (names_of_atom b) (flat_map names_of_atom bs) c)
covered_at names (b ∷ bs) (suc i) a lt is c = covered_at names bs i a (omega (arith, lt)) is (covers_right names (names_of_atom b) (flat_map names_of_atom bs) c)

pub start_more : (names : List Text) (agent : ℕ) (factor : Factor) (init : List Atom) (i : ℕ) (a : Atom) (numbered : NumberedAtom) (old new : List FactNumbers) (f : NamedFact)
    → i < length init → a ≡ get_or init i a → Covers names (flat_map names_of_atom init) → numbered ≡ numbered_atom names (privates_of factor) [] a
    → ((g : FactNumbers) → is_true new g ≡ (if same_numbers (fact_at agent [] numbered) g then true else is_true old g))
    → (is_among f (facts_of agent factor [] [] (drop (i + 1) init)) || is_true new (numbers_of names f))
    ≡ (is_among f (facts_of agent factor [] [] (drop i init)) || is_true old (numbers_of names f))
start_more names agent factor init i a numbered old new f lt is c are changed =
    let g = fact_of agent (privates_of factor) [] [] a in
    let later = is_among f (facts_of agent factor [] [] (drop (i + 1) init)) in
    let known = known_fact names agent (privates_of factor) [] [] a tt (covered_at names init i a lt is c) in
    let number : fact_at agent [] numbered ≡ numbers_of names g = ap (fact_at agent []) are ∙ atom_at names agent (privates_of factor) [] [] a refl in
    let same : same_numbers (fact_at agent [] numbered) (numbers_of names f) ≡ same_fact f g =
    ap (λ (x : FactNumbers). same_numbers x (numbers_of names f)) number ∙ same_as_named names f g known in
    ap (λ b. later || b) (changed (numbers_of names f) ∙ ap (λ b. if b then true else is_true old (numbers_of names f)) same)
    ∙ added_before (same_fact f g) later (is_true old (numbers_of names f))
    ∙ ap (λ (bs : List Atom). is_among f (facts_of agent factor [] [] bs) || is_true old (numbers_of names f)) (sym (atom_at_place init i a lt is))

pub start_all : (agent : ℕ) (factor : Factor) (init : List Atom) (i : ℕ) (f : NamedFact) (kept : Bool) → length init ≤ i
    → (is_among f (facts_of agent factor [] [] (drop i init)) || kept) ≡ kept
start_all agent factor init i f kept past =
    ap (λ (bs : List Atom). is_among f (facts_of agent factor [] [] bs) || kept) (drop_of_length-le init past)

-- ---- agents

view_at_place : (team : List AgentView) (i : ℕ) (v : AgentView) → i < length team → v ≡ get_or team i v → drop i team ≡ v ∷ drop (i + 1) team
view_at_place team i v lt is = drop_more team i v lt ∙ ap (λ (w : AgentView). w ∷ drop (i + 1) team) (sym is)

pub named_at : (names : List Text) (team : List AgentView) (i : ℕ) (v : AgentView) → i < length team → v ≡ get_or team i v → AreOf names team → names_of v ≡ names
named_at names [] i v lt is of = absurd (omega (arith, lt))
named_at names (w ∷ ws) zero v lt is of = ap (λ (x : AgentView). names_of x) is ∙ of.0
named_at names (w ∷ ws) (suc i) v lt is of = named_at names ws i v (omega (arith, lt)) is of.1

moved : (own later kept : Bool) → (later || (own || kept)) ≡ ((own || later) || kept)
moved true true kept = refl
moved true false kept = refl
moved false later kept = refl

pub agent_more : (names : List Text) (team : List AgentView) (i : ℕ) (v : AgentView) (old new : List FactNumbers) (f : NamedFact)
    → i < length team → v ≡ get_or team i v → AreOf names team
    → ((g : NamedFact) → is_true new (numbers_of (names_of v) g) ≡ (starts v g || is_true old (numbers_of (names_of v) g)))
    → (list_any (λ (w : AgentView). starts w f) (drop (i + 1) team) || is_true new (numbers_of names f))
    ≡ (list_any (λ (w : AgentView). starts w f) (drop i team) || is_true old (numbers_of names f))
agent_more names team i v old new f lt is of changed =
    let later = list_any (λ (w : AgentView). starts w f) (drop (i + 1) team) in
    let own : is_true new (numbers_of names f) ≡ (starts v f || is_true old (numbers_of names f)) =
    subst (λ ns. is_true new (numbers_of ns f) ≡ (starts v f || is_true old (numbers_of ns f))) (named_at names team i v lt is of) (changed f) in
    ap (λ b. later || b) own ∙ moved (starts v f) later (is_true old (numbers_of names f))
    ∙ ap (λ (ws : List AgentView). list_any (λ (w : AgentView). starts w f) ws || is_true old (numbers_of names f)) (sym (view_at_place team i v lt is))

pub agents_none : (team : List AgentView) (f : NamedFact) (names : List Text)
    → (list_any (λ (w : AgentView). starts w f) (drop 0 team) || is_true [] (numbers_of names f)) ≡ list_any (λ (w : AgentView). starts w f) team
agents_none team f names = or_false (list_any (λ (w : AgentView). starts w f) team)

pub agents_all : (team : List AgentView) (i : ℕ) (f : NamedFact) (kept : Bool) → length team ≤ i
    → (list_any (λ (w : AgentView). starts w f) (drop i team) || kept) ≡ kept
agents_all team i f kept past = ap (λ (ws : List AgentView). list_any (λ (w : AgentView). starts w f) ws || kept) (drop_of_length-le team past)

-- ---- goals

rest_of : (s : State) (team : List AgentView) (i : ℕ) (v : AgentView) (first : Option SignedFact) → i < length team → v ≡ get_or team i v
    → first ≡ failing s (goals_of v) → failing s (flat_map goals_of (drop i team)) ≡ option_or first (failing s (flat_map goals_of (drop (i + 1) team)))
rest_of s team i v first lt is h =
    ap (λ (ws : List AgentView). failing s (flat_map goals_of ws)) (view_at_place team i v lt is)
    ∙ find-append (λ (x : SignedFact). not (holds s x)) (goals_of v) (flat_map goals_of (drop (i + 1) team))
    ∙ ap (λ (o : Option SignedFact). option_or o (failing s (flat_map goals_of (drop (i + 1) team)))) (sym h)

-- none of this agent's fails
pub goals_more : (names : List Text) (team : List AgentView) (i : ℕ) (v : AgentView) (kept : List FactNumbers) (first : Option SignedFact)
    → i < length team → v ≡ get_or team i v → AreOf names team → first ≡ failing (named_state (names_of v) kept) (goals_of v) → first ≡ None
    → failing (named_state names kept) (flat_map goals_of (drop (i + 1) team)) ≡ failing (named_state names kept) (flat_map goals_of (drop i team))
goals_more names team i v kept first lt is of h none =
    let mine = subst (λ ns. first ≡ failing (named_state ns kept) (goals_of v)) (named_at names team i v lt is of) h in
    sym (rest_of (named_state names kept) team i v first lt is mine
    ∙ ap (λ (o : Option SignedFact). option_or o (failing (named_state names kept) (flat_map goals_of (drop (i + 1) team)))) none)

-- one does
pub goals_end : (names : List Text) (team : List AgentView) (i : ℕ) (v : AgentView) (kept : List FactNumbers) (first : Option SignedFact) (x : SignedFact)
    → i < length team → v ≡ get_or team i v → AreOf names team → first ≡ failing (named_state (names_of v) kept) (goals_of v) → first ≡ Some x
    → Some x ≡ failing (named_state names kept) (flat_map goals_of (drop i team))
goals_end names team i v kept first x lt is of h some =
    let mine = subst (λ ns. first ≡ failing (named_state ns kept) (goals_of v)) (named_at names team i v lt is of) h in
    sym (rest_of (named_state names kept) team i v first lt is mine
    ∙ ap (λ (o : Option SignedFact). option_or o (failing (named_state names kept) (flat_map goals_of (drop (i + 1) team)))) some)

pub goals_all : (s : State) (team : List AgentView) (i : ℕ) → length team ≤ i → failing s (flat_map goals_of (drop i team)) ≡ None
goals_all s team i past = ap (λ (ws : List AgentView). failing s (flat_map goals_of ws)) (drop_of_length-le team past)
