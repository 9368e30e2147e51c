-- What an agent knows of the start is what is so in the team.
use Rattle.std.proofs.Common.{◌≡◌, ℕ, zero, suc, ◌+◌, Bool, true, false, cond, ◌&&◌, ◌||◌, List, [], ◌∷◌, map, filter, All, Some, None, is_none, if◌then◌else◌, refl, sym, ap, ◌∙◌, subst, inl, inr}
use Rattle.std.proofs.lemmas.List.Elements.{All-head, All-tail}
use Rattle.std.proofs.lemmas.Option.{none-some, same_Some}
use Rattle.std.specs.Cmp.Lexicographic.{pointwise}
use Rattle.std.specs.List.{list_any}
use Rattle.std.specs.Option.{option_map}
use Rattle.std.specs.Prelude.{Contains}
use Rattle.std.specs.Str.{bytes_eq}
use Rattle.mp_list.proofs.Bools.{same_tests}
use Rattle.mp_list.proofs.Members.{any_from, some_member, from_map}
use Rattle.mp_forms.specs.declared.atom_values.Atom.{Atom}
use Rattle.mp_forms.specs.declared.factor.Factor.{Factor}
use Rattle.mp_task.proofs.Agreeing.{Contains-slice_get}
use Rattle.mp_joint.specs.declared.fact.NamedFact.{NamedFact}
use Rattle.mp_joint.specs.Fact.{Text, named, same_owner, same_fact, is_among, is_listed}
use Rattle.mp_joint.specs.FactorContribution.{privates_of, facts_of, factor_contribution, contributions_from, team_of}
use Rattle.mp_joint.specs.Grounding.{fact_of, objects_of}
use Rattle.mp_joint.specs.Plan.{Contribution, joint_start}
use Rattle.mp_lifting.specs.Texts.{bracketed, fact_text}
use Rattle.mp_lifting.specs.Views.{is_initial}
use Rattle.mp_views.specs.Opened.{open_view, public_init}
use Rattle.mp_views.proofs.SortedLaws.{same_texts}
use Rattle.mp_stands.specs.Touched.{factor_of}
use Rattle.mp_stands.proofs.Contributed.{contribution_is, contributed}
use Rattle.mp_stands.proofs.Owners.{IsFactOf, owner_is, same_agent}
use Rattle.mp_joint.proofs.SameFacts.{Decides-among}
use Rattle.mp_ground_laws.specs.Checked.{IsChecked}
use Rattle.mp_ground_laws.proofs.Parts.{IsAtom, parts_of}
use Rattle.mp_split.specs.Team.{open_views}
use Rattle.mp_stands.specs.Declared.{AreDeclared}
use Rattle.mp_stands.proofs.JoinedLists.{any_of_map, any_of_parts}
use Rattle.mp_stands.proofs.Named.{atom_declared, none_stand}
use Rattle.mp_stands.proofs.Spelled.{declared_spelled}
use Rattle.mp_stands.proofs.Words.{AreSpelled, same_text}

-- ---- public facts

one_shown : (f : NamedFact) (p : Text) (args : List Text) (n : ℕ) (private rest : Bool) (others : List NamedFact) → f.owner ≡ None
    → (bytes_eq f.predicate p && pointwise bytes_eq f.args args) ≡ bytes_eq (fact_text f) (bracketed (p ∷ args))
    → rest ≡ is_listed (fact_text f) (map fact_text others)
    → (same_fact f (record { owner = if private then Some n else None; predicate = p; args = args }) || rest)
    ≡ is_listed (fact_text f)
    (map fact_text
    (cond (is_none {T = ℕ} (if private then Some 1 else None)) (record { owner = if private then Some 1 else None; predicate = p; args = args } ∷ others) others))
one_shown f p args n true rest others public names h =
    ap (λ o. (same_owner o (Some n) && (bytes_eq f.predicate p && pointwise bytes_eq f.args args)) || rest) public ∙ h
one_shown f p args n false rest others public names h =
    ap (λ o. (same_owner o None && (bytes_eq f.predicate p && pointwise bytes_eq f.args args)) || rest) public ∙ (λ i. names i || h i)

-- of a factor's initial facts it is one exactly where its text is one of a public one
init_shown : (f : NamedFact) (other : Factor) (n : ℕ) (atoms : List Atom) → f.owner ≡ None → AreSpelled f.predicate f.args → IsChecked other
    → All (IsAtom [] other) atoms
    → is_among f (facts_of n other [] [] atoms)
    ≡ is_listed (fact_text f) (map fact_text (filter (λ (g : NamedFact). is_none g.owner) (facts_of 1 other [] [] atoms)))
init_shown f other n [] public spelled checked h = refl
init_shown f other n (a ∷ as') public spelled checked h =
    let args = objects_of [] [] a.terms in
    let privates = privates_of other in
    let declared = atom_declared other [] [] a (none_stand other) (All-head (IsAtom [] other) a as' h) in
    one_shown f a.word.name args n
    (is_listed a.word.name privates.predicates || list_any (λ o. is_listed o privates.objects) args)
    (is_among f (facts_of n other [] [] as'))
    (filter (λ (g : NamedFact). is_none g.owner) (facts_of 1 other [] [] as')) public
    (same_text f.predicate a.word.name f.args args spelled (declared_spelled other a.word.name args checked declared))
    (init_shown f other n as' public spelled checked (All-tail (IsAtom [] other) a as' h))

all_shown : (f : NamedFact) (n : ℕ) (team : List Factor) → f.owner ≡ None → AreSpelled f.predicate f.args → All IsChecked team
    → list_any (λ (other : Factor). is_listed (fact_text f) (map fact_text (public_init other))) team
    ≡ list_any (λ (c : Contribution). is_among f c.init) (contributions_from n team)
all_shown f n [] public spelled checked = refl
all_shown f n (other ∷ team) public spelled checked =
    let here = All-head IsChecked other team checked in
    let one = init_shown f other n other.problem.init public spelled here (parts_of other here.no_fault).init in
    let rest = all_shown f (n + 1) team public spelled (All-tail IsChecked other team checked) in
    λ i. sym one i || rest i

pub public_start : (f : NamedFact) (team : List Factor) → f.owner ≡ None → AreSpelled f.predicate f.args → All IsChecked team
    → is_listed (fact_text f) (open_views team).init ≡ joint_start (team_of team) f
public_start f team public spelled checked =
    let text = fact_text f in
    same_texts _ text
    ∙ any_of_parts (bytes_eq text) (λ v. v.init) (map open_view team)
    ∙ any_of_map (λ v. is_listed text v.init) open_view team
    ∙ (λ i. list_any (λ (other : Factor). same_texts (map fact_text (public_init other)) text i) team)
    ∙ all_shown f 1 team public spelled checked

-- ---- private facts

pub contributes : (team : List Factor) (me : ℕ) (factor : Factor) → factor_of team me ≡ Some factor → Contains (team_of team) (factor_contribution me factor)
contributes team zero factor at = absurd (none-some factor at)
contributes team (suc k) factor at =
    Contains-slice_get (team_of team) k (factor_contribution (suc k) factor)
    (contribution_is team (suc k) ∙ ap (option_map (factor_contribution (suc k))) at)

of_facts : (agent : ℕ) (factor : Factor) (atoms : List Atom) (f : NamedFact) → Contains (facts_of agent factor [] [] atoms) f → IsFactOf agent factor f
of_facts agent factor atoms f found =
    let from = from_map (fact_of agent (privates_of factor) [] []) atoms f found in
    subst (IsFactOf agent factor) from.2 (record { rule = refl })

own_start : (f : NamedFact) (team : List Factor) (me : ℕ) (factor : Factor) → factor_of team me ≡ Some factor → f.owner ≡ Some me
    → is_among f (facts_of me factor [] [] factor.problem.init) ≡ joint_start (team_of team) f
own_start f team me factor at mine =
    let own = facts_of me factor [] [] factor.problem.init in
    same_tests (is_among f own) (joint_start (team_of team) f)
    (λ h. any_from (λ (c : Contribution). is_among f c.init) (team_of team) (factor_contribution me factor) (contributes team me factor at) h)
    (λ h.
    let found = some_member (λ (c : Contribution). is_among f c.init) (team_of team) h in
    let by = contributed team found.0 found.1 in
    let there : is_among f (factor_contribution by.agent by.factor).init ≡ true =
    subst (λ (c : Contribution). is_among f c.init ≡ true) (sym by.is) found.2 in
    let of = of_facts by.agent by.factor by.factor.problem.init f ((Decides-among f (factor_contribution by.agent by.factor).init).0 there) in
    let agents : by.agent ≡ me = sym (same_agent me by.agent by.factor f mine of) in
    let factors : by.factor ≡ factor = same_Some by.factor factor (sym by.at ∙ ap (factor_of team) agents ∙ at) in
    subst (λ b. b ≡ true) (λ i. is_among f (factor_contribution (agents i) (factors i)).init) there)

-- ---- all facts of the agent

pub start_of : (team : List Factor) (me : ℕ) (factor : Factor) (f : NamedFact) → All IsChecked team → factor_of team me ≡ Some factor → IsChecked factor
    → IsFactOf me factor f → AreDeclared factor f.predicate f.args → is_initial me factor (open_views team) f ≡ joint_start (team_of team) f
start_of team me factor f checked at own of declared =
    let shown = is_listed (fact_text f) (open_views team).init in
    let mine = is_among f (facts_of me factor [] [] factor.problem.init) in
    elim (owner_is me factor f of) [
      | inl public ↦
          ap (λ o. if is_none o then shown else mine) public
          ∙ public_start f team public (declared_spelled factor f.predicate f.args own declared) checked
      | inr private ↦ ap (λ o. if is_none o then shown else mine) private ∙ own_start f team me factor at private
    ]

pub same_start : (team : List Factor) (me : ℕ) (factor : Factor) (p : Text) (args : List Text) → All IsChecked team → factor_of team me ≡ Some factor
    → IsChecked factor → AreDeclared factor p args
    → is_initial me factor (open_views team) (named me (privates_of factor) p args) ≡ joint_start (team_of team) (named me (privates_of factor) p args)
same_start team me factor p args checked at own declared =
    start_of team me factor (named me (privates_of factor) p args) checked at own (record { rule = refl }) declared
