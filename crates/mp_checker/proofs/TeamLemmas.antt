-- The factors of a team, agent by agent.
use Rattle.std.proofs.Common.{◌≡◌, ℕ, zero, suc, ◌+◌, ◌<◌, ◌≤◌, List, [], ◌∷◌, ◌++◌, length, get_or, drop, Some, refl, sym, ap, ◌∙◌, arith, append_assoc}
use Rattle.std.specs.List.{flat_map}
use Rattle.std.specs.Option.{option_map}
use Rattle.std.specs.Prelude.{slice_get}
use Rattle.std.proofs.Math.ListN.{drop_of_length-le}
use Rattle.std.proofs.lemmas.List.{drop_more, append-nil}
use Rattle.std.proofs.lemmas.Option.{slice_get-get_or}
use Rattle.mp_forms.specs.declared.factor.Factor.{Factor}
use Rattle.mp_joint.specs.Fact.{Text}
use Rattle.mp_joint.specs.FactorContribution.{factor_contribution, contributions_from, team_of}
use Rattle.mp_joint.specs.Plan.{contribution_of}
use Rattle.mp_plan_verdict.specs.Written.{factor_of}
use Rattle.mp_checker.specs.AgentView.{AgentView, Covers, AreOf, views_from, at_agent}
use Rattle.mp_checker.specs.Words.{names_of_factor}
use Rattle.mp_checker.proofs.CoversLemmas.{covers_at}

-- ---- one agent after another

rest_at : (fs : List Factor) (i : ℕ) (f : Factor) → i < length fs → f ≡ get_or fs i f → drop i fs ≡ f ∷ drop (i + 1) fs
rest_at fs i f lt is = drop_more fs i f lt ∙ ap (λ (g : Factor). g ∷ drop (i + 1) fs) (sym is)

pub one_more : (names : List Text) (team : List AgentView) (made : AgentView) (fs : List Factor) (i agent : ℕ) (f : Factor)
    → i < length fs → f ≡ get_or fs i f → agent ≡ i + 1 → made ≡ (names, agent, f)
    → team ++ views_from names (i + 1) (drop i fs) ≡ views_from names 1 fs
    → (team ++ made ∷ []) ++ views_from names ((i + 1) + 1) (drop (i + 1) fs) ≡ views_from names 1 fs
one_more names team made fs i agent f lt is number made_is so_far =
    append_assoc team (made ∷ []) (views_from names ((i + 1) + 1) (drop (i + 1) fs))
    ∙ ap (λ (v : AgentView). team ++ v ∷ views_from names ((i + 1) + 1) (drop (i + 1) fs)) (made_is ∙ (λ j. (names, number j, f)))
    ∙ ap (λ (gs : List Factor). team ++ views_from names (i + 1) gs) (sym (rest_at fs i f lt is))
    ∙ so_far

pub all_made : (names : List Text) (team : List AgentView) (fs : List Factor) (i : ℕ) → length fs ≤ i
    → team ++ views_from names (i + 1) (drop i fs) ≡ views_from names 1 fs → team ≡ views_from names 1 fs
all_made names team fs i past so_far =
    sym (append-nil team) ∙ sym (ap (λ (gs : List Factor). team ++ views_from names (i + 1) gs) (drop_of_length-le fs past)) ∙ so_far

pub covers_one : (names : List Text) (fs : List Factor) (i : ℕ) (f : Factor) → Covers names (flat_map names_of_factor fs)
    → i < length fs → f ≡ get_or fs i f → Covers names (names_of_factor f)
covers_one names fs i f c lt is =
    covers_at names_of_factor names fs i f c (slice_get-get_or fs i f lt ∙ ap (λ (g : Factor). Some g) (sym is))

pub same_names : (names : List Text) (agent : ℕ) (fs : List Factor) → AreOf names (views_from names agent fs)
same_names names agent [] = tt
same_names names agent (f ∷ fs) = (refl, same_names names (agent + 1) fs)

-- ---- the agent at a place

view_at : (names : List Text) (n k m : ℕ) (fs : List Factor) → m ≡ n + k
    → slice_get (views_from names n fs) k ≡ option_map (λ (f : Factor). (names, m, f)) (slice_get fs k)
view_at names n k m [] e = refl
view_at names n zero m (f ∷ fs) e = let same : n ≡ m = omega (arith, e) in ap (λ (a : ℕ). Some ((names, a, f))) same
view_at names n (suc k) m (f ∷ fs) e = view_at names (n + 1) k m fs (omega (arith, e))

pub view_of : (names : List Text) (agent : ℕ) (fs : List Factor)
    → at_agent (views_from names 1 fs) agent ≡ option_map (λ (f : Factor). (names, agent, f)) (factor_of fs agent)
view_of names zero fs = refl
view_of names (suc k) fs = view_at names 1 k (suc k) fs (omega arith)

part_at : (n k m : ℕ) (fs : List Factor) → m ≡ n + k
    → slice_get (contributions_from n fs) k ≡ option_map (λ (f : Factor). factor_contribution m f) (slice_get fs k)
part_at n k m [] e = refl
part_at n zero m (f ∷ fs) e = let same : n ≡ m = omega (arith, e) in ap (λ (a : ℕ). Some (factor_contribution a f)) same
part_at n (suc k) m (f ∷ fs) e = part_at (n + 1) k m fs (omega (arith, e))

pub part_of : (agent : ℕ) (fs : List Factor)
    → contribution_of (team_of fs) agent ≡ option_map (λ (f : Factor). factor_contribution agent f) (factor_of fs agent)
part_of zero fs = refl
part_of (suc k) fs = part_at 1 k (suc k) fs (omega arith)
