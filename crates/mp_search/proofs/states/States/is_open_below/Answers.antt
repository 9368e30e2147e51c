use Rattle.std.proofs.Common.{◌≡◌, ℕ, Some, None, sym, ap, ◌∙◌}
use Rattle.std.specs.Prelude.{option_map}
use Rattle.mp_store.specs.Minima.{least_f, least_goal}
use Rattle.mp_store.proofs.Naming.{least_f-named, least_goal-named}
use Rattle.mp_search.specs.Search.{is_below_bound}
use Rattle.mp_search.specs.StateKeys.{KeptStates, state_of_key}
use Rattle.mp_search.proofs.states.States.is_open_below.Goals as goal

pub returns-in_default : goal.returns-in_default
returns-in_default c =
    let name = state_of_key c.self.inside.tokens.sets in
    let least : None ≡ least_f c.args.self.now.kept =
    sym c.in_default.is ∙ c.least_f.ensures ∙ sym (least_f-named name c.self.inside.store) ∙ ap (λ (x : KeptStates). least_f x.kept) c.self.view_is
    in
    (λ j. is_below_bound (least j) (option_map (λ goal. goal.0) (least_goal c.args.self.now.kept)))

pub returns-in-Some-least_goal : goal.returns-in-Some-least_goal
returns-in-Some-least_goal c =
    let name = state_of_key c.self.inside.tokens.sets in
    let least : Some c.in-Some.least ≡ least_f c.args.self.now.kept =
    sym c.in-Some.is ∙ c.least_f.ensures ∙ sym (least_f-named name c.self.inside.store) ∙ ap (λ (x : KeptStates). least_f x.kept) c.self.view_is
    in
    let goal : c.least_goal.result ≡ least_goal c.args.self.now.kept =
    c.least_goal.ensures ∙ sym (least_goal-named name c.self.inside.store) ∙ ap (λ (x : KeptStates). least_goal x.kept) c.self.view_is
    in
    ap (λ o. is_below_bound (Some c.in-Some.least) (option_map (λ (goal : ℕ × ℕ). goal.0) o)) (sym c.in-Some-least_goal.is)
    ∙ (λ j. is_below_bound (least j) (option_map (λ (goal : ℕ × ℕ). goal.0) (goal j)))

pub returns-in-None : goal.returns-in-None
returns-in-None c =
    let name = state_of_key c.self.inside.tokens.sets in
    let least : Some c.in-Some.least ≡ least_f c.args.self.now.kept =
    sym c.in-Some.is ∙ c.least_f.ensures ∙ sym (least_f-named name c.self.inside.store) ∙ ap (λ (x : KeptStates). least_f x.kept) c.self.view_is
    in
    let goal : None ≡ least_goal c.args.self.now.kept =
    sym c.in-None.is ∙ c.least_goal.ensures ∙ sym (least_goal-named name c.self.inside.store) ∙ ap (λ (x : KeptStates). least_goal x.kept) c.self.view_is
    in
    (λ j. is_below_bound (least j) (option_map (λ (goal : ℕ × ℕ). goal.0) (goal j)))
