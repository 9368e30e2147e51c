-- Actions of a plan whose facts are numbers, and what they leave at each fact.
use Rattle.std.specs.Prelude.{ℕ, zero, suc, ◌==◌, Bool, false, ◌||◌, List, fold, Option, None, slice_get, slice_index_or, if◌then◌else◌}
use Rattle.std.specs.List.{list_any}
use Rattle.std.specs.Option.{option_map_or}
use Rattle.mp_steps.specs.declared.mark.Mark.{Mark}
use Rattle.mp_checker.specs.Steps.{NumberedStep}
use Rattle.mp_steps.specs.declared.role.Role.{Role}
use Rattle.mp_steps.specs.declared.role.Role.TheVariants.{Needed, Added, Deleted}
use Rattle.mp_steps.specs.declared.facts.FactMarks.{FactMarks}
use Rattle.mp_steps.specs.Levels.{Test}
use Rattle.mp_steps.specs.Marks.{no_mark, better}

-- a number is one of these
abbrev pub is_in : List ℕ → ℕ → Bool
is_in numbers fact = list_any (λ n. n == fact) numbers

-- the facts of an action in a role
abbrev pub facts_in : Role → NumberedStep → List ℕ
facts_in Needed step = step.needs
facts_in Added step = step.adds
facts_in Deleted step = step.dels

-- an action has a fact in a role, or in one of the two others
abbrev pub has : Role → Option NumberedStep → ℕ → Bool
has role o fact = option_map_or (λ step. is_in (facts_in role step) fact) o false

abbrev pub has_against : Role → Option NumberedStep → ℕ → Bool
has_against Needed o fact = has Added o fact || has Deleted o fact
has_against Added o fact = has Needed o fact || has Deleted o fact
has_against Deleted o fact = has Needed o fact || has Added o fact

-- an earlier action has a fact of a later one in another role
abbrev pub meets : Option NumberedStep → Role → NumberedStep → Bool
meets o role step = list_any (has_against role o) (facts_in role step)

-- an earlier action interferes with a later one: they are of one agent, or what one asks for the other changes, or what
-- one adds the other deletes
abbrev pub clashes : Option NumberedStep → NumberedStep → Bool
clashes o step =
    option_map_or (λ other. other.agent == step.agent) o false
    || (meets o Needed step || (meets o Added step || meets o Deleted step))

-- the action of a time
abbrev pub step_at : List NumberedStep → ℕ → Option NumberedStep
step_at steps zero = None
step_at steps (suc place) = slice_get steps place

abbrev pub clash_at : List NumberedStep → Test
clash_at steps t u = option_map_or (clashes (step_at steps t)) (step_at steps u) false

abbrev pub no_marks : FactMarks
no_marks = record { needed = no_mark; added = no_mark; deleted = no_mark }

abbrev pub marks_at : List FactMarks → ℕ → FactMarks
marks_at marks fact = slice_index_or marks fact no_marks

abbrev pub mark_in : Role → FactMarks → Mark
mark_in Needed m = m.needed
mark_in Added m = m.added
mark_in Deleted m = m.deleted

-- the best mark in the other roles
abbrev pub mark_against : Role → FactMarks → Mark
mark_against Needed m = better m.added m.deleted
mark_against Added m = better m.needed m.deleted
mark_against Deleted m = better m.needed m.added

abbrev pub with_mark : Role → Mark → FactMarks → FactMarks
with_mark Needed mark m = record { needed = better m.needed mark; added = m.added; deleted = m.deleted }
with_mark Added mark m = record { needed = m.needed; added = better m.added mark; deleted = m.deleted }
with_mark Deleted mark m = record { needed = m.needed; added = m.added; deleted = better m.deleted mark }

-- the best of a mark and of those of some facts in the other roles
unfoldable pub best_against : List FactMarks → Role → List ℕ → Mark → Mark
best_against marks role facts best = fold (λ b f. better b (mark_against role (marks_at marks f))) best facts

-- the marks of a fact, after an action with this mark
abbrev pub marked_in : Role → Mark → NumberedStep → ℕ → FactMarks → FactMarks
marked_in role mark step fact m = if is_in (facts_in role step) fact then with_mark role mark m else m

abbrev pub marked_by : Mark → NumberedStep → ℕ → FactMarks → FactMarks
marked_by mark step fact m =
    marked_in Deleted mark step fact (marked_in Added mark step fact (marked_in Needed mark step fact m))

-- the best mark of the earlier actions that clash with an action
abbrev pub met_by : List FactMarks → List Mark → NumberedStep → Mark
met_by marks agents step =
    best_against marks Deleted step.dels
    (best_against marks Added step.adds
    (best_against marks Needed step.needs (slice_index_or agents step.agent no_mark)))
