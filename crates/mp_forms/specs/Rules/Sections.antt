-- The sections of the two files (PDDL 2.1 with the action costs of PDDL 3.1 and factored privacy).
use Rattle.std.specs.Prelude.{ℕ, ◌&&◌, Bool, true, false, List, [], ◌∷◌, if◌then◌else◌, codes}
use Rattle.std.specs.List.{filter}
use Rattle.mp_sexp.specs.declared.tree.Place.{Place}
use Rattle.mp_sexp.specs.Node.{Node}
use Rattle.mp_forms.specs.declared.word.Word.{Word}
use Rattle.mp_forms.specs.declared.literal.Literal.{Literal}
use Rattle.mp_forms.specs.declared.schema_values.Schema.{Schema}
use Rattle.mp_forms.specs.declared.init_values.Start.{Start}
use Rattle.mp_forms.specs.Words.{is_among}
use Rattle.mp_forms.specs.Parts.{is_word, place_of, word_of, parts, rest_of, is_list, is_headed}
use Rattle.mp_forms.specs.Reading.{Reading, Says, misshapen, unsupported, besides, each, alone, all_right, once}
use Rattle.mp_forms.specs.Rules.Words.{name_rule}
use Rattle.mp_forms.specs.Rules.Typed.{Listing, typed_rule}
use Rattle.mp_forms.specs.Rules.Conditions.{condition_rule}
use Rattle.mp_forms.specs.Rules.Actions.{action_rule}
use Rattle.mp_forms.specs.Rules.Init.{init_rule}

-- ---- which sections there are

-- the words that begin the sections of a domain
unfoldable pub domain_words : List (List ℕ)
domain_words =
    codes ":requirements" ∷ codes ":types" ∷ codes ":constants" ∷ codes ":predicates"
    ∷ codes ":functions" ∷ codes ":action" ∷ []

-- and of a problem
unfoldable pub problem_words : List (List ℕ)
problem_words =
    codes ":requirements" ∷ codes ":domain" ∷ codes ":objects" ∷ codes ":init" ∷ codes ":goal"
    ∷ codes ":metric" ∷ []

abbrev pub headed_section : List (List ℕ) → List (List ℕ) → Node → Node → Reading (Unit {0})
headed_section own other section head =
    if is_list head then misshapen (place_of head)
    else (if is_among own (word_of head) then Says tt
    else (if is_among other (word_of head) then misshapen (place_of section) else unsupported head))

abbrev pub section_members : List (List ℕ) → List (List ℕ) → Node → List Node → Reading (Unit {0})
section_members own other section [] = misshapen (place_of section)
section_members own other section (head ∷ rest) = headed_section own other section head

-- a section of this file is wanted, where these words begin the sections of this file, and those of the other
unfoldable pub section_rule : List (List ℕ) → List (List ℕ) → Node → Reading (Unit {0})
section_rule own other section = section_members own other section (parts section)

-- the section that begins with this word, which stands at most once, by its rule
abbrev pub in_section : {X : Type 0} → List ℕ → (Node → Reading X) → Reading X → List Node → Reading X
in_section w rule missing sections = once (is_headed w) place_of rule missing sections

-- ---- what they say

-- any word but `:unfactored-privacy`
unfoldable pub requirement_rule : Node → Reading (Unit {0})
requirement_rule node =
    if is_list node then misshapen (place_of node)
    else (if is_word (codes ":unfactored-privacy") node then unsupported node else Says tt)

-- `(:requirements WORD ..)`
unfoldable pub requirements_rule : Node → Reading (Unit {0})
requirements_rule section = all_right requirement_rule (rest_of (parts section))

-- the sections of a file, and its requirements
unfoldable pub sections_rule : List (List ℕ) → List (List ℕ) → List Node → Reading (Unit {0})
sections_rule own other sections =
    besides (all_right (section_rule own other) sections)
    (in_section (codes ":requirements") requirements_rule (Says tt) sections)

-- `(WORD ITEM ..)`, of a typed list
unfoldable pub listed_rule : {X T : Type 0} → Listing X T → Node → Reading (List X)
listed_rule listing section = typed_rule listing (place_of section) (rest_of (parts section))

-- `(WORD NAME)`
unfoldable pub named_rule : Node → Reading Word
named_rule section = alone name_rule (place_of section) (rest_of (parts section))

-- `(:init FACT ..)`
unfoldable pub start_rule : Node → Reading Start
start_rule section = init_rule (rest_of (parts section))

-- `(:goal COND)`
unfoldable pub goal_rule : Node → Reading (List Literal)
goal_rule section = alone condition_rule (place_of section) (rest_of (parts section))

abbrev pub is_total_cost : List Node → Bool
is_total_cost (function ∷ []) = is_word (codes "total-cost") function
is_total_cost _ = false

-- `minimize (total-cost)`
abbrev pub is_cost_metric : List Node → Bool
is_cost_metric (direction ∷ target ∷ []) = is_word (codes "minimize") direction && is_total_cost (parts target)
is_cost_metric _ = false

abbrev pub metric_members : Place → List Node → Reading Bool
metric_members whole [] = misshapen whole
metric_members whole (head ∷ metric) = if is_cost_metric metric then Says true else unsupported head

-- `(:metric minimize (total-cost))`
unfoldable pub metric_rule : Node → Reading Bool
metric_rule section = metric_members (place_of section) (parts section)

-- each `(:action ..)`
abbrev pub actions_rule : List Node → Reading (List Schema)
actions_rule sections = each action_rule (filter (is_headed (codes ":action")) sections)
