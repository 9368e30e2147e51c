-- The two files of a factor.
use Rattle.std.specs.Prelude.{ℕ, Bool, false, List, [], ◌∷◌, if◌then◌else◌, codes}
use Rattle.mp_sexp.specs.declared.tree.Place.{Place}
use Rattle.mp_sexp.specs.Node.{Node}
use Rattle.mp_forms.specs.declared.fault.Fault.{Fault}
use Rattle.mp_forms.specs.declared.word.Word.{Word}
use Rattle.mp_forms.specs.declared.typed_values.Typed.{Typed}
use Rattle.mp_forms.specs.declared.signature_values.Signature.{Signature}
use Rattle.mp_forms.specs.declared.literal.Literal.{Literal}
use Rattle.mp_forms.specs.declared.schema_values.Schema.{Schema}
use Rattle.mp_forms.specs.declared.init_values.Start.{Start}
use Rattle.mp_forms.specs.FactorParts.{DomainParts, ProblemParts}
use Rattle.mp_forms.specs.Parts.{place_of, parts, is_list}
use Rattle.mp_forms.specs.Reading.{Reading, Says, misshapen, faults_in, besides, ◌with◌, keyword, alone}
use Rattle.mp_forms.specs.Rules.Words.{name_rule}
use Rattle.mp_forms.specs.Rules.Typed.{names, objects}
use Rattle.mp_forms.specs.Rules.Signatures.{predicates, functions}
use Rattle.mp_forms.specs.Rules.Init.{empty_start}
use Rattle.mp_forms.specs.Rules.Sections.{domain_words, problem_words, sections_rule, in_section, listed_rule, named_rule, start_rule, goal_rule, metric_rule, actions_rule}

-- ---- a domain

abbrev pub domain_of : Word → List Typed → List Typed → List Signature → List Signature → List Schema → DomainParts
domain_of word types constants predicates functions schemas = record {
  word = word;
  types = types;
  constants = constants;
  predicates = predicates;
  functions = functions;
  schemas = schemas;
}

-- what a domain of this name says in its sections
unfoldable pub domain_parts : Reading Word → List Node → Reading DomainParts
domain_parts name sections =
    Says domain_of
    with name
    with in_section (codes ":types") (listed_rule (names false)) (Says []) sections
    with in_section (codes ":constants") (listed_rule objects) (Says []) sections
    with in_section (codes ":predicates") (listed_rule predicates) (Says []) sections
    with in_section (codes ":functions") (listed_rule functions) (Says []) sections
    with actions_rule sections

abbrev pub domain_sections : Place → Reading Word → List Node → Reading DomainParts
domain_sections whole name sections =
    besides (sections_rule domain_words problem_words sections) (domain_parts name sections)

-- ---- a problem

abbrev pub problem_of : Word → Word → List Typed → Start → List Literal → Bool → ProblemParts
problem_of word domain objects start goals metric = record {
  word = word;
  domain = domain;
  objects = objects;
  init = start.facts;
  values = start.values;
  goals = goals;
  metric = metric;
}

-- what a problem of this name says in its sections, in the list at this place: its domain is wanted
unfoldable pub problem_parts : Place → Reading Word → List Node → Reading ProblemParts
problem_parts whole name sections =
    Says problem_of
    with name
    with in_section (codes ":domain") named_rule (misshapen whole) sections
    with in_section (codes ":objects") (listed_rule objects) (Says []) sections
    with in_section (codes ":init") start_rule (Says empty_start) sections
    with in_section (codes ":goal") goal_rule (Says []) sections
    with in_section (codes ":metric") metric_rule (Says false) sections

abbrev pub problem_sections : Place → Reading Word → List Node → Reading ProblemParts
problem_sections whole name sections =
    besides (sections_rule problem_words domain_words sections) (problem_parts whole name sections)

-- ---- a file

abbrev pub title_members : List ℕ → Place → List Node → Reading Word
title_members kind whole [] = misshapen whole
title_members kind whole (head ∷ rest) = besides (keyword kind head) (alone name_rule whole rest)

-- `(KIND NAME)`
unfoldable pub title_rule : List ℕ → Node → Reading Word
title_rule kind node = title_members kind (place_of node) (parts node)

abbrev pub define_members : {X : Type 0} → List ℕ → (Place → Reading Word → List Node → Reading X) → Place → List Node → Reading X
define_members kind inside whole (head ∷ title ∷ sections) =
    besides (keyword (codes "define") head) (inside whole (title_rule kind title) sections)
define_members kind inside whole _ = misshapen whole

-- `(define (KIND NAME) SECTION ..)`
unfoldable pub file_rule : {X : Type 0} → List ℕ → (Place → Reading Word → List Node → Reading X) → Node → Reading X
file_rule kind inside node =
    if is_list node then define_members kind inside (place_of node) (parts node) else misshapen (place_of node)

-- a domain file
abbrev pub domain_rule : Node → Reading DomainParts
domain_rule node = file_rule (codes "domain") domain_sections node

-- a problem file
abbrev pub problem_rule : Node → Reading ProblemParts
problem_rule node = file_rule (codes "problem") problem_sections node

-- every fault of a domain, and of a problem
abbrev pub domain_faults : Node → List Fault
domain_faults node = faults_in (domain_rule node)

abbrev pub problem_faults : Node → List Fault
problem_faults node = faults_in (problem_rule node)
