-- What a file says is taken from it, keeps the limits, and its names are names.
use Rattle.mp_forms.proofs.Basics.{◌≡◌, [], ◌∷◌, ◌++◌, List, flat_map, All, All-nil, All-cons, All-head, All-tail, All-weaker, Node, Signature, Typed, DomainParts, ProblemParts, IsDomainOfFile, IsProblemOfFile, DomainFits, ProblemFits, Says, domain_rule, problem_rule}
use Rattle.std.proofs.lemmas.Bool.{or_left, or_right}
use Rattle.std.proofs.lemmas.List.Elements.{All-contains_itself}
use Rattle.mp_forms.specs.Kinds.{is_name, is_variable}
use Rattle.mp_forms.specs.Written.{words_of}
use Rattle.mp_forms.specs.Uses.{Use, as_name, as_variable, as_cost, object_uses, parameter_uses, signature_uses, schema_uses, domain_uses, atom_uses, value_uses, literal_uses, problem_uses, words_in}
use Rattle.mp_forms.specs.Uses.{IsName, IsNameOrVariable, IsRight, DomainIsNamed, ProblemIsNamed, IsTaken, DomainIsTaken, ProblemIsTaken}
use Rattle.mp_forms.proofs.TreeWords.{all_in_first, all_in_second}
use Rattle.mp_forms.proofs.FormLaws.{all_flat, flat_all}
use Rattle.mp_forms.proofs.FileLaws.{IsDomain, IsProblem, domain_gives, problem_gives}

-- what holds of all that is said, where its words and its costs are those of the tree
domain_says : (node : Node) (domain : DomainParts) → domain_rule node ≡ Says domain → IsDomain node domain
domain_says node = domain_gives node node (All-contains_itself (words_of node))

problem_says : (node : Node) (problem : ProblemParts) → problem_rule node ≡ Says problem → IsProblem node problem
problem_says node = problem_gives node node (All-contains_itself (words_of node))

pub domain_is_taken : (node : Node) (domain : DomainParts) → domain_rule node ≡ Says domain → DomainIsTaken node domain
domain_is_taken node domain says = (domain_says node domain says).0

pub problem_is_taken : (node : Node) (problem : ProblemParts) → problem_rule node ≡ Says problem → ProblemIsTaken node problem
problem_is_taken node problem says = (problem_says node problem says).0

-- ---- what some file says

right : (node : Node) (u : Use) → IsTaken node u → IsRight u
right node (as_name word) is = is.1
right node (as_variable word) is = is.1
right node (as_cost cost) is = tt

pub domain_of_file_fits : (d : DomainParts) → IsDomainOfFile d → DomainFits d
domain_of_file_fits d of = (domain_says of.node d of.says).1

pub domain_of_file_is_named : (d : DomainParts) → IsDomainOfFile d → DomainIsNamed d
domain_of_file_is_named d of = All-weaker (IsTaken of.node) IsRight (right of.node) (domain_uses d) (domain_is_taken of.node d of.says)

pub problem_of_file_fits : (p : ProblemParts) → IsProblemOfFile p → ProblemFits p
problem_of_file_fits p of = (problem_says of.node p of.says).1

pub problem_of_file_is_named : (p : ProblemParts) → IsProblemOfFile p → ProblemIsNamed p
problem_of_file_is_named p of = All-weaker (IsTaken of.node) IsRight (right of.node) (problem_uses p) (problem_is_taken of.node p of.says)

-- ---- words

name_or_variable : (u : Use) → IsRight u → All IsNameOrVariable (words_in u)
name_or_variable (as_name word) is =
    All-cons IsNameOrVariable word [] (or_left (is_name word.name) (is_variable word.name) is) (All-nil IsNameOrVariable)
name_or_variable (as_variable word) is =
    All-cons IsNameOrVariable word [] (or_right (is_name word.name) (is_variable word.name) is) (All-nil IsNameOrVariable)
name_or_variable (as_cost cost) is = All-nil IsNameOrVariable

pub words_named : (uses : List Use) → All IsRight uses → All IsNameOrVariable (flat_map words_in uses)
words_named uses all = all_flat IsNameOrVariable words_in uses (All-weaker IsRight (λ u. All IsNameOrVariable (words_in u)) name_or_variable uses all)

-- ---- names of some forms

pub predicates_named : (d : DomainParts) → DomainIsNamed d → All (λ (s : Signature). IsName s.word) d.predicates
predicates_named d named =
    let from_functions = flat_map signature_uses d.functions ++ flat_map schema_uses d.schemas in
    let from_predicates = flat_map signature_uses d.predicates ++ from_functions in
    let from_constants = flat_map object_uses d.constants ++ from_predicates in
    let behind = all_in_second IsRight (flat_map object_uses d.constants) from_predicates
    (all_in_second IsRight (flat_map object_uses d.types) from_constants
    (All-tail IsRight (as_name d.word) (flat_map object_uses d.types ++ from_constants) named)) in
    All-weaker (λ (s : Signature). All IsRight (signature_uses s)) (λ (s : Signature). IsName s.word)
    (λ s is. All-head IsRight (as_name s.word) (flat_map parameter_uses s.params) is) d.predicates
    (flat_all IsRight signature_uses d.predicates (all_in_first IsRight (flat_map signature_uses d.predicates) from_functions behind))

objects_by : (ts : List Typed) → All IsRight (flat_map object_uses ts) → All (λ (t : Typed). IsName t.word) ts
objects_by ts all =
    All-weaker (λ (t : Typed). All IsRight (object_uses t)) (λ (t : Typed). IsName t.word) (λ t is. All-head IsRight (as_name t.word) _ is) ts
    (flat_all IsRight object_uses ts all)

pub constants_named : (d : DomainParts) → DomainIsNamed d → All (λ (t : Typed). IsName t.word) d.constants
constants_named d named =
    let from_functions = flat_map signature_uses d.functions ++ flat_map schema_uses d.schemas in
    let from_predicates = flat_map signature_uses d.predicates ++ from_functions in
    let from_constants = flat_map object_uses d.constants ++ from_predicates in
    objects_by d.constants (all_in_first IsRight (flat_map object_uses d.constants) from_predicates
    (all_in_second IsRight (flat_map object_uses d.types) from_constants
    (All-tail IsRight (as_name d.word) (flat_map object_uses d.types ++ from_constants) named)))

pub objects_named : (p : ProblemParts) → ProblemIsNamed p → All (λ (t : Typed). IsName t.word) p.objects
objects_named p named =
    let from_values = flat_map value_uses p.values ++ flat_map literal_uses p.goals in
    let from_init = flat_map atom_uses p.init ++ from_values in
    let from_objects = flat_map object_uses p.objects ++ from_init in
    objects_by p.objects (all_in_first IsRight (flat_map object_uses p.objects) from_init
    (All-tail IsRight (as_name p.domain) from_objects (All-tail IsRight (as_name p.word) (as_name p.domain ∷ from_objects) named)))
