-- What is wrong in a factor: names that are not declared, numbers of terms, and names that are declared twice.
use Rattle.std.specs.Prelude.{List, [], ◌∷◌, ◌++◌, if◌then◌else◌}
use Rattle.std.specs.List.{flat_map}
use Rattle.std.specs.Str.{bytes_eq}
use Rattle.mp_forms.specs.declared.files.File.TheVariants as files
use Rattle.mp_forms.specs.declared.word.Word.{Word}
use Rattle.mp_forms.specs.declared.typed_values.Typed.{Typed}
use Rattle.mp_forms.specs.declared.schema_values.Schema.{Schema}
use Rattle.mp_forms.specs.declared.init_values.Value.{Value}
use Rattle.mp_forms.specs.declared.factor.Factor.{Factor}
use Rattle.mp_forms.specs.FactorParts.{DomainParts, ProblemParts}
use Rattle.mp_typing.specs.declared.fault.Fault.{Fault}
use Rattle.mp_typing.specs.declared.fault.FaultKind.TheVariants.{WrongDomain}
use Rattle.mp_typing.specs.Faults.{fault_at}
use Rattle.mp_typing.specs.Lookups.{factor_of, objects_of}
use Rattle.mp_typing.specs.Uses.{atom_faults, literal_faults, function_faults, increase_faults}
use Rattle.mp_typing.specs.Repeats.{repeated_faults, parameter_faults, object_faults}

-- the problem belongs to the domain
unfoldable pub owner_faults : Word → Word → List Fault
owner_faults name owner = if bytes_eq owner.name name.name then [] else fault_at WrongDomain files.Problem owner ∷ []

-- an action: its parameters, its condition and its effects
unfoldable pub schema_faults : Factor → Schema → List Fault
schema_faults factor schema =
    parameter_faults [] schema.params
    ++ flat_map (literal_faults files.Domain schema.params factor) schema.pre
    ++ flat_map (atom_faults files.Domain schema.params factor) schema.add
    ++ flat_map (atom_faults files.Domain schema.params factor) schema.del
    ++ flat_map (increase_faults files.Domain schema.params factor) schema.increases

-- the names that a domain declares
unfoldable pub declared_faults : List Typed → DomainParts → List Fault
declared_faults objects domain =
    flat_map (object_faults files.Domain objects) domain.constants
    ++ repeated_faults files.Domain (λ s. s.word) domain.predicates
    ++ repeated_faults files.Domain (λ s. s.word) domain.functions
    ++ repeated_faults files.Domain (λ s. s.word) domain.schemas

-- the value of a function at the start
unfoldable pub value_faults : Factor → Value → List Fault
value_faults factor value = function_faults files.Problem [] factor value.of

-- a problem knows no variable
unfoldable pub problem_faults : Factor → List Fault
problem_faults factor =
    flat_map (object_faults files.Problem (objects_of factor)) factor.problem.objects
    ++ flat_map (atom_faults files.Problem [] factor) factor.problem.init
    ++ flat_map (value_faults factor) factor.problem.values
    ++ flat_map (literal_faults files.Problem [] factor) factor.problem.goals

-- every fault of a factor
unfoldable pub check_faults : DomainParts → ProblemParts → List Fault
check_faults domain problem =
    owner_faults domain.word problem.domain
    ++ declared_faults (objects_of (factor_of domain problem)) domain
    ++ flat_map (schema_faults (factor_of domain problem)) domain.schemas
    ++ problem_faults (factor_of domain problem)
