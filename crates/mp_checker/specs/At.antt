-- Facts in numbers: those of numbered atoms where objects stand for the parameters, and which are true.
use Rattle.std.specs.Prelude.{ℕ, Bool, false, ◌||◌, not, List, map, Option, Some, None, slice_index_or, if◌then◌else◌}
use Rattle.std.specs.List.{list_any}
use Rattle.mp_sexp.specs.Numbers.{number_in}
use Rattle.mp_joint.specs.declared.fact.NamedFact.{NamedFact}
use Rattle.mp_joint.specs.Fact.{Text}
use Rattle.mp_joint.specs.Instance.{State}
use Rattle.mp_checker.specs.declared.fact.FactNumbers.{FactNumbers}
use Rattle.mp_checker.specs.declared.numbered.ObjectNumber.{ObjectNumber}
use Rattle.mp_checker.specs.declared.numbered.TermNumber.{TermNumber}
use Rattle.mp_checker.specs.declared.numbered.TermNumber.TheVariants.{Parameter, Object}
use Rattle.mp_checker.specs.declared.numbered.NumberedAtom.{NumberedAtom}
use Rattle.mp_checker.specs.declared.numbered.NumberedLiteral.{NumberedLiteral}
use Rattle.mp_checker.specs.Keys.{same_numbers}

-- what stands at a place past the end
abbrev pub nothing : ObjectNumber
nothing = record { number = 0; private = false }

-- the object that a term is, where these objects stand for the parameters
abbrev pub object_at : List ObjectNumber → TermNumber → ObjectNumber
object_at args (Parameter place) = slice_index_or args place nothing
object_at args (Object object) = object

-- the agent, where the predicate or an object is private
abbrev pub owner_at : ℕ → List ObjectNumber → NumberedAtom → Option ℕ
owner_at agent args atom =
    if atom.private || list_any (λ t. (object_at args t).private) atom.terms then Some agent else None

-- the fact of an atom
abbrev pub fact_at : ℕ → List ObjectNumber → NumberedAtom → FactNumbers
fact_at agent args atom =
    record {
      owner = owner_at agent args atom;
      symbol = atom.symbol;
      objects = map (λ t. (object_at args t).number) atom.terms;
    }

-- a function at objects
abbrev pub function_at : List ObjectNumber → NumberedAtom → FactNumbers
function_at args atom =
    record { owner = None; symbol = atom.symbol; objects = map (λ t. (object_at args t).number) atom.terms }

-- whether a fact is among those that are kept
abbrev pub is_true : List FactNumbers → FactNumbers → Bool
is_true kept f = list_any (same_numbers f) kept

-- whether one of these is a fact
abbrev pub is_one_of : List FactNumbers → FactNumbers → Bool
is_one_of facts f = list_any (λ g. same_numbers g f) facts

-- whether a literal holds
abbrev pub holds_at : List FactNumbers → ℕ → List ObjectNumber → NumberedLiteral → Bool
holds_at kept agent args literal =
    if literal.positive then is_true kept (fact_at agent args literal.atom)
    else not (is_true kept (fact_at agent args literal.atom))

-- a fact by names in numbers
abbrev pub numbers_of : List Text → NamedFact → FactNumbers
numbers_of names f =
    record { owner = f.owner; symbol = number_in names f.predicate; objects = map (number_in names) f.args }

-- the state in which those facts are true whose numbers are kept
abbrev pub named_state : List Text → List FactNumbers → State
named_state names kept = λ f. is_true kept (numbers_of names f)
