-- When two texts are the domain and the problem of a factor, as their trees, shapes and names are read.
use Rattle.std.specs.Prelude.{◌≡◌, ◌≤◌, ℕ, List, [], length}
use Rattle.mp_sexp.specs.Node.{Node}
use Rattle.mp_sexp.specs.Spelling.{HasTree}
use Rattle.mp_forms.specs.FactorParts.{DomainParts, ProblemParts}
use Rattle.mp_forms.specs.Reading.{Says}
use Rattle.mp_forms.specs.Rules.Files.{domain_rule, problem_rule, domain_faults, problem_faults}
use Rattle.mp_forms.specs.declared.fault.Fault.{Fault}
use Rattle.mp_forms.specs.declared.files.File.{File}
use Rattle.mp_forms.specs.declared.files.File.TheVariants.{Domain, Problem}
use Rattle.mp_typing.specs.CheckFaults.{check_faults}

-- the greatest number of bytes of a factor's file
abbrev pub longest_file : ℕ
longest_file = 4194304

-- the faults of the shape of a file's tree
abbrev pub shape_faults : File → Node → List Fault
shape_faults Domain node = domain_faults node
shape_faults Problem node = problem_faults node

-- a text is not too long, and spells a tree that has the shape of this file
pub record IsShaped (which : File) (text : List ℕ) (node : Node) : Type 0 where
  pub short : length text ≤ longest_file
  pub tree : HasTree text node
  pub shape : shape_faults which node ≡ []

-- nothing is wrong with the names of what two trees say
pub record HaveNames (domain_tree problem_tree : Node) : Type 0 where
  pub domain : DomainParts
  pub problem : ProblemParts
  pub domain_says : domain_rule domain_tree ≡ Says domain
  pub problem_says : problem_rule problem_tree ≡ Says problem
  pub names : check_faults domain problem ≡ []

-- two texts are the domain and the problem of a factor
pub record AreFactor (domain problem : List ℕ) : Type 0 where
  pub domain_tree : Node
  pub problem_tree : Node
  pub domain_shaped : IsShaped Domain domain domain_tree
  pub problem_shaped : IsShaped Problem problem problem_tree
  pub names : HaveNames domain_tree problem_tree
