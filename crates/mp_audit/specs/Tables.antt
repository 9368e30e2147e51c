-- What is worked out of a certificate before its entries are audited one by one.
use Rattle.std.specs.Prelude.{◌≡◌, ℕ, List, [], Some, All, Contains, IfSome, length, map, slice_get}
use Rattle.mp_sets.specs.Numbers.{SizedSet}
use Rattle.mp_task.specs.AgentTask.{AgentTask}
use Rattle.mp_task.specs.Agreement.{IsTeamMember}
use Rattle.mp_applicable.specs.Far.{IsFarIndexOf}
use Rattle.mp_applicable.specs.Index.{IsIndexOf}
use Rattle.mp_audit.specs.declared.certificate.Bound.{Bound}
use Rattle.mp_audit.specs.declared.chains.Chains.{Chains}
use Rattle.mp_audit.specs.declared.lookup.AuditData.{AuditData}
use Rattle.mp_audit.specs.declared.lookup.Finder.{Finder}
use Rattle.mp_audit.specs.declared.table.Table.{Table}
use Rattle.mp_audit.specs.declared.table.Table.TheVariants as tables
use Rattle.mp_audit.specs.declared.verdict.AuditVerdict.TheVariants.{Double}
use Rattle.mp_audit.specs.Chains.{AreChained}
use Rattle.mp_audit.specs.Failures.{doubles}
use Rattle.mp_audit.specs.Fits.{BoundFits}
use Rattle.mp_audit.specs.States.{sizes_of}

-- all entries are chained
pub record AreAllChained (tasks : List AgentTask) (bounds : List Bound) (chains : Chains) : Type 0 where
  pub chained : AreChained tasks bounds chains
  pub all : length chains.before.items ≡ length bounds

-- the entries by their states, where none repeats an earlier one, or else the first one that does
abbrev pub IsTable : List AgentTask → List Bound → Table → Type 0
IsTable tasks bounds (tables.Once chains) = AreAllChained tasks bounds chains × (doubles bounds ≡ [])
IsTable tasks bounds (tables.Double entry) = slice_get (doubles bounds) 0 ≡ Some (Double entry)

-- what finds the actions of an agent that may be applied, and tells whom their states concern
pub record IsFinderOf (t : AgentTask) (finder : Finder) : Type 0 where
  pub actions : IsIndexOf t finder.actions
  pub far : IsFarIndexOf t finder.far

-- one for each task, in their order
pub record AreFindersOf (tasks : List AgentTask) (finders : List Finder) : Type 0 where
  pub as_many : length finders ≡ length tasks
  pub each : (k : ℕ) → IfSome (slice_get finders k) (λ finder. (t : AgentTask) → slice_get tasks k ≡ Some t → IsFinderOf t finder)

-- sets of numbers of actions, one for each task
abbrev pub AreActionSets : List AgentTask → List SizedSet → Type 0
AreActionSets tasks sets = sizes_of sets ≡ map (λ t. length t.acts) tasks

-- all that is needed to audit entries one by one
pub record IsReady (known : AuditData) : Type 0 where
  pub team : (t : AgentTask) → Contains known.tasks.now t → IsTeamMember known.tasks.now t
  pub fits : All (BoundFits known.tasks.now) known.bounds.now.entries
  pub all : AreAllChained known.tasks.now known.bounds.now.entries known.chains
  pub once : doubles known.bounds.now.entries ≡ []
  pub finders : AreFindersOf known.tasks.now known.finders.items
