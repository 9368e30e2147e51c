-- Which certificates may be audited with the tasks of a team.
use Rattle.std.specs.Prelude.{⊤, ℕ, ◌^◌, ◌≤◌, List, [], ◌∷◌, length, All}
use Rattle.mp_task.specs.AgentTask.{AgentTask}
use Rattle.mp_task.specs.Agreement.{Agree}
use Rattle.mp_task.specs.Limits.{AllLess}
use Rattle.mp_audit.specs.declared.certificate.Bound.{Bound}
use Rattle.mp_audit.specs.declared.certificate.Certificate.{Certificate}

-- how many public facts a team has, of which all tasks say the same
abbrev pub publics_of : List AgentTask → ℕ
publics_of [] = 0
publics_of (t ∷ ts) = t.publics

-- there is a list of private facts for each agent of a team, and no other
abbrev pub PrivatesFit : List AgentTask → List (List ℕ) → Type 0
PrivatesFit [] [] = ⊤
PrivatesFit [] (list ∷ lists) = ⊥
PrivatesFit (t ∷ ts) [] = ⊥
PrivatesFit (t ∷ ts) (list ∷ lists) = AllLess t.privates list × PrivatesFit ts lists

-- the greatest bound, and the greatest cost
abbrev pub most : ℕ
most = 2 ^ 60

-- the facts of an entry are facts of the team, and its bound is a number from 1 to 2^60
pub record BoundFits (tasks : List AgentTask) (b : Bound) : Type 0 where
  pub positive : 1 ≤ b.bound
  pub small : b.bound ≤ most
  pub publics : AllLess (publics_of tasks) b.publics
  pub privates : PrivatesFit tasks b.privates

-- the cost is at most 2^60, and each entry fits
pub record CertificateFits (tasks : List AgentTask) (certificate : Certificate) : Type 0 where
  pub cost : certificate.cost ≤ most
  pub bounds : All (BoundFits tasks) certificate.bounds

-- tasks that agree, and entries that fit them
pub record AreBoundsFor (tasks : List AgentTask) (bounds : List Bound) : Type 0 where
  pub agree : Agree tasks
  pub fits : All (BoundFits tasks) bounds

-- tasks that agree, and a certificate that fits them
pub record IsCertificateFor (tasks : List AgentTask) (certificate : Certificate) : Type 0 where
  pub agree : Agree tasks
  pub fits : CertificateFits tasks certificate

-- the agent of each entry is one of the team
abbrev pub AgentsFit : List AgentTask → Certificate → Type 0
AgentsFit tasks certificate = All (λ b. b.agent ≤ length tasks) certificate.bounds
