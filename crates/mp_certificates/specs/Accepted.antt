-- Which texts are those of certificates that fit a team, and which line of any other text is the first that is refused.
use Rattle.std.specs.Prelude.{◌≡◌, ◌≢◌, ⊤, ℕ, ◌+◌, ◌≤◌, List, [], ◌∷◌, ◌++◌, length, All, ◌⊎◌}
use Rattle.std.specs.List.Sorted.{IsStrictlyIncreasing}
use Rattle.mp_task.specs.AgentTask.{AgentTask}
use Rattle.mp_audit.specs.declared.certificate.Bound.{Bound}
use Rattle.mp_audit.specs.declared.certificate.Certificate.{Certificate}
use Rattle.mp_audit.specs.Fits.{AgentsFit, BoundFits, CertificateFits, most}
use Rattle.mp_text.specs.Lines.{Text}
use Rattle.mp_certificates.specs.declared.read.CertificateRefusal.{CertificateRefusal}
use Rattle.mp_certificates.specs.declared.read.CertificateRefusal.TheVariants.{Line, OutOfMemory}
use Rattle.mp_certificates.specs.Text.{certificate_text, cost_line, entries_text, entry_line}

-- What each entry is, whatever the team: its agent has a number from 1 on, and the facts of each list rise.
pub record IsFormed (b : Bound) : Type 0 where
  pub agent : 1 ≤ b.agent
  pub publics : IsStrictlyIncreasing b.publics
  pub privates : All IsStrictlyIncreasing b.privates

-- an entry that fits a team, of an agent of the team
pub record IsEntry (tasks : List AgentTask) (b : Bound) : Type 0 where
  pub formed : IsFormed b
  pub agent : b.agent ≤ length tasks
  pub fits : BoundFits tasks b

-- a certificate that fits a team, with entries of agents of the team alone
pub record IsCertificate (tasks : List AgentTask) (certificate : Certificate) : Type 0 where
  pub formed : All IsFormed certificate.bounds
  pub agents : AgentsFit tasks certificate
  pub fits : CertificateFits tasks certificate

-- a text is that of a certificate which fits a team
pub record IsTextOf (tasks : List AgentTask) (certificate : Certificate) (text : Text) : Type 0 where
  pub is : text ≡ certificate_text certificate
  pub certificate_fits : IsCertificate tasks certificate

-- a text does not begin with the line of a cost
abbrev pub HasNoCost : Text → Type 0
HasNoCost text = (cost : ℕ) (later : Text) → cost ≤ most → text ≢ (cost_line cost ++ 10 ∷ []) ++ later

-- nor with the line of an entry
abbrev pub HasNoEntry : List AgentTask → Text → Type 0
HasNoEntry tasks text =
    (b : Bound) (later : Text) → IsEntry tasks b → text ≢ (entry_line b ++ 10 ∷ []) ++ later

-- Behind the lines of some entries something is left that does not begin with the line of one more. It begins with the
-- line of this number, where the first entry's line is the second of the text.
pub record IsEntryRefused (tasks : List AgentTask) (text : Text) (number : ℕ) : Type 0 where
  pub entries : List Bound
  pub are : All (IsEntry tasks) entries
  pub left : Text
  pub is : text ≡ entries_text entries ++ left
  pub some : left ≢ []
  pub none : HasNoEntry tasks left
  pub is_number : number ≡ length entries + 2

-- behind the line of the cost the line of this number is refused
pub record IsLaterRefused (tasks : List AgentTask) (text : Text) (number : ℕ) : Type 0 where
  pub cost : ℕ
  pub small : cost ≤ most
  pub behind : Text
  pub is : text ≡ (cost_line cost ++ 10 ∷ []) ++ behind
  pub refused : IsEntryRefused tasks behind number

-- The line of this number is the first that is refused: those before it are the lines of a certificate's cost and of
-- entries that fit, and it is not one of these that may follow.
abbrev pub IsRefusedLine : List AgentTask → Text → ℕ → Type 0
IsRefusedLine tasks text number = ((number ≡ 1) × HasNoCost text) ⊎ IsLaterRefused tasks text number

-- A refused line is the first one. Memory may run out at any text.
abbrev pub Refuses : List AgentTask → Text → CertificateRefusal → Type 0
Refuses tasks text (Line number) = IsRefusedLine tasks text number
Refuses tasks text OutOfMemory = ⊤

-- the same of the text behind the line of the cost
abbrev pub RefusesEntry : List AgentTask → Text → CertificateRefusal → Type 0
RefusesEntry tasks text (Line number) = IsEntryRefused tasks text number
RefusesEntry tasks text OutOfMemory = ⊤
