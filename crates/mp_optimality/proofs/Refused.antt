-- A certificate's text has one first refused line for the files of a team, and none where it is that of a certificate that fits.
use Rattle.std.proofs.Common.{◌≡◌, ◌≤◌, ℕ, List, length, All, subst, arith}
use Rattle.mp_audit.specs.declared.certificate.Certificate.{Certificate}
use Rattle.mp_certificates.specs.Accepted.{IsRefusedLine, IsTextOf}
use Rattle.mp_forms.specs.declared.factor.Factor.{Factor}
use Rattle.mp_ground_laws.specs.Checked.{IsChecked}
use Rattle.mp_split.specs.Team.{AreTasksOf}
use Rattle.mp_split.specs.declared.team.Tasks.{Tasks}
use Rattle.mp_task.specs.AgentTask.{AgentTask}
use Rattle.mp_task.specs.Limits.{IsWithinLimits}
use Rattle.mp_text.specs.Lines.{Text}
use Rattle.mp_optimality.specs.Audits.{HasCertificate, HasTasks, IsCertificateRefused}
use Rattle.mp_optimality.proofs.Tasks.{as_many_tasks, within}

-- the laws of tasks and of texts of certificates
abbrev pub OneTasks : Type 0
OneTasks = (team : List Factor) (t u : Tasks) → All IsChecked team → AreTasksOf team t → AreTasksOf team u → u.tasks ≡ t.tasks

abbrev pub OneLine : Type 0
OneLine =
    (tasks : List AgentTask) (text : Text) (m n : ℕ) → length tasks ≤ 16 → All IsWithinLimits tasks
    → IsRefusedLine tasks text m → IsRefusedLine tasks text n → m ≡ n

abbrev pub NoLine : Type 0
NoLine =
    (tasks : List AgentTask) (text : Text) (certificate : Certificate) (n : ℕ) → length tasks ≤ 16 → All IsWithinLimits tasks
    → IsTextOf tasks certificate text → IsRefusedLine tasks text n → ⊥

few_tasks : (team : List Factor) (h : HasTasks team) → All IsChecked team → length h.tasks.tasks ≤ 16
few_tasks team h checked =
    let many = as_many_tasks team h.tasks checked h.are_tasks in
    let few = h.few in
    omega (arith, many, few)

limits : (team : List Factor) (h : HasTasks team) → All IsWithinLimits h.tasks.tasks
limits team h = within team h.tasks h.are_tasks h.within h.few

module _ (tasks : OneTasks) (team : List Factor) (text : Text) (checked : All IsChecked team) where
  -- the tasks are the same
  refused_for : (h : HasTasks team) (n : ℕ) → IsCertificateRefused team text n → IsRefusedLine h.tasks.tasks text n
  refused_for h n g =
      subst (λ ts. IsRefusedLine ts text n)
      (tasks team h.tasks g.team_has.tasks checked h.are_tasks g.team_has.are_tasks) g.refused

  pub one_line : OneLine → (m n : ℕ) → IsCertificateRefused team text m → IsCertificateRefused team text n → m ≡ n
  one_line one m n h g =
      one h.team_has.tasks.tasks text m n (few_tasks team h.team_has checked) (limits team h.team_has) h.refused
      (refused_for h.team_has n g)

  pub no_line : NoLine → (n : ℕ) → HasCertificate team text → IsCertificateRefused team text n → ⊥
  no_line none n h g =
      none h.team_has.tasks.tasks text h.certificate n (few_tasks team h.team_has checked) (limits team h.team_has)
      h.is_certificate (refused_for h.team_has n g)
