-- What the numbers of the tasks stand for that the grounded factors of a team lead to.
use Rattle.std.specs.Prelude.{◌≡◌, ℕ, ◌+◌, true, List, map, Some, Contains, slice_get}
use Rattle.mp_forms.specs.declared.factor.Factor.{Factor}
use Rattle.mp_joint.specs.declared.fact.SignedFact.{SignedFact}
use Rattle.mp_joint.specs.declared.plan.PlanStep.{PlanStep}
use Rattle.mp_lifting.specs.Texts.{signed_text}
use Rattle.mp_stands.specs.Numbering.{Numbering, privates_of, steps_of}
use Rattle.mp_views.specs.Public.{is_public}
use Rattle.mp_ground_laws.specs.Named.{step_of}
use Rattle.mp_grounder.specs.declared.grounded.Ground.{Ground}
use Rattle.mp_grounder.specs.Grounded.{IsGrounded, Known}
use Rattle.mp_split.specs.TaskOf.{table}
use Rattle.mp_split.specs.Team.{known_at, shown_by}
use Rattle.mp_stands.specs.Knowing.{IsCountedByOne}

-- of an agent, the private facts that its grounded factor has, and the steps that its actions stand for
pub record AreOwnNumbers (k : Known) (g : Ground) (privates : List SignedFact) (steps : List PlanStep) : Type 0 where
  pub grounded : IsGrounded k g
  pub privates_are : grounded.private_facts ≡ privates
  pub steps_are : map (step_of k.me k.factor) g.steps ≡ steps

-- public numbers stand for public facts and complements that some agent counts, and that have the texts of the team's
-- table; the other numbers of an agent stand for what is its own
pub record IsNumberingOf (team : List Factor) (grounds : List Ground) (numbering : Numbering) : Type 0 where
  pub texts : map signed_text numbering.publics ≡ table (shown_by team grounds)
  pub public : (x : SignedFact) → Contains numbering.publics x → (is_public x ≡ true) × IsCountedByOne team x
  pub own :
      (place : ℕ) (factor : Factor) (g : Ground)
      → slice_get team place ≡ Some factor → slice_get grounds place ≡ Some g
      → AreOwnNumbers (known_at team place factor) g
      (privates_of numbering (place + 1)) (steps_of numbering (place + 1))
