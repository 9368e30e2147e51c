-- The tasks of a team stand for its factors.
use Rattle.std.proofs.Common.{List, map, All, sym, ◌∙◌, subst}
use Rattle.std.proofs.lemmas.List.{length-map}
use Rattle.std.specs.Prelude.{Contains}
use Rattle.mp_forms.specs.declared.factor.Factor.{Factor}
use Rattle.mp_task.specs.AgentTask.{AgentTask}
use Rattle.mp_stands.specs.Numbering.{Numbering}
use Rattle.mp_stands.specs.Stands.{AreTrueAtStart, Stands}
use Rattle.mp_list.proofs.Members.{from_map}
use Rattle.mp_ground_laws.specs.Checked.{IsChecked}
use Rattle.mp_grounder.specs.declared.grounded.Ground.{Ground}
use Rattle.mp_split.specs.declared.team.Tasks.{Tasks}
use Rattle.mp_split.specs.TaskOf.{task_of}
use Rattle.mp_split.specs.Team.{AreGrounded, AreTasksOf, shown_by}
use Rattle.mp_stands.specs.Numbered.{IsNumberingOf}
use Rattle.mp_stands.proofs.Agreement.{tasks_agree}
use Rattle.mp_stands.proofs.Numbering.{has_numbering}
use Rattle.mp_stands.proofs.PublicStart.{public_starts}
use Rattle.mp_stands.proofs.Standing.{publics_counted, shown_publics, task_stands}

module _ (team : List Factor) (grounds : List Ground) (all : All IsChecked team) (are : AreGrounded team grounds) (numbering : Numbering)
    (is : IsNumberingOf team grounds numbering) where
  abbrev tasks : List AgentTask
  tasks = map (task_of (shown_by team grounds)) grounds

  -- the public numbers of what is true at the start
  pub public_start_is : (t : AgentTask) → Contains tasks t → AreTrueAtStart team numbering.publics t.start_pub
  public_start_is t found =
      let from = from_map (task_of (shown_by team grounds)) grounds t found in
      subst (λ (u : AgentTask). AreTrueAtStart team numbering.publics u.start_pub) from.2
      (public_starts team all grounds are numbering.publics is.texts (shown_publics team grounds all are numbering is))

  pub stands : Stands team numbering tasks
  stands = record {
    one_each = length-map grounds (task_of (shown_by team grounds)) ∙ are.one_each;
    counted = publics_counted team grounds all are numbering is;
    tasks_stand = λ t found.
        let s = task_stands team grounds all are numbering is t found in
        record {
          publics = s.publics;
          privates = s.privates;
          counted = s.counted;
          acts = s.acts;
          start_pub = public_start_is t found;
          start_priv = s.start_priv;
          goal = s.goal;
        };
    agree = tasks_agree team grounds all are;
  }

-- the tasks of a team of files
pub files_stand : (team : List Factor) (t : Tasks) → All IsChecked team → (h : AreTasksOf team t)
    → (numbering : Numbering) × IsNumberingOf team h.grounds numbering × Stands team numbering t.tasks
files_stand team t all h =
    let found = has_numbering team h.grounds all h.grounded in
    (found.0, found.1, subst (Stands team found.0) (sym h.tasks) (stands team h.grounds all h.grounded found.0 found.1))
