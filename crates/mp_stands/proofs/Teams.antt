-- Where one agent of a team renames, all agents ground the same, and show the same.
use Rattle.std.proofs.Common.{◌≡◌, ◌≢◌, ℕ, ◌+◌, eqb, cond, List, map, length, All, Some, slice_get, sym, ap, ◌∙◌, subst, inl, inr}
use Rattle.std.proofs.lemmas.Bool.{cases_Bool, eqb-true, eqb-false}
use Rattle.std.proofs.lemmas.List.{map-id}
use Rattle.std.proofs.lemmas.Option.{get_or_from_slice_get, same_Some, slice_get_within, slice_get-map}
use Rattle.std.specs.Option.{option_map}
use Rattle.mp_forms.specs.declared.factor.Factor.{Factor}
use Rattle.mp_joint.specs.declared.plan.PlanStep.{PlanStep}
use Rattle.mp_lifting.specs.declared.view.OpenView.{OpenView}
use Rattle.mp_lifted.specs.Binding.{ActionBinding}
use Rattle.mp_views.specs.Lines.{view_text}
use Rattle.mp_views.specs.Opened.{joined, open_view}
use Rattle.mp_ground_laws.specs.Checked.{IsChecked}
use Rattle.mp_ground_laws.specs.Named.{step_of}
use Rattle.mp_grounder.specs.declared.grounded.Ground.{Ground}
use Rattle.mp_grounder.specs.Grounded.{IsGrounded}
use Rattle.mp_split.specs.declared.team.Tasks.{Tasks}
use Rattle.mp_split.specs.Closed.{closed_view}
use Rattle.mp_split.specs.TaskOf.{Shown, task_of}
use Rattle.mp_split.specs.Team.{open_views, known_at, shown_by, AreGrounded, AreTasksOf}
use Rattle.mp_stands.specs.Renaming.{Renaming, IsRenaming, IsRenamed}
use Rattle.mp_stands.specs.Team.{IsRenamedTeam, AreRenamedSteps, renamed_step, step_for}
use Rattle.mp_stands.specs.Translation.{AreAlike}
use Rattle.mp_stands.proofs.Alike.{renamed_alike}
use Rattle.mp_stands.proofs.SameGrounds.{known, grounded_alike}
use Rattle.mp_stands.proofs.ComparedLists.{also_at, mapped_alike, same_by_place}
use Rattle.mp_stands.proofs.RenamedSteps.{steps_alike}
use Rattle.mp_stands.proofs.Unique.{AreSameButSteps, grounded_once}

checked_at : (team : List Factor) → All IsChecked team → (n : ℕ) (f : Factor) → slice_get team n ≡ Some f → IsChecked f
checked_at team all n f at =
    subst IsChecked (get_or_from_slice_get team n f f at) (all n f (slice_get_within team n f at))

module _ (place : ℕ) (r : Renaming) (team other : List Factor) (checked : All IsChecked team)
    (others : All IsChecked other) (is : IsRenamedTeam place r team other) where
  -- ---- two factors at one place

  -- of the agent that renames
  record IsRenamedPair (f g : Factor) : Type 0 where
    renaming : IsRenaming f r
    renamed : IsRenamed r f g

  at_place : (n : ℕ) (f g : Factor) → n ≡ place → slice_get team n ≡ Some f → slice_get other n ≡ Some g
      → IsRenamedPair f g
  at_place n f g same at there =
      let at' : slice_get team place ≡ Some f = subst (λ m. slice_get team m ≡ Some f) same at in
      let there' : slice_get other place ≡ Some g = subst (λ m. slice_get other m ≡ Some g) same there in
      record { renaming = is.renaming f at'; renamed = is.renamed f g at' there' }

  -- and of another agent
  elsewhere : (n : ℕ) (f g : Factor) → n ≢ place → slice_get team n ≡ Some f → slice_get other n ≡ Some g → g ≡ f
  elsewhere n f g differs at there = same_Some g f (sym there ∙ is.others n differs ∙ at)

  alike_there : (view : OpenView) (n : ℕ) (f g : Factor) → slice_get team n ≡ Some f → slice_get other n ≡ Some g
      → IsRenamedPair f g → AreAlike view f g
  alike_there view n f g at there pair =
      renamed_alike view r f g (checked_at team checked n f at)
      (checked_at other others n g there) pair.renaming pair.renamed

  -- ---- what all show before grounding

  open_alike : (n : ℕ) (f g : Factor) → slice_get team n ≡ Some f → slice_get other n ≡ Some g
      → open_view g ≡ open_view f
  open_alike n f g at there =
      elim (cases_Bool (eqb n place)) [
        | inl here ↦
            (alike_there (open_views team) n f g at there (at_place n f g (eqb-true n place here) at there)).shown
        | inr away ↦ ap open_view (elsewhere n f g (eqb-false n place away) at there)
      ]

  pub views_alike : open_views other ≡ open_views team
  views_alike = ap joined (mapped_alike open_view open_view team other is.as_many open_alike)

  -- ---- what they ground

  module _ (grounds these : List Ground) (first : AreGrounded team grounds) (second : AreGrounded other these) where
    one_here : (n : ℕ) (f : Factor) (a : Ground) → slice_get team n ≡ Some f → slice_get grounds n ≡ Some a
        → IsGrounded (known_at team n f) a
    one_here n f a at found = (first.each n f a at found).0

    one_there : (n : ℕ) (g : Factor) (b : Ground) → slice_get other n ≡ Some g → slice_get these n ≡ Some b
        → IsGrounded (known (n + 1) g (open_views team)) b
    one_there n g b at found =
        subst (λ view. IsGrounded (known (n + 1) g view) b) views_alike (second.each n g b at found).0

    pair_alike : (n : ℕ) (f g : Factor) (a b : Ground) → slice_get team n ≡ Some f → slice_get other n ≡ Some g
        → slice_get grounds n ≡ Some a → slice_get these n ≡ Some b → AreSameButSteps a b
    pair_alike n f g a b at there found taken =
        let one = one_here n f a at found in
        let two = one_there n g b there taken in
        elim (cases_Bool (eqb n place)) [
          | inl here ↦
              let alike =
              alike_there (open_views team) n f g at there (at_place n f g (eqb-true n place here) at there) in
              grounded_alike (n + 1) (open_views team) f g (checked_at team checked n f at)
              (checked_at other others n g there) alike a b one two
          | inr away ↦
              grounded_once (known (n + 1) f (open_views team)) a b one
              (subst (λ h. IsGrounded (known (n + 1) h (open_views team)) b)
              (elsewhere n f g (eqb-false n place away) at there) two)
        ]

    as_many : length these ≡ length grounds
    as_many = second.one_each ∙ is.as_many ∙ sym first.one_each

    grounds_alike : (n : ℕ) (a b : Ground) → slice_get grounds n ≡ Some a → slice_get these n ≡ Some b
        → AreSameButSteps a b
    grounds_alike n a b found taken =
        let f = also_at grounds team (sym first.one_each) n a found in
        let g = also_at these other (sym second.one_each) n b taken in
        pair_alike n f.0 g.0 a b f.1 g.1 found taken

    pub shown_alike : shown_by other these ≡ shown_by team grounds
    shown_alike =
        let views =
        mapped_alike closed_view closed_view grounds these as_many
        (λ n a b found taken. ap closed_view (grounds_alike n a b found taken)) in
        λ i. record { init = (views_alike i).init; views = views i }

    pub tasks_alike : map (task_of (shown_by other these)) these ≡ map (task_of (shown_by team grounds)) grounds
    tasks_alike =
        ap (λ (shown : Shown). map (task_of shown) these) shown_alike
        ∙ mapped_alike (task_of (shown_by team grounds)) (task_of (shown_by team grounds)) grounds these as_many
        (λ n a b found taken. ap (task_of (shown_by team grounds)) (grounds_alike n a b found taken))

    -- ---- what their steps are called

    pub steps_there : (n : ℕ) (f g : Factor) (a b : Ground) → slice_get team n ≡ Some f → slice_get other n ≡ Some g
        → slice_get grounds n ≡ Some a → slice_get these n ≡ Some b
        → map (step_of (n + 1) g) b.steps ≡ map (step_for place r n) (map (step_of (n + 1) f) a.steps)
    steps_there n f g a b at there found taken =
        let one = one_here n f a at found in
        let two = one_there n g b there taken in
        elim (cases_Bool (eqb n place)) [
          | inl here ↦
              let pair = at_place n f g (eqb-true n place here) at there in
              steps_alike (n + 1) (open_views team) r f g (checked_at team checked n f at)
              (checked_at other others n g there) pair.renaming pair.renamed a b one two
              ∙ ap (λ c. map (λ (s : PlanStep). cond c (renamed_step r s) s) (map (step_of (n + 1) f) a.steps))
              (sym here)
          | inr away ↦
              let same = elsewhere n f g (eqb-false n place away) at there in
              ap (λ h. map (step_of (n + 1) h) b.steps) same
              ∙ (subst (λ h. IsGrounded (known (n + 1) h (open_views team)) b) same two).steps ∙ sym one.steps
              ∙ sym (map-id (map (step_of (n + 1) f) a.steps))
              ∙ ap (λ c. map (λ (s : PlanStep). cond c (renamed_step r s) s) (map (step_of (n + 1) f) a.steps))
              (sym away)
        ]

  -- ---- the tasks of both teams

  pub same_tasks : (t u : Tasks) → AreTasksOf team t → AreTasksOf other u → u.tasks ≡ t.tasks
  same_tasks t u one two = two.tasks ∙ tasks_alike one.grounds two.grounds one.grounded two.grounded ∙ sym one.tasks

  pub same_views : (t u : Tasks) → AreTasksOf team t → AreTasksOf other u → u.views ≡ t.views
  same_views t u one two =
      same_by_place t.views u.views (two.one_view_each ∙ is.as_many ∙ sym one.one_view_each)
      (λ n x y here there.
      let f = also_at t.views team (sym one.one_view_each) n x here in
      let g = also_at u.views other (sym two.one_view_each) n y there in
      let a = also_at team one.grounds one.grounded.one_each n f.0 f.1 in
      let b = also_at other two.grounds two.grounded.one_each n g.0 g.1 in
      let before = open_alike n f.0 g.0 f.1 g.1 in
      let after = ap closed_view (grounds_alike one.grounds two.grounds one.grounded two.grounded n a.0 b.0 a.1 b.1) in
      let its = same_Some y (view_text (open_view g.0) (closed_view b.0)) (sym there ∙ two.views n g.0 b.0 g.1 b.1) in
      let own = same_Some x (view_text (open_view f.0) (closed_view a.0)) (sym here ∙ one.views n f.0 a.0 f.1 a.1) in
      its ∙ (λ i. view_text (before i) (after i)) ∙ sym own)

  -- the steps at a place are those of the grounded factor there
  of_ground : (grounds : List Ground) (steps : List (List ActionBinding)) → steps ≡ map (λ g. g.steps) grounds
      → (n : ℕ) (own : List ActionBinding) (a : Ground)
      → slice_get steps n ≡ Some own → slice_get grounds n ≡ Some a → own ≡ a.steps
  of_ground grounds steps are n own a here found =
      same_Some own a.steps
      (sym here ∙ ap (λ xs. slice_get xs n) are ∙ slice_get-map (λ (g : Ground). g.steps) grounds n
      ∙ ap (option_map (λ (g : Ground). g.steps)) found)

  pub same_steps : (t u : Tasks) → AreTasksOf team t → AreTasksOf other u
      → AreRenamedSteps place r team other t.steps u.steps
  same_steps t u one two n f g own its at there here found =
      let a = also_at team one.grounds one.grounded.one_each n f at in
      let b = also_at other two.grounds two.grounded.one_each n g there in
      let own_are = of_ground one.grounds t.steps one.steps n own a.0 here a.1 in
      let its_are = of_ground two.grounds u.steps two.steps n its b.0 found b.1 in
      ap (map (step_of (n + 1) g)) its_are
      ∙ steps_there one.grounds two.grounds one.grounded two.grounded n f g a.0 b.0 at there a.1 b.1
      ∙ ap (λ steps. map (step_for place r n) (map (step_of (n + 1) f) steps)) (sym own_are)
