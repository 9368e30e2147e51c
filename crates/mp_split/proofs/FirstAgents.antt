-- The grounded factors of the first agents of a team, one more and all.
use Rattle.mp_split.proofs.Basics.{arith, ◌≡◌, ℕ, zero, suc, ◌<◌, ◌≤◌, List, [], ◌∷◌, ◌++◌, map, length, get_or, All, Some, refl, sym, ap, subst, ◌∙◌, length-map, slice_get, zip2, Factor, Text, OpenView, view_text, open_view, Ground}
use Rattle.mp_split.proofs.Basics.{IsRefusedBy, IsWithin, AreBegun, closed_view, task_of, IsReady, IsFirstRefusal, open_views, Tasks}
use Rattle.std.proofs.lemmas.List.Elements.{All-map}
use Rattle.std.proofs.lemmas.Option.{slice_get-get_or, slice_get_within}
use Rattle.std.proofs.lemmas.Simd.{length-zip2}
use Rattle.mp_task.specs.Limits.{IsWithinLimits}
use Rattle.mp_grounder.specs.declared.refusal.GroundRefusal.{GroundRefusal}
use Rattle.mp_grounder.specs.declared.refusal.GroundRefusal.TheVariants.{OutOfMemory}
use Rattle.mp_split.specs.Begun.{IsBegun}
use Rattle.mp_split.specs.Team.{AreGrounded, AreTasksOf, known_at, shown_by}
use Rattle.mp_split.proofs.OneTask.{within_limits}
use Rattle.mp_split.proofs.Showing.{ready}
use Rattle.mp_split.proofs.Together.{of_one_team, same_task, shown_of}

-- ---- places of lists

some_at : {X : Type 0} (xs : List X) (i : ℕ) → i < length xs → (x : X) × (slice_get xs i ≡ Some x)
some_at [] i h = absurd (omega arith)
some_at (x ∷ xs) zero h = (x, refl)
some_at (x ∷ xs) (suc i) h = some_at xs i (omega arith)

-- what holds at each place of a list and behind its end holds at each place with one more item
pushed : {X : Type 0} (P : ℕ → X → Type 0) (xs : List X) (x : X) → ((i : ℕ) (y : X) → slice_get xs i ≡ Some y → P i y) → P (length xs) x
    → (i : ℕ) (y : X) → slice_get (xs ++ x ∷ []) i ≡ Some y → P i y
pushed P [] x each last zero y at = let same : x ≡ y = cc in subst (P 0) same last
pushed P [] x each last (suc i) y at = absurd (cc)
pushed P (z ∷ zs) x each last zero y at = each 0 y at
pushed P (z ∷ zs) x each last (suc i) y at = pushed (λ j. P (suc j)) zs x (λ j. each (suc j)) last i y at

-- ---- one more agent

module _ (team : List Factor) (grounds : List Ground) (factor : Factor) (begun : AreBegun team grounds)
    (at : slice_get team (length grounds) ≡ Some factor) where
  pub one_more : (g : Ground) → IsBegun (known_at team (length grounds) factor) g → AreBegun team (grounds ++ g ∷ [])
  one_more g is = record {
    each = λ place other h at_team at_grounds.
        pushed (λ i u. (f : Factor) → slice_get team i ≡ Some f → IsBegun (known_at team i f) u) grounds g
        (λ i u here f there. begun.each i f u there here)
        (λ f there.
        let both : Some factor ≡ Some f = sym at ∙ there in
        let same : factor ≡ f = cc in
        subst (λ o. IsBegun (known_at team (length grounds) o) g) same is)
        place h at_grounds other at_team;
  }

  pub refused_next : (e : GroundRefusal) → IsRefusedBy (known_at team (length grounds) factor) e → IsFirstRefusal team e
  refused_next e is = record {
    place = length grounds;
    factor = factor;
    at = at;
    refused = is;
    earlier = λ before other below at_team. let (g, here) = some_at grounds before below in (begun.each before other g at_team here).within;
  }

-- want of memory may come anywhere
pub no_memory : (team : List Factor) → 1 ≤ length team → IsFirstRefusal team OutOfMemory
no_memory team h =
    let (factor, at) = some_at team 0 (omega arith) in
    record {
      place = 0;
      factor = factor;
      at = at;
      refused = tt;
      earlier = λ before other below at_team. absurd (omega arith);
    }

-- ---- all agents

module _ (team : List Factor) (grounds : List Ground) where
  pub all_within : length grounds ≡ length team → AreBegun team grounds
      → (place : ℕ) (factor : Factor) → slice_get team place ≡ Some factor → IsWithin (known_at team place factor)
  all_within count begun place factor at =
      let within = slice_get_within team place factor at in
      let (g, here) = some_at grounds place (omega arith) in
      (begun.each place factor g at here).within

  pub all_grounded : length grounds ≡ length team → AreBegun team grounds → AreGrounded team grounds
  all_grounded count begun = record {
    one_each = count;
    each = λ place factor g at here. let is = begun.each place factor g at here in (is.grounded, is.limits);
  }

  pub all_ready : AreGrounded team grounds → All (IsReady (length grounds)) grounds
  all_ready are = λ k d lt.
      let count = are.one_each in
      let (factor, at) = some_at team k (omega arith) in
      let (is, limits) = are.each k factor (get_or grounds k d) at (slice_get-get_or grounds k d lt) in
      let me = is.me in
      ready (length grounds) (known_at team k factor) (get_or grounds k d) is limits (omega arith) (omega arith)

-- the tasks of a team keep the limits
pub tasks_fit : (team : List Factor) (t : Tasks) → AreTasksOf team t → length team ≤ 16 → All IsWithinLimits t.tasks
tasks_fit team t are most =
    let grounds = are.grounds in
    let count = are.grounded.one_each in
    let init = (open_views team).init in
    let is_ready = all_ready team grounds are.grounded in
    subst (All IsWithinLimits) (sym are.tasks)
    (All-map IsWithinLimits (task_of (shown_by team grounds)) grounds
    (λ k d lt.
    let g = get_or grounds k d in
    subst IsWithinLimits (same_task init grounds (omega arith) is_ready g)
    (within_limits _ _ g (of_one_team init grounds (omega arith) is_ready k d lt))))

-- ---- the bytes of each agent

bytes_at : (team : List Factor) (grounds : List Ground) (place : ℕ) (factor : Factor) (g : Ground)
    → slice_get team place ≡ Some factor → slice_get grounds place ≡ Some g
    → slice_get (zip2 view_text (map open_view team) (map closed_view grounds)) place ≡ Some (view_text (open_view factor) (closed_view g))
bytes_at [] grounds place factor g at_team at_grounds = absurd (cc)
bytes_at (f ∷ fs) [] place factor g at_team at_grounds = absurd (cc)
bytes_at (f ∷ fs) (h ∷ hs) zero factor g at_team at_grounds =
    let same_factor : f ≡ factor = cc in
    let same_ground : h ≡ g = cc in
    λ i. Some (view_text (open_view (same_factor i)) (closed_view (same_ground i)))
bytes_at (f ∷ fs) (h ∷ hs) (suc place) factor g at_team at_grounds = bytes_at fs hs place factor g at_team at_grounds

-- the tasks that are made of a team's grounded factors are those of the team
pub of_the_team : (team : List Factor) (before : List OpenView) (init : List Text) (grounds : List Ground) (t : Tasks)
    → before ≡ map open_view team → init ≡ (open_views team).init → AreGrounded team grounds
    → t.tasks ≡ map (task_of (shown_of init grounds)) grounds → t.steps ≡ map (λ g. g.steps) grounds
    → t.views ≡ zip2 view_text before (map closed_view grounds) → AreTasksOf team t
of_the_team team before init grounds t before_is init_is grounded tasks steps views =
    let views_are : t.views ≡ zip2 view_text (map open_view team) (map closed_view grounds) =
    views ∙ ap (λ vs. zip2 view_text vs (map closed_view grounds)) before_is in
    let count = grounded.one_each in
    let opened = length-map team open_view in
    let closed = length-map grounds closed_view in
    record {
      grounds = grounds;
      grounded = grounded;
      tasks = tasks ∙ ap (λ texts. map (task_of (shown_of texts grounds)) grounds) init_is;
      steps = steps;
      one_view_each = ap length views_are ∙ length-zip2 view_text (map open_view team) (map closed_view grounds) (omega arith) ∙ opened;
      views = λ place factor g at_team at_grounds. ap (λ vs. slice_get vs place) views_are ∙ bytes_at team grounds place factor g at_team at_grounds;
    }
