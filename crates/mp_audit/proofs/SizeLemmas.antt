-- The sizes of the sets of joint states.
use Rattle.std.proofs.Common.{◌≡◌, ℕ, zero, suc, ◌-◌, ◌<◌, ◌≤◌, List, [], ◌∷◌, length, get_or, Some, slice_get, sym, ap, ◌∙◌, arith}
use Rattle.std.specs.Prelude.{option_map, slice_set, Contains}
use Rattle.std.specs.FinSet as set
use Rattle.std.proofs.lemmas.List.{get_or-map, map-set, set-get_or, set-set}
use Rattle.std.proofs.lemmas.List.Elements.{All-contains}
use Rattle.std.proofs.lemmas.Option.{get_or_from_slice_get, same_Some, slice_get-map, slice_get-get_or}
use Rattle.mp_list.proofs.Members.{contains_head, no_member}
use Rattle.mp_sets.specs.Numbers.{SizedSet}
use Rattle.mp_task.specs.AgentTask.{AgentTask}
use Rattle.mp_task.specs.Agreement.{FitsTeam, IsTeamMember}
use Rattle.mp_task.specs.declared.act.Act.{Act}
use Rattle.mp_task.specs.Plan.{after_act, private_of}
use Rattle.mp_task.proofs.Agreeing.{number_at}
use Rattle.mp_audit.specs.declared.state.JointSets.{JointSets}
use Rattle.mp_audit.specs.Fits.{publics_of}
use Rattle.mp_audit.specs.States.{joint_of, members_of, mine_after, publics_after, sizes_of, HasSizes, HasSizesOf, IsBeside}

publics_are : (tasks : List AgentTask) (t : AgentTask) → Contains tasks t → ((u : AgentTask) → Contains tasks u → u.publics ≡ t.publics) → publics_of tasks ≡ t.publics
publics_are [] t here same = absurd (no_member t here)
publics_are (u ∷ us) t here same = same u (contains_head u us)

-- those of a team are those of each of its tasks
pub sizes_of_task : (tasks : List AgentTask) (t : AgentTask) (x : JointSets) → IsTeamMember tasks t → HasSizes tasks x → HasSizesOf t x
sizes_of_task tasks t x member sizes =
    let here = member.in_team in
    let size : SizedSet → ℕ = λ s. s.size in
    let number : t.me ≡ suc here.0 = number_at tasks member.agree.numbered here.0 t here.1 here.2 in
    let place : t.me - 1 ≡ here.0 = omega arith in
    let task : slice_get tasks here.0 ≡ Some t = slice_get-get_or tasks here.0 t here.1 ∙ ap (λ (u : AgentTask). Some u) here.2 in
    record {
      publics = sizes.publics ∙ publics_are tasks t here (λ u there. (member.agree.alike u t there here).publics);
      mine =
          ap (λ (k : ℕ). option_map size (slice_get x.privates.items k)) place
          ∙ sym (slice_get-map size x.privates.items here.0)
          ∙ ap (λ (ns : List ℕ). slice_get ns here.0) sizes.privates
          ∙ slice_get-map (λ (u : AgentTask). u.privates) tasks here.0
          ∙ ap (option_map (λ (u : AgentTask). u.privates)) task;
    }

-- and so those of a state that differs in a task's own part alone
pub sizes_beside : (tasks : List AgentTask) (t : AgentTask) (x y : JointSets) → HasSizes tasks x → IsBeside t x y → HasSizes tasks y
sizes_beside tasks t x y sizes beside = record { publics = beside.publics ∙ sizes.publics; privates = beside.privates ∙ sizes.privates }

-- ---- the set in the place of a task's agent

pub mine_within : (sets : List SizedSet) (k n : ℕ) → option_map (λ s. s.size) (slice_get sets k) ≡ Some n → k < length sets
mine_within [] k n e = absurd (cc)
mine_within (s ∷ sets) zero n e = omega arith
mine_within (s ∷ sets) (suc k) n e = let lt = mine_within sets k n e in omega (arith, lt)

pub mine_size : (sets : List SizedSet) (k n : ℕ) (s : SizedSet) → option_map (λ s. s.size) (slice_get sets k) ≡ Some n → s ≡ get_or sets k s → s.size ≡ n
mine_size sets k n s e is =
    same_Some s.size n (ap (λ (x : SizedSet). Some x.size) is
    ∙ sym (ap (option_map (λ (x : SizedSet). x.size)) (slice_get-get_or sets k s (mine_within sets k n e))) ∙ e)

module _ (t : AgentTask) (x : JointSets) (sets : List SizedSet) (k : ℕ) (sets_are : sets ≡ x.privates.items) (place : k ≡ t.me - 1) (sizes : HasSizesOf t x) where
  there : option_map (λ s. s.size) (slice_get sets k) ≡ Some t.privates
  there = (λ j. option_map (λ (s : SizedSet). s.size) (slice_get (sets_are j) (place j))) ∙ sizes.mine

  pub own_within : k < length sets
  own_within = mine_within sets k t.privates there

  pub own_size : (s : SizedSet) → s ≡ get_or sets k s → s.size ≡ t.privates
  own_size s is = mine_size sets k t.privates s there is

  pub own_members : (s : SizedSet) → s ≡ get_or sets k s → s.members ≡ private_of (joint_of x) t.me
  own_members s is =
      ap (λ (y : SizedSet). y.members) is
      ∙ sym (get_or-map (λ (y : SizedSet). y.members) sets k s set.empty own_within)
      ∙ (λ j. get_or (members_of (sets_are j)) (place j) set.empty)

-- ---- a state that differs in a task's own part alone

-- the size of the set in the agent's place
pub mine_beside : (t : AgentTask) (x y : JointSets) → HasSizesOf t x → IsBeside t x y → option_map (λ s. s.size) (slice_get y.privates.items (t.me - 1)) ≡ Some t.privates
mine_beside t x y sizes beside =
    let size : SizedSet → ℕ = λ s. s.size in
    sym (slice_get-map size y.privates.items (t.me - 1))
    ∙ ap (λ (ns : List ℕ). slice_get ns (t.me - 1)) beside.privates
    ∙ slice_get-map size x.privates.items (t.me - 1)
    ∙ sizes.mine

module _ (t : AgentTask) (act : Act) (x y new : JointSets) where
  abbrev sets_after : List SizedSet
  sets_after = slice_set x.privates.items (t.me - 1) (mine_after t x act)

  sets_are : IsBeside t x y → new.privates.items ≡ slice_set y.privates.items (t.me - 1) (mine_after t x act) → new.privates.items ≡ sets_after
  sets_are beside privates = privates ∙ beside.others (mine_after t x act)

  pub reached_joint : IsBeside t x y → new.publics ≡ publics_after x act → new.privates.items ≡ slice_set y.privates.items (t.me - 1) (mine_after t x act)
      → joint_of new ≡ after_act (joint_of x) t.me act
  reached_joint beside publics privates =
      let members =
      ap members_of (sets_are beside privates)
      ∙ map-set (λ (s : SizedSet). s.members) x.privates.items (t.me - 1) (mine_after t x act) in
      λ j. record { publics = (publics j).members; privates = members j }

  pub reached_beside : HasSizesOf t x → IsBeside t x y → new.publics ≡ publics_after x act → new.privates.items ≡ slice_set y.privates.items (t.me - 1) (mine_after t x act)
      → IsBeside t x new
  reached_beside sizes beside publics privates =
      let size : SizedSet → ℕ = λ s. s.size in
      let here : slice_get (sizes_of x.privates.items) (t.me - 1) ≡ Some t.privates = slice_get-map size x.privates.items (t.me - 1) ∙ sizes.mine in
      record {
        publics = ap size publics;
        privates =
            ap sizes_of (sets_are beside privates)
            ∙ map-set size x.privates.items (t.me - 1) (mine_after t x act)
            ∙ ap (slice_set (sizes_of x.privates.items) (t.me - 1)) (sym (get_or_from_slice_get (sizes_of x.privates.items) (t.me - 1) t.privates 0 here))
            ∙ set-get_or (sizes_of x.privates.items) (t.me - 1) 0;
        others = λ s.
            ap (λ (xs : List SizedSet). slice_set xs (t.me - 1) s) (sets_are beside privates)
            ∙ set-set x.privates.items (t.me - 1) (mine_after t x act) s;
      }

-- each agent of a team is one of as many as a task says
pub number_within : (tasks : List AgentTask) (t other : AgentTask) → IsTeamMember tasks t → Contains tasks other → other.me ≤ t.agents
number_within tasks t other member there =
    let number : other.me ≡ suc there.0 = number_at tasks member.agree.numbered there.0 other there.1 there.2 in
    let lt = there.1 in
    let count : t.agents ≡ length tasks = (All-contains (FitsTeam tasks) tasks t member.agree.team member.in_team).agents in
    omega arith
