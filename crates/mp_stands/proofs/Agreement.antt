-- The tasks of a team agree on what each shows the others.
use Rattle.std.proofs.Common.{arith, ◌≡◌, ◌≤◌, ℕ, zero, suc, ◌+◌, ◌==◌, Bool, true, false, cond, List, [], ◌∷◌, map, length, All, Some, slice_get, get_or, refl, sym, ap, ◌∙◌, subst, inl, inr}
use Rattle.std.proofs.lemmas.Bool.{eqb-true, eq-eqb, true≢false, cases_Bool}
use Rattle.std.proofs.lemmas.List.{length-map}
use Rattle.std.proofs.lemmas.List.Elements.{Contains-get_or}
use Rattle.std.proofs.lemmas.Option.{none-some, same_Some, slice_get-map}
use Rattle.std.specs.FinSet as set
use Rattle.std.specs.List.{enumerate_from, flat_map, list_all, range_with_len}
use Rattle.std.specs.Option.{option_map}
use Rattle.std.specs.Prelude.{Contains}
use Rattle.mp_list.proofs.Members.{contains_head, contains_tail, contains_cases, no_member, to_map, from_map, from_flat_map}
use Rattle.mp_forms.specs.declared.factor.Factor.{Factor}
use Rattle.mp_task.specs.declared.act.Act.{Act}
use Rattle.mp_task.specs.declared.act.Far.{Far}
use Rattle.mp_task.specs.AgentTask.{AgentTask}
use Rattle.mp_task.specs.Agreement.{IsFarPart, IsFarList, FitsTeam, SayAlike, Agree}
use Rattle.mp_task.specs.Met.{is_met, met_at_start}
use Rattle.mp_task.specs.Public as task
use Rattle.mp_task.proofs.Agreeing.{Contains-slice_get}
use Rattle.mp_views.specs.declared.view.View.{View}
use Rattle.mp_stands.proofs.MemberLists.{has_place, mapped}
use Rattle.mp_ground_laws.specs.Checked.{IsChecked}
use Rattle.mp_grounder.specs.declared.grounded.Ground.{Ground}
use Rattle.mp_split.specs.Closed.{closed_view, part_of}
use Rattle.mp_split.specs.TaskOf.{Shown, numbered_act, far_part, parts_for, task_of}
use Rattle.mp_split.specs.Team.{AreGrounded, shown_by}
use Rattle.mp_stands.proofs.Acts.{map_twice}
use Rattle.mp_stands.proofs.JoinedLists.{in_parts}
use Rattle.mp_stands.proofs.Made.{itself}
use Rattle.mp_stands.proofs.Once.{AreOnce, once_pairs, once_parts}
use Rattle.mp_stands.proofs.Ordered.{AllLater, later_append, later_pairs}
use Rattle.mp_stands.proofs.PublicParts.{same_far, same_public}
use Rattle.mp_stands.proofs.Shows.{named_act, own_within, from_acts, to_acts, far_once}
use Rattle.mp_stands.proofs.Tables.{has_factor}

-- ---- numbered lists

pub record IsNumbered {X : Type 0} (n : ℕ) (xs : List X) (m : ℕ) (x : X) : Type 0 where
  pub index : ℕ
  pub is : m ≡ n + index
  pub at : slice_get xs index ≡ Some x

later_numbered : {X : Type 0} (n : ℕ) (y : X) (xs : List X) (m : ℕ) (x : X) → IsNumbered (n + 1) xs m x → IsNumbered n (y ∷ xs) m x
later_numbered n y xs m x h = record { index = suc h.index; is = omega (arith, h.is); at = h.at }

from_numbered : {X : Type 0} (n : ℕ) (xs : List X) (e : ℕ × X) → Contains (enumerate_from n xs) e → IsNumbered n xs e.0 e.1
from_numbered n [] e found = absurd (no_member e found)
from_numbered {X} n (x ∷ xs) e found =
    elim (contains_cases (n, x) (enumerate_from (n + 1) xs) e found) [
      | inl here ↦ subst (λ (f : ℕ × X). IsNumbered n (x ∷ xs) f.0 f.1) here (record { index = 0; is = omega arith; at = refl })
      | inr there ↦ later_numbered n x xs e.0 e.1 (from_numbered (n + 1) xs e there)
    ]

to_numbered : {X : Type 0} (n : ℕ) (xs : List X) (k : ℕ) (x : X) → slice_get xs k ≡ Some x → Contains (enumerate_from n xs) (n + k, x)
to_numbered n [] k x at = absurd (none-some x at)
to_numbered {X} n (y ∷ ys) zero x at =
    let same : ◌≡◌ {A = ℕ × X} (n, y) (n + 0, x) = λ i. ((let e : n ≡ n + 0 = omega arith in e) i, same_Some y x at i) in
    subst (Contains ((n, y) ∷ enumerate_from (n + 1) ys)) same (contains_head (n, y) (enumerate_from (n + 1) ys))
to_numbered {X} n (y ∷ ys) (suc k) x at =
    let next : (n + 1) + k ≡ n + suc k = omega arith in
    subst (λ m. Contains (enumerate_from n (y ∷ ys)) (m, x)) next
    (contains_tail (n, y) (enumerate_from (n + 1) ys) ((n + 1) + k, x) (to_numbered (n + 1) ys k x at))

numbered_once : {X : Type 0} (n : ℕ) (xs : List X) → AreOnce (λ (e : ℕ × X). e.0) (enumerate_from n xs)
numbered_once n [] = tt
numbered_once n (x ∷ xs) = (
  λ e found same. let h = from_numbered (n + 1) xs e found in absurd (omega (arith, h.is, same)),
  numbered_once (n + 1) xs,
)

all_level : (n : ℕ) (xs : List Far) → ((f : Far) → Contains xs f → f.by ≡ n) → AllLater (λ a b. a.by ≤ b.by) xs
all_level n [] h = tt
all_level n (x ∷ xs) h = (
  λ y found. omega (arith, h x (contains_head x xs), h y (contains_tail x xs y found)),
  all_level n xs (λ f found. h f (contains_tail x xs f found)),
)

module _ (team : List Factor) (grounds : List Ground) (all : All IsChecked team) (are : AreGrounded team grounds) where
  abbrev shown : Shown
  shown = shown_by team grounds

  abbrev tasks : List AgentTask
  tasks = map (task_of shown) grounds

  abbrev views : List View
  views = map closed_view grounds

  me_at : (place : ℕ) (g : Ground) → slice_get grounds place ≡ Some g → g.me ≡ place + 1
  me_at place g ground_at =
      let factor = has_factor team grounds place g are.one_each ground_at in (are.each place factor.0 g factor.1 ground_at).0.me

  -- the agent whose view stands at a place
  record IsViewOf (k : ℕ) (v : View) : Type 0 where
    ground : Ground
    at : slice_get grounds k ≡ Some ground
    is : closed_view ground ≡ v

  view_at : (k : ℕ) (v : View) → slice_get views k ≡ Some v → IsViewOf k v
  view_at k v at =
      let found = mapped closed_view (slice_get grounds k) v (sym (slice_get-map closed_view grounds k) ∙ at) in
      record { ground = found.0; at = found.1; is = found.2 }

  module _ (me : ℕ) where
    abbrev far : List Far
    far = flat_map (parts_for shown me) (enumerate_from 1 views)

    -- ---- what stands in the list

    of_view : (k : ℕ) (m : ℕ) (g : Ground) (part : Far) → m ≡ 1 + k → slice_get grounds k ≡ Some g → (m ≡ me → ⊥)
        → Contains (map (far_part shown m) (closed_view g).acts) part → IsFarPart tasks me part
    of_view k m g part is_m ground_at other found =
        let factor = has_factor team grounds k g are.one_each ground_at in
        let from = from_map (far_part shown m) (closed_view g).acts part found in
        let of = from_acts team grounds all are k factor.0 g factor.1 ground_at from.0 from.1 in
        let named = named_act team grounds all are k factor.0 g factor.1 ground_at of.act of.listed in
        let agent : m ≡ g.me = omega (arith, is_m, me_at k g ground_at) in
        let act = numbered_act shown g.publics of.act in
        record {
          other = task_of shown g;
          in_team = to_map (task_of shown) grounds g (Contains-slice_get grounds k g ground_at);
          another = λ same. other (agent ∙ same);
          act = act;
          own = to_map (numbered_act shown g.publics) g.acts of.act of.listed;
          public = same_public shown g.publics (own_within team grounds all are k factor.0 g factor.1 ground_at) of.act named ∙ of.public;
          is =
              sym from.2 ∙ ap (far_part shown m) (sym of.is) ∙ same_far g.publics of.act named shown m
              ∙ ap (λ n. task.part_of n act) agent;
        }

    of_one : (e : ℕ × View) (part : Far) → Contains (enumerate_from 1 views) e → Contains (parts_for shown me e) part → IsFarPart tasks me part
    of_one (m, v) part listed found = by (m == me) refl found
      where
        by : (b : Bool) → (m == me) ≡ b → Contains (cond b [] (map (far_part shown m) v.acts)) part → IsFarPart tasks me part
        by true e found = absurd (no_member part found)
        by false e found =
            let n = from_numbered 1 views (m, v) listed in
            let view = view_at n.index v n.at in
            of_view n.index m view.ground part n.is view.at (λ same. true≢false (sym (eq-eqb m me same) ∙ e))
            (subst (λ (w : View). Contains (map (far_part shown m) w.acts) part) (sym view.is) found)

    only_parts : (part : Far) → Contains far part → IsFarPart tasks me part
    only_parts part found =
        let from = from_flat_map (parts_for shown me) (enumerate_from 1 views) part found in of_one from.0 part from.1 from.2

    -- ---- what has to stand there

    other_parts : (m : ℕ) (v : View) (part : Far) → (m ≡ me → ⊥) → Contains (map (far_part shown m) v.acts) part → Contains (parts_for shown me (m, v)) part
    other_parts m v part other found =
        elim (cases_Bool (m == me)) [
          | inl same ↦ absurd (other (eqb-true m me same))
          | inr differs ↦ subst (λ b. Contains (cond b [] (map (far_part shown m) v.acts)) part) (sym differs) found
        ]

    stands_there : (place : ℕ) (g : Ground) (act : Act) → slice_get grounds place ≡ Some g → (g.me ≡ me → ⊥) → Contains (task_of shown g).acts act
        → task.is_public act ≡ true → Contains far (task.part_of g.me act)
    stands_there place g act ground_at other own public =
        let factor = has_factor team grounds place g are.one_each ground_at in
        let from = from_map (numbered_act shown g.publics) g.acts act own in
        let a = from.0 in
        let named = named_act team grounds all are place factor.0 g factor.1 ground_at a from.1 in
        let own_public : task.is_public a ≡ true =
        sym (same_public shown g.publics (own_within team grounds all are place factor.0 g factor.1 ground_at) a named) ∙ ap task.is_public from.2 ∙ public in
        let m = 1 + place in
        let agent : m ≡ g.me = omega (arith, me_at place g ground_at) in
        let listed = to_map (far_part shown m) (closed_view g).acts (part_of g.publics a)
        (to_acts team grounds all are place factor.0 g factor.1 ground_at a from.1 own_public) in
        let part = far_part shown m (part_of g.publics a) in
        let there : Contains far part =
        in_parts (parts_for shown me) (enumerate_from 1 views) (m, closed_view g) part
        (to_numbered 1 views place (closed_view g) (slice_get-map closed_view grounds place ∙ ap (option_map closed_view) ground_at))
        (other_parts m (closed_view g) part (λ same. other (sym agent ∙ same)) listed) in
        subst (Contains far)
        (same_far g.publics a named shown m ∙ (λ i. task.part_of (agent i) (from.2 i))) there

    all_parts : (part : Far) → IsFarPart tasks me part → Contains far part
    all_parts part h =
        let from = from_map (task_of shown) grounds h.other h.in_team in
        let place = has_place grounds from.0 from.1 in
        let same = sym from.2 in
        let is : part ≡ task.part_of from.0.me h.act = h.is ∙ ap (λ (t : AgentTask). task.part_of t.me h.act) same in
        subst (Contains far) (sym is)
        (stands_there place.0 from.0 h.act place.1
        (subst (λ (t : AgentTask). t.me ≡ me → ⊥) same h.another)
        (subst (λ (t : AgentTask). Contains t.acts h.act) same h.own) h.public)

    -- ---- none twice, agent by agent

    by_is : (e : ℕ × View) (f : Far) → Contains (parts_for shown me e) f → f.by ≡ e.0
    by_is (m, v) f found = by (m == me) found
      where
        by : (b : Bool) → Contains (cond b [] (map (far_part shown m) v.acts)) f → f.by ≡ m
        by true found = absurd (no_member f found)
        by false found = let from = from_map (far_part shown m) v.acts f found in ap (λ (x : Far). x.by) (sym from.2)

    one_once : (e : ℕ × View) → Contains (enumerate_from 1 views) e → AreOnce itself (parts_for shown me e)
    one_once (m, v) listed = by (m == me)
      where
        by : (b : Bool) → AreOnce itself (cond b [] (map (far_part shown m) v.acts))
        by true = tt
        by false =
            let n = from_numbered 1 views (m, v) listed in
            let view = view_at n.index v n.at in
            let factor = has_factor team grounds n.index view.ground are.one_each view.at in
            subst (λ (w : View). AreOnce itself (map (far_part shown m) w.acts)) view.is
            (far_once team grounds all are n.index factor.0 view.ground factor.1 view.at m)

    parts_once : AreOnce itself far
    parts_once =
        once_parts itself (parts_for shown me) (λ (e : ℕ × View). e.0) (λ (f : Far). f.by) (enumerate_from 1 views) one_once by_is (numbered_once 1 views)

    in_turn : (n : ℕ) (vs : List View) → AllLater (λ (a b : Far). a.by ≤ b.by) (flat_map (parts_for shown me) (enumerate_from n vs))
    in_turn n [] = tt
    in_turn n (v ∷ vs) =
        later_append (λ (a b : Far). a.by ≤ b.by) (parts_for shown me (n, v)) (flat_map (parts_for shown me) (enumerate_from (n + 1) vs))
        (all_level n (parts_for shown me (n, v)) (λ f found. by_is (n, v) f found)) (in_turn (n + 1) vs)
        (λ a b first second.
        let from = from_flat_map (parts_for shown me) (enumerate_from (n + 1) vs) b second in
        let number = from_numbered (n + 1) vs from.0 from.1 in
        omega (arith, by_is (n, v) a first, by_is from.0 b from.2, number.is))

    pub far_list : IsFarList tasks me far
    far_list = record {
      exact = λ part. (only_parts part, all_parts part);
      once = once_pairs itself far parts_once;
      by_agent = later_pairs (λ (a b : Far). a.by ≤ b.by) far (in_turn 1 views);
    }

  -- ---- what the tasks say alike

  same_met : map (λ (v : View). v.met) views ≡ met_at_start tasks
  same_met =
      map_twice (λ (v : View). v.met) closed_view grounds
      ∙ (λ i. map (λ (g : Ground). list_all (λ n. sym (set.contains-from_list_nat g.start n) i) g.goal_priv) grounds)
      ∙ sym (map_twice (λ (t : AgentTask). is_met t (set.from_list t.start_priv)) (task_of shown) grounds)

  fits : (t : AgentTask) → Contains tasks t → FitsTeam tasks t
  fits t found =
      let from = from_map (task_of shown) grounds t found in
      subst (FitsTeam tasks) from.2 (record {
        agents = length-map grounds closed_view ∙ sym (length-map grounds (task_of shown));
        met = same_met;
        far = far_list from.0.me;
      })

  numbered_from : (n : ℕ) (gs : List Ground) → ((k : ℕ) (g : Ground) → slice_get gs k ≡ Some g → g.me ≡ n + k)
      → map (λ (t : AgentTask). t.me) (map (task_of shown) gs) ≡ range_with_len n (length (map (task_of shown) gs))
  numbered_from n [] each = refl
  numbered_from n (g ∷ gs) each =
      let first : g.me ≡ n = each 0 g refl ∙ (let e : n + 0 ≡ n = omega arith in e) in
      let rest = numbered_from (n + 1) gs (λ k o at. each (suc k) o at ∙ (let e : n + suc k ≡ (n + 1) + k = omega arith in e)) in
      λ i. first i ∷ rest i

  say_alike : (t u : AgentTask) → Contains tasks t → Contains tasks u → SayAlike t u
  say_alike t u first second =
      let one = from_map (task_of shown) grounds t first in
      let other = from_map (task_of shown) grounds u second in
      subst (λ x. SayAlike x u) one.2
      (subst (SayAlike (task_of shown one.0)) other.2 (record { publics = refl; start_pub = refl; goal_pub = refl }))

  pub tasks_agree : Agree tasks
  tasks_agree = record {
    numbered = numbered_from 1 grounds (λ k g at. me_at k g at ∙ (let e : k + 1 ≡ 1 + k = omega arith in e));
    team = λ k d less. fits (get_or tasks k d) (Contains-get_or tasks k d less);
    alike = say_alike;
  }
