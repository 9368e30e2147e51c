-- What the agents of a team show together: the table of their public facts, and the parts of their actions.
use Rattle.mp_split.proofs.Basics.{arith, ◌≡◌, ℕ, ◌+◌, ◌<◌, ◌≤◌, ◌==◌, true, false, cond, not, List, [], ◌∷◌, ◌++◌, map, length, get_or, All, refl, ap, ◌∙◌, length-append, inl, inr, length-map, cases_Bool, cases_lt}
use Rattle.mp_split.proofs.Basics.{nat_list_cmp_total, flat_map, filter-append, All-head, All-tail, Text, is_listed, FarFits, Part, View, sorted_once, texts_rise, Ground}
use Rattle.mp_split.proofs.Basics.{closed_view, Common, IsOfTeam, IsReady, PartFits, ShowsFit, common_of, far_in, of_others, task_with, Shown, is_goal, is_true, table, task_of}
use Rattle.std.proofs.Common.{◌*◌}
use Rattle.std.proofs.lemmas.Bool.Decides.{Decides-eqb}
use Rattle.std.proofs.lemmas.List.Concat.{length-flat_map}
use Rattle.std.proofs.lemmas.List.Elements.{All-append, All-map, All-weaker, All-nil, Contains-get_or}
use Rattle.std.proofs.lemmas.List.Sums.{sum_by-le}
use Rattle.std.specs.List.{enumerate_from}
use Rattle.mp_list.proofs.Members.{to_flat_map, to_map}
use Rattle.mp_views.proofs.SortedLaws.{same_texts}
use Rattle.mp_split.specs.Common.{parts_in}
use Rattle.mp_split.specs.TaskOf.{parts_for}
use Rattle.mp_split.proofs.InOrder.{in_order_short}
use Rattle.mp_split.proofs.Numbering.{AreIn, listed, places_less}
use Rattle.mp_split.proofs.Showing.{few_parts, parts_fit}

-- ---- the parts of all agents, and of the others

far_fits : (agents number : ℕ) (all : List Text) (part : Part) → 1 ≤ number → number ≤ agents
    → PartFits all part → FarFits agents (length all) (far_in all number part)
far_fits agents number all part from_1 in_team fits =
    let below = λ (texts : List Text). places_less (λ t. is_listed t texts) all in
    record {
      from_1 = from_1;
      in_team = in_team;
      pre = below part.pre;
      add = below part.add;
      del = below part.del;
      cost = fits.cost;
    }

all_fit : (agents number : ℕ) (all : List Text) (views : List View) → 1 ≤ number → number + length views ≤ agents + 1
    → All (λ v. All (PartFits all) v.acts) views → All (FarFits agents (length all)) (flat_map (parts_in all) (enumerate_from number views))
all_fit agents number all [] from_1 to h = All-nil (FarFits agents (length all))
all_fit agents number all (v ∷ vs) from_1 to h =
    All-append (FarFits agents (length all)) (map (far_in all number) v.acts) (flat_map (parts_in all) (enumerate_from (number + 1) vs))
    (All-map (FarFits agents (length all)) (far_in all number) v.acts
    (All-weaker (PartFits all) (λ part. FarFits agents (length all) (far_in all number part))
    (λ part fits. far_fits agents number all part from_1 (omega arith) fits)
    v.acts (All-head (λ v. All (PartFits all) v.acts) v vs h)))
    (all_fit agents (number + 1) all vs (omega arith) (omega arith) (All-tail (λ v. All (PartFits all) v.acts) v vs h))

others_of_one : (all : List Text) (me number : ℕ) (parts : List Part)
    → of_others me (map (far_in all number) parts) ≡ cond (number == me) [] (map (far_in all number) parts)
others_of_one all me number [] = elim (number == me) as (λ b. of_others me [] ≡ cond b [] (map (far_in all number) [])) [ true ↦ refl | false ↦ refl ]
others_of_one all me number (p ∷ ps) =
    let far = far_in all number p in
    let fars = map (far_in all number) ps in
    elim (number == me) as (λ b. of_others me fars ≡ cond b [] fars → cond (not b) (far ∷ of_others me fars) (of_others me fars) ≡ cond b [] (far ∷ fars)) [
      | true ↦ λ rest. rest
      | false ↦ λ rest. ap (λ fs. far ∷ fs) rest
    ] (others_of_one all me number ps)

others_are : (shown : Shown) (me number : ℕ) (views : List View)
    → of_others me (flat_map (parts_in (table shown)) (enumerate_from number views)) ≡ flat_map (parts_for shown me) (enumerate_from number views)
others_are shown me number [] = refl
others_are shown me number (v ∷ vs) =
    filter-append (λ p. not (p.by == me)) (map (far_in (table shown) number) v.acts) (flat_map (parts_in (table shown)) (enumerate_from (number + 1) vs))
    ∙ (λ i. others_of_one (table shown) me number v.acts i ++ others_are shown me (number + 1) vs i)

-- they are few, and as an agent of the team has no parts of its own there is room for those of one agent
few_others : (shown : Shown) (me number : ℕ) (views : List View) → All (λ v. length v.acts ≤ 200000) views
    → (length (flat_map (parts_for shown me) (enumerate_from number views)) ≤ 200000 * length views)
    × (number ≤ me → me < number + length views → length (flat_map (parts_for shown me) (enumerate_from number views)) + 200000 ≤ 200000 * length views)
few_others shown me number [] few = (omega arith, λ from to. absurd (omega (arith, from, to)))
few_others shown me number (v ∷ vs) few =
    let first = parts_for shown me (number, v) in
    let both = length-append first (flat_map (parts_for shown me) (enumerate_from (number + 1) vs)) in
    let rest = few_others shown me (number + 1) vs (All-tail (λ v. length v.acts ≤ 200000) v vs few) in
    let parts : length (map (far_in (table shown) number) v.acts) ≤ 200000 =
    omega (arith, length-map v.acts (far_in (table shown) number), All-head (λ v. length v.acts ≤ 200000) v vs few) in
    let most : length first ≤ 200000 = elim (cases_Bool (number == me)) [ inl own ↦ rw own (omega arith) | inr other ↦ rw other parts ] in (
      omega (arith, both, rest.0, most),
      λ from to.
          elim (cases_lt number me) [
            | inl above ↦ let later = rest.1 (omega arith) (omega (arith, to)) in omega (arith, both, later, most)
            | inr here ↦
                let own = (Decides-eqb number me).1 (omega (arith, from, here)) in
                let none : length first ≡ 0 = rw own refl in
                omega (arith, both, rest.0, none)
          ],
    )

-- ---- the team of some grounded factors

abbrev pub shown_of : List Text → List Ground → Shown
shown_of init grounds = record { init = init; views = map closed_view grounds }

module _ (init : List Text) (grounds : List Ground) (most : length grounds ≤ 16) (ready : All (IsReady (length grounds)) grounds) where
  abbrev shown : Shown
  shown = shown_of init grounds

  abbrev facts : List Text
  facts = flat_map (λ v. v.facts) shown.views

  abbrev common : Common
  common = common_of (table shown) init shown.views

  -- the public facts of each agent are in the table
  own_in_table : All (λ g. AreIn (table shown) g.publics) grounds
  own_in_table = λ k d lt j e within.
      let g = get_or grounds k d in
      let t = get_or g.publics j e in
      same_texts facts t
      ∙ listed t facts
      (to_flat_map (λ v. v.facts) shown.views (closed_view g) t (to_map closed_view grounds g (Contains-get_or grounds k d lt)) (Contains-get_or g.publics j e within))

  -- what they show fits the table
  pub shows_fit : ShowsFit (table shown) shown.views
  shows_fit =
      let one_each = length-map grounds closed_view in
      let few = sum_by-le (λ v. length v.facts) 65535 shown.views
      (All-map (λ v. length v.facts ≤ 65535) closed_view grounds (λ k d lt. let most = (ready k d lt).limits.facts in omega arith)) in
      record {
        agents = omega arith;
        few = omega (arith, in_order_short nat_list_cmp_total facts, length-flat_map (λ v. v.facts) shown.views, few);
        rise = texts_rise facts;
        parts = All-map (λ v. All (PartFits (table shown)) v.acts) closed_view grounds
            (λ k d lt. parts_fit (length grounds) (table shown) (get_or grounds k d) (ready k d lt) (own_in_table k d lt));
      }

  -- and they are of one team
  pub of_one_team : All (IsOfTeam (table shown) common) grounds
  of_one_team = λ k d lt.
      let g = get_or grounds k d in
      let is : IsReady (length grounds) g = ready k d lt in
      let one_each : length common.met ≡ length grounds = length-map shown.views (λ v. v.met) ∙ length-map grounds closed_view in
      let views : length shown.views ≡ length grounds = length-map grounds closed_view in
      let few = few_others shown g.me 1 shown.views
      (All-map (λ v. length v.acts ≤ 200000) closed_view grounds (λ j e less. few_parts (get_or grounds j e) (ready j e less).limits)) in
      let room = few.1 is.from_1 (let in_team = is.in_team in omega arith) in
      let same = ap length (others_are shown g.me 1 shown.views) in
      record {
        agents = omega arith;
        few = shows_fit.few;
        rise = shows_fit.rise;
        start = places_less (is_true init) (table shown);
        goals = places_less (is_goal shown.views) (table shown);
        parts = all_fit (length common.met) 1 (table shown) shown.views (omega arith) (omega arith) shows_fit.parts;
        number_of_others = omega arith;
        publics = record { rise = is.rise; there = own_in_table k d lt };
        ready = rw one_each is;
      }

  -- the task from what the tasks have in common is the one that the definition says
  pub same_task : (g : Ground) → task_with (table shown) common g ≡ task_of shown g
  same_task g = λ i. record (task_of shown g) { agents = length-map shown.views (λ v. v.met) i; far = others_are shown g.me 1 shown.views i }

  -- the same of what a call has made
  module _ (views : List View) (all : List Text) (are : views ≡ map closed_view grounds) (is : all ≡ sorted_once (flat_map (λ v. v.facts) views)) where
    pub views_fit : ShowsFit all views
    views_fit = rw (is, are) shows_fit

    module _ (names : List Text) (made : Common) (named : names ≡ all) (has : made ≡ common_of all init views) where
      pub team_is_one : All (IsOfTeam names made) grounds
      team_is_one = rw (has, named, is, are) of_one_team

      pub tasks_are : map (task_with names made) grounds ≡ map (task_of shown) grounds
      tasks_are = rw (has, named, is, are) (λ i. map (λ g. same_task g i) grounds)
