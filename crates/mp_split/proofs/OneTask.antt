-- The task of one agent: its own actions by the team's numbers, and its limits.
use Rattle.mp_split.proofs.Basics.{arith, ◌≡◌, ℕ, ◌==◌, not, List, map, length, All, refl, sym, ap, ◌∙◌, length-map, Text, is_listed, number_in, Act, ActFits, FarFits, Ground, text_places_in, Common, texts_at, ActRises, AreOf}
use Rattle.mp_split.proofs.Basics.{IsOfTeam, act_at, act_in, of_others, task_from, task_with}
use Rattle.std.proofs.lemmas.List.Elements.{All-contains, All-filter, All-map, All-weaker}
use Rattle.mp_task.specs.declared.act.Far.{Far}
use Rattle.mp_task.specs.Limits.{IsWithinLimits}
use Rattle.mp_grounder.proofs.Members.{map_on}
use Rattle.mp_split.proofs.Numbering.{Rises, numbered, places_less, renumbered}

module _ (table own : List Text) (numbers : List ℕ) (rises : Rises table) (own_is : AreOf table own) (are : numbers ≡ text_places_in table own) where
  -- there is a number for each own text
  one_each : length numbers ≡ length own
  one_each = ap length (are ∙ sym (numbered table rises own own_is.rise own_is.there)) ∙ length-map own (number_in table)

  pub acts_fit : (privates : ℕ) (acts : List Act) → All (ActFits (length own) privates) acts → All (ActFits (length numbers) privates) acts
  acts_fit privates acts fits = rw one_each fits

  act_same : (privates : ℕ) (act : Act) → ActRises act → ActFits (length own) privates act → act_at numbers act ≡ act_in table own act
  act_same privates act these fits =
      let same = λ (ns : List ℕ). renumbered table own numbers ns rises own_is.rise own_is.there are in
      let pre = same act.pre_pub these.pre fits.pre_pub in
      let add = same act.add_pub these.add fits.add_pub in
      let del = same act.del_pub these.del fits.del_pub in
      λ i. record act { pre_pub = pre i; add_pub = add i; del_pub = del i }

  -- own actions with the numbers at their places are those of the definition
  pub acts_same : (privates : ℕ) (acts : List Act) → All ActRises acts → All (ActFits (length own) privates) acts
      → map (act_at numbers) acts ≡ map (act_in table own) acts
  acts_same privates acts these fits =
      map_on (act_at numbers) (act_in table own) acts
      (λ act here. act_same privates act (All-contains ActRises acts act these here) (All-contains (ActFits (length own) privates) acts act fits here))

act_within : (table own : List Text) (privates : ℕ) (act : Act) → ActFits (length own) privates act
    → ActFits (length table) privates (act_in table own act)
act_within table own privates act fits =
    let below = λ (texts : List Text). places_less (λ t. is_listed t texts) table in
    record {
      pre_pub = below (texts_at own act.pre_pub);
      pre_priv = fits.pre_priv;
      add_pub = below (texts_at own act.add_pub);
      add_priv = fits.add_priv;
      del_pub = below (texts_at own act.del_pub);
      del_priv = fits.del_priv;
      cost = fits.cost;
    }

-- the task keeps the limits
pub within_limits : (table : List Text) (common : Common) (g : Ground) → IsOfTeam table common g → IsWithinLimits (task_with table common g)
within_limits table common g t =
    let limits = t.ready.limits in
    let number_of = limits.number_of_acts in
    let same = length-map g.acts (act_in table g.publics) in
    let facts = limits.facts in
    record {
      at_most_16_agents = t.agents;
      from_1 = t.ready.from_1;
      in_team = t.ready.in_team;
      a_flag_each = refl;
      publics = t.few;
      privates = omega arith;
      start_pub = t.start;
      start_priv = limits.start;
      goal_pub = t.goals;
      goal_priv = limits.goal_priv;
      number_of_acts = omega arith;
      number_of_far = t.number_of_others;
      acts = All-map (ActFits (length table) g.privates) (act_in table g.publics) g.acts
          (All-weaker (ActFits (length g.publics) g.privates) (λ act. ActFits (length table) g.privates (act_in table g.publics act))
          (act_within table g.publics g.privates) g.acts limits.acts);
      far = All-filter (λ p. not (p.by == g.me)) (FarFits (length common.met) (length table)) common.parts t.parts;
    }

-- the task that is put together is that one
pub put_together : (table : List Text) (common : Common) (g : Ground) (publics : ℕ) (acts : List Act) (far : List Far)
    → publics ≡ length table → acts ≡ map (act_in table g.publics) g.acts → far ≡ of_others g.me common.parts
    → task_with table common g ≡ task_from publics common g acts far
put_together table common g publics acts far count own others = sym (λ i. task_from (count i) common g (own i) (others i))
