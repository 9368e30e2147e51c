-- What costs, effects and the start say is written in their tree, and no cost is too great.
use Rattle.mp_forms.proofs.Basics.{◌≡◌, ℕ, ◌≤◌, Bool, true, false, not, ◌||◌, List, [], ◌∷◌, Option, Some, None, All, length, arith, refl, subst, if◌then◌else◌, ◌==◌, codes, filter, flat_map, cond_both, All-nil, All-cons, All-head, All-tail}
use Rattle.mp_forms.proofs.Basics.{All-weaker, Place, Node, word, list, Word, Cost, Atom, Increase, Number, Function, Change, Add, Delete, Grow, Effect, Value, Fact, Start, fault_at, place_of, word_of, parts, is_list, is_headed, conjuncts}
use Rattle.mp_forms.proofs.Basics.{is_negation, is_increase, greatest_cost, cost_of, words_of, most_increases, HasOneCostEach, said, both, each, name_rule, object_rule, term_rule, applied_rule, atom_rule, negated_rule, increase_rule}
use Rattle.mp_forms.proofs.Basics.{change_rule, increase_in, effect_of, effect_rule, fact_rule, given, differing, atom_in, value_in, start_of, init_rule}
use Rattle.std.proofs.Common.{leb-true}
use Rattle.std.specs.Prelude.{nat_le}
use Rattle.std.specs.List.{list_all}
use Rattle.mp_forms.specs.declared.init_values.Fact.TheVariants as facts
use Rattle.mp_forms.specs.Numbers.{is_number, decimals, whole_part, least_of_whole}
use Rattle.mp_forms.specs.Rules.Costs.{allowed, cost_rule}
use Rattle.mp_forms.specs.Rules.Effects.{target_rule, amount_rule, increase_members, add_in, delete_in}
use Rattle.mp_forms.specs.Rules.Init.{gives, value_members}
use Rattle.mp_forms.proofs.GivesLemmas.{Gives, gives_says, gives_wrong, gives_if, gives_said, gives_both, gives_besides, gives_each, none_wrong, few}
use Rattle.mp_forms.proofs.TreeWords.{InTree, in_parts, in_conjuncts}
use Rattle.mp_forms.proofs.FormLaws.{all_flat, name_gives, object_gives, term_gives, applied_gives, atom_gives, negated_gives}
use Rattle.mp_forms.proofs.CountLaws.{increases_counted}
use Rattle.mp_forms.proofs.ValueLaws.{values_gives}
use Rattle.mp_forms.proofs.Basics.{Use, as_cost, atom_uses, increase_uses, value_uses, IsTaken}
use Rattle.std.specs.Prelude.{Contains}
use Rattle.mp_forms.specs.Written.{IsWrittenCost}

-- ---- costs

small_by : (is_refused : Bool) (n cost : ℕ) → (if is_refused then None else (if nat_le n greatest_cost then Some n else None)) ≡ Some cost → cost ≤ greatest_cost
small_by true n cost e = absurd (let impossible : ⊥ = cc in impossible)
small_by false n cost e =
    cond_both (nat_le n greatest_cost) (Some n) None (λ (o : Option ℕ). o ≡ Some cost → cost ≤ greatest_cost)
    (λ le f. let same : n ≡ cost = cc in subst (λ (m : ℕ). m ≤ greatest_cost) same (leb-true n greatest_cost le))
    (λ more f. absurd (let impossible : ⊥ = cc in impossible)) e

cost_is_small : (w : List ℕ) (cost : ℕ) → cost_of w ≡ Some cost → cost ≤ greatest_cost
unfolding cost_of
cost_is_small w cost = small_by (not (is_number w) || not (list_all (λ b. b == 48) (decimals w))) (least_of_whole (whole_part w)) cost

module _ (tree : Node) where
  abbrev W : Word → Type 0
  W = Contains (words_of tree)

  abbrev In : Node → Type 0
  In = InTree W

  abbrev P : Use → Type 0
  P = IsTaken tree

  abbrev IsAtom : Atom → Type 0
  IsAtom atom = All P (atom_uses atom)

  abbrev IsCost : ℕ → Type 0
  IsCost cost = P (as_cost cost)

  cost_in_tree : (n : Node) → In n → (cost : ℕ) → cost_of (word_of n) ≡ Some cost → IsWrittenCost tree cost
  unfolding words_of cost_of is_number whole_part decimals
  cost_in_tree (word name place) all cost e = (record { name = name; at = place }, All-head W record { name = name; at = place } [] all, e)
  cost_in_tree (list nodes place) all cost e = absurd (let impossible : ⊥ = cc in impossible)

  allowed_gives : (place : Place) (o : Option ℕ) → ((cost : ℕ) → o ≡ Some cost → IsCost cost) → Gives IsCost (allowed place o)
  allowed_gives place None holds = gives_wrong IsCost (fault_at place Cost) []
  allowed_gives place (Some cost) holds = gives_says IsCost cost (holds cost refl)

  cost_gives : (n : Node) → In n → Gives IsCost (cost_rule n)
  unfolding cost_rule
  cost_gives n all =
      gives_if IsCost (is_number (word_of n)) (allowed (place_of n) (cost_of (word_of n))) _
      (λ is. allowed_gives (place_of n) (cost_of (word_of n)) (λ cost e. (cost_in_tree n all cost e, cost_is_small (word_of n) cost e)))
      (λ other. gives_wrong IsCost _ [])

  -- ---- effects

  abbrev pub IsIncrease : Increase → Type 0
  IsIncrease increase = All P (increase_uses increase)

  amount_gives : (n : Node) → In n → Gives IsIncrease (amount_rule n)
  unfolding amount_rule
  amount_gives n all =
      gives_if IsIncrease (is_list n) (said Function (applied_rule name_rule term_rule n)) (said Number (cost_rule n))
      (λ is. gives_said IsAtom IsIncrease Function (applied_rule name_rule term_rule n) (λ a of. of)
      (applied_gives tree name_rule term_rule (name_gives tree) (term_gives tree) n all))
      (λ other. gives_said IsCost IsIncrease Number (cost_rule n) (λ cost of. All-cons P (as_cost cost) [] of (All-nil P)) (cost_gives n all))

  increase_by : (whole : Place) (ns : List Node) → All In ns → Gives IsIncrease (increase_members whole ns)
  increase_by whole [] all = gives_wrong IsIncrease _ []
  increase_by whole (a ∷ []) all = gives_wrong IsIncrease _ []
  increase_by whole (a ∷ b ∷ []) all = gives_wrong IsIncrease _ []
  increase_by whole (head ∷ target ∷ amount ∷ extra) all =
      let here = All-head In amount extra (All-tail In target (amount ∷ extra) (All-tail In head (target ∷ amount ∷ extra) all)) in
      gives_besides IsIncrease _ (both (λ x y. y) (target_rule head target) (amount_rule amount))
      (λ x e. gives_besides IsIncrease (target_rule head target) (amount_rule amount) (λ y f. amount_gives amount here))

  increase_gives : (n : Node) → In n → Gives IsIncrease (increase_rule n)
  unfolding increase_rule
  increase_gives n all = increase_by (place_of n) (parts n) (in_parts W n all)

  abbrev IsChange : Change → Type 0
  IsChange (Add atom) = IsAtom atom
  IsChange (Delete atom) = IsAtom atom
  IsChange (Grow increase) = IsIncrease increase

  change_gives : (n : Node) → In n → Gives IsChange (change_rule n)
  unfolding change_rule
  change_gives n all =
      gives_if IsChange (is_negation n) (said Delete (negated_rule n)) (if is_increase n then said Grow (increase_rule n) else said Add (atom_rule n))
      (λ is. gives_said IsAtom IsChange Delete (negated_rule n) (λ a of. of) (negated_gives tree n all))
      (λ other. gives_if IsChange (is_increase n) (said Grow (increase_rule n)) (said Add (atom_rule n))
      (λ is. gives_said IsIncrease IsChange Grow (increase_rule n) (λ i of. of) (increase_gives n all))
      (λ no. gives_said IsAtom IsChange Add (atom_rule n) (λ a of. of) (atom_gives tree n all)))

  pub record IsEffect (effect : Effect) : Type 0 where
    pub add : All IsAtom effect.add
    pub del : All IsAtom effect.del
    pub increases : All IsIncrease effect.increases
    pub few : length effect.increases ≤ most_increases

  added : (c : Change) → IsChange c → All IsAtom (add_in c)
  added (Add atom) of = All-cons IsAtom atom [] of (All-nil IsAtom)
  added (Delete atom) of = All-nil IsAtom
  added (Grow increase) of = All-nil IsAtom

  deleted : (c : Change) → IsChange c → All IsAtom (delete_in c)
  deleted (Add atom) of = All-nil IsAtom
  deleted (Delete atom) of = All-cons IsAtom atom [] of (All-nil IsAtom)
  deleted (Grow increase) of = All-nil IsAtom

  increased : (c : Change) → IsChange c → All IsIncrease (increase_in c)
  increased (Add atom) of = All-nil IsIncrease
  increased (Delete atom) of = All-nil IsIncrease
  increased (Grow increase) of = All-cons IsIncrease increase [] of (All-nil IsIncrease)

  abbrev from_each : {A B : Type 0} (Is : A → Type 0) (P : B → Type 0) (f : A → List B) → ((a : A) → Is a → All P (f a)) → (as' : List A) → All Is as' → All P (flat_map f as')
  from_each Is P f one as' all = all_flat P f as' (All-weaker Is (λ a. All P (f a)) one as' all)

  pub effect_gives : (n : Node) → In n → Gives IsEffect (effect_rule n)
  unfolding effect_rule
  effect_gives n all =
      let nodes = conjuncts n in
      let Changes : List Change → Type 0 = λ cs. All IsChange cs × (length (flat_map increase_in cs) ≤ length (filter is_increase nodes)) in
      gives_besides IsEffect _ (said effect_of (each change_rule nodes)) (λ x e.
      let sixteen = few most_increases is_increase (λ (m : Node). fault_at (place_of m) Cost) nodes x e in
      gives_said Changes IsEffect effect_of (each change_rule nodes)
      (λ cs of. let counted = of.1 in record {
        add = from_each IsChange IsAtom add_in added cs of.0;
        del = from_each IsChange IsAtom delete_in deleted cs of.0;
        increases = from_each IsChange IsIncrease increase_in increased cs of.0;
        few = omega (arith, counted, sixteen);
      })
      (λ cs says. (gives_each In IsChange change_rule change_gives nodes (in_conjuncts W n all) cs says, increases_counted nodes cs says)))

  -- ---- the start

  abbrev pub IsValue : Value → Type 0
  IsValue value = All P (value_uses value)

  abbrev IsFact : Fact → Type 0
  IsFact (facts.Holds atom) = IsAtom atom
  IsFact (facts.Gives value at) = IsValue value

  value_by : (whole : Place) (ns : List Node) → All In ns → Gives IsFact (value_members whole ns)
  value_by whole [] all = gives_wrong IsFact _ []
  value_by whole (a ∷ []) all = gives_wrong IsFact _ []
  value_by whole (a ∷ b ∷ []) all = gives_wrong IsFact _ []
  value_by whole (sign ∷ function ∷ number ∷ extra) all =
      let others = All-tail In sign (function ∷ number ∷ extra) all in
      let named = All-head In function (number ∷ extra) others in
      let here = All-head In number extra (All-tail In function (number ∷ extra) others) in
      gives_besides IsFact _ (both (gives (place_of number)) (applied_rule name_rule object_rule function) (cost_rule number))
      (λ x e. gives_both IsAtom IsCost IsFact (gives (place_of number)) (applied_rule name_rule object_rule function) (cost_rule number)
      (λ a cost of is. All-cons P (as_cost cost) (atom_uses a) is of) (applied_gives tree name_rule object_rule (name_gives tree) (object_gives tree) function named) (cost_gives number here))

  fact_gives : (n : Node) → In n → Gives IsFact (fact_rule n)
  unfolding fact_rule
  fact_gives n all =
      gives_if IsFact (is_headed (codes "=") n) (value_members (place_of n) (parts n)) (said facts.Holds (atom_rule n))
      (λ is. value_by (place_of n) (parts n) (in_parts W n all))
      (λ other. gives_said IsAtom IsFact facts.Holds (atom_rule n) (λ a of. of) (atom_gives tree n all))

  pub record IsStart (start : Start) : Type 0 where
    pub facts : All IsAtom start.facts
    pub values : All IsValue start.values
    pub one_each : HasOneCostEach start.values

  held : (f : Fact) → IsFact f → All IsAtom (atom_in f)
  held (facts.Holds atom) of = All-cons IsAtom atom [] of (All-nil IsAtom)
  held (facts.Gives value at) of = All-nil IsAtom

  valued : (f : Fact) → IsFact f → All IsValue (value_in f)
  valued (facts.Holds atom) of = All-nil IsValue
  valued (facts.Gives value at) of = All-cons IsValue value [] of (All-nil IsValue)

  pub init_gives : (nodes : List Node) → All In nodes → Gives IsStart (init_rule nodes)
  unfolding init_rule
  init_gives nodes all =
      let Facts : List Fact → Type 0 = λ fs. All IsFact fs × HasOneCostEach (flat_map value_in fs) in
      gives_besides IsStart _ (said start_of (each fact_rule nodes)) (λ x e.
      let none = none_wrong (λ g. fault_at g.at Cost) (differing [] (given nodes)) x e in
      gives_said Facts IsStart start_of (each fact_rule nodes)
      (λ fs of. record {
        facts = from_each IsFact IsAtom atom_in held fs of.0;
        values = from_each IsFact IsValue value_in valued fs of.0;
        one_each = of.1;
      })
      (λ fs says. (gives_each In IsFact fact_rule fact_gives nodes all fs says, values_gives nodes none fs says)))
