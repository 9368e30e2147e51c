-- What instances cost.
use Rattle.mp_grounder.proofs.Basics.{arith, ◌≡◌, ℕ, suc, ◌+◌, ◌≤◌, Bool, true, false, cond, List, [], ◌∷◌, filter, length, All, Option, Some, None, refl, subst, same_Some, none-some, flat_map, option_map, LiftedAction, LiftedFactor}
use Rattle.mp_grounder.proofs.Basics.{ActionBinding, HasSmallCosts, instances}
use Rattle.std.proofs.Common.{◌*◌, find, option_and_then}
use Rattle.std.proofs.lemmas.List.Elements.{All-nil, All-head, All-tail, All-append}
use Rattle.std.specs.List.{enumerate_from, filter_map}
use Rattle.mp_lifted.specs.declared.lifted.Amount.{Amount}
use Rattle.mp_lifted.specs.declared.lifted.Amount.TheVariants.{Number, Value, Missing}
use Rattle.mp_lifted.specs.declared.lifted.GroundAtom.{GroundAtom}
use Rattle.mp_lifted.specs.declared.lifted.GroundValue.{GroundValue}
use Rattle.mp_bindings.specs.Bindings.{product}
use Rattle.mp_lifted.specs.Atoms.{atom_at, same_atom}
use Rattle.mp_instances.specs.Costs.{value_of, amount_at, cost_at, IsSmall, IsCheap}
use Rattle.mp_instances.specs.Instances.{suits, binding_of, instances_of}
use Rattle.mp_ground_laws.proofs.Lists.{given_one}

abbrev IsLow : GroundValue → Type 0
IsLow v = v.cost ≤ 1000000

value_low : (values : List GroundValue) (f : GroundAtom) (c : ℕ) → All IsLow values → value_of values f ≡ Some c → c ≤ 1000000
value_low [] f c low h = absurd (none-some c h)
value_low (v ∷ vs) f c low h = by (same_atom v.of f) (value_low vs f c (All-tail IsLow v vs low)) h
  where
    by : (here : Bool) → (value_of vs f ≡ Some c → c ≤ 1000000)
        → option_map (λ (w : GroundValue). w.cost) (cond here (Some v) (find (λ (w : GroundValue). same_atom w.of f) vs)) ≡ Some c → c ≤ 1000000
    by true rest e = subst (λ n. n ≤ 1000000) (same_Some v.cost c e) (All-head IsLow v vs low)
    by false rest e = rest e

amount_low : (values : List GroundValue) (objects : List ℕ) (a : Amount) (c : ℕ) → All IsLow values → IsSmall a → amount_at values objects a ≡ Some c → c ≤ 1000000
amount_low values objects (Number cost) c low small h = subst (λ n. n ≤ 1000000) (same_Some cost c h) small
amount_low values objects (Value function) c low small h = value_low values (atom_at objects function) c low h
amount_low values objects Missing c low small h = absurd (none-some c h)

sum_low : (values : List GroundValue) (objects : List ℕ) (as' : List Amount) (c : ℕ) → All IsLow values → All IsSmall as' → cost_at values objects as' ≡ Some c
    → c ≤ length as' * 1000000
sum_low values objects [] c low small h = let e = same_Some 0 c h in omega arith
sum_low values objects (a ∷ as') c low small h =
    by (amount_at values objects a) (cost_at values objects as') (λ n e. amount_low values objects a n low (All-head IsSmall a as' small) e)
    (λ n e. sum_low values objects as' n low (All-tail IsSmall a as' small) e) h
  where
    by : (o p : Option ℕ) → ((n : ℕ) → o ≡ Some n → n ≤ 1000000) → ((n : ℕ) → p ≡ Some n → n ≤ length as' * 1000000)
        → option_and_then (λ cost. option_map (λ rest. cost + rest) p) o ≡ Some c → c ≤ suc (length as') * 1000000
    by None p first rest e = absurd (none-some c e)
    by (Some n) None first rest e = absurd (none-some c e)
    by (Some n) (Some m) first rest e =
        let is = same_Some (n + m) c e in
        let here = first n refl in
        let later = rest m refl in
        omega arith

abbrev pub CostsLittle : ActionBinding → Type 0
CostsLittle i = i.cost ≤ 16000000

all_given : {X Y : Type 0} (P : Y → Type 0) (h : X → Option Y) (xs : List X) → ((x : X) (y : Y) → h x ≡ Some y → P y) → All P (filter_map h xs)
all_given P h [] each = All-nil P
all_given P h (x ∷ xs) each = given_one P (h x) (filter_map h xs) (each x) (all_given P h xs each)

bound_low : (place : ℕ) (objects : List ℕ) (o : Option ℕ) (i : ActionBinding) → ((c : ℕ) → o ≡ Some c → c ≤ 16000000)
    → option_map (λ cost. record { action = place; objects = objects; cost = cost }) o ≡ Some i → CostsLittle i
bound_low place objects None i low h = absurd (none-some i h)
bound_low place objects (Some c) i low h = subst CostsLittle (same_Some (record { action = place; objects = objects; cost = c }) i h) (low c refl)

of_action : (factor : LiftedFactor) (place : ℕ) (action : LiftedAction) → All IsLow factor.values → IsCheap action → All CostsLittle (instances_of factor place action)
of_action factor place action low cheap =
    all_given CostsLittle (binding_of factor place action) (filter (suits factor action) (product action.members))
    (λ objects i h. bound_low place objects (cost_at factor.values objects action.amounts) i
    (λ c e. let sum = sum_low factor.values objects action.amounts c low cheap.small e in let few = cheap.count in omega arith) h)

of_actions : (factor : LiftedFactor) (place : ℕ) (actions : List LiftedAction) → All IsLow factor.values → All IsCheap actions
    → All CostsLittle (flat_map (λ (x : ℕ × LiftedAction). instances_of factor x.0 x.1) (enumerate_from place actions))
of_actions factor place [] low cheap = All-nil CostsLittle
of_actions factor place (a ∷ as') low cheap =
    All-append CostsLittle (instances_of factor place a) (flat_map (λ (x : ℕ × LiftedAction). instances_of factor x.0 x.1) (enumerate_from (place + 1) as'))
    (of_action factor place a low (All-head IsCheap a as' cheap)) (of_actions factor (place + 1) as' low (All-tail IsCheap a as' cheap))

-- each costs at most 16,000,000
pub instances_cost_little : (factor : LiftedFactor) → HasSmallCosts factor → All CostsLittle (instances factor)
instances_cost_little factor h = of_actions factor 0 factor.actions h.values h.actions
