-- The operators of a projected problem, part by part.
use Rattle.std.proofs.Common.{◌≡◌, ℕ, ◌+◌, ◌<◌, List, [], ◌∷◌, ◌++◌, map, All, refl, sym, ◌∙◌, arith}
use Rattle.std.proofs.lemmas.List.{map-append}
use Rattle.std.proofs.lemmas.List.Elements.{All-append, All-map}
use Rattle.mp_task.specs.AgentTask.{AgentTask}
use Rattle.mp_task.specs.Limits.{IsWithinLimits}
use Rattle.mp_task.specs.Projected.{facts_of, own_operator, far_operator, projected}
use Rattle.mp_task.specs.Strips.{Operator}

map-twice : {A B C : Type 0} (g : B → C) (f : A → B) (xs : List A) → map g (map f xs) ≡ map (λ x. g (f x)) xs
map-twice g f [] = refl
map-twice g f (x ∷ xs) = λ i. g (f x) ∷ map-twice g f xs i

-- what a function gives of the operators
pub of_operators : {C : Type 0} (g : Operator → C) (t : AgentTask) → map (λ a. g (own_operator t.publics a)) t.acts ++ map (λ p. g (far_operator p)) t.far ≡ map g (projected t).operators
of_operators g t =
    sym (map-append g (map (own_operator t.publics) t.acts) (map far_operator t.far)
    ∙ (λ i. map-twice g (own_operator t.publics) t.acts i ++ map-twice g far_operator t.far i))

-- their facts are facts of the problem
facts_fit : (publics privates : ℕ) (xs ys : List ℕ) → All (λ x. x < publics) xs → All (λ y. y < privates) ys → All (λ x. x < publics + privates) (facts_of publics xs ys)
facts_fit publics privates xs ys h k =
    All-append (λ x. x < publics + privates) xs (map (λ y. publics + y) ys)
    (λ i d lt. let small = h i d lt in omega arith)
    (All-map (λ x. x < publics + privates) (λ y. publics + y) ys (λ i d lt. let small = k i d lt in omega arith))

far_fit : (publics privates : ℕ) (xs : List ℕ) → All (λ x. x < publics) xs → All (λ x. x < publics + privates) xs
far_fit publics privates xs h = λ i d lt. let small = h i d lt in omega arith

pub pres_fit : (t : AgentTask) → IsWithinLimits t → All (All (λ x. x < t.publics + t.privates)) (map (λ o. o.pre) (projected t).operators)
pres_fit t fits =
    All-map (All (λ x. x < t.publics + t.privates)) (λ o. o.pre) (projected t).operators
    (All-append (λ o. All (λ x. x < t.publics + t.privates) o.pre) (map (own_operator t.publics) t.acts) (map far_operator t.far)
    (All-map (λ o. All (λ x. x < t.publics + t.privates) o.pre) (own_operator t.publics) t.acts (λ i d lt. facts_fit t.publics t.privates _ _ (fits.acts i d lt).pre_pub (fits.acts i d lt).pre_priv))
    (All-map (λ o. All (λ x. x < t.publics + t.privates) o.pre) far_operator t.far (λ i d lt. far_fit t.publics t.privates _ (fits.far i d lt).pre)))

pub adds_fit : (t : AgentTask) → IsWithinLimits t → All (All (λ x. x < t.publics + t.privates)) (map (λ o. o.add) (projected t).operators)
adds_fit t fits =
    All-map (All (λ x. x < t.publics + t.privates)) (λ o. o.add) (projected t).operators
    (All-append (λ o. All (λ x. x < t.publics + t.privates) o.add) (map (own_operator t.publics) t.acts) (map far_operator t.far)
    (All-map (λ o. All (λ x. x < t.publics + t.privates) o.add) (own_operator t.publics) t.acts (λ i d lt. facts_fit t.publics t.privates _ _ (fits.acts i d lt).add_pub (fits.acts i d lt).add_priv))
    (All-map (λ o. All (λ x. x < t.publics + t.privates) o.add) far_operator t.far (λ i d lt. far_fit t.publics t.privates _ (fits.far i d lt).add)))

pub goals_fit : (t : AgentTask) → IsWithinLimits t → All (λ x. x < t.publics + t.privates) (projected t).goals
goals_fit t fits = facts_fit t.publics t.privates t.goal_pub t.goal_priv fits.goal_pub fits.goal_priv
