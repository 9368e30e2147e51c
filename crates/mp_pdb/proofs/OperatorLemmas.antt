-- Moves of operators, one after another.
use Rattle.std.proofs.Common.{◌≡◌, ℕ, ◌+◌, ◌<◌, ◌≤◌, List, [], ◌∷◌, ◌++◌, length, map, take, get_or, All, Contains, ⊎_elim, refl, sym, ap, ◌∙◌, subst, arith}
use Rattle.std.proofs.Math.ListN.{set as set_at}
use Rattle.std.proofs.lemmas.Bool.{cases_eq}
use Rattle.std.proofs.lemmas.List.{take_more, map-append, length-set, get_or-set_same, get_or-set_other, get_or_default}
use Rattle.std.proofs.lemmas.List.Elements.{All-append, All-cons, All-nil, All-weaker, All-map, All-set, Contains-get_or, Contains-append_left, Contains-append_right}
use Rattle.mp_task.specs.AgentTask.{AgentTask}
use Rattle.mp_task.specs.Limits.{IsWithinLimits}
use Rattle.mp_task.specs.Projected.{facts_of, own_operator, far_operator, projected}
use Rattle.mp_task.specs.Strips.{Operator}
use Rattle.mp_pdb.specs.declared.moves.Move.{Move}
use Rattle.mp_pdb.specs.Masks.{Shows}
use Rattle.mp_pdb.specs.Pattern.{is_in}
use Rattle.mp_pdb.specs.Moves.{StandsFor, IsIdle, HasMove, IsMoveOf, AreMoves, HasLists, IsLike, IsPlaceOf}
use Rattle.mp_pdb.specs.Moves.HasMove.{by_move, by_nothing}

one_of : {X : Type 0} (x : X) → Contains (x ∷ []) x
one_of x = (0, (let lt : 0 < length (x ∷ []) = omega arith in lt), refl)

module _ (pattern : List ℕ) where
  pub no_moves : AreMoves pattern [] []
  no_moves = record { sound = All-nil (IsMoveOf pattern []); whole = All-nil (HasMove pattern []) }

  module _ (operators : List Operator) (moves : List Move) (o : Operator) (move : Move) (are : AreMoves pattern operators moves) (stands : StandsFor pattern o move) where
    still_of : (m : Move) → IsMoveOf pattern operators m → IsMoveOf pattern (operators ++ o ∷ []) m
    still_of m of = record { operator = of.operator; among = Contains-append_left operators (o ∷ []) of.operator of.among; stands = of.stands }

    still_has : (p : Operator) → HasMove pattern moves p → HasMove pattern (moves ++ move ∷ []) p
    still_has p (by_move m among lists le) = by_move m (Contains-append_left moves (move ∷ []) m among) lists le
    still_has p (by_nothing m lists idle) = by_nothing m lists idle

    pub one_move_more : AreMoves pattern (operators ++ o ∷ []) (moves ++ move ∷ [])
    one_move_more = record {
      sound =
          All-append (IsMoveOf pattern (operators ++ o ∷ [])) moves (move ∷ [])
          (All-weaker (IsMoveOf pattern operators) (IsMoveOf pattern (operators ++ o ∷ [])) still_of moves are.sound)
          (All-cons (IsMoveOf pattern (operators ++ o ∷ [])) move [] (record { operator = o; among = Contains-append_right operators (o ∷ []) o (one_of o); stands = stands }) (All-nil (IsMoveOf pattern (operators ++ o ∷ []))));
      whole =
          All-append (HasMove pattern (moves ++ move ∷ [])) operators (o ∷ [])
          (All-weaker (HasMove pattern moves) (HasMove pattern (moves ++ move ∷ [])) still_has operators are.whole)
          (All-cons (HasMove pattern (moves ++ move ∷ [])) o [] (by_move move (Contains-append_right moves (move ∷ []) move (one_of move)) stands.lists (let e = stands.cost in omega arith)) (All-nil (HasMove pattern (moves ++ move ∷ []))));
    }

    pub none_more : IsIdle move → AreMoves pattern (operators ++ o ∷ []) moves
    none_more idle = record {
      sound = All-weaker (IsMoveOf pattern operators) (IsMoveOf pattern (operators ++ o ∷ [])) still_of moves are.sound;
      whole =
          All-append (HasMove pattern moves) operators (o ∷ []) are.whole
          (All-cons (HasMove pattern moves) o [] (by_nothing move stands.lists idle) (All-nil (HasMove pattern moves)));
    }

-- an operator with the same lists as one before it

like_lists : (pattern : List ℕ) (o : Operator) (a b : Move) → IsLike a b → HasLists pattern o b → HasLists pattern o a
like_lists pattern o a b like lists = record {
  pre = subst (Shows pattern (is_in o.pre)) (sym like.pre) lists.pre;
  add = subst (Shows pattern (is_in o.add)) (sym like.add) lists.add;
  del = subst (Shows pattern (is_in o.del)) (sym like.del) lists.del;
}

like_back : (a b : Move) → IsLike a b → IsLike b a
like_back a b like = record { pre = sym like.pre; add = sym like.add; del = sym like.del }

module _ (pattern : List ℕ) (operators : List Operator) (moves : List Move) (o : Operator) (move : Move) (place : ℕ) (are : AreMoves pattern operators moves) (stands : StandsFor pattern o move) (is : IsPlaceOf moves place move) where
  -- it costs no less
  pub kept_move : (get_or moves place move).cost ≤ move.cost → AreMoves pattern (operators ++ o ∷ []) moves
  kept_move le = record {
    sound = All-weaker (IsMoveOf pattern operators) (IsMoveOf pattern (operators ++ o ∷ [])) (still_of pattern operators moves o move are stands) moves are.sound;
    whole =
        All-append (HasMove pattern moves) operators (o ∷ []) are.whole
        (All-cons (HasMove pattern moves) o []
        (by_move (get_or moves place move) (Contains-get_or moves place move is.within) (like_lists pattern o (get_or moves place move) move is.like stands.lists) (let e = stands.cost in omega arith))
        (All-nil (HasMove pattern moves)));
  }

  -- it costs less, and takes the place
  pub lowered_move : move.cost < (get_or moves place move).cost → AreMoves pattern (operators ++ o ∷ []) (set_at moves place move)
  lowered_move less = record {
    sound =
        All-set (IsMoveOf pattern (operators ++ o ∷ [])) moves place move
        (record { operator = o; among = Contains-append_right operators (o ∷ []) o (one_of o); stands = stands })
        (All-weaker (IsMoveOf pattern operators) (IsMoveOf pattern (operators ++ o ∷ [])) (still_of pattern operators moves o move are stands) moves are.sound);
    whole =
        All-append (HasMove pattern (set_at moves place move)) operators (o ∷ [])
        (All-weaker (HasMove pattern moves) (HasMove pattern (set_at moves place move)) has_now operators are.whole)
        (All-cons (HasMove pattern (set_at moves place move)) o [] (by_move move new_among stands.lists (let e = stands.cost in omega arith)) (All-nil (HasMove pattern (set_at moves place move))));
  }
    where
      new_among : Contains (set_at moves place move) move
      new_among = (place, (let lt : place < length (set_at moves place move) = omega (arith, length-set moves place move, is.within) in lt), get_or-set_same moves place move move is.within)

      has_now : (p : Operator) → HasMove pattern moves p → HasMove pattern (set_at moves place move) p
      has_now p (by_nothing m lists idle) = by_nothing m lists idle
      has_now p (by_move m (k, lt, e) lists le) = ⊎_elim
          (λ same.
          let at : get_or moves place move ≡ m = ap (λ j. get_or moves j move) (sym same) ∙ get_or_default moves k move m lt ∙ e in
          let cost = ap (λ (n : Move). n.cost) at in
          by_move move new_among (like_lists pattern p move m (like_back m move (subst (λ n. IsLike n move) at is.like)) lists) (omega arith))
          (λ other.
          by_move m
          (k, (let lt : k < length (set_at moves place move) = omega (arith, length-set moves place move) in lt), get_or-set_other moves place k move m other ∙ e)
          lists le)
          (cases_eq k place)

-- one more operator of a list
pub mapped_more : {X : Type 0} (f : X → Operator) (xs : List X) (i : ℕ) (d : X) → i < length xs → map f (take (i + 1) xs) ≡ map f (take i xs) ++ f (get_or xs i d) ∷ []
mapped_more f xs i d within = ap (map f) (take_more xs i d within) ∙ map-append f (take i xs) (get_or xs i d ∷ [])

-- preconditions are facts of the problem
pub facts_fit : (publics privates : ℕ) (xs ys : List ℕ) → All (λ x. x < publics) xs → All (λ y. y < privates) ys → All (λ x. x < publics + privates) (facts_of publics xs ys)
facts_fit publics privates xs ys h k =
    All-append (λ x. x < publics + privates) xs (map (λ y. publics + y) ys)
    (λ i d lt. let small = h i d lt in omega arith)
    (All-map (λ x. x < publics + privates) (λ y. publics + y) ys (λ i d lt. let small = k i d lt in omega arith))

pub pres_fit : (t : AgentTask) → IsWithinLimits t → All (λ (o : Operator). All (λ x. x < t.publics + t.privates) o.pre) (projected t).operators
pres_fit t fits =
    All-append (λ (o : Operator). All (λ x. x < t.publics + t.privates) o.pre) (map (own_operator t.publics) t.acts) (map far_operator t.far)
    (All-map (λ (o : Operator). All (λ x. x < t.publics + t.privates) o.pre) (own_operator t.publics) t.acts (λ i d lt. facts_fit t.publics t.privates _ _ (fits.acts i d lt).pre_pub (fits.acts i d lt).pre_priv))
    (All-map (λ (o : Operator). All (λ x. x < t.publics + t.privates) o.pre) far_operator t.far (λ i d lt j e less. let small = (fits.far i d lt).pre j e less in omega arith))
