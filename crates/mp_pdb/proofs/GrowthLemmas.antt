-- The lowest fact that a pattern misses, found one after another; and how a pattern grows.
use Rattle.std.proofs.Common.{◌≡◌, ℕ, zero, suc, ◌+◌, ◌<◌, min, Bool, true, false, cond, not, eqb, Option, Some, None, List, [], ◌∷◌, ◌++◌, length, map, take, get_or, All, ⊎_elim, refl, sym, ap, ◌∙◌, subst, append-nil, arith}
use Rattle.std.proofs.lemmas.Bool.{cases_lt}
use Rattle.std.proofs.lemmas.List.{take_more}
use Rattle.std.proofs.lemmas.List.Concat.{flat_map-append}
use Rattle.std.proofs.lemmas.List.Elements.{All-cons, All-head, All-tail, All-nil, All-append}
use Rattle.std.proofs.lemmas.List.Folds.{flat_map-map}
use Rattle.std.specs.List.{flat_map, list_any}
use Rattle.std.specs.Option.{IfSome, option_map_or}
use Rattle.mp_estimates.specs.Estimates.{lesser}
use Rattle.mp_task.specs.AgentTask.{AgentTask}
use Rattle.mp_task.specs.declared.act.Act.{Act}
use Rattle.mp_task.specs.declared.act.Far.{Far}
use Rattle.mp_task.specs.Projected.{own_operator, far_operator, projected}
use Rattle.mp_task.specs.Strips.{Operator}
use Rattle.mp_pdb.specs.Masks.{Shows}
use Rattle.mp_pdb.specs.Pattern.{is_in, least, missing, missing_among, missing_of, grown}
use Rattle.mp_pdb.proofs.MaskLemmas.{map_more, map_zero, meet_both, shows_any}

-- the lowest of facts

lesser-assoc : (a b c : Option ℕ) → lesser (lesser a b) c ≡ lesser a (lesser b c)
lesser-assoc None b c = refl
lesser-assoc (Some k) None c = refl
lesser-assoc (Some k) (Some l) None = refl
lesser-assoc (Some k) (Some l) (Some m) = let e : min (min k l) m ≡ min k (min l m) = omega arith in ap Some e

pub lesser-none : (a : Option ℕ) → lesser a None ≡ a
lesser-none None = refl
lesser-none (Some k) = refl

least-append : (xs ys : List ℕ) → least (xs ++ ys) ≡ lesser (least xs) (least ys)
least-append [] ys = refl
least-append (x ∷ xs) ys = ap (lesser (Some x)) (least-append xs ys) ∙ sym (lesser-assoc (Some x) (least xs) (least ys))

missing-append : (pattern xs ys : List ℕ) → missing_among pattern (xs ++ ys) ≡ missing_among pattern xs ++ missing_among pattern ys
missing-append pattern [] ys = refl
missing-append pattern (x ∷ xs) ys = by (not (is_in pattern x)) (missing-append pattern xs ys)
  where
    by : (b : Bool) → missing_among pattern (xs ++ ys) ≡ missing_among pattern xs ++ missing_among pattern ys → cond b (x ∷ missing_among pattern (xs ++ ys)) (missing_among pattern (xs ++ ys)) ≡ cond b (x ∷ missing_among pattern xs) (missing_among pattern xs) ++ missing_among pattern ys
    by true e = λ i. x ∷ e i
    by false e = e

-- one more fact of a list
pub lowest_more : (pattern xs : List ℕ) (f : ℕ → ℕ) (start lowest : Option ℕ) (i : ℕ) → i < length xs → lowest ≡ lesser start (least (missing_among pattern (map f (take i xs)))) → cond (is_in pattern (f (get_or xs i 0))) lowest (lesser lowest (Some (f (get_or xs i 0)))) ≡ lesser start (least (missing_among pattern (map f (take (i + 1) xs))))
lowest_more pattern xs f start lowest i within is =
    let x : ℕ = f (get_or xs i 0) in
    by (is_in pattern x)
    ∙ sym (ap (λ l. lesser start (least (missing_among pattern l))) (map_more f xs i within)
    ∙ ap (λ l. lesser start (least l)) (missing-append pattern (map f (take i xs)) (x ∷ []))
    ∙ ap (lesser start) (least-append (missing_among pattern (map f (take i xs))) (missing_among pattern (x ∷ []))))
  where
    by : (b : Bool) → cond b lowest (lesser lowest (Some (f (get_or xs i 0)))) ≡ lesser start (lesser (least (missing_among pattern (map f (take i xs)))) (least (cond (not b) (f (get_or xs i 0) ∷ []) [])))
    by true = is ∙ ap (lesser start) (sym (lesser-none (least (missing_among pattern (map f (take i xs))))))
    by false = ap (λ a. lesser a (Some (f (get_or xs i 0)))) is ∙ lesser-assoc start (least (missing_among pattern (map f (take i xs)))) (Some (f (get_or xs i 0)))

-- an operator that adds nothing of a pattern, and one that does

adds_is : (pattern : List ℕ) (o : Operator) (mask : ℕ) → Shows pattern (is_in o.add) mask → list_any (is_in pattern) o.add ≡ not (eqb mask 0)
adds_is pattern o mask shows = meet_both pattern o.add ∙ sym (shows_any pattern (is_in o.add) mask shows)

pub none_missing : (pattern : List ℕ) (o : Operator) (mask : ℕ) (lowest : Option ℕ) → Shows pattern (is_in o.add) mask → eqb mask 0 ≡ true → lowest ≡ lesser lowest (least (missing_of pattern o))
none_missing pattern o mask lowest shows none =
    sym (lesser-none lowest)
    ∙ sym (ap (λ b. lesser lowest (least (cond b (missing_among pattern o.pre) []))) (adds_is pattern o mask shows ∙ ap not none))

pub some_missing : (pattern : List ℕ) (o : Operator) (mask : ℕ) (lowest : Option ℕ) → Shows pattern (is_in o.add) mask → eqb mask 0 ≡ false → lesser lowest (least (missing_among pattern o.pre)) ≡ lesser lowest (least (missing_of pattern o))
some_missing pattern o mask lowest shows some =
    sym (ap (λ b. lesser lowest (least (cond b (missing_among pattern o.pre) []))) (adds_is pattern o mask shows ∙ ap not some))

pub both_missing : (pattern : List ℕ) (publics : ℕ) (xs ys : List ℕ) (lowest : Option ℕ) → lesser (lesser lowest (least (missing_among pattern (map (λ k. 0 + k) xs)))) (least (missing_among pattern (map (λ k. publics + k) ys))) ≡ lesser lowest (least (missing_among pattern (xs ++ map (λ k. publics + k) ys)))
both_missing pattern publics xs ys lowest =
    ap (λ l. lesser (lesser lowest (least (missing_among pattern l))) (least (missing_among pattern (map (λ k. publics + k) ys)))) (map_zero xs)
    ∙ lesser-assoc lowest (least (missing_among pattern xs)) (least (missing_among pattern (map (λ k. publics + k) ys)))
    ∙ sym (ap (λ l. lesser lowest (least l)) (missing-append pattern xs (map (λ k. publics + k) ys))
    ∙ ap (lesser lowest) (least-append (missing_among pattern xs) (missing_among pattern (map (λ k. publics + k) ys))))

-- one more operator
pub least_more : {X : Type 0} (f : X → List ℕ) (xs : List X) (i : ℕ) (d : X) (start lowest : Option ℕ) → i < length xs → lowest ≡ lesser start (least (flat_map f (take i xs))) → lesser lowest (least (f (get_or xs i d))) ≡ lesser start (least (flat_map f (take (i + 1) xs)))
least_more f xs i d start lowest within is =
    ap (λ a. lesser a (least (f (get_or xs i d)))) is
    ∙ lesser-assoc start (least (flat_map f (take i xs))) (least (f (get_or xs i d)))
    ∙ sym (ap (λ l. lesser start (least (flat_map f l))) (take_more xs i d within)
    ∙ ap (λ l. lesser start (least l)) (flat_map-append f (take i xs) (get_or xs i d ∷ []) ∙ ap (λ l. flat_map f (take i xs) ++ l) (append-nil (f (get_or xs i d))))
    ∙ ap (lesser start) (least-append (flat_map f (take i xs)) (f (get_or xs i d))))

-- and all of a task's
pub missing_is : (t : AgentTask) (pattern : List ℕ) → lesser (least (flat_map (λ (a : Act). missing_of pattern (own_operator t.publics a)) t.acts)) (least (flat_map (λ (p : Far). missing_of pattern (far_operator p)) t.far)) ≡ least (missing (projected t).operators pattern)
missing_is t pattern =
    sym (ap least (flat_map-append (missing_of pattern) (map (own_operator t.publics) t.acts) (map far_operator t.far)
    ∙ (λ i. flat_map-map (missing_of pattern) (own_operator t.publics) t.acts i ++ flat_map-map (missing_of pattern) far_operator t.far i))
    ∙ least-append (flat_map (λ (a : Act). missing_of pattern (own_operator t.publics a)) t.acts) (flat_map (λ (p : Far). missing_of pattern (far_operator p)) t.far))

-- what is missing has what all preconditions have

least_such : (P : ℕ → Type 0) (xs : List ℕ) → All P xs → IfSome (least xs) P
least_such P [] all = tt
least_such P (x ∷ xs) all = by (least xs) (All-head P x xs all) (least_such P xs (All-tail P x xs all))
  where
    by : (o : Option ℕ) → P x → IfSome o P → IfSome (lesser (Some x) o) P
    by None here rest = here
    by (Some y) here rest = ⊎_elim
        (λ h. subst P (let e : x ≡ min x y = omega arith in e) here)
        (λ h. subst P (let e : y ≡ min x y = omega arith in e) rest)
        (cases_lt x y)

among_such : (P : ℕ → Type 0) (pattern xs : List ℕ) → All P xs → All P (missing_among pattern xs)
among_such P pattern [] all = All-nil P
among_such P pattern (x ∷ xs) all = by (not (is_in pattern x)) (among_such P pattern xs (All-tail P x xs all))
  where
    by : (b : Bool) → All P (missing_among pattern xs) → All P (cond b (x ∷ missing_among pattern xs) (missing_among pattern xs))
    by true rest = All-cons P x (missing_among pattern xs) (All-head P x xs all) rest
    by false rest = rest

of_such : (P : ℕ → Type 0) (pattern : List ℕ) (o : Operator) → All P o.pre → All P (missing_of pattern o)
of_such P pattern o all = by (list_any (is_in pattern) o.add)
  where
    by : (b : Bool) → All P (cond b (missing_among pattern o.pre) [])
    by true = among_such P pattern o.pre all
    by false = All-nil P

all_such : (P : ℕ → Type 0) (pattern : List ℕ) (os : List Operator) → All (λ (o : Operator). All P o.pre) os → All P (missing os pattern)
all_such P pattern [] all = All-nil P
all_such P pattern (o ∷ os) all =
    All-append P (missing_of pattern o) (missing os pattern) (of_such P pattern o (All-head (λ (p : Operator). All P p.pre) o os all)) (all_such P pattern os (All-tail (λ (p : Operator). All P p.pre) o os all))

pub next_such : (P : ℕ → Type 0) (pattern : List ℕ) (os : List Operator) → All (λ (o : Operator). All P o.pre) os → IfSome (least (missing os pattern)) P
next_such P pattern os all = least_such P (missing os pattern) (all_such P pattern os all)

-- growth

pub grown-more : (os : List Operator) (n : ℕ) (pattern : List ℕ) (x : ℕ) → Some x ≡ least (missing os pattern) → grown os (suc n) pattern ≡ grown os n (pattern ++ x ∷ [])
unfolding grown
grown-more os n pattern x e = ap (λ o. grown os n (option_map_or (λ y. pattern ++ y ∷ []) o pattern)) (sym e)

pub grown-whole : (os : List Operator) (n : ℕ) (pattern : List ℕ) → None ≡ least (missing os pattern) → grown os n pattern ≡ pattern
unfolding grown
grown-whole os zero pattern e = refl
grown-whole os (suc n) pattern e = ap (λ o. grown os n (option_map_or (λ y. pattern ++ y ∷ []) o pattern)) (sym e) ∙ grown-whole os n pattern e

pub grown-none : (os : List Operator) (pattern : List ℕ) → grown os 0 pattern ≡ pattern
unfolding grown
grown-none os pattern = refl

-- the first goals, in two steps

take_twice : (n : ℕ) (xs ys : List ℕ) → take n (take n xs ++ ys) ≡ take n (xs ++ ys)
take_twice zero xs ys = refl
take_twice (suc n) [] ys = refl
take_twice (suc n) (x ∷ xs) ys = λ i. x ∷ take_twice n xs ys i

pub first_goals : (publics : ℕ) (xs ys : List ℕ) → take 12 (take 12 ([] ++ map (λ k. 0 + k) xs) ++ map (λ k. publics + k) ys) ≡ take 12 (xs ++ map (λ k. publics + k) ys)
first_goals publics xs ys =
    ap (λ l. take 12 (take 12 l ++ map (λ k. publics + k) ys)) (map_zero xs) ∙ take_twice 12 xs (map (λ k. publics + k) ys)
