-- What an action says has few parameters and few increases.
use Rattle.mp_forms.proofs.Basics.{◌≡◌, ℕ, ◌+◌, ◌≤◌, Bool, true, false, List, [], ◌∷◌, length, take, arith, refl, sym, ap, subst, ◌∙◌, length-append, true≢false, if◌then◌else◌, codes, filter, flat_map, Place, Node, Shape, Word, Typed, Change, Add}
use Rattle.mp_forms.proofs.Basics.{Delete, Grow, fault_at, is_word, place_of, parts, is_list, is_variable_word, is_negation, is_increase, Reading, Says, misshapen, said, both, each, wanted, of_first, once, word_at, variable_rule, atom_rule}
use Rattle.mp_forms.proofs.Basics.{negated_rule, increase_rule, change_rule, increase_in, Declared, with_type, with_item, with_block, is_dash, type_rule, typed_of, typed_from, type_first, typed_rule, variables, Key, in_key, agent_rule}
use Rattle.mp_forms.proofs.Basics.{parameters_rule, parameter_members}
use Rattle.std.specs.Prelude.{◌&&◌}
use Rattle.std.proofs.lemmas.List.Elements.{filter-append}
use Rattle.mp_forms.specs.Rules.Typed.{is_no_word}
use Rattle.mp_forms.specs.Rules.Actions.{first_parts}
use Rattle.mp_forms.proofs.OneWord.{no_other_word}
use Rattle.mp_forms.proofs.GivesLemmas.{Gives, Any, gives_any, gives_says, gives_wrong, gives_if, gives_where, gives_said, gives_both, gives_besides}

abbrev one_if : Bool → ℕ
one_if b = if b then 1 else 0

-- ---- increases

count_more : {A : Type 0} (b : Bool) (a : A) (as' : List A) → length (if b then a ∷ as' else as') ≡ one_if b + length as'
count_more true a as' = omega arith
count_more false a as' = omega arith

change_increases : (n : Node) → Gives (λ (c : Change). length (increase_in c) ≤ one_if (is_increase n)) (change_rule n)
unfolding change_rule
change_increases n =
    let P : Change → Type 0 = λ (c : Change). length (increase_in c) ≤ one_if (is_increase n) in
    gives_if P (is_negation n) (said Delete (negated_rule n)) (if is_increase n then said Grow (increase_rule n) else said Add (atom_rule n))
    (λ is. gives_said Any P Delete (negated_rule n) (λ a any. omega arith) (gives_any (negated_rule n)))
    (λ other. gives_if P (is_increase n) (said Grow (increase_rule n)) (said Add (atom_rule n))
    (λ is. let one : one_if (is_increase n) ≡ 1 = ap one_if is in
    gives_said Any P Grow (increase_rule n) (λ i any. omega (arith, one)) (gives_any (increase_rule n)))
    (λ no. gives_said Any P Add (atom_rule n) (λ a any. omega arith) (gives_any (atom_rule n))))

-- changes increase no more than so many of these conjuncts
pub increases_counted : (nodes : List Node) → Gives (λ (cs : List Change). length (flat_map increase_in cs) ≤ length (filter is_increase nodes)) (each change_rule nodes)
unfolding each
increases_counted [] = gives_says (λ (cs : List Change). length (flat_map increase_in cs) ≤ 0) [] (omega arith)
increases_counted (n ∷ ns) =
    gives_both (λ (c : Change). length (increase_in c) ≤ one_if (is_increase n))
    (λ (cs : List Change). length (flat_map increase_in cs) ≤ length (filter is_increase ns))
    (λ (cs : List Change). length (flat_map increase_in cs) ≤ length (filter is_increase (n ∷ ns)))
    (λ c cs. c ∷ cs) (change_rule n) (each change_rule ns)
    (λ c cs here others. let split = length-append (increase_in c) (flat_map increase_in cs) in
    let count = count_more (is_increase n) n (filter is_increase ns) in
    omega (arith, here, others, split, count))
    (change_increases n) (increases_counted ns)

-- ---- typed variables

abbrev pub variables_among : List Node → ℕ
variables_among nodes = length (filter is_variable_word nodes)

abbrev Few : ℕ → Declared Typed (List Word) → Type 0
Few most d = length d.items ≤ most

item_is : (n : Node) → Gives (λ (w : Word). is_variable_word n ≡ true) (variable_rule n)
unfolding variable_rule
item_is n = gives_where (λ (w : Word). is_variable_word n ≡ true) (is_variable_word n) (word_at n) (fault_at (place_of n) Shape) (λ is. is)

mutual
  unfolding typed_from type_first

  from_counted : (whole : Place) (is_behind_item : Bool) (ns : List Node) → Gives (Few (variables_among ns)) (typed_from variables whole is_behind_item ns)
  from_counted whole is_behind_item [] = gives_says (Few 0) record { type = []; items = [] } (omega arith)
  from_counted whole is_behind_item (n ∷ ns) =
      let count = count_more (is_variable_word n) n (filter is_variable_word ns) in
      gives_if (Few (variables_among (n ∷ ns))) (is_behind_item && is_dash n) _ _
      (λ dash d says. let others = type_counted whole ns d says in omega (arith, count, others))
      (λ no_dash. gives_if (Few (variables_among (n ∷ ns))) (is_no_word n) _ _
      (λ is. gives_both (λ (block : List Typed). ⊥) Any (Few (variables_among (n ∷ ns))) (with_block variables.untyped) (variables.block n)
      (typed_from variables whole false ns) (λ block d none any. absurd none) (gives_wrong (λ (block : List Typed). ⊥) _ [])
      (gives_any (typed_from variables whole false ns)))
      (λ other. gives_both (λ (make : List Word → Typed). is_variable_word n ≡ true) (Few (variables_among ns)) (Few (variables_among (n ∷ ns)))
      with_item (variables.item n) (typed_from variables whole true ns)
      (λ make d is others. let one : one_if (is_variable_word n) ≡ 1 = ap one_if is in omega (arith, count, one, others))
      (gives_said (λ (w : Word). is_variable_word n ≡ true) (λ (make : List Word → Typed). is_variable_word n ≡ true) (typed_of false) (variable_rule n)
      (λ w is. is) (item_is n))
      (from_counted whole true ns)))

  type_counted : (whole : Place) (ns : List Node) → Gives (Few (variables_among ns)) (type_first variables whole ns)
  type_counted whole [] = gives_wrong (Few 0) _ []
  type_counted whole (n ∷ ns) =
      let count = count_more (is_variable_word n) n (filter is_variable_word ns) in
      gives_both Any (Few (variables_among ns)) (Few (variables_among (n ∷ ns))) with_type (type_rule n) (typed_from variables whole false ns)
      (λ type d any others. omega (arith, count, others)) (gives_any (type_rule n)) (from_counted whole false ns)

-- ---- keys

abbrev Typeds : ℕ → List Typed → Type 0
Typeds most ts = length ts ≤ most

agent_counted : (whole : Place) (value : List Node) → Gives (Typeds (variables_among (take 1 value))) (agent_rule whole value)
unfolding agent_rule
agent_counted whole [] = gives_wrong (Typeds 0) _ []
agent_counted whole (n ∷ []) = gives_wrong (Typeds (variables_among (n ∷ []))) _ []
agent_counted whole (n ∷ dash ∷ []) = gives_wrong (Typeds (variables_among (n ∷ []))) _ []
agent_counted whole (n ∷ dash ∷ type ∷ others) =
    let P = Typeds (variables_among (n ∷ [])) in
    let count = count_more (is_variable_word n) n [] in
    gives_besides P _ (both (λ word types. typed_of false word types ∷ []) (variable_rule n) (type_rule type))
    (λ x e. gives_both (λ (w : Word). is_variable_word n ≡ true) Any P (λ word types. typed_of false word types ∷ []) (variable_rule n) (type_rule type)
    (λ w types is any. let one : one_if (is_variable_word n) ≡ 1 = ap one_if is in omega (arith, count, one))
    (item_is n) (gives_any (type_rule type)))

list_counted : (whole : Place) (value : List Node) → Gives (Typeds (variables_among (first_parts value))) (wanted parameters_rule whole value)
unfolding wanted parameters_rule typed_rule
list_counted whole [] = gives_wrong (Typeds 0) _ []
list_counted whole (n ∷ ns) =
    let most = variables_among (parts n) in
    gives_if (Typeds most) (is_list n) (typed_rule variables (place_of n) (parts n)) (misshapen (place_of n))
    (λ is. gives_said (Few most) (Typeds most) (λ d. d.items) (typed_from variables (place_of n) false (parts n)) (λ d few. few)
    (from_counted (place_of n) false (parts n)))
    (λ other. gives_wrong (Typeds most) _ [])

-- the variables where a key names parameters
abbrev named : Key → ℕ
named k = variables_among (parameter_members k)

abbrev pub all_named : List Key → ℕ
all_named keys = variables_among (flat_map parameter_members keys)

-- those of the first key that is this word
abbrev pub first_named : List ℕ → List Key → ℕ
first_named w [] = 0
first_named w (k ∷ ks) = if is_word w k.key then named k else first_named w ks

module _ (w : List ℕ) (rule : List Node → Reading (List Typed)) (one : (k : Key) → is_word w k.key ≡ true → Gives (Typeds (named k)) (rule k.value)) where
  first_counted : (keys : List Key) → Gives (Typeds (first_named w keys)) (of_first (λ (k : Key). rule k.value) (Says []) (filter (λ (k : Key). is_word w k.key) keys))
  first_counted [] = gives_says (Typeds 0) [] (omega arith)
  first_counted (k ∷ ks) =
      (elim (is_word w k.key) as (λ b. (b ≡ true → Gives (Typeds (named k)) (rule k.value))
      → Gives (Typeds (if b then named k else first_named w ks))
      (of_first (λ (k : Key). rule k.value) (Says []) (if b then k ∷ filter (λ (k : Key). is_word w k.key) ks else filter (λ (k : Key). is_word w k.key) ks))) [
        | true ↦ λ gives. gives refl
        | false ↦ λ gives. first_counted ks
      ]) (one k)

  key_counted : (keys : List Key) → Gives (Typeds (first_named w keys)) (in_key w rule [] keys)
  unfolding once
  key_counted keys =
      gives_besides (Typeds (first_named w keys)) _ (of_first (λ (k : Key). rule k.value) (Says []) (filter (λ (k : Key). is_word w k.key) keys))
      (λ x e. first_counted keys)

agent_members : (k : Key) → is_word (codes ":agent") k.key ≡ true → parameter_members k ≡ take 1 k.value
unfolding parameter_members
agent_members k is = rw is

list_members : (k : Key) → is_word (codes ":parameters") k.key ≡ true → parameter_members k ≡ first_parts k.value
unfolding parameter_members
list_members k is = rw (no_other_word (codes ":parameters") (codes ":agent") k.key refl is, is)

pub agents_counted : (whole : Place) (keys : List Key) → Gives (Typeds (first_named (codes ":agent") keys)) (in_key (codes ":agent") (agent_rule whole) [] keys)
agents_counted whole keys =
    key_counted (codes ":agent") (agent_rule whole) (λ k is. subst (λ (ns : List Node). Gives (Typeds (variables_among ns)) (agent_rule whole k.value))
    (sym (agent_members k is)) (agent_counted whole k.value)) keys

pub lists_counted : (whole : Place) (keys : List Key)
    → Gives (Typeds (first_named (codes ":parameters") keys)) (in_key (codes ":parameters") (wanted parameters_rule whole) [] keys)
lists_counted whole keys =
    key_counted (codes ":parameters") (wanted parameters_rule whole) (λ k is. subst (λ (ns : List Node). Gives (Typeds (variables_among ns)) (wanted parameters_rule whole k.value))
    (sym (list_members k is)) (list_counted whole k.value)) keys

-- ---- both keys together

named_split : (k : Key) (ks : List Key) → all_named (k ∷ ks) ≡ named k + all_named ks
named_split k ks =
    ap length (filter-append is_variable_word (parameter_members k) (flat_map parameter_members ks))
    ∙ length-append (filter is_variable_word (parameter_members k)) (filter is_variable_word (flat_map parameter_members ks))

one_named : (w : List ℕ) (keys : List Key) → first_named w keys ≤ all_named keys
one_named w [] = omega arith
one_named w (k ∷ ks) =
    let split = named_split k ks in
    let others = one_named w ks in
    elim (is_word w k.key) as (λ b. (if b then named k else first_named w ks) ≤ all_named (k ∷ ks)) [
      | true ↦ omega (arith, split)
      | false ↦ omega (arith, split, others)
    ]

sum_by : (b c : Bool) (here v w both rest : ℕ) → (b ≡ true → c ≡ false) → both ≡ here + rest → v ≤ rest → w ≤ rest → v + w ≤ rest
    → (if b then here else v) + (if c then here else w) ≤ both
sum_by true true here v w both rest apart e one other sum = absurd (true≢false (apart refl))
sum_by true false here v w both rest apart e one other sum = omega (arith, e, other)
sum_by false true here v w both rest apart e one other sum = omega (arith, e, one)
sum_by false false here v w both rest apart e one other sum = omega (arith, e, sum)

pub two_named : (keys : List Key) → first_named (codes ":agent") keys + first_named (codes ":parameters") keys ≤ all_named keys
two_named [] = omega arith
two_named (k ∷ ks) =
    sum_by (is_word (codes ":agent") k.key) (is_word (codes ":parameters") k.key) (named k) (first_named (codes ":agent") ks) (first_named (codes ":parameters") ks)
    (all_named (k ∷ ks)) (all_named ks) (λ is. no_other_word (codes ":agent") (codes ":parameters") k.key refl is) (named_split k ks)
    (one_named (codes ":agent") ks) (one_named (codes ":parameters") ks) (two_named ks)
