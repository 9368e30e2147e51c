-- The keys of an action, as a loop over them finds them one after the other.
use Rattle.mp_factor.proofs.Basics.{◌≡◌, ℕ, zero, suc, List, [], ◌∷◌, ◌++◌, map, take, drop, Result, refl, arith, sym, ap, codes, append_assoc, append-nil, map-append, Place, Node, Fault, Word, Typed, Literal, Effect, wanted, found_in, said_found}
use Rattle.mp_factor.proofs.Basics.{name_rule, condition_rule, effect_rule, no_effect, Key, keyed, value_length, keys_behind, keys_of, in_key, agent_rule, parameters_rule, keys_rule, schema_of}
use Rattle.mp_factor.specs.FoundForms.{schema_from}
use Rattle.mp_factor.proofs.PartLemmas.{paired, with_five}

-- the keys behind so many members
keys_of_rest : (left : ℕ) (ns : List Node) → keys_behind left ns ≡ keys_behind 0 (drop left ns)
unfolding keys_behind
keys_of_rest zero [] = refl
keys_of_rest (suc left) [] = refl
keys_of_rest zero (n ∷ ns) = refl
keys_of_rest (suc left) (n ∷ ns) = keys_of_rest left ns

-- the first key and the others
pub first_of_keys : (n : Node) (ns value rest : List Node) (len : ℕ) → len ≡ value_length n → value ≡ take len ns → rest ≡ drop len ns
    → keys_behind 0 (n ∷ ns) ≡ keyed n value ∷ keys_behind 0 rest
unfolding keys_behind
first_of_keys n ns value rest len is front back =
    rw (front, back, is) (ap (λ (ks : List Key). keyed n (take (value_length n) ns) ∷ ks) (keys_of_rest (value_length n) ns))

pub no_keys : (ns : List Node) → ns ≡ [] → keys_behind 0 ns ≡ []
unfolding keys_behind
no_keys ns is = ap (λ (xs : List Node). keys_behind 0 xs) is

-- one key more is found
pub one_key_more : {K : Type 0} → (f : K → Key) (keys more : List K) (k : K) (ns behind : List Node) (whole : List Key)
    → more ≡ keys ++ k ∷ [] → keys_of ns ≡ f k ∷ keys_of behind → map f keys ++ keys_of ns ≡ whole → map f more ++ keys_of behind ≡ whole
one_key_more f keys more k ns behind whole pushed first so_far = rw (pushed, map-append, append_assoc, ← first) so_far

pub no_key_more : {K : Type 0} → (f : K → Key) (keys : List K) (ns : List Node) (whole : List Key)
    → ns ≡ [] → map f keys ++ keys_of ns ≡ whole → map f keys ≡ whole
no_key_more f keys ns whole none so_far = grind (arith, append-nil, no_keys)

-- an action of what its keys say
pub keys_read : (whole : Place) (name : Node) (keys : List Key) (found : Result ((((Word × List Typed) × List Typed) × List Literal) × Effect) Fault)
    → (word : Result Word Fault) → word ≡ found_in (name_rule name)
    → found ≡ paired (paired (paired (paired word
    (found_in (in_key (codes ":agent") (agent_rule whole) [] keys)))
    (found_in (in_key (codes ":parameters") (wanted parameters_rule whole) [] keys)))
    (found_in (in_key (codes ":precondition") (wanted condition_rule whole) [] keys)))
    (found_in (in_key (codes ":effect") (wanted effect_rule whole) no_effect keys))
    → said_found schema_from found ≡ found_in (keys_rule whole name keys)
unfolding keys_rule
keys_read whole name keys found word is_name is_found =
    rw (is_found, is_name) (sym (with_five schema_of (name_rule name) _ _ _ _))
