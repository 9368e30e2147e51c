-- What actions, sections and files say is written in their tree, and keeps the limits.
use Rattle.mp_forms.proofs.Basics.{ℕ, zero, suc, ◌+◌, ◌≤◌, Bool, true, false, List, [], ◌∷◌, take, All, length, length-append, arith, codes, filter, flat_map, All-nil, All-cons, All-head, All-tail, All-append, All-map, All-weaker}
use Rattle.mp_forms.proofs.Basics.{All-filter, Place, Node, Parameters, Word, Typed, Literal, Increase, Number, Function, Effect, Schema, DomainParts, ProblemParts, fault_at, place_of, parts, rest_of, is_list, is_headed, is_word}
use Rattle.mp_forms.proofs.Basics.{is_variable_word, greatest_cost, most_parameters, DomainFits, ProblemFits, Reading, Says}
use Rattle.mp_forms.proofs.Basics.{both, wanted, alone, name_rule, variable_rule, condition_rule, effect_rule, no_effect, Listing, type_rule, typed_of, typed_rule, variables, names, objects, declared_predicate, declared_function, predicates}
use Rattle.mp_forms.proofs.Basics.{functions, Key, keyed, value_length, keys_behind, keys_of, in_key, agent_rule, parameters_rule, parameter_members, schema_of, keys_rule, action_rule, empty_start, in_section, listed_rule, named_rule, start_rule}
use Rattle.mp_forms.proofs.Basics.{goal_rule, actions_rule, domain_of, domain_parts, domain_sections, problem_of, problem_parts, problem_sections, title_rule, define_members, file_rule, domain_rule, problem_rule}
use Rattle.std.proofs.lemmas.List.Elements.{All-take}
use Rattle.mp_forms.specs.Limits.{IsAllowedIncrease, SchemaFits}
use Rattle.mp_forms.specs.Rules.Actions.{action_members}
use Rattle.mp_forms.specs.Rules.Files.{title_members}
use Rattle.mp_forms.proofs.GivesLemmas.{Gives, Any, To, gives_any, gives_says, gives_wrong, gives_if, gives_both, gives_besides, gives_with, gives_each, gives_alone, gives_wanted, gives_once, few}
use Rattle.mp_forms.proofs.TreeWords.{InTree, in_parts, in_rest}
use Rattle.mp_forms.proofs.FormLaws.{Listed, typed_gives, all_flat, name_gives, variable_gives, type_of_gives, condition_gives, variables_listed, names_listed, objects_listed, declared_predicate_gives, declared_function_gives, blocks_listed}
use Rattle.mp_forms.proofs.CountLaws.{first_named, all_named, agents_counted, lists_counted, two_named}
use Rattle.mp_forms.proofs.EffectLaws.{IsIncrease, IsEffect, IsValue, IsStart, effect_gives, init_gives}
use Rattle.mp_forms.proofs.Basics.{Use, as_name, as_variable, as_cost, object_uses, parameter_uses, signature_uses, atom_uses, literal_uses, increase_uses, value_uses, schema_uses, domain_uses, problem_uses, IsTaken, Signature, Atom, map, words_of, ◌++◌}
use Rattle.std.specs.Prelude.{Contains}

module _ (tree : Node) where
  abbrev W : Word → Type 0
  W = Contains (words_of tree)

  abbrev In : Node → Type 0
  In = InTree W

  abbrev P : Use → Type 0
  P = IsTaken tree

  abbrev Name : Word → Type 0
  Name w = P (as_name w)

  abbrev IsVar : Word → Type 0
  IsVar w = P (as_variable w)

  abbrev IsParam : Typed → Type 0
  IsParam typed = All P (parameter_uses typed)

  abbrev IsObject : Typed → Type 0
  IsObject typed = All P (object_uses typed)

  abbrev IsSignature : Signature → Type 0
  IsSignature signature = All P (signature_uses signature)

  abbrev IsAtom : Atom → Type 0
  IsAtom atom = All P (atom_uses atom)

  abbrev IsLiteral : Literal → Type 0
  IsLiteral literal = All P (literal_uses literal)

  abbrev Literals : List Literal → Type 0
  Literals = All IsLiteral

  -- ---- keys

  abbrev InKey : Key → Type 0
  InKey k = In k.key × All In k.value

  keys_in : (left : ℕ) (ns : List Node) → All In ns → All InKey (keys_behind left ns)
  unfolding keys_behind
  keys_in left [] all = All-nil InKey
  keys_in zero (n ∷ ns) all =
      let others = All-tail In n ns all in
      All-cons InKey (keyed n (take (value_length n) ns)) (keys_behind (value_length n) ns)
      (All-head In n ns all, All-take In (value_length n) ns others) (keys_in (value_length n) ns others)
  keys_in (suc left) (n ∷ ns) all = keys_in left ns (All-tail In n ns all)

  key_gives : {X : Type 0} (P : X → Type 0) (w : List ℕ) (rule : List Node → Reading X) (missing : X) → P missing
      → ((value : List Node) → All In value → Gives P (rule value)) → (keys : List Key) → All InKey keys → Gives P (in_key w rule missing keys)
  key_gives P w rule missing without one keys all =
      gives_once InKey P (λ (k : Key). rule k.value) (λ (k : Key) (of : InKey k). one k.value of.1) (λ (k : Key). is_word w k.key) (λ (k : Key). place_of k.key)
      (Says missing) keys (gives_says P missing without) all

  agent_gives : (whole : Place) (value : List Node) → All In value → Gives (All IsParam) (agent_rule whole value)
  unfolding agent_rule
  agent_gives whole [] all = gives_wrong (All IsParam) _ []
  agent_gives whole (a ∷ []) all = gives_wrong (All IsParam) _ []
  agent_gives whole (a ∷ b ∷ []) all = gives_wrong (All IsParam) _ []
  agent_gives whole (n ∷ dash ∷ type ∷ others) all =
      let behind = All-tail In dash (type ∷ others) (All-tail In n (dash ∷ type ∷ others) all) in
      gives_besides (All IsParam) _ (both (λ word types. typed_of false word types ∷ []) (variable_rule n) (type_rule type))
      (λ x e. gives_both IsVar (All Name) (All IsParam) (λ word types. typed_of false word types ∷ []) (variable_rule n) (type_rule type)
      (λ w types of each_of. All-cons IsParam (typed_of false w types) []
      (All-cons P (as_variable w) (map as_name types) of (All-map P as_name types each_of)) (All-nil IsParam))
      (variable_gives tree n (All-head In n (dash ∷ type ∷ others) all)) (type_of_gives tree type (All-head In type others behind)))

  parameters_gives : (n : Node) → In n → Gives (All IsParam) (parameters_rule n)
  unfolding parameters_rule
  parameters_gives n all =
      gives_if (All IsParam) (is_list n) (typed_rule variables (place_of n) (parts n)) _
      (λ is. typed_gives In IsParam (All Name) variables (variables_listed tree) (place_of n) (parts n) (in_parts W n all)) (λ other. gives_wrong (All IsParam) _ [])

  -- ---- actions

  abbrev pub IsAction : Schema → Type 0
  IsAction s = All P (schema_uses s) × SchemaFits s

  increase_allowed : (i : Increase) → IsIncrease tree i → IsAllowedIncrease i
  increase_allowed (Number cost) of = (All-head P (as_cost cost) [] of).1
  increase_allowed (Function atom) of = tt

  abbrev Params : ℕ → List Typed → Type 0
  Params most ts = All IsParam ts × (length ts ≤ most)

  action_is : (w : Word) (agent params : List Typed) (pre : List Literal) (effect : Effect) (a p most : ℕ) → a + p ≤ most → most ≤ most_parameters
      → Name w → Params a agent → Params p params → Literals pre → IsEffect tree effect → IsAction (schema_of w agent params pre effect)
  action_is w agent params pre effect a p most sum le of agent_of params_of pre_of effect_of =
      let split = length-append agent params in
      let fewer = agent_of.1 in
      let few = params_of.1 in
      let from_del = flat_map atom_uses effect.del ++ flat_map increase_uses effect.increases in
      let from_add = flat_map atom_uses effect.add ++ from_del in
      let from_pre = flat_map literal_uses pre ++ from_add in
      let joined = All-append IsParam agent params agent_of.0 params_of.0 in (
        All-cons P (as_name w) (flat_map parameter_uses (agent ++ params) ++ from_pre) of
            (All-append P (flat_map parameter_uses (agent ++ params)) from_pre (all_flat P parameter_uses (agent ++ params) joined)
            (All-append P (flat_map literal_uses pre) from_add (all_flat P literal_uses pre pre_of)
            (All-append P (flat_map atom_uses effect.add) from_del (all_flat P atom_uses effect.add effect_of.add)
            (All-append P (flat_map atom_uses effect.del) (flat_map increase_uses effect.increases) (all_flat P atom_uses effect.del effect_of.del)
            (all_flat P increase_uses effect.increases effect_of.increases))))),
        record {
          params = omega (arith, sum, le, split, fewer, few);
          increases = effect_of.few;
          costs = All-weaker (IsIncrease tree) IsAllowedIncrease increase_allowed effect.increases effect_of.increases;
        },
      )

  keys_gives : (whole : Place) (name : Node) (keys : List Key) → In name → All InKey keys → all_named keys ≤ most_parameters → Gives IsAction (keys_rule whole name keys)
  unfolding keys_rule
  keys_gives whole name keys in_name all le =
      let Agent = Params (first_named (codes ":agent") keys) in
      let Listed = Params (first_named (codes ":parameters") keys) in
      let E = IsEffect tree in
      let Fifth = To E IsAction in
      let Fourth = To Literals Fifth in
      let Third = To Listed Fourth in
      let Second = To Agent Third in
      gives_with E IsAction _ _
      (gives_with Literals Fifth _ _
      (gives_with Listed Fourth _ _
      (gives_with Agent Third _ _
      (gives_with Name Second _ _
      (gives_says (To Name Second) schema_of (λ w of a aof p pof l lof e eof.
      action_is w a p l e (first_named (codes ":agent") keys) (first_named (codes ":parameters") keys) (all_named keys) (two_named keys) le of aof pof lof eof))
      (name_gives tree name in_name))
      (λ ts says. (
        key_gives (All IsParam) (codes ":agent") (agent_rule whole) [] (All-nil IsParam) (agent_gives whole) keys all ts says,
        agents_counted whole keys ts says,
      )))
      (λ ts says. (
        key_gives (All IsParam) (codes ":parameters") (wanted parameters_rule whole) [] (All-nil IsParam)
            (gives_wanted In (All IsParam) parameters_rule parameters_gives whole) keys all ts says,
        lists_counted whole keys ts says,
      )))
      (key_gives Literals (codes ":precondition") (wanted condition_rule whole) [] (All-nil IsLiteral)
      (gives_wanted In Literals condition_rule (condition_gives tree) whole) keys all))
      (key_gives E (codes ":effect") (wanted effect_rule whole) no_effect record {
        add = All-nil IsAtom;
        del = All-nil IsAtom;
        increases = All-nil (IsIncrease tree);
        few = omega arith;
      }
      (gives_wanted In E effect_rule (effect_gives tree) whole) keys all)

  action_by : (whole : Place) (ns : List Node) → All In ns → Gives IsAction (action_members whole ns)
  action_by whole [] all = gives_wrong IsAction _ []
  action_by whole (name ∷ members) all =
      let keys = keys_of members in
      gives_besides IsAction _ _ (λ x e. gives_besides IsAction _ (keys_rule whole name keys) (λ y few_say.
      keys_gives whole name keys (All-head In name members all) (keys_in 0 members (All-tail In name members all))
      (few most_parameters is_variable_word (λ (n : Node). fault_at (place_of n) Parameters) (flat_map parameter_members keys) y few_say)))

  -- what stands behind the word of a form
  rest_in : (n : Node) → In n → All In (rest_of (parts n))
  rest_in n all = in_rest W (parts n) (in_parts W n all)

  action_gives : (n : Node) → In n → Gives IsAction (action_rule n)
  unfolding action_rule
  action_gives n all = action_by (place_of n) (rest_of (parts n)) (rest_in n all)

  -- ---- sections

  section_gives : {X : Type 0} (P : X → Type 0) (w : List ℕ) (rule : Node → Reading X) (missing : Reading X) → Gives P missing
      → ((n : Node) → In n → Gives P (rule n)) → (sections : List Node) → All In sections → Gives P (in_section w rule missing sections)
  section_gives P w rule missing without one sections all = gives_once In P rule one (is_headed w) place_of missing sections without all

  -- a section that is a typed list, or is not there
  list_gives : {X T : Type 0} (P : X → Type 0) (Q : T → Type 0) (listing : Listing X T) → Listed In P Q listing → (w : List ℕ) (sections : List Node) → All In sections
      → Gives (All P) (in_section w (listed_rule listing) (Says []) sections)
  unfolding listed_rule
  list_gives P Q listing listed w sections all =
      section_gives (All P) w (listed_rule listing) (Says []) (gives_says (All P) [] (All-nil P))
      (λ n in_n. typed_gives In P Q listing listed (place_of n) (rest_of (parts n)) (rest_in n in_n)) sections all

  named_gives : (n : Node) → In n → Gives Name (named_rule n)
  unfolding named_rule
  named_gives n all = gives_alone In Name name_rule (name_gives tree) (place_of n) (rest_of (parts n)) (rest_in n all)

  start_gives : (n : Node) → In n → Gives (IsStart tree) (start_rule n)
  unfolding start_rule
  start_gives n all = init_gives tree (rest_of (parts n)) (rest_in n all)

  goal_gives : (n : Node) → In n → Gives Literals (goal_rule n)
  unfolding goal_rule
  goal_gives n all = gives_alone In Literals condition_rule (condition_gives tree) (place_of n) (rest_of (parts n)) (rest_in n all)

  actions_gives : (sections : List Node) → All In sections → Gives (All IsAction) (actions_rule sections)
  actions_gives sections all =
      gives_each In IsAction action_rule action_gives (filter (is_headed (codes ":action")) sections) (All-filter (is_headed (codes ":action")) In sections all)

  -- ---- files

  title_by : (kind : List ℕ) (whole : Place) (ns : List Node) → All In ns → Gives Name (title_members kind whole ns)
  title_by kind whole [] all = gives_wrong Name _ []
  title_by kind whole (n ∷ ns) all =
      gives_besides Name _ (alone name_rule whole ns) (λ x e. gives_alone In Name name_rule (name_gives tree) whole ns (All-tail In n ns all))

  title_gives : (kind : List ℕ) (n : Node) → In n → Gives Name (title_rule kind n)
  unfolding title_rule
  title_gives kind n all = title_by kind (place_of n) (parts n) (in_parts W n all)

  module _ {X : Type 0} (P : X → Type 0) (kind : List ℕ) (inside : Place → Reading Word → List Node → Reading X)
      (inside_gives : (whole : Place) (name : Reading Word) (sections : List Node) → Gives Name name → All In sections → Gives P (inside whole name sections)) where
    define_by : (whole : Place) (ns : List Node) → All In ns → Gives P (define_members kind inside whole ns)
    define_by whole [] all = gives_wrong P _ []
    define_by whole (a ∷ []) all = gives_wrong P _ []
    define_by whole (head ∷ title ∷ sections) all =
        let others = All-tail In head (title ∷ sections) all in
        gives_besides P _ (inside whole (title_rule kind title) sections)
        (λ x e. inside_gives whole (title_rule kind title) sections (title_gives kind title (All-head In title sections others)) (All-tail In title sections others))

    file_gives : (n : Node) → In n → Gives P (file_rule kind inside n)
    unfolding file_rule
    file_gives n all =
        gives_if P (is_list n) (define_members kind inside (place_of n) (parts n)) _
        (λ is. define_by (place_of n) (parts n) (in_parts W n all)) (λ other. gives_wrong P _ [])

  abbrev pub IsDomain : DomainParts → Type 0
  IsDomain d = All P (domain_uses d) × DomainFits d

  domain_by : (whole : Place) (name : Reading Word) (sections : List Node) → Gives Name name → All In sections → Gives IsDomain (domain_sections whole name sections)
  unfolding domain_parts
  domain_by whole name sections named all =
      let Objects = All IsObject in
      let Signatures = All IsSignature in
      let Actions = All IsAction in
      let Sixth = To Actions IsDomain in
      let Fifth = To Signatures Sixth in
      let Fourth = To Signatures Fifth in
      let Third = To Objects Fourth in
      let Second = To Objects Third in
      gives_besides IsDomain _ _ (λ x e. gives_with Actions IsDomain _ _
      (gives_with Signatures Sixth _ _
      (gives_with Signatures Fifth _ _
      (gives_with Objects Fourth _ _
      (gives_with Objects Third _ _
      (gives_with Name Second _ _
      (gives_says (To Name Second) domain_of (λ w of types types_of constants constants_of ps ps_of fs fs_of actions actions_of.
      let from_functions = flat_map signature_uses fs ++ flat_map schema_uses actions in
      let from_predicates = flat_map signature_uses ps ++ from_functions in
      let from_constants = flat_map object_uses constants ++ from_predicates in
      let schemas_of = All-weaker IsAction (λ (s : Schema). All P (schema_uses s)) (λ s is. is.0) actions actions_of in (
        All-cons P (as_name w) (flat_map object_uses types ++ from_constants) of
            (All-append P (flat_map object_uses types) from_constants (all_flat P object_uses types types_of)
            (All-append P (flat_map object_uses constants) from_predicates (all_flat P object_uses constants constants_of)
            (All-append P (flat_map signature_uses ps) from_functions (all_flat P signature_uses ps ps_of)
            (All-append P (flat_map signature_uses fs) (flat_map schema_uses actions) (all_flat P signature_uses fs fs_of)
            (all_flat P schema_uses actions schemas_of))))),
        All-weaker IsAction SchemaFits (λ s is. is.1) actions actions_of,
      )))
      named)
      (list_gives IsObject (All Name) (names false) (names_listed tree false) (codes ":types") sections all))
      (list_gives IsObject (All Name) objects (objects_listed tree) (codes ":constants") sections all))
      (list_gives IsSignature Any predicates (blocks_listed tree declared_predicate (declared_predicate_gives tree) false) (codes ":predicates") sections all))
      (list_gives IsSignature Any functions (blocks_listed tree declared_function (declared_function_gives tree) true) (codes ":functions") sections all))
      (actions_gives sections all))

  pub domain_gives : (n : Node) → In n → Gives IsDomain (domain_rule n)
  domain_gives n all = file_gives IsDomain (codes "domain") domain_sections domain_by n all

  abbrev pub IsProblem : ProblemParts → Type 0
  IsProblem p = All P (problem_uses p) × ProblemFits p

  problem_by : (whole : Place) (name : Reading Word) (sections : List Node) → Gives Name name → All In sections → Gives IsProblem (problem_sections whole name sections)
  unfolding problem_parts
  problem_by whole name sections named all =
      let Objects = All IsObject in
      let S = IsStart tree in
      let V = IsValue tree in
      let Sixth : (Bool → ProblemParts) → Type 0 = To Any IsProblem in
      let Fifth = To Literals Sixth in
      let Fourth = To S Fifth in
      let Third = To Objects Fourth in
      let Second = To Name Third in
      gives_besides IsProblem _ _ (λ x e. gives_with Any IsProblem _ _
      (gives_with Literals Sixth _ _
      (gives_with S Fifth _ _
      (gives_with Objects Fourth _ _
      (gives_with Name Third _ _
      (gives_with Name Second _ _
      (gives_says (To Name Second) problem_of (λ w of domain domain_of objects objects_of start start_of goals goals_of metric any.
      let from_values = flat_map value_uses start.values ++ flat_map literal_uses goals in
      let from_init = flat_map atom_uses start.facts ++ from_values in
      let from_objects = flat_map object_uses objects ++ from_init in (
        All-cons P (as_name w) (as_name domain ∷ from_objects) of
            (All-cons P (as_name domain) from_objects domain_of
            (All-append P (flat_map object_uses objects) from_init (all_flat P object_uses objects objects_of)
            (All-append P (flat_map atom_uses start.facts) from_values (all_flat P atom_uses start.facts start_of.facts)
            (All-append P (flat_map value_uses start.values) (flat_map literal_uses goals) (all_flat P value_uses start.values start_of.values)
            (all_flat P literal_uses goals goals_of))))),
        record {
          costs = All-weaker V (λ v. v.cost ≤ greatest_cost) (λ v is. (All-head P (as_cost v.cost) (atom_uses v.of) is).1) start.values start_of.values;
          one_each = start_of.one_each;
        },
      )))
      named)
      (section_gives Name (codes ":domain") named_rule _ (gives_wrong Name _ []) named_gives sections all))
      (list_gives IsObject (All Name) objects (objects_listed tree) (codes ":objects") sections all))
      (section_gives S (codes ":init") start_rule (Says empty_start) (gives_says S empty_start
      record { facts = All-nil IsAtom; values = All-nil V; one_each = tt }) start_gives sections all))
      (section_gives Literals (codes ":goal") goal_rule (Says []) (gives_says Literals [] (All-nil IsLiteral)) goal_gives sections all))
      (gives_any _))

  pub problem_gives : (n : Node) → In n → Gives IsProblem (problem_rule n)
  problem_gives n all = file_gives IsProblem (codes "problem") problem_sections problem_by n all
