-- What holds of all words of a tree holds of those of its members and of its conjuncts, and of the word that it is.
use Rattle.mp_forms.proofs.Basics.{◌≡◌, true, List, [], ◌∷◌, ◌++◌, All, sym, true≢false, codes, cond_both, All-nil, All-cons, All-head, All-tail, All-append, Node, word, list, Word, is_name, is_variable, is_word, parts, rest_of, is_name_word}
use Rattle.mp_forms.proofs.Basics.{is_variable_word, conjuncts, conjuncts_of_all, words_of, IsName, IsVariable, word_at}
use Rattle.mp_sexp.specs.Node.{Nodes, none, more, node_list}
use Rattle.mp_forms.specs.Written.{words_of_all}

pub all_in_first : {X : Type 0} (P : X → Type 0) (xs ys : List X) → All P (xs ++ ys) → All P xs
all_in_first P [] ys all = All-nil P
all_in_first P (x ∷ xs) ys all =
    All-cons P x xs (All-head P x (xs ++ ys) all) (all_in_first P xs ys (All-tail P x (xs ++ ys) all))

pub all_in_second : {X : Type 0} (P : X → Type 0) (xs ys : List X) → All P (xs ++ ys) → All P ys
all_in_second P [] ys all = all
all_in_second P (x ∷ xs) ys all = all_in_second P xs ys (All-tail P x (xs ++ ys) all)

module _ (W : Word → Type 0) where
  -- it holds of all words of a tree
  abbrev pub InTree : Node → Type 0
  InTree node = All W (words_of node)

  in_members : (nodes : Nodes) → All W (words_of_all nodes) → All InTree (node_list nodes)
  unfolding words_of words_of_all
  in_members none all = All-nil InTree
  in_members (more n ns) all =
      All-cons InTree n (node_list ns) (all_in_first W (words_of n) (words_of_all ns) all)
      (in_members ns (all_in_second W (words_of n) (words_of_all ns) all))

  pub in_parts : (n : Node) → InTree n → All InTree (parts n)
  unfolding words_of words_of_all
  in_parts (word name place) all = All-nil InTree
  in_parts (list nodes place) all = in_members nodes all

  pub in_rest : (ns : List Node) → All InTree ns → All InTree (rest_of ns)
  in_rest [] all = All-nil InTree
  in_rest (n ∷ ns) all = All-tail InTree n ns all

  mutual
    unfolding conjuncts conjuncts_of_all words_of words_of_all

    pub in_conjuncts : (n : Node) → InTree n → All InTree (conjuncts n)
    in_conjuncts (word name place) all = All-cons InTree (word name place) [] all (All-nil InTree)
    in_conjuncts (list none place) all = All-nil InTree
    in_conjuncts (list (more head rest) place) all =
        cond_both (is_word (codes "and") head) (conjuncts_of_all rest) (list (more head rest) place ∷ []) (All InTree)
        (λ is. in_all_conjuncts rest (all_in_second W (words_of head) (words_of_all rest) all))
        (λ other. All-cons InTree (list (more head rest) place) [] all (All-nil InTree))

    in_all_conjuncts : (nodes : Nodes) → All W (words_of_all nodes) → All InTree (conjuncts_of_all nodes)
    in_all_conjuncts none all = All-nil InTree
    in_all_conjuncts (more n ns) all =
        All-append InTree (conjuncts n) (conjuncts_of_all ns) (in_conjuncts n (all_in_first W (words_of n) (words_of_all ns) all))
        (in_all_conjuncts ns (all_in_second W (words_of n) (words_of_all ns) all))

  -- ---- words

  pub word_in_tree : (n : Node) → is_name_word n ≡ true → InTree n → W (word_at n) × IsName (word_at n)
  unfolding is_name words_of
  word_in_tree (word name place) is all = (All-head W record { name = name; at = place } [] all, is)
  word_in_tree (list nodes place) is all = absurd (true≢false (sym is))

  pub variable_in_tree : (n : Node) → is_variable_word n ≡ true → InTree n → W (word_at n) × IsVariable (word_at n)
  unfolding is_variable words_of
  variable_in_tree (word name place) is all = (All-head W record { name = name; at = place } [] all, is)
  variable_in_tree (list nodes place) is all = absurd (true≢false (sym is))
