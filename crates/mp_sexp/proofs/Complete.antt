-- What a text spells is read, where its brackets are not too deep.
use Rattle.std.proofs.Common.{◌≡◌, ℕ, ◌+◌, ◌≤◌, ◌<◌, false, eqb, List, [], ◌∷◌, ◌++◌, length, Result, Ok, refl, sym, ap, ◌∙◌, append_assoc, arith, inl, inr}
use Rattle.std.specs.List.{AllByRecursion}
use Rattle.std.proofs.lemmas.Bool.{ne_eqb, lt-ltb}
use Rattle.std.proofs.lemmas.List.{append-nil}
use Rattle.mp_sexp.specs.declared.tree.Place.{Place}
use Rattle.mp_sexp.specs.declared.bytes.Kind.TheVariants as kinds
use Rattle.mp_sexp.specs.Part.{Part}
use Rattle.mp_sexp.specs.Part as parts
use Rattle.mp_sexp.specs.Bytes.{IsSpace, IsWordByte, folded, folded_byte, open_bracket, close_bracket, semicolon, line_feed}
use Rattle.mp_sexp.specs.Kinds.{kind_of}
use Rattle.mp_sexp.specs.Node.{Node, Nodes, word, list, none, more, nodes_from, depth, depth_of_all}
use Rattle.mp_sexp.specs.Spelling.{next_place, place_from, place_after, IsGap, IsComment, IsTail, IsCommentTail, EndsWord, HasTree}
use Rattle.mp_sexp.specs.declared.refusal.ReadRefusal.{ReadRefusal}
use Rattle.mp_sexp.specs.Reading.{◌>>=◌, State, Level, start, step, read_byte, run, node_at}
use Rattle.mp_sexp.proofs.KindLemmas.{IsOfKind, is_of_kind, space_kind, word_kind}
use Rattle.mp_sexp.proofs.Placed.{SpellsAt, SpellsAllAt, IsWordText, placed, place_from-append}

abbrev pub reading : Part → List Node → List Level → State
reading part members around = record { part = part; members = members; around = around }

-- members, and nodes after them
abbrev pub joined : List Node → Nodes → Nodes
joined [] nodes = nodes
joined (n ∷ ns) nodes = more n (joined ns nodes)

pub joined-push : (ns : List Node) (n : Node) (nodes : Nodes) → joined (ns ++ n ∷ []) nodes ≡ joined ns (more n nodes)
joined-push [] n nodes = refl
joined-push (m ∷ ns) n nodes = ap (more m) (joined-push ns n nodes)

pub joined-none : (ns : List Node) → joined ns none ≡ nodes_from ns
joined-none [] = refl
joined-none (n ∷ ns) = ap (more n) (joined-none ns)

pub run_cons : (s t : State) (at : Place) (b : ℕ) (bs : List ℕ) → step s at b ≡ Ok t → run s at (b ∷ bs) ≡ run t (next_place at b) bs
unfolding run
run_cons s t at b bs e = rw e refl

-- ---- single bytes

pub step_kind : (members : List Node) (around : List Level) (at : Place) (b : ℕ) (k : _) → kind_of b ≡ k → step (reading parts.Gap members around) at b ≡ read_byte k (reading parts.Gap members around) at b
unfolding step
step_kind members around at b k e = ap (λ k. read_byte k (reading parts.Gap members around) at b) e

pub gap_space : (members : List Node) (around : List Level) (at : Place) (b : ℕ) → IsSpace b → step (reading parts.Gap members around) at b ≡ Ok (reading parts.Gap members around)
unfolding read_byte
gap_space members around at b h = step_kind members around at b kinds.Space (space_kind b h)

pub gap_comment : (members : List Node) (around : List Level) (at : Place) (b : ℕ) → b ≡ semicolon → step (reading parts.Gap members around) at b ≡ Ok (reading parts.Comment members around)
unfolding step read_byte kind_of
gap_comment members around at b h = rw h refl

pub comment_ends : (members : List Node) (around : List Level) (at : Place) (b : ℕ) → b ≡ line_feed → step (reading parts.Comment members around) at b ≡ Ok (reading parts.Gap members around)
unfolding step
comment_ends members around at b h = rw h refl

pub comment_goes_on : (members : List Node) (around : List Level) (at : Place) (b : ℕ) → (b ≡ line_feed → ⊥) → step (reading parts.Comment members around) at b ≡ Ok (reading parts.Comment members around)
unfolding step
comment_goes_on members around at b h = rw (ne_eqb b line_feed h) refl

pub not_none : (level : Level) (around : List Level) → eqb (length (level ∷ around)) 0 ≡ false
not_none level around = ne_eqb (length (level ∷ around)) 0 (λ e. absurd (omega (arith, e)))

pub closes : (members : List Node) (level : Level) (around : List Level) (at : Place) → step (reading parts.Gap members (level ∷ around)) at close_bracket ≡ Ok (reading parts.Gap (level.members ++ list (nodes_from members) level.inner ∷ []) around)
unfolding step read_byte kind_of
closes members level around at = refl

pub opens : (members : List Node) (level : Level) (around : List Level) (at : Place) → length (level ∷ around) < 100 → step (reading parts.Gap members (level ∷ around)) at open_bracket ≡ Ok (reading parts.Gap [] (record { members = members; inner = at } ∷ level ∷ around))
unfolding step read_byte kind_of
opens members level around at h = rw (not_none level around, lt-ltb (length (level ∷ around)) 100 h) refl

pub opens_first : (at : Place) → step (reading parts.Gap [] []) at open_bracket ≡ Ok (reading parts.Gap [] (record { members = []; inner = at } ∷ []))
unfolding step read_byte kind_of
opens_first at = refl

pub begins_word : (members : List Node) (level : Level) (around : List Level) (at : Place) (b : ℕ) → IsWordByte b → step (reading parts.Gap members (level ∷ around)) at b ≡ Ok (reading (parts.Word (folded_byte b ∷ []) at) members (level ∷ around))
unfolding step read_byte
begins_word members level around at b h = rw (word_kind b h, not_none level around) refl

pub lengthens : (name : List ℕ) (begin : Place) (members : List Node) (level : Level) (around : List Level) (at : Place) (b : ℕ) → IsWordByte b
    → step (reading (parts.Word name begin) members (level ∷ around)) at b ≡ Ok (reading (parts.Word (name ++ folded_byte b ∷ []) begin) members (level ∷ around))
unfolding step read_byte
lengthens name begin members level around at b h = rw (word_kind b h, not_none level around) refl

-- ---- a byte after a word, and the same byte after a gap

ends_at : (k : _) (b : ℕ) → IsOfKind k b → (IsWordByte b → ⊥) → (name : List ℕ) (begin : Place) (members : List Node) (around : List Level) (at : Place)
    → read_byte k (reading (parts.Word name begin) members around) at b ≡ read_byte k (reading parts.Gap (members ++ word name begin ∷ []) around) at b
unfolding read_byte
ends_at kinds.Space b h n name begin members around at = refl
ends_at kinds.Comment b h n name begin members around at = refl
ends_at kinds.Open b h n name begin members around at = refl
ends_at kinds.Close b h n name begin members around at = refl
ends_at kinds.Word b h n name begin members around at = absurd (n h)
ends_at kinds.Foreign b h n name begin members around at = refl

pub word_ends : (name : List ℕ) (begin : Place) (members : List Node) (around : List Level) (at : Place) (b : ℕ) → (IsWordByte b → ⊥)
    → step (reading (parts.Word name begin) members around) at b ≡ step (reading parts.Gap (members ++ word name begin ∷ []) around) at b
unfolding step
word_ends name begin members around at b h = ends_at (kind_of b) b (is_of_kind b) h name begin members around at

-- ---- whole parts

mutual
  run_gap : (gap rest : List ℕ) → IsGap gap → (members : List Node) (around : List Level) (at : Place)
      → run (reading parts.Gap members around) at (gap ++ rest) ≡ run (reading parts.Gap members around) (place_from at gap) rest
  run_gap [] rest h members around at = refl
  run_gap (b ∷ bs) rest (inl h) members around at =
      run_cons _ _ at b (bs ++ rest) (gap_space members around at b h.0) ∙ run_gap bs rest h.1 members around (next_place at b)
  run_gap (b ∷ bs) rest (inr h) members around at =
      run_cons _ _ at b (bs ++ rest) (gap_comment members around at b h.0) ∙ run_comment bs rest h.1 members around (next_place at b)

  run_comment : (gap rest : List ℕ) → IsComment gap → (members : List Node) (around : List Level) (at : Place)
      → run (reading parts.Comment members around) at (gap ++ rest) ≡ run (reading parts.Gap members around) (place_from at gap) rest
  run_comment [] rest h members around at = absurd h
  run_comment (b ∷ bs) rest (inl h) members around at =
      run_cons _ _ at b (bs ++ rest) (comment_ends members around at b h.0) ∙ run_gap bs rest h.1 members around (next_place at b)
  run_comment (b ∷ bs) rest (inr h) members around at =
      run_cons _ _ at b (bs ++ rest) (comment_goes_on members around at b h.0) ∙ run_comment bs rest h.1 members around (next_place at b)

mutual
  unfolding run

  run_tail : (tail : List ℕ) → IsTail tail → (nodes : Nodes) (place at : Place) → run (reading parts.Gap (list nodes place ∷ []) []) at tail ≡ Ok (list nodes place)
  run_tail [] h nodes place at = refl
  run_tail (b ∷ bs) (inl h) nodes place at =
      run_cons _ _ at b bs (gap_space (list nodes place ∷ []) [] at b h.0) ∙ run_tail bs h.1 nodes place (next_place at b)
  run_tail (b ∷ bs) (inr h) nodes place at =
      run_cons _ _ at b bs (gap_comment (list nodes place ∷ []) [] at b h.0) ∙ run_comment_tail bs h.1 nodes place (next_place at b)

  run_comment_tail : (tail : List ℕ) → IsCommentTail tail → (nodes : Nodes) (place at : Place) → run (reading parts.Comment (list nodes place ∷ []) []) at tail ≡ Ok (list nodes place)
  run_comment_tail [] h nodes place at = refl
  run_comment_tail (b ∷ bs) (inl h) nodes place at =
      run_cons _ _ at b bs (comment_ends (list nodes place ∷ []) [] at b h.0) ∙ run_tail bs h.1 nodes place (next_place at b)
  run_comment_tail (b ∷ bs) (inr h) nodes place at =
      run_cons _ _ at b bs (comment_goes_on (list nodes place ∷ []) [] at b h.0) ∙ run_comment_tail bs h.1 nodes place (next_place at b)

-- the rest of a word, and then another byte
run_letters : (text : List ℕ) (c : ℕ) (rest : List ℕ) → AllByRecursion IsWordByte text → (IsWordByte c → ⊥) → (name : List ℕ) (begin : Place) (members : List Node) (level : Level) (around : List Level) (at : Place)
    → run (reading (parts.Word name begin) members (level ∷ around)) at (text ++ c ∷ rest)
    ≡ run (reading parts.Gap (members ++ word (name ++ folded text) begin ∷ []) (level ∷ around)) (place_from at text) (c ∷ rest)
unfolding run
run_letters [] c rest h n name begin members level around at =
    ap (λ (o : Result State ReadRefusal). o >>= λ (t : State). run t (next_place at c) rest) (word_ends name begin members (level ∷ around) at c n)
    ∙ ap (λ (w : List ℕ). run (reading parts.Gap (members ++ word w begin ∷ []) (level ∷ around)) at (c ∷ rest)) (sym (append-nil name))
run_letters (b ∷ bs) c rest h n name begin members level around at =
    run_cons _ _ at b (bs ++ c ∷ rest) (lengthens name begin members level around at b h.0)
    ∙ run_letters bs c rest h.1 n (name ++ folded_byte b ∷ []) begin members level around (next_place at b)
    ∙ ap (λ (w : List ℕ). run (reading parts.Gap (members ++ word w begin ∷ []) (level ∷ around)) (place_from (next_place at b) bs) (c ∷ rest)) (append_assoc name (folded_byte b ∷ []) (folded bs))

run_word : (text : List ℕ) (c : ℕ) (rest : List ℕ) → IsWordText text → (IsWordByte c → ⊥) → (members : List Node) (level : Level) (around : List Level) (at : Place)
    → run (reading parts.Gap members (level ∷ around)) at (text ++ c ∷ rest)
    ≡ run (reading parts.Gap (members ++ word (folded text) at ∷ []) (level ∷ around)) (place_from at text) (c ∷ rest)
run_word [] c rest h n members level around at = absurd h
run_word (b ∷ bs) c rest h n members level around at =
    run_cons _ _ at b (bs ++ c ∷ rest) (begins_word members level around at b h.0)
    ∙ run_letters bs c rest h.1 n (folded_byte b ∷ []) at members level around (next_place at b)

-- a word inside a list, and what follows it there
run_word_then : (name : List ℕ) (place : Place) (at : Place) (text others rest : List ℕ) → SpellsAt at text (word name place) → EndsWord (word name place) others
    → (members : List Node) (level : Level) (around : List Level)
    → run (reading parts.Gap members (level ∷ around)) at (text ++ (others ++ close_bracket ∷ rest))
    ≡ run (reading parts.Gap (members ++ word name place ∷ []) (level ∷ around)) (place_from at text) (others ++ close_bracket ∷ rest)
run_word_then name place at text [] rest h ends members level around =
    run_word text close_bracket rest h.0 (λ w. w.3 refl) members level around at
    ∙ ap (λ (n : Node). run (reading parts.Gap (members ++ n ∷ []) (level ∷ around)) (place_from at text) (close_bracket ∷ rest)) (ap (λ (w : List ℕ). word w at) (sym h.1) ∙ ap (word name) (sym h.2))
run_word_then name place at text (c ∷ cs) rest h ends members level around =
    run_word text c (cs ++ close_bracket ∷ rest) h.0 ends members level around at
    ∙ ap (λ (n : Node). run (reading parts.Gap (members ++ n ∷ []) (level ∷ around)) (place_from at text) (c ∷ cs ++ close_bracket ∷ rest)) (ap (λ (w : List ℕ). word w at) (sym h.1) ∙ ap (word name) (sym h.2))

-- a list, when its inside is read
run_list : (nodes : Nodes) (place : Place) (at : Place) (text rest : List ℕ) (h : SpellsAt at text (list nodes place)) (members : List Node) (around : List Level)
    → step (reading parts.Gap members around) at open_bracket ≡ Ok (reading parts.Gap [] (record { members = members; inner = at } ∷ around))
    → run (reading parts.Gap [] (record { members = members; inner = at } ∷ around)) (next_place at open_bracket) (h.0 ++ close_bracket ∷ rest)
    ≡ run (reading parts.Gap (members ++ list nodes at ∷ []) around) (next_place (place_from (next_place at open_bracket) h.0) close_bracket) rest
    → run (reading parts.Gap members around) at (text ++ rest) ≡ run (reading parts.Gap (members ++ list nodes place ∷ []) around) (place_from at text) rest
run_list nodes place at text rest h members around opened inside =
    let regrouped : text ++ rest ≡ open_bracket ∷ h.0 ++ close_bracket ∷ rest = ap (λ (t : List ℕ). t ++ rest) h.1 ∙ append_assoc (open_bracket ∷ h.0) (close_bracket ∷ []) rest in
    let at_end : place_from at text ≡ next_place (place_from (next_place at open_bracket) h.0) close_bracket =
    ap (place_from at) h.1 ∙ place_from-append at (open_bracket ∷ h.0) (close_bracket ∷ []) in
    ap (run (reading parts.Gap members around) at) regrouped
    ∙ run_cons _ _ at open_bracket (h.0 ++ close_bracket ∷ rest) opened
    ∙ inside
    ∙ ap (λ (p : Place). run (reading parts.Gap (members ++ list nodes at ∷ []) around) p rest) (sym at_end)
    ∙ ap (λ (p : Place). run (reading parts.Gap (members ++ list nodes p ∷ []) around) (place_from at text) rest) (sym h.2)

mutual
  run_node : (node : Node) (at : Place) (text others rest : List ℕ) → SpellsAt at text node → EndsWord node others
      → (members : List Node) (level : Level) (around : List Level) → depth node + length (level ∷ around) ≤ 100
      → run (reading parts.Gap members (level ∷ around)) at (text ++ (others ++ close_bracket ∷ rest))
      ≡ run (reading parts.Gap (members ++ node ∷ []) (level ∷ around)) (place_from at text) (others ++ close_bracket ∷ rest)
  run_node (word name place) at text others rest h ends members level around fits = run_word_then name place at text others rest h ends members level around
  run_node (list nodes place) at text others rest h ends members level around fits =
      let few : length (level ∷ around) < 100 = omega arith in
      run_list nodes place at text (others ++ close_bracket ∷ rest) h members (level ∷ around) (opens members level around at few)
      (run_all nodes (next_place at open_bracket) h.0 (others ++ close_bracket ∷ rest) h.3 [] (record { members = members; inner = at }) (level ∷ around) (omega arith))

  run_all : (nodes : Nodes) (at : Place) (text rest : List ℕ) → SpellsAllAt at text nodes
      → (members : List Node) (level : Level) (around : List Level) → depth_of_all nodes + length (level ∷ around) ≤ 100
      → run (reading parts.Gap members (level ∷ around)) at (text ++ close_bracket ∷ rest)
      ≡ run (reading parts.Gap (level.members ++ list (joined members nodes) level.inner ∷ []) around) (next_place (place_from at text) close_bracket) rest
  run_all none at text rest h members level around fits =
      run_gap text (close_bracket ∷ rest) h members (level ∷ around) at
      ∙ run_cons _ _ (place_from at text) close_bracket rest (closes members level around (place_from at text))
      ∙ ap (λ (ns : Nodes). run (reading parts.Gap (level.members ++ list ns level.inner ∷ []) around) (next_place (place_from at text) close_bracket) rest) (sym (joined-none members))
  run_all (more node nodes) at text rest h members level around fits =
      let gap = h.0 in
      let body = h.1 in
      let others = h.2 in
      let in_gap = place_from at gap in
      let regrouped : text ++ close_bracket ∷ rest ≡ gap ++ (body ++ (others ++ close_bracket ∷ rest)) =
      ap (λ (t : List ℕ). t ++ close_bracket ∷ rest) h.3 ∙ append_assoc (gap ++ body) others (close_bracket ∷ rest) ∙ append_assoc gap body (others ++ close_bracket ∷ rest) in
      let at_end : place_from at text ≡ place_from (place_from in_gap body) others =
      ap (place_from at) h.3 ∙ place_from-append at (gap ++ body) others ∙ ap (λ (p : Place). place_from p others) (place_from-append at gap body) in
      ap (run (reading parts.Gap members (level ∷ around)) at) regrouped
      ∙ run_gap gap (body ++ (others ++ close_bracket ∷ rest)) h.4 members (level ∷ around) at
      ∙ run_node node in_gap body others rest h.5 h.6 members level around (omega arith)
      ∙ run_all nodes (place_from in_gap body) others rest h.7 (members ++ node ∷ []) level around (omega arith)
      ∙ ap (λ (ns : Nodes). run (reading parts.Gap (level.members ++ list ns level.inner ∷ []) around) (next_place (place_from (place_from in_gap body) others) close_bracket) rest) (joined-push members node nodes)
      ∙ ap (λ (p : Place). run (reading parts.Gap (level.members ++ list (joined members (more node nodes)) level.inner ∷ []) around) (next_place p close_bracket) rest) (sym at_end)

-- what a text spells is read
pub is_read : (node : Node) (text : List ℕ) → HasTree text node → node_at text ≡ Ok node
unfolding node_at
is_read (word name place) text has = absurd has.0
is_read (list nodes place) text has =
    let h = has.0 in
    let fits : depth_of_all nodes + 1 ≤ 100 = has.1 in
    let gap = h.0 in
    let body = h.1 in
    let tail = h.2 in
    let at = place_after gap in
    let spelled = placed (list nodes place) gap body h.5 in
    let regrouped : text ≡ gap ++ (body ++ tail) = h.3 ∙ append_assoc gap body tail in
    let whole : run start (place_after []) text ≡ run (reading parts.Gap (list nodes place ∷ []) []) (place_from at body) tail =
    ap (run start (place_after [])) regrouped
    ∙ run_gap gap (body ++ tail) h.4 [] [] (place_after [])
    ∙ run_list nodes place at body tail spelled [] [] (opens_first at)
    (run_all nodes (next_place at open_bracket) spelled.0 tail spelled.3 [] (record { members = []; inner = at }) [] (omega arith)) in
    whole ∙ run_tail tail h.6 nodes place (place_from at body)
