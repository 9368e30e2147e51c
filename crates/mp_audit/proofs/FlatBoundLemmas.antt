-- Entries whose lists lie one behind another: how many they are, the one in a place, and one more.
use Rattle.std.proofs.Common.{◌≡◌, ℕ, zero, suc, ◌+◌, ◌*◌, ◌<◌, ◌≤◌, List, [], ◌∷◌, ◌++◌, length, get_or, take, drop, slice_get, Some, refl, sym, ap, ◌∙◌, arith, length-append, length-drop, length-take}
use Rattle.std.proofs.Math.Nat.{suc-mul, zero-mul}
use Rattle.std.proofs.lemmas.List.{take_all, take-append-le, drop-append-le, drop-drop, get_or_read, nil_from_length}
use Rattle.std.proofs.lemmas.Option.{get_or_from_slice_get}
use Rattle.std.specs.Prelude.{slice_index}
use Rattle.mp_audit.specs.declared.certificate.Bound.{Bound}
use Rattle.mp_audit.specs.Flat.{entries_of, entry_of, AreEntries, FlatParts}

pub length_entries : (count : ℕ) (agents bounds : List ℕ) (lists : List (List ℕ)) → length bounds ≡ length agents → length (entries_of count agents bounds lists) ≡ length agents
length_entries count [] bounds lists h = refl
length_entries count (agent ∷ agents) [] lists h = absurd (omega arith)
length_entries count (agent ∷ agents) (bound ∷ bounds) lists h = ap suc (length_entries count agents bounds (drop count lists) (omega arith))

-- the lists of an entry are there
pub lists_there : (n k count : ℕ) → k < n → k * count + count ≤ n * count
lists_there zero k count h = absurd (omega arith)
lists_there (suc n) zero count h =
    let more = suc-mul n count in
    let none : 0 * count ≡ 0 = zero-mul count in
    omega arith
lists_there (suc n) (suc k) count h =
    let before = lists_there n k count (omega arith) in
    let more = suc-mul n count in
    let here = suc-mul k count in
    omega arith

pub entries_at :
    (count : ℕ) (agents bounds : List ℕ) (lists : List (List ℕ)) (k : ℕ) → length bounds ≡ length agents → k < length agents
    → slice_get (entries_of count agents bounds lists) k ≡ Some (entry_of (slice_index agents k) (slice_index bounds k) (take count (drop (k * count) lists)))
entries_at count [] bounds lists k e h = absurd (omega arith)
entries_at count (agent ∷ agents) [] lists k e h = absurd (omega arith)
entries_at count (agent ∷ agents) (bound ∷ bounds) lists zero e h =
    let none : 0 * count ≡ 0 = zero-mul count in
    ap (λ (from : ℕ). Some (entry_of agent bound (take count (drop from lists)))) (sym none)
entries_at count (agent ∷ agents) (bound ∷ bounds) lists (suc k) e h =
    let next = entries_at count agents bounds (drop count lists) k (omega arith) (omega arith) in
    let more = suc-mul k count in
    let from : count + k * count ≡ suc k * count = omega arith in
    let behind : drop (k * count) (drop count lists) ≡ drop (suc k * count) lists = drop-drop (k * count) count lists ∙ ap (λ (n : ℕ). drop n lists) from in
    next ∙ ap (λ (left : List (List ℕ)). Some (entry_of (slice_index agents k) (slice_index bounds k) (take count left))) behind

pub part_size : {X : Type 0} (xs : List X) (first count : ℕ) → first + count ≤ length xs → length (take count (drop first xs)) ≡ count
part_size xs first count h = omega (arith, length-take count (drop first xs), length-drop first xs)

module _ (team : ℕ) (agents bounds : List ℕ) (lists : List (List ℕ)) (parts : FlatParts) (at : ℕ) (are : AreEntries (team + 1) agents bounds lists)
    (seen : record { agents = team; entries = entries_of (team + 1) agents bounds lists } ≡ parts) (inside : at < length parts.entries) where
  pub agent_there : at < length agents
  agent_there =
      let entries = length_entries (team + 1) agents bounds lists are.as_many in
      let same = ap (λ (p : FlatParts). length p.entries) seen in
      omega (arith, entries, same)

  pub bound_there : at < length bounds
  bound_there =
      let there = agent_there in
      let as_many = are.as_many in
      omega arith

  pub lists_inside : at * (team + 1) + (team + 1) ≤ length lists
  lists_inside =
      let there = lists_there (length agents) at (team + 1) agent_there in
      let each = are.lists_each in
      omega (arith, there, each)

  pub entry_there : (agent bound : ℕ) (part : List (List ℕ)) → agent ≡ get_or agents at agent → bound ≡ get_or bounds at bound → part ≡ take (team + 1) (drop (at * (team + 1)) lists)
      → slice_get parts.entries at ≡ Some (entry_of agent bound part)
  entry_there agent bound part agent_is bound_is part_is =
      let own_agent = get_or_read agents at agent agent_there agent_is 0 in
      let own_bound = get_or_read bounds at bound bound_there bound_is 0 in
      ap (λ (p : FlatParts). slice_get p.entries at) (sym seen)
      ∙ entries_at (team + 1) agents bounds lists at are.as_many agent_there
      ∙ (λ j. Some (entry_of (sym own_agent j) (sym own_bound j) (sym part_is j)))

  pub entry_is : (agent bound : ℕ) (part : List (List ℕ)) → agent ≡ get_or agents at agent → bound ≡ get_or bounds at bound → part ≡ take (team + 1) (drop (at * (team + 1)) lists)
      → entry_of agent bound part ≡ get_or parts.entries at (entry_of agent bound part)
  entry_is agent bound part agent_is bound_is part_is =
      sym (get_or_from_slice_get parts.entries at (entry_of agent bound part) (entry_of agent bound part) (entry_there agent bound part agent_is bound_is part_is))

-- ---- one entry more

pub entries_push :
    (count : ℕ) (agents bounds : List ℕ) (lists : List (List ℕ)) (agent bound : ℕ) (more : List (List ℕ))
    → length bounds ≡ length agents → length lists ≡ length agents * count → length more ≡ count
    → entries_of count (agents ++ agent ∷ []) (bounds ++ bound ∷ []) (lists ++ more) ≡ entries_of count agents bounds lists ++ entry_of agent bound more ∷ []
entries_push count [] [] lists agent bound more e n m =
    let none : 0 * count ≡ 0 = zero-mul count in
    let no_lists : lists ≡ [] = nil_from_length lists (n ∙ none) in
    ap (λ (before : List (List ℕ)). entry_of agent bound (take count (before ++ more)) ∷ []) no_lists
    ∙ ap (λ (all : List (List ℕ)). entry_of agent bound all ∷ []) (take_all count more (omega arith))
entries_push count [] (b ∷ bounds) lists agent bound more e n m = absurd (omega arith)
entries_push count (a ∷ agents) [] lists agent bound more e n m = absurd (omega arith)
entries_push count (a ∷ agents) (b ∷ bounds) lists agent bound more e n m =
    let each = suc-mul (length agents) count in
    let total : length lists ≡ length agents * count + count = n ∙ each in
    let room : count ≤ length lists = omega arith in
    let left : length (drop count lists) ≡ length agents * count = omega (arith, length-drop count lists) in
    let first : take count (lists ++ more) ≡ take count lists = take-append-le count lists more room in
    let behind : drop count (lists ++ more) ≡ drop count lists ++ more = drop-append-le count lists more room in
    let later = entries_push count agents bounds (drop count lists) agent bound more (omega arith) left m in
    ap (λ (own : List (List ℕ)). entry_of a b own ∷ entries_of count (agents ++ agent ∷ []) (bounds ++ bound ∷ []) (drop count (lists ++ more))) first
    ∙ (ap (λ (others : List (List ℕ)). entry_of a b (take count lists) ∷ entries_of count (agents ++ agent ∷ []) (bounds ++ bound ∷ []) others) behind
    ∙ ap (λ (others : List Bound). entry_of a b (take count lists) ∷ others) later)

pub are_entries_push :
    (count : ℕ) (agents bounds : List ℕ) (lists : List (List ℕ)) (agent bound : ℕ) (more : List (List ℕ))
    → AreEntries count agents bounds lists → length more ≡ count → AreEntries count (agents ++ agent ∷ []) (bounds ++ bound ∷ []) (lists ++ more)
are_entries_push count agents bounds lists agent bound more are m =
    let as_many = are.as_many in
    let lists_each = are.lists_each in
    let agents_more : length (agents ++ agent ∷ []) ≡ suc (length agents) = omega (arith, length-append agents (agent ∷ [])) in
    let each = suc-mul (length agents) count in
    let total : suc (length agents) * count ≡ length (agents ++ agent ∷ []) * count = ap (λ (n : ℕ). n * count) (sym agents_more) in
    record {
      as_many = omega (arith, length-append bounds (bound ∷ []));
      lists_each = omega (arith, length-append lists more);
    }

-- as many lists as each entry of the team has
pub more_lists : (team : ℕ) (parts : FlatParts) (entries : List Bound) (lists : List (List ℕ)) → record { agents = team; entries = entries } ≡ parts → length lists ≡ parts.agents + 1 → length lists ≡ team + 1
more_lists team parts entries lists seen m = m ∙ ap (λ (p : FlatParts). p.agents + 1) (sym seen)

-- behind the first list stand those of private facts
pub private_there : (lists : List (List ℕ)) (place : ℕ) → slice_get (drop 1 lists) place ≡ slice_get lists (place + 1)
private_there [] place = refl
private_there (list ∷ lists) place =
    let next : suc place ≡ place + 1 = omega arith in
    ap (slice_get (list ∷ lists)) next
