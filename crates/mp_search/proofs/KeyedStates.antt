-- Keys with indices of sets, and the states that they stand for.
use Rattle.std.proofs.Common.{◌≡◌, ℕ, zero, suc, ◌<◌, ◌≤◌, ◌⊎◌, Bool, true, false, cond, ◌&&◌, List, [], ◌∷◌, ◌++◌, length, map, get_or, Option, Some, None, All, refl, sym, ap, subst, ◌∙◌, arith, inl, inr}
use Rattle.std.specs.Prelude.{slice_get, slice_set, option_map, Contains, IfSome, IsSomeAnd, not, if◌then◌else◌}
use Rattle.std.specs.FinSet as set
use Rattle.std.specs.Option.{option_map_or}
use Rattle.std.specs.Bool.{Decides}
use Rattle.std.specs.Cmp.{unsigned_Decides}
use Rattle.std.specs.Cmp.Lexicographic.{pointwise}
use Rattle.std.proofs.lemmas.Bool.Decides.{Decides-and, Decides-like, same_from_decides}
use Rattle.std.proofs.lemmas.Slice.Eq.{slice_eq-Decides}
use Rattle.std.proofs.lemmas.List.{get_or-map, get_or_append_left, length-map, length_push}
use Rattle.std.proofs.lemmas.List.Elements.{All-map, All-weaker, All-set, All-push}
use Rattle.mp_sets.specs.declared.tag.Tag.{Tag}
use Rattle.mp_sets.specs.Numbers.{Numbers}
use Rattle.mp_sets.proofs.SetLemmas.{Decides-same}
use Rattle.mp_tokens.specs.Order.{AreDifferent, set_at, with_set, place}
use Rattle.mp_list.specs.First.{leftmost}
use Rattle.mp_list.proofs.FirstLemmas.{found_first}
use Rattle.mp_tokens.proofs.Orders.{set_found}
use Rattle.mp_tokens.proofs.Places.{old_or_new, with_old, with_new}
use Rattle.std.proofs.lemmas.Option.{same_Some, slice_get-get_or, slice_get-map, slice_get_within, get_or_from_slice_get}
use Rattle.mp_store.specs.declared.entry.Entry.{Entry}
use Rattle.mp_store.specs.declared.entry.Origin.TheVariants.{Root}
use Rattle.mp_store.specs.declared.entry.Mark.TheVariants.{Expanded, Replaced}
use Rattle.mp_store.specs.declared.entry.Offer.{Offer}
use Rattle.mp_store.specs.declared.entry.Offer.TheVariants.{Kept, Worse}
use Rattle.mp_store.specs.KeyRows.{no_key}
use Rattle.mp_store.specs.declared.key.Key.{Key}
use Rattle.mp_store.specs.Keys.{same_key}
use Rattle.mp_store.specs.Named.{named, named_entry}
use Rattle.mp_store.specs.Record.{Record, gives_way, is_known, is_open, kept, new_entry, offered}
use Rattle.mp_store.specs.Minima.{Numbered, best, closed, is_cheaper, least_open, popped, those}
use Rattle.mp_store.specs.KeyLaws.{Decides-key}
use Rattle.mp_store.proofs.Mapped.{map-agree}
use Rattle.mp_store.proofs.RankLemmas.{IsThat, cheaper_strict, none_found, those_have}
use Rattle.mp_search.specs.AgentState.{AgentState, same_state, same_tag}
use Rattle.mp_search.specs.StateKeys.{IsKeyOf, state_of_key}

-- what stands past the end of a list of entries
no_entry : Entry Key
no_entry = new_entry no_key 0 0 Root false

-- ---- states are told apart

Decides-met : (a b : Bool) → Decides (if a then b else not b) (a ≡ b)
Decides-met true true = (λ e. refl, λ e. refl)
Decides-met true false = (λ e. sym e, λ e. sym e)
Decides-met false true = (λ e. e, λ e. e)
Decides-met false false = (λ e. refl, λ e. refl)

Decides-tag : (s t : Tag) → Decides (same_tag s t) (s ≡ t)
Decides-tag s t =
    Decides-like _ (λ both j. record { token = both.0 j; met = both.1 j }) (λ e. (ap (λ (x : Tag). x.token) e, ap (λ (x : Tag). x.met) e))
    (Decides-and _ _ (unsigned_Decides s.token t.token) (Decides-met s.met t.met))

pub Decides-state : (s t : AgentState) → Decides (same_state s t) (s ≡ t)
Decides-state s t =
    Decides-like _
    (λ all j. record { publics = all.0 j; mine = all.1.0 j; tags = all.1.1 j })
    (λ e. (ap (λ (x : AgentState). x.publics) e, (ap (λ (x : AgentState). x.mine) e, ap (λ (x : AgentState). x.tags) e)))
    (Decides-and _ _ (Decides-same s.publics t.publics)
    (Decides-and _ _ (Decides-same s.mine t.mine) (slice_eq-Decides Decides-tag s.tags t.tags (pointwise same_tag s.tags t.tags) refl)))

-- ---- keys of one size, and their states

module _ (publics : ℕ) (sets : List Numbers) (different : AreDifferent sets) where
  one_key : (a b : Key) → IsKeyOf publics (length sets) a → IsKeyOf publics (length sets) b → state_of_key sets a ≡ state_of_key sets b → a ≡ b
  one_key a b of_a of_b e =
      let size : a.publics.size ≡ b.publics.size = of_a.size ∙ sym of_b.size in
      let members = ap (λ (x : AgentState). x.publics) e in
      let mine : a.mine ≡ b.mine = different a.mine b.mine of_a.index of_b.index (ap (λ (x : AgentState). x.mine) e) in
      let tags = ap (λ (x : AgentState). x.tags) e in
      λ j. record { publics = record { size = size j; members = members j }; mine = mine j; tags = tags j }

  -- two keys are one where their states are
  pub apart : (a b : Key) → IsKeyOf publics (length sets) a → IsKeyOf publics (length sets) b → same_state (state_of_key sets a) (state_of_key sets b) ≡ same_key a b
  apart a b of_a of_b =
      same_from_decides _ _
      (Decides-state (state_of_key sets a) (state_of_key sets b))
      (Decides-like _ (λ e. ap (state_of_key sets) e) (one_key a b of_a of_b) (Decides-key a b))

-- an own set that has no index is that of no entry
pub no_best : (sets : List Numbers) (s : AgentState) (r : Record Key) → All (λ e. e.key.mine < length sets) r.entries
    → (Contains sets s.mine → ⊥) → best same_state s (named (state_of_key sets) r) ≡ None
no_best sets s r keyed missing =
    ap (option_map (λ x. x.0))
    (none_found is_cheaper (those (λ e. same_state e.key s) (map (named_entry (state_of_key sets)) r.entries))
    (λ x found. nowhere x (those_have (λ e. same_state e.key s) (map (named_entry (state_of_key sets)) r.entries) x found)))
  where
    nowhere : (x : Numbered AgentState) → IsThat (λ e. same_state e.key s) (map (named_entry (state_of_key sets)) r.entries) x → ⊥
    nowhere x that =
        let len = length-map r.entries (named_entry (state_of_key sets)) in
        let inside : x.0 < length r.entries = let h = that.inside in omega arith in
        let e = get_or r.entries x.0 no_entry in
        let is : named_entry (state_of_key sets) e ≡ x.1 = sym (get_or-map (named_entry (state_of_key sets)) r.entries x.0 no_entry x.1 inside) ∙ that.is in
        let mine : get_or sets e.key.mine set.empty ≡ s.mine =
        ap (λ (y : Entry AgentState). y.key.mine) is ∙ ap (λ (y : AgentState). y.mine) ((Decides-state x.1.key s).0 that.passes)
        in
        missing (set_found sets s.mine e.key.mine (keyed x.0 no_entry inside) mine)

-- the best entry of a state is an entry
pub best_inside : (s : AgentState) (r : Record AgentState) (n : ℕ) → best same_state s r ≡ Some n → n < length r.entries
best_inside s r n is = by (leftmost is_cheaper None all) refl is
  where
    all : List (Numbered AgentState)
    all = those (λ e. same_state e.key s) r.entries

    by : (o : Option (Numbered AgentState)) → leftmost is_cheaper None all ≡ o → option_map (λ x. x.0) o ≡ Some n → n < length r.entries
    by None found e = absurd cc
    by (Some x) found e =
        let first = found_first is_cheaper cheaper_strict all x found in
        let that = those_have (λ e. same_state e.key s) r.entries x first.among in
        let number : x.0 ≡ n = cc in
        subst (λ m. m < length r.entries) number that.inside

-- it is an entry of the state
pub best_has : (s : AgentState) (r : Record AgentState) (n : ℕ) → best same_state s r ≡ Some n → (e : Entry AgentState) → slice_get r.entries n ≡ Some e → e.key ≡ s
best_has s r n is e at = by (leftmost is_cheaper None all) refl is
  where
    all : List (Numbered AgentState)
    all = those (λ e. same_state e.key s) r.entries

    by : (o : Option (Numbered AgentState)) → leftmost is_cheaper None all ≡ o → option_map (λ x. x.0) o ≡ Some n → e.key ≡ s
    by None found number = absurd (let impossible : ⊥ = cc in impossible)
    by (Some x) found number =
        let first = found_first is_cheaper cheaper_strict all x found in
        let that = those_have (λ e. same_state e.key s) r.entries x first.among in
        let here : slice_get r.entries x.0 ≡ Some x.1 = slice_get-get_or r.entries x.0 x.1 that.inside ∙ ap Some that.is in
        let one : x.1 ≡ e = same_Some x.1 e (sym here ∙ ap (slice_get r.entries) (same_Some x.0 n number) ∙ at) in
        ap (λ (y : Entry AgentState). y.key) (sym one) ∙ (Decides-state x.1.key s).0 that.passes

-- and so it is where there is one
pub all_inside : (s : AgentState) (r : Record AgentState) (o : Option ℕ) → o ≡ best same_state s r → IfSome o (λ n. n < length r.entries)
all_inside s r None is = tt
all_inside s r (Some n) is = best_inside s r n (sym is)

-- with more sets the entries are seen as before
pub named_with : (sets : List Numbers) (more : Numbers) (publics : ℕ) (r : Record Key) → All (λ e. IsKeyOf publics (length sets) e.key) r.entries
    → named (state_of_key (with_set sets more)) r ≡ named (state_of_key sets) r
named_with sets more publics r keyed = by (old_or_new sets more)
  where
    longer : named (state_of_key (sets ++ more ∷ [])) r ≡ named (state_of_key sets) r
    longer = λ j. record {
      entries = map-agree (named_entry (state_of_key (sets ++ more ∷ []))) (λ e. IsKeyOf publics (length sets) e.key) (named_entry (state_of_key sets))
          (λ e h i. record {
            key = record { publics = e.key.publics.members; mine = get_or_append_left sets (more ∷ []) set.empty e.key.mine h.index i; tags = e.key.tags };
            g = e.g;
            h = e.h;
            mark = e.mark;
            origin = e.origin;
            goal = e.goal;
          })
          r.entries keyed j;
      sent = r.sent;
    }

    by : (place sets more < length sets) ⊎ (place sets more ≡ length sets) → named (state_of_key (with_set sets more)) r ≡ named (state_of_key sets) r
    by (inl old) = ap (λ xs. named (state_of_key xs) r) (with_old sets more old)
    by (inr new) = ap (λ xs. named (state_of_key xs) r) (with_new sets more new) ∙ longer

-- a list of sets is as long or longer with one more
pub with_length : (sets : List Numbers) (more : Numbers) → length sets ≤ length (with_set sets more)
with_length sets more = by (old_or_new sets more)
  where
    by : (place sets more < length sets) ⊎ (place sets more ≡ length sets) → length sets ≤ length (with_set sets more)
    by (inl old) = subst (λ xs. length sets ≤ length xs) (sym (with_old sets more old)) (omega arith)
    by (inr new) = subst (λ xs. length sets ≤ length xs) (sym (with_new sets more new)) (let l = length_push sets more in omega arith)

pub keyed_with : (sets : List Numbers) (more : Numbers) (publics : ℕ) (r : Record Key) → All (λ e. IsKeyOf publics (length sets) e.key) r.entries
    → All (λ e. IsKeyOf publics (length (with_set sets more)) e.key) r.entries
keyed_with sets more publics r keyed =
    let longer = with_length sets more in
    All-weaker (λ e. IsKeyOf publics (length sets) e.key) (λ e. IsKeyOf publics (length (with_set sets more)) e.key)
    (λ e h. record { size = h.size; index = let i = h.index in omega arith }) r.entries keyed

-- ---- what holds of the keys of all entries goes on to hold

module _ {K : Type 0} (same : K → K → Bool) (P : K → Type 0) where
  pub closed_all : (n : ℕ) (r : Record K) → All (λ e. P e.key) r.entries → All (λ e. P e.key) (closed n r).entries
  closed_all n r all = by (slice_get r.entries n) refl
    where
      by : (o : Option (Entry K)) → slice_get r.entries n ≡ o → All (λ e. P e.key) (option_map_or (λ (e : Entry K). record r { entries = slice_set r.entries n (record e { mark = Expanded }) }) o r).entries
      by None e = all
      by (Some e) is =
          All-set (λ (x : Entry K). P x.key) r.entries n (record e { mark = Expanded })
          (subst (λ (x : Entry K). P x.key) (get_or_from_slice_get r.entries n e e is) (all n e (slice_get_within r.entries n e is))) all

  pub popped_all : (r : Record K) → All (λ e. P e.key) r.entries → All (λ e. P e.key) (popped r).1.entries
  popped_all r all = by (least_open r)
    where
      by : (o : Option ℕ) → All (λ e. P e.key) (option_map_or (λ n. closed n r) o r).entries
      by None = all
      by (Some n) = closed_all n r all

  pub offered_all : (new : Entry K) (r : Record K) → P new.key → All (λ e. P e.key) r.entries → All (λ e. P e.key) (offered same new r).1.entries
  offered_all new r here all = by (is_known same new.key new.g r.entries)
    where
      gives : (b : Bool) (e : Entry K) → P e.key → P (cond b (record e { mark = Replaced }) e).key
      gives true e h = h
      gives false e h = h

      after : Bool → Offer × Record K
      after b = cond b (Worse, r) (Kept (length r.entries), kept same new r)

      by : (b : Bool) → All (λ e. P e.key) (after b).1.entries
      by true = all
      by false =
          All-push (λ (e : Entry K). P e.key) (map (gives_way same new.key) r.entries) new
          (All-map (λ (e : Entry K). P e.key) (gives_way same new.key) r.entries
          (All-weaker (λ e. P e.key) (λ e. P (gives_way same new.key e).key) (λ e h. gives (same e.key new.key && is_open e.mark) e h) r.entries all)) here

-- what a caller of an entry is told, said of the entry
pub entry_told : {X : Type 0} (P : X → Type 0) (o : Option X) → IsSomeAnd o P → (e : X) × (o ≡ Some e) × P e
entry_told P None told = absurd told
entry_told P (Some e) told = (e, refl, told)

-- what holds of all holds of each
pub all_get : {X : Type 0} (P : X → Type 0) (xs : List X) (n : ℕ) (x : X) → All P xs → slice_get xs n ≡ Some x → P x
all_get P xs n x all is = subst P (get_or_from_slice_get xs n x x is) (all n x (slice_get_within xs n x is))

-- the own set of an entry is that of its key's index
pub mine_of_key : (sets : List Numbers) (r : Record Key) (n : ℕ) (e : Entry Key) (seen : Entry AgentState) → slice_get r.entries n ≡ Some e
    → slice_get (named (state_of_key sets) r).entries n ≡ Some seen → seen.key.mine ≡ set_at sets e.key.mine
mine_of_key sets r n e seen is found =
    let at : Some seen ≡ Some (named_entry (state_of_key sets) e) =
    sym found ∙ slice_get-map (named_entry (state_of_key sets)) r.entries n ∙ ap (option_map (named_entry (state_of_key sets))) is
    in
    let one : seen ≡ named_entry (state_of_key sets) e = cc in
    ap (λ (x : Entry AgentState). x.key.mine) one

-- an entry of the store as a state's
pub named_at : (sets : List Numbers) (r : Record Key) (seen : Record AgentState) → named (state_of_key sets) r ≡ seen → (n : ℕ) (e : Entry Key)
    → slice_get r.entries n ≡ Some e → slice_get seen.entries n ≡ Some (named_entry (state_of_key sets) e)
named_at sets r seen is n e at =
    ap (λ (x : Record AgentState). slice_get x.entries n) (sym is)
    ∙ slice_get-map (named_entry (state_of_key sets)) r.entries n
    ∙ ap (option_map (named_entry (state_of_key sets))) at

-- what stands at a place past the end
pub none_at_place : {X : Type 0} (xs : List X) (n : ℕ) (d : X) → slice_get xs n ≡ None → get_or xs n d ≡ d
none_at_place [] n d none = refl
none_at_place (x ∷ xs) zero d none = absurd (let impossible : ⊥ = cc in impossible)
none_at_place (x ∷ xs) (suc n) d none = none_at_place xs n d none
