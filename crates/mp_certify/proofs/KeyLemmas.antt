-- Keys of states are equal exactly where the states are.
use Rattle.std.proofs.Common.{◌≡◌, ℕ, Bool, true, false, cond, ◌&&◌, ◌||◌, eqb, List, ◌∷◌, refl, sym, ap, ◌∙◌}
use Rattle.std.proofs.Math.Bool.{beq}
use Rattle.std.specs.Bool.{Decides}
use Rattle.std.specs.Cmp.{booleans_Decides, unsigned_Decides}
use Rattle.std.specs.List.{list_any}
use Rattle.std.specs.Cmp.Lexicographic.{pointwise}
use Rattle.std.proofs.lemmas.Bool.Decides.{Decides-and, Decides-like, same_from_decides}
use Rattle.std.proofs.lemmas.Slice.Eq.{slice_eq-Decides}
use Rattle.mp_sets.specs.declared.tag.Tag.{Tag}
use Rattle.mp_sets.specs.Numbers.{SizedSet}
use Rattle.mp_sets.proofs.ComparedLemmas.{Decides-sized_eq}
use Rattle.mp_store.specs.declared.entry.Entry.{Entry}
use Rattle.mp_search.specs.AgentState.{AgentState, same_state}
use Rattle.mp_search.proofs.KeyedStates.{Decides-state}
use Rattle.mp_certify.specs.declared.key.StateKey.{StateKey}
use Rattle.mp_certify.specs.Keys.{same_key, state_of_key, AreKeysOf, HasKeySizes}
use Rattle.mp_certify.specs.Latest.{has_state}

Decides-tag : (s t : Tag) → Decides (eqb s.token t.token && beq s.met t.met) (s ≡ t)
Decides-tag s t =
    Decides-like _ (λ both j. record { token = both.0 j; met = both.1 j }) (λ e. (ap (λ (x : Tag). x.token) e, ap (λ (x : Tag). x.met) e))
    (Decides-and _ _ (unsigned_Decides s.token t.token) (booleans_Decides s.met t.met))

Decides-tags : (xs ys : List Tag) → Decides (pointwise (λ s t. eqb s.token t.token && beq s.met t.met) xs ys) (xs ≡ ys)
Decides-tags xs ys = slice_eq-Decides Decides-tag xs ys (pointwise (λ s t. eqb s.token t.token && beq s.met t.met) xs ys) refl

-- sets of one size are equal where their members are
with_size : (s t : SizedSet) → s.size ≡ t.size → s.members ≡ t.members → s ≡ t
with_size s t size members = λ j. record { size = size j; members = members j }

Decides-key : (publics privates : ℕ) (a b : StateKey) → HasKeySizes publics privates a → HasKeySizes publics privates b
    → Decides (same_key b a) (state_of_key a ≡ state_of_key b)
Decides-key publics privates a b of_a of_b =
    Decides-like _
    (λ all j. record { publics = (sym {A = SizedSet} all.0 j).members; mine = (sym {A = SizedSet} all.1.0 j).members; tags = sym {A = List Tag} all.1.1 j })
    (λ e. (
      with_size b.publics a.publics (of_b.publics_size ∙ sym of_a.publics_size) (sym (ap (λ (x : AgentState). x.publics) e)),
      (
        with_size b.mine a.mine (of_b.privates_size ∙ sym of_a.privates_size) (sym (ap (λ (x : AgentState). x.mine) e)),
        sym (ap (λ (x : AgentState). x.tags) e),
      ),
    ))
    (Decides-and _ _ (Decides-sized_eq b.publics a.publics)
    (Decides-and _ _ (Decides-sized_eq b.mine a.mine) (Decides-tags b.tags.now a.tags.now)))

same_keys : (publics privates : ℕ) (a b : StateKey) → HasKeySizes publics privates a → HasKeySizes publics privates b
    → same_key b a ≡ same_state (state_of_key a) (state_of_key b)
same_keys publics privates a b of_a of_b =
    same_from_decides (same_key b a) (same_state (state_of_key a) (state_of_key b))
    (Decides-key publics privates a b of_a of_b)
    (Decides-state (state_of_key a) (state_of_key b))

-- two states are the same either way round
turned : (s t : AgentState) → Decides (same_state s t) (t ≡ s)
turned s t = Decides-like (same_state s t) (λ e. sym e) (λ e. sym e) (Decides-state s t)

same_either_way : (s t : AgentState) → same_state s t ≡ same_state t s
same_either_way s t = same_from_decides (same_state s t) (same_state t s) (turned s t) (Decides-state t s)

cond_or : (a b : Bool) → cond a true b ≡ a || b
cond_or true b = refl
cond_or false b = refl

module _ (publics privates : ℕ) (later : List (Entry AgentState)) (old new : List StateKey) (keys : AreKeysOf publics privates later old)
    (key : StateKey) (of_key : HasKeySizes publics privates key) (e : Entry AgentState) (state : state_of_key key ≡ e.key) where
  -- whether a key is there
  pub there : list_any (same_key key) old ≡ has_state later e
  there = keys key of_key ∙ ap (λ (s : AgentState). list_any (λ (x : Entry AgentState). same_state x.key s) later) state

  -- keys with one more
  pub one_more : ((k : StateKey) → list_any (same_key k) new ≡ cond (same_key key k) true (list_any (same_key k) old))
      → AreKeysOf publics privates (e ∷ later) new
  one_more added = λ k of_k.
      let s = state_of_key k in
      let others = list_any (λ (x : Entry AgentState). same_state x.key s) later in
      let one : same_key key k ≡ same_state e.key s =
      same_keys publics privates k key of_k of_key
      ∙ same_either_way s (state_of_key key)
      ∙ ap (λ (t : AgentState). same_state t s) state in
      added k ∙ (λ j. cond (one j) true (keys k of_k j)) ∙ cond_or (same_state e.key s) others
