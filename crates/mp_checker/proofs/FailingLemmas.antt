-- The first literal that does not hold, in numbers and by names, and the state after an instance.
use Rattle.std.proofs.Common.{◌≡◌, ℕ, suc, ◌+◌, Bool, true, false, cond, not, ◌||◌, ◌&&◌, List, [], ◌∷◌, map, length, Option, Some, None, if◌then◌else◌, refl, sym, ap, ◌∙◌, arith, inl, inr}
use Rattle.std.specs.List.{position_from, find, flat_map}
use Rattle.std.specs.Prelude.{slice_get}
use Rattle.std.proofs.lemmas.Bool.{cases_Bool}
use Rattle.std.proofs.lemmas.Option.{same_Some, none-some}
use Rattle.mp_forms.specs.Limits.{names_of_atom}
use Rattle.mp_forms.specs.declared.typed_values.Typed.{Typed}
use Rattle.mp_forms.specs.declared.literal.Literal.{Literal}
use Rattle.mp_forms.specs.declared.schema_values.Schema.{Schema}
use Rattle.mp_forms.specs.declared.factor.Factor.{Factor}
use Rattle.mp_joint.specs.declared.fact.NamedFact.{NamedFact}
use Rattle.mp_joint.specs.declared.fact.SignedFact.{SignedFact}
use Rattle.mp_joint.specs.Fact.{Text, is_among}
use Rattle.mp_joint.specs.FactorContribution.{privates_of, facts_of, instance_with}
use Rattle.mp_joint.specs.Grounding.{fact_of}
use Rattle.mp_joint.specs.Instance.{State, holds, after}
use Rattle.mp_plan_verdict.specs.Written.{signed_facts}
use Rattle.mp_checker.specs.declared.fact.FactNumbers.{FactNumbers}
use Rattle.mp_checker.specs.declared.numbered.NumberedLiteral.{NumberedLiteral}
use Rattle.mp_checker.specs.declared.numbered.NumberedAction.{NumberedAction}
use Rattle.mp_checker.specs.declared.numbered.ObjectNumber.{ObjectNumber}
use Rattle.mp_checker.specs.AgentView.{Covers}
use Rattle.mp_checker.specs.At.{fact_at, is_true, is_one_of, holds_at, numbers_of, named_state}
use Rattle.mp_checker.specs.Numbering.{object_number, numbered_literal, numbered_action}
use Rattle.mp_checker.specs.Taken.{IsBound, failing}
use Rattle.mp_checker.specs.Words.{names_of_schema}
use Rattle.mp_checker.proofs.AtomsAt.{atom_at, atoms_at, known_facts}
use Rattle.mp_checker.proofs.CoversLemmas.{covers_left, covers_right}
use Rattle.mp_checker.proofs.SameNumbers.{one_of_named}

-- ---- one literal

abbrev pub signed : ℕ → Factor → List Typed → List Text → Literal → SignedFact
signed agent factor params objects l = record { positive = l.positive; fact = fact_of agent (privates_of factor) params objects l.atom }

abbrev pub numbered : List Text → Factor → List Typed → Literal → NumberedLiteral
numbered names factor params l = numbered_literal names (privates_of factor) params l

pub same_literal : (names : List Text) (agent : ℕ) (factor : Factor) (params : List Typed) (objects : List Text) (kept : List FactNumbers) (l : Literal)
    → length objects ≡ length params
    → not (holds_at kept agent (map (object_number names (privates_of factor)) objects) (numbered names factor params l))
    ≡ not (holds (named_state names kept) (signed agent factor params objects l))
same_literal names agent factor params objects kept l long =
    λ i. not (if l.positive then is_true kept (atom_at names agent (privates_of factor) params objects l.atom long i)
    else not (is_true kept (atom_at names agent (privates_of factor) params objects l.atom long i)))

-- ---- the first that passes a test, by its place

-- a place, counted from a first one on, is that of the item that is found
pub record IsFound {Z Y : Type 0} (q : Y → Bool) (g : Z → Y) (zs : List Z) (from place : ℕ) : Type 0 where
  pub behind : ℕ
  pub item : Z
  pub is : place ≡ from + behind
  pub at : slice_get zs behind ≡ Some item
  pub first : find q (map g zs) ≡ Some (g item)

here : {Z Y : Type 0} (q : Y → Bool) (g : Z → Y) (z : Z) (zs : List Z) (from place : ℕ) → q (g z) ≡ true → Some from ≡ Some place
    → IsFound q g (z ∷ zs) from place
here q g z zs from place passes e = record {
  behind = 0;
  item = z;
  is = let s = same_Some from place e in omega (arith, s);
  at = refl;
  first = rw passes refl;
}

later : {Z Y : Type 0} (q : Y → Bool) (g : Z → Y) (z : Z) (zs : List Z) (from place : ℕ) → q (g z) ≡ false → IsFound q g zs (from + 1) place
    → IsFound q g (z ∷ zs) from place
later q g z zs from place fails h = record {
  behind = suc h.behind;
  item = h.item;
  is = let s = h.is in omega (arith, s);
  at = h.at;
  first = rw fails h.first;
}

pub found_item : {X Y Z : Type 0} (p : X → Bool) (q : Y → Bool) (f : Z → X) (g : Z → Y) (zs : List Z) (from place : ℕ)
    → ((z : Z) → p (f z) ≡ q (g z)) → position_from p from (map f zs) ≡ Some place → IsFound q g zs from place
found_item p q f g [] from place same h = absurd (none-some place h)
found_item p q f g (z ∷ zs) from place same h =
    elim (cases_Bool (p (f z))) [
      | inl passes ↦
          here q g z zs from place (sym (same z) ∙ passes) (sym (ap (λ b. cond b (Some from) (position_from p (from + 1) (map f zs))) passes) ∙ h)
      | inr fails ↦
          later q g z zs from place (sym (same z) ∙ fails)
          (found_item p q f g zs (from + 1) place same (sym (ap (λ b. cond b (Some from) (position_from p (from + 1) (map f zs))) fails) ∙ h))
    ]

pub found_none : {X Y Z : Type 0} (p : X → Bool) (q : Y → Bool) (f : Z → X) (g : Z → Y) (zs : List Z) (from : ℕ)
    → ((z : Z) → p (f z) ≡ q (g z)) → position_from p from (map f zs) ≡ None → find q (map g zs) ≡ None
found_none p q f g [] from same h = refl
found_none p q f g (z ∷ zs) from same h =
    elim (cases_Bool (p (f z))) [
      | inl passes ↦
          let no = sym h ∙ ap (λ b. cond b (Some from) (position_from p (from + 1) (map f zs))) passes in
          absurd (none-some from no)
      | inr fails ↦
          let rest = found_none p q f g zs (from + 1) same (sym (ap (λ b. cond b (Some from) (position_from p (from + 1) (map f zs))) fails) ∙ h) in
          let q_fails : q (g z) ≡ false = sym (same z) ∙ fails in
          rw q_fails rest
    ]

-- ---- of a condition where objects stand for the parameters

abbrev pub place_of : List FactNumbers → ℕ → List ObjectNumber → List NumberedLiteral → Option ℕ
place_of kept agent args literals = position_from (λ (l : NumberedLiteral). not (holds_at kept agent args l)) 0 literals

pub none_fails : (names : List Text) (agent : ℕ) (factor : Factor) (params : List Typed) (objects : List Text) (args : List ObjectNumber)
    (kept : List FactNumbers) (literals : List NumberedLiteral) (written : List Literal)
    → IsBound names factor params objects args → literals ≡ map (numbered_literal names (privates_of factor) params) written
    → place_of kept agent args literals ≡ None
    → failing (named_state names kept) (signed_facts agent factor params objects written) ≡ None
none_fails names agent factor params objects args kept literals written b are h =
    found_none (λ (l : NumberedLiteral). not (holds_at kept agent (map (object_number names (privates_of factor)) objects) l))
    (λ (x : SignedFact). not (holds (named_state names kept) x))
    (numbered names factor params) (signed agent factor params objects) written 0
    (λ l. same_literal names agent factor params objects kept l b.long)
    ((λ i. place_of kept agent (sym b.are i) (sym are i)) ∙ h)

pub one_fails : (names : List Text) (agent : ℕ) (factor : Factor) (params : List Typed) (objects : List Text) (args : List ObjectNumber)
    (kept : List FactNumbers) (literals : List NumberedLiteral) (written : List Literal) (place : ℕ)
    → IsBound names factor params objects args → literals ≡ map (numbered_literal names (privates_of factor) params) written
    → place_of kept agent args literals ≡ Some place
    → IsFound (λ (x : SignedFact). not (holds (named_state names kept) x)) (signed agent factor params objects) written 0 place
one_fails names agent factor params objects args kept literals written place b are h =
    found_item (λ (l : NumberedLiteral). not (holds_at kept agent (map (object_number names (privates_of factor)) objects) l))
    (λ (x : SignedFact). not (holds (named_state names kept) x))
    (numbered names factor params) (signed agent factor params objects) written 0 place
    (λ l. same_literal names agent factor params objects kept l b.long)
    ((λ i. place_of kept agent (sym b.are i) (sym are i)) ∙ h)

-- the literal at that place
pub that_fails : (names : List Text) (agent : ℕ) (factor : Factor) (params : List Typed) (objects : List Text) (s : State) (written : List Literal) (place : ℕ) (l : Literal)
    → IsFound (λ (x : SignedFact). not (holds s x)) (signed agent factor params objects) written 0 place → slice_get written place ≡ Some l
    → Some (signed agent factor params objects l) ≡ failing s (signed_facts agent factor params objects written)
that_fails names agent factor params objects s written place l h at =
    let e : place ≡ h.behind = let i = h.is in omega (arith, i) in
    let same : l ≡ h.item = same_Some l h.item (sym at ∙ ap (slice_get written) e ∙ h.at) in
    ap (λ (m : Literal). Some (signed agent factor params objects m)) same ∙ sym h.first

pub not_past : (names : List Text) (agent : ℕ) (factor : Factor) (params : List Typed) (objects : List Text) (s : State) (written : List Literal) (place : ℕ)
    → IsFound (λ (x : SignedFact). not (holds s x)) (signed agent factor params objects) written 0 place → slice_get written place ≡ None → ⊥
not_past names agent factor params objects s written place h none =
    let e : place ≡ h.behind = let i = h.is in omega (arith, i) in
    none-some h.item (sym none ∙ ap (slice_get written) e ∙ h.at)

-- ---- the state after an instance

pub state_after : (names : List Text) (agent : ℕ) (factor : Factor) (schema : Schema) (objects : List Text) (args : List ObjectNumber) (cost : ℕ)
    (action : NumberedAction) (old new : List FactNumbers)
    → Covers names (names_of_schema schema) → IsBound names factor schema.params objects args → action ≡ numbered_action names factor schema
    → ((f : FactNumbers) → is_true new f ≡ (is_one_of (map (fact_at agent args) action.add) f || (is_true old f && not (is_one_of (map (fact_at agent args) action.del) f))))
    → named_state names new ≡ after (instance_with agent factor schema objects cost) (named_state names old)
state_after names agent factor schema objects args cost action old new c b are changed =
    let params = schema.params in
    let adds : map (fact_at agent args) action.add ≡ map (numbers_of names) (facts_of agent factor params objects schema.add) =
    (λ i. map (fact_at agent (b.are i)) (are i).add) ∙ atoms_at names agent factor params objects schema.add b.long in
    let dels : map (fact_at agent args) action.del ≡ map (numbers_of names) (facts_of agent factor params objects schema.del) =
    (λ i. map (fact_at agent (b.are i)) (are i).del) ∙ atoms_at names agent factor params objects schema.del b.long in
    let known_adds = known_facts names agent factor params objects schema.add b.known
    (covers_left names (flat_map names_of_atom schema.add) (flat_map names_of_atom schema.del) c) in
    let known_dels = known_facts names agent factor params objects schema.del b.known
    (covers_right names (flat_map names_of_atom schema.add) (flat_map names_of_atom schema.del) c) in
    let each : (f : NamedFact) → is_true new (numbers_of names f)
    ≡ (is_among f (facts_of agent factor params objects schema.add)
    || (is_true old (numbers_of names f) && not (is_among f (facts_of agent factor params objects schema.del)))) =
    λ f. changed (numbers_of names f)
    ∙ (λ i. is_one_of (adds i) (numbers_of names f) || (is_true old (numbers_of names f) && not (is_one_of (dels i) (numbers_of names f))))
    ∙ (λ i. one_of_named names f (facts_of agent factor params objects schema.add) known_adds i
    || (is_true old (numbers_of names f) && not (one_of_named names f (facts_of agent factor params objects schema.del) known_dels i))) in
    λ i f. each f i
