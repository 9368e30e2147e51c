-- Facts that are read into a set, and states that are read in parts.
use Rattle.std.proofs.Common.{◌≡◌, ℕ, suc, ◌+◌, ◌-◌, ◌^◌, ◌<◌, ◌≤◌, Bool, true, false, cond, ◌||◌, eqb, List, [], ◌∷◌, get_or, length, Option, Some, None, refl, sym, ap, subst, ◌∙◌, arith}
use Rattle.std.proofs.lemmas.Bool.{eqb-true, eq-eqb}
use Rattle.std.proofs.lemmas.Option.{cond_some, none-some}
use Rattle.std.specs.Cmp.{nat_cmp_total}
use Rattle.std.specs.FinSet as set
use Rattle.std.specs.Prelude.{option_and_then}
use Rattle.std.specs.Ordering.{nat_cmp, eq_by_cmp}
use Rattle.mp_sets.proofs.NumbersLemmas.{union-empty}
use Rattle.mp_sets.proofs.SetLemmas.{same_numbers, union-none}
use Rattle.mp_sets.specs.Numbers.{Numbers}
use Rattle.mp_sets.specs.declared.tag.Tag.{Tag}
use Rattle.mp_messages.specs.declared.message.State.{State}
use Rattle.mp_messages.specs.declared.message.Message.{Message}
use Rattle.mp_messages.specs.declared.message.Message.TheVariants as kinds
use Rattle.mp_messages.specs.Parts.{StateParts, parts_of, state_in}
use Rattle.mp_messages.specs.Reading.{◌>>=◌, as_kind, as_set, in_parts, fact_at, facts_at, costs_at, counted_at, tags_at, state_at, fields_at, message_at, message_read}
use Rattle.mp_messages.specs.Spelling.{spelling, IsSpelling}
use Rattle.mp_messages.proofs.Loops.{with_front}
use Rattle.mp_messages.proofs.Messages.{all_again, all_take}
use Rattle.mp_messages.proofs.Taking.{IsBytes, IsBytes-with, bind_some, some_is}

-- ---- facts

contains-first : (x : ℕ) (xs : List ℕ) (q : ℕ) → set.contains (set.from_list {R = nat_cmp} (x ∷ xs)) q ≡ (eq_by_cmp nat_cmp q x || set.contains (set.from_list {R = nat_cmp} xs) q)
contains-first x xs q =
    set.contains-from_list nat_cmp_total (x ∷ xs) q
    ∙ ap (λ (b : Bool). eq_by_cmp nat_cmp q x || b) (sym (set.contains-from_list nat_cmp_total xs q))

-- the first number of a list may be put into the set before the others
union-first : (s : Numbers) (x : ℕ) (xs : List ℕ) → set.union (set.insert s x) (set.from_list xs) ≡ set.union s (set.from_list (x ∷ xs))
union-first s x xs = same_numbers _ _ (λ q.
    set.contains-union nat_cmp_total (set.insert s x) (set.from_list xs) q
    ∙ ap (λ (b : Bool). b || set.contains (set.from_list {R = nat_cmp} xs) q) (set.contains-insert nat_cmp_total s x q)
    ∙ both (set.contains s q) (eq_by_cmp nat_cmp q x) (set.contains (set.from_list {R = nat_cmp} xs) q)
    ∙ sym (set.contains-union nat_cmp_total s (set.from_list (x ∷ xs)) q ∙ ap (λ (b : Bool). set.contains s q || b) (contains-first x xs q)))
  where
    both : (a b c : Bool) → ((b || a) || c) ≡ (a || (b || c))
    both true true c = refl
    both true false c = refl
    both false true c = refl
    both false false c = refl

-- numbers that are read into a set that has some
abbrev pub into_set : Numbers → Option (List ℕ × List ℕ) → Option (Numbers × List ℕ)
into_set s read = read >>= λ x. Some (set.union s (set.from_list x.0), x.1)

one_in : (s : Numbers) (x : ℕ) (read : Option (List ℕ × List ℕ)) → into_set s (read >>= λ others. Some (x ∷ others.0, others.1)) ≡ into_set (set.insert s x) read
one_in s x (Some others) = ap (λ (m : Numbers). Some (m, others.1)) (sym (union-first s x others.0))
one_in s x None = refl

pub into_empty : (read : Option (List ℕ × List ℕ)) → into_set set.empty read ≡ as_set read
into_empty (Some x) = ap (λ (m : Numbers). Some (m, x.1)) (union-empty (set.from_list x.0))
into_empty None = refl

pub facts_go_in : (publics : ℕ) (s : Numbers) (count i least : ℕ) (bytes : List ℕ) (x : ℕ) (after : List ℕ) (total : Option (Numbers × List ℕ)) → i < count
    → fact_at publics least bytes ≡ Some (x, after) → into_set s (facts_at publics (count - i) least bytes) ≡ total
    → into_set (set.insert s x) (facts_at publics (count - (i + 1)) (x + 1) after) ≡ total
unfolding facts_at
facts_go_in publics s count i least bytes x after total lt h so_far =
    let k : count - i ≡ suc (count - (i + 1)) = omega arith in
    let one : into_set s (facts_at publics (count - i) least bytes) ≡ into_set (set.insert s x) (facts_at publics (count - (i + 1)) (x + 1) after) =
    rw (k, h) (one_in s x (facts_at publics (count - (i + 1)) (x + 1) after)) in
    sym one ∙ so_far

pub facts_stop_in : (publics : ℕ) (s : Numbers) (count i least : ℕ) (bytes : List ℕ) (total : Option (Numbers × List ℕ)) → i < count
    → fact_at publics least bytes ≡ None → into_set s (facts_at publics (count - i) least bytes) ≡ total → None ≡ total
unfolding facts_at
facts_stop_in publics s count i least bytes total lt h so_far =
    let k : count - i ≡ suc (count - (i + 1)) = omega arith in
    let one : into_set s (facts_at publics (count - i) least bytes) ≡ None = rw (k, h) refl in
    sym one ∙ so_far

pub facts_end_in : (publics : ℕ) (s : Numbers) (count i least : ℕ) (bytes : List ℕ) (total : Option (Numbers × List ℕ)) → count ≤ i
    → into_set s (facts_at publics (count - i) least bytes) ≡ total → Some (s, bytes) ≡ total
unfolding facts_at
facts_end_in publics s count i least bytes total le so_far =
    let k : count - i ≡ 0 = omega arith in
    let one : into_set s (facts_at publics (count - i) least bytes) ≡ Some (s, bytes) = rw k (ap (λ (m : Numbers). Some (m, bytes)) (sym (union-none s))) in
    sym one ∙ so_far

-- ---- tags

pub none_before : (read : Option (List Tag × List ℕ)) → with_front [] read ≡ read
none_before (Some x) = refl
none_before None = refl

-- ---- a whole state

none_as_set : (read : Option (List ℕ × List ℕ)) → None ≡ as_set read → read ≡ None
none_as_set None e = refl
none_as_set (Some x) e = absurd (none-some (set.from_list x.0, x.1) e)

module _ (agents publics : ℕ) (bytes : List ℕ) where
  pub no_costs : costs_at bytes ≡ None → None ≡ in_parts (state_at agents publics bytes)
  unfolding state_at
  no_costs e = rw e refl

  module _ (sent g h : ℕ) (r : List ℕ) (costs : costs_at bytes ≡ Some ((sent, g, h), r)) where
    pub no_facts : None ≡ as_set (counted_at publics r) → None ≡ in_parts (state_at agents publics bytes)
    unfolding state_at
    no_facts e =
        let none = none_as_set (counted_at publics r) e in
        rw (costs, none) refl

    module _ (facts : Numbers) (q : List ℕ) (read : Some (facts, q) ≡ as_set (counted_at publics r)) where
      listed : (x : List ℕ × List ℕ) × (counted_at publics r ≡ Some x) × ◌≡◌ {A = Option (Numbers × List ℕ)} (Some (set.from_list x.0, x.1)) (Some (facts, q))
      listed = bind_some (counted_at publics r) (λ x. Some (set.from_list x.0, x.1)) (facts, q) (sym read)

      both : ◌≡◌ {A = Numbers × List ℕ} (set.from_list listed.0.0, listed.0.1) (facts, q)
      both = some_is (set.from_list listed.0.0, listed.0.1) (facts, q) listed.2

      same_rest : listed.0.1 ≡ q
      same_rest = ap (λ (x : Numbers × List ℕ). x.1) both

      pub no_tags : None ≡ tags_at agents q → None ≡ in_parts (state_at agents publics bytes)
      unfolding state_at
      no_tags e =
          let none : tags_at agents listed.0.1 ≡ None = ap (tags_at agents) same_rest ∙ sym e in
          rw (costs, listed.1, none) refl

      pub state_read : (tags : List Tag) (rest : List ℕ) → Some (tags, rest) ≡ tags_at agents q
          → Some (record { sent = sent; g = g; h = h; facts = facts; tags = tags }, rest) ≡ in_parts (state_at agents publics bytes)
      unfolding state_at
      state_read tags rest e =
          let some : tags_at agents listed.0.1 ≡ Some (tags, rest) = ap (tags_at agents) same_rest ∙ sym e in
          rw (costs, listed.1, some)
          (ap (λ (x : Numbers × List ℕ). Some (record { sent = sent; g = g; h = h; facts = x.0; tags = tags }, rest)) (sym both))

-- ---- a message

-- the message of bytes that begin as those of a state
abbrev whole : Option (State × List ℕ) → Option Message
whole read = as_kind kinds.State read >>= λ m. cond (eqb (length m.1) 0) (Some m.0) None

whole_is : (agents publics : ℕ) (bytes : List ℕ) → message_read agents publics (1 ∷ bytes) ≡ whole (state_at agents publics bytes)
unfolding message_read message_at fields_at
whole_is agents publics bytes = refl

none_whole : (read : Option (State × List ℕ)) → None ≡ in_parts read → (s : State) → whole read ≡ Some (kinds.State s) → ⊥
none_whole None e s is = none-some (kinds.State s) is
none_whole (Some x) e s is = none-some (parts_of x.0, x.1) e

more_whole : (read : Option (State × List ℕ)) (p : StateParts) (rest : List ℕ) → Some (p, rest) ≡ in_parts read → (length rest ≡ 0 → ⊥)
    → (s : State) → whole read ≡ Some (kinds.State s) → ⊥
more_whole None p rest e more s is = none-some (p, rest) (sym e)
more_whole (Some x) p rest e more s is =
    let same : ◌≡◌ {A = StateParts × List ℕ} (p, rest) (parts_of x.0, x.1) = some_is (p, rest) (parts_of x.0, x.1) e in
    let test = cond_some (eqb (length x.1) 0) (kinds.State x.0) (kinds.State s) is in
    more (ap (λ (y : StateParts × List ℕ). length y.1) same ∙ eqb-true (length x.1) 0 test.0)

all_whole : (read : Option (State × List ℕ)) (p : StateParts) (rest : List ℕ) → Some (p, rest) ≡ in_parts read → length rest ≡ 0
    → (s : State) × (whole read ≡ Some (kinds.State s)) × (p ≡ parts_of s)
all_whole None p rest e all = absurd (none-some (p, rest) (sym e))
all_whole (Some x) p rest e all =
    let same : ◌≡◌ {A = StateParts × List ℕ} (p, rest) (parts_of x.0, x.1) = some_is (p, rest) (parts_of x.0, x.1) e in
    let ends : length x.1 ≡ 0 = sym (ap (λ (y : StateParts × List ℕ). length y.1) same) ∙ all in
    (x.0, ap (λ (b : Bool). cond b (Some (kinds.State x.0)) None) (eq-eqb (length x.1) 0 ends), ap (λ (y : StateParts × List ℕ). y.0) same)

module _ (agents publics : ℕ) (bytes : List ℕ) (few : publics < 2 ^ 32) (fits : IsBytes bytes) where
  no_spelling : ((s : State) → whole (state_at agents publics bytes) ≡ Some (kinds.State s) → ⊥)
      → (s : State) → IsSpelling agents publics (kinds.State s) (1 ∷ bytes) → ⊥
  no_spelling none s spelled = none s (sym (whole_is agents publics bytes) ∙ all_again agents publics (kinds.State s) (1 ∷ bytes) few spelled)

  pub no_state : None ≡ in_parts (state_at agents publics bytes) → (s : State) → IsSpelling agents publics (kinds.State s) (1 ∷ bytes) → ⊥
  no_state e = no_spelling (none_whole (state_at agents publics bytes) e)

  pub bytes_left : (p : StateParts) (rest : List ℕ) → Some (p, rest) ≡ in_parts (state_at agents publics bytes) → (length rest ≡ 0 → ⊥)
      → (s : State) → IsSpelling agents publics (kinds.State s) (1 ∷ bytes) → ⊥
  bytes_left p rest e more = no_spelling (more_whole (state_at agents publics bytes) p rest e more)

  pub whole_read : (p : StateParts) (rest : List ℕ) → Some (p, rest) ≡ in_parts (state_at agents publics bytes) → length rest ≡ 0
      → (s : State) × IsSpelling agents publics (kinds.State s) (1 ∷ bytes) × (p ≡ parts_of s)
  whole_read p rest e all =
      let found = all_whole (state_at agents publics bytes) p rest e all in
      (found.0, all_take agents publics (1 ∷ bytes) (kinds.State found.0) (IsBytes-with 1 bytes (omega arith) fits) (whole_is agents publics bytes ∙ found.1), found.2)

-- bytes that begin otherwise spell no state
pub other_kind : (agents publics : ℕ) (bytes : List ℕ) → (0 < length bytes → get_or bytes 0 0 ≡ 1 → ⊥) → (s : State)
    → IsSpelling agents publics (kinds.State s) bytes → ⊥
unfolding spelling
other_kind agents publics bytes other s spelled =
    let long : 0 < length bytes = subst (λ (b : List ℕ). 0 < length b) (sym spelled.is) (omega arith) in
    other long (ap (λ (b : List ℕ). get_or b 0 0) spelled.is)

-- ---- the state in a message

state_is : (x : Message) (m : State) → state_in x ≡ Some m → x ≡ kinds.State m
state_is (kinds.State s) m e = ap kinds.State (some_is s m e)
state_is (kinds.Marker n) m e = absurd (none-some m e)
state_is (kinds.Report f) m e = absurd (none-some m e)
state_is (kinds.Pick n) m e = absurd (none-some m e)
state_is (kinds.Trace sent back) m e = absurd (none-some m e)
state_is (kinds.Length n) m e = absurd (none-some m e)
state_is (kinds.Done end) m e = absurd (none-some m e)

pub state_in_some : (read : Option Message) (m : State) → option_and_then state_in read ≡ Some m → read ≡ Some (kinds.State m)
state_in_some None m e = absurd (none-some m e)
state_in_some (Some x) m e = ap (λ (y : Message). Some y) (state_is x m e)

pub no_state_in : (read : Option Message) → ((s : State) → read ≡ Some (kinds.State s) → ⊥) → option_and_then state_in read ≡ None
no_state_in read none = by (option_and_then state_in read) refl
  where
    by : (o : Option State) → option_and_then state_in read ≡ o → o ≡ None
    by None is = refl
    by (Some m) is = absurd (none m (state_in_some read m is))
