-- What holds after an instance, of facts and complements that have numbers and of the others.
use Rattle.std.proofs.Common.{◌≡◌, ℕ, List, Bool, true, false, not, ◌&&◌, ◌||◌, if◌then◌else◌, refl, ap, sym, ◌∙◌, Some}
use Rattle.std.proofs.lemmas.Bool.{and_parts, and_from, false_from_ne_true, false≢true, true≢false}
use Rattle.std.proofs.Math.Bool.{or_comm}
use Rattle.std.specs.List.{filter}
use Rattle.std.specs.Prelude.{Contains, Decides}
use Rattle.mp_list.proofs.Bools.{same_tests}
use Rattle.mp_forms.specs.declared.factor.Factor.{Factor}
use Rattle.mp_typing.proofs.Passing.{taken_passes, taken_from_passes}
use Rattle.mp_joint.specs.declared.fact.NamedFact.{NamedFact}
use Rattle.mp_joint.specs.declared.fact.SignedFact.{SignedFact}
use Rattle.mp_joint.specs.Fact.{is_among, plain, complement}
use Rattle.mp_joint.specs.Instance as named
use Rattle.mp_joint.specs.Instance.{Instance, State, holds}
use Rattle.mp_joint.specs.Static.{is_changed_in}
use Rattle.mp_stands.specs.Touched.{factor_of, is_static_fact, has_complement, added, deleted}
use Rattle.mp_joint.proofs.SameFacts.{Decides-among}
use Rattle.mp_stands.proofs.Owners.{IsFactOf, own_so, so_alike, same_agent}
use Rattle.mp_stands.proofs.Contributed.{IsSound}
use Rattle.mp_stands.proofs.Counted.{IsHad, negated_for}
use Rattle.mp_stands.proofs.Signed.{plain_among, among_plain, complement_among, among_complement}
use Rattle.mp_stands.proofs.States.{AreStaticFacts}

-- the complement of a fact afterwards, where p is whether the fact was true
complement_after : (p add del has : Bool) → (add ≡ true → has ≡ true) → (del ≡ true → has ≡ true)
    → ((not p && not (add && has)) || (del && (has && not add))) ≡ not (add || (p && not del))
complement_after true true true true h k = refl
complement_after true true false true h k = refl
complement_after true false true true h k = refl
complement_after true false false true h k = refl
complement_after false true true true h k = refl
complement_after false true false true h k = refl
complement_after false false true true h k = refl
complement_after false false false true h k = refl
complement_after p true del false h k = absurd (false≢true (h refl))
complement_after p false true false h k = absurd (false≢true (k refl))
complement_after true false false false h k = refl
complement_after false false false false h k = refl

kept : (p add del : Bool) → add ≡ false → del ≡ false → (add || (p && not del)) ≡ p
kept true false false h k = refl
kept false false false h k = refl
kept p true del h k = absurd (true≢false h)
kept p false true h k = absurd (true≢false k)

-- what an instance neither adds nor deletes is as before
pub unchanged : (i : Instance) (s : State) (f : NamedFact) → (Contains i.add f → ⊥) → (Contains i.del f → ⊥) → named.after i s f ≡ s f
unchanged i s f not_added not_deleted =
    kept (s f) (is_among f i.add) (is_among f i.del)
    (false_from_ne_true (is_among f i.add) (λ h. not_added ((Decides-among f i.add).0 h)))
    (false_from_ne_true (is_among f i.del) (λ h. not_deleted ((Decides-among f i.del).0 h)))

pub unchanged_signed : (i : Instance) (s : State) (x : SignedFact) → (Contains i.add x.fact → ⊥) → (Contains i.del x.fact → ⊥) → holds s x ≡ holds (named.after i s) x
unchanged_signed i s x not_added not_deleted = ap (λ b. if x.positive then b else not b) (sym (unchanged i s x.fact not_added not_deleted))

module _ (team : List Factor) (agent : ℕ) (factor : Factor) (i : Instance) (at : factor_of team agent ≡ Some factor) (sound : IsSound agent factor i) where
  -- a fact that the instance changes is no static one of any agent
  changed_not_static : (j : ℕ) (other : Factor) (f : NamedFact) → factor_of team j ≡ Some other → IsFactOf j other f
      → IsFactOf agent factor f → is_changed_in f.predicate factor ≡ true → is_static_fact team other f ≡ true → ⊥
  changed_not_static j other f at_j of_j of changed static =
      let here = own_so is_changed_in team agent factor f.predicate at changed in
      let there = so_alike is_changed_in team agent j factor other f at at_j of of_j in
      true≢false (sym static ∙ ap not (sym there ∙ here))

  pub statics_stay : (s : State) → AreStaticFacts team s → AreStaticFacts team (named.after i s)
  statics_stay s statics j other f at_j of_j static =
      unchanged i s f
      (λ here. changed_not_static j other f at_j of_j (sound.add f here).0 (sound.add f here).1 static)
      (λ here. changed_not_static j other f at_j of_j (sound.del f here).0 (sound.del f here).1 static)
      ∙ statics j other f at_j of_j static

  -- private facts of other agents stay
  pub others_stay : (s : State) (x : SignedFact) (j : ℕ) → x.fact.owner ≡ Some j → (j ≡ agent → ⊥) → holds s x ≡ holds (named.after i s) x
  others_stay s x j its another =
      unchanged_signed i s x
      (λ here. another (same_agent j agent factor x.fact its (sound.add x.fact here).0))
      (λ here. another (same_agent j agent factor x.fact its (sound.del x.fact here).0))

  -- a fact with a number
  plain_holds_after : (s : State) (f : NamedFact) (a d : Bool) → Decides a (Contains (added team factor i) (plain f)) → Decides d (Contains (deleted team factor i) (plain f))
      → ((s f && not d) || a) ≡ named.after i s f
  plain_holds_after s f a d adds dels =
      let more = filter (λ g. has_complement team factor g && not (is_among g i.add)) i.del in
      let less = filter (λ g. has_complement team factor g) i.add in
      let add : a ≡ is_among f i.add = same_tests a (is_among f i.add)
      (λ h. (Decides-among f i.add).1 (plain_among i.add more f (adds.0 h)))
      (λ h. adds.1 (among_plain i.add more f ((Decides-among f i.add).0 h))) in
      let del : d ≡ is_among f i.del = same_tests d (is_among f i.del)
      (λ h. (Decides-among f i.del).1 (plain_among i.del less f (dels.0 h)))
      (λ h. dels.1 (among_plain i.del less f ((Decides-among f i.del).0 h))) in
      (λ k. (s f && not (del k)) || add k) ∙ or_comm (s f && not (is_among f i.del)) (is_among f i.add)

  -- a complement with a number
  complement_holds_after : (s : State) (f : NamedFact) → IsHad team (complement f) → (a d : Bool)
      → Decides a (Contains (added team factor i) (complement f)) → Decides d (Contains (deleted team factor i) (complement f))
      → ((not (s f) && not d) || a) ≡ not (named.after i s f)
  complement_holds_after s f had a d adds dels =
      let test : NamedFact → Bool = λ g. has_complement team factor g && not (is_among g i.add) in
      let has : NamedFact → Bool = λ g. has_complement team factor g in
      let add : a ≡ (is_among f i.del && test f) = same_tests a (is_among f i.del && test f)
      (λ h.
      let passes = taken_passes test i.del f (complement_among i.add (filter test i.del) f (adds.0 h)) in
      and_from (is_among f i.del) (test f) ((Decides-among f i.del).1 passes.0) passes.1)
      (λ h.
      let both = and_parts (is_among f i.del) (test f) h in
      adds.1 (among_complement i.add (filter test i.del) f (taken_from_passes test i.del f ((Decides-among f i.del).0 both.0) both.1))) in
      let del : d ≡ (is_among f i.add && has f) = same_tests d (is_among f i.add && has f)
      (λ h.
      let passes = taken_passes has i.add f (complement_among i.del (filter has i.add) f (dels.0 h)) in
      and_from (is_among f i.add) (has f) ((Decides-among f i.add).1 passes.0) passes.1)
      (λ h.
      let both = and_parts (is_among f i.add) (has f) h in
      dels.1 (among_complement i.del (filter has i.add) f (taken_from_passes has i.add f ((Decides-among f i.add).0 both.0) both.1))) in
      (λ k. (not (s f) && not (del k)) || add k)
      ∙ complement_after (s f) (is_among f i.add) (is_among f i.del) (has_complement team factor f)
      (λ h. negated_for team f agent factor had at (sound.add f ((Decides-among f i.add).0 h)).0)
      (λ h. negated_for team f agent factor had at (sound.del f ((Decides-among f i.del).0 h)).0)

  pub holds_after : (s : State) (x : SignedFact) → IsHad team x → (a d : Bool) → Decides a (Contains (added team factor i) x) → Decides d (Contains (deleted team factor i) x)
      → ((holds s x && not d) || a) ≡ holds (named.after i s) x
  holds_after s x had a d adds dels = by x.positive x.fact had adds dels
    where
      by : (positive : Bool) (f : NamedFact) → IsHad team (record { positive = positive; fact = f })
          → Decides a (Contains (added team factor i) (record { positive = positive; fact = f }))
          → Decides d (Contains (deleted team factor i) (record { positive = positive; fact = f }))
          → ((holds s (record { positive = positive; fact = f }) && not d) || a) ≡ holds (named.after i s) (record { positive = positive; fact = f })
      by true f had adds dels = plain_holds_after s f a d adds dels
      by false f had adds dels = complement_holds_after s f had a d adds dels
