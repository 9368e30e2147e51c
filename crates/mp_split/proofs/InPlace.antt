-- Where the number at each place is that place, actions keep their numbers.
use Rattle.mp_split.proofs.Basics.{◌≡◌, ℕ, ◌<◌, List, map, length, All, sym, ◌∙◌, slice_index_or, Act, ActFits, AllLess, ArePlaces, act_at}
use Rattle.std.proofs.lemmas.List.{map-id}
use Rattle.std.proofs.lemmas.List.Elements.{All-contains}
use Rattle.mp_grounder.proofs.Members.{map_on}

module _ (numbers : List ℕ) (places : ArePlaces numbers) (privates : ℕ) where
  act_stays : (act : Act) → ActFits (length numbers) privates act → act_at numbers act ≡ act
  act_stays act fits =
      let stay = λ (ns : List ℕ) (within : AllLess (length numbers) ns).
      map_on (λ n. slice_index_or numbers n 0) (λ n. n) ns (λ n here. places n (All-contains (λ m. m < length numbers) ns n within here)) ∙ map-id ns in
      let pre = stay act.pre_pub fits.pre_pub in
      let add = stay act.add_pub fits.add_pub in
      let del = stay act.del_pub fits.del_pub in
      λ i. record act { pre_pub = pre i; add_pub = add i; del_pub = del i }

  pub acts_stay : (acts : List Act) → All (ActFits (length numbers) privates) acts → acts ≡ map (act_at numbers) acts
  acts_stay acts fits =
      sym
      (map_on (act_at numbers) (λ act. act) acts
      (λ act here. act_stays act (All-contains (ActFits (length numbers) privates) acts act fits here))
      ∙ map-id acts)
