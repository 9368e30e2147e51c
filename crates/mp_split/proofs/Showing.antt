-- What an agent shows has the texts of its public facts in their order, and as many parts as it has actions at most.
use Rattle.mp_split.proofs.Basics.{arith, ◌≡◌, ℕ, ◌<◌, ◌≤◌, Bool, true, not, List, map, length, get_or, All, sym, subst, filter, length-map, IsTotalOrder, on_total, nat_list_cmp_total, IsStrictlyIncreasing, nat_cmp, sorted_from_strictly_increasing, IsStrictlyIncreasing-from_sorted}
use Rattle.mp_split.proofs.Basics.{Text, Act, ActFits, AllLess, is_public, part_line, part_cmp, texts_rise, Ground, IsGrounded, Known, KeepsLimits, texts_at, is_number_in, part_of, closed_view, ActRises, AreOf, IsReady, PartFits, is_listed}
use Rattle.std.proofs.lemmas.List.Elements.{All-filter, All-map}
use Rattle.std.proofs.lemmas.List.Kept.{IsStrictlySortedBy-filter}
use Rattle.std.proofs.lemmas.List.Sums.{count_by-le-length, length-filter}
use Rattle.mp_joint.specs.declared.fact.SignedFact.{SignedFact}
use Rattle.mp_lifting.specs.Texts.{signed_text}
use Rattle.mp_typing.proofs.Placing.{places_rise}
use Rattle.mp_views.specs.Public.{is_public as is_public_fact}
use Rattle.mp_ground_laws.specs.Grounding.{GroundedInstance}
use Rattle.mp_grounder.specs.Grounded.{act_of, counted, instances_by_name, setting}
use Rattle.mp_grounder.specs.Places.{public_places_in}
use Rattle.mp_split.proofs.InOrder.{each_in_order, in_order_short}
use Rattle.mp_split.proofs.Numbering.{AreIn, Rises, each_text_at, texts_at_rise}

-- ---- a grounded factor that keeps the limits is ready

act_rises : (privates : List SignedFact) (publics : List Text) (i : GroundedInstance) → ActRises (act_of privates publics i)
act_rises privates publics i =
    let up : (facts : List SignedFact) → IsStrictlyIncreasing (public_places_in publics facts) =
    λ facts. places_rise (λ text. is_listed text (map signed_text (filter is_public_fact facts))) 0 publics in
    record { pre = up i.pre; add = up i.add; del = up i.del }

pub ready : (agents : ℕ) (k : Known) (g : Ground) → IsGrounded k g → KeepsLimits g → 1 ≤ g.me → g.me ≤ agents → IsReady agents g
ready agents k g is limits from_1 in_team =
    let instances = instances_by_name k.me k.factor (setting k) in
    record {
      from_1 = from_1;
      in_team = in_team;
      rise = subst Rises (sym is.publics) (texts_rise (map signed_text (filter is_public_fact (counted k))));
      acts = subst (All ActRises) (sym is.acts)
          (All-map ActRises (act_of is.private_facts g.publics) instances (λ n i lt. act_rises is.private_facts g.publics (get_or instances n i)));
      limits = limits;
    }

-- ---- the public parts of its actions

module _ (table own : List Text) (rises : Rises own) (there : AreIn table own) where
  texts_are_of : (ns : List ℕ) → IsStrictlyIncreasing ns → AllLess (length own) ns → AreOf table (texts_at own ns)
  texts_are_of ns up below = record {
    rise = texts_at_rise own rises ns up below;
    there = each_text_at (λ t. is_listed t table ≡ true) own ns there below;
  }

  pub part_fits : (privates : ℕ) (act : Act) → ActRises act → ActFits (length own) privates act → PartFits table (part_of own act)
  part_fits privates act these fits =
      let test : ℕ → Bool = λ n. not (is_number_in act.add_pub n) in
      record {
        pre = texts_are_of act.pre_pub these.pre fits.pre_pub;
        add = texts_are_of act.add_pub these.add fits.add_pub;
        del = texts_are_of (filter test act.del_pub)
            (IsStrictlyIncreasing-from_sorted (filter test act.del_pub)
            (IsStrictlySortedBy-filter nat_cmp test act.del_pub (sorted_from_strictly_increasing act.del_pub these.del)))
            (All-filter test (λ n. n < length own) act.del_pub fits.del_pub);
        cost = fits.cost;
      }

part_total : IsTotalOrder part_cmp
part_total = on_total part_line nat_list_cmp_total

pub parts_fit : (agents : ℕ) (table : List Text) (g : Ground) → IsReady agents g → AreIn table g.publics → All (PartFits table) (closed_view g).acts
parts_fit agents table g is there =
    let own = g.publics in
    each_in_order part_total (PartFits table) (map (part_of own) (filter is_public g.acts))
    (All-map (PartFits table) (part_of own) (filter is_public g.acts)
    (All-filter is_public (λ act. PartFits table (part_of own act)) g.acts
    (λ n d lt. part_fits table own is.rise there g.privates (get_or g.acts n d) (is.acts n d lt) (is.limits.acts n d lt))))

pub few_parts : (g : Ground) → KeepsLimits g → length (closed_view g).acts ≤ 200000
few_parts g limits =
    let public = filter is_public g.acts in
    let short = in_order_short part_total (map (part_of g.publics) public) in
    let fewer = count_by-le-length is_public g.acts in
    omega (arith, limits.number_of_acts, short, length-map public (part_of g.publics), length-filter is_public g.acts, fewer)
