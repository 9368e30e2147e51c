-- Works that share agents.
use Rattle.std.proofs.Common.{◌≡◌, ℕ, ◌+◌, ◌<◌, List, [], ◌∷◌, ◌++◌, length, get_or, set, Some, None, sym, ap, ◌∙◌, subst}
use Rattle.std.specs.Prelude.{All, Option, replicate}
use Rattle.std.proofs.lemmas.List.{map-append}
use Rattle.std.proofs.lemmas.List.Elements.{All-append, All-cons, All-head, All-nil, All-pop, All-tail}
use Rattle.mp_world.specs.Values.{Values}
use Rattle.atomic_table.specs.Seated.{TableId}
use Rattle.mp_nodes.specs.Nodes.{AreServed, SeenNode}
use Rattle.mp_post.specs.Desks.{IsDeskOf}
use Rattle.mp_post.specs.Parts.{HasMerged, HasSplit}
use Rattle.mp_team.specs.Joined.{either_nodes}
use Rattle.mp_team.specs.Kept.{AreKept, Places}
use Rattle.mp_team.specs.Works.{AreAnswered, AreShared, IsWork, nodes_of, parts_of}
use Rattle.mp_team.specs.declared.work.Answered.{Answered}
use Rattle.mp_team.specs.declared.work.Work.{Work}
use Rattle.mp_team.proofs.Answering.{answered_before}
use Rattle.mp_team.proofs.Changing.{either_kept}
use Rattle.mp_team.proofs.Keeping.{both_kept, same_kept, swap_kept, then_kept}
use Rattle.mp_team.proofs.Serving.{joined_served, left_served, right_served, split_kept}

module _ {H : Type 0} (value : Values) (table : TableId) (agents : ℕ) where
  abbrev Fits : Work H → Type 0
  Fits w = IsWork value table agents w

  abbrev Shared : List Places → List (Work H) → Type 0
  Shared old works = AreShared value table agents old works

  -- the only one there is
  pub only : (o : Option (Work H)) (w : Work H) → o ≡ Some w → All Fits (parts_of o) → Fits w
  only o w e all = All-head Fits w [] (subst (λ (x : Option (Work H)). All Fits (parts_of x)) e all)

  -- ---- two in one

  pub same_many : (w p : Work H) → Fits w → Fits p → length p.nodes ≡ length w.nodes
  same_many w p own other = other.served.many ∙ sym own.served.many

  module _ (w p r : Work H) (own : Fits w) (other : Fits p) (desk : IsDeskOf table agents r.desk)
      (merged : HasMerged w.desk.view p.desk.view r.desk.view) (nodes : r.nodes ≡ either_nodes w.nodes p.nodes) where
    pub joined_fits : Fits r
    joined_fits = record {
      desk = desk;
      served = subst (λ ns. AreServed value agents ns r.desk.view) (sym nodes)
          (joined_served value agents w.nodes p.nodes w.desk.view p.desk.view r.desk.view own.served other.served merged);
    }

    pub joined_kept : AreKept (w.nodes ∷ p.nodes ∷ []) (r.nodes ∷ [])
    joined_kept = subst (λ ns. AreKept (w.nodes ∷ p.nodes ∷ []) (ns ∷ [])) (sym nodes) (either_kept w.nodes p.nodes (same_many w p own other))

    pub turned_kept : AreKept (p.nodes ∷ w.nodes ∷ []) (r.nodes ∷ [])
    turned_kept = then_kept (p.nodes ∷ w.nodes ∷ []) (w.nodes ∷ p.nodes ∷ []) (r.nodes ∷ [])
        (swap_kept (p.nodes ∷ []) (w.nodes ∷ [])) joined_kept

  pub left_alone : (o q : Option (Work H)) (w : Work H) → o ≡ Some w → q ≡ None → All Fits (parts_of o)
      → Shared (nodes_of (parts_of q ++ parts_of o)) (w ∷ [])
  left_alone o q w e f all =
      let same : parts_of q ++ parts_of o ≡ w ∷ [] = λ i. parts_of (f i) ++ parts_of (e i) in
      record {
        each = All-cons Fits w [] (only o w e all) (All-nil Fits);
        kept = subst (λ (ws : List (Work H)). AreKept (nodes_of ws) (w.nodes ∷ [])) (sym same) (same_kept (w.nodes ∷ []));
      }

  pub put_together : (o q : Option (Work H)) (w p r : Work H) → o ≡ Some w → q ≡ Some p → All Fits (parts_of o) → All Fits (parts_of q)
      → IsDeskOf table agents r.desk → HasMerged w.desk.view p.desk.view r.desk.view → r.nodes ≡ either_nodes w.nodes p.nodes
      → Shared (nodes_of (parts_of q ++ parts_of o)) (r ∷ [])
  put_together o q w p r e f all more desk merged nodes =
      let own = only o w e all in
      let other = only q p f more in
      let same : parts_of q ++ parts_of o ≡ p ∷ w ∷ [] = λ i. parts_of (f i) ++ parts_of (e i) in
      record {
        each = All-cons Fits r [] (joined_fits w p r own other desk merged nodes) (All-nil Fits);
        kept = subst (λ (ws : List (Work H)). AreKept (nodes_of ws) (r.nodes ∷ [])) (sym same) (turned_kept w p r own other desk merged nodes);
      }

  -- ---- one agent goes to a work of its own

  pub parted : (old new part : Work H) (at : ℕ) (n : SeenNode) → Fits old → at < length old.nodes → Some n ≡ get_or old.nodes at None
      → IsDeskOf table agents new.desk → IsDeskOf table agents part.desk
      → HasSplit (at + 1) old.desk.view new.desk.view part.desk.view
      → new.nodes ≡ set old.nodes at None → part.nodes ≡ set (replicate (length old.nodes) None) at (Some n)
      → Shared (old.nodes ∷ []) (new ∷ part ∷ [])
  parted old new part at n fits inside there desk part_desk split emptied alone =
      let v = old.desk.view in
      let left : AreServed value agents new.nodes new.desk.view =
      subst (λ ns. AreServed value agents ns new.desk.view) (sym emptied)
      (left_served value agents old.nodes at n v new.desk.view part.desk.view fits.served inside there split) in
      let right : AreServed value agents part.nodes part.desk.view =
      subst (λ ns. AreServed value agents ns part.desk.view) (sym alone)
      (right_served value agents old.nodes at n v new.desk.view part.desk.view fits.served inside there split) in
      let kept = split_kept value agents old.nodes at n v new.desk.view part.desk.view fits.served inside there split in
      record {
        each = All-cons Fits new (part ∷ []) (record { desk = desk; served = left })
            (All-cons Fits part [] (record { desk = part_desk; served = right }) (All-nil Fits));
        kept = subst (λ ns. AreKept (old.nodes ∷ []) (ns ∷ part.nodes ∷ [])) (sym emptied)
            (subst (λ ns. AreKept (old.nodes ∷ []) (set old.nodes at None ∷ ns ∷ [])) (sym alone) kept);
      }

  -- ---- one after another

  pub first_fits : (old : List Places) (w : Work H) (ws : List (Work H)) → Shared old (w ∷ ws) → Fits w
  first_fits old w ws shared = All-head Fits w ws shared.each

  pub others_fit : (old : List Places) (w : Work H) (ws : List (Work H)) → Shared old (w ∷ ws) → All Fits ws
  others_fit old w ws shared = All-tail Fits w ws shared.each

  -- an agent goes from a work to another
  pub one_over : (old new : Work H) (o q more : Option (Work H)) → Shared (old.nodes ∷ []) (new ∷ parts_of q)
      → Shared (nodes_of (parts_of q ++ parts_of o)) (parts_of more)
      → Shared (nodes_of (old ∷ parts_of o)) (new ∷ parts_of more)
  one_over old new o q more first second =
      let own = nodes_of (parts_of o) in
      let part = nodes_of (parts_of q) in
      let last = nodes_of (parts_of more) in
      let all : AreKept (part ++ own) last =
      subst (λ ps. AreKept ps last) (map-append (λ (w : Work H). w.nodes) (parts_of q) (parts_of o)) second.kept in
      record {
        each = All-cons Fits new (parts_of more) (first_fits (old.nodes ∷ []) new (parts_of q) first) second.each;
        kept = then_kept (old.nodes ∷ own) (new.nodes ∷ (part ++ own)) (new.nodes ∷ last)
            (both_kept (old.nodes ∷ []) (new.nodes ∷ part) own own first.kept (same_kept own))
            (both_kept (new.nodes ∷ []) (new.nodes ∷ []) (part ++ own) last (same_kept (new.nodes ∷ [])) all);
      }

  pub then_shared : (old : List Places) (ws us : List (Work H)) → Shared old ws → Shared (nodes_of ws) us → Shared old us
  then_shared old ws us first second = record {
    each = second.each;
    kept = then_kept old (nodes_of ws) (nodes_of us) first.kept second.kept;
  }

  -- another worker has its agents
  pub one_worker : (old : List Places) (from new : Work H) (ws us : List (Work H)) → Shared old (from ∷ ws)
      → Shared (from.nodes ∷ []) (new ∷ us) → Shared old (new ∷ (ws ++ us))
  one_worker old from new ws us first second =
      let own = nodes_of ws in
      let part = nodes_of us in
      let turned : AreKept (new.nodes ∷ (part ++ own)) (new.nodes ∷ (own ++ part)) =
      both_kept (new.nodes ∷ []) (new.nodes ∷ []) (part ++ own) (own ++ part) (same_kept (new.nodes ∷ [])) (swap_kept part own) in
      let over : AreKept (from.nodes ∷ own) (new.nodes ∷ (part ++ own)) =
      both_kept (from.nodes ∷ []) (new.nodes ∷ part) own own second.kept (same_kept own) in
      record {
        each = All-cons Fits new (ws ++ us) (first_fits (from.nodes ∷ []) new us second)
            (All-append Fits ws us (others_fit old from ws first) (others_fit (from.nodes ∷ []) new us second));
        kept = subst (λ ps. AreKept old (new.nodes ∷ ps)) (sym (map-append (λ (w : Work H). w.nodes) ws us))
            (then_kept old (from.nodes ∷ own) (new.nodes ∷ (own ++ part)) first.kept
            (then_kept (from.nodes ∷ own) (new.nodes ∷ (part ++ own)) (new.nodes ∷ (own ++ part)) over turned));
      }

  -- ---- what is answered

  abbrev Answers : List Places → Answered H → Type 0
  Answers old a = AreAnswered value table agents old a

  -- ---- the last of some works

  pub popped : (others before : List (Work H)) (w : Work H) → others ≡ before ++ w ∷ [] → All Fits others → All Fits before × Fits w
  popped others before w e all = All-pop Fits others before (Some w) e all

  pub at_last : (work other : Work H) (before others : List (Work H)) (a : Answered H) → others ≡ before ++ other ∷ []
      → Answers (nodes_of (work ∷ before) ++ (other.nodes ∷ [])) a → Answers (nodes_of (work ∷ others)) a
  at_last work other before others a e is =
      let same : nodes_of (work ∷ others) ≡ nodes_of (work ∷ before) ++ (other.nodes ∷ []) =
      ap (λ (ws : List (Work H)). nodes_of (work ∷ ws)) e
      ∙ ap (λ ps. work.nodes ∷ ps) (map-append (λ (w : Work H). w.nodes) before (other ∷ [])) in
      subst (λ ps. Answers ps a) (sym same) is

  pub at_joined : (work other r : Work H) (before others : List (Work H)) (a : Answered H) → others ≡ before ++ other ∷ []
      → Fits work → Fits other → IsDeskOf table agents r.desk → HasMerged work.desk.view other.desk.view r.desk.view
      → r.nodes ≡ either_nodes work.nodes other.nodes → Answers (nodes_of (r ∷ before)) a → Answers (nodes_of (work ∷ others)) a
  at_joined work other r before others a e fits more desk merged nodes is =
      let own = nodes_of before in
      at_last work other before others a e
      (answered_before value table agents ((work.nodes ∷ own) ++ (other.nodes ∷ [])) (r.nodes ∷ own) a
      (then_kept ((work.nodes ∷ own) ++ (other.nodes ∷ [])) (other.nodes ∷ work.nodes ∷ own) (r.nodes ∷ own)
      (swap_kept (work.nodes ∷ own) (other.nodes ∷ []))
      (both_kept (other.nodes ∷ work.nodes ∷ []) (r.nodes ∷ []) own own
      (turned_kept work other r fits more desk merged nodes) (same_kept own)))
      is)
