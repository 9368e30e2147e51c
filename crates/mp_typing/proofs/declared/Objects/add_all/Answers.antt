use Rattle.mp_typing.proofs.Basics.{◌++◌, List, Bor, map, subst, sym, take, append-nil, Typed, AreFound}
use Rattle.mp_typing.proofs.Listing.{one_more, count_before}
use Rattle.mp_typing.proofs.declared.Objects.add_all.Goals as goal

pub loop-i-init : goal.loop-i-init
loop-i-init c = λ before long found.
    subst (λ (ds : List Typed). AreFound ds c.args.self.now.places (map (λ (o : Bor Typed). o.now) c.args.self.now.listed.items)) (sym (append-nil before)) found

pub loop-i-preserved : goal.loop-i-preserved
loop-i-preserved c = λ before long found.
    let objects = c.args.objects.now in
    let i = c.loop-i.i in
    let t = c.index-objects-i.result in
    subst (λ (ds : List Typed). AreFound ds c.add.new.self.places (map (λ (o : Bor Typed). o.now) c.add.new.self.listed.items))
    (one_more before objects i t c.loop-i-test.true c.index-objects-i.is)
    (c.in_ok-add.ensures (before ++ take i objects) (count_before before objects c.args.first i long c.loop-i-test.true)
    (c.loop-i.invariant before long found))
