use Rattle.std.proofs.Common.{◌≡◌, List, ◌∷◌, Contains, refl, sym, subst, arith}
use Rattle.slot_arena.specs.declared.handle.Handle.{Handle}
use Rattle.gd_holding.specs.Holding.{AreCounted, IsHeld, filled}
use Rattle.counted_heap.specs.declared.thing.Thing.{Thing}
use Rattle.counted_heap.specs.Thing.{thing_places}
use Rattle.counted_heap.proofs.Holders.{counted, in_hand}
use Rattle.counted_heap.proofs.tests.perform.Goals as goal

front : (hand rest : List Handle) (h : Handle) → hand ≡ h ∷ rest → Contains hand h
front hand rest h e = subst (λ (hs : List Handle). Contains hs h) (sym e) (0, omega arith, refl)

pub drop_value-requires : goal.drop_value-requires
drop_value-requires g c = record {
  held = λ h is.
      let same : c.newest-h.result ≡ h = cc in
      let held = in_hand (λ (t : Thing). filled (thing_places t)) c.args.heap.now.things c.args.hand.now.items c.newest-h.result c.requires (front _ _ _ c.newest-h.ensures) in
      subst (λ (x : Handle). IsHeld c.args.heap.now.things x) same held;
}

pub settle-requires : goal.settle-requires
settle-requires g c = counted (λ (t : Thing). filled (thing_places t)) c.args.heap.now.things c.args.hand.now.items c.requires

pub returns-in-Drop : goal.returns-in-Drop
returns-in-Drop g c =
    c.drop_value.ensures.holders c.newest-h.new.hand.items
    (subst (λ (hs : List Handle). AreCounted thing_places c.args.heap.now.things hs) c.newest-h.ensures c.requires)

pub returns-in-Settle : goal.returns-in-Settle
returns-in-Settle g c = c.settle.ensures.holders c.args.hand.now.items c.requires
