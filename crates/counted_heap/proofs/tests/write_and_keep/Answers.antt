use Rattle.std.proofs.Common.{◌≡◌, List, [], ◌∷◌, ◌++◌, map, refl, sym, ap, subst, arith}
use Rattle.slot_arena.specs.declared.handle.Handle.{Handle}
use Rattle.gd_holding.specs.Handles.{value_handle}
use Rattle.gd_holding.specs.Holding.{AreCounted, IsHeld, filled}
use Rattle.counted_heap.specs.declared.thing.Thing.{Thing}
use Rattle.counted_heap.specs.Thing.{thing_places}
use Rattle.counted_heap.proofs.Holders.{in_hand}
use Rattle.counted_heap.proofs.tests.write_and_keep.Goals as goal

pub keep-requires-clause-held : goal.keep-requires-clause-held
keep-requires-clause-held g c = λ h is.
    let same : c.in_ok-h.h ≡ h = cc in
    let nothing = ap (λ a. filled (map value_handle a.items ++ [])) c.new-3.ensures in
    let before = subst (λ (hs : List Handle). AreCounted thing_places c.new-heap.result.things (hs ++ [])) (sym nothing) c.new-heap.ensures.holders in
    let held = in_hand (λ (t : Thing). filled (thing_places t)) c.make.new.self.things (c.in_ok-h.h ∷ []) c.in_ok-h.h (c.in_ok-h.ensures.holders [] before) (0, omega arith, refl) in
    subst (λ (x : Handle). IsHeld c.make.new.self.things x) same held
