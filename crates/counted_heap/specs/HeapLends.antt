-- What a heap ends as, where a `&mut` to one of its things is returned.
use Rattle.std.specs.Prelude.{Option}
use Rattle.std.specs.Borrow.{Lends, LendsIf, Fml, RattleType, MutBor}
use Rattle.gd_holding.specs.declared.holds.Holds as holds
use Rattle.slot_arena.specs.declared.slots.Slots as slots
use Rattle.slot_arena.specs.declared.handle.Handle.{Handle}
use Rattle.slot_arena.specs.Slots.{written_at}
use Rattle.gd_holding.specs.Rounds.{HeapView}
use Rattle.counted_heap.specs.contracts.heap.Heap.{the_row}

module _ (T S : RattleType) (h_holds : holds.Ghosts T.Denot) (s_slots : slots.Ghosts S.Denot T.Denot) (s : MutBor (HeapView T.Denot)) (h : Handle) where
  -- once the borrow r ends, the thing has the last value written through r; at `None` nothing changed
  abbrev pub lends_thing : Option (MutBor T.Denot) → Fml
  lends_thing r =
      LendsIf (the_row T S h_holds s_slots) T s r (λ value. record s.now { things = written_at s.now.things h value }) s.now

  -- the same for a thing that is alive
  abbrev pub lends_live : MutBor T.Denot → Fml
  lends_live r =
      Lends (the_row T S h_holds s_slots) T s r (λ value. record s.now { things = written_at s.now.things h value })
