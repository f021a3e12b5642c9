-- What `SlabSlots` end as, where a `&mut` to one of their values is returned.
use Rattle.std.specs.Borrow.{Lends, Fml, RattleType, MutBor}
use Rattle.slot_arena.specs.declared.handle.Handle.{Handle}
use Rattle.slot_arena.specs.Slots.{Arena, written_at}
use Rattle.slot_arena.specs.contracts.slab_slots.SlabSlots.{the_row}

module _ (T : RattleType) (s : MutBor (Arena T.Denot)) (h : Handle) where
  -- once the borrow r ends, the thing that the handle names has the last value written through r
  abbrev pub lends_value : MutBor T.Denot → Fml
  lends_value r =
      Lends (the_row T) T s r (λ value. record s.now { things = written_at s.now.things h value })
