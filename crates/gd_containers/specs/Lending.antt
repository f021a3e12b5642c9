-- What becomes of an `OnHeap` whose content is lent to be written.
use Rattle.std.specs.Borrow.{Lends, Fml, RattleType, MutBor}
use Rattle.gd_containers.specs.contracts.on_heap.OnHeap.{the_row}

-- once the borrow r ends, it is the last value written through r
abbrev pub lends_content : (T : RattleType) → MutBor T.Denot → MutBor T.Denot → Fml
lends_content T s r = Lends (the_row T) T s r (λ value. value)
