-- What becomes of a `Seq` whose items are lent to be changed.
use Rattle.std.specs.Prelude.{List, length}
use Rattle.std.specs.List.{refill}
use Rattle.std.specs.Borrow.{Lends, Fml, RattleType, MutBor, Array}
use Rattle.gd_syntax.specs.contracts.seq.Seq.{the_row}

-- once the borrow r ends, the items of s are those that r shows last, and their number is the same
abbrev pub lends_items : (T : RattleType) → MutBor (List T.Denot) → MutBor (List T.Denot) → Fml
lends_items T s r = Lends (the_row T) (Array T 0) s r (refill (length s.now) s.now)
