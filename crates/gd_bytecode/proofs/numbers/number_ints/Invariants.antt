use Rattle.std.proofs.Common.{◌≡◌, length}
use Rattle.std.specs.List.{IsDistinct}
use Rattle.std.specs.Ordering.{int_eq}
use Rattle.gd_bytecode.proofs.Numbered.{Places}
use Rattle.gd_bytecode.proofs.numbers.number_ints.Given as goal

abbrev pub invariant-loop-int : goal.invariant-loop-int
invariant-loop-int l = record {
  count : length l.numbers.items ≡ l.int-index;
  apart : IsDistinct int_eq l.met.keys;
  placed : Places l.met.keys l.ints l.numbers.items;
}
