use Rattle.std.proofs.Common.{◌≡◌, length}
use Rattle.std.specs.List.{IsDistinct}
use Rattle.std.specs.Str.{bytes_eq}
use Rattle.gd_bytecode.proofs.Numbered.{Places}
use Rattle.gd_bytecode.proofs.numbers.number_texts.Given as goal

abbrev pub invariant-loop-text : goal.invariant-loop-text
invariant-loop-text l = record {
  count : length l.numbers.items ≡ l.text-index;
  apart : IsDistinct bytes_eq l.met.keys;
  placed : Places l.met.keys l.texts l.numbers.items;
}
