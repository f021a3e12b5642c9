use Rattle.std.proofs.Common.{◌≡◌, ◌%◌, ◌^◌, take}
use Rattle.gd_text.specs.Number.{digits_value}
use Rattle.gd_text.proofs.number.digits_value.Given as goal

abbrev pub invariant-loop-c : goal.invariant-loop-c
invariant-loop-c l = l.value ≡ digits_value (take l.c-index l.chars) % 2 ^ 64
