use Rattle.std.proofs.Common.{◌≡◌}
use Rattle.gd_model.specs.Meant.{array_thing}
use Rattle.value_semantics.specs.Methods.{array_of_texts}
use Rattle.gd_builtins.proofs.text_methods.strings.Given as goal

-- the array has the texts so far
abbrev pub invariant-loop-text : goal.invariant-loop-text
invariant-loop-text l = array_thing l.all ≡ array_of_texts l.yielded
