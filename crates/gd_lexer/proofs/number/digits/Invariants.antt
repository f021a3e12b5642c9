use Rattle.std.proofs.Common.{◌≡◌, ◌<◌, ◌^◌, length}
use Rattle.std.specs.Prelude.{IfSome}
use Rattle.gd_lexer.specs.Follows.{Follows}
use Rattle.gd_lexer.specs.Number.{radix, value_behind, after_digits}
use Rattle.gd_lexer.proofs.number.digits.Given as goal

abbrev pub invariant-loop-part : goal.invariant-loop-part
invariant-loop-part l = record {
  follows : Follows l.initial.cursor l.cursor;
  small : IfSome l.value (λ v. v < 2 ^ 63);
  value : value_behind l.value (radix l.base) l.cursor.glyphs ≡ value_behind l.initial.value (radix l.base) l.initial.cursor.glyphs;
  rest : after_digits (radix l.base) l.cursor.glyphs ≡ after_digits (radix l.base) l.initial.cursor.glyphs;
}

abbrev pub decreases-loop-part : goal.decreases-loop-part
decreases-loop-part l = length l.cursor.glyphs
