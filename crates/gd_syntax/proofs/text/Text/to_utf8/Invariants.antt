use Rattle.std.proofs.Common.{◌≡◌, encode_utf8_all, take, string_bytes}
use Rattle.gd_syntax.proofs.text.Text.to_utf8.Given as goal

abbrev pub invariant-loop-c : goal.invariant-loop-c
invariant-loop-c l = string_bytes l.text ≡ encode_utf8_all (take l.c-index l.c-items)
