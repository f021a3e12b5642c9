use Rattle.std.proofs.Common.{◌≡◌, length, map, take}
use Rattle.gd_lexer.specs.Noted.{extent_of}
use Rattle.gd_lexer.specs.Spelled.{tokens_of, bytes_of}
use Rattle.gd_lexer.proofs.calls.joined.Given as goal

abbrev pub invariant-loop-token : goal.invariant-loop-token
invariant-loop-token l =
    (goal.iterator-loop-token).can_next l.token-iterator ×
    (goal.iterator-loop-token).is_finite l.token-iterator ×
    (tokens_of l.lexemes.items ≡ l.yielded) ×
    (map bytes_of l.lexemes.items ≡ map extent_of (take (length l.lexemes.items) l.spans))
