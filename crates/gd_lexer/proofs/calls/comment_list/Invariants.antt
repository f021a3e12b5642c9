use Rattle.std.proofs.Common.{◌≡◌, map, take}
use Rattle.gd_lexer.specs.Noted.{extent_of}
use Rattle.gd_lexer.specs.Spelled.{comments_of}
use Rattle.gd_lexer.proofs.calls.comment_list.Given as goal

abbrev pub invariant-loop-span : goal.invariant-loop-span
invariant-loop-span l = comments_of l.comments.items ≡ map extent_of (take l.span-index l.spans)
