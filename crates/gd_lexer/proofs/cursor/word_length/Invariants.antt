use Rattle.std.proofs.Common.{◌≡◌, ◌+◌, ◌-◌, ◌≤◌, length, drop}
use Rattle.std.specs.List.{prefix_len}
use Rattle.gd_lexer.specs.Name.{is_word_byte}
use Rattle.gd_lexer.proofs.cursor.word_length.Given as goal

abbrev pub invariant-word : goal.invariant-word
invariant-word l = (l.count ≤ length l.bytes) × (l.count + prefix_len is_word_byte (drop l.count l.bytes) ≡ prefix_len is_word_byte l.bytes)

abbrev pub decreases-word : goal.decreases-word
decreases-word l = length l.bytes - l.count
