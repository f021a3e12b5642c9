-- Rows by their numbers.
use Rattle.std.proofs.Common.{◌≡◌, ◌≤◌, ℕ, List, length, map, None, Some, slice_get, option_map, ap, sym, ◌∙◌}
use Rattle.std.proofs.lemmas.Option.{slice_get-map, slice_get_past}
use Rattle.value_semantics.specs.declared.builtin_rows.BuiltinRow.{BuiltinRow}
use Rattle.value_semantics.specs.BuiltinRows.{seen}

-- what is found at a place of the rows is seen there
pub seen_at : (ws : List BuiltinRow) (n : ℕ) (w : BuiltinRow) → slice_get ws n ≡ Some w → Some (seen w) ≡ slice_get (map seen ws) n
seen_at ws n w found = sym (slice_get-map seen ws n ∙ ap (λ o. option_map seen o) found)

pub none_at : (ws : List BuiltinRow) (n : ℕ) → length ws ≤ n → None ≡ slice_get (map seen ws) n
none_at ws n past = sym (slice_get-map seen ws n ∙ ap (λ o. option_map seen o) (slice_get_past ws n past))
