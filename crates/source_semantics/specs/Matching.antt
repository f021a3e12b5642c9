-- Which branch of a `match` is taken. Patterns are tried in order, and each test reads the store as it is then; an
-- expression pattern is evaluated first, and then the subject is read.
use Rattle.std.specs.Prelude.{ℕ, suc, ◌+◌, Bool, true, false, List, [], ◌∷◌, Option, None, Some}
use Rattle.gd_model.specs.Datum.{Datum}
use Rattle.gd_syntax.specs.declared.pos.Pos.{Pos}
use Rattle.syntax_trees.specs.Expressions.{Expr, first_token}
use Rattle.syntax_trees.specs.Patterns.{Entries, Pattern, PatternKind, Patterns, entry_and, key_and, no_entries, no_patterns, pattern, pattern_and}
use Rattle.syntax_trees.specs.Patterns as p
use Rattle.value_semantics.specs.Equality.{same}
use Rattle.store_semantics.specs.Matching.{Part, element_in, entry_in, has_entry, is_array_of, is_dict_of}
use Rattle.source_semantics.specs.Expressions.{Context, condition, evaluate}
use Rattle.source_semantics.specs.State.{Run, Went, declare, if_so, read_at, settled, store, then_do, went}

abbrev pub is_rest : Pattern → Bool
is_rest (pattern pos p.rest) = true
is_rest _ = false

abbrev pub has_rest : Patterns → Bool
has_rest no_patterns = false
has_rest (pattern_and x xs) = more (is_rest x) (has_rest xs)
  where
    more : Bool → Bool → Bool
    more true rest = true
    more false rest = rest

-- how many items there are, `..` aside
abbrev pub item_count : Patterns → ℕ
item_count no_patterns = 0
item_count (pattern_and x xs) = counted (is_rest x) (item_count xs)
  where
    counted : Bool → ℕ → ℕ
    counted true n = n
    counted false n = suc n

abbrev pub entry_count : Entries → ℕ
entry_count no_entries = 0
entry_count (key_and x xs) = suc (entry_count xs)
entry_count (entry_and x q xs) = suc (entry_count xs)

abbrev pub has_more : List (ℕ × Pos) → Bool
has_more [] = false
has_more _ = true

-- where the one test is met, the other
abbrev pub and_then_match : Went Bool → (Run → Went Bool) → Went Bool
and_then_match tried more = then_do tried (λ yes r. if_so yes more (λ r. went false r) r)

-- a value of the same kind that is equal
abbrev pub match_expression : Context → List Datum → Part → Run → Expr → Went Bool
match_expression c hand part r x =
    then_do (evaluate c hand r x) (λ v r.
    then_do (read_at (first_token x) r (same (store r) (part (store r)) v)) (λ yes r. went yes (settled hand r)))

-- a key, and then what its value is tried for
abbrev pub match_key : List Datum → Part → Went Datum → (Datum → Run → Went Bool) → Went Bool
match_key hand part key more =
    then_do key (λ k r. if_so (has_entry (store r) k (part (store r))) (λ r. more k r) (λ r. went false r)
    (settled hand r))

-- whether a pattern matches a part of the subject; bindings stand in the block of the branch
unfoldable mutual
  pub match_pattern : Context → List Datum → Part → Run → Pattern → Went Bool
  match_pattern c hand part r (pattern pos kind) = match_kind c hand part r pos kind

  pub match_kind : Context → List Datum → Part → Run → Pos → PatternKind → Went Bool
  match_kind c hand part r pos (p.value x) = match_expression c hand part r x
  match_kind c hand part r pos p.any = went true r
  match_kind c hand part r pos (p.bind name) =
      went true (declare (record { name = name; at = pos; value = Some (part (store r)) }) r)
  match_kind c hand part r pos (p.items xs) =
      if_so (is_array_of (store r) (has_rest xs) (item_count xs) (part (store r)))
      (λ r. match_items c hand part 0 r xs) (λ r. went false r) r
  match_kind c hand part r pos (p.entries xs rests) =
      if_so (is_dict_of (store r) (has_more rests) (entry_count xs) (part (store r)))
      (λ r. match_entries c hand part r xs) (λ r. went false r) r
  match_kind c hand part r pos p.rest = went true r

  -- the items from this place of the array on; `..` stands for any number of them, and asks nothing
  pub match_items : Context → List Datum → Part → ℕ → Run → Patterns → Went Bool
  match_items c hand part i r no_patterns = went true r
  match_items c hand part i r (pattern_and x xs) =
      if_so (is_rest x) (λ r. match_items c hand part i r xs)
      (λ r. and_then_match (match_pattern c hand (λ s. element_in s i (part s)) r x)
      (λ r. match_items c hand part (i + 1) r xs)) r

  -- for each pair its key, and then the pattern of its value
  pub match_entries : Context → List Datum → Part → Run → Entries → Went Bool
  match_entries c hand part r no_entries = went true r
  match_entries c hand part r (key_and x xs) =
      match_key hand part (evaluate c hand r x) (λ key r. match_entries c hand part r xs)
  match_entries c hand part r (entry_and x q xs) =
      match_key hand part (evaluate c hand r x) (λ key r.
      and_then_match (match_pattern c hand (λ s. entry_in s key (part s)) r q) (λ r. match_entries c hand part r xs))

-- the first of a branch's patterns that matches
abbrev pub match_first : Context → List Datum → Datum → Run → List Pattern → Went Bool
match_first c hand subject r [] = went false r
match_first c hand subject r (x ∷ xs) =
    then_do (match_pattern c hand (λ s. subject) r x) (λ yes r.
    if_so yes (λ r. went true r) (λ r. match_first c hand subject r xs) r)

abbrev pub guarded : Context → List Datum → Run → Option Expr → Went Bool
guarded c hand r None = went true r
guarded c hand r (Some x) = condition c hand r x

-- whether a branch is taken; its guard is evaluated once, after the first pattern that matched
abbrev pub match_branch : Context → List Datum → Datum → Run → List Pattern → Option Expr → Went Bool
match_branch c hand subject r patterns guard =
    and_then_match (match_first c hand subject r patterns) (λ r. guarded c hand r guard)
