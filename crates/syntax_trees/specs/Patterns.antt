-- Patterns of `match`.
use Rattle.std.specs.Prelude.{ℕ, List, [], ◌∷◌, Option, None, Some}
use Rattle.gd_syntax.specs.declared.pos.Pos.{Pos}
use Rattle.syntax_trees.specs.Expressions.{Expr, Text}

mutual
  -- the place is the first token, and of a binding its name
  pub data Pattern : Type 0 where
    pattern : Pos → PatternKind → Pattern

  pub data PatternKind : Type 0 where
    value : Expr → PatternKind
    -- `_`
    any : PatternKind
    bind : Text → PatternKind
    items : Patterns → PatternKind
    -- the entries, and for each `..` its position among them and its place
    entries : Entries → List (ℕ × Pos) → PatternKind
    -- `..` in an array pattern
    rest : PatternKind

  pub data Patterns : Type 0 where
    no_patterns : Patterns
    pattern_and : Pattern → Patterns → Patterns

  -- keys alone, and keys with the patterns of their values
  pub data Entries : Type 0 where
    no_entries : Entries
    key_and : Expr → Entries → Entries
    entry_and : Expr → Pattern → Entries → Entries

-- ---- lists of them

abbrev pub patterns : List Pattern → Patterns
patterns [] = no_patterns
patterns (x ∷ xs) = pattern_and x (patterns xs)

abbrev pub entry : Expr × Option Pattern → Entries → Entries
entry (key, None) = key_and key
entry (key, Some x) = entry_and key x

abbrev pub entry_list : List (Expr × Option Pattern) → Entries
entry_list [] = no_entries
entry_list (x ∷ xs) = entry x (entry_list xs)
