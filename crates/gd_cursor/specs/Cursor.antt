-- How the rules of the grammar go along the tokens.
use Rattle.std.specs.Prelude.{ℕ, ◌<◌, ◌≤◌, length, Result, OnOk}
use Rattle.gd_cursor.specs.declared.cursor.Cursor.{Cursor}

-- how many tokens are left
abbrev pub left : Cursor → ℕ
left c = length c.rest.now

-- no token is given back
abbrev pub Keeps : Cursor → Cursor → Type 0
Keeps before after = left after ≤ left before

-- no token is given back, and a rule that holds took one
pub record Takes {T E : Type 0} (before after : Cursor) (result : Result T E) : Type 0 where
  pub onward : left after ≤ left before
  pub took : OnOk result (left after < left before)
