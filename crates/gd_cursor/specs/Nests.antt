-- A function value that reads what a rule holds inside itself.
use Rattle.std.specs.Prelude.{ℕ, ◌<◌, Result}
use denote.Ref.{MutBor}
use Rattle.gd_cursor.specs.declared.cursor.Cursor.{Cursor}
use Rattle.gd_cursor.specs.declared.stop.Stop.{Stop}
use Rattle.gd_cursor.specs.Cursor.{left, Takes}

-- it may be called where fewer than `limit` tokens are left, and goes along the tokens as a rule
pub record Nests {T : Type 0} (limit : ℕ) (pre : MutBor Cursor → Type 0)
    (post : MutBor Cursor → Result T Stop → MutBor Cursor → Type 0) : Type 0 where
  pub callable : (old : MutBor Cursor) → left old.now < limit → pre old
  pub takes : (old new : MutBor Cursor) (r : Result T Stop) → post old r new → Takes old.now new.now r

-- the same for a function that is told a level of operators
pub record NestsAt {T : Type 0} (limit : ℕ) (pre : MutBor Cursor → ℕ → Type 0)
    (post : MutBor Cursor → ℕ → Result T Stop → MutBor Cursor → Type 0) : Type 0 where
  pub callable : (old : MutBor Cursor) (level : ℕ) → left old.now < limit → pre old level
  pub takes : (old new : MutBor Cursor) (level : ℕ) (r : Result T Stop) → post old level r new → Takes old.now new.now r
