-- When a shelf or a sink may answer that it failed.
use Rattle.std.specs.Prelude.{ℕ, ◌+◌, ◌-◌, ◌^◌, ◌≤◌, min, Result}
use Rattle.std.specs.Prelude.{IsErrOf}

-- one more, up to the last value of a count, 2 ^ 64 - 1, at which it stays
abbrev pub next_count : ℕ → ℕ
next_count n = min (n + 1) (2 ^ 64 - 1)

-- a count of faults rose, or stands at its last value
abbrev pub Rose : ℕ → ℕ → Type 0
Rose before now = next_count before ≤ now

-- the count of faults did not fall, and this answer comes only where it rose
pub record HasCause {T E : Type 0} (before now : ℕ) (result : Result T E) (failed : E) : Type 0 where
  pub later : before ≤ now
  pub rose : IsErrOf result failed → Rose before now
