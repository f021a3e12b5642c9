-- Which place a number names among n elements, where a negative number counts from the end.
use Rattle.std.specs.Prelude.{ℕ, suc, ◌-◌, min, ℤ, pos, negsuc, nat_lt, nat_le, List, length, slice_get, Option, None, Some, option_and_then, if◌then◌else◌}

-- the place of an element
abbrev pub place : ℤ → ℕ → Option ℕ
place (pos i) n = if nat_lt i n then Some i else None
place (negsuc k) n = if nat_lt k n then Some (n - suc k) else None

-- a place before an element, or the end
abbrev pub gap : ℤ → ℕ → Option ℕ
gap (pos i) n = if nat_le i n then Some i else None
gap (negsuc k) n = if nat_lt k n then Some (n - suc k) else None

-- the place, or the nearest where there is none
abbrev pub clamped : ℤ → ℕ → ℕ
clamped (pos i) n = min i n
clamped (negsuc k) n = n - suc k

-- the element at a place
abbrev pub element_at : {X : Type 0} → List X → ℤ → Option X
element_at items at = option_and_then (λ i. slice_get items i) (place at (length items))
