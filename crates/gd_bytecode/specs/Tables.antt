-- What the numbers of a program name.
use Rattle.std.specs.Prelude.{ℕ, Bool, false, List, [], slice_get, unwrap_or, Option, Some}
use Rattle.std.specs.Str.{bytes_eq}
use Rattle.gd_bytecode.specs.declared.program.Program.{Program}

-- a text; where there is none the empty one stands, so that what is said over it is a function
abbrev pub text_at : Program → ℕ → List ℕ
text_at p n = unwrap_or (slice_get p.texts n) []

-- two are there, and equal
abbrev pub both : {A : Type 0} → (A → A → Bool) → Option A → Option A → Bool
both eq (Some x) (Some y) = eq x y
both eq x y = false

-- two numbers name one text
abbrev pub is_one_text : Program → ℕ → ℕ → Bool
is_one_text p m n = both bytes_eq (slice_get p.texts m) (slice_get p.texts n)
