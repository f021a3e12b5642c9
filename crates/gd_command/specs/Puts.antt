-- What several pieces leave in a sink, one after another.
use Rattle.std.specs.Prelude.{ℕ, List, Option, Result, MatchResult}
use Rattle.gd_outside.specs.Sink.{Appends, AppendsPrefix}

-- the text was appended, or after an error a prefix of it
abbrev pub Puts : {T E : Type 0} → Option (List ℕ) → List ℕ → Option (List ℕ) → Result T E → Type 0
Puts old text new result = MatchResult result (λ _. Appends old text new) (λ _. AppendsPrefix old text new)

-- some bytes were appended
abbrev pub Grows : Option (List ℕ) → Option (List ℕ) → Type 0
Grows old new = (lines : List ℕ) × Appends old lines new
