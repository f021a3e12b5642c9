-- What a sink holds after a call.
use Rattle.std.specs.Prelude.{◌≡◌, ℕ, List, ◌++◌, take, Option}
use Rattle.std.specs.Option.{option_map}

-- the piece is appended, where the bytes are told
abbrev pub Appends : Option (List ℕ) → List ℕ → Option (List ℕ) → Type 0
Appends old piece new = new ≡ option_map (λ held. held ++ piece) old

-- some of the piece is appended from its front on, where the bytes are told
abbrev pub AppendsPrefix : Option (List ℕ) → List ℕ → Option (List ℕ) → Type 0
AppendsPrefix old piece new = (k : ℕ) × (new ≡ option_map (λ held. held ++ take k piece) old)
