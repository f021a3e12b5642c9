-- What the options of a run mean.
use Rattle.std.specs.Prelude.{◌≡◌, ◌≤◌, ℕ, Bool, true, false, List, [], ◌∷◌, MatchOption, Option, codes, decimal}
use Rattle.gd_command.specs.declared.run_options.RunOptions.{RunOptions}

abbrev pub options_of : ℕ → Bool → RunOptions
options_of turns frees = record { turns = turns; frees = frees }

-- how a script is run where no option says otherwise
abbrev pub usual : RunOptions
usual = options_of 10000000 false

-- The words are these options: each at most once, in any order. The turns are written in decimal digits without a sign or a
-- leading zero, and are at most 1,000,000,000.
pub data MeansOptions : List (List ℕ) → RunOptions → Type 0 where
  no_option : MeansOptions [] usual
  only_frees : MeansOptions (codes "--frees" ∷ []) (options_of 10000000 true)
  only_turns : (turns : ℕ) → turns ≤ 1000000000 → MeansOptions (codes "--turns" ∷ decimal turns ∷ []) (options_of turns false)
  frees_turns : (turns : ℕ) → turns ≤ 1000000000 → MeansOptions (codes "--frees" ∷ codes "--turns" ∷ decimal turns ∷ []) (options_of turns true)
  turns_frees : (turns : ℕ) → turns ≤ 1000000000 → MeansOptions (codes "--turns" ∷ decimal turns ∷ codes "--frees" ∷ []) (options_of turns true)

-- what was read of these words: the options that they are, or none where they are none
abbrev pub ReadsOptions : List (List ℕ) → Option RunOptions → Type 0
ReadsOptions words result = MatchOption result ((options : RunOptions) → MeansOptions words options → ⊥) (MeansOptions words)

-- what was read of two words: the turns that they give, or none where they give none
abbrev pub ReadsTurns : List ℕ → List ℕ → Option ℕ → Type 0
ReadsTurns name number result =
    MatchOption result ((turns : ℕ) → turns ≤ 1000000000 → name ≡ codes "--turns" → number ≡ decimal turns → ⊥)
    (λ turns. (name ≡ codes "--turns") × (number ≡ decimal turns) × (turns ≤ 1000000000))
