-- What the options of a run mean, from what was read of their words.
use Rattle.std.proofs.Common.{◌≡◌, ◌≤◌, ◌<◌, ℕ, true, false, List, [], ◌∷◌, codes, decimal, bytes_eq, length, String, sym, subst, arith}
use Rattle.std.specs.declared.alloc.Global.{Global}
use Rattle.std.proofs.lemmas.Slice.Eq.{bytes_eq-Decides}
use Rattle.gd_command.specs.RunWords.{MeansOptions, no_option, only_frees, only_turns, frees_turns, turns_frees, options_of, usual}
use Rattle.gd_command.specs.Words.{words_of}
use Rattle.gd_command.specs.declared.run_options.RunOptions.{RunOptions}

-- a word that compares equal is the text
pub is_text : (word text : List ℕ) → bytes_eq word text ≡ true → word ≡ text
is_text word text same = (bytes_eq-Decides word text).0 same

-- what two words that give turns say
abbrev pub GivesTurns : List ℕ → List ℕ → ℕ → Type 0
GivesTurns name number turns = (name ≡ codes "--turns") × (number ≡ decimal turns) × (turns ≤ 1000000000)

-- words that are a form mean what the form means
means_as : (words form : List (List ℕ)) (options : RunOptions) → words ≡ form → MeansOptions form options → MeansOptions words options
means_as words form options is means = subst (λ (w : List (List ℕ)). MeansOptions w options) (sym is) means

pub no_words : (words : List (String Global)) (options : RunOptions) → length words < 1 → options ≡ usual → MeansOptions (words_of words) options
no_words [] options none as_usual = subst (MeansOptions []) (sym as_usual) no_option
no_words (_ ∷ _) options none as_usual = absurd (omega arith)

pub frees_alone : (word : List ℕ) → word ≡ codes "--frees" → MeansOptions (word ∷ []) (options_of 10000000 true)
frees_alone word is = means_as (word ∷ []) (codes "--frees" ∷ []) _ (cc) only_frees

pub turns_alone : (name number : List ℕ) (turns : ℕ) → GivesTurns name number turns
    → MeansOptions (name ∷ number ∷ []) (options_of turns false)
turns_alone name number turns (named, written, most) =
    means_as (name ∷ number ∷ []) (codes "--turns" ∷ decimal turns ∷ []) _ (cc) (only_turns turns most)

pub frees_first : (first name number : List ℕ) (turns : ℕ) → first ≡ codes "--frees" → GivesTurns name number turns
    → MeansOptions (first ∷ name ∷ number ∷ []) (options_of turns true)
frees_first first name number turns frees (named, written, most) =
    means_as (first ∷ name ∷ number ∷ []) (codes "--frees" ∷ codes "--turns" ∷ decimal turns ∷ []) _ (cc) (frees_turns turns most)

pub frees_last : (name number last : List ℕ) (turns : ℕ) → last ≡ codes "--frees" → GivesTurns name number turns
    → MeansOptions (name ∷ number ∷ last ∷ []) (options_of turns true)
frees_last name number last turns frees (named, written, most) =
    means_as (name ∷ number ∷ last ∷ []) (codes "--turns" ∷ decimal turns ∷ codes "--frees" ∷ []) _ (cc) (turns_frees turns most)
