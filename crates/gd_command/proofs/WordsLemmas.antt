-- What the words of a run and of a sample are, by their places.
use Rattle.std.proofs.Common.{◌≡◌, ◌<◌, ◌≤◌, ◌-◌, ℕ, List, [], ◌∷◌, codes, decimal, length, get_or, take, drop, String}
use Rattle.std.proofs.Common.{arith, sym, ap, subst, ◌∙◌}
use Rattle.std.specs.String.{string_bytes}
use Rattle.std.specs.declared.alloc.Global.{Global}
use Rattle.std.proofs.lemmas.Fmt.{decimal_injective}
use Rattle.std.proofs.lemmas.List.{length-drop, take_all}
use Rattle.gd_outside.specs.Path.{IsPath}
use Rattle.gd_command.specs.RunWords.{MeansOptions}
use Rattle.gd_command.specs.Words.{IsRunOf, IsSampleOf, words_of}
use Rattle.gd_command.specs.declared.run_options.RunOptions.{RunOptions}

two_items : {X : Type 0} (xs : List X) (a b : X) → 2 ≤ length xs → length xs < 3
    → a ≡ get_or xs 0 a → b ≡ get_or xs 1 b → xs ≡ a ∷ b ∷ []
two_items [] a b low high first second = absurd (omega arith)
two_items (x ∷ []) a b low high first second = absurd (omega arith)
two_items (x ∷ y ∷ []) a b low high first second = cc
two_items (x ∷ y ∷ z ∷ xs) a b low high first second = absurd (omega arith)

front_two : {X : Type 0} (xs : List X) (a b : X) → 2 ≤ length xs → a ≡ get_or xs 0 a → b ≡ get_or xs 1 b → xs ≡ a ∷ b ∷ drop 2 xs
front_two [] a b low first second = absurd (omega arith)
front_two (x ∷ []) a b low first second = absurd (omega arith)
front_two (x ∷ y ∷ xs) a b low first second = cc

-- the words that stand behind the first two
abbrev pub behind_two : List (String Global) → List (String Global)
behind_two words = take (length words - 2) (drop 2 words)

pub two_words : (words : List (String Global)) (a b : String Global) → 2 ≤ length words → length words < 3
    → a ≡ get_or words 0 a → b ≡ get_or words 1 b → words_of words ≡ string_bytes a ∷ string_bytes b ∷ []
two_words words a b low high first second = ap words_of (two_items words a b low high first second)

pub run_words : (words : List (String Global)) (a b : String Global) → 2 ≤ length words
    → a ≡ get_or words 0 a → b ≡ get_or words 1 b → words_of words ≡ string_bytes a ∷ string_bytes b ∷ words_of (behind_two words)
run_words words a b low first second =
    let whole : behind_two words ≡ drop 2 words = take_all (length words - 2) (drop 2 words) (omega (arith, length-drop 2 words)) in
    ap words_of (front_two words a b low first second ∙ ap (λ (behind : List (String Global)). a ∷ b ∷ behind) (sym whole))

pub sample_zero : (words : List (List ℕ)) (name number : List ℕ) (count : ℕ) → words ≡ name ∷ number ∷ []
    → number ≡ decimal 0 → IsSampleOf words count → ⊥
sample_zero words name number count two none sample =
    let form = sample.form in
    let written : decimal 0 ≡ decimal count = cc in
    let same = decimal_injective 0 count (omega arith) (omega (arith, sample.most)) written in
    omega (arith, sample.least)

pub sample_of : (words : List (List ℕ)) (name number : List ℕ) (count : ℕ) → words ≡ name ∷ number ∷ []
    → name ≡ codes "sample" → number ≡ decimal count → 1 ≤ count → count ≤ 1000 → IsSampleOf words count
sample_of words name number count two named written low high = record { form = cc; least = low; most = high }

-- `text` is what the second word holds, and `path` the path that was made of it
pub run_of : (words rest : List (List ℕ)) (name main text path : List ℕ) (options : RunOptions) → words ≡ name ∷ main ∷ rest
    → name ≡ codes "run" → text ≡ main → path ≡ text → IsPath text → MeansOptions rest options → IsRunOf words path options
run_of words rest name main text path options parts named is kept good means =
    record { behind = rest; form = cc; path = subst IsPath (sym kept) good; options = means }
