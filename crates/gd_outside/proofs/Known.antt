-- Bytes that a writer tells, as pieces reach it.
use Rattle.std.proofs.Common.{◌+◌, ℕ, List, ◌++◌, length, take, drop, sym, subst, ◌∙◌, ap, append_assoc, Option, Some, None, Result, Ok, Err, OnErr}
use Rattle.std.specs.Io.KnownBytes.{Appends, Keeps}
use Rattle.std.proofs.Math.Seq.{take-add, take-length}

pub appends-keeps : (a b c : Option (List ℕ)) (xs : List ℕ) → Appends a b xs → Keeps b c → Appends a c xs
appends-keeps None b c xs first then = tt
appends-keeps (Some held) None c xs first then = absurd first
appends-keeps (Some held) (Some more) None xs first then = absurd then
appends-keeps (Some held) (Some more) (Some rest) xs first then = then ∙ first

-- a further piece of the same bytes
pub appends-more : (a b c : Option (List ℕ)) (bytes : List ℕ) (n k : ℕ) → Appends a b (take n bytes) → Appends b c (take k (drop n bytes)) → Appends a c (take (n + k) bytes)
appends-more None b c bytes n k first then = tt
appends-more (Some held) None c bytes n k first then = absurd first
appends-more (Some held) (Some more) None bytes n k first then = absurd then
appends-more (Some held) (Some more) (Some rest) bytes n k first then =
    then ∙ ap (λ xs. xs ++ take k (drop n bytes)) first ∙ append_assoc held (take n bytes) (take k (drop n bytes)) ∙ ap (λ xs. held ++ xs) (sym (take-add n k bytes))

-- a piece that was taken whole is a front of itself
pub kept-whole : {T E : Type 0} (a b c : Option (List ℕ)) (piece : List ℕ) (r : Result T E) → Appends a b piece → Keeps b c → OnErr r ((k : ℕ) × Appends a c (take k piece))
kept-whole a b c piece (Ok _) first then = tt
kept-whole a b c piece (Err _) first then =
    (length piece, subst (λ (xs : List ℕ). Appends a c xs) (sym (take-length piece)) (appends-keeps a b c piece first then))
