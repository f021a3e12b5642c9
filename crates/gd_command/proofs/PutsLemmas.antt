-- What several pieces leave in a sink, one after another.
use Rattle.std.proofs.Common.{◌≡◌, ◌<◌, ◌+◌, ℕ, zero, suc, List, [], ◌∷◌, ◌++◌, length, take, drop, get_or, Option, None, Some, Result, Ok, Err, refl, sym, ap, ◌∙◌, append_assoc, arith, IsErr, inl, inr}
use Rattle.std.specs.Option.{option_map}
use Rattle.std.specs.List.{flat_map}
use Rattle.std.proofs.Math.Seq.{take-append_seam, take-append-add, take-length}
use Rattle.std.proofs.lemmas.List.{append-nil, take-append-le, take_all}
use Rattle.std.proofs.lemmas.Bool.{cases_lt, false≢true}
use Rattle.gd_outside.specs.Sink.{Appends, AppendsPrefix}
use Rattle.gd_command.specs.Puts.{Grows, Puts}

pub Appends-then : (old mid new : Option (List ℕ)) (a b : List ℕ) → Appends old a mid → Appends mid b new → Appends old (a ++ b) new
Appends-then None None new a b first second = second
Appends-then None (Some held) new a b first second = cc
Appends-then (Some held) None new a b first second = cc
Appends-then (Some held) (Some more) new a b first second =
    let is : more ≡ held ++ a = cc in
    second ∙ ap (λ x. Some (x ++ b)) is ∙ ap Some (append_assoc held a b)

-- a front of a is a front of a ++ b
pub AppendsPrefix-more : (old mid : Option (List ℕ)) (a b : List ℕ) → AppendsPrefix old a mid → AppendsPrefix old (a ++ b) mid
AppendsPrefix-more old mid a b (k, is) = elim (cases_lt (length a) k) [
  | inl long ↦ (length a, is ∙ ap (λ front. option_map (λ held. held ++ front) old) (take_all k a (omega arith) ∙ sym (take-append_seam a b)))
  | inr short ↦ (k, is ∙ ap (λ front. option_map (λ held. held ++ front) old) (sym (take-append-le k a b short)))
]

pub AppendsPrefix-then : (old mid new : Option (List ℕ)) (a b : List ℕ) → Appends old a mid → AppendsPrefix mid b new → AppendsPrefix old (a ++ b) new
AppendsPrefix-then old mid new a b first (k, is) = (
  length a + k,
  Appends-then old mid new a (take k b) first is ∙ ap
      (λ front. option_map (λ held. held ++ front) old) (sym (take-append-add a b k)),
)

pub Puts-then : {T E : Type 0} (old mid new : Option (List ℕ)) (a b : List ℕ) (r : Result T E) → Appends old a mid → Puts mid b new r → Puts old (a ++ b) new r
Puts-then old mid new a b (Ok _) first second = Appends-then old mid new a b first second
Puts-then old mid new a b (Err _) first second = AppendsPrefix-then old mid new a b first second

-- a text that is whole is a prefix of itself
pub Appends-prefix : (old new : Option (List ℕ)) (a : List ℕ) → Appends old a new → AppendsPrefix old a new
Appends-prefix old new a is = (length a, is ∙ ap (λ front. option_map (λ held. held ++ front) old) (sym (take-length a)))

-- where it ends early, a prefix was appended
pub Puts-err : {T E : Type 0} (old new : Option (List ℕ)) (text : List ℕ) (r : Result T E) → IsErr r → AppendsPrefix old text new → Puts old text new r
Puts-err old new text (Ok _) is part = absurd (false≢true is)
Puts-err old new text (Err _) is part = part

-- a list's pieces round the one at i
pub flat_map_round : {X : Type 0} (f : X → List ℕ) (xs : List X) (i : ℕ) (d : X) → i < length xs
    → flat_map f xs ≡ (flat_map f (take i xs) ++ f (get_or xs i d)) ++ flat_map f (drop (suc i) xs)
flat_map_round f [] i d lt = absurd (omega arith)
flat_map_round f (x ∷ xs) zero d lt = refl
flat_map_round f (x ∷ xs) (suc i) d lt =
    ap (λ more. f x ++ more) (flat_map_round f xs i d (omega arith)) ∙ regroup (f x) (flat_map f (take i xs)) (f (get_or xs i d)) (flat_map f (drop (suc i) xs))
  where
    regroup : (a b c e : List ℕ) → a ++ ((b ++ c) ++ e) ≡ ((a ++ b) ++ c) ++ e
    regroup a b c e = simp append_assoc

pub Appends-none : (old : Option (List ℕ)) → Appends old [] old
Appends-none None = refl
Appends-none (Some held) = ap Some (sym (append-nil held))

-- nothing is a front of any text
pub AppendsPrefix-none : (old : Option (List ℕ)) (text : List ℕ) → AppendsPrefix old text old
AppendsPrefix-none old text = (0, Appends-none old)

pub Grows-none : (old : Option (List ℕ)) → Grows old old
Grows-none old = ([], Appends-none old)

pub Grows-then : (old mid new : Option (List ℕ)) → Grows old mid → Grows mid new → Grows old new
Grows-then old mid new (a, first) (b, second) = (a ++ b, Appends-then old mid new a b first second)

pub AppendsPrefix-grows : (old new : Option (List ℕ)) (text : List ℕ) → AppendsPrefix old text new → Grows old new
AppendsPrefix-grows old new text (k, is) = (take k text, is)

pub Puts-grows : {T E : Type 0} (old new : Option (List ℕ)) (text : List ℕ) (r : Result T E) → Puts old text new r → Grows old new
Puts-grows old new text (Ok _) whole = (text, whole)
Puts-grows old new text (Err _) part = AppendsPrefix-grows old new text part
