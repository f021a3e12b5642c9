-- The types met so far, as a loop comes to them.
use Rattle.std.proofs.Common.{◌≡◌, ◌<◌, ◌+◌, ◌++◌, ◌∷◌, [], ◌||◌, ℕ, Bool, true, false, List, length, take, get_or, refl, sym, ap, ◌∙◌, nat_eq}
use Rattle.std.specs.HashSet.{contains}
use Rattle.std.specs.List.{list_any}
use Rattle.std.specs.Option.{option_map_or}
use Rattle.std.proofs.lemmas.List.{take_more}
use Rattle.std.proofs.lemmas.List.Folds.{list_any-append}
use Rattle.gd_model.specs.declared.ty.Ty.{Ty}
use Rattle.gd_bytecode.specs.TypeFields.{Numbers, AreNumbersOf, has, has_number, is_met, entry_fault, plain_number}

-- by the numbers of what was met a type is judged as by what was met
pub same_fault : (met : Numbers) (types : List Ty) (i classes : ℕ) (t : Ty) → AreNumbersOf met (take i types)
    → entry_fault classes (has met) i t ≡ entry_fault classes (is_met (take i types)) i t
same_fault met types i classes t are =
    ap (λ (test : Ty → Bool). entry_fault classes test i t) (λ j u. option_map_or (λ n. are n j) (plain_number u) false)

flip : (a b : Bool) → (a || b) ≡ (b || (a || false))
flip true true = refl
flip true false = refl
flip false true = refl
flip false false = refl

-- one more type
pub met_more : (old new : Numbers) (types : List Ty) (i : ℕ) (t : Ty) → i < length types → t ≡ get_or types i t → AreNumbersOf old (take i types)
    → ((n : ℕ) → contains nat_eq new n ≡ (has_number n t || contains nat_eq old n)) → AreNumbersOf new (take (i + 1) types)
met_more old new types i t lt is are adds n =
    adds n ∙ ap (λ b. has_number n t || b) (are n) ∙ flip (has_number n t) (list_any (has_number n) (take i types))
    ∙ sym (list_any-append (has_number n) (take i types) (t ∷ []))
    ∙ ap (λ xs. list_any (has_number n) xs) (sym (take_more types i t lt ∙ ap (λ x. take i types ++ x ∷ []) (sym is)))
