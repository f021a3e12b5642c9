-- Texts in texts.
use Rattle.std.specs.Prelude.{◌≡◌, ⊤, ℕ, zero, suc, ◌+◌, ◌-◌, ◌≤◌, ℤ, pos, negsuc, Bool, true, cond, not, ◌==◌, nat_eq, List, [], ◌∷◌, ◌++◌, length, map, filter, drop, Option, None, Some, option_map, Result, Ok, Err, if◌then◌else◌}
use Rattle.std.specs.List.{starts_with, join_by}
use Rattle.gd_syntax.specs.declared.text.TextFault.{TextFault}
use Rattle.gd_syntax.specs.declared.text.TextFault.TheVariants.{NotUtf8, TooLong, OutOfRange, NoMemory}

-- the first place at which `what` stands in the text
abbrev pub first_at : List ℕ → List ℕ → Option ℕ
first_at what [] = None
first_at what (c ∷ cs) = cond (starts_with nat_eq (c ∷ cs) what) (Some 0) (option_map suc (first_at what cs))

-- the first place from `from` on; an empty text stands nowhere
abbrev pub find : List ℕ → List ℕ → ℤ → Option ℕ
find a what (negsuc k) = None
find a what (pos i) = if length what == 0 then None else option_map (λ k. i + k) (first_at what (drop i a))

-- c before the first part
abbrev pub before_parts : ℕ → List (List ℕ) → List (List ℕ)
before_parts c [] = (c ∷ []) ∷ []
before_parts c (p ∷ ps) = (c ∷ p) ∷ ps

-- the parts between the places of `by`, from the left without overlap; `skip` code points are still to be passed over
abbrev pub parts_after : List ℕ → ℕ → List ℕ → List (List ℕ)
parts_after by skip [] = [] ∷ []
parts_after by (suc skip) (c ∷ cs) = parts_after by skip cs
parts_after by zero (c ∷ cs) =
    cond (starts_with nat_eq (c ∷ cs) by) ([] ∷ parts_after by (length by - 1) cs) (before_parts c (parts_after by zero cs))

abbrev pub parts : List ℕ → List ℕ → List (List ℕ)
parts by a = parts_after by 0 a

-- the text with `with` between these parts
abbrev pub joined : List ℕ → List (List ℕ) → List ℕ
joined with ps = join_by (λ p. p) with ps

abbrev pub replaced : List ℕ → List ℕ → List ℕ → List ℕ
replaced a what with = if length what == 0 then a else joined with (parts what a)

abbrev pub single_characters : List ℕ → List (List ℕ)
single_characters a = map (λ c. c ∷ []) a

abbrev pub is_kept : Bool → List ℕ → Bool
is_kept empty part = cond empty true (not (length part == 0))

abbrev pub split : List ℕ → List ℕ → Bool → List (List ℕ)
split a by empty = if length by == 0 then single_characters a else filter (is_kept empty) (parts by a)

-- a part goes to the end of the list, unless it is left out
abbrev pub AddsPart : List (List ℕ) → List ℕ → Bool → List (List ℕ) → Result (Unit {0}) TextFault → Type 0
AddsPart old part empty new (Ok u) = (new ≡ old ++ filter (is_kept empty) (part ∷ [])) × (length new ≤ 16777216)
AddsPart old part empty new (Err TooLong) = (is_kept empty part ≡ true) × (16777216 ≤ length old)
AddsPart old part empty new (Err NoMemory) = ⊤
AddsPart old part empty new (Err OutOfRange) = ⊥
AddsPart old part empty new (Err NotUtf8) = ⊥
