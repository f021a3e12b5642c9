-- The builtin constants.
use Rattle.std.specs.Prelude.{ℕ, ◌+◌, ◌-◌, nat_le, ℤ, pos, List, [], ◌∷◌, codes, slice_get, option_map, Option, None, Some, if◌then◌else◌}
use Rattle.std.specs.Str.{bytes_eq}
use Rattle.value_semantics.specs.declared.constants.ConstantRow.{ConstantRow}

-- a constant: its name, and the int that it is
pub record Constant : Type 0 where
  pub name : List ℕ
  pub value : ℤ

-- a row as the code has it
abbrev pub seen : ConstantRow → Constant
seen w = record { name = w.name.now; value = w.value }

abbrev pub constant : List ℕ → ℕ → Constant
constant name n = record { name = name; value = pos n }

-- all of them, in the order of their numbers
abbrev pub all : List Constant
all = constant (codes "TYPE_NIL") 0 ∷ constant (codes "TYPE_BOOL") 1 ∷ constant (codes "TYPE_INT") 2 ∷ constant (codes "TYPE_STRING") 4 ∷ constant (codes "TYPE_OBJECT") 24 ∷ constant (codes "TYPE_CALLABLE") 25 ∷ constant (codes "TYPE_SIGNAL") 26 ∷ constant (codes "TYPE_DICTIONARY") 27 ∷ constant (codes "TYPE_ARRAY") 28 ∷ constant (codes "CONNECT_ONE_SHOT") 4 ∷ []

-- the number of the first with this name, the first of them having the number n
abbrev pub numbered_from : ℕ → List ℕ → List Constant → Option ℕ
numbered_from n name [] = None
numbered_from n name (c ∷ cs) = if bytes_eq c.name name then Some n else numbered_from (n + 1) name cs

-- the number of the constant with this name: they are numbered from 1,000 on
abbrev pub number_of : List ℕ → Option ℕ
number_of name = numbered_from 1000 name all

-- the int that the constant with this number is
abbrev pub value_of : ℕ → Option ℤ
value_of number = if nat_le 1000 number then option_map (λ c. c.value) (slice_get all (number - 1000)) else None
