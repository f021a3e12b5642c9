-- Keys and values in turn, as a loop comes to them.
use Rattle.std.proofs.Common.{◌≡◌, ◌<◌, ◌+◌, ◌%◌, ℕ, suc, cond, List, [], ◌∷◌, ◌++◌, length, drop, get_or, Option, Some, None, sym, ap, ◌∙◌, add-one}
use Rattle.std.proofs.Math.Seq.{drop-cons}
use Rattle.std.specs.Option.{option_or, IfNone}
use Rattle.std.proofs.lemmas.Bool.{eq-eqb}
use Rattle.gd_model.specs.declared.ty.Ty.{Ty}
use Rattle.gd_bytecode.specs.declared.field.Field.{Field}
use Rattle.gd_bytecode.specs.declared.program.Operand.{Operand}
use Rattle.gd_bytecode.specs.declared.program.Program.{Program}
use Rattle.gd_bytecode.specs.declared.numbers.Numbers.{Numbers}
use Rattle.gd_bytecode.specs.Numbering.{HasKeys, Operands, Set}
use Rattle.gd_bytecode.specs.ConstFields.{key_fault, keys_with, pair_fault, pairs_fault, value_fault}

at_operand : (p : Program) (i : ℕ) (k v : Ty) (earlier os : List Operand) (j : ℕ) (d : Operand) → j < length os
    → pairs_fault p i k v earlier j (drop j os)
    ≡ option_or (pair_fault p i k v earlier j (get_or os j d)) (pairs_fault p i k v (keys_with earlier j (get_or os j d)) (suc j) (drop (suc j) os))
at_operand p i k v earlier os j d lt = ap (pairs_fault p i k v earlier j) (drop-cons os j d lt)

pub pairs_more : (p : Program) (i : ℕ) (k v : Ty) (earlier os : List Operand) (j : ℕ) (d : Operand) (whole : Option Field) → j < length os
    → pair_fault p i k v earlier j (get_or os j d) ≡ None → whole ≡ pairs_fault p i k v earlier j (drop j os)
    → whole ≡ pairs_fault p i k v (keys_with earlier j (get_or os j d)) (j + 1) (drop (j + 1) os)
pairs_more p i k v earlier os j d whole lt none inv =
    rw add-one (inv ∙ at_operand p i k v earlier os j d lt
    ∙ ap (λ o. option_or o (pairs_fault p i k v (keys_with earlier j (get_or os j d)) (suc j) (drop (suc j) os))) none)

pub pairs_found : (p : Program) (i : ℕ) (k v : Ty) (earlier os : List Operand) (j : ℕ) (d : Operand) (whole : Option Field) (f : Field) → j < length os
    → Some f ≡ pair_fault p i k v earlier j (get_or os j d) → whole ≡ pairs_fault p i k v earlier j (drop j os) → Some f ≡ whole
pairs_found p i k v earlier os j d whole f lt some inv =
    sym (inv ∙ at_operand p i k v earlier os j d lt
    ∙ ap (λ o. option_or o (pairs_fault p i k v (keys_with earlier j (get_or os j d)) (suc j) (drop (suc j) os))) (sym some))

from_none : {X P : Type 0} (o : Option X) → o ≡ None → IfNone o P → P
from_none None e p = p
from_none (Some x) e p = absurd (cc)

-- the keys so far, and what is left to look at
abbrev pub Left : Program → Numbers → ℕ → Ty → Ty → List Operand → Option Field → Set (ℕ × ℕ) → ℕ → Type 0
Left p s i k v os whole met j = (earlier : Operands) × HasKeys s met earlier × (whole ≡ pairs_fault p i k v earlier j (drop j os))

pub pairs_step : (p : Program) (s : Numbers) (i : ℕ) (k v : Ty) (os : List Operand) (whole : Option Field) (old new : Set (ℕ × ℕ)) (j : ℕ) (d : Operand) (fault : Option Field)
    → j < length os → ((earlier : Operands) → HasKeys s old earlier → fault ≡ pair_fault p i k v earlier j (get_or os j d))
    → ((earlier : Operands) → HasKeys s old earlier → IfNone fault (HasKeys s new (keys_with earlier j (get_or os j d))))
    → fault ≡ None → Left p s i k v os whole old j → Left p s i k v os whole new (j + 1)
pairs_step p s i k v os whole old new j d fault lt is keeps none (earlier, has, rest) = (
  keys_with earlier j (get_or os j d),
  from_none fault none (keeps earlier has),
  pairs_more p i k v earlier os j d whole lt (sym (is earlier has) ∙ none) rest,
)

pub pairs_first : (p : Program) (s : Numbers) (i : ℕ) (k v : Ty) (os : List Operand) (whole : Option Field) (old : Set (ℕ × ℕ)) (j : ℕ) (d : Operand) (fault : Option Field) (f : Field)
    → j < length os → ((earlier : Operands) → HasKeys s old earlier → fault ≡ pair_fault p i k v earlier j (get_or os j d))
    → fault ≡ Some f → Left p s i k v os whole old j → Some f ≡ whole
pairs_first p s i k v os whole old j d fault f lt is some (earlier, has, rest) =
    pairs_found p i k v earlier os j d whole f lt (sym some ∙ is earlier has) rest

-- at an even place stands a key
pub key_pair : (p : Program) (i : ℕ) (k v : Ty) (earlier : Operands) (j : ℕ) (o : Operand) → j % 2 ≡ 0 → key_fault p i j k earlier o ≡ pair_fault p i k v earlier j o
key_pair p i k v earlier j o e = ap (λ b. cond b (key_fault p i j k earlier o) (value_fault p i j v o)) (sym (eq-eqb (j % 2) 0 e))

pub keys_pair : (earlier : Operands) (j : ℕ) (o : Operand) → j % 2 ≡ 0 → earlier ++ o ∷ [] ≡ keys_with earlier j o
keys_pair earlier j o e = ap (λ b. cond b (earlier ++ o ∷ []) earlier) (sym (eq-eqb (j % 2) 0 e))
