-- What calls on texts give, a text being the list of its code points.
use Rattle.std.specs.Prelude.{◌≡◌, ⊤, ℕ, suc, ◌+◌, ◌-◌, ◌<◌, ◌≤◌, ℤ, pos, negsuc, Bool, nat_le, List, ◌++◌, length, take, drop, Option, None, Some, Result, Ok, Err, IsSomeAnd, Vec}
use Rattle.std.specs.declared.alloc.Global.{Global}
use Rattle.std.specs.List.{repeat, prefix_len, suffix_len}
use Rattle.gd_syntax.specs.declared.text.TextFault.{TextFault}
use Rattle.gd_syntax.specs.declared.text.TextFault.TheVariants.{NotUtf8, TooLong, OutOfRange, NoMemory}

-- the answer of a call that is to give this text, or is asked for what is out of range: out of range exactly where there
-- is no text, too long exactly where it passes the limit, and otherwise the text unless memory lacks
abbrev pub Gives : Option (List ℕ) → Result (List ℕ) TextFault → Type 0
Gives want (Ok t) = (want ≡ Some t) × (length t ≤ 16777216)
Gives want (Err OutOfRange) = want ≡ None
Gives want (Err TooLong) = IsSomeAnd want (λ t. 16777216 < length t)
Gives want (Err NoMemory) = ⊤
Gives want (Err NotUtf8) = ⊥

-- the same for a list of texts, which is never out of range
abbrev pub GivesList : List (List ℕ) → Result (Vec (List ℕ) Global) TextFault → Type 0
GivesList want (Ok ts) = (ts.items ≡ want) × (length ts.items ≤ 16777216)
GivesList want (Err TooLong) = 16777216 < length want
GivesList want (Err NoMemory) = ⊤
GivesList want (Err OutOfRange) = ⊥
GivesList want (Err NotUtf8) = ⊥

-- the answer of a call that is to put characters at the end of a text: too long exactly where the limit is passed
abbrev pub Puts : List ℕ → List ℕ → List ℕ → Result (Unit {0}) TextFault → Type 0
Puts more old new (Ok u) = (new ≡ old ++ more) × (length new ≤ 16777216)
Puts more old new (Err TooLong) = 16777216 < length old + length more
Puts more old new (Err NoMemory) = ⊤
Puts more old new (Err OutOfRange) = ⊥
Puts more old new (Err NotUtf8) = ⊥

-- the part of `len` code points from place `from` on, or the rest for a negative `len`
abbrev pub substr : List ℕ → ℤ → ℤ → Option (List ℕ)
substr a (negsuc k) len = None
substr a (pos i) (negsuc k) = Some (drop i a)
substr a (pos i) (pos n) = Some (take n (drop i a))

-- the first n code points; a negative n leaves out that many at the end
abbrev pub left : List ℕ → ℤ → List ℕ
left a (pos n) = take n a
left a (negsuc k) = take (length a - suc k) a

-- the last n code points; a negative n leaves out that many at the start
abbrev pub right : List ℕ → ℤ → List ℕ
right a (pos n) = drop (length a - n) a
right a (negsuc k) = drop (suc k) a

-- the text n times
abbrev pub repeated : List ℕ → ℤ → Option (List ℕ)
repeated a (pos n) = Some (repeat n a)
repeated a (negsuc k) = None

abbrev pub is_blank : ℕ → Bool
is_blank c = nat_le c 32

-- without the code points up to 32 at the start, at the end, and at both
abbrev pub without_start : List ℕ → List ℕ
without_start a = drop (prefix_len is_blank a) a

abbrev pub without_end : List ℕ → List ℕ
without_end a = take (length a - suffix_len is_blank a) a

abbrev pub stripped : List ℕ → List ℕ
stripped a = without_end (without_start a)
