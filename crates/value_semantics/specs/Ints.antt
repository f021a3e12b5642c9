-- What the operators give on ints.
use Rattle.std.specs.Prelude.{ℕ, suc, ◌%◌, ℤ, pos, negsuc, not, ◌==◌, nat_le, Result, Ok, Err, if◌then◌else◌, int_lt, int_le, int_rem}
use Rattle.std.specs.Ordering.{int_eq}
use Rattle.std.specs.Int.{w64, int_wrapping_add, int_wrapping_sub, int_wrapping_mul, int_wrapping_div, int_wrapping_neg, int_wrapping_pow, int_shl, int_shr, int_bit_and, int_bit_or, int_bit_xor}
use Rattle.gd_syntax.specs.declared.operator.Operator.{Operator}
use Rattle.gd_syntax.specs.declared.operator.Operator.TheVariants.{Power, Multiply, Divide, Remainder, Add, Subtract, ShiftLeft, ShiftRight, BitAnd, BitXor, BitOr, Equal, NotEqual, Less, LessEqual, Greater, GreaterEqual, Negate, Plus, Complement}
use Rattle.gd_model.specs.declared.fault.RunFault.{RunFault}
use Rattle.gd_model.specs.declared.fault.RunFault.TheVariants.{ZeroDivisorOrStep, BadOperands, BadShift}
use Rattle.gd_model.specs.Datum.{Datum, bool, int}

-- toward zero; the least int by -1 is itself
abbrev pub quotient : ℤ → ℤ → Result Datum RunFault
quotient x y = if int_eq y (pos 0) then Err ZeroDivisorOrStep else Ok (int (int_wrapping_div w64 x y))

-- with the sign of the dividend
abbrev pub rest : ℤ → ℤ → Result Datum RunFault
rest x y = if int_eq y (pos 0) then Err ZeroDivisorOrStep else Ok (int (int_rem x y))

abbrev pub shifted_left : ℤ → ℤ → Result Datum RunFault
shifted_left x (negsuc k) = Err BadShift
shifted_left x (pos k) = Ok (int (if nat_le 64 k then pos 0 else int_shl w64 x k))

-- keeps the sign
abbrev pub shifted_right : ℤ → ℤ → Result Datum RunFault
shifted_right x (negsuc k) = Err BadShift
shifted_right x (pos k) = Ok (int (if nat_le 64 k then (if int_lt x (pos 0) then negsuc 0 else pos 0) else int_shr x k))

-- the product of the factors modulo 2^64; of a negative power only 1, -1 and none are whole
abbrev pub power : ℤ → ℤ → Result Datum RunFault
power x (pos k) = Ok (int (int_wrapping_pow w64 x k))
power x (negsuc k) =
    if int_eq x (pos 0) then Err ZeroDivisorOrStep
    else (if int_eq x (pos 1) then Ok (int (pos 1))
    else (if int_eq x (negsuc 0) then Ok (int (if suc k % 2 == 0 then pos 1 else negsuc 0)) else Ok (int (pos 0))))

-- an operator between two ints
abbrev pub ints_give : Operator → ℤ → ℤ → Result Datum RunFault
ints_give Power x y = power x y
ints_give Multiply x y = Ok (int (int_wrapping_mul w64 x y))
ints_give Divide x y = quotient x y
ints_give Remainder x y = rest x y
ints_give Add x y = Ok (int (int_wrapping_add w64 x y))
ints_give Subtract x y = Ok (int (int_wrapping_sub w64 x y))
ints_give ShiftLeft x y = shifted_left x y
ints_give ShiftRight x y = shifted_right x y
ints_give BitAnd x y = Ok (int (int_bit_and w64 x y))
ints_give BitXor x y = Ok (int (int_bit_xor w64 x y))
ints_give BitOr x y = Ok (int (int_bit_or w64 x y))
ints_give Equal x y = Ok (bool (int_eq x y))
ints_give NotEqual x y = Ok (bool (not (int_eq x y)))
ints_give Less x y = Ok (bool (int_lt x y))
ints_give LessEqual x y = Ok (bool (int_le x y))
ints_give Greater x y = Ok (bool (int_lt y x))
ints_give GreaterEqual x y = Ok (bool (int_le y x))
ints_give _ x y = Err BadOperands

-- an operator before one int
abbrev pub int_gives : Operator → ℤ → Result Datum RunFault
int_gives Negate x = Ok (int (int_wrapping_neg w64 x))
int_gives Plus x = Ok (int x)
int_gives Complement x = Ok (int (int_bit_xor w64 x (negsuc 0)))
int_gives _ x = Err BadOperands
