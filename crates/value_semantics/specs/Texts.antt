-- What the operators give on two Strings.
use Rattle.std.specs.Prelude.{ℕ, pos, not, List, [], ◌∷◌, ◌++◌, is_some, is_none, Result, Ok, Err}
use Rattle.std.specs.Cmp.Lexicographic.{slice_cmp}
use Rattle.std.specs.Ordering.{nat_cmp, is_lt, is_gt}
use Rattle.std.specs.Str.{bytes_eq}
use Rattle.gd_syntax.specs.declared.operator.Operator.{Operator}
use Rattle.gd_syntax.specs.declared.operator.Operator.TheVariants.{Add, Equal, NotEqual, Less, LessEqual, Greater, GreaterEqual, In, NotIn, Remainder}
use Rattle.gd_model.specs.declared.fault.RunFault.{RunFault}
use Rattle.gd_model.specs.declared.fault.RunFault.TheVariants.{BadOperands}
use Rattle.gd_text.specs.Search.{find}
use Rattle.gd_text.specs.declared.formatting.Arg.TheVariants as arg
use Rattle.value_semantics.specs.Formatting.{format_gives}
use Rattle.value_semantics.specs.Made.{Made, bool_made, text_made}

-- an operator between two Strings
abbrev pub texts_give : Operator → List ℕ → List ℕ → Result Made RunFault
texts_give Add x y = text_made (x ++ y)
texts_give Remainder x y = format_gives x (arg.Str y ∷ [])
texts_give Equal x y = Ok (bool_made (bytes_eq x y))
texts_give NotEqual x y = Ok (bool_made (not (bytes_eq x y)))
texts_give Less x y = Ok (bool_made (is_lt (slice_cmp nat_cmp x y)))
texts_give LessEqual x y = Ok (bool_made (not (is_gt (slice_cmp nat_cmp x y))))
texts_give Greater x y = Ok (bool_made (is_gt (slice_cmp nat_cmp x y)))
texts_give GreaterEqual x y = Ok (bool_made (not (is_lt (slice_cmp nat_cmp x y))))
texts_give In x y = Ok (bool_made (is_some (find y x (pos 0))))
texts_give NotIn x y = Ok (bool_made (is_none (find y x (pos 0))))
texts_give _ x y = Err BadOperands
