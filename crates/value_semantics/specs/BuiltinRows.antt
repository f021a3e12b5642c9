-- The rows of the builtins.
use Rattle.std.specs.Prelude.{ℕ, List, [], ◌∷◌, ◌++◌, map, codes, Option, None, Some, if◌then◌else◌}
use Rattle.std.specs.Str.{bytes_eq}
use Rattle.value_semantics.specs.declared.kind.Kind.{Kind}
use Rattle.value_semantics.specs.declared.kind.Kind.TheVariants as k
use Rattle.value_semantics.specs.declared.builtin.Builtin.{Builtin}
use Rattle.value_semantics.specs.declared.builtin.Builtin.TheVariants as b
use Rattle.value_semantics.specs.declared.builtin_rows.Param.{Param}
use Rattle.value_semantics.specs.declared.builtin_rows.Param.TheVariants as p
use Rattle.value_semantics.specs.declared.builtin_rows.Returned.{Returned}
use Rattle.value_semantics.specs.declared.builtin_rows.Returned.TheVariants as r
use Rattle.value_semantics.specs.declared.builtin_rows.BuiltinRow.{BuiltinRow as CodeRow}

-- a builtin: the kind of its receiver where it is a method, its name, the parameters that a call has to give, those that
-- may be left out, what any further arguments are where there may be some, and the type that it gives
pub record Row : Type 0 where
  pub builtin : Builtin
  pub receiver : Option Kind
  pub name : List ℕ
  pub required : List Param
  pub optional : List Param
  pub rest : Option Param
  pub result : Returned

-- a row as the code has it
abbrev pub seen : CodeRow → Row
seen w = record { builtin = w.builtin; receiver = w.receiver; name = w.name.now; required = w.required.now; optional = w.optional.now; rest = w.rest; result = w.result }

-- a builtin with a fixed list of parameters, and one with any number of further arguments
abbrev pub closed_row : Builtin → Option Kind → List ℕ → List Param → List Param → Returned → Row
closed_row self receiver name required optional result = record { builtin = self; receiver = receiver; name = name; required = required; optional = optional; rest = None; result = result }

abbrev pub open_row : Builtin → Option Kind → List ℕ → List Param → Param → Returned → Row
open_row self receiver name required rest result = record { builtin = self; receiver = receiver; name = name; required = required; optional = []; rest = Some rest; result = result }

-- the row of each builtin
abbrev pub row_of : Builtin → Row
row_of b.Print = open_row b.Print None (codes "print") [] p.Any r.Void
row_of b.Prints = open_row b.Prints None (codes "prints") [] p.Any r.Void
row_of b.Printt = open_row b.Printt None (codes "printt") [] p.Any r.Void
row_of b.Str = open_row b.Str None (codes "str") [] p.Any r.Str
row_of b.Len = closed_row b.Len None (codes "len") (p.Sized ∷ []) [] r.Int
row_of b.Range = closed_row b.Range None (codes "range") (p.Int ∷ []) (p.Int ∷ p.Int ∷ []) r.Array
row_of b.Typeof = closed_row b.Typeof None (codes "typeof") (p.Any ∷ []) [] r.Int
row_of b.Abs = closed_row b.Abs None (codes "abs") (p.Int ∷ []) [] r.Int
row_of b.Absi = closed_row b.Absi None (codes "absi") (p.Int ∷ []) [] r.Int
row_of b.Min = open_row b.Min None (codes "min") (p.Int ∷ p.Int ∷ []) p.Int r.Int
row_of b.Max = open_row b.Max None (codes "max") (p.Int ∷ p.Int ∷ []) p.Int r.Int
row_of b.Mini = closed_row b.Mini None (codes "mini") (p.Int ∷ p.Int ∷ []) [] r.Int
row_of b.Maxi = closed_row b.Maxi None (codes "maxi") (p.Int ∷ p.Int ∷ []) [] r.Int
row_of b.Clamp = closed_row b.Clamp None (codes "clamp") (p.Int ∷ p.Int ∷ p.Int ∷ []) [] r.Int
row_of b.Clampi = closed_row b.Clampi None (codes "clampi") (p.Int ∷ p.Int ∷ p.Int ∷ []) [] r.Int
row_of b.Sign = closed_row b.Sign None (codes "sign") (p.Int ∷ []) [] r.Int
row_of b.Signi = closed_row b.Signi None (codes "signi") (p.Int ∷ []) [] r.Int
row_of b.Posmod = closed_row b.Posmod None (codes "posmod") (p.Int ∷ p.Int ∷ []) [] r.Int
row_of b.Char = closed_row b.Char None (codes "char") (p.Int ∷ []) [] r.Str
row_of b.IsSame = closed_row b.IsSame None (codes "is_same") (p.Any ∷ p.Any ∷ []) [] r.Bool
row_of b.Int = closed_row b.Int None (codes "int") (p.ToInt ∷ []) [] r.Int
row_of b.Bool = closed_row b.Bool None (codes "bool") (p.ToBool ∷ []) [] r.Bool
row_of b.StringLength = closed_row b.StringLength (Some k.Str) (codes "length") [] [] r.Int
row_of b.StringIsEmpty = closed_row b.StringIsEmpty (Some k.Str) (codes "is_empty") [] [] r.Bool
row_of b.StringSubstr = closed_row b.StringSubstr (Some k.Str) (codes "substr") (p.Int ∷ []) (p.Int ∷ []) r.Str
row_of b.StringLeft = closed_row b.StringLeft (Some k.Str) (codes "left") (p.Int ∷ []) [] r.Str
row_of b.StringRight = closed_row b.StringRight (Some k.Str) (codes "right") (p.Int ∷ []) [] r.Str
row_of b.StringFind = closed_row b.StringFind (Some k.Str) (codes "find") (p.Str ∷ []) (p.Int ∷ []) r.Int
row_of b.StringContains = closed_row b.StringContains (Some k.Str) (codes "contains") (p.Str ∷ []) [] r.Bool
row_of b.StringBeginsWith = closed_row b.StringBeginsWith (Some k.Str) (codes "begins_with") (p.Str ∷ []) [] r.Bool
row_of b.StringEndsWith = closed_row b.StringEndsWith (Some k.Str) (codes "ends_with") (p.Str ∷ []) [] r.Bool
row_of b.StringSplit = closed_row b.StringSplit (Some k.Str) (codes "split") [] (p.Str ∷ p.Bool ∷ []) r.Strings
row_of b.StringReplace = closed_row b.StringReplace (Some k.Str) (codes "replace") (p.Str ∷ p.Str ∷ []) [] r.Str
row_of b.StringStripEdges = closed_row b.StringStripEdges (Some k.Str) (codes "strip_edges") [] [] r.Str
row_of b.StringIsValidInt = closed_row b.StringIsValidInt (Some k.Str) (codes "is_valid_int") [] [] r.Bool
row_of b.StringToInt = closed_row b.StringToInt (Some k.Str) (codes "to_int") [] [] r.Int
row_of b.StringRepeat = closed_row b.StringRepeat (Some k.Str) (codes "repeat") (p.Int ∷ []) [] r.Str
row_of b.StringUnicodeAt = closed_row b.StringUnicodeAt (Some k.Str) (codes "unicode_at") (p.Int ∷ []) [] r.Int
row_of b.StringJoin = closed_row b.StringJoin (Some k.Str) (codes "join") (p.Array ∷ []) [] r.Str
row_of b.ArraySize = closed_row b.ArraySize (Some k.Array) (codes "size") [] [] r.Int
row_of b.ArrayIsEmpty = closed_row b.ArrayIsEmpty (Some k.Array) (codes "is_empty") [] [] r.Bool
row_of b.ArrayAppend = closed_row b.ArrayAppend (Some k.Array) (codes "append") (p.Element ∷ []) [] r.Void
row_of b.ArrayPushBack = closed_row b.ArrayPushBack (Some k.Array) (codes "push_back") (p.Element ∷ []) [] r.Void
row_of b.ArrayPushFront = closed_row b.ArrayPushFront (Some k.Array) (codes "push_front") (p.Element ∷ []) [] r.Void
row_of b.ArrayPopBack = closed_row b.ArrayPopBack (Some k.Array) (codes "pop_back") [] [] r.Variant
row_of b.ArrayPopFront = closed_row b.ArrayPopFront (Some k.Array) (codes "pop_front") [] [] r.Variant
row_of b.ArrayFront = closed_row b.ArrayFront (Some k.Array) (codes "front") [] [] r.Variant
row_of b.ArrayBack = closed_row b.ArrayBack (Some k.Array) (codes "back") [] [] r.Variant
row_of b.ArrayInsert = closed_row b.ArrayInsert (Some k.Array) (codes "insert") (p.Int ∷ p.Element ∷ []) [] r.Void
row_of b.ArrayRemoveAt = closed_row b.ArrayRemoveAt (Some k.Array) (codes "remove_at") (p.Int ∷ []) [] r.Void
row_of b.ArrayErase = closed_row b.ArrayErase (Some k.Array) (codes "erase") (p.Any ∷ []) [] r.Void
row_of b.ArrayClear = closed_row b.ArrayClear (Some k.Array) (codes "clear") [] [] r.Void
row_of b.ArrayHas = closed_row b.ArrayHas (Some k.Array) (codes "has") (p.Any ∷ []) [] r.Bool
row_of b.ArrayFind = closed_row b.ArrayFind (Some k.Array) (codes "find") (p.Any ∷ []) (p.Int ∷ []) r.Int
row_of b.ArrayCount = closed_row b.ArrayCount (Some k.Array) (codes "count") (p.Any ∷ []) [] r.Int
row_of b.ArrayReverse = closed_row b.ArrayReverse (Some k.Array) (codes "reverse") [] [] r.Void
row_of b.ArraySort = closed_row b.ArraySort (Some k.Array) (codes "sort") [] [] r.Void
row_of b.ArraySlice = closed_row b.ArraySlice (Some k.Array) (codes "slice") (p.Int ∷ []) (p.Int ∷ []) r.Receiver
row_of b.ArrayDuplicate = closed_row b.ArrayDuplicate (Some k.Array) (codes "duplicate") [] [] r.Receiver
row_of b.ArrayAppendArray = closed_row b.ArrayAppendArray (Some k.Array) (codes "append_array") (p.Array ∷ []) [] r.Void
row_of b.ArrayResize = closed_row b.ArrayResize (Some k.Array) (codes "resize") (p.Int ∷ []) [] r.Void
row_of b.ArrayFill = closed_row b.ArrayFill (Some k.Array) (codes "fill") (p.Element ∷ []) [] r.Void
row_of b.ArrayIsReadOnly = closed_row b.ArrayIsReadOnly (Some k.Array) (codes "is_read_only") [] [] r.Bool
row_of b.DictionarySize = closed_row b.DictionarySize (Some k.Dict) (codes "size") [] [] r.Int
row_of b.DictionaryIsEmpty = closed_row b.DictionaryIsEmpty (Some k.Dict) (codes "is_empty") [] [] r.Bool
row_of b.DictionaryHas = closed_row b.DictionaryHas (Some k.Dict) (codes "has") (p.Key ∷ []) [] r.Bool
row_of b.DictionaryGet = closed_row b.DictionaryGet (Some k.Dict) (codes "get") (p.Key ∷ []) (p.Any ∷ []) r.Variant
row_of b.DictionaryGetOrAdd = closed_row b.DictionaryGetOrAdd (Some k.Dict) (codes "get_or_add") (p.Key ∷ []) (p.Value ∷ []) r.Variant
row_of b.DictionaryKeys = closed_row b.DictionaryKeys (Some k.Dict) (codes "keys") [] [] r.Array
row_of b.DictionaryValues = closed_row b.DictionaryValues (Some k.Dict) (codes "values") [] [] r.Array
row_of b.DictionaryErase = closed_row b.DictionaryErase (Some k.Dict) (codes "erase") (p.Key ∷ []) [] r.Bool
row_of b.DictionaryClear = closed_row b.DictionaryClear (Some k.Dict) (codes "clear") [] [] r.Void
row_of b.DictionaryMerge = closed_row b.DictionaryMerge (Some k.Dict) (codes "merge") (p.Dict ∷ []) (p.Bool ∷ []) r.Void
row_of b.DictionaryDuplicate = closed_row b.DictionaryDuplicate (Some k.Dict) (codes "duplicate") [] [] r.Receiver
row_of b.DictionaryFindKey = closed_row b.DictionaryFindKey (Some k.Dict) (codes "find_key") (p.Any ∷ []) [] r.Variant
row_of b.DictionaryIsReadOnly = closed_row b.DictionaryIsReadOnly (Some k.Dict) (codes "is_read_only") [] [] r.Bool
row_of b.CallableCall = open_row b.CallableCall (Some k.Callable) (codes "call") [] p.Any r.Variant
row_of b.CallableIsValid = closed_row b.CallableIsValid (Some k.Callable) (codes "is_valid") [] [] r.Bool
row_of b.SignalConnect = closed_row b.SignalConnect (Some k.Signal) (codes "connect") (p.Callable ∷ []) (p.Int ∷ []) r.Int
row_of b.SignalDisconnect = closed_row b.SignalDisconnect (Some k.Signal) (codes "disconnect") (p.Callable ∷ []) [] r.Void
row_of b.SignalIsConnected = closed_row b.SignalIsConnected (Some k.Signal) (codes "is_connected") (p.Callable ∷ []) [] r.Bool
row_of b.SignalEmit = open_row b.SignalEmit (Some k.Signal) (codes "emit") [] p.Any r.Void

-- the builtins with a receiver, and the functions, which have none, in the order of their numbers
abbrev pub builtins_of : Option Kind → List Builtin
builtins_of None = b.Print ∷ b.Prints ∷ b.Printt ∷ b.Str ∷ b.Len ∷ b.Range ∷ b.Typeof ∷ b.Abs ∷ b.Absi ∷ b.Min ∷ b.Max ∷ b.Mini ∷ b.Maxi ∷ b.Clamp ∷ b.Clampi ∷ b.Sign ∷ b.Signi ∷ b.Posmod ∷ b.Char ∷ b.IsSame ∷ b.Int ∷ b.Bool ∷ []
builtins_of (Some k.Str) = b.StringLength ∷ b.StringIsEmpty ∷ b.StringSubstr ∷ b.StringLeft ∷ b.StringRight ∷ b.StringFind ∷ b.StringContains ∷ b.StringBeginsWith ∷ b.StringEndsWith ∷ b.StringSplit ∷ b.StringReplace ∷ b.StringStripEdges ∷ b.StringIsValidInt ∷ b.StringToInt ∷ b.StringRepeat ∷ b.StringUnicodeAt ∷ b.StringJoin ∷ []
builtins_of (Some k.Array) = b.ArraySize ∷ b.ArrayIsEmpty ∷ b.ArrayAppend ∷ b.ArrayPushBack ∷ b.ArrayPushFront ∷ b.ArrayPopBack ∷ b.ArrayPopFront ∷ b.ArrayFront ∷ b.ArrayBack ∷ b.ArrayInsert ∷ b.ArrayRemoveAt ∷ b.ArrayErase ∷ b.ArrayClear ∷ b.ArrayHas ∷ b.ArrayFind ∷ b.ArrayCount ∷ b.ArrayReverse ∷ b.ArraySort ∷ b.ArraySlice ∷ b.ArrayDuplicate ∷ b.ArrayAppendArray ∷ b.ArrayResize ∷ b.ArrayFill ∷ b.ArrayIsReadOnly ∷ []
builtins_of (Some k.Dict) = b.DictionarySize ∷ b.DictionaryIsEmpty ∷ b.DictionaryHas ∷ b.DictionaryGet ∷ b.DictionaryGetOrAdd ∷ b.DictionaryKeys ∷ b.DictionaryValues ∷ b.DictionaryErase ∷ b.DictionaryClear ∷ b.DictionaryMerge ∷ b.DictionaryDuplicate ∷ b.DictionaryFindKey ∷ b.DictionaryIsReadOnly ∷ []
builtins_of (Some k.Callable) = b.CallableCall ∷ b.CallableIsValid ∷ []
builtins_of (Some k.Signal) = b.SignalConnect ∷ b.SignalDisconnect ∷ b.SignalIsConnected ∷ b.SignalEmit ∷ []
builtins_of receiver = []

-- all builtins in the order of their numbers
abbrev pub all : List Builtin
all = builtins_of None ++ (builtins_of (Some k.Str) ++ (builtins_of (Some k.Array) ++ (builtins_of (Some k.Dict) ++ (builtins_of (Some k.Callable) ++ builtins_of (Some k.Signal)))))

-- the first of these builtins with this name
abbrev pub first_named : List ℕ → List Row → Option Builtin
first_named name [] = None
first_named name (w ∷ ws) = if bytes_eq w.name name then Some w.builtin else first_named name ws

-- the builtin with this receiver and this name
abbrev pub named : Option Kind → List ℕ → Option Builtin
named receiver name = first_named name (map row_of (builtins_of receiver))
