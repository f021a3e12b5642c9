-- When two values are one.
use Rattle.std.specs.Prelude.{ℕ, Bool, true, false, ◌&&◌, nat_eq, Option, None, Some}
use Rattle.std.specs.Bool.{beq}
use Rattle.std.specs.Ordering.{int_eq}
use Rattle.std.specs.Str.{bytes_eq}
use Rattle.gd_model.specs.Datum.{Callee, Datum, null, bool, int, text, object, array, dictionary, callable, signal}

-- what two Callables are of: one object, or no object and one class
abbrev pub same_receiver : Option ℕ → Option ℕ → ℕ → ℕ → Bool
same_receiver (Some s) (Some t) c d = nat_eq s t
same_receiver None None c d = nat_eq c d
same_receiver _ _ c d = false

-- of one object or class, and under one name
abbrev pub same_target : Callee → Callee → Bool
same_target s t = same_receiver s.object t.object s.class t.class && bytes_eq s.name t.name

-- of one kind and equal, things being equal where they are one thing
abbrev pub is_same : Datum → Datum → Bool
is_same null null = true
is_same (bool x) (bool y) = beq x y
is_same (int x) (int y) = int_eq x y
is_same (text x) (text y) = bytes_eq x y
is_same (object s) (object t) = nat_eq s t
is_same (array s) (array t) = nat_eq s t
is_same (dictionary s) (dictionary t) = nat_eq s t
is_same (callable s) (callable t) = same_target s t
is_same (signal s n) (signal t m) = nat_eq s t && bytes_eq n m
is_same _ _ = false

-- whether a value is a key of dictionaries
abbrev pub is_key : Datum → Bool
is_key null = true
is_key (bool b) = true
is_key (int n) = true
is_key (text t) = true
is_key (object s) = true
is_key _ = false

-- two keys are one: the same kind and equal, objects where they are one object; what is no key is none
abbrev pub same_key : Datum → Datum → Bool
same_key null null = true
same_key (bool x) (bool y) = beq x y
same_key (int x) (int y) = int_eq x y
same_key (text x) (text y) = bytes_eq x y
same_key (object s) (object t) = nat_eq s t
same_key _ _ = false
