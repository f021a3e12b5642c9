-- Values as the language means them: a kind with what the value is, things by their serial numbers.
use Rattle.std.specs.Prelude.{ℕ, ℤ, Bool, List, Option}

-- what a Callable calls: a function of the object with this serial number, or a static function of a class
pub record Callee : Type 0 where
  pub object : Option ℕ
  pub class : ℕ
  pub name : List ℕ

-- a signal is one of the object with this serial number, by its name
pub data Datum : Type 0 where
  null : Datum
  bool : Bool → Datum
  int : ℤ → Datum
  text : List ℕ → Datum
  object : ℕ → Datum
  array : ℕ → Datum
  dictionary : ℕ → Datum
  callable : Callee → Datum
  signal : ℕ → List ℕ → Datum
