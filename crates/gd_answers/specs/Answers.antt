-- Which answers of a call fit what an operation means.
use Rattle.std.specs.Prelude.{◌≡◌, ⊤, Result, Ok, Err}
use Rattle.gd_syntax.specs.declared.text.TextFault.{TextFault}
use Rattle.gd_syntax.specs.declared.text.TextFault.TheVariants as t
use Rattle.gd_model.specs.declared.fault.RunFault.{RunFault}
use Rattle.gd_model.specs.declared.fault.RunFault.TheVariants.{OutOfRange, TooLong}
use Rattle.gd_model.specs.Meant.{datum, array_thing, dict_thing}
use Rattle.gd_containers.specs.declared.fault.ThingFault.{ThingFault}
use Rattle.gd_containers.specs.declared.fault.ThingFault.TheVariants.{Run, NoMemory}
use Rattle.gd_answers.specs.declared.fresh.Fresh.{Fresh}
use Rattle.gd_answers.specs.declared.fresh.Fresh.TheVariants.{Value, Array, Dict}
use Rattle.value_semantics.specs.Made.{Made, value, array, dict}

-- what a value or a new thing means
abbrev pub made : Fresh → Made
made (Value v) = value (datum v)
made (Array a) = array (array_thing a)
made (Dict d) = dict (dict_thing d)

-- what an answer means
abbrev pub meant : Result Fresh ThingFault → Result Made ThingFault
meant (Ok x) = Ok (made x)
meant (Err f) = Err f

-- the answer of a call that takes no memory
abbrev pub exact : {A : Type 0} → Result A RunFault → Result A ThingFault
exact (Err f) = Err (Run f)
exact (Ok x) = Ok x

-- a call that takes memory answers what is meant, `form` being what its answer means, or that memory lacks
abbrev pub AnswersAs : {A B : Type 0} → (B → A) → Result A RunFault → Result B ThingFault → Type 0
AnswersAs form want (Ok x) = want ≡ Ok (form x)
AnswersAs form want (Err (Run f)) = want ≡ Err f
AnswersAs form want (Err NoMemory) = ⊤

-- the same for a call whose answer means itself
abbrev pub Answers : {A : Type 0} → Result A RunFault → Result A ThingFault → Type 0
Answers want r = AnswersAs (λ x. x) want r

-- the same for a call that gives a value or a new thing
abbrev pub Gives : Result Made RunFault → Result Fresh ThingFault → Type 0
Gives want r = AnswersAs made want r

-- the refusal that a fault of a text call is which reads no bytes
abbrev pub text_fault : TextFault → ThingFault
text_fault t.TooLong = Run TooLong
text_fault t.OutOfRange = Run OutOfRange
text_fault t.NotUtf8 = NoMemory
text_fault t.NoMemory = NoMemory
