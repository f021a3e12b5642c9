-- What an operation means: what it gives, or the fault that ends the run.
use Rattle.std.specs.Prelude.{Result, Ok, Err}
use Rattle.gd_model.specs.declared.fault.RunFault.{RunFault}

-- the one operation, and then the other on what it gave
abbrev pub and_then : {A B : Type 0} → Result A RunFault → (A → Result B RunFault) → Result B RunFault
and_then (Err f) more = Err f
and_then (Ok x) more = more x

-- what is given, in another form
abbrev pub in_form : {A B : Type 0} → (A → B) → Result A RunFault → Result B RunFault
in_form form (Err f) = Err f
in_form form (Ok x) = Ok (form x)
