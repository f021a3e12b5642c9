-- Answers that fit a meaning.
use Rattle.std.proofs.Common.{◌≡◌, Result, Ok, Err, sym, subst, ap}
use Rattle.gd_model.specs.declared.fault.RunFault.{RunFault}
use Rattle.gd_containers.specs.declared.fault.ThingFault.{ThingFault}
use Rattle.gd_containers.specs.declared.fault.ThingFault.TheVariants.{Run, NoMemory}
use Rattle.gd_answers.specs.declared.fresh.Fresh.{Fresh}
use Rattle.gd_answers.specs.Answers.{made, meant, exact, Answers, Gives}
use Rattle.value_semantics.specs.Answer.{and_then, in_form}
use Rattle.value_semantics.specs.Made.{Made}

-- what is meant where a call gave x, and where it refused
pub given : {A : Type 0} → (want : Result A RunFault) (x : A) → Ok x ≡ exact want → want ≡ Ok x
given (Err f) x e = cc
given (Ok y) x e = let same : y ≡ x = cc in ap (λ z. Ok z) same

pub refused_so : {A : Type 0} → (want : Result A RunFault) (f : RunFault) → Err (Run f) ≡ exact want → want ≡ Err f
refused_so (Err g) f e = let same : g ≡ f = cc in ap (λ z. Err z) same
refused_so (Ok y) f e = cc

-- a call that takes no memory does not lack it
pub no_lack : {A : Type 0} → (want : Result A RunFault) → Err NoMemory ≡ exact want → ⊥
no_lack (Err g) e = cc
no_lack (Ok y) e = cc

-- an exact answer is one of a call that may lack memory
pub answers_exact : {A : Type 0} → (want : Result A RunFault) (r : Result A ThingFault) → r ≡ exact want → Answers want r
answers_exact want (Ok x) e = given want x e
answers_exact want (Err (Run f)) e = refused_so want f e
answers_exact want (Err NoMemory) e = tt

pub gives_exact : (want : Result Made RunFault) (r : Result Fresh ThingFault) → meant r ≡ exact want → Gives want r
gives_exact want (Ok x) e = given want (made x) e
gives_exact want (Err (Run f)) e = refused_so want f e
gives_exact want (Err NoMemory) e = tt

-- a fault is the same in another form
pub fault_in_form : {A B : Type 0} → (form : A → B) (want : Result A RunFault) (f : ThingFault) → Err f ≡ exact want → Err f ≡ exact (in_form form want)
fault_in_form form (Err g) f e = cc
fault_in_form form (Ok x) f e = cc

-- a fault of the first operation is a fault of both
pub fault_and_then : {A B : Type 0} → (more : A → Result B RunFault) (want : Result A RunFault) (f : ThingFault) → Err f ≡ exact want → Err f ≡ exact (and_then want more)
fault_and_then more (Err g) f e = cc
fault_and_then more (Ok x) f e = cc

-- what is given, in another form
pub given_in_form : {A B : Type 0} → (form : A → B) (want : Result A RunFault) (x : A) → Ok x ≡ exact want → Ok (form x) ≡ exact (in_form form want)
given_in_form form want x e = ap (λ w. exact (in_form form w)) (sym (given want x e))

-- the second operation on what was given
pub given_and_then : {A B : Type 0} → (more : A → Result B RunFault) (want : Result A RunFault) (x : A) → Ok x ≡ exact want → exact (more x) ≡ exact (and_then want more)
given_and_then more want x e = ap (λ w. exact (and_then w more)) (sym (given want x e))

-- the same of calls that may lack memory, the first of which does not
pub fault_gives : {A : Type 0} → (more : A → Result Made RunFault) (want : Result A RunFault) (f : ThingFault) → Err f ≡ exact want → Gives (and_then want more) (Err f)
fault_gives more want (Run f) e = ap (λ w. and_then w more) (refused_so want f e)
fault_gives more want NoMemory e = tt

pub more_gives : {A : Type 0} → (more : A → Result Made RunFault) (want : Result A RunFault) (x : A) (r : Result Fresh ThingFault) → Ok x ≡ exact want → Gives (more x) r → Gives (and_then want more) r
more_gives more want x r e h = subst (λ (w : Result _ RunFault). Gives (and_then w more) r) (sym (given want x e)) h
