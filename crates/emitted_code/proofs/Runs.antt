-- A run that ends within so many steps is a run of the machine.
use Rattle.std.proofs.Common.{◌≡◌, ℕ, zero, suc, refl, sym, ◌∙◌, ap, subst}
use Rattle.std.specs.Prelude.{List, [], ◌∷◌, Option, None, Some}
use Rattle.gd_bytecode.specs.declared.program.Program.{Program}
use Rattle.gd_bytecode.specs.Running.{Answer, Runs, initial, ends, has_ended, machine_step, quiet, quietly, seeing, sees}
use Rattle.gd_bytecode.specs.State.{State}
use Rattle.gd_bytecode.specs.Trials.{by_answer, with_seen, within}
use Rattle.gd_model.specs.declared.outcome.Outcome.{Outcome}
use Rattle.store_semantics.specs.World.{Seen}
use Rattle.emitted_code.specs.Programs.{emitted}
use Rattle.emitted_code.specs.Sources.{Source}
use Rattle.emitted_code.specs.Trials.{RunsAlike, meant, outcome_of}

abbrev Given : Program → State → Option (List Seen × Outcome) → Type 0
Given p st None = Unit {0}
Given p st (Some q) = (end : State) × Runs p st q.0 q.1 end

quiet_given : (p : Program) (st : State) (r : Option (List Seen × Outcome)) → (machine_step p st).1 ≡ quiet
    → Given p (machine_step p st).0 r → Given p st r
quiet_given p st None is given = tt
quiet_given p st (Some q) is given = (given.0, quietly st q.0 q.1 given.0 is given.1)

seen_given : (p : Program) (st : State) (e : Seen) (r : Option (List Seen × Outcome)) → (machine_step p st).1 ≡ sees e
    → Given p (machine_step p st).0 r → Given p st (with_seen e r)
seen_given p st e None is given = tt
seen_given p st e (Some q) is given = (given.0, seeing st e q.0 q.1 given.0 is given.1)

step_given : (p : Program) (st : State) (a : Answer) (r : Option (List Seen × Outcome)) → (machine_step p st).1 ≡ a
    → Given p (machine_step p st).0 r → Given p st (by_answer a r)
step_given p st quiet r is given = quiet_given p st r is given
step_given p st (sees e) r is given = seen_given p st e r is given
step_given p st (has_ended o) r is given = ((machine_step p st).0, ends st o is)

given_within : (n : ℕ) (p : Program) (st : State) → Given p st (within n p st)
given_within zero p st = tt
given_within (suc n) p st =
    step_given p st (machine_step p st).1 (within n p (machine_step p st).0) refl
    (given_within n p (machine_step p st).0)

pub runs_within : (n : ℕ) (p : Program) (st : State) (es : List Seen) (o : Outcome) → within n p st ≡ Some (es, o)
    → (end : State) × Runs p st es o end
runs_within n p st es o is = subst (Given p st) is (given_within n p st)

pub alike : (n : ℕ) (s : Source) (turns : ℕ)
    → within n (emitted s) (initial (emitted s) turns) ≡ Some ((meant s turns).0, outcome_of (meant s turns).1)
    → RunsAlike s turns
alike n s turns is =
    runs_within n (emitted s) (initial (emitted s) turns) (meant s turns).0 (outcome_of (meant s turns).1) is
