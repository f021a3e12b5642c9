use Rattle.std.proofs.Common.{◌≡◌, ℤ, ℕ, List, refl, sym, subst}
use Rattle.gd_model.specs.Store.{Store, Names}
use Rattle.gd_model.specs.declared.value.Value.{Value}
use Rattle.gd_model.specs.declared.value.Value.TheVariants.{Int, Str}
use Rattle.gd_model.specs.Meant.{datum}
use Rattle.gd_text.specs.declared.formatting.Arg.{Arg}
use Rattle.gd_text.specs.declared.formatting.Arg.TheVariants.{Other}
use Rattle.value_semantics.specs.Printed.{printed}
use Rattle.value_semantics.specs.Formatting.{argument}
use Rattle.gd_printing.specs.Arguments.{IsArgument}
use Rattle.gd_printing.proofs.arguments.argument.Goals as goal

-- the argument for what is neither an int nor a String
printed_one : (store : Store) (names : Names) (v : Value) → ((n : ℤ) → v ≡ Int n → ⊥) → ((t : List ℕ) → v ≡ Str t → ⊥) → argument store names (datum v) ≡ Other (printed store names (datum v))
printed_one store names (Int n) h k = absurd (h n refl)
printed_one store names (Str t) h k = absurd (k t refl)
printed_one store names v h k = refl

pub returns-in_default : goal.returns-in_default
returns-in_default g c =
    let S = g.K.Look.store c.args.look.now in
    let N = g.K.Look.names c.args.look.now in
    subst (λ (want : Arg). IsArgument want c.other.result) (sym (printed_one S N c.args.v.now c.in_default.not-Int c.in_default.not-Str)) (c.other.ensures _ c.text_of.ensures)
