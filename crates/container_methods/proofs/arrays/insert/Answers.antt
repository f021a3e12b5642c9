use Rattle.std.proofs.Common.{◌≡◌, List, [], ◌∷◌, map, sym, subst, arith}
use Rattle.assignability.specs.Fits.{fits}
use Rattle.gd_model.specs.declared.value.Value.{Value}
use Rattle.gd_model.specs.Meant.{array_thing, datum}
use Rattle.gd_answers.specs.Answers.{AnswersAs}
use Rattle.value_semantics.specs.declared.builtin.Builtin.TheVariants as b
use Rattle.store_semantics.specs.Writes.{array_gives}
use Rattle.container_methods.specs.Arrays.{made}
use Rattle.container_methods.proofs.Arguments.{whole_arg}
use Rattle.container_methods.proofs.Places.{two_args}
use Rattle.container_methods.proofs.arrays.insert.Goals as goal

pub insert_at-requires : goal.insert_at-requires
insert_at-requires g c = record { whole = whole_arg (g.K.Look.things c.args.look.now) (g.K.Look.names c.args.look.now) c.args.args.now 1 c.v-item.result c.v-item.is (omega arith) c.requires.whole }

pub returns-in-len2-clause-meant : goal.returns-in-len2-clause-meant
returns-in-len2-clause-meant g c =
    let store = g.K.Look.store c.args.look.now in
    let both : c.args.args.now ≡ c.at-item.result ∷ c.v-item.result ∷ [] = two_args c.args.args.now c.at-item.result c.v-item.result c.at-item.is c.v-item.is (omega arith) in
    subst (λ (xs : List Value). AnswersAs (made c.args.a.now) (array_gives (fits (g.B.Bases.bases c.args.bases.now) store c.args.a.now.element) store b.ArrayInsert (array_thing c.args.a.now) (map datum xs)) c.insert_at.result)
    (sym both) c.insert_at.ensures.meant
