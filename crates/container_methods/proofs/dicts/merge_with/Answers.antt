use Rattle.std.proofs.Common.{◌≡◌, List, [], ◌∷◌, map, sym, subst, arith}
use Rattle.assignability.specs.Fits.{fits}
use Rattle.gd_model.specs.declared.value.Value.{Value}
use Rattle.gd_model.specs.Meant.{datum, dict_thing}
use Rattle.gd_model.specs.Store.{DictThing}
use Rattle.gd_answers.specs.Answers.{AnswersAs}
use Rattle.value_semantics.specs.declared.builtin.Builtin.TheVariants as b
use Rattle.store_semantics.specs.Writes.{Written, dict_gives}
use Rattle.container_methods.specs.Dicts.{made}
use Rattle.container_methods.proofs.Arguments.{whole_arg}
use Rattle.container_methods.proofs.Pairs.{merge_alone}
use Rattle.container_methods.proofs.Places.{one_arg, two_args}
use Rattle.container_methods.proofs.dicts.merge_with.Goals as goal

pub merge_other-requires : goal.merge_other-requires
merge_other-requires g c = record { whole = whole_arg (g.K.Look.things c.args.look.now) (g.K.Look.names c.args.look.now) c.args.args.now 0 c.only-item.result c.only-item.is (omega arith) c.requires.whole }

pub merge_other-requires-in-len2 : goal.merge_other-requires-in-len2
merge_other-requires-in-len2 g c = record { whole = whole_arg (g.K.Look.things c.args.look.now) (g.K.Look.names c.args.look.now) c.args.args.now 0 c.other-item.result c.other-item.is (omega arith) c.requires.whole }

pub returns-in-len1-clause-meant : goal.returns-in-len1-clause-meant
returns-in-len1-clause-meant g c =
    let store = g.K.Look.store c.args.look.now in
    let key_fits = fits (g.B.Bases.bases c.args.bases.now) store c.args.d.now.key_type in
    let value_fits = fits (g.B.Bases.bases c.args.bases.now) store c.args.d.now.value_type in
    let one : c.args.args.now ≡ c.only-item.result ∷ [] = one_arg c.args.args.now c.only-item.result c.only-item.is (omega arith) in
    subst (λ (xs : List Value). AnswersAs (made c.args.d.now) (dict_gives key_fits value_fits store b.DictionaryMerge (dict_thing c.args.d.now) (map datum xs)) c.merge_other.result) (sym one)
    (subst (λ (w : Written DictThing). AnswersAs (made c.args.d.now) w c.merge_other.result) (merge_alone key_fits value_fits store (dict_thing c.args.d.now) c.only-item.result) c.merge_other.ensures.meant)

pub returns-in-len2-clause-meant : goal.returns-in-len2-clause-meant
returns-in-len2-clause-meant g c =
    let store = g.K.Look.store c.args.look.now in
    let key_fits = fits (g.B.Bases.bases c.args.bases.now) store c.args.d.now.key_type in
    let value_fits = fits (g.B.Bases.bases c.args.bases.now) store c.args.d.now.value_type in
    let both : c.args.args.now ≡ c.other-item.result ∷ c.over-item.result ∷ [] = two_args c.args.args.now c.other-item.result c.over-item.result c.other-item.is c.over-item.is (omega arith) in
    subst (λ (xs : List Value). AnswersAs (made c.args.d.now) (dict_gives key_fits value_fits store b.DictionaryMerge (dict_thing c.args.d.now) (map datum xs)) c.merge_other-in-len2.result) (sym both) c.merge_other-in-len2.ensures.meant
