use Rattle.std.proofs.Common.{◌≡◌, ◌+◌, ◌<◌, ◌≤◌, length, Bool, true, false, not, refl, ap, sym, ◌∙◌, arith}
use Rattle.std.specs.List.{list_all}
use Rattle.assignability.specs.Fits.{fits}
use Rattle.gd_model.specs.declared.fault.RunFault.TheVariants.{TooLong, ValueOfAnotherType}
use Rattle.gd_model.specs.Meant.{dict_thing}
use Rattle.store_semantics.specs.Writes as spec
use Rattle.container_methods.specs.declared.dict_change.DictChange.TheVariants.{Merge}
use Rattle.container_methods.specs.Dicts.{both_fit, fresh_count, made, put_all, written}
use Rattle.container_methods.proofs.Decided.{refused_as}
use Rattle.container_methods.proofs.Merged.{merge_given, merge_full, merge_unfit, size_merged}
use Rattle.container_methods.proofs.merging.merge.Goals as goal

fit_so : (b c : Bool) → b ≡ not c → b ≡ false → c ≡ true
fit_so b true e f = refl
fit_so b false e f = sym f ∙ e

unfit_so : (b c : Bool) → b ≡ not c → b ≡ true → c ≡ false
unfit_so b true e f = sym f ∙ e
unfit_so b false e f = refl

pub returns-then-branch-clause-meant : goal.returns-then-branch-clause-meant
returns-then-branch-clause-meant g c =
    let key_fits = fits (g.B.Bases.bases c.args.bases.now) (g.K.Look.store c.args.look.now) c.args.d.now.key_type in
    let value_fits = fits (g.B.Bases.bases c.args.bases.now) (g.K.Look.store c.args.look.now) c.args.d.now.value_type in
    let all = list_all (both_fit key_fits value_fits) (written c.args.over c.args.d.now.pairs c.args.other.now.pairs) in
    refused_as (made c.args.d.now) (spec.merge key_fits value_fits (dict_thing c.args.d.now) (dict_thing c.args.other.now) c.args.over) ValueOfAnotherType c.refused.result c.refused.ensures
    (merge_unfit key_fits value_fits c.args.d.now c.args.other.now c.args.over c.keys_differ.ensures (unfit_so c.in_ok-has_misfit.field-0 all c.in_ok-has_misfit.ensures c.if-branch.true))

pub returns-then-size-fresh-clause-meant : goal.returns-then-size-fresh-clause-meant
returns-then-size-fresh-clause-meant g c =
    let key_fits = fits (g.B.Bases.bases c.args.bases.now) (g.K.Look.store c.args.look.now) c.args.d.now.key_type in
    let value_fits = fits (g.B.Bases.bases c.args.bases.now) (g.K.Look.store c.args.look.now) c.args.d.now.value_type in
    let all = list_all (both_fit key_fits value_fits) (written c.args.over c.args.d.now.pairs c.args.other.now.pairs) in
    let many = c.if-size-fresh.true in
    let size = c.size.ensures.value in
    let more = c.fresh.ensures.count in
    let full : 16777216 < length c.args.d.now.pairs + fresh_count c.args.d.now.pairs c.args.other.now.pairs = omega arith in
    refused_as (made c.args.d.now) (spec.merge key_fits value_fits (dict_thing c.args.d.now) (dict_thing c.args.other.now) c.args.over) TooLong c.refused-then-size-fresh.result c.refused-then-size-fresh.ensures
    (merge_full key_fits value_fits c.args.d.now c.args.other.now c.args.over c.keys_differ.ensures (fit_so c.in_ok-has_misfit.field-0 all c.in_ok-has_misfit.ensures c.if-branch.false) full)

pub returns-clause-meant : goal.returns-clause-meant
returns-clause-meant g c =
    let key_fits = fits (g.B.Bases.bases c.args.bases.now) (g.K.Look.store c.args.look.now) c.args.d.now.key_type in
    let value_fits = fits (g.B.Bases.bases c.args.bases.now) (g.K.Look.store c.args.look.now) c.args.d.now.value_type in
    let all = list_all (both_fit key_fits value_fits) (written c.args.over c.args.d.now.pairs c.args.other.now.pairs) in
    let few = c.if-size-fresh.false in
    let size = c.size.ensures.value in
    let more = c.fresh.ensures.count in
    let room : length c.args.d.now.pairs + fresh_count c.args.d.now.pairs c.args.other.now.pairs ≤ 16777216 = omega arith in
    merge_given key_fits value_fits c.args.d.now c.args.other.now c.args.over (Merge c.in_ok-pairs.pairs) c.keys_differ.ensures
    (fit_so c.in_ok-has_misfit.field-0 all c.in_ok-has_misfit.ensures c.if-branch.false) room (ap (put_all c.args.d.now.pairs) c.in_ok-pairs.ensures) refl

pub returns-clause-room : goal.returns-clause-room
returns-clause-room g c =
    let few = c.if-size-fresh.false in
    let size = c.size.ensures.value in
    let more = c.fresh.ensures.count in
    let whole : length (put_all c.args.d.now.pairs c.in_ok-pairs.pairs.items) ≡ length c.args.d.now.pairs + fresh_count c.args.d.now.pairs c.args.other.now.pairs =
    ap (λ qs. length (put_all c.args.d.now.pairs qs)) c.in_ok-pairs.ensures ∙ size_merged c.args.over c.args.d.now.pairs c.args.other.now.pairs c.keys_differ.ensures in
    omega arith
