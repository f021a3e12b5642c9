use Rattle.std.proofs.Common.{◌≡◌, true, length, replicate, refl, ap, sym, ◌∙◌, arith}
use Rattle.std.proofs.lemmas.List.{length-replicate}
use Rattle.assignability.specs.Fits.{fits}
use Rattle.gd_model.specs.Meant.{datum}
use Rattle.container_methods.specs.declared.array_change.ArrayChange.TheVariants.{Replace}
use Rattle.container_methods.proofs.Filled.{filled_given}
use Rattle.container_methods.proofs.arrays.filled.Goals as goal

pub returns-clause-meant : goal.returns-clause-meant
returns-clause-meant g c =
    let yes : fits (g.B.Bases.bases c.args.bases.now) (g.K.Look.store c.args.look.now) c.args.a.now.element (datum c.args.v.now) ≡ true =
    sym (ap (λ t. fits (g.B.Bases.bases c.args.bases.now) (g.K.Look.store c.args.look.now) t (datum c.args.v.now)) c.element.ensures) ∙ sym c.fits.ensures ∙ c.if-not-fits.false in
    filled_given c.args.a.now (fits (g.B.Bases.bases c.args.bases.now) (g.K.Look.store c.args.look.now) c.args.a.now.element) c.args.v.now (Replace c.in_ok-copies.field-0) yes
    (c.in_ok-copies.ensures ∙ ap (λ n. replicate n c.args.v.now) c.size.ensures.value) refl

pub returns-clause-place : goal.returns-clause-place
returns-clause-place g c =
    let many = c.in_ok-copies.ensures in
    let long : length c.in_ok-copies.field-0.items ≡ c.size.result = ap length c.in_ok-copies.ensures ∙ length-replicate c.size.result c.args.v.now in
    let few = c.size.ensures.limit in
    omega arith
