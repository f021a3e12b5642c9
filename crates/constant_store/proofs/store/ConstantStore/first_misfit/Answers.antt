use Rattle.std.proofs.Common.{◌≡◌, ◌<◌, ◌≤◌, [], not, true, false, length, map, get_or, ap, sym, ◌∙◌, arith}
use Rattle.gd_model.specs.Datum.{Datum}
use Rattle.gd_model.specs.Meant.{datum}
use Rattle.constant_store.specs.Literals.{fits}
use Rattle.constant_store.proofs.Read.{item_held_at, place_here, place_past, place_nowhere}
use Rattle.constant_store.proofs.store.ConstantStore.first_misfit.Goals as goal

pub fits-requires : goal.fits-requires
fits-requires c = item_held_at c.args.self.now c.args.items.now c.loop-i.i c.index-items-i.result c.loop-i-test.true c.index-items-i.is c.requires

pub loop-i-preserved : goal.loop-i-preserved
loop-i-preserved c =
    let test = λ (d : Datum). not (fits c.args.self.now c.args.element.now d) in
    let said : test (datum c.index-items-i.result) ≡ false = ap not (sym (c.fits.ensures (λ class. [])) ∙ c.if-not-fits.false) in
    sym (place_past test c.args.items.now c.loop-i.i c.index-items-i.result c.loop-i-test.true c.index-items-i.is said) ∙ c.loop-i.invariant

pub returns-then-not-fits : goal.returns-then-not-fits
returns-then-not-fits c =
    let test = λ (d : Datum). not (fits c.args.self.now c.args.element.now d) in
    let said : test (datum c.index-items-i.result) ≡ true = ap not (sym (c.fits.ensures (λ class. [])) ∙ c.if-not-fits.true) in
    sym (place_here test c.args.items.now c.loop-i.i c.index-items-i.result c.loop-i-test.true c.index-items-i.is said) ∙ c.loop-i.invariant

pub returns : goal.returns
returns c =
    let test = λ (d : Datum). not (fits c.args.self.now c.args.element.now d) in
    sym (place_nowhere test c.args.items.now c.loop-i.i c.loop-i-test.false) ∙ c.loop-i.invariant
