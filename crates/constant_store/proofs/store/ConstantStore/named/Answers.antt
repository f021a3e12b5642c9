use Rattle.std.proofs.Common.{◌≡◌, ◌≤◌, suc, Some, option_map, length, ap, sym, ◌∙◌, arith}
use Rattle.std.specs.Option.{option_copied}
use Rattle.std.proofs.lemmas.Option.{slice_get_past}
use Rattle.constant_store.specs.declared.thing.ConstantThing.{ConstantThing}
use Rattle.constant_store.specs.Things.{meant, thing_datum}
use Rattle.constant_store.proofs.store.ConstantStore.named.Goals as goal

pub returns-then-index : goal.returns-then-index
returns-then-index c =
    let past : length c.args.self.now ≤ c.args.place = omega (arith, c.allocator-alloc.ensures.numbers, c.if-index.true) in
    sym (ap (option_map (λ (t : ConstantThing). thing_datum (meant t) (suc c.args.place))) (slice_get_past c.args.self.now c.args.place past))

pub returns-in-Some : goal.returns-in-Some
returns-in-Some c =
    ap (λ d. Some d) c.value_naming.ensures
    ∙ ap (option_map (λ (t : ConstantThing). thing_datum (meant t) (suc c.args.place))) (sym (ap option_copied c.in-Some.is) ∙ c.at.ensures)

pub returns-in-None : goal.returns-in-None
returns-in-None c = ap (option_map (λ (t : ConstantThing). thing_datum (meant t) (suc c.args.place))) (sym (ap option_copied c.in-None.is) ∙ c.at.ensures)
