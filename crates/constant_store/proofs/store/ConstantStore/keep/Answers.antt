use Rattle.std.proofs.Common.{◌≡◌, ◌+◌, ◌≤◌, suc, true, List, [], ◌∷◌, ◌++◌, length, sym, ap, subst, ◌∙◌, arith}
use Rattle.gd_model.specs.Datum.{Datum}
use Rattle.gd_model.specs.Meant.{datum}
use Rattle.constant_store.specs.declared.thing.ConstantThing.{ConstantThing}
use Rattle.constant_store.specs.Things.{all_data_held, data_in, is_held, meant, thing_datum}
use Rattle.constant_store.proofs.Kept.{closed_push, held_last}
use Rattle.constant_store.proofs.store.ConstantStore.keep.Goals as goal

pub invariant_of-self-2 : goal.invariant_of-self-2
invariant_of-self-2 c =
    let things = c.self.inside.things.items in
    let inside : all_data_held things (data_in (meant c.args.thing)) ≡ true = subst (λ (xs : List ConstantThing). all_data_held xs (data_in (meant c.args.thing)) ≡ true) (sym c.self.view_is) c.requires in
    (rw c.in_ok-push.ensures.items (closed_push things c.args.thing c.self.invariant.0 inside), omega (arith, c.in_ok-push.ensures.len, c.len-index.ensures, c.if-index-ge-MAX_THINGS.false))

pub returns-clause-held : goal.returns-clause-held
returns-clause-held c =
    let things = c.self.inside.things.items in
    let named : datum c.value_naming-value.result ≡ thing_datum (meant c.args.thing) (suc (length things)) = c.value_naming-value.ensures ∙ ap (λ n. thing_datum (meant c.args.thing) (suc n)) (c.len-index.ensures ∙ c.self.inside.things.ok.0) in
    rw (c.in_ok-push.ensures.items, named) (held_last things c.args.thing)
