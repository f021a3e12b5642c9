use Rattle.std.proofs.Common.{◌≡◌, true, List, subst}
use Rattle.constant_store.specs.declared.thing.ConstantThing.{ConstantThing}
use Rattle.constant_store.specs.Things.{is_closed}
use Rattle.constant_store.proofs.Kept.{whole}
use Rattle.constant_store.proofs.store.ConstantStore.allocator.Goals as goal

pub returns-clause-whole : goal.returns-clause-whole
returns-clause-whole c = λ v h. whole c.args.self.now (subst (λ (xs : List ConstantThing). is_closed xs ≡ true) c.self.view_is c.self.invariant.0) v h
