use Rattle.std.proofs.Common.{◌≡◌, List, ℕ, length, ap, subst, sym, ◌∙◌}
use Rattle.std.specs.Prelude.{Vec}
use Rattle.std.specs.List.{All, Contains}
use Rattle.gd_members.specs.declared.Item.{Item}
use Rattle.cycle_resolver.specs.Order.{AreDistinct}
use Rattle.cycle_resolver.specs.Table.{AreClosed, items_to, needs_by}
use Rattle.cycle_resolver.proofs.Tables.{among-items, distinct-items}
use Rattle.cycle_resolver.proofs.tests.order_of.Goals as goal

pub order-requires-clause-distinct : goal.order-requires-clause-distinct
order-requires-clause-distinct c = subst AreDistinct (sym (c.deref-2.ensures.value ∙ c.in_ok-items.ensures)) (distinct-items c.len-2.result)

pub order-requires-clause-among : goal.order-requires-clause-among
order-requires-clause-among c =
    let rows = c.args.rows.items in
    let P : List Item → Type 0 = λ items. All (λ item. All (Contains items) (needs_by rows item)) items in
    let count : c.len-2.result ≡ length rows = c.len-2.ensures ∙ c.args.rows.ok.0 in
    let closed = subst AreClosed c.deref.ensures.value (c.is_closed.ensures c.if-not-is_closed.false) in
    subst P (sym (c.deref-2.ensures.value ∙ c.in_ok-items.ensures ∙ ap items_to count)) (among-items rows closed)
