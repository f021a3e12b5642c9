use Rattle.std.proofs.Common.{List, [], map, ap, sym, subst, ◌∙◌}
use Rattle.std.specs.List.{Contains}
use Rattle.std.proofs.lemmas.List.Elements.{All-nil, All-same}
use Rattle.gd_members.specs.declared.Item.{Item}
use Rattle.cycle_resolver.specs.Table.{item_of, needs_by}
use Rattle.cycle_resolver.specs.Unfold.{IsCause}
use Rattle.cycle_resolver.proofs.Tables.{needs-none, needs-row}
use Rattle.cycle_resolver.proofs.tests.visit_of.Goals as goal

pub returns-then-index-rows : goal.returns-then-index-rows
returns-then-index-rows c =
    let P : List Item → Type 0 = λ ns. IsCause ns (record { typed = c.args.typed.now; given_up = c.args.given_up.now }) c.visit_of_row.result in
    subst P (ap (map item_of) c.deref.ensures.value ∙ needs-row c.args.rows.now c.args.item c.index-rows-index.result c.if-index-rows.true c.index-rows-index.is) c.visit_of_row.ensures

pub returns-else-index-rows : goal.returns-else-index-rows
returns-else-index-rows c = All-same (Contains c.args.typed.now) (needs_by c.args.rows.now c.args.item) [] (needs-none c.args.rows.now c.args.item c.if-index-rows.false) (All-nil (Contains c.args.typed.now))
