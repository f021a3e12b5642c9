use Rattle.std.proofs.Common.{◌+◌, ◌<◌, ◌≤◌, length, Result, ap, sym, subst, arith}
use Rattle.gd_model.specs.Store.{array_at}
use Rattle.gd_containers.specs.declared.fault.ThingFault.{ThingFault}
use Rattle.gd_answers.specs.declared.fresh.Fresh.{Fresh}
use Rattle.gd_answers.specs.Answers.{Gives}
use Rattle.value_semantics.specs.Made.{array_made}
use Rattle.value_semantics.specs.Operators.{joined}
use Rattle.gd_operators.proofs.Joins.{joined_past, joined_within, all_pushed}
use Rattle.gd_operators.proofs.joining.joined.Goals as goal

pub returns-then-items-gt-MAX_ITEMS : goal.returns-then-items-gt-MAX_ITEMS
returns-then-items-gt-MAX_ITEMS g c =
    let store = g.K.Look.store c.args.look.now in
    let x = c.array_of-x.result.now in
    let y = c.array_of-y.result.now in
    let past : 16777216 < length x.items + length y.items = omega (arith, ap length c.items.ensures, ap length c.items-2.ensures) in
    subst (λ (r : Result Fresh ThingFault). Gives (array_made (joined (array_at store c.args.h.serial) (array_at store c.args.i.serial))) r) (sym c.refused.ensures)
    (joined_past x y _ _ c.array_of-x.ensures.value c.array_of-y.ensures.value past)

pub returns : goal.returns
returns g c =
    let x = c.array_of-x.result.now in
    let y = c.array_of-y.result.now in
    let within : length x.items + length y.items ≤ 16777216 = omega (arith, ap length c.items.ensures, ap length c.items-2.ensures) in
    let all = all_pushed x y c.new-all.result c.push_all.new.array c.push_all-2.new.array c.element.result.now c.element-2.result.now c.in_ok-element.element c.items-3.result.now c.items-4.result.now c.element.ensures c.element-2.ensures c.in_ok-element.ensures c.new-all.ensures c.items-3.ensures c.items-4.ensures c.in_ok-push_all.ensures.ok c.in_ok-push_all-2.ensures.ok in
    joined_within x y c.push_all-2.new.array _ _ c.array_of-x.ensures.value c.array_of-y.ensures.value within all
