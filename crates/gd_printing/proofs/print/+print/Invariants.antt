use Rattle.std.proofs.Common.{◌≡◌, ◌+◌, ◌*◌, ◌++◌, codes, map, drop}
use Rattle.gd_model.specs.Meant.{datum, pair_datum}
use Rattle.value_semantics.specs.Printed.{more_forms, all_forms, form_by, pair_form, inside}
use Rattle.gd_printing.proofs.print.+print.Given as goal

abbrev pub decreases-put_value : goal.decreases-put_value
decreases-put_value g l = 4 * l.room + 3

abbrev pub decreases-put_array : goal.decreases-put_array
decreases-put_array g l = 4 * l.room + 2

abbrev pub decreases-put_dict : goal.decreases-put_dict
decreases-put_dict g l = 4 * l.room + 2

abbrev pub decreases-put_items : goal.decreases-put_items
decreases-put_items g l = 4 * l.room + 5

abbrev pub decreases-put_pairs : goal.decreases-put_pairs
decreases-put_pairs g l = 4 * l.room + 5

abbrev pub decreases-put_pair : goal.decreases-put_pair
decreases-put_pair g l = 4 * l.room + 4

-- what was put and the forms that are left make the whole
abbrev pub invariant-put_items-loop-item : goal.invariant-put_items-loop-item
invariant-put_items-loop-item g l =
    let S = g.K.Look.store l.look in
    let N = g.K.Look.names l.look in
    let F = form_by S N (inside S N l.room) in
    l.out.items ++ more_forms (codes ", ") (map F (map datum (drop l.item-index l.rest))) ≡ l.fn.out.items ++ all_forms (codes ", ") (map F (map datum l.items))

abbrev pub invariant-put_pairs-loop-i : goal.invariant-put_pairs-loop-i
invariant-put_pairs-loop-i g l =
    let S = g.K.Look.store l.look in
    let N = g.K.Look.names l.look in
    let F = pair_form (form_by S N (inside S N l.room)) in
    l.out.items ++ more_forms (codes ", ") (map F (map pair_datum (drop l.i l.dict.pairs))) ≡ l.fn.out.items ++ all_forms (codes ", ") (map F (map pair_datum l.dict.pairs))
