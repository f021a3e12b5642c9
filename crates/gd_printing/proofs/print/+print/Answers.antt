use Rattle.std.proofs.Common.{◌≡◌, ◌+◌, ◌-◌, ◌<◌, ◌++◌, Err, codes, length, map, take, drop, sym, ap, subst, refl, ◌∙◌, arith, rules}
use Rattle.std.proofs.lemmas.List.{length-map}
use Rattle.std.proofs.lemmas.Option.{slice_get_read, slice_get-get_or}
use Rattle.std.proofs.lemmas.Result.{err_from_is_err_and}
use Rattle.gd_model.specs.Meant.{datum, pair_datum, array_thing, dict_thing}
use Rattle.gd_model.specs.KeyDatum.{key_datum}
use Rattle.gd_model.specs.Store.{array_at, dict_at}
use Rattle.gd_model.specs.Whole.{AllWhole}
use Rattle.gd_containers.proofs.AllWhole.{whole_at, whole_rest, whole_pair}
use Rattle.value_semantics.specs.Printed.{more_forms, all_forms, form_by, pair_form, array_form, dict_form, inside}
use Rattle.gd_printing.proofs.Printed.{puts_then, puts_stop, puts_moved, puts_as, more_next, more_no_comma, more_no_form, all_at, array_open, array_too_deep, dict_open, dict_empty, dict_too_deep}
use Rattle.gd_printing.proofs.print.+print.Goals as goal

pub put_array-returns-in_err-put_items : goal.put_array-returns-in_err-put_items
put_array-returns-in_err-put_items g t c =
    let S = g.K.Look.store c.args.look.now in
    let N = g.K.Look.names c.args.look.now in
    let room : c.args.room ≡ (c.args.room - 1) + 1 = omega arith in
    let F = form_by S N (inside S N (c.args.room - 1)) in
    let A = all_forms (codes ", ") (map F (map datum c.items.result.now)) in
    let same = ap (λ xs. codes "[" ++ (all_forms (codes ", ") (map F (map datum xs)) ++ codes "]")) c.items.ensures
    ∙ array_open S N c.args.room (c.args.room - 1) (array_thing c.array_of.result.now) room
    ∙ ap (λ a. array_form (inside S N c.args.room) a) (sym c.array_of.ensures.value) in
    let p = err_from_is_err_and c.from_residual-in_err-put_items.result c.from_residual-in_err-put_items.ensures.1 in
    rw (p.1, p.2) (puts_as _ _ c.args.out.now.items c.put_items.new.out.items (Err c.in_err-put_items.field-0.0) same
    (puts_then (codes "[") (A ++ codes "]") c.args.out.now.items c.put.new.out.items c.put_items.new.out.items (Err c.in_err-put_items.field-0.0) c.in_ok-put.ensures
    (puts_stop A (codes "]") c.put.new.out.items c.put_items.new.out.items c.put_items.new.out.items c.in_err-put_items.field-0.0 c.in_err-put_items.ensures)))

pub put_array-returns : goal.put_array-returns
put_array-returns g t c =
    let S = g.K.Look.store c.args.look.now in
    let N = g.K.Look.names c.args.look.now in
    let room : c.args.room ≡ (c.args.room - 1) + 1 = omega arith in
    let F = form_by S N (inside S N (c.args.room - 1)) in
    let A = all_forms (codes ", ") (map F (map datum c.items.result.now)) in
    let same = ap (λ xs. codes "[" ++ (all_forms (codes ", ") (map F (map datum xs)) ++ codes "]")) c.items.ensures
    ∙ array_open S N c.args.room (c.args.room - 1) (array_thing c.array_of.result.now) room
    ∙ ap (λ a. array_form (inside S N c.args.room) a) (sym c.array_of.ensures.value) in
    puts_as _ _ c.args.out.now.items c.put-2.new.out.items c.put-2.result same
    (puts_then (codes "[") (A ++ codes "]") c.args.out.now.items c.put.new.out.items c.put-2.new.out.items c.put-2.result c.in_ok-put.ensures
    (puts_then A (codes "]") c.put.new.out.items c.put_items.new.out.items c.put-2.new.out.items c.put-2.result c.in_ok-put_items.ensures c.put-2.ensures))

pub put_dict-returns-then-room-eq0 : goal.put_dict-returns-then-room-eq0
put_dict-returns-then-room-eq0 g t c =
    let S = g.K.Look.store c.args.look.now in
    let N = g.K.Look.names c.args.look.now in
    puts_as _ _ c.args.out.now.items c.put_word.new.out.items c.put_word.result (dict_too_deep S N c.args.room (dict_at S c.args.h.serial) c.if-room-eq0.true) c.put_word.ensures

pub put_dict-returns-then-size-eq0 : goal.put_dict-returns-then-size-eq0
put_dict-returns-then-size-eq0 g t c =
    let S = g.K.Look.store c.args.look.now in
    let N = g.K.Look.names c.args.look.now in
    let room : c.args.room ≡ (c.args.room - 1) + 1 = omega arith in
    let D = dict_thing c.dict_of-dict.result.now in
    let none : length D.pairs ≡ 0 = length-map c.dict_of-dict.result.now.pairs pair_datum ∙ sym c.size.ensures.value ∙ c.if-size-eq0.true in
    puts_as _ _ c.args.out.now.items c.put_word-then-size-eq0.new.out.items c.put_word-then-size-eq0.result (dict_empty S N c.args.room (c.args.room - 1) D room none ∙ ap (λ d. dict_form (inside S N c.args.room) d) (sym c.dict_of-dict.ensures.value)) c.put_word-then-size-eq0.ensures

pub put_dict-returns-in_err-put_pairs : goal.put_dict-returns-in_err-put_pairs
put_dict-returns-in_err-put_pairs g t c =
    let S = g.K.Look.store c.args.look.now in
    let N = g.K.Look.names c.args.look.now in
    let room : c.args.room ≡ (c.args.room - 1) + 1 = omega arith in
    let D = dict_thing c.dict_of-dict.result.now in
    let some : ¬ (length D.pairs ≡ 0) = λ e. c.if-size-eq0.false (c.size.ensures.value ∙ sym (length-map c.dict_of-dict.result.now.pairs pair_datum) ∙ e) in
    let A = all_forms (codes ", ") (map (pair_form (form_by S N (inside S N (c.args.room - 1)))) D.pairs) in
    let same = dict_open S N c.args.room (c.args.room - 1) D room some ∙ ap (λ d. dict_form (inside S N c.args.room) d) (sym c.dict_of-dict.ensures.value) in
    let p = err_from_is_err_and c.from_residual-in_err-put_pairs.result c.from_residual-in_err-put_pairs.ensures.1 in
    rw (p.1, p.2) (puts_as _ _ c.args.out.now.items c.put_pairs.new.out.items (Err c.in_err-put_pairs.field-0.0) same
    (puts_then (codes "{ ") (A ++ codes " }") c.args.out.now.items c.put_word-2.new.out.items c.put_pairs.new.out.items (Err c.in_err-put_pairs.field-0.0) c.in_ok-put_word.ensures
    (puts_stop A (codes " }") c.put_word-2.new.out.items c.put_pairs.new.out.items c.put_pairs.new.out.items c.in_err-put_pairs.field-0.0 c.in_err-put_pairs.ensures)))

pub put_dict-returns : goal.put_dict-returns
put_dict-returns g t c =
    let S = g.K.Look.store c.args.look.now in
    let N = g.K.Look.names c.args.look.now in
    let room : c.args.room ≡ (c.args.room - 1) + 1 = omega arith in
    let D = dict_thing c.dict_of-dict.result.now in
    let some : ¬ (length D.pairs ≡ 0) = λ e. c.if-size-eq0.false (c.size.ensures.value ∙ sym (length-map c.dict_of-dict.result.now.pairs pair_datum) ∙ e) in
    let A = all_forms (codes ", ") (map (pair_form (form_by S N (inside S N (c.args.room - 1)))) D.pairs) in
    let same = dict_open S N c.args.room (c.args.room - 1) D room some ∙ ap (λ d. dict_form (inside S N c.args.room) d) (sym c.dict_of-dict.ensures.value) in
    puts_as _ _ c.args.out.now.items c.put_word-3.new.out.items c.put_word-3.result same
    (puts_then (codes "{ ") (A ++ codes " }") c.args.out.now.items c.put_word-2.new.out.items c.put_word-3.new.out.items c.put_word-3.result c.in_ok-put_word.ensures
    (puts_then A (codes " }") c.put_word-2.new.out.items c.put_pairs.new.out.items c.put_word-3.new.out.items c.put_word-3.result c.in_ok-put_pairs.ensures c.put_word-3.ensures))

pub put_pairs-returns-in_err-put_pair : goal.put_pairs-returns-in_err-put_pair
put_pairs-returns-in_err-put_pair g t c =
    let S = g.K.Look.store c.args.look.now in
    let N = g.K.Look.names c.args.look.now in
    let F = pair_form (form_by S N (inside S N c.args.room)) in
    let p = err_from_is_err_and c.from_residual.result c.from_residual.ensures.1 in
    rw (p.1, p.2) (puts_as _ _ c.args.out.now.items c.put_pair.new.out.items (Err c.in_err-put_pair.field-0.0) (sym (all_at (codes ", ") pair_datum F c.args.dict.now.pairs (c.in-Some.key.now, c.in-Some.value.now) (sym c.in-Some.ensures)))
    (puts_stop (F (pair_datum (c.in-Some.key.now, c.in-Some.value.now))) (more_forms (codes ", ") (map F (map pair_datum (drop 1 c.args.dict.now.pairs)))) c.args.out.now.items c.put_pair.new.out.items c.put_pair.new.out.items c.in_err-put_pair.field-0.0 c.in_err-put_pair.ensures))

pub put_pairs-returns-in_err-put_word : goal.put_pairs-returns-in_err-put_word
put_pairs-returns-in_err-put_word g t c =
    let S = g.K.Look.store c.args.look.now in
    let N = g.K.Look.names c.args.look.now in
    let F = pair_form (form_by S N (inside S N c.args.room)) in
    let p = err_from_is_err_and c.from_residual-in_err-put_word.result c.from_residual-in_err-put_word.ensures.1 in
    rw (p.1, p.2) (puts_moved (more_forms (codes ", ") (map F (map pair_datum (drop c.loop-i.i c.args.dict.now.pairs)))) (all_forms (codes ", ") (map F (map pair_datum c.args.dict.now.pairs))) c.loop-i.out.items c.args.out.now.items c.put_word.new.out.items (Err c.in_err-put_word.field-0.0) c.loop-i.invariant
    (more_no_comma (codes ", ") pair_datum F c.args.dict.now.pairs c.loop-i.i (c.in-Some-at.key.now, c.in-Some-at.value.now) c.loop-i.out.items c.put_word.new.out.items c.in_err-put_word.field-0.0 (sym c.in-Some-at.ensures) c.in_err-put_word.ensures))

pub put_pairs-returns-in_err-put_pair-2 : goal.put_pairs-returns-in_err-put_pair-2
put_pairs-returns-in_err-put_pair-2 g t c =
    let S = g.K.Look.store c.args.look.now in
    let N = g.K.Look.names c.args.look.now in
    let F = pair_form (form_by S N (inside S N c.args.room)) in
    let p = err_from_is_err_and c.from_residual-in_err-put_pair-2.result c.from_residual-in_err-put_pair-2.ensures.1 in
    rw (p.1, p.2) (puts_moved (more_forms (codes ", ") (map F (map pair_datum (drop c.loop-i.i c.args.dict.now.pairs)))) (all_forms (codes ", ") (map F (map pair_datum c.args.dict.now.pairs))) c.loop-i.out.items c.args.out.now.items c.put_pair-in-loop-i.new.out.items (Err c.in_err-put_pair-2.field-0.0) c.loop-i.invariant
    (more_no_form (codes ", ") pair_datum F c.args.dict.now.pairs c.loop-i.i (c.in-Some-at.key.now, c.in-Some-at.value.now) c.loop-i.out.items c.put_word.new.out.items c.put_pair-in-loop-i.new.out.items c.in_err-put_pair-2.field-0.0 (sym c.in-Some-at.ensures) c.in_ok-put_word.ensures c.in_err-put_pair-2.ensures))

pub put_pairs-loop-i-preserved : goal.put_pairs-loop-i-preserved
put_pairs-loop-i-preserved g t c =
    let S = g.K.Look.store c.args.look.now in
    let N = g.K.Look.names c.args.look.now in
    let F = pair_form (form_by S N (inside S N c.args.room)) in
    more_next (codes ", ") pair_datum F c.args.dict.now.pairs c.loop-i.i (c.in-Some-at.key.now, c.in-Some-at.value.now) c.loop-i.out.items c.put_word.new.out.items c.put_pair-in-loop-i.new.out.items (sym c.in-Some-at.ensures) c.in_ok-put_word.ensures c.in_ok-put_pair-2.ensures ∙ c.loop-i.invariant

pub put_array-put_items-requires : goal.put_array-put_items-requires
put_array-put_items-requires g t c κs within =
    let whole = AllWhole (g.K.Look.things c.args.look.now) (g.K.Look.names c.args.look.now) in
    (search rules, (search rules, subst whole (sym c.items.ensures) c.array_of.ensures.inside))

pub put_items-put_value-requires : goal.put_items-put_value-requires
put_items-put_value-requires g t c κs within =
    let T = g.K.Look.things c.args.look.now in
    let N = g.K.Look.names c.args.look.now in
    let some : 0 < length c.args.items.now = omega arith in
    let at = slice_get_read c.args.items.now (length c.args.items.now) 0 c.first-item.result refl some c.first-item.is in
    (search rules, (search rules, whole_at T N c.args.items.now 0 c.first-item.result at c.requires.whole))

pub put_items-put_value-requires-in-loop-item : goal.put_items-put_value-requires-in-loop-item
put_items-put_value-requires-in-loop-item g t c κs within =
    let T = g.K.Look.things c.args.look.now in
    let N = g.K.Look.names c.args.look.now in
    let R = take (length c.args.items.now - 1) (drop 1 c.args.items.now) in
    let at = slice_get_read R (length R) c.loop-item.item-index c.item-item.result refl (omega arith) c.item-item.is in
    (search rules, (search rules, whole_at T N R c.loop-item.item-index c.item-item.result at (whole_rest T N c.args.items.now c.requires.whole)))

pub put_pair-returns-in_err-put_key : goal.put_pair-returns-in_err-put_key
put_pair-returns-in_err-put_key g t c =
    let S = g.K.Look.store c.args.look.now in
    let N = g.K.Look.names c.args.look.now in
    let F = form_by S N (inside S N c.args.room) in
    let p = err_from_is_err_and c.from_residual.result c.from_residual.ensures.1 in
    rw (p.1, p.2) (puts_stop (F (key_datum c.args.key.now)) (codes ": " ++ F (datum c.args.value.now)) c.args.out.now.items c.put_key.new.out.items c.put_key.new.out.items c.in_err-put_key.field-0.0 (c.in_err-put_key.ensures (inside S N c.args.room)))

pub put_pairs-put_pair-requires : goal.put_pairs-put_pair-requires
put_pairs-put_pair-requires g t c κs within =
    let T = g.K.Look.things c.args.look.now in
    let N = g.K.Look.names c.args.look.now in
    let whole = whole_pair T N c.args.dict.now.pairs 0 (c.in-Some.key.now, c.in-Some.value.now) (sym c.in-Some.ensures) c.requires.whole in
    (search rules, (search rules, (whole.0, whole.1)))

pub put_pairs-put_pair-requires-in-loop-i : goal.put_pairs-put_pair-requires-in-loop-i
put_pairs-put_pair-requires-in-loop-i g t c κs within =
    let T = g.K.Look.things c.args.look.now in
    let N = g.K.Look.names c.args.look.now in
    let whole = whole_pair T N c.args.dict.now.pairs c.loop-i.i (c.in-Some-at.key.now, c.in-Some-at.value.now) (sym c.in-Some-at.ensures) c.requires.whole in
    (search rules, (search rules, (whole.0, whole.1)))

pub put_pairs-unreachable-requires : goal.put_pairs-unreachable-requires
put_pairs-unreachable-requires g t c =
    let some : c.loop-i.i < length c.args.dict.now.pairs = omega arith in
    let there = slice_get-get_or c.args.dict.now.pairs c.loop-i.i (c.in-Some.key.now, c.in-Some.value.now) some in
    let none = c.in_default-at.ensures in
    cc

pub put_array-returns-then-room-eq0 : goal.put_array-returns-then-room-eq0
put_array-returns-then-room-eq0 g t c =
    let S = g.K.Look.store c.args.look.now in
    let N = g.K.Look.names c.args.look.now in
    puts_as _ _ c.args.out.now.items c.put_word.new.out.items c.put_word.result (array_too_deep S N c.args.room (array_at S c.args.h.serial) c.if-room-eq0.true) c.put_word.ensures
