use Rattle.std.proofs.Common.{◌-◌, ◌<◌, length, map, take, drop, Err, refl, arith}
use Rattle.std.proofs.lemmas.Option.{slice_get_read}
use Rattle.std.proofs.lemmas.Result.{err_from_is_err_and}
use Rattle.gd_model.specs.Meant.{datum}
use Rattle.gd_containers.proofs.AllWhole.{whole_at, whole_rest}
use Rattle.value_semantics.specs.Printed.{more_forms, all_forms, printed}
use Rattle.gd_printing.proofs.Printed.{puts_moved, more_no_comma, more_no_form}
use Rattle.gd_printing.proofs.print.put_all_printed.Goals as goal

pub returns-in_err-put_chars : goal.returns-in_err-put_chars
returns-in_err-put_chars g c =
    let B = c.args.between.now in
    let F = printed (g.K.Look.store c.args.look.now) (g.K.Look.names c.args.look.now) in
    let R = take (length c.args.values.now - 1) (drop 1 c.args.values.now) in
    let at = slice_get_read R (length R) c.loop-v.v-index c.v-item.result refl (omega arith) c.v-item.is in
    let p = err_from_is_err_and c.from_residual-in_err-put_chars.result c.from_residual-in_err-put_chars.ensures.1 in
    rw (p.1, p.2) (puts_moved (more_forms B (map F (map datum (drop c.loop-v.v-index R)))) (all_forms B (map F (map datum c.args.values.now))) c.loop-v.out.items c.args.out.now.items c.put_chars.new.out.items (Err c.in_err-put_chars.field-0.0) c.loop-v.invariant
    (more_no_comma B datum F R c.loop-v.v-index c.v-item.result c.loop-v.out.items c.put_chars.new.out.items c.in_err-put_chars.field-0.0 at c.in_err-put_chars.ensures))

pub returns-in_err-put_printed-2 : goal.returns-in_err-put_printed-2
returns-in_err-put_printed-2 g c =
    let B = c.args.between.now in
    let F = printed (g.K.Look.store c.args.look.now) (g.K.Look.names c.args.look.now) in
    let R = take (length c.args.values.now - 1) (drop 1 c.args.values.now) in
    let at = slice_get_read R (length R) c.loop-v.v-index c.v-item.result refl (omega arith) c.v-item.is in
    let p = err_from_is_err_and c.from_residual-in_err-put_printed-2.result c.from_residual-in_err-put_printed-2.ensures.1 in
    rw (p.1, p.2) (puts_moved (more_forms B (map F (map datum (drop c.loop-v.v-index R)))) (all_forms B (map F (map datum c.args.values.now))) c.loop-v.out.items c.args.out.now.items c.put_printed-in-loop-v.new.out.items (Err c.in_err-put_printed-2.field-0.0) c.loop-v.invariant
    (more_no_form B datum F R c.loop-v.v-index c.v-item.result c.loop-v.out.items c.put_chars.new.out.items c.put_printed-in-loop-v.new.out.items c.in_err-put_printed-2.field-0.0 at c.in_ok-put_chars.ensures c.in_err-put_printed-2.ensures))

pub put_printed-requires : goal.put_printed-requires
put_printed-requires g c =
    let T = g.K.Look.things c.args.look.now in
    let N = g.K.Look.names c.args.look.now in
    let some : 0 < length c.args.values.now = omega arith in
    let at = slice_get_read c.args.values.now (length c.args.values.now) 0 c.first-item.result refl some c.first-item.is in
    record { whole = whole_at T N c.args.values.now 0 c.first-item.result at c.requires.whole }

pub put_printed-requires-in-loop-v : goal.put_printed-requires-in-loop-v
put_printed-requires-in-loop-v g c =
    let T = g.K.Look.things c.args.look.now in
    let N = g.K.Look.names c.args.look.now in
    let R = take (length c.args.values.now - 1) (drop 1 c.args.values.now) in
    let at = slice_get_read R (length R) c.loop-v.v-index c.v-item.result refl (omega arith) c.v-item.is in
    record { whole = whole_at T N R c.loop-v.v-index c.v-item.result at (whole_rest T N c.args.values.now c.requires.whole) }
