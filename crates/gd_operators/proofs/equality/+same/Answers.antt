use Rattle.std.proofs.Common.{◌≡◌, ◌+◌, ◌-◌, ◌<◌, length, map, Ok, option_map, refl, ap, sym, ◌∙◌, subst, arith, rules, true}
use Rattle.std.proofs.lemmas.Option.{slice_get_read}
use Rattle.std.proofs.lemmas.Result.{err_from_is_err_and}
use Rattle.gd_model.specs.Meant.{datum}
use Rattle.gd_model.specs.Whole.{AllWhole}
use Rattle.gd_containers.proofs.AllWhole.{whole_at, whole_pair}
use Rattle.gd_containers.proofs.Meanings.{whole_value}
use Rattle.gd_answers.specs.Answers.{exact}
use Rattle.value_semantics.specs.Equality.{same_at, same_by, same_items, inside}
use Rattle.gd_operators.proofs.Equal.{also_yes, also_no, also_fault, arrays_too_deep, dicts_too_deep, other_size_arrays, same_size_arrays, other_size_dicts, same_size_dicts, items_here, pairs_here}
use Rattle.gd_operators.proofs.equality.+same.Goals as goal

pub same_arrays-returns-then-room-eq0 : goal.same_arrays-returns-then-room-eq0
same_arrays-returns-then-room-eq0 g t c = c.refused.ensures ∙ sym (arrays_too_deep (g.K.Look.store c.args.look.now) c.args.h.serial c.args.i.serial c.args.room c.if-room-eq0.true)

pub same_dicts-returns-then-room-eq0 : goal.same_dicts-returns-then-room-eq0
same_dicts-returns-then-room-eq0 g t c = c.refused.ensures ∙ sym (dicts_too_deep (g.K.Look.store c.args.look.now) c.args.h.serial c.args.i.serial c.args.room c.if-room-eq0.true)

pub same_arrays-returns-then-size : goal.same_arrays-returns-then-size
same_arrays-returns-then-size g t c =
    let room : c.args.room ≡ (c.args.room - 1) + 1 = omega arith in
    let ne : ¬ (length c.array_of-x.result.now.items ≡ length c.array_of-y.result.now.items) = λ e. c.if-size.true (c.size.ensures.value ∙ e ∙ sym c.size-2.ensures.value) in
    ap exact (sym (other_size_arrays (g.K.Look.store c.args.look.now) c.args.h.serial c.args.i.serial c.args.room (c.args.room - 1) _ _ room c.array_of-x.ensures.value c.array_of-y.ensures.value ne))

pub same_arrays-returns : goal.same_arrays-returns
same_arrays-returns g t c =
    let room : c.args.room ≡ (c.args.room - 1) + 1 = omega arith in
    let sizes : length c.array_of-x.result.now.items ≡ length c.array_of-y.result.now.items = sym c.size.ensures.value ∙ c.if-size.false ∙ c.size-2.ensures.value in
    c.same_items.ensures
    ∙ (λ k. exact (same_items (same_by (g.K.Look.store c.args.look.now) (inside (g.K.Look.store c.args.look.now) (c.args.room - 1))) (map datum (c.items.ensures k)) (map datum (c.items-2.ensures k))))
    ∙ ap exact (sym (same_size_arrays (g.K.Look.store c.args.look.now) c.args.h.serial c.args.i.serial c.args.room (c.args.room - 1) _ _ room c.array_of-x.ensures.value c.array_of-y.ensures.value sizes))

pub same_arrays-same_items-requires : goal.same_arrays-same_items-requires
same_arrays-same_items-requires g t c κs within =
    let whole = AllWhole (g.K.Look.things c.args.look.now) (g.K.Look.names c.args.look.now) in
    let sizes : length c.items.result.now ≡ length c.items-2.result.now = ap length c.items.ensures ∙ sym c.size.ensures.value ∙ c.if-size.false ∙ c.size-2.ensures.value ∙ ap length (sym c.items-2.ensures) in
    (search rules, (search rules, (subst whole (sym c.items.ensures) c.array_of-x.ensures.inside, (subst whole (sym c.items-2.ensures) c.array_of-y.ensures.inside, sizes))))

pub same_dicts-returns-then-size : goal.same_dicts-returns-then-size
same_dicts-returns-then-size g t c =
    let room : c.args.room ≡ (c.args.room - 1) + 1 = omega arith in
    let ne : ¬ (length c.dict_of-x.result.now.pairs ≡ length c.dict_of-y.result.now.pairs) = λ e. c.if-size.true (c.size.ensures.value ∙ e ∙ sym c.size-2.ensures.value) in
    ap exact (sym (other_size_dicts (g.K.Look.store c.args.look.now) c.args.h.serial c.args.i.serial c.args.room (c.args.room - 1) _ _ room c.dict_of-x.ensures.value c.dict_of-y.ensures.value ne))

pub same_dicts-returns : goal.same_dicts-returns
same_dicts-returns g t c =
    let room : c.args.room ≡ (c.args.room - 1) + 1 = omega arith in
    let sizes : length c.dict_of-x.result.now.pairs ≡ length c.dict_of-y.result.now.pairs = sym c.size.ensures.value ∙ c.if-size.false ∙ c.size-2.ensures.value in
    c.same_pairs.ensures
    ∙ ap exact (sym (same_size_dicts (g.K.Look.store c.args.look.now) c.args.h.serial c.args.i.serial c.args.room (c.args.room - 1) _ _ room c.dict_of-x.ensures.value c.dict_of-y.ensures.value sizes))

pub same_items-same_within-requires : goal.same_items-same_within-requires
same_items-same_within-requires g t c κs within =
    let within_x : c.loop-i.i < length c.args.x.now = omega arith in
    let within_y : c.loop-i.i < length c.args.y.now = omega arith in
    let whole_x = whole_at (g.K.Look.things c.args.look.now) (g.K.Look.names c.args.look.now) c.args.x.now c.loop-i.i c.index-x-i.result (slice_get_read c.args.x.now (length c.args.x.now) c.loop-i.i c.index-x-i.result refl within_x c.index-x-i.is) c.requires.left in
    let whole_y = whole_at (g.K.Look.things c.args.look.now) (g.K.Look.names c.args.look.now) c.args.y.now c.loop-i.i c.index-y-i.result (slice_get_read c.args.y.now (length c.args.y.now) c.loop-i.i c.index-y-i.result refl within_y c.index-y-i.is) c.requires.right in
    (search rules, (search rules, (whole_x, whole_y)))

pub same_items-loop-i-preserved : goal.same_items-loop-i-preserved
same_items-loop-i-preserved g t c =
    let eq = same_by (g.K.Look.store c.args.look.now) (inside (g.K.Look.store c.args.look.now) c.args.room) in
    let yes : exact (eq (datum c.index-x-i.result) (datum c.index-y-i.result)) ≡ Ok true = sym c.in_ok-same_within.ensures ∙ ap (λ b. Ok b) c.if-not-branch.false in
    sym (items_here eq c.args.x.now c.args.y.now c.loop-i.i c.index-x-i.result c.index-y-i.result (omega arith) (omega arith) c.index-x-i.is c.index-y-i.is ∙ also_yes _ _ yes) ∙ c.loop-i.invariant

pub same_items-returns-in_err-same_within : goal.same_items-returns-in_err-same_within
same_items-returns-in_err-same_within g t c =
    let eq = same_by (g.K.Look.store c.args.look.now) (inside (g.K.Look.store c.args.look.now) c.args.room) in
    let p = err_from_is_err_and c.from_residual.result c.from_residual.ensures.1 in
    rw (p.1, p.2) (sym (ap exact (sym c.loop-i.invariant ∙ items_here eq c.args.x.now c.args.y.now c.loop-i.i c.index-x-i.result c.index-y-i.result (omega arith) (omega arith) c.index-x-i.is c.index-y-i.is) ∙ also_fault _ _ _ (sym c.in_err-same_within.ensures)))

pub same_pairs-same_within-requires : goal.same_pairs-same_within-requires
same_pairs-same_within-requires g t c κs within =
    let T = g.K.Look.things c.args.look.now in
    let N = g.K.Look.names c.args.look.now in
    let left = (whole_pair T N c.args.x.now.pairs c.loop-i.i (c.in-Some.key.now, c.in-Some.a.now) (sym c.in-Some.ensures) c.requires.left).1 in
    let right = whole_value T N c.args.y.now.pairs c.in-Some.key.now c.in-Some-get.b.now (sym c.in-Some-get.ensures) c.requires.right in
    (search rules, (search rules, (left, right)))

pub same_pairs-loop-i-preserved : goal.same_pairs-loop-i-preserved
same_pairs-loop-i-preserved g t c =
    let eq = same_by (g.K.Look.store c.args.look.now) (inside (g.K.Look.store c.args.look.now) c.args.room) in
    let yes = ap (λ o. exact (same_at eq (datum c.in-Some.a.now) (option_map datum o))) (sym c.in-Some-get.ensures) ∙ sym c.in_ok-same_within.ensures ∙ ap (λ b. Ok b) c.if-not-branch.false in
    sym (pairs_here eq c.args.x.now.pairs c.args.y.now.pairs c.loop-i.i c.in-Some.key.now c.in-Some.a.now c.in-Some.ensures ∙ also_yes _ _ yes) ∙ c.loop-i.invariant

pub same_pairs-returns-in_err-same_within : goal.same_pairs-returns-in_err-same_within
same_pairs-returns-in_err-same_within g t c =
    let eq = same_by (g.K.Look.store c.args.look.now) (inside (g.K.Look.store c.args.look.now) c.args.room) in
    let p = err_from_is_err_and c.from_residual.result c.from_residual.ensures.1 in
    rw (p.1, p.2) (sym (ap exact (sym c.loop-i.invariant ∙ pairs_here eq c.args.x.now.pairs c.args.y.now.pairs c.loop-i.i c.in-Some.key.now c.in-Some.a.now c.in-Some.ensures) ∙ also_fault _ _ _ (ap (λ o. exact (same_at eq (datum c.in-Some.a.now) (option_map datum o))) (sym c.in-Some-get.ensures) ∙ sym c.in_err-same_within.ensures)))

pub same_pairs-returns-then-not-branch : goal.same_pairs-returns-then-not-branch
same_pairs-returns-then-not-branch g t c =
    let eq = same_by (g.K.Look.store c.args.look.now) (inside (g.K.Look.store c.args.look.now) c.args.room) in
    let no = ap (λ o. exact (same_at eq (datum c.in-Some.a.now) (option_map datum o))) (sym c.in-Some-get.ensures) ∙ sym c.in_ok-same_within.ensures ∙ ap (λ b. Ok b) c.if-not-branch.true in
    sym (ap exact (sym c.loop-i.invariant ∙ pairs_here eq c.args.x.now.pairs c.args.y.now.pairs c.loop-i.i c.in-Some.key.now c.in-Some.a.now c.in-Some.ensures) ∙ also_no _ _ no)

pub same_pairs-returns-in_default-get : goal.same_pairs-returns-in_default-get
same_pairs-returns-in_default-get g t c =
    let eq = same_by (g.K.Look.store c.args.look.now) (inside (g.K.Look.store c.args.look.now) c.args.room) in
    let no = ap (λ o. exact (same_at eq (datum c.in-Some.a.now) (option_map datum o))) (sym c.in_default-get.ensures) in
    sym (ap exact (sym c.loop-i.invariant ∙ pairs_here eq c.args.x.now.pairs c.args.y.now.pairs c.loop-i.i c.in-Some.key.now c.in-Some.a.now c.in-Some.ensures) ∙ also_no _ _ no)
