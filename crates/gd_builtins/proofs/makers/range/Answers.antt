use Rattle.std.proofs.Common.{◌≡◌, ℕ, ◌+◌, ◌^◌, ◌<◌, length, sym, ap, subst, ◌∙◌, ℤ, ◌+ℤ◌, w64, of_z, to_z, SFits, rules, arith}
use Rattle.std.specs.Int.{int_wrap}
use Rattle.std.proofs.lemmas.Int.{to_z-of_z, int_wrap_fits, int_wrap-add_left, wrapping_add_onto}
use Rattle.std.proofs.lemmas.List.{length-map}
use Rattle.gd_model.specs.Meant.{datum, array_thing}
use Rattle.gd_model.specs.Store.{ArrayThing}
use Rattle.gd_builtins.proofs.Ranges.{int_after, range_more, range_made, ints_length, ints_fit, after_more, step_there}
use Rattle.gd_builtins.proofs.makers.range.Goals as goal

pub push-requires-clause-room : goal.push-requires-clause-room
push-requires-clause-room c =
    let size : length c.loop-turn.all.items ≡ c.loop-turn._turn = sym (length-map c.loop-turn.all.items datum) ∙ ap (λ (a : ArrayThing). length a.items) c.loop-turn.invariant.0 ∙ ints_length _ _ c.loop-turn._turn in
    omega arith

pub loop-turn-preserved : goal.loop-turn-preserved
loop-turn-preserved c =
    let f = to_z w64 (of_z w64 c.args.first) in
    let e = to_z w64 (of_z w64 c.args.end) in
    let s = to_z w64 (of_z w64 c.args.step) in
    let k = c.loop-turn._turn in
    let i = c.loop-turn.invariant in
    let first : SFits w64 f = search rules in
    let end : SFits w64 e = search rules in
    let next : SFits w64 (int_after f s k) = ints_fit f e s k first end (subst (λ (n : ℕ). k < n) c.range_size-size.ensures c.loop-turn-test.true) in (
      range_more f s k _ c.loop-turn.all c.push.new.array i.0 (i.1 ∙ int_wrap_fits w64 (int_after f s k) next) c.in_ok-push.ensures.ok,
      wrapping_add_onto w64 c.loop-turn.next-bits c.args.step (search rules) c.ranges.step
          ∙ ap (λ (z : ℤ). int_wrap w64 (z +ℤ c.args.step)) i.1
          ∙ int_wrap-add_left w64 (int_after f s k) c.args.step
          ∙ ap (λ (z : ℤ). int_wrap w64 (int_after f s k +ℤ z)) (sym (to_z-of_z w64 c.args.step c.ranges.step))
          ∙ ap (λ (z : ℤ). int_wrap w64 z) (after_more f s k),
    )

pub returns : goal.returns
returns c =
    range_made c.args.first c.args.end c.args.step _ _ _ c.range_size-size.result c.loop-turn._turn (array_thing c.loop-turn.all)
    (to_z-of_z w64 c.args.first c.ranges.first) (to_z-of_z w64 c.args.end c.ranges.end) (to_z-of_z w64 c.args.step c.ranges.step)
    (step_there c.args.step c.if-step-eq0.false) c.range_size-size.ensures (omega arith) (omega arith) c.loop-turn.invariant.0
