use Rattle.std.proofs.Common.{◌≡◌, ◌≤◌, ℕ, Bool, true, false, cond, is_none, refl, ap, ◌∙◌, arith}
use mir.Val.{bool_byte}
use Rattle.gd_model.specs.View.{value_at}
use Rattle.container_methods.proofs.Merged.{fresh_at, fresh_end}
use Rattle.container_methods.proofs.merging.fresh.Goals as goal

byte : (b : Bool) → bool_byte b ≡ cond b 1 0
byte true = refl
byte false = refl

at_most_one : (b : Bool) (more : ℕ) → more ≡ cond b 1 0 → more ≤ 1
at_most_one true more e = omega arith
at_most_one false more e = omega arith

pub overflow_add-all : goal.overflow_add-all
overflow_add-all c =
    let few : c.from-all.result ≤ 1 = at_most_one c.is_put.result c.from-all.result (c.from-all.ensures ∙ byte c.is_put.result) in
    let done = c.loop-i.invariant.few in
    omega arith

pub loop-i-preserved : goal.loop-i-preserved
loop-i-preserved c =
    let one = c.from-all.ensures ∙ byte c.is_put.result in
    let few : c.from-all.result ≤ 1 = at_most_one c.is_put.result c.from-all.result one in
    let is : c.from-all.result ≡ cond (is_none (value_at c.args.d.now.pairs c.in-Some.key.now)) 1 0 = one ∙ ap (λ b. cond b 1 0) c.is_put.ensures in
    let here = fresh_at c.args.d.now.pairs c.args.other.now.pairs c.loop-i.i c.in-Some.key.now c.in-Some.field-0-1.now c.in-Some.ensures in
    let before = c.loop-i.invariant.count in
    record { few = omega arith; count = omega arith }

pub returns-clause-count : goal.returns-clause-count
returns-clause-count c =
    let end = fresh_end c.args.d.now.pairs c.args.other.now.pairs c.loop-i.i (omega arith) in
    let before = c.loop-i.invariant.count in
    omega arith
