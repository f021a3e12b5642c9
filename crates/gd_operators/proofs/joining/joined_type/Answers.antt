use Rattle.std.proofs.Common.{sym, true≢false, ◌∙◌}
use Rattle.gd_model.specs.SameType.{same_type-Decides}
use Rattle.gd_operators.proofs.Joins.{one_type, two_types}
use Rattle.gd_operators.proofs.joining.joined_type.Goals as goal

pub returns-then-same : goal.returns-then-same
returns-then-same c =
    let t = c.args.t.now in
    let u = c.args.u.now in
    rw (one_type t u ((same_type-Decides t u).0 (sym c.same.ensures ∙ c.if-same.true))) c.copy.ensures

pub returns-else-same : goal.returns-else-same
returns-else-same c =
    let t = c.args.t.now in
    let u = c.args.u.now in
    sym (two_types t u (λ e. true≢false (sym (c.same.ensures ∙ (same_type-Decides t u).1 e) ∙ c.if-same.false)))
