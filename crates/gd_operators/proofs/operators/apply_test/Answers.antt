use Rattle.gd_model.specs.Meant.{datum}
use Rattle.gd_answers.proofs.Answer.{answers_exact}
use Rattle.value_semantics.specs.Operators as spec
use Rattle.gd_operators.proofs.operators.apply_test.Goals as goal

pub returns-in-Equal : goal.returns-in-Equal
returns-in-Equal g c =
    rw c.in-Equal.is (c.verdict.ensures _ (answers_exact (spec.equal (g.K.Look.store c.args.look.now) (datum c.args.a.now) (datum c.args.b.now)) c.equal.result c.equal.ensures))

pub returns-in-NotEqual : goal.returns-in-NotEqual
returns-in-NotEqual g c =
    rw c.in-NotEqual.is (c.opposite.ensures _ (answers_exact (spec.equal (g.K.Look.store c.args.look.now) (datum c.args.a.now) (datum c.args.b.now)) c.equal-in-NotEqual.result c.equal-in-NotEqual.ensures))

pub returns-in-In : goal.returns-in-In
returns-in-In g c =
    rw c.in-In.is (c.verdict-in-In.ensures (spec.is_inside (g.K.Look.store c.args.look.now) (datum c.args.a.now) (datum c.args.b.now)) c.is_inside.ensures)

pub returns-in-NotIn : goal.returns-in-NotIn
returns-in-NotIn g c =
    rw c.in-NotIn.is (c.opposite-in-NotIn.ensures (spec.is_inside (g.K.Look.store c.args.look.now) (datum c.args.a.now) (datum c.args.b.now)) c.is_inside-in-NotIn.ensures)
