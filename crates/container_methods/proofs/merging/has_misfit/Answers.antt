use Rattle.std.proofs.Common.{not, ap, sym, ◌∙◌, arith}
use Rattle.assignability.specs.Fits.{fits}
use Rattle.gd_containers.proofs.AllWhole.{whole_pair}
use Rattle.container_methods.specs.Dicts.{both_fit}
use Rattle.container_methods.proofs.Merged.{fit_on, misfit_at, fit_end}
use Rattle.container_methods.proofs.merging.has_misfit.Goals as goal

pub is_misfit-requires-clause-key : goal.is_misfit-requires-clause-key
is_misfit-requires-clause-key g c =
    (whole_pair (g.K.Look.things c.args.look.now) (g.K.Look.names c.args.look.now) c.args.other.now.pairs c.loop-i.i (c.in-Some.key.now, c.in-Some.value.now) (sym c.in-Some.ensures) c.requires.whole).0

pub is_misfit-requires-clause-whole : goal.is_misfit-requires-clause-whole
is_misfit-requires-clause-whole g c =
    (whole_pair (g.K.Look.things c.args.look.now) (g.K.Look.names c.args.look.now) c.args.other.now.pairs c.loop-i.i (c.in-Some.key.now, c.in-Some.value.now) (sym c.in-Some.ensures) c.requires.whole).1

pub loop-i-preserved : goal.loop-i-preserved
loop-i-preserved g c =
    fit_on c.args.over c.args.d.now.pairs (both_fit (fits (g.B.Bases.bases c.args.bases.now) (g.K.Look.store c.args.look.now) c.args.d.now.key_type) (fits (g.B.Bases.bases c.args.bases.now) (g.K.Look.store c.args.look.now) c.args.d.now.value_type)) c.args.other.now.pairs c.loop-i.i c.in-Some.key.now c.in-Some.value.now c.in-Some.ensures (sym c.in_ok-is_misfit.ensures ∙ c.if-branch.false) ∙ c.loop-i.invariant

pub returns-then-branch : goal.returns-then-branch
returns-then-branch g c =
    ap not (sym (sym c.loop-i.invariant ∙ misfit_at c.args.over c.args.d.now.pairs (both_fit (fits (g.B.Bases.bases c.args.bases.now) (g.K.Look.store c.args.look.now) c.args.d.now.key_type) (fits (g.B.Bases.bases c.args.bases.now) (g.K.Look.store c.args.look.now) c.args.d.now.value_type)) c.args.other.now.pairs c.loop-i.i c.in-Some.key.now c.in-Some.value.now c.in-Some.ensures (sym c.in_ok-is_misfit.ensures ∙ c.if-branch.true)))

pub returns : goal.returns
returns g c = ap not (sym (sym c.loop-i.invariant ∙ fit_end c.args.over c.args.d.now.pairs (both_fit (fits (g.B.Bases.bases c.args.bases.now) (g.K.Look.store c.args.look.now) c.args.d.now.key_type) (fits (g.B.Bases.bases c.args.bases.now) (g.K.Look.store c.args.look.now) c.args.d.now.value_type)) c.args.other.now.pairs c.loop-i.i (omega arith)))
