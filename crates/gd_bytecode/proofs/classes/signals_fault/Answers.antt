use Rattle.std.proofs.Common.{◌<◌, length, arith}
use Rattle.gd_bytecode.specs.ClassFields.{signals_fault}
use Rattle.gd_bytecode.proofs.Names.{signals_first, signals_step}
use Rattle.gd_bytecode.proofs.classes.signals_fault.Goals as goal

pub loop-j-preserved : goal.loop-j-preserved
loop-j-preserved c =
    let lt : c.loop-j.j < length c.items-signals.result.now = omega arith in
    let step = signals_step c.args.program.now c.args.numbers.now c.requires.numbers c.args.i c.args.class.now c.loop-j.met c.name_fault.new.met c.loop-j.j c.in_ok-field.field-0 c.in_ok-field.field-0
    (signals_fault c.args.program.now c.args.i c.args.class.now) c.items-signals.result.now c.items-signals.ensures lt
    c.in_ok-field.ensures.fault c.in_ok-field.ensures.met c.in_default.is c.loop-j.invariant.met c.loop-j.invariant.rest in
    record { met = step.0; rest = step.1 }

pub returns-in-Some : goal.returns-in-Some
returns-in-Some c =
    let lt : c.loop-j.j < length c.items-signals.result.now = omega arith in
    signals_first c.args.program.now c.args.numbers.now c.requires.numbers c.args.i c.args.class.now c.loop-j.met c.name_fault.new.met c.loop-j.j c.in_ok-field.field-0 c.in_ok-field.field-0
    (signals_fault c.args.program.now c.args.i c.args.class.now) c.items-signals.result.now c.in-Some.field c.items-signals.ensures lt
    c.in_ok-field.ensures.fault c.in-Some.is c.loop-j.invariant.met c.loop-j.invariant.rest
