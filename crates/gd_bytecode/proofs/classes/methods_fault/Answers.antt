use Rattle.std.proofs.Common.{◌<◌, length, arith}
use Rattle.gd_bytecode.specs.ClassFields.{methods_fault}
use Rattle.gd_bytecode.proofs.Names.{methods_first, methods_step}
use Rattle.gd_bytecode.proofs.classes.methods_fault.Goals as goal

pub loop-j-preserved : goal.loop-j-preserved
loop-j-preserved c =
    let lt : c.loop-j.j < length c.items-methods.result.now = omega arith in
    let step = methods_step c.args.program.now c.args.numbers.now c.requires.numbers c.args.i c.args.class.now c.loop-j.met c.name_fault.new.met c.loop-j.j c.in_ok-field.field-0 c.function_fault.result
    (methods_fault c.args.program.now c.args.i c.args.class.now) c.items-methods.result.now _ c.items-methods.ensures lt c.function_fault.ensures c.in_default-function_fault.is
    c.in_ok-field.ensures.fault c.in_ok-field.ensures.met c.in_default.is c.loop-j.invariant.met c.loop-j.invariant.rest in
    record { met = step.0; rest = step.1 }

pub returns-in-Some-clause-fault : goal.returns-in-Some-clause-fault
returns-in-Some-clause-fault c =
    let lt : c.loop-j.j < length c.items-methods.result.now = omega arith in
    methods_first c.args.program.now c.args.numbers.now c.requires.numbers c.args.i c.args.class.now c.loop-j.met c.name_fault.new.met c.loop-j.j c.in_ok-field.field-0 c.in_ok-field.field-0
    (methods_fault c.args.program.now c.args.i c.args.class.now) c.items-methods.result.now _ c.in-Some.field c.items-methods.ensures lt
    c.in_ok-field.ensures.fault c.in-Some.is c.loop-j.invariant.met c.loop-j.invariant.rest
