use Rattle.std.proofs.Common.{◌<◌, length, arith}
use Rattle.gd_bytecode.specs.ClassFields.{variables_fault}
use Rattle.gd_bytecode.proofs.Names.{variables_step}
use Rattle.gd_bytecode.proofs.classes.variables_fault.Goals as goal

pub loop-j-preserved : goal.loop-j-preserved
loop-j-preserved c =
    let lt : c.loop-j.j < length c.items-variables.result.now = omega arith in
    let step = variables_step c.args.program.now c.args.numbers.now c.requires.numbers c.args.i c.args.class.now c.loop-j.met c.name_fault.new.met c.loop-j.j c.in_ok-field.field-0 c.variable_fault.result
    (variables_fault c.args.program.now c.args.i c.args.class.now) c.items-variables.result.now _ c.items-variables.ensures lt c.variable_fault.ensures c.in_default-variable_fault.is
    c.in_ok-field.ensures.fault c.in_ok-field.ensures.met c.in_default.is c.loop-j.invariant.met c.loop-j.invariant.rest in
    record { met = step.0; rest = step.1 }
