use Rattle.std.proofs.Common.{◌<◌, length, arith}
use Rattle.gd_bytecode.specs.ConstFields.{dict_fault}
use Rattle.gd_bytecode.proofs.Pairs.{pairs_first, pairs_step}
use Rattle.gd_bytecode.proofs.constants.dict_fault.Goals as goal

pub loop-j-preserved : goal.loop-j-preserved
loop-j-preserved c =
    let lt : c.loop-j.j < length c.args.operands.now = omega arith in
    pairs_step c.args.program.now c.args.numbers.now c.args.i c.args.key.now c.args.value.now c.args.operands.now
    (dict_fault c.args.program.now c.args.i c.args.key.now c.args.value.now c.args.operands.now) c.loop-j.met c.pair_fault.new.met c.loop-j.j _
    c.in_ok-field.field-0 lt c.in_ok-field.ensures.fault c.in_ok-field.ensures.met c.in_default.is c.loop-j.invariant

pub returns-in-Some : goal.returns-in-Some
returns-in-Some c =
    let lt : c.loop-j.j < length c.args.operands.now = omega arith in
    pairs_first c.args.program.now c.args.numbers.now c.args.i c.args.key.now c.args.value.now c.args.operands.now
    (dict_fault c.args.program.now c.args.i c.args.key.now c.args.value.now c.args.operands.now) c.loop-j.met c.loop-j.j _
    c.in_ok-field.field-0 c.in-Some.field lt c.in_ok-field.ensures.fault c.in-Some.is c.loop-j.invariant
