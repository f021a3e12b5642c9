use Rattle.std.proofs.Common.{◌≡◌, ◌<◌, length, take, None, sym, ◌∙◌, arith}
use Rattle.gd_bytecode.specs.TypeFields.{entry_fault, is_met, type_fault}
use Rattle.gd_bytecode.proofs.Firsts.{first_more}
use Rattle.gd_bytecode.proofs.TypesMet.{met_more, same_fault}
use Rattle.gd_bytecode.proofs.types.type_fault.Goals as goal

pub loop-i-preserved : goal.loop-i-preserved
loop-i-preserved c =
    let within : c.loop-i.i < length c.args.types.now = omega arith in
    let same = same_fault c.loop-i.met c.args.types.now c.loop-i.i c.args.classes c.index-types-i.result c.loop-i.invariant.met in
    let none : entry_fault c.args.classes (is_met (take c.loop-i.i c.args.types.now)) c.loop-i.i c.index-types-i.result ≡ None =
    sym same ∙ sym c.entry_fault.ensures ∙ c.in_default.is in
    record {
      met = met_more c.loop-i.met c.add.new.met c.args.types.now c.loop-i.i c.index-types-i.result within c.index-types-i.is c.loop-i.invariant.met c.in_ok-add.ensures;
      rest = first_more (λ i t. entry_fault c.args.classes (is_met (take i c.args.types.now)) i t) c.args.types.now c.loop-i.i c.index-types-i.result (type_fault c.args.types.now c.args.classes) within c.index-types-i.is none c.loop-i.invariant.rest;
    }
