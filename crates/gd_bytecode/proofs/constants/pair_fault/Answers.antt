use Rattle.std.proofs.Common.{◌≡◌, subst}
use Rattle.std.specs.Prelude.{IfNone, IfOk}
use Rattle.gd_bytecode.specs.Numbering.{HasKeys}
use Rattle.gd_bytecode.proofs.Pairs.{key_pair, keys_pair}
use Rattle.gd_bytecode.proofs.constants.pair_fault.Goals as goal

pub returns-then-j-eq0-clause-fault : goal.returns-then-j-eq0-clause-fault
returns-then-j-eq0-clause-fault c earlier has =
    subst (λ y. IfOk c.key_fault.result (λ fault. fault ≡ y))
    (key_pair c.args.program.now c.args.i c.args.key.now c.args.value.now earlier c.args.j c.args.operand c.if-j-eq0.true)
    (c.key_fault.ensures.fault earlier has)

pub returns-then-j-eq0-clause-met : goal.returns-then-j-eq0-clause-met
returns-then-j-eq0-clause-met c earlier has =
    subst (λ ks. IfOk c.key_fault.result (λ fault. IfNone fault (HasKeys c.args.numbers.now c.key_fault.new.met ks)))
    (keys_pair earlier c.args.j c.args.operand c.if-j-eq0.true) (c.key_fault.ensures.met earlier has)
