use Rattle.std.proofs.Common.{arith, ap, length}
use Rattle.gd_command.proofs.CheckLemmas.{whole_has_token, lexical_of, parser_finds, parser_in}
use Rattle.gd_command.proofs.judge.read_one.Goals as goal

pub read_tokens-requires : goal.read_tokens-requires
read_tokens-requires c = let some = whole_has_token _ _ c.in-Ok.ensures.whole in omega (arith, ap length c.deref.ensures.value)

pub returns-in-Ok-clause-finds : goal.returns-in-Ok-clause-finds
returns-in-Ok-clause-finds c = parser_finds c.args.file c.args.source.now _ _ c.read_tokens.result c.deref.ensures.value c.in-Ok.ensures.tokens c.read_tokens.ensures

pub returns-in-Ok-clause-file : goal.returns-in-Ok-clause-file
returns-in-Ok-clause-file c = parser_in c.args.file _ _ c.read_tokens.result c.deref.ensures.value c.in-Ok.ensures.whole c.read_tokens.ensures

pub returns-in-Err-Fault-clause-finds : goal.returns-in-Err-Fault-clause-finds
returns-in-Err-Fault-clause-finds c = lexical_of c.args.file c.args.source.now _ _ _ _ _ c.in-Err-Fault.field-0-is c.in-Err-Fault.pos-is c.in-Err-Fault.rule-is c.in-Err-Fault.ensures.first
