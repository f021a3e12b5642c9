use Rattle.std.proofs.Common.{rules}
use Rattle.gd_outside.specs.declared.sink.SinkFault.{SinkFault}
use Rattle.gd_outside.specs.declared.sink.SinkFault.TheVariants.{Failed, NoMemory}
use Rattle.gd_command.specs.Words.{words_of}
use Rattle.gd_command.proofs.CallLemmas.{answers-whole, comes_to, answers-part, answers-nothing, only-usage, only-read_fault, never-write_fault, usage-status, left-by}
use Rattle.gd_command.proofs.top.gd.Goals as goal

pub returns-in_default-clause-output : goal.returns-in_default-clause-output
returns-in_default-clause-output g c =
    answers-nothing (g.H.Shelf.files c.args.shelf.now) (g.K.Sink.contents c.args.out.now) (words_of c.args.words.now) _ _

pub returns-in-Ok-perform-clause-output : goal.returns-in-Ok-perform-clause-output
returns-in-Ok-perform-clause-output g c =
    answers-whole (g.H.Shelf.files c.args.shelf.now) (g.K.Sink.contents c.args.out.now) (g.K.Sink.contents c.perform.new.out)
    (words_of c.args.words.now) _ _ c.in-Ok.answer c.perform.result c.in-Ok-perform.status
    (search rules) c.in-Ok.ensures.told c.perform.ensures.writes

pub returns-in-Err-Failed-clause-output : goal.returns-in-Err-Failed-clause-output
returns-in-Err-Failed-clause-output g c =
    answers-part (g.H.Shelf.files c.args.shelf.now) (g.K.Sink.contents c.args.out.now) (g.K.Sink.contents c.perform.new.out)
    (words_of c.args.words.now) _ _ c.in-Ok.answer c.perform.result Failed
    (search rules) c.in-Ok.ensures.told c.in-Ok.ensures.cause c.perform.ensures.writes

pub returns-in-Err-NoMemory-clause-output : goal.returns-in-Err-NoMemory-clause-output
returns-in-Err-NoMemory-clause-output g c =
    answers-part (g.H.Shelf.files c.args.shelf.now) (g.K.Sink.contents c.args.out.now) (g.K.Sink.contents c.perform.new.out)
    (words_of c.args.words.now) _ _ c.in-Ok.answer c.perform.result NoMemory
    (search rules) c.in-Ok.ensures.told c.in-Ok.ensures.cause c.perform.ensures.writes

pub returns-in-Ok-perform-clause-no_form : goal.returns-in-Ok-perform-clause-no_form
returns-in-Ok-perform-clause-no_form g c = λ none. usage-status c.in-Ok.answer c.in-Ok-perform.status (c.in-Ok.ensures.no_form none)
    (comes_to SinkFault _ _ _ _ c.in-Ok-perform.ensures.writes)

pub returns-in-Ok-perform-clause-usage : goal.returns-in-Ok-perform-clause-usage
returns-in-Ok-perform-clause-usage g c = λ is. c.in-Ok.ensures.usage
    (only-usage c.in-Ok.answer c.in-Ok-perform.status (comes_to SinkFault _ _ _ _ c.in-Ok-perform.ensures.writes) is)

pub returns-in-Ok-perform-clause-read_fault : goal.returns-in-Ok-perform-clause-read_fault
returns-in-Ok-perform-clause-read_fault g c = λ is. c.in-Ok.ensures.cause
    (only-read_fault c.in-Ok.answer c.in-Ok-perform.status (comes_to SinkFault _ _ _ _ c.in-Ok-perform.ensures.writes) is)

pub returns-in-Ok-perform-clause-write_fault : goal.returns-in-Ok-perform-clause-write_fault
returns-in-Ok-perform-clause-write_fault g c = λ is. absurd
    (never-write_fault c.in-Ok.answer c.in-Ok-perform.status (comes_to SinkFault _ _ _ _ c.in-Ok-perform.ensures.writes) is)

pub returns-in-Ok-perform-clause-left : goal.returns-in-Ok-perform-clause-left
returns-in-Ok-perform-clause-left g c =
    (left-by c.in-Ok.answer c.in-Ok-perform.status _ _ (search rules) c.in-Ok-perform.ensures.left (comes_to SinkFault _ _ _ _ c.in-Ok-perform.ensures.writes)).0

pub returns-in-Ok-perform-clause-fault : goal.returns-in-Ok-perform-clause-fault
returns-in-Ok-perform-clause-fault g c =
    (left-by c.in-Ok.answer c.in-Ok-perform.status _ _ (search rules) c.in-Ok-perform.ensures.left (comes_to SinkFault _ _ _ _ c.in-Ok-perform.ensures.writes)).1

pub returns-in-Ok-perform-clause-out_of_turns : goal.returns-in-Ok-perform-clause-out_of_turns
returns-in-Ok-perform-clause-out_of_turns g c =
    (left-by c.in-Ok.answer c.in-Ok-perform.status _ _ (search rules) c.in-Ok-perform.ensures.left (comes_to SinkFault _ _ _ _ c.in-Ok-perform.ensures.writes)).2
