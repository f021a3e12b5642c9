use Rattle.std.proofs.Common.{ap, Err, rules}
use Rattle.gd_command.specs.Words.{words_of}
use Rattle.gd_command.proofs.CallLemmas.{told-run, told-sample, told-check, told-usage}
use Rattle.gd_command.proofs.top.decide.Goals as goal

pub returns-in-Run-clause-told : goal.returns-in-Run-clause-told
returns-in-Run-clause-told g c = told-run (g.H.Shelf.files c.args.shelf.now) (words_of c.args.words.now) _ c.in-Run.options _ c.run.result (search rules) c.run.ensures.told

pub returns-in-Check-clause-told : goal.returns-in-Check-clause-told
returns-in-Check-clause-told g c = told-check (g.H.Shelf.files c.args.shelf.now) (words_of c.args.words.now) _ _ c.check.result
    (search rules) c.check.ensures.told

pub returns-in-Err-NoForm-clause-told : goal.returns-in-Err-NoForm-clause-told
returns-in-Err-NoForm-clause-told g c = told-usage (g.H.Shelf.files c.args.shelf.now) (words_of c.args.words.now)
    (c.in-Err-NoForm.ensures.no_form (ap Err c.in-Err-NoForm.field-0-is))

pub returns-in-Run-clause-no_form : goal.returns-in-Run-clause-no_form
returns-in-Run-clause-no_form g c = λ none. absurd (none _ c.in-Ok.ensures.means)

pub returns-in-Check-clause-no_form : goal.returns-in-Check-clause-no_form
returns-in-Check-clause-no_form g c = λ none. absurd (none _ c.in-Ok.ensures.means)

pub returns-in_ok-make_sample-in-Sample-clause-told : goal.returns-in_ok-make_sample-in-Sample-clause-told
returns-in_ok-make_sample-in-Sample-clause-told g c = told-sample (g.H.Shelf.files c.args.shelf.now) (words_of c.args.words.now) c.in-Sample.count c.in_ok-make_sample-in-Sample.field-0
    (g.H.Shelf.failed c.args.shelf.now) (search rules)
