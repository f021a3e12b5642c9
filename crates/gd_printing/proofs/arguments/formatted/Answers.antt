use Rattle.std.proofs.Common.{Err, Result, subst, sym}
use Rattle.gd_containers.specs.declared.fault.ThingFault.{ThingFault}
use Rattle.gd_text.specs.declared.formatting.FormatFault.{FormatFault}
use Rattle.gd_text.specs.Format.{Formats}
use Rattle.gd_answers.specs.declared.fresh.Fresh.{Fresh}
use Rattle.gd_answers.specs.Answers.{Gives}
use Rattle.value_semantics.specs.Formatting.{format_gives}
use Rattle.gd_printing.proofs.Formats.{ok_gives, bad_gives, long_gives}
use Rattle.gd_printing.proofs.arguments.formatted.Goals as goal

pub returns-in-Ok : goal.returns-in-Ok
returns-in-Ok c = ok_gives c.args.pattern.now c.args.args.now c.in-Ok.text c.in-Ok.ensures.0 c.in-Ok.ensures.1

pub returns-in-Err-BadFormat : goal.returns-in-Err-BadFormat
returns-in-Err-BadFormat c =
    let P = c.args.pattern.now in
    let A = c.args.args.now in
    let none = subst (λ (f : FormatFault). Formats P A (Err f)) c.in-Err-BadFormat.field-0-is c.in-Err-BadFormat.ensures in
    subst (λ (r : Result Fresh ThingFault). Gives (format_gives P A) r) (sym c.refused.ensures) (bad_gives P A none)

pub returns-in-Err-TooLong : goal.returns-in-Err-TooLong
returns-in-Err-TooLong c =
    let P = c.args.pattern.now in
    let A = c.args.args.now in
    let long = subst (λ (f : FormatFault). Formats P A (Err f)) c.in-Err-TooLong.field-0-is c.in-Err-TooLong.ensures in
    subst (λ (r : Result Fresh ThingFault). Gives (format_gives P A) r) (sym c.refused-in-Err-TooLong.ensures) (long_gives P A long.0 long.1 long.2)
