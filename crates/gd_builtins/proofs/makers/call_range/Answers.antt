use Rattle.std.proofs.Common.{map, w64, SFits, rules}
use Rattle.std.proofs.lemmas.Int.{to_z-of_z}
use Rattle.gd_answers.proofs.Answer.{more_gives}
use Rattle.gd_model.specs.Meant.{datum}
use Rattle.value_semantics.specs.Builtins.{range_args}
use Rattle.value_semantics.specs.Ranges.{range_gives}
use Rattle.gd_builtins.proofs.Ranges.{same_range}
use Rattle.gd_builtins.proofs.makers.call_range.Goals as goal

pub returns : goal.returns
returns c =
    let f = c.in_ok-first.first in
    let e = c.in_ok-first.end in
    let s = c.in_ok-first.step in
    let ff : SFits w64 f = search rules in
    let fe : SFits w64 e = search rules in
    let fs : SFits w64 s = search rules in
    more_gives (λ p. range_gives p.0 p.1 p.2) (range_args (map datum c.args.args.now)) (f, e, s) c.range.result c.in_ok-first.ensures
    (same_range f e s _ _ _ c.range.result (to_z-of_z w64 f ff) (to_z-of_z w64 e fe) (to_z-of_z w64 s fs) c.range.ensures)
