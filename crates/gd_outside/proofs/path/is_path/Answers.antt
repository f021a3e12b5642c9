use Rattle.std.proofs.Common.{rules, sym, ◌∙◌, lit<, tests}
use Rattle.std.proofs.lemmas.Iterator.Splits.{YieldsList-from_str_split}
use Rattle.std.proofs.lemmas.Iterator.Search.{all_from_yields_List}
use Rattle.std.proofs.lemmas.List.Sums.{AllPass-from_list_all, list_all-from_AllPass}
use Rattle.gd_outside.specs.Path.{is_segment}
use Rattle.gd_outside.proofs.path.is_path.Goals as goal

pub returns-then-text-le1024 : goal.returns-then-text-le1024
returns-then-text-le1024 c =
    let parts = YieldsList-from_str_split 47 c.args.text.now (lit< tt) c.split.ensures.text c.split.ensures.has_more c.split.ensures.pattern in
    let all = all_from_yields_List is_segment _ _ c.all.result c.all.ensures.ran parts (λ x b q k. search (rules, tests)) in (
      λ yes. record { not_long = c.if-text-le1024.true; names = AllPass-from_list_all is_segment _ (sym all ∙ yes) },
      λ path. all ∙ list_all-from_AllPass is_segment _ path.names,
    )
