use Rattle.std.proofs.Common.{subst, sym, bytes_eq}
use Rattle.std.specs.Cmp.Lexicographic.{nat_list_cmp_total, texts_ties}
use Rattle.std.proofs.lemmas.List.Filters.{dedup_is}
use Rattle.std.proofs.lemmas.List.Kept.{IsStrictlySortedBy-dedup}
use Rattle.gd_outside.specs.Files.{IsRising}
use Rattle.gd_outside.proofs.folder_walk.in_order.Goals as goal

pub returns : goal.returns
returns c = subst IsRising (sym (dedup_is bytes_eq _ _ c.dedup.ensures.filtered)) (IsStrictlySortedBy-dedup nat_list_cmp_total texts_ties _ c.in_ok-sort.ensures.sorted)
