use Rattle.std.proofs.Common.{rules}
use Rattle.std.specs.Ordering.{is_lt, nat_cmp}
use Rattle.std.specs.Cmp.Lexicographic.{slice_cmp, nat_list_cmp_total}
use Rattle.std.proofs.lemmas.List.Sorted.{IsPermutation-map, ranks_by}
use Rattle.std.proofs.lemmas.Fn.{always_returns_same}
use Rattle.gd_outside.proofs.Rising.{IsRising-files}
use Rattle.gd_outside.proofs.memory_shelf.MemoryShelf.new.Goals as goal

pub invariant_of-result : goal.invariant_of-result
invariant_of-result c =
    let sorted = c.in_ok-sort_by.ensures.sorted (λ a b. is_lt (slice_cmp nat_cmp a.0 b.0)) (ranks_by nat_list_cmp_total (λ file. file.0)) (always_returns_same _ _ _ (λ a r f k. search rules)) in
    IsRising-files _ _ c.sort_by.ensures.permutation sorted c.requires

pub returns-clause-files : goal.returns-clause-files
returns-clause-files c = IsPermutation-map (λ file. (file.0, file.1.items)) _ _ c.sort_by.ensures.permutation

pub returns-clause-rising : goal.returns-clause-rising
returns-clause-rising c =
    let sorted = c.in_ok-sort_by.ensures.sorted (λ a b. is_lt (slice_cmp nat_cmp a.0 b.0)) (ranks_by nat_list_cmp_total (λ file. file.0)) (always_returns_same _ _ _ (λ a r f k. search rules)) in
    IsRising-files _ _ c.sort_by.ensures.permutation sorted c.requires
