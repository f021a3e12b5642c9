use Rattle.std.proofs.Common.{rules, sym, ap, ◌∙◌, subst, List, reverse}
use Rattle.std.specs.List.Sorted.{IsNonDecreasingBy}
use Rattle.std.proofs.lemmas.List.{reverse-reverse}
use Rattle.std.proofs.lemmas.List.Sorted.{IsNonDecreasingBy-from_sort_by_key, IsPermutation-trans}
use Rattle.slot_arena.specs.declared.handle.Handle.{Handle}
use Rattle.counted_heap.proofs.sort.sort_falling.Goals as goal

pub returns-then-len-gt1-clause-all : goal.returns-then-len-gt1-clause-all
returns-then-len-gt1-clause-all c = IsPermutation-trans _ _ _ c.sort_unstable_by_key.ensures.permutation c.reverse.ensures.permutation

pub returns-then-len-gt1-clause-falling : goal.returns-then-len-gt1-clause-falling
returns-then-len-gt1-clause-falling c =
    let sorted = IsNonDecreasingBy-from_sort_by_key (λ h. h.serial) c.sort_unstable_by_key.new.self.items c.sort_unstable_by_key.ensures.sorted (λ a r q k. search rules) in
    let back = ap reverse c.reverse.ensures.items ∙ reverse-reverse c.sort_unstable_by_key.new.self.items in
    subst (λ (l : List Handle). IsNonDecreasingBy (λ h. h.serial) l) (sym back) sorted
