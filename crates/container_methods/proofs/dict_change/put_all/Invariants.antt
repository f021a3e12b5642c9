use Rattle.std.proofs.Common.{◌≡◌, ◌++◌, length, reverse}
use Rattle.container_methods.specs.Dicts.{put_all, replaced}
use Rattle.container_methods.proofs.dict_change.put_all.Given as goal

-- what is still to be put comes from the end of the list
abbrev pub invariant-loop-key : goal.invariant-loop-key
invariant-loop-key l = record {
  put : put_all l.d.pairs (reverse l.pairs.items) ≡ put_all l.initial.d.pairs (reverse l.initial.pairs.items);
  left : l.old.items ++ replaced l.d.pairs (reverse l.pairs.items) ≡ replaced l.initial.d.pairs (reverse l.initial.pairs.items);
  same : l.d ≡ record l.initial.d { pairs = l.d.pairs };
}

abbrev pub decreases-loop-key : goal.decreases-loop-key
decreases-loop-key l = length l.pairs.items
