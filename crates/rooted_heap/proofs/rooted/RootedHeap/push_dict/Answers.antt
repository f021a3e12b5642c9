use Rattle.std.proofs.Common.{ap, ◌∙◌, sym, subst, arith, length, OnOk}
use Rattle.std.specs.List.{All}
use Rattle.gd_model.specs.View.{DictView}
use Rattle.gd_model.specs.Whole.{pair_values}
use Rattle.counted_heap.specs.declared.thing.Thing.TheVariants.{Dict}
use Rattle.rooted_heap.specs.Making.{PushesThing}
use Rattle.rooted_heap.specs.Rooted.{CanHold}
use Rattle.rooted_heap.proofs.Filled.{may_refuse}
use Rattle.rooted_heap.proofs.Puts.{length_pair_values}
use Rattle.rooted_heap.proofs.rooted.RootedHeap.push_dict.Goals as goal

pub push_filled-requires-clause-free : goal.push_filled-requires-clause-free
push_filled-requires-clause-free c = ap (λ (d : DictView). pair_values d.pairs) (c.in_ok-empty.ensures ∙ c.new.ensures)

pub push_filled-requires-clause-held : goal.push_filled-requires-clause-held
push_filled-requires-clause-held c = subst (λ (d : DictView). All (CanHold c.args.self.now) (pair_values d.pairs)) (sym c.in_ok-full.ensures) c.requires.held

pub push_filled-requires-clause-few : goal.push_filled-requires-clause-few
push_filled-requires-clause-few c =
    omega (
      arith,
      ap (λ (d : DictView). length (pair_values d.pairs)) c.in_ok-full.ensures,
      length_pair_values c.args.dict.pairs,
      c.size-size.ensures.value,
      c.size-size.ensures.limit,
    )

pub returns-clause-faults : goal.returns-clause-faults
returns-clause-faults c = may_refuse _ c.push_filled.result c.push_filled.ensures.faults

pub returns-clause-ok : goal.returns-clause-ok
returns-clause-ok c = subst (λ (d : DictView). OnOk c.push_filled.result (PushesThing c.args.self.now (Dict d) c.push_filled.new.self)) c.in_ok-full.ensures c.push_filled.ensures.ok
