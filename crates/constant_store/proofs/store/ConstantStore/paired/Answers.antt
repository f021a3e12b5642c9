use Rattle.std.proofs.Common.{◌≡◌, ◌<◌, length, map, refl, ap, sym, ◌∙◌}
use Rattle.std.proofs.lemmas.Result.{err_from_is_err_and}
use Rattle.gd_model.specs.Meant.{pair_datum}
use Rattle.constant_store.specs.Things.{value_pair}
use Rattle.constant_store.proofs.Literal.{still_open, put_more, put_not, put_all}
use Rattle.constant_store.proofs.Put.{pairs_at}
use Rattle.constant_store.proofs.Read.{read_map}
use Rattle.constant_store.proofs.store.ConstantStore.paired.Goals as goal

pub put-requires-clause-key : goal.put-requires-clause-key
put-requires-clause-key c =
    (pairs_at c.args.self.now (map value_pair c.args.pairs.now) c.loop-i.i (value_pair c.index-pairs-i.result) (read_map value_pair c.args.pairs.now c.loop-i.i c.index-pairs-i.result c.loop-i-test.true c.index-pairs-i.is) c.requires).0

pub put-requires-clause-value : goal.put-requires-clause-value
put-requires-clause-value c =
    (pairs_at c.args.self.now (map value_pair c.args.pairs.now) c.loop-i.i (value_pair c.index-pairs-i.result) (read_map value_pair c.args.pairs.now c.loop-i.i c.index-pairs-i.result c.loop-i-test.true c.index-pairs-i.is) c.requires).1

pub loop-i-preserved : goal.loop-i-preserved
loop-i-preserved c = record {
  shape = still_open c.args.self.now c.args.key c.args.value c.args.pairs.now c.loop-i.dict c.put.new.dict c.loop-i.invariant.shape c.put.ensures.types;
  rest = put_more c.args.self.now c.args.key c.args.value c.args.pairs.now c.loop-i.dict c.put.new.dict c.loop-i.i c.index-pairs-i.result c.loop-i-test.true c.index-pairs-i.is c.loop-i.invariant.shape c.loop-i.invariant.rest c.in_ok-put.ensures.put;
}

pub returns-in_err-put : goal.returns-in_err-put
returns-in_err-put c =
    let p = err_from_is_err_and c.from_residual.result c.from_residual.ensures.1 in
    rw (p.1, p.2)
    (put_not c.args.self.now c.args.key c.args.value c.args.pairs.now (λ (done : Unit {0}). map pair_datum c.put.new.dict.pairs) c.loop-i.dict c.loop-i.i c.index-pairs-i.result c.in_err-put.field-0.0
    c.loop-i-test.true c.index-pairs-i.is c.loop-i.invariant.shape c.loop-i.invariant.rest c.in_err-put.ensures.put)

pub returns : goal.returns
returns c =
    put_all c.args.self.now c.args.key c.args.value c.args.pairs.now c.loop-i.dict c.fix.new.self c.loop-i.i c.loop-i-test.false c.loop-i.invariant.shape c.loop-i.invariant.rest c.fix.ensures
