use Rattle.std.proofs.Common.{◌<◌, ◌≤◌, length, get_or, pos, arith}
use Rattle.std.specs.Ordering.{int_eq}
use Rattle.std.proofs.lemmas.Bool.Decides.{Decides-int_eq}
use Rattle.std.proofs.lemmas.Option.{slice_get-get_or}
use Rattle.gd_bytecode.proofs.Numbered.{all_numbered, number_more}
use Rattle.gd_bytecode.proofs.numbers.number_ints.Goals as goal

pub loop-int-preserved : goal.loop-int-preserved
loop-int-preserved c =
    let lt : c.loop-int.int-index < length c.args.ints.now = omega arith in
    record {
      count = omega (arith, c.in_ok-push.ensures.len, c.loop-int.invariant.count);
      apart = c.in_ok-number.ensures.unique;
      placed = number_more int_eq Decides-int_eq c.loop-int.met.keys c.number_int.new.met.keys c.args.ints.now c.loop-int.numbers.items
          c.push.new.self.items (get_or c.args.ints.now c.loop-int.int-index (pos 0)) c.in_ok-number.number c.loop-int.int-index c.in_ok-push.ensures.items c.in_ok-number.ensures.keys
          c.in_ok-number.ensures.stored (slice_get-get_or c.args.ints.now c.loop-int.int-index (pos 0) lt)
          c.loop-int.invariant.count c.loop-int.invariant.placed;
    }

pub returns : goal.returns
returns c =
    let few : c.loop-int.int-index ≤ length c.args.ints.now = omega arith in
    let all : length c.args.ints.now ≤ c.loop-int.int-index = omega arith in
    all_numbered int_eq Decides-int_eq c.loop-int.met.keys c.args.ints.now c.loop-int.numbers.items c.loop-int.int-index
    c.loop-int.invariant.count few all c.loop-int.invariant.apart c.loop-int.invariant.placed
