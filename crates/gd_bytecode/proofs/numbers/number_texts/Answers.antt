use Rattle.std.proofs.Common.{◌<◌, ◌≤◌, length, Some, refl, sym, ap, ◌∙◌, arith}
use Rattle.std.specs.Str.{bytes_eq}
use Rattle.std.proofs.lemmas.Slice.Eq.{bytes_eq-Decides}
use Rattle.std.proofs.lemmas.Option.{slice_get_read}
use Rattle.gd_bytecode.proofs.Numbered.{all_numbered, number_more}
use Rattle.gd_bytecode.proofs.numbers.number_texts.Goals as goal

pub loop-text-preserved : goal.loop-text-preserved
loop-text-preserved c =
    let lt : c.loop-text.text-index < length c.args.texts.now = omega arith in
    record {
      count = omega (arith, c.in_ok-push.ensures.len, c.loop-text.invariant.count);
      apart = c.in_ok-number.ensures.unique;
      placed = number_more bytes_eq bytes_eq-Decides c.loop-text.met.keys c.insert_full.new.self.keys c.args.texts.now c.loop-text.numbers.items
          c.push.new.self.items c.in_ok-share.field-0 c.in_ok-number.number c.loop-text.text-index c.in_ok-push.ensures.items c.in_ok-number.ensures.keys
          c.in_ok-number.ensures.stored (slice_get_read c.args.texts.now (length c.args.texts.now) c.loop-text.text-index c.text-item.result refl lt c.text-item.is ∙ ap (λ t. Some t) (sym c.in_ok-share.ensures))
          c.loop-text.invariant.count c.loop-text.invariant.placed;
    }

pub returns : goal.returns
returns c =
    let few : c.loop-text.text-index ≤ length c.args.texts.now = omega arith in
    let all : length c.args.texts.now ≤ c.loop-text.text-index = omega arith in
    all_numbered bytes_eq bytes_eq-Decides c.loop-text.met.keys c.args.texts.now c.loop-text.numbers.items c.loop-text.text-index
    c.loop-text.invariant.count few all c.loop-text.invariant.apart c.loop-text.invariant.placed
