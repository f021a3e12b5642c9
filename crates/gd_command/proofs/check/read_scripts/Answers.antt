use Rattle.std.proofs.Common.{◌≡◌, ◌+◌, length, arith, rules, ap, ◌∙◌}
use Rattle.gd_command.proofs.CheckLemmas.{counted_start, counted_more, counted_stop, counted_all, counted_long, one_longer}
use Rattle.gd_command.proofs.check.read_scripts.Goals as goal

pub loop-path-init : goal.loop-path-init
loop-path-init g c = record {
  files = search rules;
  faults = omega arith;
  bound = omega arith;
  told = counted_start _ _ _ c.new-sources.ensures.items;
  count = λ small. ap length c.new-sources.ensures.items;
  short = search rules;
}

pub loop-path-preserved : goal.loop-path-preserved
loop-path-preserved g c =
    let size : c.len-total.result ≡ length c.in-Ok.source.items = c.len-total.ensures ∙ c.in-Ok.source.ok.0 in
    record {
      files = c.in-Ok.ensures.files ∙ c.loop-path.invariant.files;
      faults = omega arith;
      bound = omega (arith, size, c.in-Ok.ensures.short);
      told = counted_more (g.H.Shelf.files c.args.shelf.now) (g.H.Shelf.files c.loop-path.shelf) c.args.paths.now c.path-item.result c.loop-path.path-index c.loop-path.total _ c.in-Ok.source _ _ (ap (λ n. c.loop-path.total + n) size) c.loop-path.invariant.files (omega arith) c.path-item.is c.in-Ok.ensures.told c.in-Ok.ensures.short c.in_ok-keep.ensures.kept c.loop-path.invariant.told;
      count = λ small. one_longer _ _ _ _ (c.in_ok-keep.ensures.kept small) (c.loop-path.invariant.count (omega arith));
      short = c.in_ok-keep.ensures.short c.in-Ok.ensures.short c.loop-path.invariant.short;
    }

pub returns-in-Err-clause-told : goal.returns-in-Err-clause-told
returns-in-Err-clause-told g c =
    counted_stop (g.H.Shelf.files c.args.shelf.now) (g.H.Shelf.files c.loop-path.shelf) c.args.paths.now c.path-item.result c.loop-path.path-index c.loop-path.total _ _ c.in-Err.unread c.loop-path.invariant.files (omega arith) c.path-item.is c.in-Err.ensures.told c.loop-path.invariant.told

pub returns-then-total-gt-MAX_PROJECT-clause-told : goal.returns-then-total-gt-MAX_PROJECT-clause-told
returns-then-total-gt-MAX_PROJECT-clause-told g c =
    counted_long (g.H.Shelf.files c.args.shelf.now) c.args.paths.now c.loop-path.path-index c.loop-path.total _ (omega arith) (omega arith) c.loop-path.invariant.told

pub returns-clause-told : goal.returns-clause-told
returns-clause-told g c =
    counted_all (g.H.Shelf.files c.args.shelf.now) c.args.paths.now c.loop-path.path-index c.loop-path.total _ (omega arith) (omega arith) (omega arith) c.loop-path.invariant.told
