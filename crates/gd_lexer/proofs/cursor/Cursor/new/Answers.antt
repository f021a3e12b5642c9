use Rattle.gd_lexer.proofs.StartLemmas.{start_file, start_at}
use Rattle.gd_lexer.proofs.cursor.Cursor.new.Goals as goal

pub returns : goal.returns
returns c = record {
  value = c.start.ensures;
  file = rw c.start.ensures (start_file c.args.file c.args.bytes.now);
  place = rw c.start.ensures (start_at c.args.file c.args.bytes.now);
}
