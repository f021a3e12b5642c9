use Rattle.std.proofs.Common.{Some, ap, sym, ◌∙◌}
use Rattle.std.specs.Option.{option_copied}
use Rattle.constant_store.proofs.Read.{entry_found, entry_missing}
use Rattle.constant_store.proofs.reading.value_of.Goals as goal

pub returns-in_ok-share-in-Some : goal.returns-in_ok-share-in-Some
returns-in_ok-share-in-Some c =
    entry_found c.args.dict.now c.args.key.now c.in_ok-share-in-Some.field-0
    (ap (λ x. Some x) c.in_ok-share-in-Some.ensures ∙ sym (ap option_copied c.in-Some.is) ∙ c.get.ensures)

pub returns-in-None : goal.returns-in-None
returns-in-None c = rw c.refused.ensures (entry_missing c.args.dict.now c.args.key.now (sym (ap option_copied c.in-None.is) ∙ c.get.ensures))
