use Rattle.std.proofs.Common.{◌≡◌, length, reverse, refl, ap, ◌∙◌, arith}
use Rattle.std.proofs.lemmas.List.{reverse-reverse}
use Rattle.gd_model.specs.View.{with_pair}
use Rattle.container_methods.specs.Dicts.{put_all}
use Rattle.container_methods.proofs.Merged.{only_memory}
use Rattle.container_methods.proofs.Putting.{put_on}
use Rattle.container_methods.proofs.dict_change.put_all.Goals as goal

pub returns-in-Err-clause-fault : goal.returns-in-Err-clause-fault
returns-in-Err-clause-fault c =
    let d = c.loop-key.d in
    let rest = reverse c.pop.new.self.items in
    let all : put_all (with_pair d.pairs c.in-Some.key c.in-Some.value) rest ≡ put_all c.args.d.now.pairs c.args.pairs.items =
    put_on d.pairs (with_pair d.pairs c.in-Some.key c.in-Some.value) c.loop-key.pairs.items c.pop.new.self.items c.in-Some.key c.in-Some.value c.in-Some.ensures.items refl
    ∙ c.loop-key.invariant.put
    ∙ ap (put_all c.args.d.now.pairs) (ap reverse c.reverse.ensures.items ∙ reverse-reverse c.args.pairs.items) in
    let size = ap length all in
    let room = c.requires.room in
    only_memory d c.in-Some.key c.in-Some.value rest c.in-Err.fault (ap (λ e. e.fixed) c.loop-key.invariant.same ∙ c.requires.open) (omega arith) c.in-Err.ensures.faults
