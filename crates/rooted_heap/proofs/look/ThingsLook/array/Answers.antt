use Rattle.std.proofs.Common.{ap, ◌∙◌, sym}
use Rattle.std.specs.Prelude.{option_map, option_copied}
use Rattle.gd_model.specs.View.{array_in}
use Rattle.rooted_heap.specs.Rooted.{thing_view}
use Rattle.rooted_heap.proofs.Seen.{seen_is}
use Rattle.rooted_heap.proofs.look.ThingsLook.array.Goals as goal

pub returns : goal.returns
returns c = c.array_of.ensures ∙ ap (λ o. array_in (option_map thing_view o)) c.in_ok-thing.ensures ∙ ap array_in (sym (seen_is c.args.self.now.heap.now.things c.args.h c.rising_law.ensures))

pub returns-in_err-thing : goal.returns-in_err-thing
returns-in_err-thing c = ap option_copied c.from_residual.ensures ∙ ap (λ o. array_in (option_map thing_view o)) c.in_err-thing.ensures ∙ ap array_in (sym (seen_is c.args.self.now.heap.now.things c.args.h c.rising_law.ensures))
