use Rattle.std.proofs.Common.{◌+◌, List, ◌∷◌, is_some, ap, sym, ◌∙◌, rules, arith, subst}
use Rattle.slot_arena.specs.Slots.{Entry, count_at}
use Rattle.gd_holding.specs.Holding.{HeldBy, filled}
use Rattle.counted_heap.proofs.Changes.{found_from_count, sound_changed}
use Rattle.counted_heap.proofs.Holders.{held_kept}
use Rattle.counted_heap.proofs.heap.Heap.keep_handle.Goals as goal

pub keep-requires-clause-below : goal.keep-requires-clause-below
keep-requires-clause-below g c = λ n counted. c.requires.below n (ap (λ v. count_at v.things c.args.h) (sym c.self.view_is) ∙ counted)

pub keep-requires-clause-alive : goal.keep-requires-clause-alive
keep-requires-clause-alive g c =
    let counted = ap (λ v. count_at v.things c.args.h) c.self.view_is ∙ c.requires.held.found in
    rw (found_from_count _ c.args.h c.requires.held.count counted).1 (search rules)

pub invariant_of-self : goal.invariant_of-self
invariant_of-self g c =
    let counted = ap (λ v. count_at v.things c.args.h) c.self.view_is ∙ c.requires.held.found in
    let found = found_from_count (g.S.Slots.things c.self.inside.slots) c.args.h c.requires.held.count counted in
    rw (c.keep.ensures.things, c.keep.ensures.last) (sound_changed c.self.invariant (λ n. n + 1) c.args.h found.0 found.1 (omega (arith, found.2, c.requires.held.held)) (omega arith))

pub returns-clause-holders : goal.returns-clause-holders
returns-clause-holders g c = λ hand held.
    let counted = ap (λ v. count_at v.things c.args.h) c.self.view_is ∙ c.requires.held.found in
    let found = found_from_count (g.S.Slots.things c.self.inside.slots) c.args.h c.requires.held.count counted in
    let same = ap (λ v. v.things) c.self.view_is in
    subst (λ (es : List (Entry g.row.T.Denot)). HeldBy (λ t. filled (g.T.Holds.places t)) es (c.args.h ∷ hand)) (sym c.keep.ensures.things)
    (held_kept _ (g.S.Slots.things c.self.inside.slots) c.args.h hand c.self.invariant.rising (ap is_some found.1)
    (subst (λ (es : List (Entry g.row.T.Denot)). HeldBy (λ t. filled (g.T.Holds.places t)) es hand) (sym same) held))
