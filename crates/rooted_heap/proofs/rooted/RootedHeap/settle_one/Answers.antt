use Rattle.std.proofs.Common.{◌≡◌, ℕ, Option, [], ap, ◌∙◌, sym, take, subst}
use Rattle.std.specs.Prelude.{IfNone}
use Rattle.gd_holding.specs.Rounds.{HeapView}
use Rattle.gd_holding.specs.Holding.{filled}
use Rattle.counted_heap.specs.declared.thing.Thing.{Thing}
use Rattle.counted_heap.specs.Thing.{thing_places}
use Rattle.counted_heap.proofs.Holders.{counted}
use Rattle.rooted_heap.specs.Rooted.{handles, IsSound, running}
use Rattle.rooted_heap.proofs.Settled.{round_is, sound_settled, releases}
use Rattle.rooted_heap.proofs.rooted.RootedHeap.settle_one.Goals as goal

pub settle-requires : goal.settle-requires
settle-requires c = counted (λ t. filled (thing_places t)) c.self.inside.heap.things (handles (take c.self.inside.top c.self.inside.slots.items)) c.self.invariant.held.counted

pub invariant_of-self : goal.invariant_of-self
invariant_of-self c = subst (λ (h : HeapView Thing). IsSound h.things c.self.inside.names c.self.inside.slots.items c.self.inside.top) (sym c.in_err-released.ensures.none.1) c.self.invariant

pub invariant_of-self-2 : goal.invariant_of-self-2
invariant_of-self-2 c =
    sound_settled c.self.inside.heap c.settle.new.heap c.self.inside.names c.self.inside.slots.items c.self.inside.top c.in_ok-released.released.0 c.in_ok-released.ensures.some.0 c.in_ok-released.released.1
    c.rising_law.ensures c.self.invariant c.in_ok-released.ensures.some.1
    (c.settle.ensures.holders (handles (take c.self.inside.top c.self.inside.slots.items)) c.self.invariant.held.counted)

pub returns-clause-released : goal.returns-clause-released
returns-clause-released c =
    releases c.self.inside.heap c.settle.new.heap c.self.inside.names c.self.inside.slots.items c.self.inside.top c.in_ok-released.released.0 c.in_ok-released.ensures.some.0 c.in_ok-released.released.1
    c.args.self.now c.rising_law.ensures c.self.invariant c.in_ok-released.ensures.some.1 c.self.view_is

pub returns-in_err-released-clause-settled : goal.returns-in_err-released-clause-settled
returns-in_err-released-clause-settled c =
    subst (λ (o : Option (ℕ × Option ℕ)). IfNone o (running c.args.self.now ≡ [])) (sym c.from_residual.ensures)
    (sym (round_is c.self.inside.heap (take c.self.inside.top c.self.inside.slots.items) c.args.self.now c.self.invariant.held.counted (ap (λ w. w.things) c.self.view_is) (ap (λ w. w.round) c.self.view_is) (ap (λ w. w.values) c.self.view_is))
    ∙ c.in_err-released.ensures.none.0)
