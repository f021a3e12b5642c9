use Rattle.std.proofs.Common.{◌≡◌, ap, sym, ◌∙◌, rules, Some, eqb}
use Rattle.std.specs.Option.{option_map, option_copied}
use Rattle.std.proofs.lemmas.Bool.{eq-eqb, ne_eqb, and_from, and_left, and_right}
use Rattle.slot_arena.proofs.Unheld.{unheld_seen, take_seen, stay_seen, reads_unheld}
use Rattle.slot_arena.specs.SlabSlots.{things_from, by_serial}
use Rattle.slot_arena.proofs.slab_slots.SlabSlotsSlots.take.Goals as goal
use Rattle.slot_arena.proofs.slab_slots.SlabSlotsSlots.take.Goals.{in_default-via-in-Some+then-slot-h+else-slot-eq0, in_default-via-in-Some+else-slot-h, in_default-via-in_default}

pub returns-in-Some-clause-taken : goal.returns-in-Some-clause-taken
returns-in-Some-clause-taken g c =
    let found = unheld_seen c.args.h _ _ (ap (λ a. a.things) c.self.view_is) ∙ ap (λ o. option_map (λ e. e.value) (reads_unheld c.args.h o)) (sym c.get.ensures ∙ ap option_copied c.in-Some.is) in
    let unheld = and_from _ _ (eq-eqb c.in-Some.slot.now.serial c.args.h.serial c.if-slot-h.true) (eq-eqb c.in-Some.slot.now.count 0 c.if-slot-eq0.true) in
    let same : Some c.in-Some.slot.now ≡ Some c.remove-value.result = sym (ap option_copied c.in-Some.is) ∙ c.get.ensures ∙ c.remove-value.ensures.value in
    rw (found, unheld) (cc)

pub returns-in-Some-clause-things : goal.returns-in-Some-clause-things
returns-in-Some-clause-things g c =
    let unheld = and_from _ _ (eq-eqb c.in-Some.slot.now.serial c.args.h.serial c.if-slot-h.true) (eq-eqb c.in-Some.slot.now.count 0 c.if-slot-eq0.true) in
    ap (λ l. by_serial (things_from 0 l)) c.remove-value.ensures.slots
    ∙ take_seen c.args.h c.in-Some.slot.now c.self.inside.slots.slots _ (ap (λ a. a.things) c.self.view_is) (sym c.get.ensures ∙ ap option_copied c.in-Some.is) unheld

pub returns-in_default-clause-taken : goal.returns-in_default-clause-taken
returns-in_default-clause-taken g c =
    let found = unheld_seen c.args.h _ _ (ap (λ a. a.things) c.self.view_is) ∙ ap (λ o. option_map (λ e. e.value) (reads_unheld c.args.h o)) (sym c.get.ensures) in
    elim c.in_default.branch [
      | in_default-via-in-Some+then-slot-h+else-slot-eq0 w ↦
          let differs = and_right (eqb w.in-Some.slot.now.serial c.args.h.serial) _ (ne_eqb w.in-Some.slot.now.count 0 w.if-slot-eq0.false) in
          rw (found, w.in-Some.is, differs) (search rules)
      | in_default-via-in-Some+else-slot-h w ↦
          let differs = and_left _ (eqb w.in-Some.slot.now.count 0) (ne_eqb w.in-Some.slot.now.serial c.args.h.serial w.if-slot-h.false) in
          rw (found, w.in-Some.is, differs) (search rules)
      | in_default-via-in_default w ↦ rw (found, w.in_default.is) (search rules)
    ]

pub returns-in_default-clause-things : goal.returns-in_default-clause-things
returns-in_default-clause-things g c =
    stay_seen c.args.h c.self.inside.slots.slots _ (ap (λ a. a.things) c.self.view_is) (ap (reads_unheld c.args.h) (sym c.get.ensures) ∙ (
    elim c.in_default.branch [
      | in_default-via-in-Some+then-slot-h+else-slot-eq0 w ↦
          let differs = and_right (eqb w.in-Some.slot.now.serial c.args.h.serial) _ (ne_eqb w.in-Some.slot.now.count 0 w.if-slot-eq0.false) in
          rw (w.in-Some.is, differs) (search rules)
      | in_default-via-in-Some+else-slot-h w ↦
          let differs = and_left _ (eqb w.in-Some.slot.now.count 0) (ne_eqb w.in-Some.slot.now.serial c.args.h.serial w.if-slot-h.false) in
          rw (w.in-Some.is, differs) (search rules)
      | in_default-via-in_default w ↦ rw w.in_default.is (search rules)
    ]))
