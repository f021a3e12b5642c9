use Rattle.std.proofs.Common.{◌≡◌, ◌∙◌, sym}
use Rattle.std.specs.List.{Contains}
use Rattle.std.proofs.lemmas.Bool.{true≢false}
use Rattle.std.proofs.lemmas.List.Elements.{Contains-get_or}
use Rattle.gd_members.specs.declared.Item.{Item}
use Rattle.gd_infer.specs.Needs.{is_item, settled_in}
use Rattle.gd_infer.proofs.ItemLists.{found-filter, passing-all, passing-more}
use Rattle.gd_infer.proofs.needs.ItemNeeds.cause_of.Goals as goal

-- what a read past the end would give
abbrev none : Item
none = record { member = record { class = 0; index = 0 }; value = 0 }

pub loop-next-preserved-then-not-has : goal.loop-next-preserved-then-not-has
loop-next-preserved-then-not-has c =
    passing-more (is_item c.args.self.now) (Contains (settled_in c.args.progress.now).typed) c.args.row.now c.loop-next.next-index none c.loop-next-test.true
    c.loop-next.invariant (λ h. absurd (true≢false (sym h ∙ sym c.has.ensures ∙ c.if-not-has.true)))

pub returns-then-is_given_up : goal.returns-then-is_given_up
returns-then-is_given_up c = (_, found-filter (is_item c.args.self.now) c.args.row.now _ (Contains-get_or c.args.row.now c.loop-next.next-index none c.loop-next-test.true) (sym c.has.ensures ∙ c.if-not-has.false), c.is_given_up.ensures.0 c.if-is_given_up.true)

pub returns-then-not-is_typed : goal.returns-then-not-is_typed
returns-then-not-is_typed c = (
  found-filter (is_item c.args.self.now) c.args.row.now _ (Contains-get_or c.args.row.now c.loop-next.next-index none c.loop-next-test.true) (sym c.has.ensures ∙ c.if-not-has.false),
  record {
    not_typed = λ there. true≢false (sym (c.is_typed.ensures.1 there) ∙ c.if-not-is_typed.true);
    not_given_up = λ there. true≢false (sym (c.is_given_up.ensures.1 there) ∙ c.if-is_given_up.false);
  },
)

pub loop-next-preserved : goal.loop-next-preserved
loop-next-preserved c =
    passing-more (is_item c.args.self.now) (Contains (settled_in c.args.progress.now).typed) c.args.row.now c.loop-next.next-index none c.loop-next-test.true
    c.loop-next.invariant (λ _. c.is_typed.ensures.0 c.if-not-is_typed.false)

pub returns : goal.returns
returns c = passing-all (is_item c.args.self.now) (Contains (settled_in c.args.progress.now).typed) c.args.row.now c.loop-next.next-index c.loop-next-test.false c.loop-next.invariant
