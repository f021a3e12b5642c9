-- What a visit and a set tell of a step.
use Rattle.std.proofs.Common.{◌≡◌, ◌∙◌, ◌||◌, Bool, true, false, not, cond, List, [], ◌∷◌, ◌++◌, append_assoc, Result, refl, subst, ap}
use Rattle.std.specs.Prelude.{OnOk}
use Rattle.std.specs.Bool.{OnFalse}
use Rattle.std.specs.declared.result.Result.TheVariants.{Ok, Err}
use Rattle.no_memory.specs.declared.NoMemory.{NoMemory}
use Rattle.gd_members.specs.declared.Item.{Item}
use Rattle.cycle_resolver.specs.declared.unfold.Visit.{Visit}
use Rattle.cycle_resolver.specs.declared.walk.Walk.{Walk}
use Rattle.cycle_resolver.specs.Order.{same_item}
use Rattle.cycle_resolver.specs.Unfold.{IsCause, Settled, after_visit}
use Rattle.cycle_resolver.specs.Walk.{GivesUp, Meets, MeetsNone, has_met}

pub cause-is : (ns : List Item) (s : Settled) {v w : Visit} → v ≡ w → IsCause ns s v → IsCause ns s w
cause-is ns s e h = subst (IsCause ns s) e h

pub after-is : (s t : Settled) (top : Item) {v w : Visit} → v ≡ w → t ≡ after_visit s top (Ok v) → t ≡ after_visit s top (Ok w)
after-is s t top e h = let P : Visit → Type 0 = λ x. t ≡ after_visit s top (Ok x) in subst P e h

-- a test that came out false says the set has it
pub has-unless : (r b : Bool) → r ≡ not b → r ≡ false → b ≡ true
has-unless r true e f = refl
has-unless r false e f = cc

pub has-not : (r b : Bool) → r ≡ not b → r ≡ true → b ≡ false
has-not r true e f = cc
has-not r false e f = refl

pub or-is : (a b : Bool) → cond a true b ≡ (a || b)
or-is true b = refl
or-is false b = refl

-- a set with one item more
pub meets-by : (next : Item) (old new : Walk) → ((q : Item) → has_met new q ≡ cond (same_item next q) true (has_met old q)) → Meets old new next
meets-by next old new h q = h q ∙ or-is (same_item next q) (has_met old q)

pub on_false : (P : Type 0) {r : Bool} → r ≡ false → OnFalse r P → P
on_false P e h = let Q : Bool → Type 0 = λ b. OnFalse b P in subst Q e h

pub two-pushed : (a b c : List Item) (x y : Item) → b ≡ a ++ x ∷ [] → c ≡ b ++ y ∷ [] → c ≡ a ++ x ∷ y ∷ []
two-pushed a b c x y e f = f ∙ ap (λ l. l ++ y ∷ []) e ∙ append_assoc a (x ∷ []) (y ∷ [])

-- a walk that gives the item up, after one that met nothing more
pub gives_up-after : {top : Item} {s u t : Settled} {old mid new : Walk} → u ≡ s → MeetsNone old mid
    → mid.path.items ≡ old.path.items → mid.sequence.items ≡ old.sequence.items → mid.cyclic.items ≡ old.cyclic.items
    → GivesUp top u t mid new → GivesUp top s t old new
gives_up-after {top} {s} {u} {t} {old} {mid} {new} e m p q c g = record {
  settled = cc (e, g.settled);
  meets = λ x. g.meets x ∙ m x;
  path = g.path ∙ p;
  sequence = g.sequence ∙ q;
  cyclic = cc (g.cyclic, c);
}

-- the same facts, where the call gave an answer
pub steps_by : (r : Result (Unit {0}) NoMemory) {P Q : Type 0} → (P → Q) → OnOk r P → OnOk r Q
steps_by r {P} {Q} f h = elim r as (λ x. OnOk x P → OnOk x Q) [ Ok _ ↦ f | Err _ ↦ λ _. tt ] h
