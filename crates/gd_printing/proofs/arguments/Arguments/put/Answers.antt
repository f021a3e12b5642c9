use Rattle.std.proofs.Common.{◌≡◌, Bool, true, false, ◌||◌, List, [], ◌∷◌, ◌++◌, Option, Result, Ok, Err, IfOk, OnOk, refl, sym, subst}
use Rattle.gd_model.specs.Meant.{datum}
use Rattle.gd_containers.specs.declared.fault.ThingFault.{ThingFault}
use Rattle.gd_text.specs.declared.formatting.Arg.{Arg}
use Rattle.gd_text.specs.declared.formatting.Arg.TheVariants.{Other}
use Rattle.value_semantics.specs.Formatting.{argument}
use Rattle.gd_printing.specs.Arguments.{IsArgument, Stands, AllStand}
use Rattle.gd_printing.proofs.Standing.{stand_more}
use Rattle.gd_printing.proofs.arguments.Arguments.put.Goals as goal

or_false : (b : Bool) → (b || false) ≡ b
or_false true = refl
or_false false = refl

or_true : (b : Bool) → (b || true) ≡ true
or_true true = refl
or_true false = refl

-- an argument that was put at the end stands for one more
grown : (r : Result (Unit {0}) ThingFault) (want : Arg) (a : Arg) (here over now : Bool) (old new : List Arg) → Stands want a here → (over || here) ≡ now → OnOk r (new ≡ old ++ a ∷ []) → IfOk r (λ _. (wants : List Arg) → AllStand wants old over → AllStand (wants ++ want ∷ []) new now)
grown (Ok u) want a here over now old new s e put = λ wants h.
    subst (λ (xs : List Arg). AllStand (wants ++ want ∷ []) xs now) (sym put)
    (subst (λ (b : Bool). AllStand (wants ++ want ∷ []) (old ++ a ∷ []) b) e (stand_more wants old over here want a h s))
grown (Err f) want a here over now old new s e put = tt

pub returns-in-Some-clause-ok : goal.returns-in-Some-clause-ok
returns-in-Some-clause-ok g c =
    let want = argument (g.K.Look.store c.args.look.now) (g.K.Look.names c.args.look.now) (datum c.args.v.now) in
    let over = c.args.self.now.too_long in
    let is = subst (λ (m : Option Arg). IsArgument want (Ok m)) c.in-Some.is c.in_ok-arg.ensures in
    grown c.push.result want c.in-Some.arg false over over c.args.self.now.list.items c.push.new.list.items is (or_false over) c.push.ensures.ok

pub returns-in_ok-empty-in-None-clause-ok : goal.returns-in_ok-empty-in-None-clause-ok
returns-in_ok-empty-in-None-clause-ok g c =
    let want = argument (g.K.Look.store c.args.look.now) (g.K.Look.names c.args.look.now) (datum c.args.v.now) in
    let over = c.args.self.now.too_long in
    let long = subst (λ (m : Option Arg). IsArgument want (Ok m)) c.in-None.is c.in_ok-arg.ensures in
    grown c.push-in-None.result want (Other c.in_ok-empty-in-None.field-0) true over true c.args.self.now.list.items c.push-in-None.new.list.items (long, tt) (or_true over) c.push-in-None.ensures.ok
