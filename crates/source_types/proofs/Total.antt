-- Where all items are known, so is each expression.
use Rattle.std.proofs.Common.{◌≡◌, ℕ, ◌+◌, refl}
use Rattle.std.specs.Prelude.{Bool, true, false, ◌&&◌, Option, None, Some, is_some, if◌then◌else◌}
use Rattle.gd_members.specs.declared.Found.{Found}
use Rattle.gd_model.specs.declared.ty.Ty.{Ty}
use Rattle.gd_model.specs.declared.ty.Ty.TheVariants as ty
use Rattle.gd_syntax.specs.declared.pos.Pos.{Pos}
use Rattle.gd_typing.specs.Literals.{element_place, key_place, value_place}
use Rattle.syntax_trees.specs.Expressions.{Expr, ExprKind, Exprs, Pairs, Text, expr, expr_and, no_exprs, no_pairs, pair_and}
use Rattle.syntax_trees.specs.Expressions as e
use Rattle.source_types.specs.Calls.{Call, Callee, argument_place, call_attribute, call_global, call_super, refused}
use Rattle.source_types.specs.Judging.{Arguments, any_bad, any_pair_bad, either_bad, judge, judge_kind, name_call, on_three, on_two, value_of, with_arguments}
use Rattle.source_types.specs.Knowing.{known_then}
use Rattle.source_types.specs.Laws.{AllKnown, AllSeen}
use Rattle.source_types.specs.Names.{Receiver, Source, before_dot, class_member, enum_member, found_or, is}
use Rattle.source_types.specs.Names.{local_or_global, of, of_class, on_class, on_enum, on_me, on_object, on_value}
use Rattle.source_types.specs.Names.{receiver, see_attribute, see_found, see_global, source_of, type_from}
use Rattle.source_types.specs.Projects.{Project, needs_instance}
use Rattle.source_types.specs.Scopes.{Items, Local, Scope, Seen, local_in}

-- ---- what is known

abbrev IsKnown : {A : Type 0} → Option A → Type 0
IsKnown a = is_some a ≡ true

total_then : {A B : Type 0} (a : Option A) (f : A → Option B) → IsKnown a → ((x : A) → IsKnown (f x))
    → IsKnown (known_then a f)
total_then None f h k = h
total_then (Some x) f h k = k x

total_if : {A : Type 0} (b : Bool) (x y : Option A) → IsKnown x → IsKnown y → IsKnown (if b then x else y)
total_if true x y h k = h
total_if false x y h k = k

-- made of what is known
total_made : {A B : Type 0} (a : Option A) (f : A → B) → IsKnown a → IsKnown (known_then a (λ x. Some (f x)))
total_made a f h = total_then a _ h (λ x. refl)

module _ (items : Items) (h : AllKnown items) where
  -- ---- names

  total_source : (s : Source) → IsKnown (type_from items s)
  total_source (is t) = refl
  total_source (of item) = h item

  total_see_found : (p : Project) (x : Found) → IsKnown (see_found items p x)
  total_see_found p x = total_made _ _ (total_source (source_of p x))

  total_see_global : (c : Scope) (x : Found) → IsKnown (see_global items c x)
  total_see_global c x = total_if (c.is_static && needs_instance c.project x) _ _ refl (total_see_found c.project x)

  total_local_or_global : (c : Scope) (name : Text) (l : Option Local) → IsKnown (local_or_global items c name l)
  total_local_or_global c name (Some l) = refl
  total_local_or_global c name None = total_see_global c (c.project.find c.class name)

  total_found_or : (p : Project) (t : Ty) (x : Option Found) → IsKnown (found_or items p t x)
  total_found_or p t None = refl
  total_found_or p t (Some x) = total_see_found p x

  total_of_class : (p : Project) (x : Option Found) → IsKnown (of_class items p x)
  total_of_class p None = refl
  total_of_class p (Some x) = total_if (needs_instance p x) _ _ refl (total_see_found p x)

  total_see_attribute : (p : Project) (r : Receiver) (name : Text) → IsKnown (see_attribute items p r name)
  total_see_attribute p (on_me class) name = total_found_or p ty.Bad (p.member class name)
  total_see_attribute p (on_enum id) name = total_found_or p ty.Variant (enum_member p id name)
  total_see_attribute p (on_object class) name = total_found_or p ty.Variant (p.member class name)
  total_see_attribute p (on_class number) name = total_of_class p (class_member p number name)
  total_see_attribute p (on_value t) name = refl

  -- ---- operations

  total_value : (x : Option Seen) → IsKnown x → IsKnown (value_of x)
  total_value x k = total_made x _ k

  total_two : (x y : Option Ty) (makes : Ty → Ty → Seen) → IsKnown x → IsKnown y → IsKnown (on_two x y makes)
  total_two x y makes k l = total_then x _ k (λ s. total_made y _ l)

  total_three : (x y z : Option Ty) (makes : Ty → Ty → Ty → Seen) → IsKnown x → IsKnown y → IsKnown z
      → IsKnown (on_three x y z makes)
  total_three x y z makes k l m = total_then x _ k (λ s. total_then y _ l (λ t. total_made z _ m))

  total_either : (x : Option Ty) (y : Option Bool) → IsKnown x → IsKnown y → IsKnown (either_bad x y)
  total_either x y k l = total_then x _ k (λ t. total_made y _ l)

  -- ---- calls

  abbrev ArgumentsKnown : Arguments → Type 0
  ArgumentsKnown arguments = (callee : Callee) (t : Option Ty) → IsKnown (arguments callee t)

  total_with : (call : Call) (t : Option Ty) (xs : Arguments) → ArgumentsKnown xs → IsKnown (with_arguments call t xs)
  total_with call t xs k = total_made _ _ (k call.callee t)

  total_name_call : (c : Scope) (name : Text) (l : Option Local) (xs : Arguments) → ArgumentsKnown xs
      → IsKnown (name_call items c name l xs)
  total_name_call c name (Some l) xs k = total_made _ _ (k (refused None).callee None)
  total_name_call c name None xs k = total_then _ _ (total_source (source_of c.project (c.project.find c.class name)))
      (λ t. total_with (call_global c (c.project.find c.class name)) None xs k)

  -- ---- expressions

  mutual
    unfolding judge

    pub total_judge : (c : Scope) (place : Option Ty) (x : Expr) → IsKnown (judge items c place x)
    total_judge c place (expr pos kind) = total_kind c pos place kind

    total_kind : (c : Scope) (pos : Pos) (place : Option Ty) (x : ExprKind) → IsKnown (judge_kind items c pos place x)
    total_kind c pos place (e.name name) = total_local_or_global c name (local_in name c.locals)
    total_kind c pos place (e.array_lit xs) = total_made _ _ (total_any c (λ _. element_place place) 0 xs)
    total_kind c pos place (e.dict_lit xs) = total_made _ _ (total_pairs c (key_place place) (value_place place) xs)
    total_kind c pos place (e.unary op x) = total_made _ _ (total_value _ (total_judge c None x))
    total_kind c pos place (e.binary op x y) =
        total_two _ _ _ (total_value _ (total_judge c None x)) (total_value _ (total_judge c None y))
    total_kind c pos place (e.and x y) =
        total_two _ _ _ (total_value _ (total_judge c None x)) (total_value _ (total_judge c None y))
    total_kind c pos place (e.or x y) =
        total_two _ _ _ (total_value _ (total_judge c None x)) (total_value _ (total_judge c None y))
    total_kind c pos place (e.choose x q y) = total_three _ _ _ _ (total_value _ (total_judge c None x))
        (total_value _ (total_judge c None q)) (total_value _ (total_judge c None y))
    total_kind c pos place (e.cast x t) = total_made _ _ (total_value _ (total_judge c None x))
    total_kind c pos place (e.test x t negated) = total_made _ _ (total_value _ (total_judge c None x))
    total_kind c pos place (e.attr x name) = total_then _ _ (total_judge c None x)
        (λ seen. total_see_attribute c.project (receiver c x (before_dot seen)) name)
    total_kind c pos place (e.index x i) =
        total_two _ _ _ (total_value _ (total_judge c None x)) (total_value _ (total_judge c None i))
    total_kind c pos place (e.call (expr at (e.name name)) xs) =
        total_name_call c name (local_in name c.locals) _ (λ callee t. total_any c (argument_place c callee t) 0 xs)
    total_kind c pos place (e.call (expr at (e.attr x name)) xs) = total_then _ _ (total_judge c None x)
        (λ seen. total_with (call_attribute c.project (receiver c x (before_dot seen)) name) (Some (before_dot seen).typed) _
        (λ callee t. total_any c (argument_place c callee t) 0 xs))
    total_kind c pos place (e.call f xs) = total_then {A = Seen} (judge items c None f) _ (total_judge c None f)
        (λ _. total_with (refused None) None _ (λ callee t. total_any c (argument_place c callee t) 0 xs))
    total_kind c pos place (e.super word name xs) =
        total_with (call_super c name) None _ (λ callee t. total_any c (argument_place c callee t) 0 xs)
    total_kind c pos place x = refl

    total_any : (c : Scope) (places : ℕ → Option Ty) (index : ℕ) (xs : Exprs)
        → IsKnown (any_bad items c places index xs)
    total_any c places index no_exprs = refl
    total_any c places index (expr_and x xs) = total_either _ _ (total_value _ (total_judge c (places index) x))
        (total_any c places (index + 1) xs)

    total_pairs : (c : Scope) (key value : Option Ty) (xs : Pairs) → IsKnown (any_pair_bad items c key value xs)
    total_pairs c key value no_pairs = refl
    total_pairs c key value (pair_and x y xs) = total_either _ _ (total_value _ (total_judge c key x))
        (total_either _ _ (total_value _ (total_judge c value y)) (total_pairs c key value xs))

-- ---- the law

pub all_seen : AllSeen
all_seen items h c place x = total_judge items h c place x
