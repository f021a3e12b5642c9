-- Where more items are known, what was known stays the same.
use Rattle.std.proofs.Common.{ℕ, zero, suc, ◌+◌, refl}
use Rattle.std.specs.Prelude.{Bool, true, false, ◌&&◌, Option, None, Some, slice_get, length, List, if◌then◌else◌}
use Rattle.gd_members.specs.declared.Found.{Found}
use Rattle.gd_members.specs.declared.Item.{Item}
use Rattle.gd_members.specs.declared.MemberId.{MemberId}
use Rattle.gd_model.specs.declared.ty.Ty.{Ty}
use Rattle.gd_model.specs.declared.ty.Ty.TheVariants as ty
use Rattle.gd_syntax.specs.declared.pos.Pos.{Pos}
use Rattle.gd_typing.specs.Literals.{element_place, key_place, value_place}
use Rattle.syntax_trees.specs.Declarations.{DeclKind}
use Rattle.syntax_trees.specs.Declarations as d
use Rattle.syntax_trees.specs.Expressions.{Expr, ExprKind, Exprs, Pairs, Text, expr, expr_and, no_exprs, no_pairs, pair_and}
use Rattle.syntax_trees.specs.Expressions as e
use Rattle.source_types.specs.Calls.{Call, Callee, argument_place, call_attribute, call_global, call_super, refused}
use Rattle.source_types.specs.Judging.{Arguments, any_bad, any_pair_bad, either_bad, global_call, judge, judge_kind}
use Rattle.source_types.specs.Judging.{name_call, on_one, on_three, on_two, value_of, with_arguments}
use Rattle.source_types.specs.Constancy.{all_fixed, all_pairs_fixed, both, fixed_kind, is_fixed}
use Rattle.source_types.specs.Items.{constant_by, constant_of, constant_type, enum_type, known_at, next_value}
use Rattle.source_types.specs.Items.{type_by_kind, value_type, variable_type, whole_type, written_value}
use Rattle.source_types.specs.Knowing.{Stays, known_then}
use Rattle.source_types.specs.Laws.{KnownStays, MoreKnown, SeenStays, StepStays}
use Rattle.source_types.specs.Names.{Receiver, Source, before_dot, class_member, enum_member, found_or, is}
use Rattle.source_types.specs.Names.{local_or_global, of, of_class, on_class, on_enum, on_me, on_object, on_value}
use Rattle.source_types.specs.Names.{receiver, see_attribute, see_found, see_global, source_of, type_from}
use Rattle.source_types.specs.Projects.{EnumValue, Project, declared, needs_instance}
use Rattle.source_types.specs.Scopes.{Items, Local, Made, Scope, Seen, local_in}

-- ---- what is known

pub stays_self : {A : Type 0} (a : Option A) → Stays a a
stays_self a x e = e

pub stays_then : {A B : Type 0} (a b : Option A) (f g : A → Option B) → Stays a b → ((x : A) → Stays (f x) (g x))
    → Stays (known_then a f) (known_then b g)
stays_then None b f g h k = λ x e. cc
stays_then (Some x) b f g h k = λ y e. rw (h x refl) (k x y e)

pub stays_if : {A : Type 0} (b : Bool) (x y u w : Option A) → Stays x u → Stays y w
    → Stays (if b then x else y) (if b then u else w)
stays_if true x y u w h k = h
stays_if false x y u w h k = k

pub stays_nothing : {A : Type 0} (a : Option A) → Stays None a
stays_nothing a = λ x e. cc

-- made of what is known
pub stays_made : {A B : Type 0} (a b : Option A) (f : A → Option B) → Stays a b → Stays (known_then a f) (known_then b f)
stays_made a b f h = stays_then a b f f h (λ x. stays_self (f x))

module _ (items more : Items) (h : MoreKnown items more) where
  -- ---- names

  pub stays_source : (s : Source) → Stays (type_from items s) (type_from more s)
  stays_source (is t) = stays_self (Some t)
  stays_source (of item) = h item

  stays_see_found : (p : Project) (x : Found) → Stays (see_found items p x) (see_found more p x)
  stays_see_found p x = stays_made _ _ _ (stays_source (source_of p x))

  stays_see_global : (c : Scope) (x : Found) → Stays (see_global items c x) (see_global more c x)
  stays_see_global c x = stays_if (c.is_static && needs_instance c.project x) _ _ _ _ (stays_self _)
      (stays_see_found c.project x)

  stays_local_or_global : (c : Scope) (name : Text) (l : Option Local)
      → Stays (local_or_global items c name l) (local_or_global more c name l)
  stays_local_or_global c name (Some l) = stays_self _
  stays_local_or_global c name None = stays_see_global c (c.project.find c.class name)

  stays_found_or : (p : Project) (t : Ty) (x : Option Found) → Stays (found_or items p t x) (found_or more p t x)
  stays_found_or p t None = stays_self _
  stays_found_or p t (Some x) = stays_see_found p x

  stays_of_class : (p : Project) (x : Option Found) → Stays (of_class items p x) (of_class more p x)
  stays_of_class p None = stays_self _
  stays_of_class p (Some x) = stays_if (needs_instance p x) _ _ _ _ (stays_self _) (stays_see_found p x)

  stays_see_attribute : (p : Project) (r : Receiver) (name : Text)
      → Stays (see_attribute items p r name) (see_attribute more p r name)
  stays_see_attribute p (on_me class) name = stays_found_or p ty.Bad (p.member class name)
  stays_see_attribute p (on_enum id) name = stays_found_or p ty.Variant (enum_member p id name)
  stays_see_attribute p (on_object class) name = stays_found_or p ty.Variant (p.member class name)
  stays_see_attribute p (on_class number) name = stays_of_class p (class_member p number name)
  stays_see_attribute p (on_value t) name = stays_self _

  -- ---- operations

  stays_value : (x y : Option Seen) → Stays x y → Stays (value_of x) (value_of y)
  stays_value x y k = stays_made x y _ k

  stays_one : (x u : Option Ty) (makes : Ty → Seen) → Stays x u → Stays (on_one x makes) (on_one u makes)
  stays_one x u makes k = stays_made x u _ k

  stays_two : (x u y w : Option Ty) (makes : Ty → Ty → Seen) → Stays x u → Stays y w
      → Stays (on_two x y makes) (on_two u w makes)
  stays_two x u y w makes k l = stays_then x u _ _ k (λ s. stays_made y w _ l)

  stays_three : (x u y w z v : Option Ty) (makes : Ty → Ty → Ty → Seen) → Stays x u → Stays y w → Stays z v
      → Stays (on_three x y z makes) (on_three u w v makes)
  stays_three x u y w z v makes k l m = stays_then x u _ _ k (λ s. stays_then y w _ _ l (λ t. stays_made z v _ m))

  stays_either : (x u : Option Ty) (y w : Option Bool) → Stays x u → Stays y w
      → Stays (either_bad x y) (either_bad u w)
  stays_either x u y w k l = stays_then x u _ _ k (λ t. stays_made y w _ l)

  -- ---- calls

  abbrev ArgumentsStay : Arguments → Arguments → Type 0
  ArgumentsStay one other = (callee : Callee) (t : Option Ty) → Stays (one callee t) (other callee t)

  stays_with : (call : Call) (t : Option Ty) (one other : Arguments) → ArgumentsStay one other
      → Stays (with_arguments call t one) (with_arguments call t other)
  stays_with call t one other k = stays_made _ _ _ (k call.callee t)

  stays_global_call : (c : Scope) (x : Found) (one other : Arguments) → ArgumentsStay one other
      → Stays (global_call items c x one) (global_call more c x other)
  stays_global_call c x one other k = stays_then _ _ _ _ (stays_source (source_of c.project x))
      (λ t. stays_with (call_global c x) None one other k)

  stays_name_call : (c : Scope) (name : Text) (l : Option Local) (one other : Arguments) → ArgumentsStay one other
      → Stays (name_call items c name l one) (name_call more c name l other)
  stays_name_call c name (Some l) one other k = stays_made _ _ _ (k (refused None).callee None)
  stays_name_call c name None one other k = stays_global_call c (c.project.find c.class name) one other k

  -- ---- expressions

  mutual
    unfolding judge

    pub stays_judge : (c : Scope) (place : Option Ty) (x : Expr) → Stays (judge items c place x) (judge more c place x)
    stays_judge c place (expr pos kind) = stays_kind c pos place kind

    stays_kind : (c : Scope) (pos : Pos) (place : Option Ty) (x : ExprKind)
        → Stays (judge_kind items c pos place x) (judge_kind more c pos place x)
    stays_kind c pos place (e.name name) = stays_local_or_global c name (local_in name c.locals)
    stays_kind c pos place (e.array_lit xs) = stays_made _ _ _ (stays_any c (λ _. element_place place) 0 xs)
    stays_kind c pos place (e.dict_lit xs) = stays_made _ _ _ (stays_pairs c (key_place place) (value_place place) xs)
    stays_kind c pos place (e.unary op x) = stays_one _ _ _ (stays_value _ _ (stays_judge c None x))
    stays_kind c pos place (e.binary op x y) = stays_two _ _ _ _ _ (stays_value _ _ (stays_judge c None x)) (stays_value _ _ (stays_judge c None y))
    stays_kind c pos place (e.and x y) = stays_two _ _ _ _ _ (stays_value _ _ (stays_judge c None x)) (stays_value _ _ (stays_judge c None y))
    stays_kind c pos place (e.or x y) = stays_two _ _ _ _ _ (stays_value _ _ (stays_judge c None x)) (stays_value _ _ (stays_judge c None y))
    stays_kind c pos place (e.choose x q y) =
        stays_three _ _ _ _ _ _ _ (stays_value _ _ (stays_judge c None x)) (stays_value _ _ (stays_judge c None q)) (stays_value _ _ (stays_judge c None y))
    stays_kind c pos place (e.cast x t) = stays_one _ _ _ (stays_value _ _ (stays_judge c None x))
    stays_kind c pos place (e.test x t negated) = stays_one _ _ _ (stays_value _ _ (stays_judge c None x))
    stays_kind c pos place (e.attr x name) = stays_then _ _ _ _ (stays_judge c None x)
        (λ seen. stays_see_attribute c.project (receiver c x (before_dot seen)) name)
    stays_kind c pos place (e.index x i) = stays_two _ _ _ _ _ (stays_value _ _ (stays_judge c None x)) (stays_value _ _ (stays_judge c None i))
    stays_kind c pos place (e.call (expr at (e.name name)) xs) =
        stays_name_call c name (local_in name c.locals) _ _ (λ callee t. stays_any c (argument_place c callee t) 0 xs)
    stays_kind c pos place (e.call (expr at (e.attr x name)) xs) = stays_then _ _ _ _ (stays_judge c None x)
        (λ seen. stays_with (call_attribute c.project (receiver c x (before_dot seen)) name) (Some (before_dot seen).typed) _ _
        (λ callee t. stays_any c (argument_place c callee t) 0 xs))
    stays_kind c pos place (e.call f xs) = stays_then _ _ _ _ (stays_judge c None f)
        (λ _. stays_with (refused None) None _ _ (λ callee t. stays_any c (argument_place c callee t) 0 xs))
    stays_kind c pos place (e.super word name xs) = stays_with (call_super c name) None _ _ (λ callee t. stays_any c (argument_place c callee t) 0 xs)
    stays_kind c pos place x = stays_self _

    stays_any : (c : Scope) (places : ℕ → Option Ty) (index : ℕ) (xs : Exprs)
        → Stays (any_bad items c places index xs) (any_bad more c places index xs)
    stays_any c places index no_exprs = stays_self _
    stays_any c places index (expr_and x xs) =
        stays_either _ _ _ _ (stays_value _ _ (stays_judge c (places index) x)) (stays_any c places (index + 1) xs)

    stays_pairs : (c : Scope) (key value : Option Ty) (xs : Pairs)
        → Stays (any_pair_bad items c key value xs) (any_pair_bad more c key value xs)
    stays_pairs c key value no_pairs = stays_self _
    stays_pairs c key value (pair_and x y xs) =
        stays_either _ _ _ _ (stays_value _ _ (stays_judge c key x))
        (stays_either _ _ _ _ (stays_value _ _ (stays_judge c value y)) (stays_pairs c key value xs))

  stays_part : (c : Scope) (place : Option Ty) (x : Expr)
      → Stays (value_of (judge items c place x)) (value_of (judge more c place x))
  stays_part c place x = stays_value _ _ (stays_judge c place x)

  -- ---- what is constant

  stays_both : (x u y w : Option Bool) → Stays x u → Stays y w → Stays (both x y) (both u w)
  stays_both x u y w k l = stays_then x u _ _ k (λ a. stays_made y w _ l)

  mutual
    unfolding is_fixed

    pub stays_fixed : (c : Scope) (x : Expr) → Stays (is_fixed items c x) (is_fixed more c x)
    stays_fixed c (expr pos kind) = stays_fixed_kind c _ _ kind (stays_judge c None (expr pos kind))

    stays_fixed_kind : (c : Scope) (seen also : Option Seen) (x : ExprKind) → Stays seen also
        → Stays (fixed_kind items c seen x) (fixed_kind more c also x)
    stays_fixed_kind c seen also (e.name name) k = stays_made seen also _ k
    stays_fixed_kind c seen also (e.attr x name) k = stays_both _ _ _ _ (stays_fixed c x) (stays_made seen also _ k)
    stays_fixed_kind c seen also (e.array_lit xs) k = stays_all_fixed c xs
    stays_fixed_kind c seen also (e.dict_lit xs) k = stays_pairs_fixed c xs
    stays_fixed_kind c seen also (e.unary op x) k = stays_fixed c x
    stays_fixed_kind c seen also (e.binary op x y) k = stays_both _ _ _ _ (stays_fixed c x) (stays_fixed c y)
    stays_fixed_kind c seen also (e.and x y) k = stays_both _ _ _ _ (stays_fixed c x) (stays_fixed c y)
    stays_fixed_kind c seen also (e.or x y) k = stays_both _ _ _ _ (stays_fixed c x) (stays_fixed c y)
    stays_fixed_kind c seen also (e.choose x q y) k =
        stays_both _ _ _ _ (stays_fixed c x) (stays_both _ _ _ _ (stays_fixed c q) (stays_fixed c y))
    stays_fixed_kind c seen also (e.cast x t) k = stays_fixed c x
    stays_fixed_kind c seen also (e.test x t negated) k = stays_fixed c x
    stays_fixed_kind c seen also (e.index x i) k = stays_both _ _ _ _ (stays_fixed c x) (stays_fixed c i)
    stays_fixed_kind c seen also x k = stays_self _

    stays_all_fixed : (c : Scope) (xs : Exprs) → Stays (all_fixed items c xs) (all_fixed more c xs)
    stays_all_fixed c no_exprs = stays_self _
    stays_all_fixed c (expr_and x xs) = stays_both _ _ _ _ (stays_fixed c x) (stays_all_fixed c xs)

    stays_pairs_fixed : (c : Scope) (xs : Pairs) → Stays (all_pairs_fixed items c xs) (all_pairs_fixed more c xs)
    stays_pairs_fixed c no_pairs = stays_self _
    stays_pairs_fixed c (pair_and x y xs) =
        stays_both _ _ _ _ (stays_fixed c x) (stays_both _ _ _ _ (stays_fixed c y) (stays_pairs_fixed c xs))

  -- ---- items

  stays_constant_of : (x y : Option Bool) (goes_wrong : Bool) (t : Ty) → Stays x y
      → Stays (constant_of x goes_wrong t) (constant_of y goes_wrong t)
  stays_constant_of x y goes_wrong (ty.Meta class) k = stays_self _
  stays_constant_of x y goes_wrong t k = stays_made x y _ k

  stays_constant_by : (c : Scope) (goes_wrong : Bool) (x : Expr) (typed : Option Ty)
      → Stays (constant_by items c goes_wrong x typed) (constant_by more c goes_wrong x typed)
  stays_constant_by c goes_wrong x (Some t) = stays_made _ _ _ (stays_part c (Some t) x)
  stays_constant_by c goes_wrong x None = stays_then _ _ _ _ (stays_judge c None x)
      (λ seen. stays_constant_of _ _ goes_wrong (before_dot seen).typed (stays_fixed c x))

  stays_constant : (c : Scope) (goes_wrong : Bool) (typed : Option Ty) (x : Option Expr)
      → Stays (constant_type items c goes_wrong typed x) (constant_type more c goes_wrong typed x)
  stays_constant c goes_wrong typed None = stays_self _
  stays_constant c goes_wrong typed (Some x) = stays_constant_by c goes_wrong x typed

  stays_variable : (c : Scope) (x : Option Expr) → Stays (variable_type items c x) (variable_type more c x)
  stays_variable c None = stays_self _
  stays_variable c (Some x) = stays_part c None x

  stays_next : (id : MemberId) (place : ℕ) → Stays (next_value items id place) (next_value more id place)
  stays_next id zero = stays_self _
  stays_next id (suc before) = h (record { member = id; value = suc before })

  stays_written : (c : Scope) (id : MemberId) (place : ℕ) (goes_wrong : Bool) (x : Option Expr)
      → Stays (written_value items c id place goes_wrong x) (written_value more c id place goes_wrong x)
  stays_written c id place goes_wrong None = stays_next id place
  stays_written c id place goes_wrong (Some x) =
      stays_then _ _ _ _ (stays_part c None x) (λ t. stays_made _ _ _ (stays_fixed c x))

  stays_enum_value : (c : Scope) (id : MemberId) (place : ℕ) (goes_wrong : Bool) (v : Option EnumValue)
      → Stays (value_type items c id place goes_wrong v) (value_type more c id place goes_wrong v)
  stays_enum_value c id place goes_wrong None = stays_self _
  stays_enum_value c id place goes_wrong (Some v) = stays_written c id place goes_wrong v.2

  stays_whole : (id : MemberId) (count : ℕ) → Stays (whole_type items id count) (whole_type more id count)
  stays_whole id zero = stays_self _
  stays_whole id (suc count) = stays_then _ _ _ _ (h (record { member = id; value = suc count }))
      (λ t. stays_made _ _ _ (stays_whole id count))

  stays_enum : (c : Scope) (id : MemberId) (goes_wrong : Bool) (values : List EnumValue) (place : ℕ)
      → Stays (enum_type items c id goes_wrong values place) (enum_type more c id goes_wrong values place)
  stays_enum c id goes_wrong values zero = stays_whole id (length values)
  stays_enum c id goes_wrong values (suc place) = stays_enum_value c id place goes_wrong (slice_get values place)

  stays_by_kind : (p : Project) (made : Made) (item : Item) (x : Option DeclKind)
      → Stays (type_by_kind items p made item x) (type_by_kind more p made item x)
  stays_by_kind p made item (Some (d.variable v)) = stays_variable _ v.variable.value
  stays_by_kind p made item (Some (d.constant v)) = stays_constant _ (made.goes_wrong item) _ v.value
  stays_by_kind p made item (Some (d.enum name values)) = stays_enum _ item.member (made.goes_wrong item) values item.value
  stays_by_kind p made item x = stays_self _

-- ---- the laws

pub seen_stays : SeenStays
seen_stays items more h c place x = stays_judge items more h c place x

pub step_stays : StepStays
step_stays p made items more h item = stays_by_kind items more h p made item (declared p item.member)

pub known_stays : KnownStays
known_stays p made zero item = stays_nothing (known_at p made (suc zero) item)
known_stays p made (suc depth) item = step_stays p made (known_at p made depth) (known_at p made (suc depth))
    (known_stays p made depth) item
