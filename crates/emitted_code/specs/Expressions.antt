-- The code of expressions: it leaves the value of the expression on the stack, above what stood there before.
use Rattle.std.specs.Prelude.{ℕ, suc, Bool, true, false, [], ◌++◌, length, if◌then◌else◌}
use Rattle.gd_bytecode.specs.declared.opcode.Opcode.{Opcode}
use Rattle.gd_bytecode.specs.declared.opcode.Opcode.TheVariants as op
use Rattle.gd_model.specs.Datum as v
use Rattle.gd_model.specs.declared.ty.Ty.{Ty}
use Rattle.gd_model.specs.declared.ty.Ty.TheVariants as ty
use Rattle.gd_syntax.specs.declared.operator.Operator.TheVariants as operator
use Rattle.gd_syntax.specs.declared.pos.Pos.{Pos}
use Rattle.syntax_trees.specs.Expressions.{Expr, ExprKind, Exprs, Pairs, expr, expr_and, first_token, no_exprs, no_pairs, pair_and}
use Rattle.syntax_trees.specs.Expressions as e
use Rattle.source_semantics.specs.Expressions.{type_at}
use Rattle.source_semantics.specs.Types.{element_type, key_and_value}
use Rattle.emitted_code.specs.Attributes.{attribute, reach_through}
use Rattle.emitted_code.specs.Calls.{end_call, end_super}
use Rattle.emitted_code.specs.Literals.{end_array, end_dict}
use Rattle.emitted_code.specs.Names.{read_name}
use Rattle.emitted_code.specs.Scenes.{Scene, is_class}
use Rattle.emitted_code.specs.Steps.{Code, operate, over, plain, push, step, test, typed}

-- how many there are
abbrev pub count : Exprs → ℕ
count no_exprs = 0
count (expr_and x xs) = suc (count xs)

abbrev pub count_pairs : Pairs → ℕ
count_pairs no_pairs = 0
count_pairs (pair_and k x xs) = suc (count_pairs xs)

-- The end of `and` and `or`, whose left side is used up. A jump over the right side and the two instructions behind it
-- leads to the value that is settled by the left side alone; else the truth of the right side is left.
abbrev pub truth_or : Pos → Opcode → Bool → Code → Code
truth_or pos jump settled right =
    step pos (over jump 0 (suc (suc (length right)))) ++ (right ++ (step pos (plain op.Truth 0 0)
    ++ (step pos (over op.Jump 0 1) ++ step pos (push (v.bool settled)))))

-- One of two codes, by the truth of a value that is used up: each leaves a value.
abbrev pub either : Pos → Code → Code → Code
either pos this other =
    step pos (over op.JumpIfNot 0 (suc (length this))) ++ (this ++ (step pos (over op.Jump 0 (length other)) ++ other))

-- `is not` turns the answer
abbrev pub turned : Pos → Bool → Code
turned pos negated = if negated then operate pos operator.Not else []

unfoldable mutual
  pub code : Scene → Expr → Code
  code c (expr pos kind) = code_of c pos kind

  -- one case for each form
  pub code_of : Scene → Pos → ExprKind → Code
  code_of c pos e.null = step pos (push v.null)
  code_of c pos (e.bool b) = step pos (push (v.bool b))
  code_of c pos (e.int n) = step pos (push (v.int n))
  code_of c pos (e.str t) = step pos (push (v.text t))
  code_of c pos (e.name name) = read_name c pos name
  code_of c pos e.me = step pos (plain op.Me 0 0)
  -- the elements stand on the stack in their order, each tested against the element type
  code_of c pos (e.array_lit xs) =
      let t : Ty = c.project.typed pos in all c (element_type t) xs ++ end_array pos (count xs) t
  -- keys and values in turn
  code_of c pos (e.dict_lit xs) =
      let t : Ty = c.project.typed pos in
      all_pairs c (key_and_value t).0 (key_and_value t).1 xs ++ end_dict pos (count_pairs xs) t
  code_of c pos (e.unary op x) = code c x ++ operate pos op
  code_of c pos (e.binary op x y) = code c x ++ (code c y ++ operate pos op)
  code_of c pos (e.and x y) = code c x ++ truth_or pos op.JumpIfNot false (code c y)
  code_of c pos (e.or x y) = code c x ++ truth_or pos op.JumpIf true (code c y)
  code_of c pos (e.choose x q y) = code c q ++ either pos (code c x) (code c y)
  code_of c pos (e.cast x t) = code c x ++ step pos (typed op.As (type_at c.project t))
  code_of c pos (e.test x t negated) = code c x ++ (step pos (typed op.Is (type_at c.project t)) ++ turned pos negated)
  code_of c pos (e.attr x name) = attribute c pos x name (code c x) (way c x)
  -- the base, and the index above it
  code_of c pos (e.index x i) = code c x ++ (code c i ++ step pos (plain op.Index 0 0))
  code_of c pos (e.call (expr at callee) xs) =
      end_call c pos callee (before c callee) (count xs) (all c ty.Variant xs)
  code_of c pos (e.super word name xs) = end_super c pos (count xs) (all c ty.Variant xs)
  -- a `preload` stands for a class
  code_of c pos (e.preload path) = step pos (push v.null)

  -- the way to a class: it leaves nothing
  pub way : Scene → Expr → Code
  way c (expr pos kind) = way_of c pos kind

  pub way_of : Scene → Pos → ExprKind → Code
  way_of c pos (e.attr x name) = reach_through c pos x name (code c x) (way c x)
  way_of c pos kind = []

  -- what stands before the dot of what is called: the receiver, or the way to a class
  pub before : Scene → ExprKind → Code
  before c (e.attr x name) = if is_class c x then way c x else code c x
  before c kind = []

  -- values one above another, each tested against a type at its first token
  pub all : Scene → Ty → Exprs → Code
  all c t no_exprs = []
  all c t (expr_and x xs) = code c x ++ (test (first_token x) t ++ all c t xs)

  pub all_pairs : Scene → Ty → Ty → Pairs → Code
  all_pairs c k t no_pairs = []
  all_pairs c k t (pair_and x y xs) =
      code c x ++ (test (first_token x) k ++ (code c y ++ (test (first_token y) t ++ all_pairs c k t xs)))
