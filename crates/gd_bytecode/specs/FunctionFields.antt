-- Which functions and instructions a program may have.
use Rattle.std.specs.Prelude.{◌≡◌, ℕ, suc, Bool, true, false, not, ◌&&◌, ◌||◌, ◌==◌, nat_eq, nat_lt, nat_le, List, [], ◌∷◌, length, slice_index_or, slice_get, Option, if◌then◌else◌}
use Rattle.std.specs.List.{list_any}
use Rattle.std.specs.Option.{option_or, option_map_or}
use Rattle.gd_model.specs.declared.ty.Ty.{Ty, out-Ty}
use Rattle.gd_model.specs.declared.ty.Ty.TheOpen as open_ty
use Rattle.gd_model.specs.declared.ty.Ty.TheOpen.{Ty-F}
use Rattle.gd_bytecode.specs.declared.field.Field.{Field}
use Rattle.gd_bytecode.specs.declared.field.Field.TheVariants.{InFunction}
use Rattle.gd_bytecode.specs.declared.field.FunctionField.TheVariants as field
use Rattle.gd_bytecode.specs.declared.opcode.Opcode.{Opcode}
use Rattle.gd_bytecode.specs.declared.opcode.Opcode.TheVariants as op
use Rattle.gd_bytecode.specs.declared.program.ClassCode.{ClassCode}
use Rattle.gd_bytecode.specs.declared.program.Function.{Function}
use Rattle.gd_bytecode.specs.declared.program.Instr.{Instr}
use Rattle.gd_bytecode.specs.declared.program.Method.{Method}
use Rattle.gd_bytecode.specs.declared.program.Program.{Program}
use Rattle.gd_bytecode.specs.First.{first_in, unless, within}
use Rattle.gd_bytecode.specs.Tables.{is_one_text}

-- name, path and class
abbrev pub head_fault : Program → ℕ → Function → Option Field
head_fault p i f =
    option_or (option_or (within f.name (length p.texts) (InFunction i field.Name)) (within f.path (length p.paths) (InFunction i field.Path)))
    (within f.class (length p.classes) (InFunction i field.Class))

abbrev pub locals_fault : Program → ℕ → List ℕ → Option Field
locals_fault p i types = first_in (λ j t. within t (length p.types) (InFunction i (field.Local j))) 0 types

-- the type that it gives, and that it has code
abbrev pub count_fault : Program → ℕ → Function → Option Field
count_fault p i f =
    option_or (within f.returns (length p.types) (InFunction i field.Returns)) (unless (not (length f.code == 0)) (InFunction i field.Count))

abbrev pub is_static : Program → ℕ → Bool
is_static p n = option_map_or (λ (f : Function). f.is_static) (slice_get p.functions n) false

-- a method of class i is a function of that class under the function's own name
abbrev pub names_own : Program → ℕ → Method → Bool
names_own p i m =
    option_map_or (λ (f : Function). nat_eq f.class i && is_one_text p f.name m.name) (slice_get p.functions m.function) false

-- it is function n
abbrev pub names_so : Program → ℕ → ℕ → Method → Bool
names_so p n i m = nat_eq m.function n && names_own p i m

-- among classes that are numbered from i on
abbrev pub is_named_in : Program → ℕ → ℕ → List ClassCode → Bool
is_named_in p n i [] = false
is_named_in p n i (c ∷ cs) = list_any (names_so p n i) c.methods || is_named_in p n (suc i) cs

-- a function stands among the methods of its class under the text of its name
abbrev pub is_named : Program → ℕ → Bool
is_named p n = is_named_in p n 0 p.classes

-- the functions of which this is so
abbrev pub AreNamed : Program → List Bool → Type 0
AreNamed p named = (n : ℕ) → slice_index_or named n false ≡ is_named p n

-- `a` names a type, a text, where it is to
abbrev pub is_type_right : Program → Opcode → ℕ → Bool
is_type_right p op.Is a = nat_lt a (length p.types)
is_type_right p op.As a = nat_lt a (length p.types)
is_type_right p op.Test a = nat_lt a (length p.types)
is_type_right p o a = true

abbrev pub is_text_right : Program → Opcode → ℕ → Bool
is_text_right p op.Attr a = nat_lt a (length p.texts)
is_text_right p op.SetAttr a = nat_lt a (length p.texts)
is_text_right p op.Own a = nat_lt a (length p.texts)
is_text_right p op.SetOwn a = nat_lt a (length p.texts)
is_text_right p op.Static a = nat_lt a (length p.texts)
is_text_right p op.SetStatic a = nat_lt a (length p.texts)
is_text_right p o a = true

-- `a` is one that the operation takes: a tag, a local, locals from `a` to `b`, a parameter, an operator, one to three
-- numbers, one message or none, a static function that its class has as a method, a type or a text
abbrev pub is_a_right : Program → Function → Opcode → ℕ → ℕ → Bool
is_a_right p f op.Push a b = nat_lt a 6
is_a_right p f op.Get a b = nat_lt a (length f.types)
is_a_right p f op.Set a b = nat_lt a (length f.types)
is_a_right p f op.Clear a b = nat_le a b && nat_le b (length f.types)
is_a_right p f op.Default a b = nat_lt a f.params
is_a_right p f op.Op a b = nat_lt a 23
is_a_right p f op.Range a b = nat_le 1 a && nat_le a 3
is_a_right p f op.Fail a b = nat_le a 1
is_a_right p f op.Func a b = is_static p a && is_named p a
is_a_right p f o a b = is_type_right p o a && is_text_right p o a

-- what a Push with this tag takes is there
abbrev pub is_operand_right : Program → ℕ → ℕ → Bool
is_operand_right p t b =
    if t == 3 then nat_lt b (length p.ints)
    else (if t == 4 then nat_lt b (length p.texts)
    else (if t == 5 then nat_lt b (length p.constants) else true))

abbrev pub is_typed_dict_shape : Ty-F Ty → Bool
is_typed_dict_shape (open_ty.DictOf k v) = true
is_typed_dict_shape t = false

abbrev pub is_typed_dict : Program → ℕ → Bool
is_typed_dict p n = option_map_or (λ (t : Ty). is_typed_dict_shape (out-Ty t)) (slice_get p.types n) false

-- `b` is one that the operation takes: an entry for a Push, a type, the type of a typed dictionary, a class or none, a text,
-- a function, a builtin function, or whether more are allowed
abbrev pub is_b_right_for : Program → Opcode → ℕ → ℕ → Bool
is_b_right_for p op.Push a b = is_operand_right p a b
is_b_right_for p op.Array a b = nat_lt b (length p.types)
is_b_right_for p op.DictOf a b = is_typed_dict p b
is_b_right_for p op.Static a b = nat_le b (length p.classes)
is_b_right_for p op.SetStatic a b = nat_le b (length p.classes)
is_b_right_for p op.New a b = nat_le b (length p.classes)
is_b_right_for p op.Call a b = nat_lt b (length p.texts)
is_b_right_for p op.Direct a b = nat_lt b (length p.functions)
is_b_right_for p op.Builtin a b = nat_lt b 22
is_b_right_for p op.SizeArr a b = nat_le b 1
is_b_right_for p op.SizeDict a b = nat_le b 1
is_b_right_for p o a b = true

abbrev pub is_b_right : Program → Instr → Bool
is_b_right p i = is_b_right_for p i.op i.a i.b

-- instruction k of function i
abbrev pub instr_fault : Program → ℕ → Function → ℕ → Instr → Option Field
instr_fault p i f k x =
    option_or (unless (is_a_right p f x.op x.a x.b) (InFunction i (field.A k))) (unless (is_b_right p x) (InFunction i (field.B k)))

abbrev pub code_fault : Program → ℕ → Function → Option Field
code_fault p i f = first_in (λ k x. instr_fault p i f k x) 0 f.code

abbrev pub entry_fault : Program → ℕ → Function → Option Field
entry_fault p i f = option_or (head_fault p i f) (option_or (locals_fault p i f.types) (option_or (count_fault p i f) (code_fault p i f)))

abbrev pub function_fault : Program → Option Field
function_fault p = first_in (λ i f. entry_fault p i f) 0 p.functions
