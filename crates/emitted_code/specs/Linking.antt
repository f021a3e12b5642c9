-- Instructions with the numbers of what they name, at the places where they stand.
use Rattle.std.specs.Prelude.{ℕ, zero, suc, pred, ◌+◌, ◌-◌, ℤ, Bool, true, false, List, [], ◌∷◌, ◌++◌}
use Rattle.std.specs.List.{flat_map}
use Rattle.gd_bytecode.specs.declared.opcode.Opcode.{Opcode}
use Rattle.gd_bytecode.specs.declared.opcode.Opcode.TheVariants as op
use Rattle.gd_bytecode.specs.declared.program.Instr.{Instr}
use Rattle.gd_bytecode.specs.declared.program.Operand.{Operand}
use Rattle.gd_bytecode.specs.declared.program.Tag.{Tag}
use Rattle.gd_bytecode.specs.declared.program.Tag.TheVariants as tag
use Rattle.gd_model.specs.Datum as v
use Rattle.gd_model.specs.Datum.{Datum}
use Rattle.gd_model.specs.declared.ty.Ty.{Ty}
use Rattle.syntax_trees.specs.Expressions.{Text}
use Rattle.emitted_code.specs.Steps.{Code, Does, Step, again, back, call, direct, ended, func, made, named, out, over, plain, push, static, to, typed}
use Rattle.emitted_code.specs.Tables.{Tables, int_number, key_number, text_number, type_number, with_parts}

-- ---- what is named

abbrev pub text_in : Datum → List Text
text_in (v.text t) = t ∷ []
text_in x = []

abbrev pub int_in : Datum → List ℤ
int_in (v.int n) = n ∷ []
int_in x = []

abbrev pub texts_in : Does → List Text
texts_in (push x) = text_in x
texts_in (named o name) = name ∷ []
texts_in (static o name class) = name ∷ []
texts_in (call n name) = name ∷ []
texts_in other = []

abbrev pub ints_in : Does → List ℤ
ints_in (push x) = int_in x
ints_in other = []

abbrev pub types_in : Does → List Ty
types_in (typed o t) = with_parts t
types_in (made o n t) = with_parts t
types_in other = []

abbrev pub code_texts : Code → List Text
code_texts code = flat_map (λ (s : Step). texts_in s.does) code

abbrev pub code_ints : Code → List ℤ
code_ints code = flat_map (λ (s : Step). ints_in s.does) code

abbrev pub code_types : Code → List Ty
code_types code = flat_map (λ (s : Step). types_in s.does) code

-- ---- values: a thing is the constant that is made with its serial number, from 1

abbrev pub tag_number : Tag → ℕ
tag_number tag.Null = 0
tag_number tag.False = 1
tag_number tag.True = 2
tag_number tag.Int = 3
tag_number tag.Text = 4
tag_number tag.Constant = 5

abbrev pub operand : Tag → ℕ → Operand
operand t n = record { tag = t; number = n }

abbrev pub operand_of : Tables → Datum → Operand
operand_of t (v.bool true) = operand tag.True 0
operand_of t (v.bool false) = operand tag.False 0
operand_of t (v.int n) = operand tag.Int (int_number t n)
operand_of t (v.text x) = operand tag.Text (text_number t x)
operand_of t (v.array s) = operand tag.Constant (pred s)
operand_of t (v.dictionary s) = operand tag.Constant (pred s)
operand_of t x = operand tag.Null 0

-- ---- instructions

abbrev pub instr : Step → Opcode → ℕ → ℕ → Instr
instr s o a b = record { op = o; a = a; b = b; line = s.at.line; column = s.at.column }

-- at a place in the code
abbrev pub linked : Tables → ℕ → Step → Does → Instr
linked t k s (plain o a b) = instr s o a b
linked t k s (push x) = let q : Operand = operand_of t x in instr s op.Push (tag_number q.tag) q.number
linked t k s (over o a n) = instr s o a (suc k + n)
linked t k s (back o n) = instr s o 0 (k - n)
linked t k s (named o name) = instr s o (text_number t name) 0
linked t k s (static o name class) = instr s o (text_number t name) class
linked t k s (call n name) = instr s op.Call n (text_number t name)
linked t k s (direct n key) = instr s op.Direct n (key_number t key)
linked t k s (func key) = instr s op.Func (key_number t key) 0
linked t k s (typed o x) = instr s o (type_number t x) 0
linked t k s (made o n x) = instr s o n (type_number t x)
-- no loop is around: a function of a project without errors has no such jump
linked t k s out = instr s op.Jump 0 0
linked t k s again = instr s op.Jump 0 0
-- no `match` is around
linked t k s (to o node) = instr s o 0 0
linked t k s ended = instr s op.Jump 0 0

abbrev pub linked_from : Tables → ℕ → Code → List Instr
linked_from t k [] = []
linked_from t k (s ∷ ss) = linked t k s s.does ∷ linked_from t (suc k) ss
