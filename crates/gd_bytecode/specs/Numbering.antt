-- Numbers that equal texts, ints and keys share.
use Rattle.std.specs.Prelude.{◌≡◌, ℕ, Bool, ◌&&◌, nat_eq, List, length, slice_get, Option, Some, None, option_map}
use Rattle.std.specs.HashSet.{HashSet, contains}
use Rattle.std.specs.declared.hash.FoldHasher.{FoldHasher}
use Rattle.std.specs.declared.hash.BuildHasherDefault.{BuildHasherDefault}
use Rattle.std.specs.List.{list_any}
use Rattle.std.specs.Ordering.{int_eq}
use Rattle.std.specs.Str.{bytes_eq}
use Rattle.gd_bytecode.specs.declared.numbers.Numbers.{Numbers}
use Rattle.gd_bytecode.specs.declared.program.Operand.{Operand}
use Rattle.gd_bytecode.specs.declared.program.Program.{Program}
use Rattle.gd_bytecode.specs.declared.program.Tag.{Tag}
use Rattle.gd_bytecode.specs.declared.program.Tag.TheVariants as tag
use Rattle.gd_bytecode.specs.Tables.{both}

-- each entry has a number, and two have one number exactly where they are equal
pub record Share {X : Type 0} (eq : X → X → Bool) (xs : List X) (ns : List ℕ) : Type 0 where
  pub count : length ns ≡ length xs
  pub same : (i j : ℕ) → both nat_eq (slice_get ns i) (slice_get ns j) ≡ both eq (slice_get xs i) (slice_get xs j)

-- the numbers of a program's texts and ints
pub record AreNumbers (p : Program) (s : Numbers) : Type 0 where
  pub texts : Share bytes_eq p.texts s.texts.items
  pub ints : Share int_eq p.ints s.ints.items

-- a set
abbrev pub Set : Type 0 → Type 0
Set K = HashSet K (BuildHasherDefault FoldHasher)

-- a set has the codes of these things, and no others
abbrev pub HasCodes : {K E : Type 0} → (K → K → Bool) → (E → Option K) → Set K → List E → Type 0
HasCodes {K} eq code met earlier = (k : K) → contains eq met k ≡ list_any (λ e. both eq (code e) (Some k)) earlier

abbrev pub Names : Type 0
Names = List ℕ

abbrev pub ProgramOf : Type 0
ProgramOf = Program

-- the names of a class so far
abbrev pub HasNames : Numbers → Set ℕ → Names → Type 0
HasNames s met earlier = HasCodes nat_eq (λ n. slice_get s.texts.items n) met earlier

abbrev pub Operands : Type 0
Operands = List Operand

-- the code of a key: equal keys share it
abbrev pub tag_code : Numbers → ℕ → Tag → Option (ℕ × ℕ)
tag_code s n tag.Null = Some (0, 0)
tag_code s n tag.False = Some (1, 0)
tag_code s n tag.True = Some (2, 0)
tag_code s n tag.Int = option_map (λ m. (3, m)) (slice_get s.ints.items n)
tag_code s n tag.Text = option_map (λ m. (4, m)) (slice_get s.texts.items n)
tag_code s n tag.Constant = None

abbrev pub key_code : Numbers → Operand → Option (ℕ × ℕ)
key_code s o = tag_code s o.number o.tag

abbrev pub code_eq : ℕ × ℕ → ℕ × ℕ → Bool
code_eq c d = nat_eq c.0 d.0 && nat_eq c.1 d.1

abbrev pub HasKeys : Numbers → Set (ℕ × ℕ) → Operands → Type 0
HasKeys s met earlier = HasCodes code_eq (key_code s) met earlier
