-- The text that a pattern gives with its arguments.
use Rattle.std.specs.Prelude.{◌≡◌, ⊤, ℕ, ◌+◌, ◌-◌, ◌<◌, ◌≤◌, ℤ, pos, negsuc, Bool, true, false, not, ◌&&◌, ◌==◌, List, [], ◌∷◌, ◌++◌, length, replicate, unsigned_abs, Option, None, Some, is_some, Result, Ok, Err, if◌then◌else◌}
use lib.Utf8.{scalar}
use Rattle.std.specs.Fmt.{digits, decimal, signed_decimal, sign_text_with}
use Rattle.std.specs.Int.{is_negative}
use Rattle.gd_syntax.specs.declared.text.TextFault.{TextFault}
use Rattle.gd_syntax.specs.declared.text.TextFault.TheVariants as text
use Rattle.gd_text.specs.declared.pattern.Letter.{Letter}
use Rattle.gd_text.specs.declared.pattern.Letter.TheVariants.{Any, Character, Decimal, Octal, LowerHex, UpperHex}
use Rattle.gd_text.specs.declared.pattern.Conversion.{Conversion}
use Rattle.gd_text.specs.declared.pattern.Piece.{Piece}
use Rattle.gd_text.specs.declared.pattern.Piece.TheVariants.{Plain, Shown}
use Rattle.gd_text.specs.declared.formatting.Arg.{Arg}
use Rattle.gd_text.specs.declared.formatting.Arg.TheVariants.{Num, Str, Other}
use Rattle.gd_text.specs.declared.formatting.FormatFault.{FormatFault}
use Rattle.gd_text.specs.declared.formatting.FormatFault.TheVariants.{BadFormat, TooLong, NoMemory}
use Rattle.std.specs.Option.{option_map_or}
use Rattle.gd_text.specs.Pattern.{IsPattern}
use Rattle.gd_text.specs.Reading.{pieces_of}

-- the character with this code
abbrev pub character : ℤ → Option ℕ
character (pos n) = if scalar n then Some n else None
character (negsuc k) = None

abbrev pub is_int : Arg → Bool
is_int (Num n) = true
is_int (Str t) = false
is_int (Other t) = false

-- whether a conversion with this letter takes the argument
abbrev pub takes : Letter → Arg → Bool
takes Any a = true
takes Character (Num n) = is_some (character n)
takes Character (Str t) = length t == 1
takes Character (Other t) = false
takes Decimal a = is_int a
takes Octal a = is_int a
takes LowerHex a = is_int a
takes UpperHex a = is_int a

-- the digits of a number in the base of the letter
abbrev pub digits_under : Letter → ℕ → List ℕ
digits_under Octal n = digits 8 false n
digits_under LowerHex n = digits 16 false n
digits_under UpperHex n = digits 16 true n
digits_under Any n = decimal n
digits_under Character n = decimal n
digits_under Decimal n = decimal n

-- the zeros that bring a number of this length to the width: under `0`, but not under `-` too
abbrev pub zeros : Conversion → ℕ → List ℕ
zeros c len = if c.zero && not c.minus then replicate (c.width - len) 48 else []

-- `-` before a negative number; under `+` a plus before any other
abbrev pub sign : Bool → ℤ → List ℕ
sign plus n = sign_text_with plus (is_negative n)

-- a number: its sign, zeros, and the digits of its magnitude
abbrev pub number : Conversion → ℤ → List ℕ
number c n =
    let before = sign c.plus n in
    let ds = digits_under c.letter (unsigned_abs n) in
    before ++ (zeros c (length before + length ds) ++ ds)

-- what stands for an int: for `s` its printed form, for `c` the character of this code, and else the number
abbrev pub int_text : Letter → Conversion → ℤ → List ℕ
int_text Any c n = signed_decimal n
int_text Character c n = unsigned_abs n ∷ []
int_text Decimal c n = number c n
int_text Octal c n = number c n
int_text LowerHex c n = number c n
int_text UpperHex c n = number c n

-- filled up to the width with blanks: under `-` on the right, and else on the left
abbrev pub filled : Conversion → List ℕ → List ℕ
filled c t = let blanks = replicate (c.width - length t) 32 in if c.minus then t ++ blanks else blanks ++ t

-- what a conversion makes of an argument that its letter takes
abbrev pub shown : Conversion → Arg → List ℕ
shown c (Num n) = filled c (int_text c.letter c n)
shown c (Str t) = filled c t
shown c (Other t) = filled c t

-- the fault of `format` where its text is too long, or memory lacks for it
abbrev pub PassesOn : TextFault → FormatFault → Type 0
PassesOn text.TooLong f = f ≡ TooLong
PassesOn text.NoMemory f = f ≡ NoMemory
PassesOn text.NotUtf8 f = ⊥
PassesOn text.OutOfRange f = ⊥

-- whether there is an argument for each conversion, of a kind that it takes, and no more
abbrev pub all_fit : List Piece → List Arg → Bool
all_fit [] args = length args == 0
all_fit (Plain c ∷ ps) args = all_fit ps args
all_fit (Shown c ∷ ps) [] = false
all_fit (Shown c ∷ ps) (a ∷ args) = takes c.letter a && all_fit ps args

-- the text that the pieces give with arguments that fit
abbrev pub text_of : List Piece → List Arg → List ℕ
text_of [] args = []
text_of (Plain c ∷ ps) args = c ∷ text_of ps args
text_of (Shown c ∷ ps) [] = []
text_of (Shown c ∷ ps) (a ∷ args) = shown c a ++ text_of ps args

-- the arguments that are left behind a piece, if it takes what it is given
abbrev pub left_by : Piece → List Arg → Option (List Arg)
left_by (Plain c) args = Some args
left_by (Shown c) [] = None
left_by (Shown c) (a ∷ args) = if takes c.letter a then Some args else None

-- the text of one piece
abbrev pub piece_text : Piece → List Arg → List ℕ
piece_text (Plain c) args = c ∷ []
piece_text (Shown c) [] = []
piece_text (Shown c) (a ∷ args) = shown c a

-- the pattern is one, and its conversions take the arguments
abbrev pub fits : List ℕ → List Arg → Bool
fits a args = option_map_or (λ (ps : List Piece). all_fit ps args) (pieces_of a) false

-- the text of the pattern with arguments that fit it
abbrev pub text_with : List ℕ → List Arg → List ℕ
text_with a args = option_map_or (λ (ps : List Piece). text_of ps args) (pieces_of a) []

-- the text that the pattern gives with the arguments: none where it is no pattern, or they do not fit it
abbrev pub formatted : List ℕ → List Arg → Option (List ℕ)
formatted a args = if fits a args then Some (text_with a args) else None

-- the pattern gives this text with the arguments
pub record IsFormatted (pattern : List ℕ) (args : List Arg) (t : List ℕ) : Type 0 where
  pub pieces : List Piece
  pub are_pieces : IsPattern pieces pattern
  pub fit : all_fit pieces args ≡ true
  pub text : t ≡ text_of pieces args

-- the answer of `format`: the text; too long exactly where it passes the limit; a bad format exactly where there is none
abbrev pub Formats : List ℕ → List Arg → Result (List ℕ) FormatFault → Type 0
Formats pattern args (Ok t) = IsFormatted pattern args t × (length t ≤ 16777216)
Formats pattern args (Err TooLong) = (t : List ℕ) × IsFormatted pattern args t × (16777216 < length t)
Formats pattern args (Err BadFormat) = (t : List ℕ) → IsFormatted pattern args t → ⊥
Formats pattern args (Err NoMemory) = ⊤
