-- What a name stands for.
use Rattle.std.specs.Prelude.{ℕ, ◌+◌, ◌==◌, ◌&&◌, Bool, true, if◌then◌else◌, List, [], ◌∷◌, slice_index, length, codes}
use Rattle.gd_syntax.specs.declared.token.Keyword.TheVariants as keywords
use Rattle.gd_lexer.specs.declared.word.Word.{Word}
use Rattle.gd_lexer.specs.declared.word.Word.TheVariants as words

-- these characters stand in the text from this place on
abbrev pub spells_from : ℕ → List ℕ → List ℕ → Bool
spells_from k text [] = true
spells_from k text (c ∷ cs) = slice_index text k == c && spells_from (k + 1) text cs

abbrev pub spells : List ℕ → List ℕ → Bool
spells text word = spells_from 0 text word

-- The names of each length that are keywords or floats.
abbrev pub two : List ℕ → Word
two text =
    if spells text (codes "if") then words.Keyword keywords.If
    else (if spells text (codes "is") then words.Keyword keywords.Is
    else (if spells text (codes "in") then words.Keyword keywords.In
    else (if spells text (codes "as") then words.Keyword keywords.As
    else (if spells text (codes "or") then words.Keyword keywords.Or
    else (if spells text (codes "PI") then words.Float else words.Name)))))

abbrev pub three : List ℕ → Word
three text =
    if spells text (codes "for") then words.Keyword keywords.For
    else (if spells text (codes "var") then words.Keyword keywords.Var
    else (if spells text (codes "and") then words.Keyword keywords.And
    else (if spells text (codes "not") then words.Keyword keywords.Not
    else (if spells text (codes "TAU") then words.Float
    else (if spells text (codes "INF") then words.Float
    else (if spells text (codes "NAN") then words.Float else words.Name))))))

abbrev pub four : List ℕ → Word
four text =
    if spells text (codes "elif") then words.Keyword keywords.Elif
    else (if spells text (codes "else") then words.Keyword keywords.Else
    else (if spells text (codes "when") then words.Keyword keywords.When
    else (if spells text (codes "pass") then words.Keyword keywords.Pass
    else (if spells text (codes "self") then words.Keyword keywords.SelfValue
    else (if spells text (codes "func") then words.Keyword keywords.Func
    else (if spells text (codes "enum") then words.Keyword keywords.Enum
    else (if spells text (codes "void") then words.Keyword keywords.Void
    else (if spells text (codes "true") then words.Keyword keywords.True
    else (if spells text (codes "null") then words.Keyword keywords.Null else words.Name)))))))))

abbrev pub five : List ℕ → Word
five text =
    if spells text (codes "while") then words.Keyword keywords.While
    else (if spells text (codes "match") then words.Keyword keywords.Match
    else (if spells text (codes "break") then words.Keyword keywords.Break
    else (if spells text (codes "class") then words.Keyword keywords.Class
    else (if spells text (codes "super") then words.Keyword keywords.Super
    else (if spells text (codes "const") then words.Keyword keywords.Const
    else (if spells text (codes "await") then words.Keyword keywords.Await
    else (if spells text (codes "yield") then words.Keyword keywords.Yield
    else (if spells text (codes "false") then words.Keyword keywords.False else words.Name))))))))

abbrev pub six : List ℕ → Word
six text =
    if spells text (codes "return") then words.Keyword keywords.Return
    else (if spells text (codes "signal") then words.Keyword keywords.Signal
    else (if spells text (codes "static") then words.Keyword keywords.Static
    else (if spells text (codes "assert") then words.Keyword keywords.Assert else words.Name)))

abbrev pub seven : List ℕ → Word
seven text =
    if spells text (codes "extends") then words.Keyword keywords.Extends
    else (if spells text (codes "preload") then words.Keyword keywords.Preload else words.Name)

abbrev pub eight : List ℕ → Word
eight text =
    if spells text (codes "continue") then words.Keyword keywords.Continue else words.Name

abbrev pub ten : List ℕ → Word
ten text =
    if spells text (codes "class_name") then words.Keyword keywords.ClassName
    else (if spells text (codes "breakpoint") then words.Keyword keywords.Breakpoint else words.Name)

-- what the whole name is
unfoldable pub word_at : List ℕ → Word
word_at text =
    if length text == 2 then two text
    else (if length text == 3 then three text
    else (if length text == 4 then four text
    else (if length text == 5 then five text
    else (if length text == 6 then six text
    else (if length text == 7 then seven text
    else (if length text == 8 then eight text
    else (if length text == 10 then ten text else words.Name)))))))
