-- What a name stands for, by its text.
use Rattle.std.proofs.Common.{◌≡◌, ℕ, ◌+◌, ◌<◌, Bool, true, false, cond, List, [], ◌∷◌, length, drop, slice_index, refl, ap, ◌∙◌, arith, inl, inr}
use Rattle.std.proofs.lemmas.Bool.{and_parts, eqb-true}
use Rattle.std.proofs.lemmas.List.{drop_more, nil_from_length}
use Rattle.std.proofs.Common.{length-drop}
use Rattle.std.specs.Prelude.{◌==◌, codes}
use Rattle.gd_syntax.specs.declared.token.Keyword.{Keyword}
use Rattle.gd_syntax.specs.declared.token.Keyword.TheVariants as keywords
use Rattle.gd_lexis.specs.Words.{keyword_text, IsFloatName}
use Rattle.gd_lexer.specs.declared.word.Word.{Word}
use Rattle.gd_lexer.specs.declared.word.Word.TheVariants as words
use Rattle.gd_lexer.specs.Word.{spells, spells_from, two, three, four, five, six, seven, eight, ten, word_at}

spelled_from : (k : ℕ) (text word : List ℕ) → length (drop k text) ≡ length word → spells_from k text word ≡ true → drop k text ≡ word
spelled_from k text [] l h = nil_from_length (drop k text) l
spelled_from k text (c ∷ cs) l h =
    let p = and_parts (slice_index text k == c) (spells_from (k + 1) text cs) h in
    let within : k < length text = omega (arith, length-drop k text) in
    let first : slice_index text k ≡ c = eqb-true (slice_index text k) c p.0 in
    let shorter : length (drop (k + 1) text) ≡ length cs = omega (arith, length-drop k text, length-drop (k + 1) text) in
    drop_more text k 0 within ∙ rw (first, spelled_from (k + 1) text cs shorter p.1) refl

spelled : (text word : List ℕ) → length text ≡ length word → spells text word ≡ true → text ≡ word
spelled text word l h = spelled_from 0 text word l h

-- what the word says of the text
abbrev pub Tells : List ℕ → Word → Type 0
Tells text (words.Keyword k) = text ≡ keyword_text k
Tells text words.Float = IsFloatName text
Tells text words.Name = Unit {0}

told : (text : List ℕ) (b : Bool) (x y : Word) → (b ≡ true → Tells text x) → (b ≡ false → Tells text y) → Tells text (cond b x y)
told text true x y f g = f refl
told text false x y f g = g refl

two_tells : (text : List ℕ) → length text ≡ 2 → Tells text (two text)
two_tells text l =
    told text (spells text (codes "if")) (words.Keyword keywords.If) (cond (spells text (codes "is")) (words.Keyword keywords.Is) (cond (spells text (codes "in")) (words.Keyword keywords.In) (cond (spells text (codes "as")) (words.Keyword keywords.As) (cond (spells text (codes "or")) (words.Keyword keywords.Or) (cond (spells text (codes "PI")) words.Float words.Name))))) (λ h. (spelled text (codes "if") l h))
    (λ _. told text (spells text (codes "is")) (words.Keyword keywords.Is) (cond (spells text (codes "in")) (words.Keyword keywords.In) (cond (spells text (codes "as")) (words.Keyword keywords.As) (cond (spells text (codes "or")) (words.Keyword keywords.Or) (cond (spells text (codes "PI")) words.Float words.Name)))) (λ h. (spelled text (codes "is") l h))
    (λ _. told text (spells text (codes "in")) (words.Keyword keywords.In) (cond (spells text (codes "as")) (words.Keyword keywords.As) (cond (spells text (codes "or")) (words.Keyword keywords.Or) (cond (spells text (codes "PI")) words.Float words.Name))) (λ h. (spelled text (codes "in") l h))
    (λ _. told text (spells text (codes "as")) (words.Keyword keywords.As) (cond (spells text (codes "or")) (words.Keyword keywords.Or) (cond (spells text (codes "PI")) words.Float words.Name)) (λ h. (spelled text (codes "as") l h))
    (λ _. told text (spells text (codes "or")) (words.Keyword keywords.Or) (cond (spells text (codes "PI")) words.Float words.Name) (λ h. (spelled text (codes "or") l h))
    (λ _. told text (spells text (codes "PI")) words.Float words.Name (λ h. (inl (spelled text (codes "PI") l h)))
    (λ _. tt))))))

three_tells : (text : List ℕ) → length text ≡ 3 → Tells text (three text)
three_tells text l =
    told text (spells text (codes "for")) (words.Keyword keywords.For) (cond (spells text (codes "var")) (words.Keyword keywords.Var) (cond (spells text (codes "and")) (words.Keyword keywords.And) (cond (spells text (codes "not")) (words.Keyword keywords.Not) (cond (spells text (codes "TAU")) words.Float (cond (spells text (codes "INF")) words.Float (cond (spells text (codes "NAN")) words.Float words.Name)))))) (λ h. (spelled text (codes "for") l h))
    (λ _. told text (spells text (codes "var")) (words.Keyword keywords.Var) (cond (spells text (codes "and")) (words.Keyword keywords.And) (cond (spells text (codes "not")) (words.Keyword keywords.Not) (cond (spells text (codes "TAU")) words.Float (cond (spells text (codes "INF")) words.Float (cond (spells text (codes "NAN")) words.Float words.Name))))) (λ h. (spelled text (codes "var") l h))
    (λ _. told text (spells text (codes "and")) (words.Keyword keywords.And) (cond (spells text (codes "not")) (words.Keyword keywords.Not) (cond (spells text (codes "TAU")) words.Float (cond (spells text (codes "INF")) words.Float (cond (spells text (codes "NAN")) words.Float words.Name)))) (λ h. (spelled text (codes "and") l h))
    (λ _. told text (spells text (codes "not")) (words.Keyword keywords.Not) (cond (spells text (codes "TAU")) words.Float (cond (spells text (codes "INF")) words.Float (cond (spells text (codes "NAN")) words.Float words.Name))) (λ h. (spelled text (codes "not") l h))
    (λ _. told text (spells text (codes "TAU")) words.Float (cond (spells text (codes "INF")) words.Float (cond (spells text (codes "NAN")) words.Float words.Name)) (λ h. (inr (inl (spelled text (codes "TAU") l h))))
    (λ _. told text (spells text (codes "INF")) words.Float (cond (spells text (codes "NAN")) words.Float words.Name) (λ h. (inr (inr (inl (spelled text (codes "INF") l h)))))
    (λ _. told text (spells text (codes "NAN")) words.Float words.Name (λ h. (inr (inr (inr (spelled text (codes "NAN") l h)))))
    (λ _. tt)))))))

four_tells : (text : List ℕ) → length text ≡ 4 → Tells text (four text)
four_tells text l =
    told text (spells text (codes "elif")) (words.Keyword keywords.Elif) (cond (spells text (codes "else")) (words.Keyword keywords.Else) (cond (spells text (codes "when")) (words.Keyword keywords.When) (cond (spells text (codes "pass")) (words.Keyword keywords.Pass) (cond (spells text (codes "self")) (words.Keyword keywords.SelfValue) (cond (spells text (codes "func")) (words.Keyword keywords.Func) (cond (spells text (codes "enum")) (words.Keyword keywords.Enum) (cond (spells text (codes "void")) (words.Keyword keywords.Void) (cond (spells text (codes "true")) (words.Keyword keywords.True) (cond (spells text (codes "null")) (words.Keyword keywords.Null) words.Name))))))))) (λ h. (spelled text (codes "elif") l h))
    (λ _. told text (spells text (codes "else")) (words.Keyword keywords.Else) (cond (spells text (codes "when")) (words.Keyword keywords.When) (cond (spells text (codes "pass")) (words.Keyword keywords.Pass) (cond (spells text (codes "self")) (words.Keyword keywords.SelfValue) (cond (spells text (codes "func")) (words.Keyword keywords.Func) (cond (spells text (codes "enum")) (words.Keyword keywords.Enum) (cond (spells text (codes "void")) (words.Keyword keywords.Void) (cond (spells text (codes "true")) (words.Keyword keywords.True) (cond (spells text (codes "null")) (words.Keyword keywords.Null) words.Name)))))))) (λ h. (spelled text (codes "else") l h))
    (λ _. told text (spells text (codes "when")) (words.Keyword keywords.When) (cond (spells text (codes "pass")) (words.Keyword keywords.Pass) (cond (spells text (codes "self")) (words.Keyword keywords.SelfValue) (cond (spells text (codes "func")) (words.Keyword keywords.Func) (cond (spells text (codes "enum")) (words.Keyword keywords.Enum) (cond (spells text (codes "void")) (words.Keyword keywords.Void) (cond (spells text (codes "true")) (words.Keyword keywords.True) (cond (spells text (codes "null")) (words.Keyword keywords.Null) words.Name))))))) (λ h. (spelled text (codes "when") l h))
    (λ _. told text (spells text (codes "pass")) (words.Keyword keywords.Pass) (cond (spells text (codes "self")) (words.Keyword keywords.SelfValue) (cond (spells text (codes "func")) (words.Keyword keywords.Func) (cond (spells text (codes "enum")) (words.Keyword keywords.Enum) (cond (spells text (codes "void")) (words.Keyword keywords.Void) (cond (spells text (codes "true")) (words.Keyword keywords.True) (cond (spells text (codes "null")) (words.Keyword keywords.Null) words.Name)))))) (λ h. (spelled text (codes "pass") l h))
    (λ _. told text (spells text (codes "self")) (words.Keyword keywords.SelfValue) (cond (spells text (codes "func")) (words.Keyword keywords.Func) (cond (spells text (codes "enum")) (words.Keyword keywords.Enum) (cond (spells text (codes "void")) (words.Keyword keywords.Void) (cond (spells text (codes "true")) (words.Keyword keywords.True) (cond (spells text (codes "null")) (words.Keyword keywords.Null) words.Name))))) (λ h. (spelled text (codes "self") l h))
    (λ _. told text (spells text (codes "func")) (words.Keyword keywords.Func) (cond (spells text (codes "enum")) (words.Keyword keywords.Enum) (cond (spells text (codes "void")) (words.Keyword keywords.Void) (cond (spells text (codes "true")) (words.Keyword keywords.True) (cond (spells text (codes "null")) (words.Keyword keywords.Null) words.Name)))) (λ h. (spelled text (codes "func") l h))
    (λ _. told text (spells text (codes "enum")) (words.Keyword keywords.Enum) (cond (spells text (codes "void")) (words.Keyword keywords.Void) (cond (spells text (codes "true")) (words.Keyword keywords.True) (cond (spells text (codes "null")) (words.Keyword keywords.Null) words.Name))) (λ h. (spelled text (codes "enum") l h))
    (λ _. told text (spells text (codes "void")) (words.Keyword keywords.Void) (cond (spells text (codes "true")) (words.Keyword keywords.True) (cond (spells text (codes "null")) (words.Keyword keywords.Null) words.Name)) (λ h. (spelled text (codes "void") l h))
    (λ _. told text (spells text (codes "true")) (words.Keyword keywords.True) (cond (spells text (codes "null")) (words.Keyword keywords.Null) words.Name) (λ h. (spelled text (codes "true") l h))
    (λ _. told text (spells text (codes "null")) (words.Keyword keywords.Null) words.Name (λ h. (spelled text (codes "null") l h))
    (λ _. tt))))))))))

five_tells : (text : List ℕ) → length text ≡ 5 → Tells text (five text)
five_tells text l =
    told text (spells text (codes "while")) (words.Keyword keywords.While) (cond (spells text (codes "match")) (words.Keyword keywords.Match) (cond (spells text (codes "break")) (words.Keyword keywords.Break) (cond (spells text (codes "class")) (words.Keyword keywords.Class) (cond (spells text (codes "super")) (words.Keyword keywords.Super) (cond (spells text (codes "const")) (words.Keyword keywords.Const) (cond (spells text (codes "await")) (words.Keyword keywords.Await) (cond (spells text (codes "yield")) (words.Keyword keywords.Yield) (cond (spells text (codes "false")) (words.Keyword keywords.False) words.Name)))))))) (λ h. (spelled text (codes "while") l h))
    (λ _. told text (spells text (codes "match")) (words.Keyword keywords.Match) (cond (spells text (codes "break")) (words.Keyword keywords.Break) (cond (spells text (codes "class")) (words.Keyword keywords.Class) (cond (spells text (codes "super")) (words.Keyword keywords.Super) (cond (spells text (codes "const")) (words.Keyword keywords.Const) (cond (spells text (codes "await")) (words.Keyword keywords.Await) (cond (spells text (codes "yield")) (words.Keyword keywords.Yield) (cond (spells text (codes "false")) (words.Keyword keywords.False) words.Name))))))) (λ h. (spelled text (codes "match") l h))
    (λ _. told text (spells text (codes "break")) (words.Keyword keywords.Break) (cond (spells text (codes "class")) (words.Keyword keywords.Class) (cond (spells text (codes "super")) (words.Keyword keywords.Super) (cond (spells text (codes "const")) (words.Keyword keywords.Const) (cond (spells text (codes "await")) (words.Keyword keywords.Await) (cond (spells text (codes "yield")) (words.Keyword keywords.Yield) (cond (spells text (codes "false")) (words.Keyword keywords.False) words.Name)))))) (λ h. (spelled text (codes "break") l h))
    (λ _. told text (spells text (codes "class")) (words.Keyword keywords.Class) (cond (spells text (codes "super")) (words.Keyword keywords.Super) (cond (spells text (codes "const")) (words.Keyword keywords.Const) (cond (spells text (codes "await")) (words.Keyword keywords.Await) (cond (spells text (codes "yield")) (words.Keyword keywords.Yield) (cond (spells text (codes "false")) (words.Keyword keywords.False) words.Name))))) (λ h. (spelled text (codes "class") l h))
    (λ _. told text (spells text (codes "super")) (words.Keyword keywords.Super) (cond (spells text (codes "const")) (words.Keyword keywords.Const) (cond (spells text (codes "await")) (words.Keyword keywords.Await) (cond (spells text (codes "yield")) (words.Keyword keywords.Yield) (cond (spells text (codes "false")) (words.Keyword keywords.False) words.Name)))) (λ h. (spelled text (codes "super") l h))
    (λ _. told text (spells text (codes "const")) (words.Keyword keywords.Const) (cond (spells text (codes "await")) (words.Keyword keywords.Await) (cond (spells text (codes "yield")) (words.Keyword keywords.Yield) (cond (spells text (codes "false")) (words.Keyword keywords.False) words.Name))) (λ h. (spelled text (codes "const") l h))
    (λ _. told text (spells text (codes "await")) (words.Keyword keywords.Await) (cond (spells text (codes "yield")) (words.Keyword keywords.Yield) (cond (spells text (codes "false")) (words.Keyword keywords.False) words.Name)) (λ h. (spelled text (codes "await") l h))
    (λ _. told text (spells text (codes "yield")) (words.Keyword keywords.Yield) (cond (spells text (codes "false")) (words.Keyword keywords.False) words.Name) (λ h. (spelled text (codes "yield") l h))
    (λ _. told text (spells text (codes "false")) (words.Keyword keywords.False) words.Name (λ h. (spelled text (codes "false") l h))
    (λ _. tt)))))))))

six_tells : (text : List ℕ) → length text ≡ 6 → Tells text (six text)
six_tells text l =
    told text (spells text (codes "return")) (words.Keyword keywords.Return) (cond (spells text (codes "signal")) (words.Keyword keywords.Signal) (cond (spells text (codes "static")) (words.Keyword keywords.Static) (cond (spells text (codes "assert")) (words.Keyword keywords.Assert) words.Name))) (λ h. (spelled text (codes "return") l h))
    (λ _. told text (spells text (codes "signal")) (words.Keyword keywords.Signal) (cond (spells text (codes "static")) (words.Keyword keywords.Static) (cond (spells text (codes "assert")) (words.Keyword keywords.Assert) words.Name)) (λ h. (spelled text (codes "signal") l h))
    (λ _. told text (spells text (codes "static")) (words.Keyword keywords.Static) (cond (spells text (codes "assert")) (words.Keyword keywords.Assert) words.Name) (λ h. (spelled text (codes "static") l h))
    (λ _. told text (spells text (codes "assert")) (words.Keyword keywords.Assert) words.Name (λ h. (spelled text (codes "assert") l h))
    (λ _. tt))))

seven_tells : (text : List ℕ) → length text ≡ 7 → Tells text (seven text)
seven_tells text l =
    told text (spells text (codes "extends")) (words.Keyword keywords.Extends) (cond (spells text (codes "preload")) (words.Keyword keywords.Preload) words.Name) (λ h. (spelled text (codes "extends") l h))
    (λ _. told text (spells text (codes "preload")) (words.Keyword keywords.Preload) words.Name (λ h. (spelled text (codes "preload") l h))
    (λ _. tt))

eight_tells : (text : List ℕ) → length text ≡ 8 → Tells text (eight text)
eight_tells text l =
    told text (spells text (codes "continue")) (words.Keyword keywords.Continue) words.Name (λ h. (spelled text (codes "continue") l h))
    (λ _. tt)

ten_tells : (text : List ℕ) → length text ≡ 10 → Tells text (ten text)
ten_tells text l =
    told text (spells text (codes "class_name")) (words.Keyword keywords.ClassName) (cond (spells text (codes "breakpoint")) (words.Keyword keywords.Breakpoint) words.Name) (λ h. (spelled text (codes "class_name") l h))
    (λ _. told text (spells text (codes "breakpoint")) (words.Keyword keywords.Breakpoint) words.Name (λ h. (spelled text (codes "breakpoint") l h))
    (λ _. tt))

pub word_tells : (text : List ℕ) → Tells text (word_at text)
unfolding word_at
word_tells text =
    told text (length text == 2) (two text) (cond (length text == 3) (three text) (cond (length text == 4) (four text) (cond (length text == 5) (five text) (cond (length text == 6) (six text) (cond (length text == 7) (seven text) (cond (length text == 8) (eight text) (cond (length text == 10) (ten text) words.Name))))))) (λ h. two_tells text (eqb-true (length text) 2 h))
    (λ _. told text (length text == 3) (three text) (cond (length text == 4) (four text) (cond (length text == 5) (five text) (cond (length text == 6) (six text) (cond (length text == 7) (seven text) (cond (length text == 8) (eight text) (cond (length text == 10) (ten text) words.Name)))))) (λ h. three_tells text (eqb-true (length text) 3 h))
    (λ _. told text (length text == 4) (four text) (cond (length text == 5) (five text) (cond (length text == 6) (six text) (cond (length text == 7) (seven text) (cond (length text == 8) (eight text) (cond (length text == 10) (ten text) words.Name))))) (λ h. four_tells text (eqb-true (length text) 4 h))
    (λ _. told text (length text == 5) (five text) (cond (length text == 6) (six text) (cond (length text == 7) (seven text) (cond (length text == 8) (eight text) (cond (length text == 10) (ten text) words.Name)))) (λ h. five_tells text (eqb-true (length text) 5 h))
    (λ _. told text (length text == 6) (six text) (cond (length text == 7) (seven text) (cond (length text == 8) (eight text) (cond (length text == 10) (ten text) words.Name))) (λ h. six_tells text (eqb-true (length text) 6 h))
    (λ _. told text (length text == 7) (seven text) (cond (length text == 8) (eight text) (cond (length text == 10) (ten text) words.Name)) (λ h. seven_tells text (eqb-true (length text) 7 h))
    (λ _. told text (length text == 8) (eight text) (cond (length text == 10) (ten text) words.Name) (λ h. eight_tells text (eqb-true (length text) 8 h))
    (λ _. told text (length text == 10) (ten text) words.Name (λ h. ten_tells text (eqb-true (length text) 10 h))
    (λ _. tt))))))))

keyword_known : (k : Keyword) → word_at (keyword_text k) ≡ words.Keyword k
unfolding word_at
keyword_known keywords.If = refl
keyword_known keywords.Elif = refl
keyword_known keywords.Else = refl
keyword_known keywords.For = refl
keyword_known keywords.While = refl
keyword_known keywords.Match = refl
keyword_known keywords.When = refl
keyword_known keywords.Break = refl
keyword_known keywords.Continue = refl
keyword_known keywords.Pass = refl
keyword_known keywords.Return = refl
keyword_known keywords.Class = refl
keyword_known keywords.ClassName = refl
keyword_known keywords.Extends = refl
keyword_known keywords.Is = refl
keyword_known keywords.In = refl
keyword_known keywords.As = refl
keyword_known keywords.SelfValue = refl
keyword_known keywords.Super = refl
keyword_known keywords.Signal = refl
keyword_known keywords.Func = refl
keyword_known keywords.Static = refl
keyword_known keywords.Const = refl
keyword_known keywords.Enum = refl
keyword_known keywords.Var = refl
keyword_known keywords.Breakpoint = refl
keyword_known keywords.Preload = refl
keyword_known keywords.Await = refl
keyword_known keywords.Yield = refl
keyword_known keywords.Assert = refl
keyword_known keywords.Void = refl
keyword_known keywords.And = refl
keyword_known keywords.Or = refl
keyword_known keywords.Not = refl
keyword_known keywords.True = refl
keyword_known keywords.False = refl
keyword_known keywords.Null = refl

-- a name that is no keyword and no float's
pub no_keyword : (text : List ℕ) → word_at text ≡ words.Name → (k : Keyword) → text ≡ keyword_text k → ⊥
no_keyword text e k same = let known : word_at text ≡ words.Keyword k = ap word_at same ∙ keyword_known k in cc

float_known : word_at (codes "PI") ≡ words.Float
unfolding word_at
float_known = refl

tau_known : word_at (codes "TAU") ≡ words.Float
unfolding word_at
tau_known = refl

inf_known : word_at (codes "INF") ≡ words.Float
unfolding word_at
inf_known = refl

nan_known : word_at (codes "NAN") ≡ words.Float
unfolding word_at
nan_known = refl

pub no_float : (text : List ℕ) → word_at text ≡ words.Name → IsFloatName text → ⊥
no_float text e (inl same) = let known : word_at text ≡ words.Float = ap word_at same ∙ float_known in cc
no_float text e (inr (inl same)) = let known : word_at text ≡ words.Float = ap word_at same ∙ tau_known in cc
no_float text e (inr (inr (inl same))) = let known : word_at text ≡ words.Float = ap word_at same ∙ inf_known in cc
no_float text e (inr (inr (inr same))) = let known : word_at text ≡ words.Float = ap word_at same ∙ nan_known in cc
