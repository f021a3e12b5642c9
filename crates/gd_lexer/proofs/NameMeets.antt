-- The name that is read is the longest that begins there.
use Rattle.std.proofs.Common.{◌≡◌, ℕ, ◌<◌, ◌≤◌, Bool, true, false, cond, List, [], ◌∷◌, ◌++◌, length, drop, map, refl, ap, sym, ◌∙◌, arith, subst, inl, inr, append_assoc}
use Rattle.std.proofs.lemmas.List.{append-nil}
use Rattle.std.proofs.lemmas.Bool.Decides.{nat_tests}
use Rattle.std.proofs.lemmas.List.{map-append}
use Rattle.std.proofs.lemmas.List.Elements.{All-push, All-nil, All-head, All-tail}
use Rattle.std.specs.Prelude.{Some, ◌⊎◌, All}
use Rattle.std.specs.Char.{is_ascii_digit}
use Rattle.unicode_ident.specs.Ident.{is_xid_continue}
use Rattle.unicode_ident.proofs.IdentLemmas.{is_xid_start-ascii}
use Rattle.gd_syntax.specs.declared.token.TokenKind.{TokenKind}
use Rattle.gd_syntax.specs.declared.token.TokenKind.TheVariants as kinds
use Rattle.gd_lexis.specs.declared.glyph.Glyph.{Glyph}
use Rattle.gd_lexis.specs.declared.glyph.Glyph.TheVariants.{Char, Bad}
use Rattle.gd_lexis.specs.Words.{IsName, GoesOn}
use Rattle.gd_lexis.specs.Pieces.{Writes, BeginsWith, BeginsBy, IsLongest}
use Rattle.gd_lexer.specs.declared.word.Word.{Word}
use Rattle.gd_lexer.specs.declared.word.Word.TheVariants as words
use Rattle.gd_lexer.specs.Word.{word_at}
use Rattle.gd_lexer.specs.Token.{IsToken, IsBrokenAt}
use Rattle.gd_lexer.proofs.WordMeets.{word_tells, Tells, no_keyword, no_float}
use Rattle.gd_rules.specs.declared.rule.Rule.TheVariants as rules_of
use Rattle.gd_lexer.specs.Name.{name_behind, after_name}
use Rattle.gd_lexer.specs.declared.lexer.Start.TheVariants as starts
use Rattle.gd_lexer.specs.Start.{opens_string, start_at}
use Rattle.gd_lexer.proofs.StartsLemmas.{name_here}
use Rattle.gd_lexer.proofs.Heads.{begins_name, is_plain, head_is, keyword_IsName}

-- ---- a longer text

pub beyond : (text longer : List ℕ) (r rest : List Glyph) → map Char longer ++ r ≡ map Char text ++ rest → length text < length longer
    → (c : ℕ) × ((more : List ℕ) × (longer ≡ text ++ c ∷ more) × (rest ≡ Char c ∷ (map Char more ++ r)))
beyond [] [] r rest e l = absurd (omega arith)
beyond [] (c ∷ more) r rest e l = (c, (more, refl, sym e))
beyond (t ∷ text) [] r rest e l = absurd (omega arith)
beyond (t ∷ text) (c ∷ longer) r rest e l =
    let head : c ≡ t = cc in
    let tail : map Char longer ++ r ≡ map Char text ++ rest = cc in
    let found = beyond text longer r rest tail (omega arith) in
    let longer_is = found.1.1 in
    (found.0, (found.1.0, cc, found.1.2))

goes_on_behind : (text : List ℕ) (c : ℕ) (more : List ℕ) → 1 ≤ length text → IsName (text ++ c ∷ more) → GoesOn c
goes_on_behind [] c more l h = absurd (omega arith)
goes_on_behind (t ∷ text) c more l h = last text h.1
  where
    last : (cs : List ℕ) → All GoesOn (cs ++ c ∷ more) → GoesOn c
    last [] a = All-head GoesOn c more a
    last (d ∷ cs) a = last cs (All-tail GoesOn d (cs ++ c ∷ more) a)

-- no longer name begins where a name stops
no_longer_name : (text longer : List ℕ) (rest : List Glyph) → 1 ≤ length text → (BeginsBy GoesOn rest → ⊥) → length text < length longer → BeginsWith longer (map Char text ++ rest) → IsName longer → ⊥
no_longer_name text longer rest l stops more b h =
    let found = beyond text longer b.0 rest (sym b.1) more in
    let P : List ℕ → Type 0 = λ t. IsName t in
    stops (found.0, goes_on_behind text found.0 found.1.0 l (subst P found.1.1 h), (map Char found.1.0 ++ b.0, found.1.2))

pub not_digit : (c : ℕ) → begins_name c ≡ true → is_ascii_digit c ≡ true → ⊥
not_digit c h d =
    let small : (48 ≤ c) × (c ≤ 57) = grind (arith, nat_tests) in
    let ascii = is_xid_start-ascii c (omega (arith, small.0, small.1)) in
    grind (arith, nat_tests)

pub name_IsLongest : (c : ℕ) (cs : List ℕ) (rest : List Glyph) → begins_name c ≡ true → opens_string c (map Char (c ∷ cs) ++ rest) ≡ false → (BeginsBy GoesOn rest → ⊥)
    → IsLongest (c ∷ cs) (map Char (c ∷ cs) ++ rest)
name_IsLongest c cs rest h opens stops longer kind more b w = by_kind kind w (head_is kind longer c (map Char cs ++ rest) b w)
  where
    P : List ℕ → Type 0
    P t = BeginsWith t (map Char (c ∷ cs) ++ rest)

    by_kind : (k : TokenKind) → Writes k longer → Rattle.gd_lexer.proofs.Heads.HeadIs k c (Char c ∷ (map Char cs ++ rest)) → ⊥
    by_kind (kinds.Word n) w head = no_longer_name (c ∷ cs) longer rest (omega arith) stops more b w.0
    by_kind (kinds.Keyword k) w head = let Q : List ℕ → Type 0 = λ t. IsName t in no_longer_name (c ∷ cs) longer rest (omega arith) stops more b (subst Q (sym w) (keyword_IsName k))
    by_kind (kinds.Number n) w head = not_digit c h head
    by_kind (kinds.Quoted t) w head = cc
    by_kind (kinds.Mark m) w head = grind (arith, nat_tests)
    by_kind kinds.Newline w head = head
    by_kind kinds.Indent w head = head
    by_kind kinds.Dedent w head = head
    by_kind kinds.End w head = head

-- ---- the name that is read

name_split : (cs : List ℕ) (gs : List Glyph) → map Char cs ++ gs ≡ map Char (name_behind cs gs) ++ after_name gs
unfolding name_behind after_name
name_split cs [] = refl
name_split cs (Bad b ∷ gs) = refl
name_split cs (Char c ∷ gs) = by_test (is_xid_continue c) (name_split (cs ++ c ∷ []) gs)
  where
    by_test : (b : Bool) → map Char (cs ++ c ∷ []) ++ gs ≡ map Char (name_behind (cs ++ c ∷ []) gs) ++ after_name gs
        → map Char cs ++ (Char c ∷ gs) ≡ map Char (cond b (name_behind (cs ++ c ∷ []) gs) cs) ++ cond b (after_name gs) (Char c ∷ gs)
    by_test true e = sym (append_assoc (map Char cs) (Char c ∷ []) gs) ∙ ap (λ t. t ++ gs) (sym (map-append Char cs (c ∷ []))) ∙ e
    by_test false e = refl

name_goes_on : (cs : List ℕ) (gs : List Glyph) → All GoesOn cs → All GoesOn (name_behind cs gs)
unfolding name_behind
name_goes_on cs [] a = a
name_goes_on cs (Bad b ∷ gs) a = a
name_goes_on cs (Char c ∷ gs) a = by_test (is_xid_continue c) refl (λ h. name_goes_on (cs ++ c ∷ []) gs (All-push GoesOn cs c a h))
  where
    by_test : (b : Bool) → is_xid_continue c ≡ b → (GoesOn c → All GoesOn (name_behind (cs ++ c ∷ []) gs)) → All GoesOn (cond b (name_behind (cs ++ c ∷ []) gs) cs)
    by_test true e f = f e
    by_test false e f = a

name_stops : (gs : List Glyph) → BeginsBy GoesOn (after_name gs) → ⊥
unfolding after_name
name_stops [] h = let e = h.2.1 in cc
name_stops (Bad b ∷ gs) h = let e = h.2.1 in cc
name_stops (Char c ∷ gs) h = by_test (is_xid_continue c) refl (name_stops gs) h
  where
    by_test : (b : Bool) → is_xid_continue c ≡ b → (BeginsBy GoesOn (after_name gs) → ⊥) → BeginsBy GoesOn (cond b (after_name gs) (Char c ∷ gs)) → ⊥
    by_test true e f k = f k
    by_test false e f k = let shown = k.2.1 in let same : k.0 ≡ c = cc in let goes : is_xid_continue c ≡ true = rw (← same) k.1 in cc

-- what is known of a name that was read
record IsRead (text : List ℕ) (gs rest : List Glyph) : Type 0 where
  whole : gs ≡ map Char text ++ rest
  name : IsName text
  longest : IsLongest text gs
  unopened : text ≡ 114 ∷ [] → BeginsBy (λ c. (c ≡ 34) ⊎ (c ≡ 39)) rest → ⊥

-- `r` before a quote opens a string
opens_raw : (d : ℕ) (gs : List Glyph) → (d ≡ 34) ⊎ (d ≡ 39) → opens_string 114 (Char 114 ∷ Char d ∷ gs) ≡ true
opens_raw d gs (inl e) = ap (λ x. opens_string 114 (Char 114 ∷ Char x ∷ gs)) e
opens_raw d gs (inr e) = ap (λ x. opens_string 114 (Char 114 ∷ Char x ∷ gs)) e

not_both : (b : Bool) → b ≡ true → b ≡ false → ⊥
not_both b h k = let same : true ≡ false = sym h ∙ k in cc

first_code : (c d : ℕ) (cs ds : List ℕ) → c ∷ cs ≡ d ∷ ds → (c ≡ d) × (cs ≡ ds)
first_code c d cs ds e = (cc, cc)

behind_first : (c : ℕ) (gs hs : List Glyph) → Char c ∷ gs ≡ Char c ∷ hs → gs ≡ hs
behind_first c gs hs e = cc

no_raw : (c : ℕ) (cs : List ℕ) (gs rest : List Glyph) → Char c ∷ gs ≡ map Char (c ∷ cs) ++ rest → opens_string c (Char c ∷ gs) ≡ false → c ∷ cs ≡ 114 ∷ [] → BeginsBy (λ d. (d ≡ 34) ⊎ (d ≡ 39)) rest → ⊥
no_raw c cs gs rest whole opens e b =
    let parts = first_code c 114 cs [] e in
    let tail : gs ≡ Char b.0 ∷ b.2.0 = behind_first c gs (map Char cs ++ rest) whole ∙ ap (λ t. map Char t ++ rest) parts.1 ∙ b.2.1 in
    not_both (opens_string c (Char c ∷ gs)) (ap (λ x. opens_string x (Char x ∷ gs)) parts.0 ∙ ap (λ t. opens_string 114 (Char 114 ∷ t)) tail ∙ opens_raw b.0 b.2.0 b.1) opens

name_onto : (cs : List ℕ) (gs : List Glyph) → name_behind cs gs ≡ cs ++ name_behind [] gs
unfolding name_behind
name_onto cs [] = sym (append-nil cs)
name_onto cs (Bad b ∷ gs) = sym (append-nil cs)
name_onto cs (Char c ∷ gs) = by_test (is_xid_continue c) (name_onto (cs ++ c ∷ []) gs) (name_onto (c ∷ []) gs)
  where
    by_test : (b : Bool) → name_behind (cs ++ c ∷ []) gs ≡ (cs ++ c ∷ []) ++ name_behind [] gs → name_behind (c ∷ []) gs ≡ c ∷ name_behind [] gs
        → cond b (name_behind (cs ++ c ∷ []) gs) cs ≡ cs ++ cond b (name_behind (c ∷ []) gs) []
    by_test true e f = e ∙ append_assoc cs (c ∷ []) (name_behind [] gs) ∙ ap (λ t. cs ++ t) (sym f)
    by_test false e f = sym (append-nil cs)

name_read : (c : ℕ) (gs : List Glyph) → begins_name c ≡ true → opens_string c (Char c ∷ gs) ≡ false → IsRead (c ∷ name_behind [] gs) (Char c ∷ gs) (after_name gs)
name_read c gs h opens =
    let cs = name_behind [] gs in
    let whole : Char c ∷ gs ≡ map Char (c ∷ cs) ++ after_name gs = ap (λ t. Char c ∷ t) (name_split [] gs) in
    let Q : List Glyph → Type 0 = λ t. opens_string c t ≡ false in
    let R : List Glyph → Type 0 = λ t. IsLongest (c ∷ cs) t in
    record {
      whole = whole;
      name = (h, name_goes_on [] gs (All-nil GoesOn));
      longest = subst R (sym whole) (name_IsLongest c cs (after_name gs) h (subst Q whole opens) (name_stops gs));
      unopened = no_raw c cs gs (after_name gs) whole opens;
    }

-- ---- the token or the fault that the name is

abbrev pub Meets : Word → List ℕ → List Glyph → List Glyph → Type 0
Meets words.Name text gs rest = IsToken (kinds.Word text) gs rest
Meets (words.Keyword k) text gs rest = IsToken (kinds.Keyword k) gs rest
Meets words.Float text gs rest = IsBrokenAt rules_of.Float gs

by_word : (w : Word) (text : List ℕ) (gs rest : List Glyph) → word_at text ≡ w → Tells text w → IsRead text gs rest → Meets w text gs rest
by_word words.Name text gs rest e told r =
    let P : List Glyph → Type 0 = λ t. IsLongest text t in
    (text, r.whole, ((r.name, refl, no_keyword text e), subst P r.whole r.longest, (no_float text e, r.unopened)))
by_word (words.Keyword k) text gs rest e told r =
    let P : List Glyph → Type 0 = λ t. IsLongest text t in
    (text, r.whole, (told, subst P r.whole r.longest, tt))
by_word words.Float text gs rest e told r = λ before. (refl, inr (inr (text, told, (rest, r.whole), r.longest)))

pub name_meets : (c : ℕ) (gs : List Glyph) → begins_name c ≡ true → opens_string c (Char c ∷ gs) ≡ false
    → Meets (word_at (name_behind (c ∷ []) gs)) (name_behind (c ∷ []) gs) (Char c ∷ gs) (after_name gs)
name_meets c gs h opens =
    let text = name_behind (c ∷ []) gs in
    let P : List ℕ → Type 0 = λ t. IsRead t (Char c ∷ gs) (after_name gs) in
    by_word (word_at text) text (Char c ∷ gs) (after_name gs) refl (word_tells text) (subst P (sym (name_onto (c ∷ []) gs)) (name_read c gs h opens))

-- the same, as the code shows it
pub name_token : (w : Word) (c : ℕ) (text chars pushed : List ℕ) (gs hs rest : List Glyph) → Some (starts.Name c) ≡ start_at gs → chars ≡ [] → pushed ≡ chars ++ c ∷ [] → hs ≡ drop 1 gs → text ≡ name_behind pushed hs
    → rest ≡ after_name hs → w ≡ word_at text → Meets w text gs rest
name_token w c text chars pushed gs hs rest starts none push tail read behind word =
    let here = name_here gs c starts in
    let P : List Glyph → Type 0 = λ t. opens_string c t ≡ false in
    let meets = name_meets c (drop 1 gs) here.name (subst P here.head here.plain) in
    rw (word, read, behind, push, none, tail) (subst (λ t. Meets (word_at (name_behind (c ∷ []) (drop 1 gs))) (name_behind (c ∷ []) (drop 1 gs)) t (after_name (drop 1 gs))) (sym here.head) meets)
