-- Steps over the characters of a name.
use Rattle.std.proofs.Common.{◌≡◌, ℕ, Bool, true, false, cond, List, [], ◌∷◌, ◌++◌, append_assoc, map, drop, slice_get, refl, ap, sym, ◌∙◌, arith}
use Rattle.std.proofs.lemmas.Bool.Decides.{nat_tests}
use Rattle.std.proofs.lemmas.List.{append-nil}
use Rattle.std.proofs.lemmas.List.Elements.{All-head, All-tail}
use Rattle.std.specs.Prelude.{Some, None, ◌<◌, ◌&&◌, ◌||◌, ◌==◌, nat_lt, All}
use Rattle.std.specs.Char.{is_ascii_alphabetic, is_ascii_alphanumeric}
use Rattle.unicode_ident.specs.Ident.{is_xid_start, is_xid_continue}
use Rattle.unicode_ident.proofs.IdentLemmas.{is_xid_start-ascii, is_xid_continue-ascii}
use Rattle.gd_lexis.specs.declared.glyph.Glyph.{Glyph}
use Rattle.gd_lexis.specs.declared.glyph.Glyph.TheVariants.{Char, Bad}
use Rattle.gd_lexis.specs.Words.{GoesOn}
use Rattle.gd_lexer.specs.Name.{is_word_byte, next_in_name, name_behind, after_name}

same_next : (b : Bool) (c d : ℕ) → Some c ≡ cond b (Some d) None → (b ≡ true) × (c ≡ d)
same_next true c d e = (refl, cc)
same_next false c d e = cc

none_next : (b : Bool) (d : ℕ) → None ≡ cond b (Some d) None → b ≡ false
none_next true d e = cc
none_next false d e = refl

-- a name that goes on here, and one that does not
pub name_more : (gs : List Glyph) (cs : List ℕ) (c : ℕ) → Some c ≡ next_in_name (slice_get gs 0) → name_behind cs gs ≡ name_behind (cs ++ c ∷ []) (drop 1 gs)
unfolding name_behind
name_more [] cs c e = cc
name_more (Bad b ∷ gs) cs c e = cc
name_more (Char d ∷ gs) cs c e = let p = same_next (is_xid_continue d) c d e in rw (p.0, p.1) refl

pub name_end : (gs : List Glyph) (cs : List ℕ) → None ≡ next_in_name (slice_get gs 0) → name_behind cs gs ≡ cs
unfolding name_behind
name_end [] cs e = refl
name_end (Bad b ∷ gs) cs e = refl
name_end (Char d ∷ gs) cs e = rw (none_next (is_xid_continue d) d e) refl

pub after_name_more : (gs : List Glyph) (c : ℕ) → Some c ≡ next_in_name (slice_get gs 0) → after_name gs ≡ after_name (drop 1 gs)
unfolding after_name
after_name_more [] c e = cc
after_name_more (Bad b ∷ gs) c e = cc
after_name_more (Char d ∷ gs) c e = rw ((same_next (is_xid_continue d) c d e).0) refl

pub after_name_end : (gs : List Glyph) → None ≡ next_in_name (slice_get gs 0) → after_name gs ≡ gs
unfolding after_name
after_name_end [] e = refl
after_name_end (Bad b ∷ gs) e = refl
after_name_end (Char d ∷ gs) e = rw (none_next (is_xid_continue d) d e) refl

pub ascii_continues : (c : ℕ) → c < 128 → is_xid_continue c ≡ (is_ascii_alphanumeric c || (c == 95))
ascii_continues c h = is_xid_continue-ascii c h

-- the test that the code makes of a byte
pub word_byte : (b : ℕ) → (is_ascii_alphanumeric b || (b == 95)) ≡ is_word_byte b
word_byte b = by_size (nat_lt b 128) refl
  where
    by_size : (t : Bool) → nat_lt b 128 ≡ t → (is_ascii_alphanumeric b || (b == 95)) ≡ (t && is_xid_continue b)
    by_size true small = sym (ascii_continues b (grind (arith, nat_tests)))
    by_size false large = grind (arith, nat_tests)

pub ascii_begins : (c : ℕ) → c < 128 → (is_ascii_alphabetic c || (c == 95)) ≡ (is_xid_start c || (c == 95))
ascii_begins c h = ap (λ b. b || (c == 95)) (sym (is_xid_start-ascii c h))

-- a name that goes on with each of these characters, and what stands behind it
pub name_word : (w : List ℕ) (gs : List Glyph) (cs : List ℕ) → All GoesOn w → name_behind cs (map Char w ++ gs) ≡ name_behind (cs ++ w) gs
unfolding name_behind
name_word [] gs cs h = rw (append-nil cs) refl
name_word (c ∷ w) gs cs h = rw (All-head GoesOn c w h) (name_word w gs (cs ++ c ∷ []) (All-tail GoesOn c w h) ∙ ap (λ t. name_behind t gs) (append_assoc cs (c ∷ []) w))

pub after_name_word : (w : List ℕ) (gs : List Glyph) → All GoesOn w → after_name (map Char w ++ gs) ≡ after_name gs
unfolding after_name
after_name_word [] gs h = refl
after_name_word (c ∷ w) gs h = rw (All-head GoesOn c w h) (after_name_word w gs (All-tail GoesOn c w h))
