-- What is kept of lines, behind one piece more.
use Rattle.std.proofs.Common.{◌≡◌, ℕ, ◌+◌, Bool, true, false, List, [], ◌∷◌, ◌++◌, length, refl, ap, sym, ◌∙◌, arith, subst, append_assoc, append-nil, true≢false, if◌then◌else◌}
use Rattle.std.specs.Prelude.{Option, Some, None, IfSome}
use Rattle.std.proofs.lemmas.List.Elements.{All-nil, All-cons, All-append}
use Rattle.gd_syntax.specs.declared.pos.Pos.{Pos}
use Rattle.gd_syntax.specs.declared.token.TokenKind.{TokenKind}
use Rattle.gd_lexis.specs.Chars.{place_behind}
use Rattle.gd_lexis.specs.Pieces.{Piece, Blank, LineFeed, Tok}
use Rattle.gd_lexis.specs.Lines.{is_token, is_line_end, is_logical, is_indentation, depth, level, texts, blocks_after, blocks_behind, open_blocks}
use Rattle.gd_lexer.specs.declared.lines.Blank.{Blank as Kind}
use Rattle.gd_lexer.specs.declared.lines.Blank.TheVariants.{Space, Tab}
use Rattle.gd_lexer.specs.declared.lines.Lead.{Lead}
use Rattle.gd_lexer.specs.declared.lines.Lines.{Lines}
use Rattle.gd_lexer.specs.declared.stop.Fault.{Fault}
use Rattle.gd_lexer.specs.Cut.{code_of}
use Rattle.gd_lexer.specs.Begun.{whole, line, blocks}
use Rattle.gd_lexer.specs.Blanks.{blanks, blanks_of, blanks_so_far, AreOf, IsMixed}
use Rattle.gd_lexer.specs.Lines.{is_same, is_of, kind_behind, MixedBy, LeadBy, new_lead}
use Rattle.gd_lexer.specs.Laid.{AreLines}
use Rattle.gd_lexer.proofs.LineLemmas.{Stays, same_whole, longer_line, more_whole, empty_line, silent_logical, token_logical, one_blank, token_blanks, blanks_of_more, open_blocks_more}

-- ---- what is kept of whole lines and of the line that is read

pub record OfLines (lines : List (List Piece)) (last : List Piece) (l : Lines) : Type 0 where
  pub has_token : l.is_open ≡ is_logical last
  pub level : l.lead.level ≡ depth last
  pub open_blocks_are : l.blocks ≡ blocks_after (open_blocks lines) last
  pub settled : AreOf l.kind (blanks_of (lines ++ last ∷ []))
  pub kind : l.lead.mixed ≡ None → AreOf l.lead.kind (blanks_of lines ++ blanks last)

pub of_lines : (file : ℕ) (ps : List Piece) (l : Lines) → AreLines file ps l → OfLines (whole ps) (line ps) l
of_lines file ps l h = record { has_token = h.has_token; level = h.level; open_blocks_are = h.open_blocks; settled = h.settled; kind = h.kind }

pub to_lines : (file : ℕ) (ps : List Piece) (lines : List (List Piece)) (last : List Piece) (l : Lines) → whole ps ≡ lines → line ps ≡ last → OfLines lines last l → IfSome l.lead.mixed (IsMixed file ps)
    → AreLines file ps l
to_lines file ps lines last l e f h mixed =
    let P : List (List Piece) → Type 0 = λ w. OfLines w (line ps) l in
    let Q : List Piece → Type 0 = λ x. OfLines lines x l in
    let k = subst P (sym e) (subst Q (sym f) h) in
    record { has_token = k.has_token; level = k.level; open_blocks = k.open_blocks_are; settled = k.settled; kind = k.kind; mixed = mixed }

-- where the line has a token as before, and the same blanks
same_lines : (lines : List (List Piece)) (xs ys : List Piece) (l : Lines) → is_logical ys ≡ is_logical xs → blanks ys ≡ blanks xs → OfLines lines xs l → OfLines lines ys l
same_lines lines xs ys l e f h =
    let P : List Piece → Type 0 = λ t. AreOf l.kind t in
    let Q : List Piece → Type 0 = λ t. AreOf l.lead.kind (blanks_of lines ++ t) in
    let all : blanks_of (lines ++ xs ∷ []) ≡ blanks_of (lines ++ ys ∷ []) =
    blanks_of_more lines xs ∙ ap (λ b. blanks_of lines ++ (if b then blanks xs else [])) (sym e) ∙ ap (λ t. blanks_of lines ++ (if is_logical ys then t else [])) (sym f) ∙ sym (blanks_of_more lines ys) in
    record {
      has_token = h.has_token ∙ sym e;
      level = h.level ∙ ap length (sym f);
      open_blocks_are =
          h.open_blocks_are ∙ ap (λ b. if b then blocks_behind (open_blocks lines) (depth xs) else open_blocks lines) (sym e)
          ∙ ap (λ (t : List Piece). if is_logical ys then blocks_behind (open_blocks lines) (length t) else open_blocks lines) (sym f);
      settled = subst P all h.settled;
      kind = λ none. subst Q (sym f) (h.kind none);
    }

-- ---- the first blank of the other kind

mixed_more : (file : ℕ) (ps : List Piece) (p : Piece) (m : Option Fault) → Stays ps p → is_token p ≡ false → IfSome m (IsMixed file ps) → IfSome m (IsMixed file (ps ++ p ∷ []))
mixed_more file ps p None h k mixed = tt
mixed_more file ps p (Some f) h k mixed = record {
  before = mixed.before;
  blank = mixed.blank;
  after = mixed.after ++ p ∷ [];
  split = ap (λ t. t ++ p ∷ []) mixed.split ∙ append_assoc mixed.before (Blank (code_of mixed.blank) ∷ mixed.after) (p ∷ []);
  same_whole = same_whole ps p h ∙ mixed.same_whole;
  same_line = longer_line ps p h ∙ ap (λ t. t ++ p ∷ []) mixed.same_line ∙ append_assoc (line mixed.before) (Blank (code_of mixed.blank) ∷ mixed.after) (p ∷ []);
  tokenless = ap is_logical (longer_line ps p h) ∙ silent_logical (line ps) p k ∙ mixed.tokenless;
  kind = mixed.kind;
  one = mixed.one;
  other = mixed.other;
  at = mixed.at;
  rule = mixed.rule;
}

-- a line with a token has none
mixed_none : (file : ℕ) (ps qs : List Piece) (m : Option Fault) → is_logical (line ps) ≡ true → IfSome m (IsMixed file ps) → IfSome m (IsMixed file qs)
mixed_none file ps qs None h mixed = tt
mixed_none file ps qs (Some f) h mixed = absurd (true≢false (sym h ∙ mixed.tokenless))

mixed_unless : (file : ℕ) (qs : List Piece) (m : Option Fault) → m ≡ None → IfSome m (IsMixed file qs)
mixed_unless file qs m e = let P : Option Fault → Type 0 = λ n. IfSome n (IsMixed file qs) in subst P (sym e) tt

-- ---- a piece that is no token

pub silent_lines : (file : ℕ) (ps : List Piece) (p : Piece) (l : Lines) → Stays ps p → is_token p ≡ false → blanks (line ps ++ p ∷ []) ≡ blanks (line ps) → AreLines file ps l → AreLines file (ps ++ p ∷ []) l
silent_lines file ps p l h k same lines =
    to_lines file (ps ++ p ∷ []) (whole ps) (line ps ++ p ∷ []) l (same_whole ps p h) (longer_line ps p h)
    (same_lines (whole ps) (line ps) (line ps ++ p ∷ []) l (silent_logical (line ps) p k) same (of_lines file ps l lines)) (mixed_more file ps p l.lead.mixed h k lines.mixed)

-- ---- a blank before the first token

one_kind : (k b : Kind) → is_same k b ≡ true → k ≡ b
one_kind Space Space h = refl
one_kind Tab Tab h = refl
one_kind Space Tab h = absurd (true≢false (sym h))
one_kind Tab Space h = absurd (true≢false (sym h))

two_kinds : (k b : Kind) → is_same k b ≡ false → k ≡ b → ⊥
two_kinds Space Space h e = true≢false h
two_kinds Tab Tab h e = true≢false h
two_kinds Space Tab h e = cc
two_kinds Tab Space h e = cc

blank_of : (k : Option Kind) (b : Kind) (bs : List Piece) → is_of k b ≡ true → AreOf k bs → AreOf (kind_behind k b) (bs ++ Blank (code_of b) ∷ [])
blank_of None b bs h a = ([], ap (λ t. t ++ Blank (code_of b) ∷ []) a, All-nil (λ p. p ≡ Blank (code_of b)))
blank_of (Some k) b bs h a =
    let same : Blank (code_of b) ≡ Blank (code_of k) = ap (λ c. Blank (code_of c)) (sym (one_kind k b h)) in
    let P : Piece → Type 0 = λ p. p ≡ Blank (code_of k) in
    (a.0 ++ Blank (code_of b) ∷ [], ap (λ t. t ++ Blank (code_of b) ∷ []) a.1, All-append P a.0 (Blank (code_of b) ∷ []) a.2 (All-cons P (Blank (code_of b)) [] same (All-nil P)))

was_none : (same : Bool) (pos : Pos) (old new : Option Fault) → MixedBy same pos old new → new ≡ None → (old ≡ None) × (same ≡ true)
was_none same pos (Some f) new h e = cc
was_none true pos None new h e = (refl, refl)
was_none false pos None new h e = let k : new ≡ Some h.0 = h.1 in cc

kind_there : (k : Option Kind) (b : Kind) → is_of k b ≡ false → (q : Kind) × (k ≡ Some q) × (is_same q b ≡ false)
kind_there None b h = absurd (true≢false h)
kind_there (Some q) b h = (q, refl, h)

blank_silent : (b : Kind) → (is_token (Blank (code_of b)) ≡ false) × (is_line_end (Blank (code_of b)) ≡ false) × (is_indentation (Blank (code_of b)) ≡ true)
blank_silent Space = (refl, refl, refl)
blank_silent Tab = (refl, refl, refl)

mixed_by : (file : ℕ) (ps : List Piece) (b : Kind) (same : Bool) (k : Option Kind) (pos : Pos) (old new : Option Fault) → is_logical (line ps) ≡ false → is_of k b ≡ same → pos ≡ place_behind file (texts ps)
    → (old ≡ None → AreOf k (blanks_so_far ps)) → IfSome old (IsMixed file ps) → MixedBy same pos old new → IfSome new (IsMixed file (ps ++ Blank (code_of b) ∷ []))
mixed_by file ps b same k pos (Some f) new shut is at kinds mixed by =
    let P : Option Fault → Type 0 = λ m. IfSome m (IsMixed file (ps ++ Blank (code_of b) ∷ [])) in
    subst P (sym by) (mixed_more file ps (Blank (code_of b)) (Some f) refl refl mixed)
mixed_by file ps b true k pos None new shut is at kinds mixed by = mixed_unless file (ps ++ Blank (code_of b) ∷ []) new by
mixed_by file ps b false k pos None new shut is at kinds mixed by =
    let p = Blank (code_of b) in
    let there = kind_there k b is in
    let R : Option Kind → Type 0 = λ o. AreOf o (blanks_so_far ps) in
    let P : Option Fault → Type 0 = λ m. IfSome m (IsMixed file (ps ++ p ∷ [])) in
    let found : IsMixed file (ps ++ p ∷ []) by.0 = record {
      before = ps;
      blank = b;
      after = [];
      split = refl;
      same_whole = same_whole ps p refl;
      same_line = longer_line ps p refl;
      tokenless = ap is_logical (longer_line ps p refl) ∙ silent_logical (line ps) p refl ∙ shut;
      kind = there.0;
      one = subst R there.1 (kinds refl);
      other = two_kinds there.0 b there.2;
      at = by.2 ∙ at;
      rule = by.3;
    } in
    subst P (sym by.1) found

pub blank_lines : (file : ℕ) (ps : List Piece) (b : Kind) (pos : Pos) (old new : Lines) → old.is_open ≡ false → new.blocks ≡ old.blocks → new.is_open ≡ old.is_open → new.kind ≡ old.kind
    → LeadBy false b pos old.lead new.lead → pos ≡ place_behind file (texts ps) → AreLines file ps old → AreLines file (ps ++ Blank (code_of b) ∷ []) new
blank_lines file ps b pos old new shut same kept kind by at h =
    let p = Blank (code_of b) in
    let tokenless : is_logical (line ps) ≡ false = sym h.has_token ∙ shut in
    let longer : blanks (line ps ++ p ∷ []) ≡ blanks (line ps) ++ p ∷ [] = one_blank (line ps) p tokenless refl (blank_silent b).2 in
    let logical : is_logical (line ps ++ p ∷ []) ≡ false = silent_logical (line ps) p refl ∙ tokenless in
    let P : Option Kind → Type 0 = λ k. AreOf k (blanks_of (whole ps ++ (line ps ++ p ∷ []) ∷ [])) in
    let Q : List Piece → Type 0 = λ t. AreOf old.kind t in
    let all : blanks_of (whole ps ++ line ps ∷ []) ≡ blanks_of (whole ps ++ (line ps ++ p ∷ []) ∷ []) =
    blanks_of_more (whole ps) (line ps) ∙ ap (λ t. blanks_of (whole ps) ++ (if t then blanks (line ps) else [])) tokenless
    ∙ ap (λ t. blanks_of (whole ps) ++ (if t then blanks (line ps ++ p ∷ []) else [])) (sym logical) ∙ sym (blanks_of_more (whole ps) (line ps ++ p ∷ [])) in
    to_lines file (ps ++ p ∷ []) (whole ps) (line ps ++ p ∷ []) new (same_whole ps p refl) (longer_line ps p refl) (record {
      has_token = kept ∙ shut ∙ sym logical;
      level = by.0 ∙ ap (λ n. n + 1) h.level ∙ counted (blanks (line ps)) p ∙ ap length (sym longer);
      open_blocks_are =
          same ∙ h.open_blocks ∙ ap (λ t. if t then blocks_behind (blocks ps) (depth (line ps)) else blocks ps) tokenless
          ∙ ap (λ t. if t then blocks_behind (blocks ps) (depth (line ps ++ p ∷ [])) else blocks ps) (sym logical);
      settled = subst P (sym kind) (subst Q all h.settled);
      kind = λ none.
          let was = was_none (is_of old.lead.kind b) pos old.lead.mixed new.lead.mixed by.2 none in
          let R : Option Kind → Type 0 = λ k. AreOf k (blanks_of (whole ps) ++ blanks (line ps ++ p ∷ [])) in
          let S : List Piece → Type 0 = λ t. AreOf (kind_behind old.lead.kind b) t in
          let joined : (blanks_of (whole ps) ++ blanks (line ps)) ++ p ∷ [] ≡ blanks_of (whole ps) ++ blanks (line ps ++ p ∷ []) =
          append_assoc (blanks_of (whole ps)) (blanks (line ps)) (p ∷ []) ∙ ap (λ t. blanks_of (whole ps) ++ t) (sym longer) in
          subst R (sym by.1) (subst S joined (blank_of old.lead.kind b (blanks_so_far ps) was.1 (h.kind was.0)));
    }) (mixed_by file ps b (is_of old.lead.kind b) old.lead.kind pos old.lead.mixed new.lead.mixed tokenless refl at h.kind h.mixed by.2)
  where
    counted : (xs : List Piece) (p : Piece) → length xs + 1 ≡ length (xs ++ p ∷ [])
    counted [] p = refl
    counted (x ∷ xs) p = omega (arith, counted xs p)

-- ---- the line ends

pub feed_lines : (file : ℕ) (ps : List Piece) (old new : Lines) → level (line ps) ≡ 0 → new.is_open ≡ false → new.blocks ≡ old.blocks → new.kind ≡ old.kind → new.lead ≡ new_lead old.kind → AreLines file ps old
    → AreLines file (ps ++ LineFeed ∷ []) new
feed_lines file ps old new low shut same kind lead h =
    let lines = whole ps ++ line ps ∷ [] in
    let P : List Piece → Type 0 = λ t. AreOf old.kind t in
    let Q : Option Kind → Type 0 = λ k. AreOf k (blanks_of (lines ++ [] ∷ [])) in
    let R : Option Kind → Type 0 = λ k. AreOf k (blanks_of lines ++ []) in
    to_lines file (ps ++ LineFeed ∷ []) lines [] new (more_whole ps low) (empty_line ps low) (record {
      has_token = shut;
      level = ap (λ (t : Lead). t.level) lead;
      open_blocks_are = same ∙ h.open_blocks ∙ sym (open_blocks_more (whole ps) (line ps));
      settled = subst Q (sym kind) (subst P (sym (blanks_of_more lines [] ∙ append-nil (blanks_of lines))) h.settled);
      kind = λ none. subst R (sym (ap (λ (t : Lead). t.kind) lead)) (subst P (sym (append-nil (blanks_of lines))) h.settled);
    }) (mixed_unless file (ps ++ LineFeed ∷ []) new.lead.mixed (ap (λ (t : Lead). t.mixed) lead))

-- ---- a token

pub later_lines : (file : ℕ) (ps : List Piece) (kind : TokenKind) (text : List ℕ) (l : Lines) → l.is_open ≡ true → AreLines file ps l → AreLines file (ps ++ Tok kind text ∷ []) l
later_lines file ps kind text l token h =
    let p = Tok kind text in
    let logical : is_logical (line ps) ≡ true = sym h.has_token ∙ token in
    to_lines file (ps ++ p ∷ []) (whole ps) (line ps ++ p ∷ []) l (same_whole ps p refl) (longer_line ps p refl)
    (same_lines (whole ps) (line ps) (line ps ++ p ∷ []) l (token_logical (line ps) p refl ∙ sym logical) (token_blanks (line ps) p refl) (of_lines file ps l h))
    (mixed_none file ps (ps ++ p ∷ []) l.lead.mixed logical h.mixed)

pub first_lines : (file : ℕ) (ps : List Piece) (kind : TokenKind) (text : List ℕ) (old new : Lines) → old.is_open ≡ false → new.is_open ≡ true → new.lead ≡ old.lead → new.kind ≡ old.lead.kind
    → old.lead.mixed ≡ None → new.blocks ≡ blocks_behind (blocks ps) (depth (line ps)) → AreLines file ps old → AreLines file (ps ++ Tok kind text ∷ []) new
first_lines file ps kind text old new shut token lead same none behind h =
    let p = Tok kind text in
    let xs = line ps ++ p ∷ [] in
    let logical : is_logical xs ≡ true = token_logical (line ps) p refl in
    let sames : blanks xs ≡ blanks (line ps) = token_blanks (line ps) p refl in
    let P : List Piece → Type 0 = λ t. AreOf old.lead.kind t in
    let Q : Option Kind → Type 0 = λ k. AreOf k (blanks_of (whole ps ++ xs ∷ [])) in
    let R : Lead → Type 0 = λ t. AreOf t.kind (blanks_of (whole ps) ++ blanks xs) in
    let so_far : blanks_of (whole ps) ++ blanks (line ps) ≡ blanks_of (whole ps) ++ blanks xs = ap (λ t. blanks_of (whole ps) ++ t) (sym sames) in
    let all : blanks_of (whole ps) ++ blanks (line ps) ≡ blanks_of (whole ps ++ xs ∷ []) =
    so_far ∙ ap (λ b. blanks_of (whole ps) ++ (if b then blanks xs else [])) (sym logical) ∙ sym (blanks_of_more (whole ps) xs) in
    to_lines file (ps ++ p ∷ []) (whole ps) xs new (same_whole ps p refl) (longer_line ps p refl) (record {
      has_token = token ∙ sym logical;
      level = ap (λ (t : Lead). t.level) lead ∙ h.level ∙ ap length (sym sames);
      open_blocks_are =
          behind ∙ ap (λ (t : List Piece). blocks_behind (blocks ps) (length t)) (sym sames) ∙ ap (λ b. if b then blocks_behind (blocks ps) (depth xs) else blocks ps) (sym logical);
      settled = subst Q (sym same) (subst P all (h.kind none));
      kind = λ _. subst R (sym lead) (subst P so_far (h.kind none));
    }) (mixed_unless file (ps ++ p ∷ []) new.lead.mixed (ap (λ (t : Lead). t.mixed) lead ∙ none))
