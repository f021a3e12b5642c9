-- The blocks that a logical line ends and begins.
use Rattle.std.proofs.Common.{◌≡◌, ℕ, zero, suc, ◌+◌, ◌-◌, ◌<◌, ◌≤◌, Bool, true, false, cond, ◌==◌, nat_le, nat_lt, List, [], ◌∷◌, ◌++◌, length, replicate, refl, ap, sym, ◌∙◌, arith, subst, append_assoc, append-nil, true≢false, if◌then◌else◌, inl, inr, length-append}
use Rattle.std.specs.Prelude.{◌⊎◌}
use Rattle.std.proofs.lemmas.Bool.{ne_eqb, lt-ltb, le-ltb, lt-leb, eq-eqb}
use Rattle.std.proofs.lemmas.List.Elements.{filter-append}
use Rattle.gd_syntax.specs.declared.pos.Pos.{Pos}
use Rattle.gd_syntax.specs.declared.token.Token.{Token}
use Rattle.gd_syntax.specs.declared.token.TokenKind.TheVariants as kinds
use Rattle.gd_lexis.specs.Pieces.{Piece}
use Rattle.gd_lexis.specs.Lines.{is_logical, depth, kept, innermost, blocks_behind, blocks_after, open_blocks, token, turn}
use Rattle.gd_lexis.specs.Lexes.{IsMatched, AreBlocks}
use Rattle.gd_lexis.proofs.Levels.{Rising, kept_all, innermost_is}
use Rattle.gd_lexer.specs.Opening.{AreClosed}
use Rattle.gd_lexer.proofs.LineLemmas.{open_blocks_more}

-- ---- the blocks at a line's first token

rising_front : (low : ℕ) (bs more : List ℕ) → Rising low (bs ++ more) → Rising low bs
rising_front low [] more h = tt
rising_front low (b ∷ bs) more h = (h.0, rising_front b bs more h.1)

-- What a line's first token makes of the blocks: those that it leaves open, whether its level is theirs, and its tokens.
pub record IsTurn (at : Pos) (bs : List ℕ) (d : ℕ) (cs : List ℕ) (tokens : List Token) : Type 0 where
  pub behind : blocks_behind bs d ≡ cs
  pub matched : IsMatched bs d
  pub turned : turn at bs d ≡ tokens

abbrev turn_by : Pos → List ℕ → List ℕ → List ℕ → List Token
turn_by at bs ks cs = replicate (length bs - length ks) (token at kinds.Dedent) ++ (if nat_lt (length ks) (length cs) then token at kinds.Indent ∷ [] else [])

-- a block begins
pub deeper_turn : (at : Pos) (bs : List ℕ) (d : ℕ) → Rising 0 bs → innermost bs < d → IsTurn at bs d (bs ++ d ∷ []) (token at kinds.Indent ∷ [])
deeper_turn at bs d rising less =
    let all : kept d bs ≡ bs = kept_all 0 d bs rising (omega (arith, innermost_is bs)) in
    let apart : (d == innermost bs) ≡ false = ne_eqb d (innermost bs) (λ e. omega arith) in
    let opened : blocks_behind bs d ≡ bs ++ d ∷ [] = ap (λ t. if d == innermost t then t else t ++ d ∷ []) all ∙ ap (λ t. if t then bs else bs ++ d ∷ []) apart in
    let longer : nat_lt (length bs) (length (bs ++ d ∷ [])) ≡ true = lt-ltb (length bs) (length (bs ++ d ∷ [])) (omega (arith, length-append bs (d ∷ []))) in
    let none : length bs - length bs ≡ 0 = omega arith in
    record {
      behind = opened;
      matched = inr (ap length all);
      turned =
          ap (λ t. turn_by at bs t (blocks_behind bs d)) all ∙ ap (λ t. turn_by at bs bs t) opened
          ∙ ap (λ n. replicate n (token at kinds.Dedent) ++ (if nat_lt (length bs) (length (bs ++ d ∷ [])) then token at kinds.Indent ∷ [] else [])) none
          ∙ ap (λ b. if b then token at kinds.Indent ∷ [] else []) longer;
    }

-- blocks end until one of this level, or none, is left
pub closing_turn : (at : Pos) (bs cs more : List ℕ) (d : ℕ) → Rising 0 bs → bs ≡ cs ++ more → kept d cs ≡ kept d bs → innermost cs ≡ d
    → IsTurn at bs d cs (replicate (length bs - length cs) (token at kinds.Dedent))
closing_turn at bs cs more d rising e same level =
    let P : List ℕ → Type 0 = λ t. Rising 0 t in
    let front : Rising 0 cs = rising_front 0 cs more (subst P e rising) in
    let all : kept d bs ≡ cs = sym same ∙ kept_all 0 d cs front (omega (arith, innermost_is cs, level)) in
    let met : (d == innermost cs) ≡ true = ap (λ n. d == n) level ∙ eq-eqb d d refl in
    let opened : blocks_behind bs d ≡ cs = ap (λ t. if d == innermost t then t else t ++ d ∷ []) all ∙ ap (λ t. if t then cs else cs ++ d ∷ []) met in
    record {
      behind = opened;
      matched = inl (ap innermost all ∙ level);
      turned =
          ap (λ t. turn_by at bs t (blocks_behind bs d)) all ∙ ap (λ t. turn_by at bs cs t) opened
          ∙ ap (λ b. replicate (length bs - length cs) (token at kinds.Dedent) ++ (if b then token at kinds.Indent ∷ [] else [])) (not_less (length cs))
          ∙ append-nil (replicate (length bs - length cs) (token at kinds.Dedent));
    }
  where
    not_less : (n : ℕ) → nat_lt n n ≡ false
    not_less n = le-ltb n n (omega arith)

-- ---- blocks are closed one by one

one_more : {X : Type 0} (n : ℕ) (x : X) → replicate n x ++ x ∷ [] ≡ x ∷ replicate n x
one_more zero x = refl
one_more (suc n) x = ap (λ t. x ∷ t) (one_more n x)

pub closed_more : (level : ℕ) (at : Pos) (old mid new : List ℕ) (outer : ℕ) (before a b : List Token) → AreClosed level at old mid before a → mid ≡ new ++ outer ∷ [] → level < outer
    → b ≡ a ++ token at kinds.Dedent ∷ [] → AreClosed level at old new before b
closed_more level at old mid new outer before a b h e high f =
    let t = token at kinds.Dedent in
    let none : kept level (outer ∷ []) ≡ [] = ap (λ b. cond b (outer ∷ []) []) (lt-leb outer level high) in
    let same : kept level mid ≡ kept level new = ap (kept level) e ∙ filter-append (λ b. nat_le b level) new (outer ∷ []) ∙ ap (λ ks. kept level new ++ ks) none ∙ append-nil (kept level new) in
    let whole : old ≡ new ++ (outer ∷ h.front.0) = h.front.1 ∙ ap (λ bs. bs ++ h.front.0) e ∙ append_assoc new (outer ∷ []) h.front.0 in
    let longer : length old ≡ length new + suc (length h.front.0) = ap length whole ∙ length-append new (outer ∷ h.front.0) in
    let shorter : length mid ≡ length new + 1 = ap length e ∙ length-append new (outer ∷ []) in
    let count : length old - length new ≡ suc (length old - length mid) = omega arith in
    record {
      front = (outer ∷ h.front.0, whole);
      same = sym same ∙ h.same;
      dedents =
          f ∙ ap (λ ts. ts ++ t ∷ []) h.dedents ∙ append_assoc before (replicate (length old - length mid) t) (t ∷ [])
          ∙ ap (λ ts. before ++ ts) (one_more (length old - length mid) t ∙ ap (λ n. replicate n t) (sym count));
    }

-- ---- the blocks keep their bounds

last_part : (lines front back : List (List Piece)) (xs l : List Piece) → lines ++ xs ∷ [] ≡ front ++ l ∷ back
    → ((front ≡ lines) × (l ≡ xs)) ⊎ ((more : List (List Piece)) × (lines ≡ front ++ l ∷ more))
last_part [] [] back xs l e = let head : xs ≡ l = cc in inl (refl, sym head)
last_part [] (f ∷ []) back xs l e = cc
last_part [] (f ∷ g ∷ front) back xs l e = cc
last_part (m ∷ lines) [] back xs l e = let head : m ≡ l = cc in inr (lines, ap (λ t. t ∷ lines) head)
last_part (m ∷ lines) (f ∷ front) back xs l e =
    let head : m ≡ f = cc in
    let tail : lines ++ xs ∷ [] ≡ front ++ l ∷ back = cc in
    consed m f lines front xs l head (last_part lines front back xs l tail)
  where
    consed : (m f : List Piece) (lines front : List (List Piece)) (xs l : List Piece) → m ≡ f → ((front ≡ lines) × (l ≡ xs)) ⊎ ((more : List (List Piece)) × (lines ≡ front ++ l ∷ more))
        → ((f ∷ front ≡ m ∷ lines) × (l ≡ xs)) ⊎ ((more : List (List Piece)) × (m ∷ lines ≡ f ∷ front ++ l ∷ more))
    consed m f lines front xs l e (inl k) = inl (rw (e, k.0) refl, k.1)
    consed m f lines front xs l e (inr k) = inr (k.0, rw (e, ← k.1) refl)

-- where one line stands for another at the end
pub blocks_put : (lines : List (List Piece)) (xs ys : List Piece) → AreBlocks (lines ++ xs ∷ [])
    → (is_logical ys ≡ true → IsMatched (open_blocks lines) (depth ys) × (length (blocks_after (open_blocks lines) ys) ≤ 32)) → AreBlocks (lines ++ ys ∷ [])
blocks_put lines xs ys h new front l back e logical = by_parts front l logical (last_part lines front back ys l e)
  where
    by_parts : (front : List (List Piece)) (l : List Piece) → is_logical l ≡ true → ((front ≡ lines) × (l ≡ ys)) ⊎ ((more : List (List Piece)) × (lines ≡ front ++ l ∷ more))
        → IsMatched (open_blocks front) (depth l) × (length (open_blocks (front ++ l ∷ [])) ≤ 32)
    by_parts front l logical (inl k) =
        let found = new (ap is_logical (sym k.1) ∙ logical) in
        let P : List (List Piece) → List Piece → Type 0 = λ t u. IsMatched (open_blocks t) (depth u) × (length (open_blocks (t ++ u ∷ [])) ≤ 32) in
        let Q : ℕ → Type 0 = λ n. n ≤ 32 in
        let here : P lines ys = (found.0, subst Q (ap length (sym (open_blocks_more lines ys))) found.1) in
        let R : List (List Piece) → Type 0 = λ t. P t l in
        let S : List Piece → Type 0 = λ u. P lines u in
        subst R (sym k.0) (subst S (sym k.1) here)
    by_parts front l logical (inr k) = h front l (k.0 ++ xs ∷ []) (ap (λ t. t ++ xs ∷ []) k.1 ∙ append_assoc front (l ∷ k.0) (xs ∷ [])) logical

-- where the line grew, and has a token as before, at the same level
pub blocks_same : (lines : List (List Piece)) (xs ys : List Piece) → AreBlocks (lines ++ xs ∷ []) → is_logical ys ≡ is_logical xs → (is_logical xs ≡ true → depth ys ≡ depth xs) → AreBlocks (lines ++ ys ∷ [])
blocks_same lines xs ys h same level = blocks_put lines xs ys h by_old
  where
    by_old : is_logical ys ≡ true → IsMatched (open_blocks lines) (depth ys) × (length (blocks_after (open_blocks lines) ys) ≤ 32)
    by_old logical =
        let was : is_logical xs ≡ true = sym same ∙ logical in
        let old = h lines xs [] refl was in
        let P : ℕ → Type 0 = λ d. IsMatched (open_blocks lines) d in
        let Q : ℕ → Type 0 = λ n. n ≤ 32 in
        let behind : open_blocks (lines ++ xs ∷ []) ≡ blocks_after (open_blocks lines) ys =
        open_blocks_more lines xs ∙ ap (λ b. if b then blocks_behind (open_blocks lines) (depth xs) else open_blocks lines) (sym same) ∙ ap (λ d. if is_logical ys then blocks_behind (open_blocks lines) d else open_blocks lines) (sym (level was)) in
        (subst P (sym (level was)) old.0, subst Q (ap length behind) old.1)

pub blocks_new : (lines : List (List Piece)) → AreBlocks lines → AreBlocks (lines ++ [] ∷ [])
blocks_new lines h front l back e logical = by_parts front l logical (last_part lines front back [] l e)
  where
    by_parts : (front : List (List Piece)) (l : List Piece) → is_logical l ≡ true → ((front ≡ lines) × (l ≡ [])) ⊎ ((more : List (List Piece)) × (lines ≡ front ++ l ∷ more))
        → IsMatched (open_blocks front) (depth l) × (length (open_blocks (front ++ l ∷ [])) ≤ 32)
    by_parts front l logical (inl k) = absurd (true≢false (sym (sym (ap is_logical k.1) ∙ logical)))
    by_parts front l logical (inr k) = h front l k.0 k.1 logical

pub no_blocks : AreBlocks ([] ∷ [])
no_blocks front l back e logical = blocks_new [] (λ f m b k. absurd (none f m b k)) front l back e logical
  where
    none : (f : List (List Piece)) (m : List Piece) (b : List (List Piece)) → [] ≡ f ++ m ∷ b → ⊥
    none [] m b k = cc
    none (g ∷ f) m b k = cc

-- ---- few blocks are open

few_behind : (b : Bool) (done : List (List Piece)) (l : List Piece) (lines : List (List Piece)) → is_logical l ≡ b → AreBlocks (done ++ l ∷ lines) → length (open_blocks done) ≤ 32 → length (open_blocks (done ++ l ∷ [])) ≤ 32
few_behind true done l lines e h k = (h done l lines refl e).1
few_behind false done l lines e h k =
    let P : ℕ → Type 0 = λ n. n ≤ 32 in
    subst P (ap length (sym (open_blocks_more done l ∙ ap (λ b. if b then blocks_behind (open_blocks done) (depth l) else open_blocks done) e))) k

few_from : (done lines : List (List Piece)) → AreBlocks (done ++ lines) → length (open_blocks done) ≤ 32 → length (open_blocks (done ++ lines)) ≤ 32
few_from done [] h k = let P : List (List Piece) → Type 0 = λ t. length (open_blocks t) ≤ 32 in subst P (sym (append-nil done)) k
few_from done (l ∷ lines) h k =
    let P : List (List Piece) → Type 0 = λ t. length (open_blocks t) ≤ 32 in
    let Q : List (List Piece) → Type 0 = AreBlocks in
    let joined : (done ++ l ∷ []) ++ lines ≡ done ++ l ∷ lines = append_assoc done (l ∷ []) lines in
    subst P joined (few_from (done ++ l ∷ []) lines (subst Q (sym joined) h) (few_behind (is_logical l) done l lines refl h k))

pub few_blocks : (lines : List (List Piece)) → AreBlocks lines → length (open_blocks lines) ≤ 32
few_blocks lines h = few_from [] lines h (omega arith)
