-- How formatting goes on behind a piece that is read, and that it agrees with the grammar of patterns.
use Rattle.std.proofs.Common.{◌≡◌, ℕ, zero, suc, ◌+◌, ◌-◌, ◌<◌, Bool, true, false, cond, ◌&&◌, ◌==◌, List, [], ◌∷◌, ◌++◌, length, take, drop, Option, None, Some, option_map, option_and_then, ◌↔◌, refl, sym, ap, ◌∙◌, subst, append_assoc, arith}
use Rattle.std.specs.Option.{option_map_or}
use Rattle.std.proofs.lemmas.List.{drop_at}
use Rattle.gd_text.specs.Pattern.{IsWritten, IsPattern}
use Rattle.gd_text.specs.Reading.{read_piece, pieces_after, pieces_of}
use Rattle.gd_text.specs.Format.{takes, shown, all_fit, text_of, left_by, piece_text, fits, text_with, formatted, IsFormatted}
use Rattle.gd_text.specs.declared.formatting.Arg.{Arg}
use Rattle.gd_text.specs.declared.pattern.Conversion.{Conversion}
use Rattle.gd_text.specs.declared.pattern.Piece.{Piece}
use Rattle.gd_text.specs.declared.pattern.Piece.TheVariants.{Plain, Shown}
use Rattle.gd_text.proofs.Readings.{piece_read, piece_sound, goes_before, nothing_read}

skipped : (n : ℕ) (xs : List ℕ) → pieces_after n xs ≡ pieces_after 0 (drop n xs)
skipped zero xs = refl
skipped (suc n) [] = refl
skipped (suc n) (c ∷ cs) = skipped n cs

plain_written : (b : Bool) (c : ℕ) (w : List ℕ) → w ≡ cond b (37 ∷ 37 ∷ []) (c ∷ []) → 0 < length w
plain_written true c w h = let l : length w ≡ 2 = ap length h in omega arith
plain_written false c w h = let l : length w ≡ 1 = ap length h in omega arith

written_some : (p : Piece) (w : List ℕ) → IsWritten p w → 0 < length w
written_some (Plain c) w h = plain_written (c == 37) c w h
written_some (Shown c) w h = let l = ap length h.parts in omega arith

-- a piece that is read has some characters
read_some : (a : List ℕ) (p : Piece) (n : ℕ) → read_piece a ≡ Some (p, n) → 0 < n
read_some a p zero e = let l : 0 < length (take 0 a) = written_some p (take 0 a) (piece_sound a p 0 e) in l
read_some a p (suc n) e = omega arith

abbrev behind : List ℕ → Piece × ℕ → Option (List Piece)
behind cs p = option_map (λ (ps : List Piece). p.0 ∷ ps) (pieces_after (p.1 - 1) cs)

-- the pieces are the one that is read, and those of the rest
step : (a : List ℕ) (p : Piece) (n : ℕ) → read_piece a ≡ Some (p, n) → pieces_of a ≡ option_map (λ (ps : List Piece). p ∷ ps) (pieces_of (drop n a))
step [] p n e = let wrong = nothing_read in cc
step (c ∷ cs) p zero e = let some : 0 < 0 = read_some (c ∷ cs) p 0 e in absurd (omega arith)
step (c ∷ cs) p (suc n) e =
    let one : suc n - 1 ≡ n = omega arith in
    ap (option_and_then (behind cs)) e ∙ ap (λ k. option_map (λ (ps : List Piece). p ∷ ps) (pieces_after k cs)) one ∙ ap (option_map (λ (ps : List Piece). p ∷ ps)) (skipped n cs)

stuck : (a : List ℕ) → 0 < length a → read_piece a ≡ None → pieces_of a ≡ None
stuck [] some e = absurd (omega arith)
stuck (c ∷ cs) some e = ap (option_and_then (behind cs)) e

-- a pattern has these pieces
complete : (ps : List Piece) (a : List ℕ) → IsPattern ps a → pieces_of a ≡ Some ps
complete [] a is = ap pieces_of is
complete (p ∷ ps) a is =
    let read : read_piece a ≡ Some (p, length is.0) = ap read_piece is.2 ∙ piece_read p is.0 is.1 is.3 in
    let left : drop (length is.0) a ≡ is.1 = ap (drop (length is.0)) is.2 ∙ drop_at is.0 is.1 (length is.0) refl in
    step a p (length is.0) read ∙ ap (option_map (λ (qs : List Piece). p ∷ qs)) (ap pieces_of left ∙ complete ps is.1 is.4)

record First (o : Option (List Piece)) (p : Piece) (ps : List Piece) : Type 0 where
  rest : List Piece
  found : o ≡ Some rest
  is : p ∷ rest ≡ ps

first_of : (o : Option (List Piece)) (p : Piece) (ps : List Piece) → option_map (λ (qs : List Piece). p ∷ qs) o ≡ Some ps → First o p ps
first_of None p ps e = cc
first_of (Some qs) p ps e = record { rest = qs; found = refl; is = cc }

sound_one : (c : ℕ) (cs : List ℕ) (ps : List Piece) (o : Option (Piece × ℕ)) → read_piece (c ∷ cs) ≡ o → ((k : ℕ) (qs : List Piece) → pieces_after k cs ≡ Some qs → IsPattern qs (drop k cs)) → option_and_then (behind cs) o ≡ Some ps → IsPattern ps (c ∷ cs)
sound_one c cs ps None read rest e = cc
sound_one c cs ps (Some (p, zero)) read rest e = let some : 0 < 0 = read_some (c ∷ cs) p 0 read in absurd (omega arith)
sound_one c cs ps (Some (p, suc n)) read rest e =
    let one : suc n - 1 ≡ n = omega arith in
    let f = first_of (pieces_after n cs) p ps (ap (λ k. option_map (λ (qs : List Piece). p ∷ qs) (pieces_after k cs)) (sym one) ∙ e) in
    subst (λ (qs : List Piece). IsPattern qs (c ∷ cs)) f.is (goes_before f.rest (c ∷ cs) p (suc n) read (rest n f.rest f.found))

sound_after : (n : ℕ) (a : List ℕ) (ps : List Piece) → pieces_after n a ≡ Some ps → IsPattern ps (drop n a)
sound_after zero [] ps e = let none : ps ≡ [] = cc in subst (λ (qs : List Piece). IsPattern qs []) (sym none) refl
sound_after (suc n) [] ps e = let none : ps ≡ [] = cc in subst (λ (qs : List Piece). IsPattern qs []) (sym none) refl
sound_after (suc n) (c ∷ cs) ps e = sound_after n cs ps e
sound_after zero (c ∷ cs) ps e = sound_one c cs ps (read_piece (c ∷ cs)) refl (λ k qs h. sound_after k cs qs h) e

sound_fit : (b : Bool) (ps : List Piece) (a : List ℕ) (args : List Arg) (t : List ℕ) → all_fit ps args ≡ b → IsPattern ps a → cond b (Some (text_of ps args)) None ≡ Some t → IsFormatted a args t
sound_fit true ps a args t e is h =
    let same : text_of ps args ≡ t = cc in
    record { pieces = ps; are_pieces = is; fit = e; text = sym same }
sound_fit false ps a args t e is h = cc

abbrev all_of : List Arg → Option (List Piece) → Bool
all_of args o = option_map_or (λ (ps : List Piece). all_fit ps args) o false

abbrev text_from : List Arg → Option (List Piece) → List ℕ
text_from args o = option_map_or (λ (ps : List Piece). text_of ps args) o []

sound_text : (o : Option (List Piece)) (a : List ℕ) (args : List Arg) (t : List ℕ) → ((ps : List Piece) → o ≡ Some ps → IsPattern ps a) → cond (all_of args o) (Some (text_from args o)) None ≡ Some t → IsFormatted a args t
sound_text None a args t is e = cc
sound_text (Some ps) a args t is e = sound_fit (all_fit ps args) ps a args t refl (is ps refl) e

pub formatted_fits : (a : List ℕ) (args : List Arg) (t : List ℕ) → IsFormatted a args t → fits a args ≡ true
formatted_fits a args t f = ap (all_of args) (complete f.pieces a f.are_pieces) ∙ f.fit

complete_text : (a : List ℕ) (args : List Arg) (t : List ℕ) → IsFormatted a args t → formatted a args ≡ Some t
complete_text a args t f =
    let text : text_with a args ≡ t = ap (text_from args) (complete f.pieces a f.are_pieces) ∙ sym f.text in
    ap (λ (b : Bool). cond b (Some (text_with a args)) None) (formatted_fits a args t f) ∙ ap Some text

-- the function gives the texts that the grammar says, and no others
pub agrees : (a : List ℕ) (args : List Arg) (t : List ℕ) → (formatted a args ≡ Some t) ↔ IsFormatted a args t
agrees a args t = (sound_text (pieces_of a) a args t (λ ps h. sound_after 0 a ps h), complete_text a args t)

pub made_formatted : (a : List ℕ) (args : List Arg) → fits a args ≡ true → IsFormatted a args (text_with a args)
made_formatted a args h = (agrees a args (text_with a args)).0 (ap (λ (b : Bool). cond b (Some (text_with a args)) None) h)

none_fit : (b : Bool) (args : List Arg) → false ≡ option_map_or (λ (more : List Arg). false) (cond b (Some args) None) false
none_fit true args = refl
none_fit false args = refl

some_fit : (b : Bool) (args : List Arg) (ps : List Piece) → (b && all_fit ps args) ≡ option_map_or (λ (more : List Arg). all_fit ps more) (cond b (Some args) None) false
some_fit true args ps = refl
some_fit false args ps = refl

fit_one : (p : Piece) (args : List Arg) (o : Option (List Piece)) → all_of args (option_map (λ (ps : List Piece). p ∷ ps) o) ≡ option_map_or (λ (more : List Arg). all_of more o) (left_by p args) false
fit_one (Plain c) args None = refl
fit_one (Plain c) args (Some ps) = refl
fit_one (Shown c) [] None = refl
fit_one (Shown c) [] (Some ps) = refl
fit_one (Shown c) (x ∷ args) None = none_fit (takes c.letter x) args
fit_one (Shown c) (x ∷ args) (Some ps) = some_fit (takes c.letter x) args ps

fits_on : (a : List ℕ) (args : List Arg) (p : Piece) (n : ℕ) → read_piece a ≡ Some (p, n) → fits a args ≡ option_map_or (fits (drop n a)) (left_by p args) false
fits_on a args p n e = ap (all_of args) (step a p n e) ∙ fit_one p args (pieces_of (drop n a))

-- the arguments fit as those that are left fit the rest
pub fits_behind : (a : List ℕ) (args more : List Arg) (p : Piece) (n : ℕ) → read_piece a ≡ Some (p, n) → left_by p args ≡ Some more → fits a args ≡ fits (drop n a) more
fits_behind a args more p n e h = fits_on a args p n e ∙ ap (λ (o : Option (List Arg)). option_map_or (fits (drop n a)) o false) h

pub fits_no_piece : (a : List ℕ) (args : List Arg) (p : Piece) (n : ℕ) → read_piece a ≡ Some (p, n) → left_by p args ≡ None → fits a args ≡ false
fits_no_piece a args p n e h = fits_on a args p n e ∙ ap (λ (o : Option (List Arg)). option_map_or (fits (drop n a)) o false) h

pub fits_no_pattern : (a : List ℕ) (args : List Arg) → 0 < length a → read_piece a ≡ None → fits a args ≡ false
fits_no_pattern a args some e = ap (all_of args) (stuck a some e)

text_taken : (b : Bool) (c : Conversion) (x : Arg) (args more : List Arg) (ps : List Piece) → cond b (Some args) None ≡ Some more → shown c x ++ text_of ps args ≡ shown c x ++ text_of ps more
text_taken true c x args more ps h = let same : args ≡ more = cc in ap (λ (bs : List Arg). shown c x ++ text_of ps bs) same
text_taken false c x args more ps h = cc

text_one : (p : Piece) (args more : List Arg) (o : Option (List Piece)) → left_by p args ≡ Some more → all_of more o ≡ true → text_from args (option_map (λ (ps : List Piece). p ∷ ps) o) ≡ piece_text p args ++ text_from more o
text_one p args more None h fit = cc
text_one (Plain c) args more (Some ps) h fit = let same : args ≡ more = cc in ap (λ (bs : List Arg). c ∷ text_of ps bs) same
text_one (Shown c) [] more (Some ps) h fit = cc
text_one (Shown c) (x ∷ args) more (Some ps) h fit = text_taken (takes c.letter x) c x args more ps h

-- the text is that of the piece, and then that of the rest
pub text_behind : (a : List ℕ) (args more : List Arg) (p : Piece) (n : ℕ) → read_piece a ≡ Some (p, n) → left_by p args ≡ Some more → fits a args ≡ true → text_with a args ≡ piece_text p args ++ text_with (drop n a) more
text_behind a args more p n e h fit =
    ap (text_from args) (step a p n e) ∙ text_one p args more (pieces_of (drop n a)) h (sym (fits_behind a args more p n e h) ∙ fit)
