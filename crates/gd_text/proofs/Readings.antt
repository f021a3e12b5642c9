-- A pattern is read as the pieces that make it, and in no other way.
use Rattle.std.proofs.Common.{◌≡◌, ◌≢◌, ℕ, zero, suc, ◌+◌, ◌<◌, ◌≤◌, Bool, true, false, cond, ◌&&◌, ◌||◌, ◌==◌, nat_lt, List, [], ◌∷◌, ◌++◌, length, take, drop, get_or, Option, None, Some, option_map, option_and_then, ◌⊎◌, inl, inr, refl, sym, ap, ◌∙◌, subst, length-append, append_assoc, arith}
use Rattle.std.specs.Char.{is_ascii_digit}
use Rattle.std.specs.List.{prefix_len, list_all, slice_get}
use Rattle.std.proofs.lemmas.Bool.Decides.{nat_tests}
use Rattle.std.proofs.lemmas.List.{take-append-drop, take_at, drop_at}
use Rattle.std.proofs.lemmas.List.Folds.{length-prefix_len}
use Rattle.gd_text.specs.Number.{digits_value}
use Rattle.gd_text.specs.Pattern.{letter_sign, is_flag, count_of, AreFlags, IsWidth, IsConversion, IsWritten, IsPattern}
use Rattle.gd_text.specs.Reading.{letter_of, are_doubled, with_letter, conversion_of, read_conversion, read_behind, read_piece}
use Rattle.gd_text.specs.Format.{IsFormatted, text_of}
use Rattle.gd_text.specs.declared.formatting.Arg.{Arg}
use Rattle.gd_text.specs.declared.pattern.Letter.{Letter}
use Rattle.gd_text.specs.declared.pattern.Letter.TheVariants.{Any, Character, Decimal, Octal, LowerHex, UpperHex}
use Rattle.gd_text.specs.declared.pattern.Conversion.{Conversion}
use Rattle.gd_text.specs.declared.pattern.Piece.{Piece}
use Rattle.gd_text.specs.declared.pattern.Piece.TheVariants.{Plain, Shown}

-- a test answers one of two
answers : (b : Bool) → (b ≡ true) ⊎ (b ≡ false)
answers true = inl refl
answers false = inr refl

both : (a b : Bool) → (a && b) ≡ true → (a ≡ true) × (b ≡ true)
both true b h = (refl, h)
both false b h = cc

-- the longest front that passes a test, where an element that fails it follows
front : (p : ℕ → Bool) (xs : List ℕ) (y : ℕ) (ys : List ℕ) → list_all p xs ≡ true → p y ≡ false → prefix_len p (xs ++ y ∷ ys) ≡ length xs
front p [] y ys all fails = ap (λ b. cond b (1 + prefix_len p ys) 0) fails
front p (x ∷ xs) y ys all fails =
    let h = both (p x) (list_all p xs) all in
    let e : prefix_len p (xs ++ y ∷ ys) ≡ length xs = front p xs y ys h.1 fails in
    ap (λ b. cond b (1 + prefix_len p (xs ++ y ∷ ys)) 0) h.0 ∙ omega arith

front_one : (p : ℕ → Bool) (x n : ℕ) (xs : List ℕ) (b : Bool) → p x ≡ b → list_all p (take n xs) ≡ true → list_all p (take (cond b (1 + n) 0) (x ∷ xs)) ≡ true
front_one p x n xs true e h = let s : 1 + n ≡ suc n = omega arith in rw s (ap (λ b. b && list_all p (take n xs)) e ∙ h)
front_one p x n xs false e h = refl

front_passes : (p : ℕ → Bool) (xs : List ℕ) → list_all p (take (prefix_len p xs) xs) ≡ true
front_passes p [] = refl
front_passes p (x ∷ xs) = front_one p x (prefix_len p xs) xs (p x) refl (front_passes p xs)

after_one : (p : ℕ → Bool) (x y n : ℕ) (xs ys : List ℕ) (b : Bool) → p x ≡ b → (drop n xs ≡ y ∷ ys → p y ≡ false) → drop (cond b (1 + n) 0) (x ∷ xs) ≡ y ∷ ys → p y ≡ false
after_one p x y n xs ys true e more h = let s : 1 + n ≡ suc n = omega arith in more (rw s at h)
after_one p x y n xs ys false e more h = let same : x ≡ y = cc in ap p (sym same) ∙ e

-- what follows the longest front fails the test
after_front : (p : ℕ → Bool) (xs : List ℕ) (y : ℕ) (ys : List ℕ) → drop (prefix_len p xs) xs ≡ y ∷ ys → p y ≡ false
after_front p [] y ys e = cc
after_front p (x ∷ xs) y ys e = after_one p x y (prefix_len p xs) xs ys (p x) refl (after_front p xs y ys) e

letter-sign : (l : Letter) → letter_of (letter_sign l) ≡ Some l
letter-sign Any = refl
letter-sign Character = refl
letter-sign Decimal = refl
letter-sign Octal = refl
letter-sign LowerHex = refl
letter-sign UpperHex = refl

letter_one : (x s : ℕ) (k l : Letter) (o : Option Letter) (b : Bool) → (x == s) ≡ b → letter_sign k ≡ s → (o ≡ Some l → x ≡ letter_sign l) → cond b (Some k) o ≡ Some l → x ≡ letter_sign l
letter_one x s k l o true t e else h = let n : x ≡ s = grind (arith, nat_tests) in let m : k ≡ l = cc in n ∙ sym e ∙ ap letter_sign m
letter_one x s k l o false t e else h = else h

letter_or : (x s : ℕ) (k l : Letter) (o : Option Letter) → letter_sign k ≡ s → (o ≡ Some l → x ≡ letter_sign l) → cond (x == s) (Some k) o ≡ Some l → x ≡ letter_sign l
letter_or x s k l o e else h = letter_one x s k l o (x == s) refl e else h

letter_found : (x : ℕ) (l : Letter) → letter_of x ≡ Some l → x ≡ letter_sign l
letter_found x l h =
    letter_or x 115 Any l _ refl (letter_or x 99 Character l _ refl (letter_or x 100 Decimal l _ refl
    (letter_or x 111 Octal l _ refl (letter_or x 120 LowerHex l _ refl (letter_or x 88 UpperHex l None refl (λ g. absurd (cc))))))) h

no_flag_sign : (l : Letter) → (is_flag (letter_sign l) ≡ false) × (is_ascii_digit (letter_sign l) ≡ false) × ((letter_sign l == 37) ≡ false)
no_flag_sign Any = (refl, refl, refl)
no_flag_sign Character = (refl, refl, refl)
no_flag_sign Decimal = (refl, refl, refl)
no_flag_sign Octal = (refl, refl, refl)
no_flag_sign LowerHex = (refl, refl, refl)
no_flag_sign UpperHex = (refl, refl, refl)

-- a flag that stands once, where it is set
once : (n : ℕ) (b : Bool) → n ≡ cond b 1 0 → ((n == 1) ≡ b) × (nat_lt 1 n ≡ false)
once n true e = (grind (arith, nat_tests), grind (arith, nat_tests))
once n false e = (grind (arith, nat_tests), grind (arith, nat_tests))

at_most_once : (n : ℕ) → nat_lt 1 n ≡ false → n ≡ cond (n == 1) 1 0
at_most_once n h = grind (arith, nat_tests)

none : (a b c : Bool) → a ≡ false → b ≡ false → c ≡ false → (a || b || c) ≡ false
none a b c e f g = cc

conversion_is : (m p z : Bool) (w : ℕ) (l : Letter) (c : Conversion) → m ≡ c.minus → p ≡ c.plus → z ≡ c.zero → w ≡ c.width → l ≡ c.letter → ◌≡◌ {A = Conversion} (record { minus = m; plus = p; zero = z; width = w; letter = l }) c
conversion_is m p z w l c e f g h k = λ i. record { minus = e i; plus = f i; zero = g i; width = h i; letter = k i }

-- flags, digits and a letter are read as their conversion
parts_read : (c : Conversion) (flags digits rest : List ℕ) → AreFlags flags c → IsWidth digits c.width → conversion_of flags digits (letter_sign c.letter ∷ rest) ≡ Some c
unfolding conversion_of
parts_read c flags digits rest f w =
    let m = once (count_of 45 flags) c.minus f.minus in
    let p = once (count_of 43 flags) c.plus f.plus in
    let z = once (count_of 48 flags) c.zero f.zeros in
    let few : nat_lt 3 (length digits) ≡ false = let le = w.few in grind (arith, nat_tests) in
    let single : (are_doubled flags || nat_lt 3 (length digits)) ≡ false = cc in
    let same : with_letter flags digits c.letter ≡ c = conversion_is _ _ _ _ _ c m.0 p.0 z.0 (sym w.value) refl in
    ap (λ (o : Option Letter). option_and_then (λ (l : Letter). cond (are_doubled flags || nat_lt 3 (length digits)) None (Some (with_letter flags digits l))) o) (letter-sign c.letter)
    ∙ ap (λ b. cond b None (Some (with_letter flags digits c.letter))) single ∙ ap Some same

-- the parts of a conversion that is read
pub record Parts (c : Conversion) (flags digits behind : List ℕ) : Type 0 where
  rest : List ℕ
  letter : behind ≡ letter_sign c.letter ∷ rest
  single : are_doubled flags ≡ false
  few : length digits ≤ 3
  is : c ≡ with_letter flags digits c.letter

either : (a b : Bool) → (a || b) ≡ false → (a ≡ false) × (b ≡ false)
either true b h = cc
either false b h = (refl, h)

parts_single : (c : Conversion) (flags digits : List ℕ) (x : ℕ) (rest : List ℕ) (l : Letter) (b : Bool) → (are_doubled flags || nat_lt 3 (length digits)) ≡ b → x ≡ letter_sign l → cond b None (Some (with_letter flags digits l)) ≡ Some c → Parts c flags digits (x ∷ rest)
parts_single c flags digits x rest l true e s h = cc
parts_single c flags digits x rest l false e s h =
    let n = either (are_doubled flags) (nat_lt 3 (length digits)) e in
    let is : with_letter flags digits l ≡ c = cc in
    let same : l ≡ c.letter = ap (λ (d : Conversion). d.letter) is in
    let le : length digits ≤ 3 = let t = n.1 in grind (arith, nat_tests) in
    record { rest = rest; letter = ap (λ y. y ∷ rest) (s ∙ ap letter_sign same); single = n.0; few = le; is = sym is ∙ ap (with_letter flags digits) same }

parts_letter : (c : Conversion) (flags digits : List ℕ) (x : ℕ) (rest : List ℕ) (o : Option Letter) → ((l : Letter) → o ≡ Some l → x ≡ letter_sign l) → option_and_then (λ (l : Letter). cond (are_doubled flags || nat_lt 3 (length digits)) None (Some (with_letter flags digits l))) o ≡ Some c → Parts c flags digits (x ∷ rest)
parts_letter c flags digits x rest None found h = cc
parts_letter c flags digits x rest (Some l) found h = parts_single c flags digits x rest l _ refl (found l refl) h

parts_of : (c : Conversion) (flags digits behind : List ℕ) → conversion_of flags digits behind ≡ Some c → Parts c flags digits behind
unfolding conversion_of
parts_of c flags digits [] h = cc
parts_of c flags digits (x ∷ rest) h = parts_letter c flags digits x rest (letter_of x) (letter_found x) h

-- how the characters behind a `%` are read, given where their flags and digits end
read_at : (cs flags digits behind : List ℕ) → cs ≡ flags ++ (digits ++ behind) → prefix_len is_flag cs ≡ length flags → prefix_len is_ascii_digit (digits ++ behind) ≡ length digits → read_conversion cs ≡ option_map (λ (c : Conversion). (c, length flags + length digits + 1)) (conversion_of flags digits behind)
unfolding read_conversion
read_at cs flags digits behind e f d =
    let g : drop (length flags) cs ≡ digits ++ behind = ap (drop (length flags)) e ∙ drop_at flags (digits ++ behind) (length flags) refl in
    let h : take (length flags) cs ≡ flags = ap (take (length flags)) e ∙ take_at flags (digits ++ behind) (length flags) refl in
    let i : take (length digits) (digits ++ behind) ≡ digits = take_at digits behind (length digits) refl in
    let j : drop (length digits) (digits ++ behind) ≡ behind = drop_at digits behind (length digits) refl in
    rw (f, g, h, d, i, j)

digit_or_flag : (d : ℕ) → is_ascii_digit d ≡ true → d ≢ 48 → is_flag d ≡ false
digit_or_flag d h apart = grind (arith, nat_tests)

flags_end : (c : Conversion) (flags digits rest : List ℕ) → AreFlags flags c → IsWidth digits c.width → prefix_len is_flag (flags ++ (digits ++ letter_sign c.letter ∷ rest)) ≡ length flags
flags_end c flags [] rest f w = front is_flag flags (letter_sign c.letter) rest f.only (no_flag_sign c.letter).0
flags_end c flags (d ∷ ds) rest f w =
    front is_flag flags d (ds ++ letter_sign c.letter ∷ rest) f.only (digit_or_flag d (both _ _ w.only).0 (λ e. w.first (ap Some e)))

flag_apart : (x : ℕ) → is_flag x ≡ true → (x == 37) ≡ false
flag_apart x h = grind (arith, nat_tests)

digit_apart : (x : ℕ) → is_ascii_digit x ≡ true → (x == 37) ≡ false
digit_apart x h = grind (arith, nat_tests)

-- no conversion goes on with a `%`
no_percent : (c : Conversion) (flags digits rest : List ℕ) → AreFlags flags c → IsWidth digits c.width → (get_or (flags ++ (digits ++ letter_sign c.letter ∷ rest)) 0 0 == 37) ≡ false
no_percent c [] [] rest f w = (no_flag_sign c.letter).2
no_percent c [] (d ∷ ds) rest f w = digit_apart d (both _ _ w.only).0
no_percent c (x ∷ xs) digits rest f w = flag_apart x (both _ _ f.only).0

behind_read : (cs : List ℕ) (c : Conversion) (n : ℕ) → (get_or cs 0 0 == 37) ≡ false → read_conversion cs ≡ Some (c, n) → read_behind cs ≡ Some (Shown c, n)
unfolding read_behind
behind_read cs c n e h = rw (e, h)

percent_read : (cs : List ℕ) (p : Piece) (n : ℕ) → read_behind cs ≡ Some (p, n) → read_piece (37 ∷ cs) ≡ Some (p, n + 1)
unfolding read_piece
percent_read cs p n h = rw h

-- a conversion is read as itself, whatever follows
conversion_read : (c : Conversion) (w rest : List ℕ) → IsConversion c w → read_piece (w ++ rest) ≡ Some (Shown c, length w)
conversion_read c w rest is =
    let behind = letter_sign c.letter ∷ rest in
    let cs = is.flags ++ (is.digits ++ behind) in
    let whole : w ++ rest ≡ 37 ∷ cs = ap (λ (v : List ℕ). v ++ rest) is.parts ∙ ap (λ (v : List ℕ). 37 ∷ v) (append_assoc is.flags (is.digits ++ letter_sign c.letter ∷ []) rest ∙ ap (λ (v : List ℕ). is.flags ++ v) (append_assoc is.digits (letter_sign c.letter ∷ []) rest)) in
    let len : length w ≡ length is.flags + length is.digits + 1 + 1 =
    ap length is.parts ∙ omega (arith, length-append is.flags (is.digits ++ letter_sign c.letter ∷ []), length-append is.digits (letter_sign c.letter ∷ [])) in
    let read = read_at cs is.flags is.digits behind refl (flags_end c is.flags is.digits rest is.are_flags is.is_width) (front is_ascii_digit is.digits (letter_sign c.letter) rest is.is_width.only (no_flag_sign c.letter).1)
    ∙ ap (λ (o : Option Conversion). option_map (λ (d : Conversion). (d, length is.flags + length is.digits + 1)) o) (parts_read c is.flags is.digits rest is.are_flags is.is_width) in
    ap read_piece whole ∙ percent_read cs (Shown c) _ (behind_read cs c _ (no_percent c is.flags is.digits rest is.are_flags is.is_width) read) ∙ ap (λ n. Some (Shown c, n)) (sym len)

double_read : (rest : List ℕ) → read_piece (37 ∷ 37 ∷ rest) ≡ Some (Plain 37, 2)
unfolding read_piece read_behind
double_read rest = refl

single_read : (c : ℕ) (rest : List ℕ) → (c == 37) ≡ false → read_piece (c ∷ rest) ≡ Some (Plain c, 1)
unfolding read_piece
single_read c rest e = rw e

plain_read : (c : ℕ) (w rest : List ℕ) (b : Bool) → (c == 37) ≡ b → w ≡ cond b (37 ∷ 37 ∷ []) (c ∷ []) → read_piece (w ++ rest) ≡ Some (Plain c, length w)
plain_read c w rest true e h =
    let n : 37 ≡ c = grind (arith, nat_tests) in
    ap (λ (v : List ℕ). read_piece (v ++ rest)) h ∙ double_read rest ∙ ap (λ k. Some (Plain k, 2)) n ∙ ap (λ (v : List ℕ). Some (Plain c, length v)) (sym h)
plain_read c w rest false e h =
    ap (λ (v : List ℕ). read_piece (v ++ rest)) h ∙ single_read c rest e ∙ ap (λ (v : List ℕ). Some (Plain c, length v)) (sym h)

-- a piece is read as itself, whatever follows
pub piece_read : (p : Piece) (w rest : List ℕ) → IsWritten p w → read_piece (w ++ rest) ≡ Some (p, length w)
piece_read (Plain c) w rest h = plain_read c w rest (c == 37) refl h
piece_read (Shown c) w rest h = conversion_read c w rest h

-- flags that are read are those of their conversion
flags_are : (flags digits : List ℕ) (l : Letter) → list_all is_flag flags ≡ true → are_doubled flags ≡ false → AreFlags flags (with_letter flags digits l)
flags_are flags digits l all single =
    let a = either _ _ single in
    let b = either _ _ a.0 in
    record { only = all; minus = at_most_once _ b.0; plus = at_most_once _ b.1; zeros = at_most_once _ a.1 }

first_of : (n : ℕ) (xs : List ℕ) (x : ℕ) → slice_get (take n xs) 0 ≡ Some x → xs ≡ x ∷ drop 1 xs
first_of zero xs x e = cc
first_of (suc n) [] x e = cc
first_of (suc n) (y ∷ ys) x e = let same : y ≡ x = cc in ap (λ z. z ∷ ys) same

-- digits that are read behind the longest run of flags are a width
width_is : (cs : List ℕ) → (let rest = drop (prefix_len is_flag cs) cs in length (take (prefix_len is_ascii_digit rest) rest) ≤ 3 → IsWidth (take (prefix_len is_ascii_digit rest) rest) (digits_value (take (prefix_len is_ascii_digit rest) rest)))
width_is cs few =
    let rest = drop (prefix_len is_flag cs) cs in
    record {
      only = front_passes is_ascii_digit rest;
      few = few;
      first = λ e. let wrong : is_flag 48 ≡ false = after_front is_flag cs 48 _ (first_of (prefix_len is_ascii_digit rest) rest 48 e) in cc;
      value = refl;
    }

counted : (o : Option Conversion) (k n : ℕ) (c : Conversion) → option_map {U = Conversion × ℕ} (λ (d : Conversion). (d, k)) o ≡ Some (c, n) → (o ≡ Some c) × (k ≡ n)
counted None k n c e = cc
counted (Some d) k n c e =
    let same : ◌≡◌ {A = Conversion × ℕ} (d, k) (c, n) = cc in
    (ap (λ (q : Conversion × ℕ). Some q.0) same, ap (λ (q : Conversion × ℕ). q.1) same)

-- a conversion that is read is written so
conversion_sound : (cs : List ℕ) (c : Conversion) (n : ℕ) → read_conversion cs ≡ Some (c, n) → IsConversion c (37 ∷ take n cs)
unfolding read_conversion
conversion_sound cs c n h =
    let f = prefix_len is_flag cs in
    let flags = take f cs in
    let after = drop f cs in
    let d = prefix_len is_ascii_digit after in
    let digits = take d after in
    let behind = drop d after in
    let made = counted (conversion_of flags digits behind) (f + d + 1) n c h in
    let parts = parts_of c flags digits behind made.0 in
    let front = flags ++ (digits ++ letter_sign c.letter ∷ []) in
    let whole : cs ≡ front ++ parts.rest =
    sym (take-append-drop f cs) ∙ ap (λ (v : List ℕ). flags ++ v) (sym (take-append-drop d after) ∙ ap (λ (v : List ℕ). digits ++ v) parts.letter ∙ sym (append_assoc digits (letter_sign c.letter ∷ []) parts.rest))
    ∙ sym (append_assoc flags (digits ++ letter_sign c.letter ∷ []) parts.rest) in
    let len : length front ≡ n =
    omega (arith, made.1, length-append flags (digits ++ letter_sign c.letter ∷ []), length-append digits (letter_sign c.letter ∷ []), length-prefix_len is_flag cs, length-prefix_len is_ascii_digit after) in
    record {
      flags = flags;
      digits = digits;
      are_flags = subst (AreFlags flags) (sym parts.is) (flags_are flags digits c.letter (front_passes is_flag cs) parts.single);
      is_width = subst (λ (e : Conversion). IsWidth digits e.width) (sym parts.is) (width_is cs parts.few);
      parts = ap (λ (v : List ℕ). 37 ∷ v) (ap (take n) whole ∙ take_at front parts.rest n len);
    }

percent_first : (cs : List ℕ) → (get_or cs 0 0 == 37) ≡ true → take 1 cs ≡ 37 ∷ []
percent_first [] e = cc
percent_first (x ∷ xs) e = let n : x ≡ 37 = grind (arith, nat_tests) in ap (λ y. y ∷ []) n

pair_of : (p q : Piece) (m n : ℕ) → ◌≡◌ {A = Option (Piece × ℕ)} (Some (p, m)) (Some (q, n)) → (p ≡ q) × (m ≡ n)
pair_of p q m n e =
    let same : ◌≡◌ {A = Piece × ℕ} (p, m) (q, n) = cc in
    (ap (λ (r : Piece × ℕ). r.0) same, ap (λ (r : Piece × ℕ). r.1) same)

shown_sound : (o : Option (Conversion × ℕ)) (cs : List ℕ) (p : Piece) (n : ℕ) → ((c : Conversion) (k : ℕ) → o ≡ Some (c, k) → IsConversion c (37 ∷ take k cs)) → option_map {U = Piece × ℕ} (λ (q : Conversion × ℕ). (Shown q.0, q.1)) o ≡ Some (p, n) → IsWritten p (37 ∷ take n cs)
shown_sound None cs p n sound e = cc
shown_sound (Some q) cs p n sound e =
    let same = pair_of (Shown q.0) p q.1 n e in
    subst (λ (r : Piece). IsWritten r (37 ∷ take n cs)) same.0 (subst (λ k. IsConversion q.0 (37 ∷ take k cs)) same.1 (sound q.0 q.1 refl))

behind_one : (cs : List ℕ) (p : Piece) (n : ℕ) (b : Bool) → (get_or cs 0 0 == 37) ≡ b → cond {A = Option (Piece × ℕ)} b (Some (Plain 37, 1)) (option_map {U = Piece × ℕ} (λ (q : Conversion × ℕ). (Shown q.0, q.1)) (read_conversion cs)) ≡ Some (p, n) → IsWritten p (37 ∷ take n cs)
behind_one cs p n true e h =
    let same = pair_of (Plain 37) p 1 n h in
    subst (λ (r : Piece). IsWritten r (37 ∷ take n cs)) same.0 (ap (λ k. 37 ∷ take k cs) (sym same.1) ∙ ap (λ (v : List ℕ). 37 ∷ v) (percent_first cs e))
behind_one cs p n false e h = shown_sound (read_conversion cs) cs p n (conversion_sound cs) h

behind_sound : (cs : List ℕ) (p : Piece) (n : ℕ) → read_behind cs ≡ Some (p, n) → IsWritten p (37 ∷ take n cs)
unfolding read_behind
behind_sound cs p n h = behind_one cs p n _ refl h

longer : (o : Option (Piece × ℕ)) (c : ℕ) (cs : List ℕ) (p : Piece) (n : ℕ) → c ≡ 37 → ((q : Piece) (k : ℕ) → o ≡ Some (q, k) → IsWritten q (37 ∷ take k cs)) → option_map {U = Piece × ℕ} (λ (q : Piece × ℕ). (q.0, q.1 + 1)) o ≡ Some (p, n) → IsWritten p (take n (c ∷ cs))
longer None c cs p n e sound h = cc
longer (Some q) c cs p n e sound h =
    let same = pair_of q.0 p (q.1 + 1) n h in
    let s : q.1 + 1 ≡ suc q.1 = omega arith in
    let t : 37 ∷ take q.1 cs ≡ take n (c ∷ cs) = ap (λ x. x ∷ take q.1 cs) (sym e) ∙ ap (λ k. take k (c ∷ cs)) (sym s ∙ same.1) in
    subst (λ (v : List ℕ). IsWritten p v) t (subst (λ (r : Piece). IsWritten r (37 ∷ take q.1 cs)) same.0 (sound q.0 q.1 refl))

piece_one : (c : ℕ) (cs : List ℕ) (p : Piece) (n : ℕ) (b : Bool) → (c == 37) ≡ b → cond {A = Option (Piece × ℕ)} b (option_map {U = Piece × ℕ} (λ (q : Piece × ℕ). (q.0, q.1 + 1)) (read_behind cs)) (Some (Plain c, 1)) ≡ Some (p, n) → IsWritten p (take n (c ∷ cs))
piece_one c cs p n true e h = let is : c ≡ 37 = grind (arith, nat_tests) in longer (read_behind cs) c cs p n is (behind_sound cs) h
piece_one c cs p n false e h =
    let same = pair_of (Plain c) p 1 n h in
    subst (λ (r : Piece). IsWritten r (take n (c ∷ cs))) same.0 (ap (λ k. take k (c ∷ cs)) (sym same.1) ∙ ap (λ b. cond b (37 ∷ 37 ∷ []) (c ∷ [])) (sym e))

-- a piece that is read is written so
pub piece_sound : (a : List ℕ) (p : Piece) (n : ℕ) → read_piece a ≡ Some (p, n) → IsWritten p (take n a)
unfolding read_piece
piece_sound [] p n h = cc
piece_sound (c ∷ cs) p n h = piece_one c cs p n _ refl h

pub nothing_read : ◌≡◌ {A = Option (Piece × ℕ)} (read_piece []) None
unfolding read_piece
nothing_read = refl

-- the piece that a pattern begins with is the one that is read there, and the rest of the pattern follows it
goes_on : (ps : List Piece) (a : List ℕ) (p : Piece) (n : ℕ) → IsPattern ps a → read_piece a ≡ Some (p, n) → (qs : List Piece) × (ps ≡ p ∷ qs) × IsPattern qs (drop n a)
goes_on [] a p n is h = let wrong : read_piece a ≡ None = ap read_piece is ∙ nothing_read in cc
goes_on (q ∷ qs) a p n is h =
    let read : read_piece a ≡ Some (q, length is.0) = ap read_piece is.2 ∙ piece_read q is.0 is.1 is.3 in
    let same = pair_of q p (length is.0) n (sym read ∙ h) in
    let left : drop n a ≡ is.1 = ap (drop n) is.2 ∙ drop_at is.0 is.1 n same.1 in
    (qs, ap (λ (r : Piece). r ∷ qs) same.0, subst (IsPattern qs) (sym left) is.4)

-- a piece that is read goes before the pieces that make the rest
pub goes_before : (ps : List Piece) (a : List ℕ) (p : Piece) (n : ℕ) → read_piece a ≡ Some (p, n) → IsPattern ps (drop n a) → IsPattern (p ∷ ps) a
goes_before ps a p n h is = (take n a, drop n a, sym (take-append-drop n a), piece_sound a p n h, is)

-- a pattern has its pieces in one way
pub one_reading : (ps qs : List Piece) (a : List ℕ) → IsPattern ps a → IsPattern qs a → ps ≡ qs
one_reading [] [] a f g = refl
one_reading [] (q ∷ qs) a f g =
    let read : read_piece a ≡ Some (q, length g.0) = ap read_piece g.2 ∙ piece_read q g.0 g.1 g.3 in
    let wrong : read_piece a ≡ None = ap read_piece f ∙ nothing_read in
    cc
one_reading (p ∷ ps) qs a f g =
    let read : read_piece a ≡ Some (p, length f.0) = ap read_piece f.2 ∙ piece_read p f.0 f.1 f.3 in
    let next = goes_on qs a p (length f.0) g read in
    let left : drop (length f.0) a ≡ f.1 = ap (drop (length f.0)) f.2 ∙ drop_at f.0 f.1 (length f.0) refl in
    ap (λ (rs : List Piece). p ∷ rs) (one_reading ps next.0 f.1 f.4 (subst (IsPattern next.0) left next.2)) ∙ sym next.1

-- a pattern gives at most one text with its arguments
pub one_text : (a : List ℕ) (args : List Arg) (t u : List ℕ) → IsFormatted a args t → IsFormatted a args u → t ≡ u
one_text a args t u f g =
    let same : f.pieces ≡ g.pieces = one_reading f.pieces g.pieces a f.are_pieces g.are_pieces in
    f.text ∙ ap (λ (ps : List Piece). text_of ps args) same ∙ sym g.text
