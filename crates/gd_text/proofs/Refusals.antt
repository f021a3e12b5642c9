-- Why a text or a list is too long.
use Rattle.std.proofs.Common.{◌≡◌, ℕ, zero, suc, get_or, ◌+◌, ◌<◌, ◌≤◌, Bool, true, false, cond, List, [], ◌∷◌, ◌++◌, length, filter, Some, Result, Ok, Err, IsErrAnd, ◌⊎◌, inl, inr, refl, sym, ap, ◌∙◌, subst, length-append, append_assoc, arith}
use Rattle.gd_syntax.specs.declared.text.TextFault.{TextFault}
use Rattle.gd_syntax.specs.declared.text.TextFault.TheVariants.{NotUtf8, TooLong, OutOfRange, NoMemory}
use Rattle.std.proofs.Common.{Vec, Global}
use Rattle.gd_text.specs.Text.{Gives, GivesList, Puts}
use Rattle.gd_text.specs.Search.{AddsPart, is_kept}

-- `append` was refused, with `rest` still to come
pub refused-Gives : (r : Result (List ℕ) TextFault) (e : TextFault) (out more rest whole : List ℕ) → r ≡ Err e → ((e ≡ TooLong) × (16777216 < length out + length more)) ⊎ (e ≡ NoMemory) → whole ≡ out ++ (more ++ rest) → Gives (Some whole) r
refused-Gives r e out more rest whole is (inl h) w =
    let long : 16777216 < length whole =
    let a = length-append out (more ++ rest) in
    let b = length-append more rest in
    let l : length whole ≡ length (out ++ (more ++ rest)) = ap length w in
    omega (arith, h.1) in
    subst (λ x. Gives (Some whole) x) (sym (is ∙ ap Err h.0)) long
refused-Gives r e out more rest whole is (inr h) w = subst (λ x. Gives (Some whole) x) (sym (is ∙ ap Err h)) tt

-- putting was refused, with `rest` still to come
pub refused_put : (r : Result (List ℕ) TextFault) (e : TextFault) (more old new rest whole : List ℕ) → r ≡ Err e → Puts more old new (Err e) → whole ≡ old ++ (more ++ rest) → Gives (Some whole) r
refused_put r TooLong more old new rest whole is long w =
    let h : 16777216 < length old + length more = long in
    let l : length whole ≡ length (old ++ (more ++ rest)) = ap length w in
    let far : 16777216 < length whole = omega (arith, length-append old (more ++ rest), length-append more rest) in
    subst (λ x. Gives (Some whole) x) (sym is) far
refused_put r NoMemory more old new rest whole is h w = subst (λ x. Gives (Some whole) x) (sym is) tt
refused_put r NotUtf8 more old new rest whole is h w = absurd h
refused_put r OutOfRange more old new rest whole is h w = absurd h

-- a piece went to the end, and `more` is still to come
pub after_piece : (whole out piece more new : List ℕ) → new ≡ out ++ piece → whole ≡ out ++ (piece ++ more) → whole ≡ new ++ more
after_piece whole out piece more new e w = w ∙ sym (append_assoc out piece more) ∙ ap (λ xs. xs ++ more) (sym e)

pub Gives-same : (xs ys : List ℕ) (r : Result (List ℕ) TextFault) → ys ≡ xs → Gives (Some xs) r → Gives (Some ys) r
Gives-same xs ys r e h = subst (λ zs. Gives (Some zs) r) (sym e) h

-- a refusal that `?` passed on
pub passed_on : (r : Result (List ℕ) TextFault) (e : TextFault) → IsErrAnd r (λ f. f ≡ e) → r ≡ Err e
passed_on (Ok x) e h = absurd h
passed_on (Err f) e h = ap Err h

-- an element that is there is read whatever stands in for one that is not
pub get_or_same : (xs : List ℕ) (n c d : ℕ) → n < length xs → get_or xs n c ≡ get_or xs n d
get_or_same [] n c d lt = absurd (omega arith)
get_or_same (x ∷ xs) zero c d lt = refl
get_or_same (x ∷ xs) (suc n) c d lt = get_or_same xs n c d (omega arith)

pub passed_on_list : (r : Result (Vec (List ℕ) Global) TextFault) (e : TextFault) → IsErrAnd r (λ f. f ≡ e) → r ≡ Err e
passed_on_list (Ok x) e h = absurd h
passed_on_list (Err f) e h = ap Err h

kept_one : (b : Bool) (part : List ℕ) (done more : List (List ℕ)) → b ≡ true → 16777216 ≤ length done → 16777216 < length ((done ++ cond b (part ∷ []) []) ++ more)
kept_one true part done more e long = omega (arith, length-append (done ++ (part ∷ [])) more, length-append done (part ∷ []))
kept_one false part done more e long = cc

-- a part was refused, with more still to come
pub refused-GivesList : (r : Result (Vec (List ℕ) Global) TextFault) (e : TextFault) (empty : Bool) (part : List ℕ) (done new more whole : List (List ℕ)) → r ≡ Err e → AddsPart done part empty new (Err e) → whole ≡ (done ++ filter (is_kept empty) (part ∷ [])) ++ more → GivesList whole r
refused-GivesList r TooLong empty part done new more whole is adds w =
    let long : 16777216 < length whole = subst (λ (ws : List (List ℕ)). 16777216 < length ws) (sym w) (kept_one (is_kept empty part) part done more adds.0 adds.1) in
    subst (GivesList whole) (sym is) long
refused-GivesList r NoMemory empty part done new more whole is adds w = subst (GivesList whole) (sym is) tt
refused-GivesList r NotUtf8 empty part done new more whole is adds w = absurd adds
refused-GivesList r OutOfRange empty part done new more whole is adds w = absurd adds
