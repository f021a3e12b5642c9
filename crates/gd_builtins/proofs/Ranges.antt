-- How a range goes on int by int, and that its ints fit.
use Rattle.std.proofs.Common.{◌≡◌, ℕ, zero, suc, ◌+◌, ◌*◌, ◌<◌, ◌≤◌, Bool, true, false, [], ◌∷◌, ◌++◌, length, refl, ap, sym, ◌∙◌, subst, add-one, ◌&&◌, ◌||◌, ◌⊎◌, inl, inr, Result, Ok, Err, nat_le, if◌then◌else◌, ℤ, pos, negsuc, ◌+ℤ◌, ◌-ℤ◌, ◌<ℤ◌, ◌≤ℤ◌, int_lt, unsigned_abs, of_z, w64, SFits, arith}
use Rattle.std.specs.Cmp.{signed_Decides}
use Rattle.std.specs.Int.{div_ceil}
use Rattle.std.specs.Ordering.{int_eq}
use Rattle.std.proofs.Math.Nat.{mul-le-mul_right, suc-mul}
use Rattle.std.proofs.lemmas.Bool.{le-leb}
use Rattle.std.proofs.lemmas.Grind.{div_ceil_times}
use Rattle.std.proofs.lemmas.Int.{by_lt_z, ints}
use Rattle.std.proofs.lemmas.List.{map-append}
use Rattle.gd_model.specs.declared.fault.RunFault.{RunFault}
use Rattle.gd_model.specs.declared.fault.RunFault.TheVariants.{TooLong, ZeroDivisorOrStep}
use Rattle.gd_model.specs.declared.value.Value.TheVariants as v
use Rattle.gd_containers.specs.declared.fault.ThingFault.{ThingFault}
use Rattle.gd_answers.specs.declared.fresh.Fresh.{Fresh}
use Rattle.gd_answers.specs.Answers.{Gives}
use Rattle.gd_model.specs.Datum as d
use Rattle.gd_model.specs.Meant.{datum, array_thing}
use Rattle.gd_model.specs.Store.{ArrayThing}
use Rattle.gd_model.specs.View.{ArrayView}
use Rattle.value_semantics.specs.Made.{Made, array}
use Rattle.value_semantics.specs.Ranges.{comes_before, ints_from, range_array, range_gives, range_size}

-- the int behind the first k ints from n on by `step`
abbrev pub int_after : ℤ → ℤ → ℕ → ℤ
int_after n step zero = n
int_after n step (suc k) = int_after (n +ℤ step) step k

after_suc : (n step : ℤ) (k : ℕ) → int_after n step k +ℤ step ≡ int_after n step (suc k)
after_suc n step zero = refl
after_suc n step (suc k) = after_suc (n +ℤ step) step k

pub after_more : (n step : ℤ) (k : ℕ) → int_after n step k +ℤ step ≡ int_after n step (k + 1)
after_more n step k = after_suc n step k ∙ ap (λ m. int_after n step m) (sym (add-one k))

ints_suc : (n step : ℤ) (k : ℕ) → ints_from n step k ++ d.int (int_after n step k) ∷ [] ≡ ints_from n step (suc k)
ints_suc n step zero = refl
ints_suc n step (suc k) = ap (λ xs. d.int n ∷ xs) (ints_suc (n +ℤ step) step k)

pub ints_length : (n step : ℤ) (k : ℕ) → length (ints_from n step k) ≡ k
ints_length n step zero = refl
ints_length n step (suc k) = ap suc (ints_length (n +ℤ step) step k)

-- one more int is put
pub range_more : (n step : ℤ) (k : ℕ) (next : ℤ) (a b : ArrayView) → array_thing a ≡ range_array n step k → next ≡ int_after n step k → b ≡ record a { items = a.items ++ v.Int next ∷ [] } → array_thing b ≡ range_array n step (k + 1)
range_more n step k next a b ea en eb =
    ap array_thing eb
    ∙ ap (λ xs. record (array_thing a) { items = xs }) (map-append datum a.items (v.Int next ∷ []))
    ∙ (λ j. record (ea j) { items = (ea j).items ++ d.int (en j) ∷ [] })
    ∙ ap (λ xs. record (range_array n step k) { items = xs }) (ints_suc n step k)
    ∙ ap (λ m. range_array n step m) (sym (add-one k))

after_up : (n : ℤ) (s k : ℕ) → int_after n (pos s) k ≡ n +ℤ pos (k * s)
after_up n s zero = omega (arith, ints)
after_up n s (suc k) = after_up (n +ℤ pos s) s k ∙ omega (arith, ints, suc-mul k s)

after_down : (n : ℤ) (s k : ℕ) → int_after n (negsuc s) k ≡ n -ℤ pos (k * suc s)
after_down n s zero = omega (arith, ints)
after_down n s (suc k) = after_down (n +ℤ negsuc s) s k ∙ omega (arith, ints, suc-mul k (suc s))

-- fewer steps than a length has, each begun one counting whole, are shorter than it
within : (a b k : ℕ) → 0 < b → k < div_ceil a b → k * b < a
within a b k h lt =
    let over : div_ceil a b * b < a + b = (div_ceil_times a b h).1 in
    let below : suc k * b ≤ div_ceil a b * b = mul-le-mul_right b (omega arith) in
    omega (arith, suc-mul k b)

one_of : (p q r s : Bool) → (p && q) || (r && s) ≡ true → ((p ≡ true) × (q ≡ true)) ⊎ ((r ≡ true) × (s ≡ true))
one_of true true r s e = inl (refl, refl)
one_of true false true true e = inr (refl, refl)
one_of true false true false e = cc
one_of true false false s e = cc
one_of false q true true e = inr (refl, refl)
one_of false q true false e = cc
one_of false q false s e = cc

less : (a b : ℤ) → int_lt a b ≡ true → a <ℤ b
less a b h = by_lt_z a b (λ lt. lt) (λ ge. absurd (grind (arith, ints)))

-- what lies between two numbers that fit does too
between : (m n e : ℤ) → SFits w64 n → SFits w64 e → n ≤ℤ m → m ≤ℤ e → SFits w64 m
between (pos a) n (pos b) fn fe h g = record { sfits = omega (arith, ints) }
between (pos a) n (negsuc b) fn fe h g = absurd (omega (arith, ints))
between (negsuc a) (negsuc b) e fn fe h g = record { sfits = omega (arith, ints) }
between (negsuc a) (pos b) e fn fe h g = absurd (omega (arith, ints))

up_length : (d : ℤ) → pos 0 <ℤ d → pos (unsigned_abs d) ≡ d
up_length (pos n) h = refl
up_length (negsuc n) h = absurd (omega (arith, ints))

down_length : (d : ℤ) → d <ℤ pos 0 → d +ℤ pos (unsigned_abs d) ≡ pos 0
down_length (pos n) h = absurd (omega (arith, ints))
down_length (negsuc n) h = omega (arith, ints)

up_fits : (f e : ℤ) (s k : ℕ) → SFits w64 f → SFits w64 e → pos 0 <ℤ pos s → f <ℤ e → k < div_ceil (unsigned_abs (e -ℤ f)) s → SFits w64 (int_after f (pos s) k)
up_fits f e s k ff fe hs lt more =
    let long : pos (unsigned_abs (e -ℤ f)) ≡ e -ℤ f = up_length (e -ℤ f) (omega (arith, ints)) in
    let gone : k * s < unsigned_abs (e -ℤ f) = within (unsigned_abs (e -ℤ f)) s k (omega (arith, ints)) more in
    subst (λ (z : ℤ). SFits w64 z) (sym (after_up f s k)) (between (f +ℤ pos (k * s)) f e ff fe (omega (arith, ints)) (omega (arith, ints)))

down_fits : (f e : ℤ) (s k : ℕ) → SFits w64 f → SFits w64 e → e <ℤ f → k < div_ceil (unsigned_abs (e -ℤ f)) (suc s) → SFits w64 (int_after f (negsuc s) k)
down_fits f e s k ff fe lt more =
    let long : (e -ℤ f) +ℤ pos (unsigned_abs (e -ℤ f)) ≡ pos 0 = down_length (e -ℤ f) (omega (arith, ints)) in
    let gone : k * suc s < unsigned_abs (e -ℤ f) = within (unsigned_abs (e -ℤ f)) (suc s) k (omega arith) more in
    subst (λ (z : ℤ). SFits w64 z) (sym (after_down f s k)) (between (f -ℤ pos (k * suc s)) e f fe ff (omega (arith, ints)) (omega (arith, ints)))

there : (b : Bool) (m k : ℕ) → k < (if b then m else 0) → (b ≡ true) × (k < m)
there true m k h = (refl, h)
there false m k h = absurd (omega arith)

-- each int of a range fits
pub ints_fit : (first end step : ℤ) (k : ℕ) → SFits w64 first → SFits w64 end → k < range_size first end step → SFits w64 (int_after first step k)
ints_fit f e (pos s) k ff fe h =
    let t = there (comes_before (pos s) e f) (div_ceil (unsigned_abs (e -ℤ f)) s) k h in
    elim (one_of (int_lt (pos 0) (pos s)) (int_lt f e) (int_lt (pos s) (pos 0)) (int_lt e f) t.0) [
      | inl p ↦ up_fits f e s k ff fe (less (pos 0) (pos s) p.0) (less f e p.1) t.1
      | inr p ↦ absurd (let no : pos s <ℤ pos 0 = less (pos s) (pos 0) p.0 in omega (arith, ints))
    ]
ints_fit f e (negsuc s) k ff fe h =
    let t = there (comes_before (negsuc s) e f) (div_ceil (unsigned_abs (e -ℤ f)) (suc s)) k h in
    elim (one_of (int_lt (pos 0) (negsuc s)) (int_lt f e) (int_lt (negsuc s) (pos 0)) (int_lt e f) t.0) [
      | inl p ↦ absurd (let no : pos 0 <ℤ negsuc s = less (pos 0) (negsuc s) p.0 in omega (arith, ints))
      | inr p ↦ down_fits f e s k ff fe (less e f p.1) t.1
    ]

no_answer : (b : Bool) → (b ≡ true → ⊥) → b ≡ false
no_answer true f = absurd (f refl)
no_answer false f = refl

pub step_there : (step : ℤ) → (of_z w64 step ≡ 0 → ⊥) → int_eq step (pos 0) ≡ false
step_there step f = no_answer (int_eq step (pos 0)) (λ e. f (ap (λ (z : ℤ). of_z w64 z) ((signed_Decides step (pos 0)).0 e)))

-- a range that is made up to its size, n, of equal numbers
pub range_made : (f e s f' e' s' : ℤ) (n k : ℕ) (a : ArrayThing) → f' ≡ f → e' ≡ e → s' ≡ s → int_eq s (pos 0) ≡ false → n ≡ range_size f' e' s' → n ≤ 16777216 → k ≡ n → a ≡ range_array f' s' k → range_gives f e s ≡ Ok (array a)
range_made f e s f' e' s' n k a ef ee es there en small ek ea =
    let size : n ≡ range_size f e s = en ∙ (λ i. range_size (ef i) (ee i) (es i)) in
    let fits : range_size f e s ≤ 16777216 = subst (λ (m : ℕ). m ≤ 16777216) size small in
    let is : a ≡ range_array f s (range_size f e s) = ea ∙ (λ i. range_array (ef i) (es i) (ek i)) ∙ ap (λ m. range_array f s m) size in
    ap (λ b. let r : Result Made RunFault = if b then Err ZeroDivisorOrStep else (if nat_le (range_size f e s) 16777216 then Ok (array (range_array f s (range_size f e s))) else Err TooLong) in r) there
    ∙ ap (λ b. let r : Result Made RunFault = if b then Ok (array (range_array f s (range_size f e s))) else Err TooLong in r) (le-leb (range_size f e s) 16777216 fits)
    ∙ ap (λ x. Ok (array x)) (sym is)

-- what equal numbers give
pub same_range : (f e s f' e' s' : ℤ) (r : Result Fresh ThingFault) → f' ≡ f → e' ≡ e → s' ≡ s → Gives (range_gives f' e' s') r → Gives (range_gives f e s) r
same_range f e s f' e' s' r ef ee es h =
    subst (λ (x : ℤ). Gives (range_gives x e s) r) ef (subst (λ (y : ℤ). Gives (range_gives f' y s) r) ee (subst (λ (z : ℤ). Gives (range_gives f' e' z) r) es h))
