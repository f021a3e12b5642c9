use Rattle.std.proofs.Common.{◌≡◌, ℕ, zero, suc, ◌+◌, ◌-◌, ◌*◌, ◌<◌, ◌≤◌, true, false, List, [], ◌++◌, length, refl, sym, ap, ◌∙◌, length-append, append_assoc, append-nil, arith, ◌==◌}
use Rattle.std.specs.List.{repeat}
use Rattle.std.proofs.lemmas.Bool.Decides.{nat_tests}
use Rattle.std.proofs.lemmas.List.{nil_from_length}
use Rattle.std.proofs.Math.Nat.{mul-suc}
use Rattle.gd_text.proofs.Refusals.{refused-Gives, passed_on, Gives-same}
use Rattle.gd_text.proofs.join.copies.Goals as goal

repeat-nil : (n : ℕ) → ◌≡◌ {A = List ℕ} (repeat n []) []
repeat-nil zero = refl
repeat-nil (suc n) = repeat-nil n

-- one copy more at the end
repeat_more : (n : ℕ) (xs : List ℕ) → repeat n xs ++ xs ≡ repeat (suc n) xs
repeat_more zero xs = sym (append-nil xs)
repeat_more (suc n) xs = append_assoc xs (repeat n xs) xs ∙ ap (λ ys. xs ++ ys) (repeat_more n xs)

repeat-add : (j k : ℕ) (xs : List ℕ) → repeat (j + k) xs ≡ repeat j xs ++ repeat k xs
repeat-add zero k xs = ap (λ n. repeat n xs) (omega arith)
repeat-add (suc j) k xs =
    let e : suc j + k ≡ suc (j + k) = omega arith in
    ap (λ n. repeat n xs) e ∙ ap (λ ys. xs ++ ys) (repeat-add j k xs) ∙ sym (append_assoc xs (repeat j xs) (repeat k xs))

-- what is left after some turns
repeat_left : (j n : ℕ) (xs : List ℕ) → j < n → repeat n xs ≡ repeat j xs ++ (xs ++ repeat (n - suc j) xs)
repeat_left j n xs lt =
    let e : n ≡ j + suc (n - suc j) = omega arith in
    ap (λ m. repeat m xs) e ∙ repeat-add j (suc (n - suc j)) xs

long_enough : (n : ℕ) (xs : List ℕ) → 0 < length xs → n ≤ length (repeat n xs)
long_enough zero xs some = omega arith
long_enough (suc n) xs some =
    let l : n ≤ length (repeat n xs) = long_enough n xs some in
    omega (arith, length-append xs (repeat n xs))

repeat_length : (n : ℕ) (xs : List ℕ) → length (repeat n xs) ≡ length xs * n
repeat_length zero xs = omega arith
repeat_length (suc n) xs =
    let l = repeat_length n xs in
    omega (arith, length-append xs (repeat n xs), mul-suc (length xs) n)

some : (n : ℕ) → false ≡ (n == 0) → 0 < n
some n h = grind (arith, nat_tests)

none : (n : ℕ) → true ≡ (n == 0) → n ≡ 0
none n h = grind (arith, nat_tests)

pub returns-then-is_empty : goal.returns-then-is_empty
returns-then-is_empty c =
    let e : c.args.chars.now ≡ [] = nil_from_length c.args.chars.now (none _ c.if-is_empty.ensures) in
    Gives-same _ _ _ (ap (repeat c.args.turns) e ∙ repeat-nil c.args.turns ∙ sym e) c.copied.ensures

pub returns-then-turns : goal.returns-then-turns
returns-then-turns c = omega (arith, long_enough c.args.turns c.args.chars.now (some _ c.if-is_empty.ensures))

pub returns-in_err-append : goal.returns-in_err-append
returns-in_err-append c =
    refused-Gives _ _ _ _ _ _ (passed_on _ _ c.from_residual-in_err-append.ensures.1) c.in_err-append.ensures.too_long
    (repeat_left c.loop-turn.turn c.args.turns c.args.chars.now c.loop-turn-test.true ∙ ap (λ xs. xs ++ (c.args.chars.now ++ repeat (c.args.turns - suc c.loop-turn.turn) c.args.chars.now)) (sym c.loop-turn.invariant.done))

pub loop-turn-preserved : goal.loop-turn-preserved
loop-turn-preserved c =
    let e : suc c.loop-turn.turn ≡ c.loop-turn.turn + 1 = omega arith in
    record {
      done = c.in_ok-append.ensures.ok ∙ ap (λ xs. xs ++ c.args.chars.now) c.loop-turn.invariant.done ∙ repeat_more c.loop-turn.turn c.args.chars.now ∙ ap (λ n. repeat n c.args.chars.now) e;
    }

pub returns-then-total-gt-MAX_TEXT : goal.returns-then-total-gt-MAX_TEXT
returns-then-total-gt-MAX_TEXT c = omega (arith, repeat_length c.args.turns c.args.chars.now)
