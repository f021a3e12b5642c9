use Rattle.std.proofs.Common.{◌≡◌, ℕ, ◌<◌, ◌≤◌, List, length, take, get_or, true, false, not, ◌==◌, sym, ap, ◌∙◌, arith}
use Rattle.std.proofs.lemmas.List.{take_all}
use Rattle.std.proofs.lemmas.List.Sums.{prefix_len_is}
use Rattle.std.proofs.lemmas.Bool.Decides.{nat_tests}
use Rattle.gd_text.proofs.Refusals.{get_or_same}
use Rattle.gd_text.specs.Number.{before_point}
use Rattle.gd_text.proofs.number.before_point.Goals as goal

stops : (xs : List ℕ) (n : ℕ) → n ≤ length xs → ((k : ℕ) → k < n → not (get_or xs k 0 == 46) ≡ true) → (n < length xs → not (get_or xs n 0 == 46) ≡ false) → take n xs ≡ before_point xs
stops xs n le before at = ap (λ m. take m xs) (sym (prefix_len_is (λ c. not (c == 46)) xs n 0 le before at))

a_point : (c : ℕ) → c ≡ 46 → not (c == 46) ≡ false
a_point c e = grind (arith, nat_tests)

at_place : (xs : List ℕ) (n x : ℕ) → x ≡ get_or xs n x → n < length xs → x ≡ 46 → get_or xs n 0 ≡ 46
at_place xs n x is lt point = let e : get_or xs n 0 ≡ get_or xs n x = get_or_same xs n 0 x lt in omega arith

pub returns-then-c-eq46 : goal.returns-then-c-eq46
returns-then-c-eq46 c = stops c.args.chars.now c.loop-i.i (omega arith) c.loop-i.invariant (λ _. a_point _ (at_place c.args.chars.now c.loop-i.i c.index-chars-i.result c.index-chars-i.is c.loop-i-test.true c.if-c-eq46.true))

pub returns : goal.returns
returns c =
    let all = stops c.args.chars.now (length c.args.chars.now) (omega arith) (λ k lt. c.loop-i.invariant k (omega arith)) (λ h. absurd (omega arith)) in
    sym (take_all (length c.args.chars.now) c.args.chars.now (omega arith)) ∙ all
