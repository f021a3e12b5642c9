use Rattle.std.proofs.Common.{◌≡◌, ℕ, ◌<◌, ◌≤◌, List, length, drop, get_or, true, false, sym, ap, ◌∙◌, arith}
use Rattle.std.proofs.lemmas.List.{take_rest, drop_all}
use Rattle.std.proofs.lemmas.List.Sums.{prefix_len_is}
use Rattle.std.proofs.lemmas.Bool.Decides.{nat_tests}
use Rattle.gd_text.proofs.Refusals.{get_or_same}
use Rattle.gd_text.specs.Text.{is_blank, without_start}
use Rattle.gd_text.proofs.cut.without_start.Goals as goal

stops : (xs : List ℕ) (n : ℕ) → n ≤ length xs → ((k : ℕ) → k < n → is_blank (get_or xs k 0) ≡ true) → (n < length xs → is_blank (get_or xs n 0) ≡ false) → drop n xs ≡ without_start xs
stops xs n le before at = ap (λ m. drop m xs) (sym (prefix_len_is is_blank xs n 0 le before at))

no_blank : (c : ℕ) → 32 < c → is_blank c ≡ false
no_blank c lt = grind (arith, nat_tests)

at_place : (xs : List ℕ) (n x : ℕ) → x ≡ get_or xs n x → n < length xs → 32 < x → 32 < get_or xs n 0
at_place xs n x is lt above = let e : get_or xs n 0 ≡ get_or xs n x = get_or_same xs n 0 x lt in omega arith

pub returns-then-c-gt32 : goal.returns-then-c-gt32
returns-then-c-gt32 c =
    take_rest c.args.chars.now c.loop-first.first ∙ stops c.args.chars.now c.loop-first.first (omega arith) c.loop-first.invariant (λ _. no_blank _ (at_place c.args.chars.now c.loop-first.first c.index-chars-first.result c.index-chars-first.is c.loop-first-test.true c.if-c-gt32.true))

pub returns : goal.returns
returns c =
    let all = stops c.args.chars.now (length c.args.chars.now) (omega arith) (λ k lt. c.loop-first.invariant k (omega arith)) (λ h. absurd (omega arith)) in
    sym (drop_all (length c.args.chars.now) c.args.chars.now (omega arith)) ∙ all
