use Rattle.std.proofs.Common.{◌≡◌, ℕ, ◌+◌, ◌-◌, ◌<◌, ◌≤◌, List, length, take, get_or, true, false, ap, arith}
use Rattle.std.proofs.lemmas.List.Sums.{suffix_len_is}
use Rattle.std.proofs.lemmas.Bool.Decides.{nat_tests}
use Rattle.std.specs.List.{suffix_len}
use Rattle.gd_text.proofs.Refusals.{get_or_same}
use Rattle.gd_text.specs.Text.{is_blank, without_end}
use Rattle.gd_text.proofs.cut.without_end.Goals as goal

stops : (xs : List ℕ) (n : ℕ) → n ≤ length xs → ((k : ℕ) → n ≤ k → k < length xs → is_blank (get_or xs k 0) ≡ true) → (0 < n → is_blank (get_or xs (n - 1) 0) ≡ false) → take n xs ≡ without_end xs
stops xs n le after at =
    let e : suffix_len is_blank xs ≡ length xs - n = suffix_len_is is_blank xs n 0 le after at in
    let m : n ≡ length xs - suffix_len is_blank xs = omega arith in
    ap (λ k. take k xs) m

no_blank : (c : ℕ) → 32 < c → is_blank c ≡ false
no_blank c lt = grind (arith, nat_tests)

at_end : (xs : List ℕ) (n x : ℕ) → x ≡ get_or xs (n - 1) x → 0 < n → n ≤ length xs → 32 < x → 32 < get_or xs (n - 1 + 1 - 1) 0
at_end xs n x is some le above =
    let e : get_or xs (n - 1) 0 ≡ get_or xs (n - 1) x = get_or_same xs (n - 1) 0 x (omega arith) in
    let f : n - 1 + 1 - 1 ≡ n - 1 = omega arith in
    rw f (omega arith)

pub returns-then-chars-end-gt32 : goal.returns-then-chars-end-gt32
returns-then-chars-end-gt32 c =
    stops c.args.chars.now (c.loop-end.end - 1 + 1) (omega arith) (λ k low high. c.loop-end.invariant k (omega arith) high) (λ _. no_blank _ (at_end c.args.chars.now c.loop-end.end c.index-chars-end.result c.index-chars-end.is c.loop-end-test.true c.loop-end.auto.end c.if-chars-end-gt32.true))

pub returns : goal.returns
returns c = stops c.args.chars.now 0 (omega arith) (λ k low high. c.loop-end.invariant k (omega arith) high) (λ h. absurd (omega arith))
