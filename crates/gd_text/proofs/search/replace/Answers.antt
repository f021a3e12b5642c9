use Rattle.std.proofs.Common.{◌≡◌, ℕ, ◌+◌, ◌<◌, drop, slice_range, Bool, false, cond, List, [], length, ◌++◌, ◌==◌, sym, ap, ◌∙◌, subst, append-nil, arith}
use Rattle.std.proofs.lemmas.Bool.Decides.{nat_tests}
use Rattle.gd_text.specs.Search.{joined, parts, replaced}
use Rattle.gd_text.proofs.Places.{replaced_step, replaced_end}
use Rattle.gd_text.proofs.Refusals.{refused-Gives, passed_on, Gives-same, after_piece}
use Rattle.gd_text.proofs.search.replace.Goals as goal

-- `replaced`, of a text that stands somewhere
replaced-joined : (xs us ws a what with : List ℕ) → xs ≡ a → us ≡ what → ws ≡ with → false ≡ (length us == 0) → replaced a what with ≡ joined ws (parts us xs)
replaced-joined xs us ws a what with e f g h =
    let k : replaced xs us ws ≡ joined ws (parts us xs) = ap (λ (b : Bool). cond b xs (joined ws (parts us xs))) (sym h) in
    subst (λ ys. replaced ys what with ≡ joined ws (parts us xs)) e (subst (λ ys. replaced xs ys with ≡ joined ws (parts us xs)) f (subst (λ ys. replaced xs us ys ≡ joined ws (parts us xs)) g k))

some : (n : ℕ) → false ≡ (n == 0) → 0 < n
some n h = grind (arith, nat_tests)

pub returns-in_err-append : goal.returns-in_err-append
returns-in_err-append c =
    let whole = replaced-joined _ _ _ _ _ _ c.chars-chars.ensures.value c.chars-what.ensures.value c.chars-with.ensures.value c.if-is_empty.ensures ∙ c.loop-at.invariant.rest in
    let next = sym c.find_from.ensures.first ∙ c.in-Some.is in
    refused-Gives _ _ _ _ _ _ (passed_on _ _ c.from_residual-in_err-append.ensures.1) c.in_err-append.ensures.too_long
    (replaced_step c.chars-what.result.now c.chars-with.result.now c.chars-chars.result.now c.loop-at.out _ c.loop-at.start c.in-Some.at (some _ c.if-is_empty.ensures) next whole)

pub returns-in_err-append-2 : goal.returns-in_err-append-2
returns-in_err-append-2 c =
    let whole = replaced-joined _ _ _ _ _ _ c.chars-chars.ensures.value c.chars-what.ensures.value c.chars-with.ensures.value c.if-is_empty.ensures ∙ c.loop-at.invariant.rest in
    let next = sym c.find_from.ensures.first ∙ c.in-Some.is in
    refused-Gives _ _ _ _ _ _ (passed_on _ _ c.from_residual-in_err-append-2.ensures.1) c.in_err-append-2.ensures.too_long
    (after_piece _ _ _ _ _ c.in_ok-append.ensures.ok (replaced_step c.chars-what.result.now c.chars-with.result.now c.chars-chars.result.now c.loop-at.out _ c.loop-at.start c.in-Some.at (some _ c.if-is_empty.ensures) next whole))

pub loop-at-preserved : goal.loop-at-preserved
loop-at-preserved c =
    let next = sym c.find_from.ensures.first ∙ c.in-Some.is in
    let step = replaced_step c.chars-what.result.now c.chars-with.result.now c.chars-chars.result.now c.loop-at.out _ c.loop-at.start c.in-Some.at (some _ c.if-is_empty.ensures) next c.loop-at.invariant.rest in
    let with = c.chars-with.result.now in
    let rest = joined with (parts c.chars-what.result.now (drop (c.in-Some.at + length c.chars-what.result.now) c.chars-chars.result.now)) in
    record {
      within = c.in-Some.ensures.within.1;
      rest =
          after_piece _ c.append.new.out with rest c.append-in-Some.new.out c.in_ok-append-2.ensures.ok
          (after_piece _ c.loop-at.out (slice_range c.chars-chars.result.now c.loop-at.start c.in-Some.at) (with ++ rest) c.append.new.out c.in_ok-append.ensures.ok step);
    }

pub returns-in_err-append-3 : goal.returns-in_err-append-3
returns-in_err-append-3 c =
    let whole = replaced-joined _ _ _ _ _ _ c.chars-chars.ensures.value c.chars-what.ensures.value c.chars-with.ensures.value c.if-is_empty.ensures ∙ c.loop-at.invariant.rest in
    let next = sym c.find_from.ensures.first ∙ c.in_default.is in
    let last = replaced_end c.chars-what.result.now c.chars-with.result.now c.chars-chars.result.now c.loop-at.out _ c.loop-at.start next whole in
    refused-Gives _ _ _ _ [] _ (passed_on _ _ c.from_residual-in_err-append-3.ensures.1) c.in_err-append-3.ensures.too_long (last ∙ ap (λ xs. c.loop-at.out ++ xs) (sym (append-nil _)))

pub returns : goal.returns
returns c =
    let whole = replaced-joined _ _ _ _ _ _ c.chars-chars.ensures.value c.chars-what.ensures.value c.chars-with.ensures.value c.if-is_empty.ensures ∙ c.loop-at.invariant.rest in
    let next = sym c.find_from.ensures.first ∙ c.in_default.is in
    let last = replaced_end c.chars-what.result.now c.chars-with.result.now c.chars-chars.result.now c.loop-at.out _ c.loop-at.start next whole in
    Gives-same _ _ _ (last ∙ sym c.in_ok-append-3.ensures.ok) c.made.ensures
