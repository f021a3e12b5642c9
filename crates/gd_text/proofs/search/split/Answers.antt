use Rattle.std.proofs.Common.{◌≡◌, ℕ, ◌+◌, ◌<◌, Bool, false, cond, List, [], ◌++◌, length, filter, drop, slice_range, sym, ap, ◌∙◌, subst, append-nil, arith, ◌==◌}
use Rattle.std.proofs.lemmas.Bool.Decides.{nat_tests}
use Rattle.gd_text.specs.Search.{parts, split, is_kept, single_characters}
use Rattle.gd_text.proofs.Places.{split_step, split_end}
use Rattle.gd_text.proofs.Refusals.{refused-GivesList, passed_on_list}
use Rattle.gd_text.proofs.search.split.Goals as goal

split-parts : (xs us a by : List ℕ) (empty : Bool) → xs ≡ a → us ≡ by → false ≡ (length us == 0) → split a by empty ≡ filter (is_kept empty) (parts us xs)
split-parts xs us a by empty e f h =
    let k : split xs us empty ≡ filter (is_kept empty) (parts us xs) = ap (λ (b : Bool). cond b (single_characters xs) (filter (is_kept empty) (parts us xs))) (sym h) in
    subst (λ (ys : List ℕ). split ys by empty ≡ filter (is_kept empty) (parts us xs)) e (subst (λ (ys : List ℕ). split xs ys empty ≡ filter (is_kept empty) (parts us xs)) f k)

some : (n : ℕ) → false ≡ (n == 0) → 0 < n
some n h = grind (arith, nat_tests)

pub loop-at-preserved : goal.loop-at-preserved
loop-at-preserved c =
    let next = sym c.find_from.ensures.first ∙ c.in-Some.is in
    let step = split_step c.chars-by.result.now c.chars-chars.result.now c.args.empty c.loop-at.parts.items _ c.loop-at.start c.in-Some.at (some _ c.if-is_empty.ensures) next c.loop-at.invariant.rest in
    let more = filter (is_kept c.args.empty) (parts c.chars-by.result.now (drop (c.in-Some.at + length c.chars-by.result.now) c.chars-chars.result.now)) in
    record {
      within = c.in-Some.ensures.within.1;
      few = c.in_ok-add_part.ensures.1;
      rest = step ∙ ap (λ (ps : List (List ℕ)). ps ++ more) (sym c.in_ok-add_part.ensures.0);
    }

pub returns-in_err-add_part : goal.returns-in_err-add_part
returns-in_err-add_part c =
    let whole = split-parts _ _ _ _ c.args.empty c.chars-chars.ensures.value c.chars-by.ensures.value c.if-is_empty.ensures ∙ c.loop-at.invariant.rest in
    let next = sym c.find_from.ensures.first ∙ c.in-Some.is in
    refused-GivesList _ _ c.args.empty (slice_range c.chars-chars.result.now c.loop-at.start c.in-Some.at) c.loop-at.parts.items c.add_part.new.parts.items _ _ (passed_on_list _ _ c.from_residual.ensures.1) c.in_err-add_part.ensures
    (split_step c.chars-by.result.now c.chars-chars.result.now c.args.empty c.loop-at.parts.items _ c.loop-at.start c.in-Some.at (some _ c.if-is_empty.ensures) next whole)

pub returns-in_err-add_part-2 : goal.returns-in_err-add_part-2
returns-in_err-add_part-2 c =
    let whole = split-parts _ _ _ _ c.args.empty c.chars-chars.ensures.value c.chars-by.ensures.value c.if-is_empty.ensures ∙ c.loop-at.invariant.rest in
    let next = sym c.find_from.ensures.first ∙ c.in_default.is in
    refused-GivesList _ _ c.args.empty (slice_range c.chars-chars.result.now c.loop-at.start (length c.chars-chars.result.now)) c.loop-at.parts.items c.add_part-2.new.parts.items [] _ (passed_on_list _ _ c.from_residual-in_err-add_part-2.ensures.1) c.in_err-add_part-2.ensures
    (split_end c.chars-by.result.now c.chars-chars.result.now c.args.empty c.loop-at.parts.items _ c.loop-at.start next whole ∙ sym (append-nil _))

pub returns : goal.returns
returns c =
    let whole = split-parts _ _ _ _ c.args.empty c.chars-chars.ensures.value c.chars-by.ensures.value c.if-is_empty.ensures ∙ c.loop-at.invariant.rest in
    let next = sym c.find_from.ensures.first ∙ c.in_default.is in
    (c.in_ok-add_part-2.ensures.0 ∙ sym (split_end c.chars-by.result.now c.chars-chars.result.now c.args.empty c.loop-at.parts.items _ c.loop-at.start next whole), c.in_ok-add_part-2.ensures.1)
