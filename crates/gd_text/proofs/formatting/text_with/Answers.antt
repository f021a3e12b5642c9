use Rattle.std.proofs.Common.{◌≡◌, ℕ, ◌-◌, ◌≤◌, ◌++◌, List, length, take, drop, sym, ap, ◌∙◌, length-drop, arith}
use Rattle.std.proofs.lemmas.List.{take_rest}
use Rattle.gd_text.specs.Format.{fits, piece_text, text_with}
use Rattle.gd_text.proofs.Formatted.{fits_behind, text_behind}
use Rattle.gd_text.proofs.Refusals.{refused_put, passed_on, after_piece}
use Rattle.gd_text.proofs.formatting.text_with.Goals as goal

shorter : (n : ℕ) (xs : List ℕ) → length xs ≤ 16777216 → length (take (length xs - n) (drop n xs)) ≤ 16777216
shorter n xs le = let l = ap length (take_rest xs n) in omega (arith, length-drop n xs)

pub returns-in_err-put_piece : goal.returns-in_err-put_piece
returns-in_err-put_piece c =
    let rest = c.loop-rest.rest.now in
    let left = c.loop-rest.left.now in
    let more = c.in-Some-left_by.more.now in
    let next = text_behind rest left more c.in-Some.piece c.in-Some.read (sym c.in-Some.ensures.value) c.in-Some-left_by.ensures.some c.loop-rest.invariant.fit in
    refused_put _ _ (piece_text c.in-Some.piece left) c.loop-rest.out c.put_piece.new.out (text_with (drop c.in-Some.read rest) more) _ (passed_on _ _ c.from_residual.ensures.1) c.in_err-put_piece.ensures (c.loop-rest.invariant.done ∙ ap (λ (xs : List ℕ). c.loop-rest.out ++ xs) next)

pub loop-rest-preserved : goal.loop-rest-preserved
loop-rest-preserved c =
    let rest = c.loop-rest.rest.now in
    let left = c.loop-rest.left.now in
    let more = c.in-Some-left_by.more.now in
    let read = sym c.in-Some.ensures.value in
    let taken = c.in-Some-left_by.ensures.some in
    let next = text_behind rest left more c.in-Some.piece c.in-Some.read read taken c.loop-rest.invariant.fit in
    let behind = take_rest rest c.in-Some.read in
    record {
      short = shorter c.in-Some.read rest c.loop-rest.invariant.short;
      fit = ap (λ (xs : List ℕ). fits xs more) behind ∙ sym (fits_behind rest left more c.in-Some.piece c.in-Some.read read taken) ∙ c.loop-rest.invariant.fit;
      done =
          after_piece _ c.loop-rest.out _ _ c.put_piece.new.out c.in_ok-put_piece.ensures.0 (c.loop-rest.invariant.done ∙ ap (λ (xs : List ℕ). c.loop-rest.out ++ xs) next)
          ∙ ap (λ (xs : List ℕ). c.put_piece.new.out ++ text_with xs more) (sym behind);
    }
