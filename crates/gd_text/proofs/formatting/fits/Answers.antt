use Rattle.std.proofs.Common.{◌≡◌, ℕ, ◌-◌, ◌≤◌, List, length, take, drop, sym, ap, ◌∙◌, length-drop, arith}
use Rattle.std.proofs.lemmas.List.{take_rest}
use Rattle.gd_text.specs.Format.{fits}
use Rattle.gd_text.proofs.Formatted.{fits_behind}
use Rattle.gd_text.proofs.formatting.fits.Goals as goal

shorter : (n : ℕ) (xs : List ℕ) → length xs ≤ 16777216 → length (take (length xs - n) (drop n xs)) ≤ 16777216
shorter n xs le = let l = ap length (take_rest xs n) in omega (arith, length-drop n xs)

pub loop-rest-preserved : goal.loop-rest-preserved
loop-rest-preserved c =
    let rest = c.loop-rest.rest.now in
    let more = c.in-Some-left_by.more.now in
    record {
      short = shorter c.in-Some.read rest c.loop-rest.invariant.short;
      same =
          c.loop-rest.invariant.same ∙ fits_behind rest c.loop-rest.left.now more c.in-Some.piece c.in-Some.read (sym c.in-Some.ensures.value) c.in-Some-left_by.ensures.some
          ∙ ap (λ (xs : List ℕ). fits xs more) (sym (take_rest rest c.in-Some.read));
    }
