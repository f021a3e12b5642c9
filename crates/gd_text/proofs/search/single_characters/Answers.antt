use Rattle.std.proofs.Common.{◌≡◌, ℕ, ◌+◌, ◌-◌, ◌≤◌, ◌<◌, List, [], ◌∷◌, ◌++◌, length, take, drop, get_or, sym, ap, ◌∙◌, length-append, arith}
use Rattle.std.proofs.lemmas.List.{take_more, drop_more, map-append}
use Rattle.gd_text.specs.Search.{single_characters}
use Rattle.gd_text.proofs.search.single_characters.Goals as goal

one_more : (xs : List ℕ) (i : ℕ) (ps qs : List (List ℕ)) → i < length xs → ps ≡ single_characters (take i xs) → qs ≡ ps ++ (take (i + 1 - i) (drop i xs) ∷ []) → qs ≡ single_characters (take (i + 1) xs)
one_more xs i ps qs lt e f =
    let one : i + 1 - i ≡ 1 = omega arith in
    let part : take (i + 1 - i) (drop i xs) ≡ get_or xs i 0 ∷ [] = ap (λ n. take n (drop i xs)) one ∙ ap (take 1) (drop_more xs i 0 lt) in
    f ∙ ap (λ p. ps ++ (p ∷ [])) part ∙ ap (λ rs. rs ++ ((get_or xs i 0 ∷ []) ∷ [])) e ∙ sym (map-append (λ c. c ∷ []) (take i xs) (get_or xs i 0 ∷ [])) ∙ ap single_characters (sym (take_more xs i 0 lt))

longer : (i : ℕ) (p : List ℕ) (ps qs : List (List ℕ)) → length ps ≤ i → qs ≡ ps ++ (p ∷ []) → length qs ≤ i + 1
longer i p ps qs le e =
    let l : length qs ≡ length (ps ++ (p ∷ [])) = ap length e in
    omega (arith, length-append ps (p ∷ []))

pub loop-i-preserved : goal.loop-i-preserved
loop-i-preserved c = record {
  few = longer c.loop-i.i _ c.loop-i.parts.items _ c.loop-i.invariant.few c.in_ok-add_part.ensures.0;
  done = one_more c.args.chars.now c.loop-i.i c.loop-i.parts.items c.add_part.new.parts.items c.loop-i-test.true c.loop-i.invariant.done c.in_ok-add_part.ensures.0;
}
