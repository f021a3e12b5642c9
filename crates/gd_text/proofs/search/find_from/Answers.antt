use Rattle.std.proofs.Common.{◌≡◌, ℕ, suc, ◌+◌, Bool, true, false, cond, nat_eq, List, ◌∷◌, drop, Option, None, Some, option_map, refl, sym, ap, ◌∙◌, arith}
use Rattle.std.specs.List.{starts_with}
use Rattle.std.proofs.lemmas.List.{take_rest, drop_more}
use Rattle.gd_text.specs.Search.{first_at}
use Rattle.gd_text.proofs.search.find_from.Goals as goal

-- the text stands here, or is looked for one place further on
here : (what ys : List ℕ) (c : ℕ) (cs : List ℕ) → ys ≡ c ∷ cs → true ≡ starts_with nat_eq ys what → first_at what ys ≡ Some 0
here what ys c cs e h =
    let k : starts_with nat_eq (c ∷ cs) what ≡ true = sym (h ∙ ap (λ zs. starts_with nat_eq zs what) e) in
    ap (first_at what) e ∙ ap (λ (b : Bool). cond b (Some 0) (option_map suc (first_at what cs))) k

further : (what ys : List ℕ) (c : ℕ) (cs : List ℕ) → ys ≡ c ∷ cs → false ≡ starts_with nat_eq ys what → first_at what ys ≡ option_map suc (first_at what cs)
further what ys c cs e h =
    let k : starts_with nat_eq (c ∷ cs) what ≡ false = sym (h ∙ ap (λ zs. starts_with nat_eq zs what) e) in
    ap (first_at what) e ∙ ap (λ (b : Bool). cond b (Some 0) (option_map suc (first_at what cs))) k

counted_on : (o : Option ℕ) (at : ℕ) → option_map (λ i. at + i) (option_map suc o) ≡ option_map (λ i. at + 1 + i) o
counted_on None at = refl
counted_on (Some k) at = ap Some (omega arith)

pub returns-then-starts_with-clause-first : goal.returns-then-starts_with-clause-first
returns-then-starts_with-clause-first c =
    let xs = c.args.chars.now in
    let rest = take_rest xs c.loop-at.at in
    let h = c.if-starts_with.ensures.value ∙ ap (λ ys. starts_with nat_eq ys c.args.what.now) rest in
    let e = here c.args.what.now (drop c.loop-at.at xs) _ _ (drop_more xs c.loop-at.at 0 c.loop-at-test.true) h in
    let z : c.loop-at.at ≡ c.loop-at.at + 0 = omega arith in
    sym (c.loop-at.invariant ∙ ap (option_map (λ i. c.loop-at.at + i)) e ∙ ap Some (sym z))

pub loop-at-preserved : goal.loop-at-preserved
loop-at-preserved c =
    let xs = c.args.chars.now in
    let rest = take_rest xs c.loop-at.at in
    let h = c.if-starts_with.ensures.value ∙ ap (λ ys. starts_with nat_eq ys c.args.what.now) rest in
    let e = further c.args.what.now (drop c.loop-at.at xs) _ _ (drop_more xs c.loop-at.at 0 c.loop-at-test.true) h in
    c.loop-at.invariant ∙ ap (option_map (λ i. c.loop-at.at + i)) e ∙ counted_on _ c.loop-at.at
