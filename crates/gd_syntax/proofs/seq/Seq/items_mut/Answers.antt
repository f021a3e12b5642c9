use Rattle.std.proofs.Common.{◌≡◌, ℕ, List, ◌++◌, length, take, drop, refl, ap, ◌∙◌, rules}
use Rattle.std.specs.List.{refill}
use Rattle.gd_syntax.proofs.seq.Seq.items_mut.Goals as goal

refilled : {X : Type 0} (n : ℕ) (xs ys ws : List X) → n ≡ length xs → xs ≡ ys → take n (ws ++ drop (length ws) xs) ≡ refill (length ys) ys ws
refilled n xs ys ws e f = ap (λ k. take k (ws ++ drop (length ws) xs)) e ∙ ap (λ zs. refill (length zs) zs ws) f

pub returns : goal.returns
returns g c = ((refl, λ w. refilled c.self.inside.items.len _ _ w c.self.inside.items.ok.0 c.self.view_is), search rules)
