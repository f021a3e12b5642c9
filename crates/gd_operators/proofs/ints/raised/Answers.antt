use Rattle.std.proofs.Common.{◌≡◌, ℕ, zero, suc, ◌+◌, ◌*◌, ◌/◌, ◌%◌, ◌^◌, refl, sym, ap, ◌∙◌, arith}
use Rattle.std.proofs.Math.Nat.{pow-zero, pow-suc, mul-suc, div-add-mod}
use Rattle.std.proofs.lemmas.Nat.{pow-add, pow-mod, mul-mod}
use Rattle.gd_operators.proofs.ints.raised.Goals as goal

pow-pow : (n i j : ℕ) → (n ^ i) ^ j ≡ n ^ (i * j)
pow-pow n i zero =
    let e : i * 0 ≡ 0 = omega arith in
    pow-zero (n ^ i) ∙ sym (pow-zero n) ∙ ap (λ k. n ^ k) (sym e)
pow-pow n i (suc j) = pow-suc (n ^ i) j ∙ ap (λ x. x * n ^ i) (pow-pow n i j) ∙ sym (pow-add n (i * j) i) ∙ ap (λ k. n ^ k) (sym (mul-suc i j))

-- a power by the two parts of its exponent, each modulo m
in_parts : (b e k m h l x y z r : ℕ) → h ≡ e / k → l ≡ e % k → x ≡ (b ^ k) % m → y ≡ (x ^ h) % m → z ≡ (b ^ l) % m → r ≡ (y * z) % m → r ≡ (b ^ e) % m
in_parts b e k m h l x y z r eh el ex ey ez er =
    let whole : k * h + l ≡ e = ap (λ t. k * t + l) eh ∙ ap (λ t. k * (e / k) + t) el ∙ div-add-mod e k in
    let high : y ≡ (b ^ (k * h)) % m = ey ∙ ap (λ t. (t ^ h) % m) ex ∙ pow-mod (b ^ k) h m ∙ ap (λ t. t % m) (pow-pow b k h) in
    er ∙ ap (λ t. (t * z) % m) high ∙ ap (λ t. ((b ^ (k * h)) % m * t) % m) ez ∙ sym (mul-mod (b ^ (k * h)) (b ^ l) m) ∙ ap (λ t. t % m) (sym (pow-add b (k * h) l)) ∙ ap (λ t. (b ^ t) % m) whole

pub returns : goal.returns
returns c =
    in_parts c.args.base c.args.exponent 2147483648 (2 ^ 64) (c.args.exponent / 2147483648) (c.args.exponent % 2147483648) c.wrapping_pow.result c.wrapping_pow-2.result c.wrapping_pow-3.result _ refl refl c.wrapping_pow.ensures c.wrapping_pow-2.ensures c.wrapping_pow-3.ensures refl
