use Rattle.std.proofs.Common.{◌≡◌, ℕ, ◌+◌, ◌<◌, List, [], ◌∷◌, ◌++◌, length, take, get_or, encode_utf8_all, IsUtf8, sym, ap, ◌∙◌, subst, arith, append-nil, rules, Vec, String, Global}
use Rattle.std.specs.String.{string_vec}
use Rattle.std.proofs.lemmas.List.{take_more}
use Rattle.std.proofs.lemmas.Slice.{pushed}
use Rattle.std.proofs.lemmas.Str.{encodes-append, IsUtf8-string_bytes, chars_from_encodes}
use Rattle.std.proofs.lemmas.Grind.{common_steps}
use lib.Utf8.{encode}
use Rattle.gd_syntax.proofs.text.Text.to_utf8.Goals as goal

encodes-take_more : (xs : List ℕ) (i : ℕ) (c : ℕ) → i < length xs → c ≡ get_or xs i c → encode_utf8_all (take (i + 1) xs) ≡ encode_utf8_all (take i xs) ++ encode c
encodes-take_more xs i c lt e =
    ap encode_utf8_all (take_more xs i c lt) ∙ encodes-append (take i xs) (get_or xs i c ∷ []) ∙ ap (λ x. encode_utf8_all (take i xs) ++ x) (append-nil (encode (get_or xs i c)) ∙ ap encode (sym e))

pub loop-c-preserved : goal.loop-c-preserved
loop-c-preserved c =
    pushed (encode c.c-item.result) c.loop-c.invariant c.in_ok-push.was c.push.ensures.bytes ∙ sym (encodes-take_more _ _ _ (search rules) c.c-item.is)

is_utf8 : (text : String Global) (v : Vec ℕ Global) → v ≡ string_vec text → IsUtf8 v.items
is_utf8 text v e = subst IsUtf8 (ap (λ (w : Vec ℕ Global). w.items) (sym e)) (IsUtf8-string_bytes text)

pub returns-clause-utf8 : goal.returns-clause-utf8
returns-clause-utf8 c = is_utf8 c.loop-c.text _ c.into_bytes.ensures.value

pub returns-clause-spells : goal.returns-clause-spells
returns-clause-spells c =
    let e : encode_utf8_all c.args.self.now ≡ c.into_bytes.result.items = grind (arith, common_steps) in
    sym (chars_from_encodes c.args.self.now _ (is_utf8 c.loop-c.text _ c.into_bytes.ensures.value) e)
