-- Laws of tokens in order.
use Rattle.std.proofs.Common.{◌≡◌, ◌≤◌, List, [], ◌∷◌, ◌++◌, get_or, refl, sym, ◌∙◌, arith}
use Rattle.std.proofs.lemmas.List.Elements.{All-push, All-weaker}
use Rattle.std.proofs.lemmas.List.Quantifiers.{all_pairs_push}
use Rattle.gd_syntax.specs.declared.pos.Pos.{Pos}
use Rattle.gd_syntax.specs.declared.token.Token.{Token}
use Rattle.gd_syntax.specs.declared.token.TokenKind.TheVariants.{End}
use Rattle.gd_lexer.specs.Follows.{IsAtMost}
use Rattle.gd_lexer.specs.Found.{AreUpTo, AreWhole, IsNotEnd, IsOfFile}
use Rattle.gd_lexer.proofs.FollowsLemmas.{IsAtMost-refl, IsAtMost-trans}

pub AreUpTo-push : (ts : List Token) (last : Pos) (t : Token) → AreUpTo ts last → t.pos.file ≡ last.file → 1 ≤ t.pos.line → 1 ≤ t.pos.column → IsAtMost last t.pos → IsNotEnd t.kind
    → AreUpTo (ts ++ t ∷ []) t.pos
AreUpTo-push ts last t h file line column later unended = record {
  rising =
      all_pairs_push (λ a b. IsAtMost a.pos b.pos) ts t h.rising
      (λ k d l. IsAtMost-trans (get_or ts k d).pos last t.pos (h.before k d l) later);
  before =
      All-push (λ (a : Token). IsAtMost a.pos t.pos) ts t
      (All-weaker (λ (a : Token). IsAtMost a.pos last) (λ (a : Token). IsAtMost a.pos t.pos) (λ a p. IsAtMost-trans a.pos last t.pos p later) ts h.before) (IsAtMost-refl t.pos);
  of_file =
      All-push (IsOfFile t.pos.file) ts t (All-weaker (IsOfFile last.file) (IsOfFile t.pos.file) (λ a p. (p.0 ∙ sym file, p.1, p.2)) ts h.of_file) (refl, line, column);
  unended = All-push (λ (a : Token). IsNotEnd a.kind) ts t h.unended unended;
}

pub AreUpTo-nil : (p : Pos) → AreUpTo [] p
AreUpTo-nil p = record {
  rising = λ i j d a b. absurd (omega arith);
  before = λ k d l. absurd (omega arith);
  of_file = λ k d l. absurd (omega arith);
  unended = λ k d l. absurd (omega arith);
}

pub AreWhole-push : (ts : List Token) (last pos : Pos) → AreUpTo ts last → pos.file ≡ last.file → 1 ≤ pos.line → 1 ≤ pos.column → IsAtMost last pos
    → AreWhole pos.file (ts ++ record { pos = pos; kind = End } ∷ [])
AreWhole-push ts last pos h file line column later =
    let t : Token = record { pos = pos; kind = End } in
    record {
      rising =
          all_pairs_push (λ a b. IsAtMost a.pos b.pos) ts t h.rising
          (λ k d l. IsAtMost-trans (get_or ts k d).pos last t.pos (h.before k d l) later);
      of_file =
          All-push (IsOfFile pos.file) ts t (All-weaker (IsOfFile last.file) (IsOfFile pos.file) (λ a p. (p.0 ∙ sym file, p.1, p.2)) ts h.of_file) (refl, line, column);
      ended = (ts, pos, h.unended, refl);
    }
