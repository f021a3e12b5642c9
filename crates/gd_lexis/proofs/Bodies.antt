-- A text writes at most one string.
use Rattle.std.proofs.Common.{◌≡◌, ◌≢◌, ℕ, Bool, true, false, List, [], ◌∷◌, ◌++◌, refl, ap, sym, ◌∙◌, subst, inl, inr, arith, append_assoc, true≢false}
use Rattle.std.specs.Prelude.{◌⊎◌}
use Rattle.std.proofs.lemmas.List.{append_cancel_left, append_cancel_right}
use Rattle.std.proofs.lemmas.Bool.{eq-eqb}
use Rattle.gd_lexis.specs.Strings.{Quote, opening, closing, ends_here, begins_line_end, IsEscape, Body, nothing, plain, line_end, escape, kept, kept_line_end, WritesString}
use Rattle.gd_lexis.proofs.Lists.{cons_parts, not_empty}
use Rattle.gd_lexis.proofs.Escapes.{meant, one_escape}

-- a part of what stands between a string's ends, before this rest, and what it stands for
pub data Part (q : Quote) (rest : List ℕ) : List ℕ → List ℕ → Type 0 where
  a_plain : (c : ℕ) → c ≢ 92 → ends_here q (c ∷ rest) ≡ false → begins_line_end (c ∷ rest) ≡ false → Part q rest (c ∷ []) (c ∷ [])
  a_line_end : Part q rest (13 ∷ 10 ∷ []) (10 ∷ [])
  an_escape : (e s : List ℕ) → q.is_raw ≡ false → IsEscape e s → Part q rest e s
  a_kept : (c : ℕ) → q.is_raw ≡ true → begins_line_end (c ∷ rest) ≡ false → Part q rest (92 ∷ c ∷ []) (92 ∷ c ∷ [])
  a_kept_line_end : q.is_raw ≡ true → Part q rest (92 ∷ 13 ∷ 10 ∷ []) (92 ∷ 10 ∷ [])

-- the body is empty, or has a first part
pub data Parted (q : Quote) (body t : List ℕ) : Type 0 where
  none : body ≡ [] → t ≡ [] → Parted q body t
  first : (front s rest u : List ℕ) → body ≡ front ++ rest → t ≡ s ++ u → Part q rest front s → Body q rest u → Parted q body t

pub parts_of : (q : Quote) {body t : List ℕ} → Body q body t → Parted q body t
parts_of q nothing = none refl refl
parts_of q (plain c cs t h k l b) = first (c ∷ []) (c ∷ []) cs t refl refl (a_plain c h k l) b
parts_of q (line_end cs t b) = first (13 ∷ 10 ∷ []) (10 ∷ []) cs t refl refl a_line_end b
parts_of q (escape e s cs t h k b) = first e s cs t refl refl (an_escape e s h k) b
parts_of q (kept c cs t h k b) = first (92 ∷ c ∷ []) (92 ∷ c ∷ []) cs t refl refl (a_kept c h k) b
parts_of q (kept_line_end cs t h b) = first (92 ∷ 13 ∷ 10 ∷ []) (92 ∷ 10 ∷ []) cs t refl refl (a_kept_line_end h) b

pub not_both : (b : Bool) → b ≡ true → b ≡ false → ⊥
not_both b h k = true≢false (sym h ∙ k)

pub part_begins : (q : Quote) (rest front s : List ℕ) → Part q rest front s → (c : ℕ) × (more : List ℕ) × (front ≡ c ∷ more)
part_begins q rest front s (a_plain c h k l) = (c, [], refl)
part_begins q rest front s a_line_end = (13, 10 ∷ [], refl)
part_begins q rest front s (an_escape e t h k) = let m = meant e t k in (92, m.0 ∷ m.1, m.2)
part_begins q rest front s (a_kept c h k) = (92, c ∷ [], refl)
part_begins q rest front s (a_kept_line_end h) = (92, 13 ∷ 10 ∷ [], refl)

-- a part that is no plain one and no line end begins with a backslash
pub slash_head : (e s us vs : List ℕ) (c : ℕ) → IsEscape e s → c ∷ us ≡ e ++ vs → c ≡ 92
slash_head e s us vs c h g = let m = meant e s h in (cons_parts c 92 us (m.0 ∷ m.1 ++ vs) (g ∙ ap (λ r. r ++ vs) m.2)).0

crlf : (c : ℕ) (us vs : List ℕ) → c ∷ us ≡ 13 ∷ 10 ∷ vs → begins_line_end (c ∷ us) ≡ false → ⊥
crlf c us vs g h = let all : begins_line_end (c ∷ us) ≡ true = ap begins_line_end g in not_both (begins_line_end (c ∷ us)) all h

one_part : (q : Quote) (us vs front other s t : List ℕ) → Part q us front s → Part q vs other t → front ++ us ≡ other ++ vs → (front ≡ other) × (s ≡ t)
one_part q us vs front other s t (a_plain c h k l) (a_plain d h' k' l') g = let same = (cons_parts c d us vs g).0 in (ap (λ n. n ∷ []) same, ap (λ n. n ∷ []) same)
one_part q us vs front other s t (a_plain c h k l) a_line_end g = absurd (crlf c us vs g l)
one_part q us vs front other s t (a_plain c h k l) (an_escape e u r i) g = absurd (h (slash_head e u us vs c i g))
one_part q us vs front other s t (a_plain c h k l) (a_kept d r l') g = absurd (h (cons_parts c 92 us (d ∷ vs) g).0)
one_part q us vs front other s t (a_plain c h k l) (a_kept_line_end r) g = absurd (h (cons_parts c 92 us (13 ∷ 10 ∷ vs) g).0)
one_part q us vs front other s t a_line_end (a_plain d h k l) g = absurd (crlf d vs us (sym g) l)
one_part q us vs front other s t a_line_end a_line_end g = (refl, refl)
one_part q us vs front other s t a_line_end (an_escape e u r i) g = let c = slash_head e u (10 ∷ us) vs 13 i g in absurd (omega (arith, c))
one_part q us vs front other s t a_line_end (a_kept d r l) g = let c = (cons_parts 13 92 (10 ∷ us) (d ∷ vs) g).0 in absurd (omega (arith, c))
one_part q us vs front other s t a_line_end (a_kept_line_end r) g = let c = (cons_parts 13 92 (10 ∷ us) (13 ∷ 10 ∷ vs) g).0 in absurd (omega (arith, c))
one_part q us vs front other s t (an_escape e u r i) (a_plain d h k l) g = absurd (h (slash_head e u vs us d i (sym g)))
one_part q us vs front other s t (an_escape e u r i) a_line_end g = let c = slash_head e u (10 ∷ vs) us 13 i (sym g) in absurd (omega (arith, c))
one_part q us vs front other s t (an_escape e u r i) (an_escape f v r' j) g = one_escape e f u v us vs i j g
one_part q us vs front other s t (an_escape e u r i) (a_kept d r' l) g = absurd (not_both q.is_raw r' r)
one_part q us vs front other s t (an_escape e u r i) (a_kept_line_end r') g = absurd (not_both q.is_raw r' r)
one_part q us vs front other s t (a_kept c r l) (a_plain d h k l') g = absurd (h (sym (cons_parts 92 d (c ∷ us) vs g).0))
one_part q us vs front other s t (a_kept c r l) a_line_end g = let e = (cons_parts 92 13 (c ∷ us) (10 ∷ vs) g).0 in absurd (omega (arith, e))
one_part q us vs front other s t (a_kept c r l) (an_escape f v r' j) g = absurd (not_both q.is_raw r r')
one_part q us vs front other s t (a_kept c r l) (a_kept d r' l') g =
    let same = (cons_parts c d us vs (cons_parts 92 92 (c ∷ us) (d ∷ vs) g).1).0 in (ap (λ n. 92 ∷ n ∷ []) same, ap (λ n. 92 ∷ n ∷ []) same)
one_part q us vs front other s t (a_kept c r l) (a_kept_line_end r') g = absurd (crlf c us vs (cons_parts 92 92 (c ∷ us) (13 ∷ 10 ∷ vs) g).1 l)
one_part q us vs front other s t (a_kept_line_end r) (a_plain d h k l) g = absurd (h (sym (cons_parts 92 d (13 ∷ 10 ∷ us) vs g).0))
one_part q us vs front other s t (a_kept_line_end r) a_line_end g = let e = (cons_parts 92 13 (13 ∷ 10 ∷ us) (10 ∷ vs) g).0 in absurd (omega (arith, e))
one_part q us vs front other s t (a_kept_line_end r) (an_escape f v r' j) g = absurd (not_both q.is_raw r r')
one_part q us vs front other s t (a_kept_line_end r) (a_kept d r' l) g = absurd (crlf d vs us (sym (cons_parts 92 92 (13 ∷ 10 ∷ us) (d ∷ vs) g).1) l)
one_part q us vs front other s t (a_kept_line_end r) (a_kept_line_end r') g = (refl, refl)

not_joined : (c : ℕ) (more front rest : List ℕ) → front ≡ c ∷ more → front ++ rest ≡ [] → ⊥
not_joined c more front rest e h = not_empty c (more ++ rest) (ap (λ r. r ++ rest) (sym e) ∙ h)

-- a body that begins with a part goes on by what follows it, in every reading
step : (q : Quote) (front s rest t u : List ℕ) → Part q rest front s → ((v : List ℕ) → Body q rest v → t ≡ v) → Parted q (front ++ rest) u → s ++ t ≡ u
step q front s rest t u p goes (none e f) = let b = part_begins q rest front s p in absurd (not_joined b.0 b.1 front rest b.2 e)
step q front s rest t u p goes (first front' s' rest' u' e f p' b) =
    let same = one_part q rest rest' front front' s s' p p' e in
    let fronts : front ≡ front' = same.0 in
    let tails : rest ≡ rest' = append_cancel_left front rest rest' (e ∙ ap (λ r. r ++ rest') (sym fronts)) in
    let P : List ℕ → Type 0 = λ r. Body q r u' in
    let more : t ≡ u' = goes u' (subst P (sym tails) b) in
    let means : s ≡ s' = same.1 in
    cc

-- what stands between a string's ends stands for one text
pub one_body : (q : Quote) {body t : List ℕ} (u : List ℕ) → Body q body t → Body q body u → t ≡ u
one_body q u nothing k = elim (parts_of q k) [ none e f ↦ sym f | first front s rest v e f p b ↦ let begins = part_begins q rest front s p in absurd (not_joined begins.0 begins.1 front rest begins.2 (sym e)) ]
one_body q u (plain c cs t h l m b) k = step q (c ∷ []) (c ∷ []) cs t u (a_plain c h l m) (λ v. one_body q v b) (parts_of q k)
one_body q u (line_end cs t b) k = step q (13 ∷ 10 ∷ []) (10 ∷ []) cs t u a_line_end (λ v. one_body q v b) (parts_of q k)
one_body q u (escape e s cs t h l b) k = step q e s cs t u (an_escape e s h l) (λ v. one_body q v b) (parts_of q k)
one_body q u (kept c cs t h l b) k = step q (92 ∷ c ∷ []) (92 ∷ c ∷ []) cs t u (a_kept c h l) (λ v. one_body q v b) (parts_of q k)
one_body q u (kept_line_end cs t h b) k = step q (92 ∷ 13 ∷ 10 ∷ []) (92 ∷ 10 ∷ []) cs t u (a_kept_line_end h) (λ v. one_body q v b) (parts_of q k)

-- ---- the quotes

-- one mark, or three
abbrev pub one : Bool → ℕ → Quote
one raw m = record { is_raw = raw; mark = m; count = 1 }

abbrev pub three : Bool → ℕ → Quote
three raw m = record { is_raw = raw; mark = m; count = 3 }

abbrev pub IsMark : ℕ → Type 0
IsMark m = (m ≡ 34) ⊎ (m ≡ 39)

-- behind `r`, or not
abbrev pub opened : Bool → List ℕ → List ℕ
opened true cs = 114 ∷ cs
opened false cs = cs

pub opening_is : (raw : Bool) (m : ℕ) (cs : List ℕ) → opening (one raw m) ++ cs ≡ opened raw (m ∷ cs)
opening_is true m cs = refl
opening_is false m cs = refl

pub opening_three : (raw : Bool) (m : ℕ) (cs : List ℕ) → opening (three raw m) ++ cs ≡ opened raw (m ∷ m ∷ m ∷ cs)
opening_three true m cs = refl
opening_three false m cs = refl

pub data Written (text t : List ℕ) : Type 0 where
  single : (raw : Bool) (m : ℕ) (body : List ℕ) → IsMark m → text ≡ opened raw (m ∷ body ++ m ∷ []) → Body (one raw m) body t → Written text t
  triple : (raw : Bool) (m : ℕ) (body : List ℕ) → IsMark m → text ≡ opened raw (m ∷ m ∷ m ∷ body ++ m ∷ m ∷ m ∷ []) → Body (three raw m) body t → Written text t

written_by : (text t body : List ℕ) (q : Quote) → IsMark q.mark → (q.count ≡ 1) ⊎ (q.count ≡ 3) → text ≡ opening q ++ body ++ closing q → Body q body t → Written text t
written_by text t body q marks (inl e) h b =
    let same : q ≡ one q.is_raw q.mark = ap (λ n. record { is_raw = q.is_raw; mark = q.mark; count = n }) e in
    let P : Quote → Type 0 = λ r. Body r body t in
    single q.is_raw q.mark body marks
    (h ∙ ap (λ r. opening r ++ body ++ closing r) same ∙ append_assoc (opening (one q.is_raw q.mark)) body (q.mark ∷ []) ∙ opening_is q.is_raw q.mark (body ++ q.mark ∷ []))
    (subst P same b)
written_by text t body q marks (inr e) h b =
    let same : q ≡ three q.is_raw q.mark = ap (λ n. record { is_raw = q.is_raw; mark = q.mark; count = n }) e in
    let P : Quote → Type 0 = λ r. Body r body t in
    let end = q.mark ∷ q.mark ∷ q.mark ∷ [] in
    triple q.is_raw q.mark body marks
    (h ∙ ap (λ r. opening r ++ body ++ closing r) same ∙ append_assoc (opening (three q.is_raw q.mark)) body end ∙ opening_three q.is_raw q.mark (body ++ end))
    (subst P same b)

pub written : (text t : List ℕ) → WritesString text t → Written text t
written text t h = written_by text t h.1 h.0 h.2.0 h.2.1 h.3 h.4

pub same_opened : (raw raw' : Bool) (m n : ℕ) (cs ds : List ℕ) → IsMark m → IsMark n → opened raw (m ∷ cs) ≡ opened raw' (n ∷ ds) → (raw ≡ raw') × (m ≡ n) × (cs ≡ ds)
same_opened true true m n cs ds h k e = let same = cons_parts m n cs ds (cons_parts 114 114 (m ∷ cs) (n ∷ ds) e).1 in (refl, same.0, same.1)
same_opened true false m n cs ds h k e = let same = (cons_parts 114 n (m ∷ cs) ds e).0 in absurd (omega arith)
same_opened false true m n cs ds h k e = let same = (cons_parts m 114 cs (n ∷ ds) e).0 in absurd (omega arith)
same_opened false false m n cs ds h k e = let same = cons_parts m n cs ds e in (refl, same.0, same.1)

-- a string of one mark does not go on behind it
ended : (raw : Bool) (m : ℕ) (cs : List ℕ) → ends_here (one raw m) (m ∷ cs) ≡ true
ended raw m cs = rw (eq-eqb m m refl) refl

at_mark : (raw : Bool) (m n : ℕ) (rest front s cs : List ℕ) → IsMark m → n ≡ m → n ∷ cs ≡ front ++ rest → Part (one raw m) rest front s → ⊥
at_mark raw m n rest front s cs marks e h (a_plain c k l l') =
    let same : m ∷ rest ≡ c ∷ rest = ap (λ x. x ∷ rest) (sym e ∙ (cons_parts n c cs rest h).0) in
    not_both (ends_here (one raw m) (c ∷ rest)) (ap (ends_here (one raw m)) (sym same) ∙ ended raw m rest) l
at_mark raw m n rest front s cs marks e h a_line_end = let c = (cons_parts n 13 cs (10 ∷ rest) h).0 in omega arith
at_mark raw m n rest front s cs marks e h (an_escape f u r i) = let c = slash_head f u cs rest n i h in omega arith
at_mark raw m n rest front s cs marks e h (a_kept d r l) = let c = (cons_parts n 92 cs (d ∷ rest) h).0 in omega arith
at_mark raw m n rest front s cs marks e h (a_kept_line_end r) = let c = (cons_parts n 92 cs (13 ∷ 10 ∷ rest) h).0 in omega arith

pub no_mark : (raw : Bool) (m n : ℕ) (cs t : List ℕ) → IsMark m → n ≡ m → Parted (one raw m) (n ∷ cs) t → ⊥
no_mark raw m n cs t marks e (none h k) = not_empty n cs h
no_mark raw m n cs t marks e (first front s rest u h k p b) = at_mark raw m n rest front s cs marks e h p

-- one mark and three open different texts
one_or_three : (raw raw' : Bool) (m n : ℕ) (body other t : List ℕ) → IsMark m → IsMark n → Body (one raw m) body t
    → opened raw (m ∷ body ++ m ∷ []) ≡ opened raw' (n ∷ n ∷ n ∷ other ++ n ∷ n ∷ n ∷ []) → ⊥
one_or_three raw raw' m n [] other t h k b e =
    let same = same_opened raw raw' m n (m ∷ []) (n ∷ n ∷ other ++ n ∷ n ∷ n ∷ []) h k e in
    not_empty n (other ++ n ∷ n ∷ n ∷ []) (sym (cons_parts m n [] (n ∷ other ++ n ∷ n ∷ n ∷ []) same.2).1)
one_or_three raw raw' m n (c ∷ body) other t h k b e =
    let same = same_opened raw raw' m n (c ∷ body ++ m ∷ []) (n ∷ n ∷ other ++ n ∷ n ∷ n ∷ []) h k e in
    no_mark raw m c body t h ((cons_parts c n (body ++ m ∷ []) (n ∷ other ++ n ∷ n ∷ n ∷ []) same.2).0 ∙ sym same.1) (parts_of (one raw m) b)

one_written : (text t u : List ℕ) → Written text t → Written text u → t ≡ u
one_written text t u (single raw m body h e b) (single raw' n other k f c) =
    let same = same_opened raw raw' m n (body ++ m ∷ []) (other ++ n ∷ []) h k (sym e ∙ f) in
    let bodies : body ≡ other = append_cancel_right body other (m ∷ []) (same.2 ∙ ap (λ x. other ++ x ∷ []) (sym same.1)) in
    let quotes : one raw m ≡ one raw' n = ap (λ r. one r m) same.0 ∙ ap (λ x. one raw' x) same.1 in
    let P : Quote → Type 0 = λ r. Body r other u in
    let Q : List ℕ → Type 0 = λ r. Body (one raw m) r u in
    one_body (one raw m) u b (subst Q (sym bodies) (subst P (sym quotes) c))
one_written text t u (single raw m body h e b) (triple raw' n other k f c) = absurd (one_or_three raw raw' m n body other t h k b (sym e ∙ f))
one_written text t u (triple raw m body h e b) (single raw' n other k f c) = absurd (one_or_three raw' raw n m other body u k h c (sym f ∙ e))
one_written text t u (triple raw m body h e b) (triple raw' n other k f c) =
    let same = same_opened raw raw' m n (m ∷ m ∷ body ++ m ∷ m ∷ m ∷ []) (n ∷ n ∷ other ++ n ∷ n ∷ n ∷ []) h k (sym e ∙ f) in
    let behind = cons_parts m n (body ++ m ∷ m ∷ m ∷ []) (other ++ n ∷ n ∷ n ∷ []) (cons_parts m n (m ∷ body ++ m ∷ m ∷ m ∷ []) (n ∷ other ++ n ∷ n ∷ n ∷ []) same.2).1 in
    let bodies : body ≡ other = append_cancel_right body other (m ∷ m ∷ m ∷ []) (behind.1 ∙ ap (λ x. other ++ x ∷ x ∷ x ∷ []) (sym same.1)) in
    let quotes : three raw m ≡ three raw' n = ap (λ r. three r m) same.0 ∙ ap (λ x. three raw' x) same.1 in
    let P : Quote → Type 0 = λ r. Body r other u in
    let Q : List ℕ → Type 0 = λ r. Body (three raw m) r u in
    one_body (three raw m) u b (subst Q (sym bodies) (subst P (sym quotes) c))

-- a text writes at most one string
pub one_string : (text t u : List ℕ) → WritesString text t → WritesString text u → t ≡ u
one_string text t u h k = one_written text t u (written text t h) (written text u k)
