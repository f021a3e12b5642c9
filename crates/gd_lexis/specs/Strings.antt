-- Strings (docs/language.md, "Strings").
use Rattle.std.specs.Prelude.{◌≡◌, ◌≢◌, ℕ, ◌+◌, ◌*◌, ◌<◌, ◌⊎◌, Bool, true, false, nat_eq, if◌then◌else◌, List, [], ◌∷◌, ◌++◌, length, replicate, fold, slice_index, All, Option, Some, None, ◌==◌, ◌||◌, ◌&&◌}
use Rattle.std.specs.List.{starts_with}
use Rattle.std.specs.Char.{IsScalar, digit_value}

-- how a string is opened
pub record Quote : Type 0 where
  pub is_raw : Bool
  pub mark : ℕ
  -- one or three
  pub count : ℕ

abbrev pub IsQuote : Quote → Type 0
IsQuote q = ((q.mark ≡ 34) ⊎ (q.mark ≡ 39)) × ((q.count ≡ 1) ⊎ (q.count ≡ 3))

-- what ends the string
abbrev pub closing : Quote → List ℕ
closing q = replicate q.count q.mark

-- what opens it
abbrev pub opening : Quote → List ℕ
opening q = if q.is_raw then 114 ∷ closing q else closing q

-- the string ends before these characters of its, which the end follows
abbrev pub ends_here : Quote → List ℕ → Bool
ends_here q cs = starts_with nat_eq (cs ++ closing q) (closing q)

-- the hexadecimal digits are so many, and write the code
abbrev pub WritesCode : ℕ → List ℕ → ℕ → Type 0
WritesCode count cs n = (length cs ≡ count) × All (λ c. digit_value c < 16) cs × (n ≡ fold (λ n c. n * 16 + digit_value c) 0 cs)

-- the character that a backslash with this one stands for
abbrev pub simple : ℕ → Option ℕ
simple c =
    if c == 110 then Some 10 else (if c == 116 then Some 9 else (if c == 114 then Some 13
    else (if c == 97 then Some 7 else (if c == 98 then Some 8 else (if c == 102 then Some 12 else (if c == 118 then Some 11
    else (if c == 34 || c == 39 || c == 92 then Some c else None)))))))

-- an escape, and what it stands for
abbrev pub IsEscape : List ℕ → List ℕ → Type 0
IsEscape cs t =
    ((c : ℕ) × (d : ℕ) × (cs ≡ 92 ∷ c ∷ []) × (simple c ≡ Some d) × (t ≡ d ∷ []))
    ⊎ ((((cs ≡ 92 ∷ 10 ∷ []) ⊎ (cs ≡ 92 ∷ 13 ∷ 10 ∷ [])) × (t ≡ []))
    ⊎ (((hex : List ℕ) × (n : ℕ) × (cs ≡ 92 ∷ 117 ∷ hex) × WritesCode 4 hex n × IsScalar n × (t ≡ n ∷ []))
    ⊎ (((hex : List ℕ) × (n : ℕ) × (cs ≡ 92 ∷ 85 ∷ hex) × WritesCode 6 hex n × IsScalar n × (t ≡ n ∷ []))
    ⊎ ((first : List ℕ) × (second : List ℕ) × (high : ℕ) × (low : ℕ) × (cs ≡ 92 ∷ 117 ∷ first ++ 92 ∷ 117 ∷ second)
    × WritesCode 4 first (0xD800 + high) × WritesCode 4 second (0xDC00 + low) × (high < 0x400) × (low < 0x400) × (t ≡ (0x10000 + high * 0x400 + low) ∷ [])))))

-- the line end is a carriage return with its line feed
abbrev pub begins_line_end : List ℕ → Bool
begins_line_end cs = slice_index cs 0 == 13 && slice_index cs 1 == 10

-- The characters between a string's two ends, and what they stand for.
pub data Body (q : Quote) : List ℕ → List ℕ → Type 0 where
  nothing : Body q [] []
  plain : (c : ℕ) (cs t : List ℕ) → c ≢ 92 → ends_here q (c ∷ cs) ≡ false → begins_line_end (c ∷ cs) ≡ false → Body q cs t → Body q (c ∷ cs) (c ∷ t)
  line_end : (cs t : List ℕ) → Body q cs t → Body q (13 ∷ 10 ∷ cs) (10 ∷ t)
  escape : (e s cs t : List ℕ) → q.is_raw ≡ false → IsEscape e s → Body q cs t → Body q (e ++ cs) (s ++ t)
  kept : (c : ℕ) (cs t : List ℕ) → q.is_raw ≡ true → begins_line_end (c ∷ cs) ≡ false → Body q cs t → Body q (92 ∷ c ∷ cs) (92 ∷ c ∷ t)
  kept_line_end : (cs t : List ℕ) → q.is_raw ≡ true → Body q cs t → Body q (92 ∷ 13 ∷ 10 ∷ cs) (92 ∷ 10 ∷ t)

-- the text is a string, and stands for these characters
abbrev pub WritesString : List ℕ → List ℕ → Type 0
WritesString text t = (q : Quote) × (body : List ℕ) × IsQuote q × (text ≡ opening q ++ body ++ closing q) × Body q body t
