-- Names, keywords, digits and texts in quotes, as tokens.
use Rattle.std.specs.Prelude.{ℕ, ◌==◌, ◌&&◌, if◌then◌else◌, Bool, true, false, List, [], ◌∷◌, ◌++◌, ◌≡◌, IsTrue, Some}
use Rattle.std.specs.List.{flat_map}
use Rattle.std.specs.Str.{str_to_ascii_lowercase}
use Rattle.std.specs.Char.{is_ascii_digit}
use Rattle.std.proofs.Common.{refl, sym, ap, ◌∙◌, subst, append_assoc, inl, inr, arith}
use Rattle.std.proofs.lemmas.Bool.Decides.{eqb_tells}
use Rattle.std.proofs.lemmas.Slice.Eq.{bytes_eq-Decides}
use Rattle.chv_ast.specs.Lexemes.{Lexeme, is_reserved, is_backquoted, without_last, name_in, name_of, digits_of, text_of, unquoted, escaped_byte, is_keyword, is_word, is_sign}
use Rattle.chv_ast.specs.Words.{IsName, IsDigits, is_word_text, begins_word, is_word_byte}
use Rattle.chv_ast.specs.declared.token.TokenKind.TheVariants as kind
use Rattle.chv_lex.specs.Bytes.{begins}
use Rattle.chv_lex.specs.Texts.{ends_text, next_in_text, is_escape}
use Rattle.chv_lex.specs.declared.text.Within.TheVariants as within
use Rattle.chv_print.specs.Texts.{name_text, quoted_text, escaped}
use Rattle.chv_print.proofs.Parts.{IsPart, begins_none, part_token, word_token, sign_token}

and-left : (a b : Bool) → (a && b) ≡ true → a ≡ true
and-left true b h = refl
and-left false b h = h

begins_name : (first : ℕ) (rest : List ℕ) → IsName (first ∷ rest) → begins_word first ≡ true
unfolding is_word_text
begins_name first rest h = and-left _ _ h

-- what a word begins with is not what no word begins with
differs : (first byte : ℕ) → begins_word first ≡ true → begins_word byte ≡ false → (first == byte) ≡ false
differs first byte h k = elim (eqb_tells first byte) [
  | inl is ↦ let e : true ≡ false = sym h ∙ (ap begins_word is.1 ∙ k) in cc
  | inr different ↦ different.0
]

-- a byte that no word begins with is not the first one of a name
pub not_first : (name : List ℕ) (byte : ℕ) → IsName name → begins_word byte ≡ false → (behind : List ℕ)
    → begins (λ next. next == byte) (name ++ behind) ≡ false
unfolding is_word_text
not_first [] byte h k behind = cc
not_first (first ∷ rest) byte h k behind = differs first byte (begins_name first rest h) k

-- the same of what is no digit
pub no_digit_first : (digits : List ℕ) (byte : ℕ) → IsDigits digits → is_ascii_digit byte ≡ false → (behind : List ℕ)
    → begins (λ next. next == byte) (digits ++ behind) ≡ false
no_digit_first [] byte h k behind = absurd (omega (arith, h.some))
no_digit_first (first ∷ rest) byte h k behind = elim (eqb_tells first byte) [
  | inl is ↦ let e : true ≡ false = sym (and-left _ _ h.decimal) ∙ (ap is_ascii_digit is.1 ∙ k) in cc
  | inr different ↦ different.0
]

-- a word that is a token by itself
pub part_word : (word : List ℕ) → IsName word → IsPart word (word_token word ∷ [])
part_word word h = part_token kind.Word word (λ behind e. inl (h, begins_none is_word_byte behind refl refl refl refl e))

part_backquoted : (name : List ℕ) → IsName name → IsPart (96 ∷ name ++ 96 ∷ []) (word_token (96 ∷ name ++ 96 ∷ []) ∷ [])
part_backquoted name h = part_token kind.Word (96 ∷ name ++ 96 ∷ []) (λ behind e. inr (name, h, refl))

-- a name as it is printed
pub part_name : (name : List ℕ) → IsName name → IsPart (name_text name) (word_token (name_text name) ∷ [])
unfolding name_text
part_name name h = elim (is_reserved name) as (λ r. IsPart (if r then 96 ∷ name ++ 96 ∷ [] else name) (word_token (if r then 96 ∷ name ++ 96 ∷ [] else name) ∷ [])) [
  | true ↦ part_backquoted name h
  | false ↦ part_word name h
]

without_last-append : (bytes : List ℕ) (byte : ℕ) → without_last (bytes ++ byte ∷ []) ≡ bytes
without_last-append [] byte = refl
without_last-append (b ∷ []) byte = refl
without_last-append (b ∷ c ∷ bytes) byte = ap (λ x. b ∷ x) (without_last-append (c ∷ bytes) byte)

not_backquoted : (name : List ℕ) → IsName name → is_backquoted name ≡ false
unfolding is_word_text
not_backquoted [] h = refl
not_backquoted (first ∷ rest) h = differs first 96 (begins_name first rest h) refl

name_in-printed : (name : List ℕ) (reserved : Bool) → is_reserved name ≡ reserved → IsName name
    → name_in (if reserved then 96 ∷ name ++ 96 ∷ [] else name) ≡ Some name
unfolding name_in
name_in-printed name true e h = ap Some (without_last-append name 96)
name_in-printed name false e h = rw (not_backquoted name h, e) refl

-- a name that is printed stands for itself
pub name_of-text : (name : List ℕ) → IsName name → name_of (word_token (name_text name)) ≡ Some name
unfolding name_of name_text
name_of-text name h = name_in-printed name (is_reserved name) refl h

-- digits, written with these bytes
abbrev pub whole_token : List ℕ → Lexeme
whole_token digits = record { kind = kind.Whole; text = digits }

-- digits that are a token by themselves
pub part_digits : (digits : List ℕ) → IsDigits digits → IsPart digits (whole_token digits ∷ [])
part_digits digits h = part_token kind.Whole digits
    (λ behind e. (record { some = h.some; decimal = h.decimal }, begins_none is_word_byte behind refl refl refl refl e))

pub digits_of-text : (digits : List ℕ) → IsDigits digits → digits_of (whole_token digits) ≡ Some digits
unfolding digits_of
digits_of-text digits h = ap Some h.shortest

-- a byte of a text in quotes: an escape, or the byte itself
data IsEscaped : ℕ → List ℕ → Type 0 where
  Escape : (byte letter : ℕ) → escaped_byte letter ≡ byte → is_escape letter ≡ true → IsEscaped byte (92 ∷ letter ∷ [])
  Itself : (byte : ℕ) → (byte == 39) ≡ false → (byte == 92) ≡ false → IsEscaped byte (byte ∷ [])

is_escaped : (byte : ℕ) → IsEscaped byte (escaped byte)
unfolding escaped is_escape
is_escaped byte = elim (eqb_tells byte 8) [
  | inl is ↦ subst (λ b. IsEscaped b (escaped b)) (sym is.1) (Escape 8 98 refl refl)
  | inr a ↦ elim (eqb_tells byte 12) [
    | inl is ↦ subst (λ b. IsEscaped b (escaped b)) (sym is.1) (Escape 12 102 refl refl)
    | inr b ↦ elim (eqb_tells byte 13) [
      | inl is ↦ subst (λ b. IsEscaped b (escaped b)) (sym is.1) (Escape 13 114 refl refl)
      | inr c ↦ elim (eqb_tells byte 10) [
        | inl is ↦ subst (λ b. IsEscaped b (escaped b)) (sym is.1) (Escape 10 110 refl refl)
        | inr d ↦ elim (eqb_tells byte 9) [
          | inl is ↦ subst (λ b. IsEscaped b (escaped b)) (sym is.1) (Escape 9 116 refl refl)
          | inr e ↦ elim (eqb_tells byte 0) [
            | inl is ↦ subst (λ b. IsEscaped b (escaped b)) (sym is.1) (Escape 0 48 refl refl)
            | inr f ↦ elim (eqb_tells byte 39) [
              | inl is ↦ subst (λ b. IsEscaped b (escaped b)) (sym is.1) (Escape 39 39 refl refl)
              | inr g ↦ elim (eqb_tells byte 92) [
                | inl is ↦ subst (λ b. IsEscaped b (escaped b)) (sym is.1) (Escape 92 92 refl refl)
                | inr i ↦ rw (a.0, b.0, c.0, d.0, e.0, f.0, g.0, i.0) (Itself byte g.0 i.0)
              ]
            ]
          ]
        ]
      ]
    ]
  ]
]

unquoted-front : (byte : ℕ) (spelling : List ℕ) → IsEscaped byte spelling → (rest : List ℕ)
    → unquoted false (spelling ++ rest) ≡ byte ∷ unquoted false rest
unquoted-front byte spelling (Escape b letter e h) rest = ap (λ x. x ∷ unquoted false rest) e
unquoted-front byte spelling (Itself b h k) rest = rw (h, k) refl

unquoted-rest : (text : List ℕ) → unquoted false (flat_map escaped text ++ 39 ∷ []) ≡ text
unquoted-rest [] = refl
unquoted-rest (byte ∷ text) =
    ap (λ x. unquoted false x) (append_assoc (escaped byte) (flat_map escaped text) (39 ∷ []))
    ∙ (unquoted-front byte (escaped byte) (is_escaped byte) (flat_map escaped text ++ 39 ∷ []) ∙ ap (λ x. byte ∷ x) (unquoted-rest text))

next_in_text-itself : (byte : ℕ) → (byte == 39) ≡ false → (byte == 92) ≡ false → next_in_text byte ≡ within.Text
next_in_text-itself byte h k = rw (h, k) refl

ends_text-front : (byte : ℕ) (spelling : List ℕ) → IsEscaped byte spelling → (rest : List ℕ)
    → ends_text within.Text (spelling ++ rest) ≡ ends_text within.Text rest
ends_text-front byte spelling (Escape b letter e h) rest = rw h refl
ends_text-front byte spelling (Itself b h k) rest = ap (λ place. ends_text place rest) (next_in_text-itself b h k)

ends_text-rest : (text : List ℕ) → ends_text within.Text (flat_map escaped text ++ 39 ∷ []) ≡ true
ends_text-rest [] = refl
ends_text-rest (byte ∷ text) =
    ap (λ x. ends_text within.Text x) (append_assoc (escaped byte) (flat_map escaped text) (39 ∷ []))
    ∙ (ends_text-front byte (escaped byte) (is_escaped byte) (flat_map escaped text ++ 39 ∷ []) ∙ ends_text-rest text)

-- a text in quotes, written with these bytes
abbrev pub quoted_token : List ℕ → Lexeme
quoted_token spelling = record { kind = kind.Quoted; text = spelling }

-- a text in quotes as it is printed
pub part_quoted : (text : List ℕ) → IsPart (quoted_text text) (quoted_token (quoted_text text) ∷ [])
part_quoted text = part_token kind.Quoted (quoted_text text)
    (λ behind e. (ends_text-rest text, begins_none (λ next. next == 39) behind refl refl refl refl e))

pub text_of-text : (text : List ℕ) → text_of (quoted_token (quoted_text text)) ≡ Some text
unfolding text_of
text_of-text text = ap Some (unquoted-rest text)

-- each word is the keyword of the same letters
pub is_keyword-word : (word : List ℕ) → IsTrue (is_keyword word (word_token word))
unfolding is_keyword
is_keyword-word word = (bytes_eq-Decides (str_to_ascii_lowercase word) (str_to_ascii_lowercase word)).1 refl

pub is_word-word : (word : List ℕ) → IsTrue (is_word word (word_token word))
unfolding is_word
is_word-word word = (bytes_eq-Decides word word).1 refl

pub is_sign-sign : (sign : List ℕ) → IsTrue (is_sign sign (sign_token sign))
unfolding is_sign
is_sign-sign sign = (bytes_eq-Decides sign sign).1 refl
