-- Texts in quotes, byte by byte.
use Rattle.std.proofs.Common.{◌≡◌, ℕ, suc, ◌+◌, ◌<◌, ◌≤◌, true, false, List, [], ◌∷◌, ◌++◌, ◌==◌, length, get_or, take, drop, refl, ap, sym, subst, ◌∙◌, arith}
use Rattle.std.proofs.lemmas.Bool.{cond-true, cond-false, cond_both, and_parts, eq-eqb}
use Rattle.std.proofs.lemmas.List.{drop_more}
use Rattle.chv_lex.specs.Bytes.{begins}
use Rattle.chv_lex.specs.declared.text.Within.{Within}
use Rattle.chv_lex.specs.declared.text.Within.TheVariants as within
use Rattle.chv_lex.specs.Texts.{next_in_text, text_length, is_escape, ends_text}

-- a byte further in a text
pub text_on : (place later : Within) (bytes : List ℕ) (at total : ℕ) → at < length bytes → at + text_length place (drop at bytes) ≡ total
    → text_length place (get_or bytes at 0 ∷ drop (at + 1) bytes) ≡ 1 + text_length later (drop (at + 1) bytes)
    → at + 1 + text_length later (drop (at + 1) bytes) ≡ total
text_on place later bytes at total lt so_far step =
    let e = ap (λ (l : List ℕ). text_length place l) (drop_more bytes at 0 lt) in
    omega (arith, e, so_far, step)

-- the byte at such a place
pub in_text : (place later : Within) (byte : ℕ) (bytes : List ℕ) → place ≡ within.Text → later ≡ next_in_text byte
    → text_length place (byte ∷ bytes) ≡ 1 + text_length later bytes
in_text place later byte bytes is goes =
    ap (λ (p : Within). text_length p (byte ∷ bytes)) is ∙ ap (λ (p : Within). 1 + text_length p bytes) (sym goes)

pub behind_quote : (place later : Within) (byte : ℕ) (bytes : List ℕ) → place ≡ within.Quote → later ≡ within.Text → byte ≡ 39
    → text_length place (byte ∷ bytes) ≡ 1 + text_length later bytes
behind_quote place later byte bytes is goes quote =
    ap (λ (p : Within). text_length p (byte ∷ bytes)) is
    ∙ cond-true (byte == 39) (1 + text_length within.Text bytes) 0 (eq-eqb byte 39 quote)
    ∙ ap (λ (p : Within). 1 + text_length p bytes) (sym goes)

pub behind_backslash : (place later : Within) (byte : ℕ) (bytes : List ℕ) → place ≡ within.Backslash → later ≡ within.Text
    → text_length place (byte ∷ bytes) ≡ 1 + text_length later bytes
behind_backslash place later byte bytes is goes =
    ap (λ (p : Within). text_length p (byte ∷ bytes)) is ∙ ap (λ (p : Within). 1 + text_length p bytes) (sym goes)

-- a text that ends goes on no further
pub text_within : (place : Within) (bytes : List ℕ) → text_length place bytes ≤ length bytes
text_within place [] = omega arith
text_within within.Text (byte ∷ bytes) = let rest = text_within (next_in_text byte) bytes in omega arith
text_within within.Quote (byte ∷ bytes) =
    let rest = text_within within.Text bytes in
    cond_both (byte == 39) (1 + text_length within.Text bytes) 0 (λ n. n ≤ suc (length bytes)) (λ _. omega arith) (λ _. omega arith)
text_within within.Backslash (byte ∷ bytes) = let rest = text_within within.Text bytes in omega arith

-- what holds of the first so many bytes and of the others, where there is one more in front
abbrev Closes : Within → List ℕ → ℕ → Type 0
Closes place bytes n = ends_text place (take n bytes) ≡ true → begins (λ next. next == 39) (drop n bytes) ≡ false

one_more : (place : Within) (bytes : List ℕ) (n : ℕ) → Closes place bytes (suc n) → Closes place bytes (1 + n)
one_more place bytes n closes = let e : suc n ≡ 1 + n = omega arith in subst (λ k. Closes place bytes k) e closes

-- behind a text that ends stands no quote
pub text_closed : (place : Within) (bytes : List ℕ) → Closes place bytes (text_length place bytes)
text_closed within.Text [] ends = refl
text_closed within.Quote [] ends = refl
text_closed within.Backslash [] ends = refl
text_closed within.Text (byte ∷ bytes) ends =
    one_more within.Text (byte ∷ bytes) (text_length (next_in_text byte) bytes) (λ e. text_closed (next_in_text byte) bytes e) ends
text_closed within.Quote (byte ∷ bytes) ends =
    cond_both (byte == 39) (1 + text_length within.Text bytes) 0 (λ n. Closes within.Quote (byte ∷ bytes) n)
    (λ _. one_more within.Quote (byte ∷ bytes) (text_length within.Text bytes)
    (λ e. text_closed within.Text bytes (and_parts (byte == 39) (ends_text within.Text (take (text_length within.Text bytes) bytes)) e).1))
    (λ other _. other) ends
text_closed within.Backslash (byte ∷ bytes) ends =
    one_more within.Backslash (byte ∷ bytes) (text_length within.Text bytes)
    (λ e. text_closed within.Text bytes (and_parts (is_escape byte) (ends_text within.Text (take (text_length within.Text bytes) bytes)) e).1) ends

-- a text that ends goes on just so far, where no quote stands behind it
pub text_whole : (place : Within) (spelling behind : List ℕ) → ends_text place spelling ≡ true → begins (λ next. next == 39) behind ≡ false
    → text_length place (spelling ++ behind) ≡ length spelling
text_whole within.Text [] behind ends stops = cc
text_whole within.Backslash [] behind ends stops = cc
text_whole within.Quote [] [] ends stops = refl
text_whole within.Quote [] (byte ∷ bytes) ends stops = cond-false (byte == 39) (1 + text_length within.Text bytes) 0 stops
text_whole within.Text (byte ∷ spelling) behind ends stops =
    let rest = text_whole (next_in_text byte) spelling behind ends stops in omega arith
text_whole within.Quote (byte ∷ spelling) behind ends stops =
    let parts = and_parts (byte == 39) (ends_text within.Text spelling) ends in
    let rest = text_whole within.Text spelling behind parts.1 stops in
    cond-true (byte == 39) (1 + text_length within.Text (spelling ++ behind)) 0 parts.0 ∙ omega arith
text_whole within.Backslash (byte ∷ spelling) behind ends stops =
    let parts = and_parts (is_escape byte) (ends_text within.Text spelling) ends in
    let rest = text_whole within.Text spelling behind parts.1 stops in
    omega arith
