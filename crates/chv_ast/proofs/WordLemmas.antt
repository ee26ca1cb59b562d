-- What a token stands for, where its text is one of its kind.
use Rattle.std.proofs.Common.{◌≡◌, inl, inr, ℕ, Bool, true, false, cond, ◌==◌, ◌&&◌, nat_lt, List, [], ◌∷◌, ◌++◌, length, Some, None, refl, ap, sym, subst, ◌∙◌, arith}
use Rattle.std.proofs.lemmas.Bool.{cond-false, cond_both, ne_eqb, ltb-true}
use Rattle.std.specs.Prelude.{IsTrue}
use Rattle.chv_ast.specs.Lexemes.{Lexeme, is_reserved, without_last, name_in, without_zeros, is_word_kind, is_whole_kind, name_of, digits_of}
use Rattle.chv_ast.specs.Words.{begins_word, is_word_text, IsName, IsDigits, IsBackquoted, AreDigits, IsTextOf, IsSpelled}
use Rattle.chv_ast.specs.declared.token.TokenKind.{TokenKind}
use Rattle.chv_ast.specs.declared.token.TokenKind.TheVariants.{Word, Whole, Quoted, Sign}

without_last-append : (name : List ℕ) (last : ℕ) → without_last (name ++ last ∷ []) ≡ name
without_last-append [] last = refl
without_last-append (b ∷ []) last = refl
without_last-append (b ∷ c ∷ bytes) last = ap (λ (l : List ℕ). b ∷ l) (without_last-append (c ∷ bytes) last)

both_true : (a b : Bool) → IsTrue (a && b) → IsTrue a
both_true true b both = refl
both_true false b both = both

second_true : (a b : Bool) → IsTrue (a && b) → IsTrue b
second_true true b both = both
second_true false b both = cc

begins_bare : (b : ℕ) → IsTrue (begins_word b) → (b == 96) ≡ false
begins_bare b begins = ne_eqb b 96 (λ is. let wrong : false ≡ true = subst (λ (n : ℕ). IsTrue (begins_word n)) is begins in absurd cc)

taken : (reserved : Bool) (text name : List ℕ) → cond reserved None (Some text) ≡ Some name → text ≡ name
taken true text name is = cc
taken false text name is = cc

name_in-bare : (text name : List ℕ) → IsName text → name_in text ≡ Some name → IsName name
unfolding name_in is_word_text
name_in-bare [] name bare is = cc
name_in-bare (b ∷ bytes) name bare is =
    let begins : IsTrue (begins_word b) = both_true _ _ bare in
    let open' = cond-false (b == 96) _ _ (begins_bare b begins) in
    subst IsName (taken (is_reserved (b ∷ bytes)) (b ∷ bytes) name (sym open' ∙ is)) bare

name_in-backquoted : (text name : List ℕ) → IsBackquoted text → name_in text ≡ Some name → IsName name
unfolding name_in
name_in-backquoted text name quoted is =
    let at_text : Some (without_last (quoted.0 ++ 96 ∷ [])) ≡ Some name = subst (λ (l : List ℕ). name_in l ≡ Some name) quoted.2 is in
    let same : quoted.0 ≡ name = let e = without_last-append quoted.0 96 in cc in
    subst IsName same quoted.1

name_of-kind : (kind : TokenKind) (text name : List ℕ) → IsTextOf kind text → cond (is_word_kind kind) (name_in text) None ≡ Some name → IsName name
name_of-kind Word text name (inl bare) is = name_in-bare text name bare is
name_of-kind Word text name (inr quoted) is = name_in-backquoted text name quoted is
name_of-kind Whole text name spelled is = cc
name_of-kind Quoted text name spelled is = cc
name_of-kind Sign text name spelled is = cc

-- a token stands for a name
pub IsName-name_of : (token : Lexeme) (name : List ℕ) → IsSpelled token → name_of token ≡ Some name → IsName name
unfolding name_of
IsName-name_of token name spelled is = name_of-kind token.kind token.text name spelled is

-- digits without their leading zeros
IsDigits-without_zeros : (text : List ℕ) → AreDigits text → IsDigits (without_zeros text)
IsDigits-without_zeros [] digits = absurd (omega (arith, digits.0))
IsDigits-without_zeros (b ∷ bytes) digits =
    let more = (b == 48) && nat_lt 0 (length bytes) in
    cond_both more (without_zeros bytes) (b ∷ bytes) IsDigits
    (λ zero. IsDigits-without_zeros bytes (ltb-true 0 (length bytes) (second_true _ _ zero), second_true _ _ digits.1))
    (λ other. record { some = digits.0; decimal = digits.1; shortest = cond-false more (without_zeros bytes) (b ∷ bytes) other })

digits_of-kind : (kind : TokenKind) (text digits : List ℕ) → IsTextOf kind text → cond (is_whole_kind kind) (Some (without_zeros text)) None ≡ Some digits
    → IsDigits digits
digits_of-kind Word text digits spelled is = cc
digits_of-kind Whole text digits spelled is = let same : without_zeros text ≡ digits = cc in subst IsDigits same (IsDigits-without_zeros text spelled)
digits_of-kind Quoted text digits spelled is = cc
digits_of-kind Sign text digits spelled is = cc

-- a token stands for digits
pub IsDigits-digits_of : (token : Lexeme) (digits : List ℕ) → IsSpelled token → digits_of token ≡ Some digits → IsDigits digits
unfolding digits_of
IsDigits-digits_of token digits spelled is = digits_of-kind token.kind token.text digits spelled is
