-- What comes first, and what does not.
use Rattle.std.proofs.Common.{◌≡◌, ℕ, List, [], Bool, true, false, ◌&&◌, refl}
use Rattle.std.specs.Prelude.{IsTrue}
use Rattle.std.specs.Str.{bytes_eq, str_to_ascii_lowercase}
use Rattle.std.proofs.lemmas.Slice.Eq.{bytes_eq-Decides}
use Rattle.chv_ast.specs.Lexemes.{Lexeme, is_word, is_sign, is_word_kind}
use Rattle.chv_ast.specs.Spellings.{keyword, word, sign, name}
use Rattle.chv_parse.specs.ExprReading.{sign_next, keyword_next}
use Rattle.chv_parse.specs.Reading.{next_is}
use Rattle.chv_parse.specs.StatementReading.{word_next}
use Rattle.chv_parse.proofs.ExprTokens.{both, word_kind, keyword-sign, keyword-keyword, sign-sign, name-stays}
use Rattle.chv_parse.proofs.ExactLemmas.{Isnt, Is, Leads, leads_marked, leads_meant}

-- a token that comes first, and no other one
pub keyword_isnt_keyword : (text other : List ℕ) {follows : List Lexeme → Type 0} → bytes_eq (str_to_ascii_lowercase text) (str_to_ascii_lowercase other) ≡ false
    → Leads (keyword text) follows (Isnt (keyword_next other))
unfolding next_is
keyword_isnt_keyword text other apart = leads_marked (λ token rest h k. keyword-keyword text other token apart h)

pub keyword_isnt_sign : (text other : List ℕ) {follows : List Lexeme → Type 0} → Leads (keyword text) follows (Isnt (sign_next other))
unfolding next_is
keyword_isnt_sign text other = leads_marked (λ token rest h k. keyword-sign text other token h)

pub keyword_is : (text : List ℕ) {follows : List Lexeme → Type 0} → Leads (keyword text) follows (Is (keyword_next text))
unfolding next_is
keyword_is text = leads_marked (λ token rest h k. h)

pub sign_is : (text : List ℕ) {follows : List Lexeme → Type 0} → Leads (sign text) follows (Is (sign_next text))
unfolding next_is
sign_is text = leads_marked (λ token rest h k. h)

pub sign_isnt_sign : (text other : List ℕ) {follows : List Lexeme → Type 0} → bytes_eq text other ≡ false → Leads (sign text) follows (Isnt (sign_next other))
unfolding next_is
sign_isnt_sign text other apart = leads_marked (λ token rest h k. sign-sign text other token apart h)

pub word_is : (text : List ℕ) {follows : List Lexeme → Type 0} → Leads (word text) follows (Is (word_next text))
unfolding next_is
word_is text = leads_marked (λ token rest h k. h)

-- a word is no sign
pub word-sign : (text other : List ℕ) (token : Lexeme) → IsTrue (is_word text token) → is_sign other token ≡ false
unfolding is_word is_sign
word-sign text other token h = rw (word_kind token.kind (both (is_word_kind token.kind) (bytes_eq token.text text) h).0) refl

pub word_isnt_sign : (text other : List ℕ) {follows : List Lexeme → Type 0} → Leads (word text) follows (Isnt (sign_next other))
unfolding next_is
word_isnt_sign text other = leads_marked (λ token rest h k. word-sign text other token h)

-- a word is no other word
pub word-word : (text other : List ℕ) (token : Lexeme) → bytes_eq text other ≡ false → IsTrue (is_word text token) → is_word other token ≡ false
unfolding is_word
word-word text other token apart h =
    let parts = both (is_word_kind token.kind) (bytes_eq token.text text) h in
    rw (word_kind token.kind parts.0, (bytes_eq-Decides token.text text).0 parts.1) apart

pub word_isnt_word : (text other : List ℕ) {follows : List Lexeme → Type 0} → bytes_eq text other ≡ false → Leads (word text) follows (Isnt (word_next other))
unfolding next_is
word_isnt_word text other apart = leads_marked (λ token rest h k. word-word text other token apart h)

-- a name is no sign
pub name_isnt_sign : (other : List ℕ) {follows : List Lexeme → Type 0} → Leads name follows (Isnt (sign_next other))
unfolding next_is
name_isnt_sign other = leads_meant (λ token rest a h k. (name-stays token a h).no_sign other)

-- nothing follows
abbrev pub AtEnd : List Lexeme → Type 0
AtEnd rest = rest ≡ []

-- where nothing follows, no test holds
pub end_isnt : (test : Lexeme → Bool) (rest : List Lexeme) → AtEnd rest → Isnt (next_is test) rest
unfolding next_is
end_isnt test rest e = rw e refl

-- what fails as a whole where its second part does
pub and_false : (b : Bool) → (b && false) ≡ false
and_false true = refl
and_false false = refl
