-- Which bytes begin which tokens.
use Rattle.std.proofs.Common.{◌≡◌, ℕ, true, false, ◌&&◌, ◌==◌, List, ◌∷◌, refl, arith}
use Rattle.std.proofs.lemmas.Bool.Decides.{nat_tests}
use Rattle.std.specs.Char.{is_ascii_digit}
use Rattle.chv_ast.specs.Words.{begins_word, is_word_byte}
use Rattle.chv_lex.specs.Bytes.{is_white, begins}
use Rattle.chv_lex.specs.Blanks.{comment_length, blank_length}
use Rattle.chv_lex.specs.Spellings.{is_sign_byte, is_sign_pair}

-- a byte that begins no white space, no comment, no text and no name in backquotes
pub record IsPlain (byte : ℕ) : Type 0 where
  pub white : is_white byte ≡ false
  pub line : (byte == 45) ≡ false
  pub block : (byte == 47) ≡ false
  pub quote : (byte == 39) ≡ false
  pub backquote : (byte == 96) ≡ false

-- what begins a word begins no number
pub word_plain : (byte : ℕ) → begins_word byte ≡ true → IsPlain byte × (is_ascii_digit byte ≡ false)
unfolding is_white
word_plain byte is = (
  record {
    white = grind (arith, nat_tests);
    line = grind (arith, nat_tests);
    block = grind (arith, nat_tests);
    quote = grind (arith, nat_tests);
    backquote = grind (arith, nat_tests);
  },
  grind (arith, nat_tests),
)

pub digit_plain : (byte : ℕ) → is_ascii_digit byte ≡ true → IsPlain byte
unfolding is_white
digit_plain byte is = record {
  white = grind (arith, nat_tests);
  line = grind (arith, nat_tests);
  block = grind (arith, nat_tests);
  quote = grind (arith, nat_tests);
  backquote = grind (arith, nat_tests);
}

-- what begins a word goes on with one too
pub word_goes_on : (byte : ℕ) → begins_word byte ≡ true → is_word_byte byte ≡ true
word_goes_on byte is = grind (arith, nat_tests)

-- a digit goes on a word
pub digit_in_word : (byte : ℕ) → is_word_byte byte ≡ false → is_ascii_digit byte ≡ false
digit_in_word byte is = grind (arith, nat_tests)

-- a sign begins nothing else, but `-` may begin a comment
pub record IsSignByte (byte : ℕ) : Type 0 where
  pub white : is_white byte ≡ false
  pub block : (byte == 47) ≡ false
  pub quote : (byte == 39) ≡ false
  pub backquote : (byte == 96) ≡ false
  pub digit : is_ascii_digit byte ≡ false
  pub word : begins_word byte ≡ false

pub sign_byte : (byte : ℕ) → is_sign_byte byte ≡ true → IsSignByte byte
unfolding is_white is_sign_byte
sign_byte byte is = record {
  white = grind (arith, nat_tests);
  block = grind (arith, nat_tests);
  quote = grind (arith, nat_tests);
  backquote = grind (arith, nat_tests);
  digit = grind (arith, nat_tests);
  word = grind (arith, nat_tests);
}

pub sign_pair : (byte next : ℕ) → is_sign_pair byte next ≡ true → IsSignByte byte × ((byte == 45) ≡ false)
unfolding is_white is_sign_pair
sign_pair byte next is = (
  record {
    white = grind (arith, nat_tests);
    block = grind (arith, nat_tests);
    quote = grind (arith, nat_tests);
    backquote = grind (arith, nat_tests);
    digit = grind (arith, nat_tests);
    word = grind (arith, nat_tests);
  },
  grind (arith, nat_tests),
)

-- no white space and no comment
pub no_blank : (byte : ℕ) (bytes : List ℕ) → is_white byte ≡ false → ((byte == 45) && begins (λ next. next == 45) bytes) ≡ false → (byte == 47) ≡ false → blank_length (byte ∷ bytes) ≡ 0
unfolding comment_length
no_blank byte bytes white line block = rw (white, line, block) refl
