-- The token at the front of a text: what is found is one, and one that is there is found.
use Rattle.std.proofs.Common.{◌≡◌, inl, inr, ℕ, zero, suc, ◌+◌, ◌<◌, ◌≤◌, Bool, true, false, cond, not, ◌&&◌, ◌==◌, nat_le, nat_lt, List, [], ◌∷◌, ◌++◌, length, take, drop, refl, ap, sym, subst, ◌∙◌, arith, append_assoc, length-append}
use Rattle.std.proofs.lemmas.Bool.{cond-true, cond-false, cond_both, and_parts, and_from, and_left, and_right, or_parts, not_from_false, eqb-true, le-leb, leb-true, lt-ltb, ltb-true}
use Rattle.std.proofs.lemmas.List.{drop_at, take_at, length-take-le}
use Rattle.std.proofs.lemmas.List.Sums.{prefix_len-le-length}
use Rattle.std.specs.Char.{is_ascii_digit}
use Rattle.std.specs.List.{list_all, prefix_len}
use Rattle.std.specs.Prelude.{Option, Some, None, option_and_then, ⊤, IsTrue}
use Rattle.chv_ast.specs.declared.token.TokenKind.{TokenKind}
use Rattle.chv_ast.specs.declared.token.TokenKind.TheVariants as kind
use Rattle.chv_ast.specs.Words.{begins_word, is_word_byte, is_word_text, IsName}
use Rattle.chv_lex.specs.declared.text.Within.TheVariants as within
use Rattle.chv_lex.specs.Blanks.{comment_length, blank_length}
use Rattle.chv_lex.specs.Bytes.{is_white, begins}
use Rattle.chv_lex.specs.Reading.{word_length, named_length, whole_length, quoted_length, sign_length, sized, token_length}
use Rattle.chv_lex.specs.Spellings.{in_backquotes, IsWhole, is_sign_byte, is_sign_pair, is_sign, goes_on, IsToken}
use Rattle.chv_lex.specs.Texts.{text_length, ends_text, is_quoted}
use Rattle.chv_lex.proofs.ClassLemmas.{IsPlain, word_plain, word_goes_on, digit_plain, digit_in_word, sign_byte, sign_pair, no_blank}
use Rattle.chv_lex.proofs.TextLemmas.{text_within, text_closed, text_whole}

-- ---- the bytes at the front that pass

prefix_passes : (p : ℕ → Bool) (xs : List ℕ) → list_all p (take (prefix_len p xs) xs) ≡ true
prefix_passes p [] = refl
prefix_passes p (x ∷ xs) =
    let n = prefix_len p xs in
    let e : suc n ≡ 1 + n = omega arith in
    cond_both (p x) (1 + n) 0 (λ k. list_all p (take k (x ∷ xs)) ≡ true)
    (λ is. subst (λ k. list_all p (take k (x ∷ xs)) ≡ true) e (and_from (p x) (list_all p (take n xs)) is (prefix_passes p xs))) (λ _. refl)

prefix_stops : (p : ℕ → Bool) (xs : List ℕ) → begins p (drop (prefix_len p xs) xs) ≡ false
prefix_stops p [] = refl
prefix_stops p (x ∷ xs) =
    let n = prefix_len p xs in
    let e : suc n ≡ 1 + n = omega arith in
    cond_both (p x) (1 + n) 0 (λ k. begins p (drop k (x ∷ xs)) ≡ false)
    (λ _. subst (λ k. begins p (drop k (x ∷ xs)) ≡ false) e (prefix_stops p xs)) (λ is. is)

prefix_whole : (p : ℕ → Bool) (xs ys : List ℕ) → list_all p xs ≡ true → begins p ys ≡ false → prefix_len p (xs ++ ys) ≡ length xs
prefix_whole p [] [] all stops = refl
prefix_whole p [] (y ∷ ys) all stops = cond-false (p y) (1 + prefix_len p ys) 0 stops
prefix_whole p (x ∷ xs) ys all stops =
    let parts = and_parts (p x) (list_all p xs) all in
    let rest = prefix_whole p xs ys parts.1 stops in
    cond-true (p x) (1 + prefix_len p (xs ++ ys)) 0 parts.0 ∙ omega arith

prefix_some : (p : ℕ → Bool) (x : ℕ) (xs : List ℕ) → p x ≡ true → prefix_len p (x ∷ xs) ≡ suc (prefix_len p xs)
prefix_some p x xs is = cond-true (p x) (1 + prefix_len p xs) 0 is ∙ omega arith

-- ---- words

word_taken : (text : List ℕ) → (begins begins_word text && nat_le (prefix_len is_word_byte text) 64) ≡ true
    → IsName (take (prefix_len is_word_byte text) text) × (0 < prefix_len is_word_byte text)
unfolding is_word_text
word_taken [] is = cc
word_taken (byte ∷ bytes) is =
    let parts = and_parts (begins_word byte) (nat_le (prefix_len is_word_byte (byte ∷ bytes)) 64) is in
    let n = prefix_len is_word_byte bytes in
    let e = prefix_some is_word_byte byte bytes (word_goes_on byte parts.0) in
    let most = leb-true (prefix_len is_word_byte (byte ∷ bytes)) 64 parts.1 in (
      subst (λ k. IsName (take k (byte ∷ bytes))) (sym e)
          (and_from (begins_word byte) (list_all is_word_byte (take n bytes) && nat_lt (length (take n bytes)) 64) parts.0
          (and_from (list_all is_word_byte (take n bytes)) (nat_lt (length (take n bytes)) 64) (prefix_passes is_word_byte bytes)
          (lt-ltb (length (take n bytes)) 64 (omega (arith, most, e, length-take-le n bytes (prefix_len-le-length is_word_byte bytes)))))),
      omega (arith, e),
    )

word_whole : (word behind : List ℕ) → IsName word → begins is_word_byte behind ≡ false → word_length (word ++ behind) ≡ Some (length word)
unfolding word_length is_word_text
word_whole [] behind is stops = cc
word_whole (byte ∷ bytes) behind is stops =
    let parts = and_parts (begins_word byte) (list_all is_word_byte bytes && nat_lt (length bytes) 64) is in
    let rest = and_parts (list_all is_word_byte bytes) (nat_lt (length bytes) 64) parts.1 in
    let n = prefix_len is_word_byte (byte ∷ bytes ++ behind) in
    let e : n ≡ length (byte ∷ bytes) =
    prefix_whole is_word_byte (byte ∷ bytes) behind (and_from (is_word_byte byte) (list_all is_word_byte bytes) (word_goes_on byte parts.0) rest.0) stops in
    cond-true (begins_word byte && nat_le n 64) (Some n) None
    (and_from (begins_word byte) (nat_le n 64) parts.0 (le-leb n 64 (omega (arith, e, ltb-true (length bytes) 64 rest.1))))
    ∙ ap Some e

-- ---- what is found is a token

-- a length with a kind fits the front of a text
abbrev pub Found : List ℕ → Option (TokenKind × ℕ) → Type 0
Found text None = ⊤
Found text (Some size) = (0 < size.1) × (size.1 ≤ length text) × IsToken size.0 (take size.1 text) (drop size.1 text)

found_at : (text : List ℕ) (kind : TokenKind) (m n : ℕ) → m ≡ n → Found text (Some (kind, m)) → Found text (Some (kind, n))
found_at text kind m n e found = subst (λ k. Found text (Some (kind, k))) e found

found_word : (text : List ℕ) → Found text (sized kind.Word 0 (word_length text))
unfolding word_length
found_word text =
    let n = prefix_len is_word_byte text in
    cond_both (begins begins_word text && nat_le n 64) (Some n) None (λ (o : Option ℕ). Found text (sized kind.Word 0 o))
    (λ is. found_at text kind.Word n (0 + n) (omega arith)
    ((word_taken text is).1, prefix_len-le-length is_word_byte text, inl ((word_taken text is).0, prefix_stops is_word_byte text)))
    (λ _. tt)

found_whole : (byte : ℕ) (bytes : List ℕ) → is_ascii_digit byte ≡ true → Found (byte ∷ bytes) (sized kind.Whole 0 (whole_length (byte ∷ bytes)))
unfolding whole_length
found_whole byte bytes is =
    let text = byte ∷ bytes in
    let n = prefix_len is_ascii_digit text in
    let some : n ≡ suc (prefix_len is_ascii_digit bytes) = prefix_some is_ascii_digit byte bytes is in
    let most = prefix_len-le-length is_ascii_digit text in
    cond_both (begins is_word_byte (drop n text)) None (Some n) (λ (o : Option ℕ). Found text (sized kind.Whole 0 o))
    (λ _. tt)
    (λ stops. found_at text kind.Whole n (0 + n) (omega arith) (
      omega (arith, some),
      most,
      (record { some = omega (arith, some, length-take-le n text most); decimal = prefix_passes is_ascii_digit text }, stops),
    ))

found_quoted : (byte : ℕ) (bytes : List ℕ) → (byte == 39) ≡ true → Found (byte ∷ bytes) (sized kind.Quoted 1 (quoted_length bytes))
unfolding quoted_length
found_quoted byte bytes is =
    let n = text_length within.Text bytes in
    let most = text_within within.Text bytes in
    cond_both (ends_text within.Text (take n bytes)) (Some n) None (λ (o : Option ℕ). Found (byte ∷ bytes) (sized kind.Quoted 1 o))
    (λ ends. found_at (byte ∷ bytes) kind.Quoted (suc n) (1 + n) (omega arith) (
      omega arith,
      omega (arith, most),
      (and_from (byte == 39) (ends_text within.Text (take n bytes)) is ends, text_closed within.Text bytes ends),
    ))
    (λ _. tt)

-- a backquote behind so many bytes
closed_name : (n : ℕ) (bytes : List ℕ) → begins (λ next. next == 96) (drop n bytes) ≡ true → (take (suc n) bytes ≡ take n bytes ++ 96 ∷ []) × (n < length bytes)
closed_name zero [] is = cc
closed_name zero (byte ∷ bytes) is = (ap (λ (b : ℕ). b ∷ []) (eqb-true byte 96 is), omega arith)
closed_name (suc n) [] is = cc
closed_name (suc n) (byte ∷ bytes) is =
    let rest = closed_name n bytes is in (ap (λ (l : List ℕ). byte ∷ l) rest.0, omega (arith, rest.1))

found_named : (byte : ℕ) (bytes : List ℕ) → (byte == 96) ≡ true → Found (byte ∷ bytes) (sized kind.Word 1 (named_length bytes))
unfolding named_length word_length
found_named byte bytes is =
    let n = prefix_len is_word_byte bytes in
    let close : ℕ → Option ℕ = λ k. cond (begins (λ next. next == 96) (drop k bytes)) (Some (k + 1)) None in
    cond_both (begins begins_word bytes && nat_le n 64) (Some n) None (λ (o : Option ℕ). Found (byte ∷ bytes) (sized kind.Word 1 (option_and_then close o)))
    (λ word. cond_both (begins (λ next. next == 96) (drop n bytes)) (Some (n + 1)) None (λ (o : Option ℕ). Found (byte ∷ bytes) (sized kind.Word 1 o))
    (λ closed.
    let ends = closed_name n bytes closed in
    found_at (byte ∷ bytes) kind.Word (suc (suc n)) (1 + (n + 1)) (omega arith) (
      omega arith,
      omega (arith, ends.1),
      inr (take n bytes, (word_taken bytes word).0, ap (λ (b : ℕ). b ∷ take (suc n) bytes) (eqb-true byte 96 is) ∙ ap (λ (l : List ℕ). 96 ∷ l) ends.0),
    ))
    (λ _. tt))
    (λ _. tt)

false_from_not : (b : Bool) → not b ≡ true → b ≡ false
false_from_not true is = cc
false_from_not false is = refl

-- nothing makes a sign of two bytes longer
pair_stops : (byte next : ℕ) (behind : List ℕ) → begins (goes_on (byte ∷ next ∷ [])) behind ≡ false
pair_stops byte next [] = refl
pair_stops byte next (other ∷ behind) = refl

found_sign : (byte : ℕ) (bytes : List ℕ) → Found (byte ∷ bytes) (sized kind.Sign 0 (sign_length (byte ∷ bytes)))
unfolding sign_length
found_sign byte [] =
    cond_both (is_sign_byte byte && true) (Some 1) None (λ (o : Option ℕ). Found (byte ∷ []) (sized kind.Sign 0 o))
    (λ is. (omega arith, omega arith, ((and_parts (is_sign_byte byte) true is).0, refl))) (λ _. tt)
found_sign byte (next ∷ bytes) =
    let longer = goes_on (byte ∷ []) next in
    let P = λ (o : Option ℕ). Found (byte ∷ next ∷ bytes) (sized kind.Sign 0 o) in
    cond_both (is_sign_pair byte next) (Some 2) (cond (is_sign_byte byte && not longer) (Some 1) None) P
    (λ is. (omega arith, omega arith, (is, pair_stops byte next bytes)))
    (λ _. cond_both (is_sign_byte byte && not longer) (Some 1) None P
    (λ is. (omega arith, omega arith, ((and_parts (is_sign_byte byte) (not longer) is).0, false_from_not longer (and_parts (is_sign_byte byte) (not longer) is).1)))
    (λ _. tt))

pub found : (text : List ℕ) → Found text (token_length text)
unfolding token_length
found [] = tt
found (byte ∷ bytes) =
    let text = byte ∷ bytes in
    let P = λ (o : Option (TokenKind × ℕ)). Found text o in
    let sign = sized kind.Sign 0 (sign_length text) in
    let word = sized kind.Word 0 (word_length text) in
    let whole = sized kind.Whole 0 (whole_length text) in
    let named = sized kind.Word 1 (named_length bytes) in
    let quoted = sized kind.Quoted 1 (quoted_length bytes) in
    let at_word = cond (begins_word byte) word sign in
    let at_digit = cond (is_ascii_digit byte) whole at_word in
    cond_both (byte == 39) quoted (cond (byte == 96) named at_digit) P (λ is. found_quoted byte bytes is)
    (λ _. cond_both (byte == 96) named at_digit P (λ is. found_named byte bytes is)
    (λ _. cond_both (is_ascii_digit byte) whole at_word P (λ is. found_whole byte bytes is)
    (λ _. cond_both (begins_word byte) word sign P (λ _. found_word text) (λ _. found_sign byte bytes))))

-- ---- a token that is there is found

-- a text whose first bytes are these of a token
pub record IsFound (kind : TokenKind) (text : List ℕ) (size : ℕ) : Type 0 where
  pub read : token_length text ≡ Some (kind, size)
  pub no_blank : blank_length text ≡ 0
  pub some : 0 < size

sized_is : (kind : TokenKind) (more : ℕ) (length : Option ℕ) (m n : ℕ) → length ≡ Some m → more + m ≡ n → sized kind more length ≡ Some (kind, n)
sized_is kind more length m n is e = ap (λ (o : Option ℕ). sized kind more o) is ∙ ap (λ (k : ℕ). Some (kind, k)) e

plain_front : (byte : ℕ) (bytes : List ℕ) → IsPlain byte → blank_length (byte ∷ bytes) ≡ 0
plain_front byte bytes plain = no_blank byte bytes plain.white (and_left (byte == 45) (begins (λ next. next == 45) bytes) plain.line) plain.block

again_word : (word behind : List ℕ) → IsName word → begins is_word_byte behind ≡ false → IsFound kind.Word (word ++ behind) (length word)
unfolding token_length is_word_text
again_word [] behind is stops = cc
again_word (byte ∷ bytes) behind is stops =
    let first = (and_parts (begins_word byte) (list_all is_word_byte bytes && nat_lt (length bytes) 64) is).0 in
    let plain = word_plain byte first in
    let size = sized_is kind.Word 0 (word_length (byte ∷ bytes ++ behind)) (length (byte ∷ bytes)) (length (byte ∷ bytes)) (word_whole (byte ∷ bytes) behind is stops) (omega arith) in
    record {
      read = rw (plain.0.quote, plain.0.backquote, plain.1, first) size;
      no_blank = plain_front byte (bytes ++ behind) plain.0;
      some = omega arith;
    }

again_named : (word behind : List ℕ) → IsName word → IsFound kind.Word (in_backquotes word ++ behind) (length (in_backquotes word))
unfolding token_length named_length is_white comment_length
again_named word behind is =
    let n = length word in
    let text = (word ++ 96 ∷ []) ++ behind in
    let e : text ≡ word ++ 96 ∷ behind = append_assoc word (96 ∷ []) behind in
    let close : ℕ → Option ℕ = λ k. cond (begins (λ next. next == 96) (drop k text)) (Some (k + 1)) None in
    let found : word_length text ≡ Some n = ap word_length e ∙ word_whole word (96 ∷ behind) is refl in
    let closed : begins (λ next. next == 96) (drop n text) ≡ true =
    ap (λ (l : List ℕ). begins (λ next. next == 96) (drop n l)) e ∙ ap (λ (l : List ℕ). begins (λ next. next == 96) l) (drop_at word (96 ∷ behind) n refl) in
    record {
      read = sized_is kind.Word 1 (named_length text) (n + 1) (length (in_backquotes word))
          (ap (λ (o : Option ℕ). option_and_then close o) found ∙ cond-true (begins (λ next. next == 96) (drop n text)) (Some (n + 1)) None closed)
          (omega (arith, length-append word (96 ∷ [])));
      no_blank = refl;
      some = omega arith;
    }

no_digit : (behind : List ℕ) → begins is_word_byte behind ≡ false → begins is_ascii_digit behind ≡ false
no_digit [] stops = refl
no_digit (byte ∷ bytes) stops = digit_in_word byte stops

at_digit : (byte : ℕ) (bytes : List ℕ) → IsPlain byte → is_ascii_digit byte ≡ true → token_length (byte ∷ bytes) ≡ sized kind.Whole 0 (whole_length (byte ∷ bytes))
unfolding token_length
at_digit byte bytes plain is = rw (plain.quote, plain.backquote, is) refl

again_whole : (digits behind : List ℕ) → IsWhole digits → begins is_word_byte behind ≡ false → IsFound kind.Whole (digits ++ behind) (length digits)
unfolding whole_length
again_whole [] behind is stops = absurd (omega (arith, is.some))
again_whole (byte ∷ bytes) behind is stops =
    let digits = byte ∷ bytes in
    let text = digits ++ behind in
    let first = (and_parts (is_ascii_digit byte) (list_all is_ascii_digit bytes) is.decimal).0 in
    let plain = digit_plain byte first in
    let n = prefix_len is_ascii_digit text in
    let e : n ≡ length digits = prefix_whole is_ascii_digit digits behind is.decimal (no_digit behind stops) in
    let ended : begins is_word_byte (drop n text) ≡ false =
    ap (λ (l : List ℕ). begins is_word_byte l) (drop_at digits behind n (sym e)) ∙ stops in
    let size = sized_is kind.Whole 0 (whole_length text) n (length digits)
    (cond-false (begins is_word_byte (drop n text)) None (Some n) ended) (omega (arith, e)) in
    record {
      read = at_digit byte (bytes ++ behind) plain first ∙ size;
      no_blank = plain_front byte (bytes ++ behind) plain;
      some = omega arith;
    }

quote_front : (byte : ℕ) (bytes : List ℕ) → (byte == 39) ≡ true → blank_length (byte ∷ bytes) ≡ 0
unfolding is_white comment_length
quote_front byte bytes is = subst (λ b. blank_length (b ∷ bytes) ≡ 0) (sym (eqb-true byte 39 is)) refl

again_quoted : (spelling behind : List ℕ) → IsTrue (is_quoted spelling) → begins (λ next. next == 39) behind ≡ false → IsFound kind.Quoted (spelling ++ behind) (length spelling)
unfolding token_length quoted_length
again_quoted [] behind is stops = cc
again_quoted (byte ∷ bytes) behind is stops =
    let parts = and_parts (byte == 39) (ends_text within.Text bytes) is in
    let text = bytes ++ behind in
    let n = text_length within.Text text in
    let e : n ≡ length bytes = text_whole within.Text bytes behind parts.1 stops in
    let ends : ends_text within.Text (take n text) ≡ true =
    ap (λ (l : List ℕ). ends_text within.Text l) (take_at bytes behind n (sym e)) ∙ parts.1 in
    let size = sized_is kind.Quoted 1 (quoted_length text) n (length (byte ∷ bytes)) (cond-true (ends_text within.Text (take n text)) (Some n) None ends) (omega (arith, e)) in
    record {
      read = rw parts.0 size;
      no_blank = quote_front byte text parts.0;
      some = omega arith;
    }

sign_alone : (byte : ℕ) (behind : List ℕ) → is_sign_byte byte ≡ true → begins (goes_on (byte ∷ [])) behind ≡ false
    → (sign_length (byte ∷ behind) ≡ Some 1) × (((byte == 45) && begins (λ next. next == 45) behind) ≡ false)
unfolding sign_length
sign_alone byte [] is stops = (cond-true (is_sign_byte byte && true) (Some 1) None (and_from (is_sign_byte byte) true is refl), and_right (byte == 45) false refl)
sign_alone byte (next ∷ behind) is stops =
    let longer = goes_on (byte ∷ []) next in
    let parts = or_parts (is_sign_pair byte next) ((byte == 45) && (next == 45)) stops in (
      cond-false (is_sign_pair byte next) (Some 2) (cond (is_sign_byte byte && not longer) (Some 1) None) parts.0
          ∙ cond-true (is_sign_byte byte && not longer) (Some 1) None (and_from (is_sign_byte byte) (not longer) is (not_from_false longer stops)),
      parts.1,
    )

again_sign : (spelling behind : List ℕ) → IsTrue (is_sign spelling) → begins (goes_on spelling) behind ≡ false → IsFound kind.Sign (spelling ++ behind) (length spelling)
unfolding token_length sign_length
again_sign [] behind is stops = cc
again_sign (byte ∷ []) behind is stops =
    let class = sign_byte byte is in
    let alone = sign_alone byte behind is stops in
    record {
      read = rw (class.quote, class.backquote, class.digit, class.word) (sized_is kind.Sign 0 (sign_length (byte ∷ behind)) 1 1 alone.0 (omega arith));
      no_blank = no_blank byte behind class.white alone.1 class.block;
      some = omega arith;
    }
again_sign (byte ∷ next ∷ []) behind is stops =
    let class = sign_pair byte next is in
    let text = next ∷ behind in
    let pair : sign_length (byte ∷ text) ≡ Some 2 = cond-true (is_sign_pair byte next) (Some 2) (cond (is_sign_byte byte && not (goes_on (byte ∷ []) next)) (Some 1) None) is in
    record {
      read = rw (class.0.quote, class.0.backquote, class.0.digit, class.0.word) (sized_is kind.Sign 0 (sign_length (byte ∷ text)) 2 2 pair (omega arith));
      no_blank = no_blank byte text class.0.white (and_left (byte == 45) (begins (λ b. b == 45) text) class.1) class.0.block;
      some = omega arith;
    }
again_sign (byte ∷ next ∷ other ∷ more) behind is stops = cc

pub again : (kind : TokenKind) (spelling behind : List ℕ) → IsToken kind spelling behind → IsFound kind (spelling ++ behind) (length spelling)
again kind.Word spelling behind (inl bare) = again_word spelling behind bare.0 bare.1
again kind.Word spelling behind (inr named) =
    subst (λ (l : List ℕ). IsFound kind.Word (l ++ behind) (length l)) (sym named.2) (again_named named.0 behind named.1)
again kind.Whole spelling behind is = again_whole spelling behind is.0 is.1
again kind.Quoted spelling behind is = again_quoted spelling behind is.0 is.1
again kind.Sign spelling behind is = again_sign spelling behind is.0 is.1
