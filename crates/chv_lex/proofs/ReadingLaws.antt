-- The tokens of a piece, as a function of it.
use Rattle.std.proofs.Common.{◌≡◌, ℕ, zero, suc, ◌+◌, ◌-◌, ◌<◌, ◌≤◌, Bool, true, false, cond, nat_lt, List, [], ◌∷◌, ◌++◌, length, length-append, take, take-append-drop, drop, Option, Some, None, refl, ap, sym, subst, ◌∙◌, arith}
use Rattle.std.proofs.lemmas.Bool.Decides.{nat_tests}
use Rattle.std.proofs.lemmas.List.{drop_at}
use Rattle.std.proofs.lemmas.Option.{none-some}
use Rattle.std.specs.Option.{option_map, option_and_then}
use Rattle.chv_ast.specs.declared.token.TokenKind.{TokenKind}
use Rattle.chv_lex.specs.declared.token.Token.{Token}
use Rattle.chv_lex.specs.Blanks.{blank_length}
use Rattle.chv_lex.specs.Reading.{token_length}
use Rattle.chv_lex.specs.Spellings.{IsToken}
use Rattle.chv_lex.specs.Tokens.{token_at, Cut, Done, Blank, Taken, Stuck, Bad, BehindBlank, BehindToken, tokens_from, tokens_of}
use Rattle.chv_lex.proofs.BlankLemmas.{blank_within}
use Rattle.chv_lex.proofs.SpellingLemmas.{IsFound, again}
use Rattle.chv_lex.proofs.TokenLemmas.{token_taken, token_on}

-- bytes that belong to what stands before are passed over
passed : (left at : ℕ) (text : List ℕ) → left ≤ length text → tokens_from left at text ≡ tokens_from 0 (at + left) (drop left text)
passed zero at text within = ap (λ (n : ℕ). tokens_from 0 n text) (omega arith)
passed (suc left) at [] within = absurd (omega (arith, within))
passed (suc left) at (byte ∷ bytes) within =
    passed left (at + 1) bytes (omega (arith, within)) ∙ ap (λ (n : ℕ). tokens_from 0 n (drop left bytes)) (omega arith)

-- what is read behind the first of some bytes
behind_first : (size at byte : ℕ) (bytes : List ℕ) → 0 < size → size ≤ length (byte ∷ bytes)
    → tokens_from (size - 1) (at + 1) bytes ≡ tokens_from 0 (at + size) (drop size (byte ∷ bytes))
behind_first zero at byte bytes some within = absurd (omega (arith, some))
behind_first (suc size) at byte bytes some within =
    ap (λ (n : ℕ). tokens_from n (at + 1) bytes) (omega arith)
    ∙ passed size (at + 1) bytes (omega (arith, within))
    ∙ ap (λ (n : ℕ). tokens_from 0 n (drop size bytes)) (omega arith)

-- white space or a comment is passed over
reads_blank : (at : ℕ) (text : List ℕ) → 0 < blank_length text → tokens_from 0 at text ≡ tokens_from 0 (at + blank_length text) (drop (blank_length text) text)
reads_blank at [] some = absurd (omega (arith, some))
reads_blank at (byte ∷ bytes) some =
    let size = blank_length (byte ∷ bytes) in
    let test : nat_lt 0 size ≡ true = grind (arith, nat_tests, some) in
    rw test (behind_first size at byte bytes some (blank_within (byte ∷ bytes)))

-- a token is read, and what stands behind it
reads_token : (at : ℕ) (text : List ℕ) (kind : TokenKind) (size : ℕ) → token_length text ≡ Some (kind, size) → blank_length text ≡ 0 → 0 < size → size ≤ length text
    → tokens_from 0 at text ≡ option_map (λ tokens. token_at at kind size ∷ tokens) (tokens_from 0 (at + size) (drop size text))
reads_token at [] kind size read plain some within = absurd (omega (arith, some, within))
reads_token at (byte ∷ bytes) kind size read plain some within =
    let test : nat_lt 0 (blank_length (byte ∷ bytes)) ≡ false = grind (arith, nat_tests, plain) in
    rw (test, read) (ap (option_map (λ tokens. token_at at kind size ∷ tokens)) (behind_first size at byte bytes some within))

-- nothing is read where no token begins
reads_nothing : (at : ℕ) (text : List ℕ) → 0 < length text → blank_length text ≡ 0 → token_length text ≡ None → tokens_from 0 at text ≡ None
reads_nothing at [] some plain none = absurd (omega (arith, some))
reads_nothing at (byte ∷ bytes) some plain none =
    let test : nat_lt 0 (blank_length (byte ∷ bytes)) ≡ false = grind (arith, nat_tests, plain) in
    rw (test, none) refl

-- a token that stands at the front is the one that is read
at_front : (text : List ℕ) (kind : TokenKind) (spelling behind : List ℕ) → text ≡ spelling ++ behind → IsToken kind spelling behind → IsFound kind text (length spelling)
at_front text kind spelling behind split is = subst (λ (l : List ℕ). IsFound kind l (length spelling)) (sym split) (again kind spelling behind is)

token_within : (text spelling behind : List ℕ) → text ≡ spelling ++ behind → length spelling ≤ length text
token_within text spelling behind split = rw split (grind (arith, length-append spelling behind))

-- the tokens that a text is cut into are read
cut_read : {at : ℕ} {text : List ℕ} {tokens : List Token} → Cut at text tokens → tokens_from 0 at text ≡ Some tokens
cut_read (Done at) = refl
cut_read (Blank at text tokens some cut) = reads_blank at text some ∙ cut_read cut
cut_read (Taken at kind text spelling behind tokens split is cut) =
    let token = at_front text kind spelling behind split is in
    reads_token at text kind (length spelling) token.read token.no_blank token.some (token_within text spelling behind split)
    ∙ ap (λ (l : List ℕ). option_map (λ (rest : List Token). token_at at kind (length spelling) ∷ rest) (tokens_from 0 (at + length spelling) l)) (ap (drop (length spelling)) split ∙ drop_at spelling behind (length spelling) refl)
    ∙ ap (option_map (λ (rest : List Token). token_at at kind (length spelling) ∷ rest)) (cut_read cut)

-- no token begins where none is
unread : (text : List ℕ) (token : Option (TokenKind × ℕ)) → token_length text ≡ token
    → ((kind : TokenKind) (spelling behind : List ℕ) → text ≡ spelling ++ behind → IsToken kind spelling behind → ⊥) → token_length text ≡ None
unread text None is none = is
unread text (Some (kind, size)) is none = absurd (none kind (take size text) (drop size text) (sym (take-append-drop size text)) (token_taken text kind size is).2)

-- where the reading of a text is stuck, nothing is read
pub stuck_read : {at : ℕ} {text : List ℕ} {place : ℕ} → Stuck at text place → tokens_from 0 at text ≡ None
stuck_read (Bad at text is) = reads_nothing at text is.some is.no_blank (unread text (token_length text) refl is.no_token)
stuck_read (BehindBlank at text place some stuck) = reads_blank at text some ∙ stuck_read stuck
stuck_read (BehindToken at kind text spelling behind place split is stuck) =
    let token = at_front text kind spelling behind split is in
    reads_token at text kind (length spelling) token.read token.no_blank token.some (token_within text spelling behind split)
    ∙ ap (λ (l : List ℕ). option_map (λ (rest : List Token). token_at at kind (length spelling) ∷ rest) (tokens_from 0 (at + length spelling) l)) (ap (drop (length spelling)) split ∙ drop_at spelling behind (length spelling) refl)
    ∙ ap (option_map (λ (rest : List Token). token_at at kind (length spelling) ∷ rest)) (stuck_read stuck)

-- ---- what is read is cut so

-- that the tokens which are read behind some bytes are cut so
abbrev IsSound : List ℕ → Type 0
IsSound text = (left at : ℕ) (tokens : List Token) → left ≤ length text → tokens_from left at text ≡ Some tokens → Cut (at + left) (drop left text) tokens

module _ (byte : ℕ) (bytes : List ℕ) (sound : IsSound bytes) (at : ℕ) (tokens : List Token) where
  -- from behind its first byte on
  further : (size : ℕ) (rest : List Token) → 0 < size → size ≤ length (byte ∷ bytes) → tokens_from (size - 1) (at + 1) bytes ≡ Some rest → Cut (at + size) (drop size (byte ∷ bytes)) rest
  further zero rest some within is = absurd (omega (arith, some))
  further (suc size) rest some within is =
      let same : suc size - 1 ≡ size = omega arith in
      let cut = sound size (at + 1) rest (omega (arith, within)) (subst (λ (n : ℕ). tokens_from n (at + 1) bytes ≡ Some rest) same is) in
      let place : at + 1 + size ≡ at + suc size = omega arith in
      subst (λ (n : ℕ). Cut n (drop size bytes) rest) place cut

  -- a token and the tokens behind it
  token_behind : (kind : TokenKind) (size : ℕ) (rest : Option (List Token)) → token_length (byte ∷ bytes) ≡ Some (kind, size) → tokens_from (size - 1) (at + 1) bytes ≡ rest
      → option_map (λ (l : List Token). token_at at kind size ∷ l) rest ≡ Some tokens → Cut at (byte ∷ bytes) tokens
  token_behind kind size None read behind is = absurd (none-some tokens is)
  token_behind kind size (Some rest) read behind is =
      let token = token_taken (byte ∷ bytes) kind size read in
      let all : token_at at kind size ∷ rest ≡ tokens = cc in
      subst (λ (l : List Token). Cut at (byte ∷ bytes) l) all (token_on at (byte ∷ bytes) rest kind size token.1 token.2 (further size rest token.0 token.1 behind))

  token_front : (token : Option (TokenKind × ℕ)) → token_length (byte ∷ bytes) ≡ token
      → option_and_then (λ (found : TokenKind × ℕ). option_map (λ (l : List Token). token_at at found.0 found.1 ∷ l) (tokens_from (found.1 - 1) (at + 1) bytes)) token ≡ Some tokens → Cut at (byte ∷ bytes) tokens
  token_front None read is = absurd (none-some tokens is)
  token_front (Some (kind, size)) read is = token_behind kind size (tokens_from (size - 1) (at + 1) bytes) read refl is

  front : (blank : Bool) → nat_lt 0 (blank_length (byte ∷ bytes)) ≡ blank
      → cond blank (tokens_from (blank_length (byte ∷ bytes) - 1) (at + 1) bytes)
      (option_and_then (λ (found : TokenKind × ℕ). option_map (λ (l : List Token). token_at at found.0 found.1 ∷ l) (tokens_from (found.1 - 1) (at + 1) bytes)) (token_length (byte ∷ bytes))) ≡ Some tokens
      → Cut at (byte ∷ bytes) tokens
  front true test is =
      let some : 0 < blank_length (byte ∷ bytes) = grind (arith, nat_tests, test) in
      Blank at (byte ∷ bytes) tokens some (further (blank_length (byte ∷ bytes)) tokens some (blank_within (byte ∷ bytes)) is)
  front false test is = token_front (token_length (byte ∷ bytes)) refl is

sound : (text : List ℕ) → IsSound text
sound [] left at tokens within is =
    let none : [] ≡ tokens = cc in
    let place : at ≡ at + left = omega (arith, within) in
    subst (λ (l : List Token). Cut (at + left) (drop left []) l) none (nothing left within)
  where
    nothing : (left : ℕ) → left ≤ 0 → Cut (at + left) (drop left []) []
    nothing zero within = Done (at + zero)
    nothing (suc left) within = absurd (omega (arith, within))
sound (byte ∷ bytes) zero at tokens within is =
    subst (λ (n : ℕ). Cut n (byte ∷ bytes) tokens) (omega arith) (front byte bytes (sound bytes) at tokens (nat_lt 0 (blank_length (byte ∷ bytes))) refl is)
sound (byte ∷ bytes) (suc left) at tokens within is =
    subst (λ (n : ℕ). Cut n (drop left bytes) tokens) (omega arith) (sound bytes left (at + 1) tokens (omega (arith, within)) is)

-- ---- of a whole piece

pub tokens_of-cut : (piece : List ℕ) (tokens : List Token) → Cut 0 piece tokens → tokens_of piece ≡ Some tokens
unfolding tokens_of
tokens_of-cut piece tokens cut = cut_read cut

pub tokens_of-stuck : (piece : List ℕ) (place : ℕ) → Stuck 0 piece place → tokens_of piece ≡ None
unfolding tokens_of
tokens_of-stuck piece place stuck = stuck_read stuck

pub cut-tokens_of : (piece : List ℕ) (tokens : List Token) → tokens_of piece ≡ Some tokens → Cut 0 piece tokens
unfolding tokens_of
cut-tokens_of piece tokens is = sound piece 0 0 tokens (omega arith) is
