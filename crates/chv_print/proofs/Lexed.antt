-- Texts as they are cut into tokens, without the places of these.
use Rattle.std.specs.Prelude.{ℕ, ◌+◌, ◌-◌, List, [], ◌∷◌, ◌++◌, length, take, drop, ◌≡◌}
use Rattle.std.proofs.Common.{refl, sym, ap, subst, append_assoc, arith}
use Rattle.std.proofs.Math.Seq.{take-append_seam, drop-append_seam}
use Rattle.std.proofs.lemmas.List.{length-append}
use Rattle.chv_ast.specs.Lexemes.{Lexeme}
use Rattle.chv_ast.specs.Spellings.{Spelling}
use Rattle.chv_ast.specs.declared.token.TokenKind.{TokenKind}
use Rattle.chv_lex.specs.declared.token.Token.{Token}
use Rattle.chv_lex.specs.Bytes.{is_white}
use Rattle.chv_lex.specs.Spellings.{IsToken}
use Rattle.chv_lex.specs.Lexemes.{lexemes}
use Rattle.chv_lex.specs.Tokens.{Cut, Done, Blank, Taken, token_at}
use Rattle.chv_lex.specs.Writes.{Writes}

-- a text is cut into tokens with these texts, with spaces between them
pub data Lexed : List ℕ → List Lexeme → Type 0 where
  Nothing : Lexed [] []
  Space : (text : List ℕ) (us : List Lexeme) → Lexed text us → Lexed (32 ∷ text) us
  Then : (kind : TokenKind) (text spelling behind : List ℕ) (us : List Lexeme) → text ≡ spelling ++ behind
      → IsToken kind spelling behind → Lexed behind us → Lexed text (record { kind = kind; text = spelling } ∷ us)

-- behind `front` the text is cut into tokens with these texts
record IsCutBehind (front text : List ℕ) (us : List Lexeme) : Type 0 where
  tokens : List Token
  cut : Cut (length front) text tokens
  same : lexemes (front ++ text) tokens ≡ us

-- the text of a token that stands behind `front`
text_behind : (front spelling behind : List ℕ)
    → take ((length front + length spelling) - length front) (drop (length front) (front ++ (spelling ++ behind))) ≡ spelling
text_behind front spelling behind =
    let e : (length front + length spelling) - length front ≡ length spelling = omega arith in
    rw (e, drop-append_seam front (spelling ++ behind)) (take-append_seam spelling behind)

space_length : (front : List ℕ) → length (front ++ 32 ∷ []) ≡ length front + 1
space_length front = length-append front (32 ∷ [])

cut_space : (front text : List ℕ) (us : List Lexeme) → IsCutBehind (front ++ 32 ∷ []) text us → IsCutBehind front (32 ∷ text) us
unfolding is_white
cut_space front text us h = record {
  tokens = h.tokens;
  cut = Blank (length front) (32 ∷ text) h.tokens (omega arith) (rw space_length at h.cut);
  same = rw append_assoc at h.same;
}

cut_token : (kind : TokenKind) (front spelling behind : List ℕ) (us : List Lexeme) → IsToken kind spelling behind
    → IsCutBehind (front ++ spelling) behind us
    → IsCutBehind front (spelling ++ behind) (record { kind = kind; text = spelling } ∷ us)
cut_token kind front spelling behind us t h = record {
  tokens = token_at (length front) kind (length spelling) ∷ h.tokens;
  cut = Taken (length front) kind (spelling ++ behind) spelling behind h.tokens refl t (rw length-append at h.cut);
  same = rw (text_behind front spelling behind) (ap (λ vs. record { kind = kind; text = spelling } ∷ vs) (rw append_assoc at h.same));
}

cut_behind : (front text : List ℕ) (us : List Lexeme) → Lexed text us → IsCutBehind front text us
cut_behind front text us Nothing = record { tokens = []; cut = Done (length front); same = refl }
cut_behind front text us (Space rest vs h) = cut_space front rest vs (cut_behind (front ++ 32 ∷ []) rest vs h)
cut_behind front text us (Then kind whole spelling behind vs e t h) =
    subst (λ x. IsCutBehind front x (record { kind = kind; text = spelling } ∷ vs)) (sym e)
    (cut_token kind front spelling behind vs t (cut_behind (front ++ spelling) behind vs h))

-- a text whose lexemes write a value reads back as it
pub reads_back : {A : Type 0} (spelling : Spelling A) (value : A) (text : List ℕ) (us : List Lexeme)
    → Lexed text us → spelling value us → Writes spelling value text
reads_back spelling value text us h written =
    let c = cut_behind [] text us h in
    record { tokens = c.tokens; cut = c.cut; spelled = subst (λ vs. spelling value vs) (sym c.same) written }
