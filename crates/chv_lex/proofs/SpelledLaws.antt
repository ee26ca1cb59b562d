-- The tokens of a text have texts of their kinds.
use Rattle.std.proofs.Common.{◌≡◌, inl, inr, ℕ, ◌+◌, ◌-◌, List, ◌++◌, length, take, drop, refl, ap, sym, subst, ◌∙◌, arith}
use Rattle.std.proofs.Math.Seq.{take-append_seam, drop-append_seam}
use Rattle.std.proofs.lemmas.List.{drop-drop}
use Rattle.std.specs.List.{slice_range}
use Rattle.chv_ast.proofs.FormedLaws.{well_formed}
use Rattle.chv_ast.specs.Formed.{Each, WellFormed}
use Rattle.chv_ast.specs.GrammarStatements.{IsStatement}
use Rattle.chv_ast.specs.Words.{IsTextOf, IsSpelled}
use Rattle.chv_ast.specs.declared.statement.Statement.{Statement}
use Rattle.chv_ast.specs.declared.token.TokenKind.{TokenKind}
use Rattle.chv_ast.specs.declared.token.TokenKind.TheVariants as kind
use Rattle.chv_lex.specs.Blanks.{blank_length}
use Rattle.chv_lex.specs.Lexemes.{lexemes}
use Rattle.chv_lex.specs.Spellings.{IsToken}
use Rattle.chv_lex.specs.Tokens.{Cut}
use Rattle.chv_lex.specs.Writes.{Writes}
use Rattle.chv_lex.specs.declared.token.Token.{Token}

-- a token's spelling is a text of its kind
IsTextOf-IsToken : (kind : TokenKind) (spelling behind : List ℕ) → IsToken kind spelling behind → IsTextOf kind spelling
IsTextOf-IsToken kind.Word spelling behind (inl bare) = inl bare.0
IsTextOf-IsToken kind.Word spelling behind (inr quoted) = inr quoted
IsTextOf-IsToken kind.Whole spelling behind whole = (omega (arith, whole.0.some), whole.0.decimal)
IsTextOf-IsToken kind.Quoted spelling behind quoted = tt
IsTextOf-IsToken kind.Sign spelling behind sign = tt

-- the bytes of a token that begins at this place
text_at : (piece spelling behind : List ℕ) (at : ℕ) → drop at piece ≡ spelling ++ behind → slice_range piece at (at + length spelling) ≡ spelling
text_at piece spelling behind at is =
    let size : at + length spelling - at ≡ length spelling = omega arith in
    ap (λ (n : ℕ). take n (drop at piece)) size ∙ ap (λ (l : List ℕ). take (length spelling) l) is ∙ take-append_seam spelling behind

-- the bytes behind it
rest_at : (piece spelling behind : List ℕ) (at : ℕ) → drop at piece ≡ spelling ++ behind → drop (at + length spelling) piece ≡ behind
rest_at piece spelling behind at is =
    sym (drop-drop (length spelling) at piece) ∙ ap (λ (l : List ℕ). drop (length spelling) l) is ∙ drop-append_seam spelling behind

-- from a place of a piece on
spelled_from : (piece : List ℕ) {at : ℕ} {text : List ℕ} {tokens : List Token} → Cut at text tokens → drop at piece ≡ text → Each IsSpelled (lexemes piece tokens)
spelled_from piece (Cut.Done at) is = tt
spelled_from piece (Cut.Blank at text tokens some cut) is =
    spelled_from piece cut (sym (drop-drop (blank_length text) at piece) ∙ ap (λ (l : List ℕ). drop (blank_length text) l) is)
spelled_from piece (Cut.Taken at kind text spelling behind tokens split token cut) is =
    let here : drop at piece ≡ spelling ++ behind = is ∙ split in (
      subst (λ (l : List ℕ). IsTextOf kind l) (sym (text_at piece spelling behind at here)) (IsTextOf-IsToken kind spelling behind token),
      spelled_from piece cut (rest_at piece spelling behind at here),
    )

-- the tokens of a whole text
pub are_spelled : (text : List ℕ) (tokens : List Token) → Cut 0 text tokens → Each IsSpelled (lexemes text tokens)
are_spelled text tokens cut = spelled_from text cut refl

-- what a text writes is well formed
pub written_is_formed : (text : List ℕ) (s : Statement) → Writes IsStatement s text → WellFormed s
written_is_formed text s written = well_formed s (lexemes text written.tokens) (are_spelled text written.tokens written.cut) written.spelled
