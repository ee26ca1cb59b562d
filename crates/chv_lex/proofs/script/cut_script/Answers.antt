use Rattle.std.proofs.Common.{◌≡◌, ◌+◌, ◌++◌, ◌∷◌, ℕ, List, take, ap, sym, ◌∙◌, subst, arith}
use Rattle.std.proofs.lemmas.List.{length-drop}
use Rattle.std.proofs.lemmas.List.Elements.{All-same}
use Rattle.chv_lex.specs.declared.piece.Piece.{Piece}
use Rattle.chv_lex.specs.Scripts.{IsPieceOf, pieces_of, piece_of, cut_from, cut_behind}
use Rattle.chv_lex.proofs.ScriptLemmas.{within_script, found, all_found, from_place}
use Rattle.chv_lex.proofs.script.cut_script.Goals as goal

pub loop-start-preserved : goal.loop-start-preserved
loop-start-preserved c =
    let text = c.args.text.now in
    let start = c.loop-start.start in
    let n = c.piece_length-length.result in
    let back = c.split_at.ensures.back in
    let bytes = c.split_at-in-loop-start.ensures.front ∙ ap (λ (l : List ℕ). take n l) back in
    record {
      so_far = subst (λ (l : List Piece). pieces_of text ≡ l ++ from_place (start + n + 1) text) (sym c.in_ok-add.ensures.added)
          (found text start n c.loop-start.pieces c.piece_of.result (omega arith) (omega (arith, length-drop start text))
          (subst (λ (l : List ℕ). cut_from 0 l ≡ take n l ∷ cut_behind n l) back c.piece_length-length.ensures.cut)
          (c.piece_of.ensures.value ∙ ap (λ (l : List ℕ). piece_of (start + n) l) bytes)
          c.loop-start.invariant.so_far);
      within = omega arith;
    }

pub returns-clause-cut : goal.returns-clause-cut
returns-clause-cut c = all_found c.args.text.now c.loop-start.start c.loop-start.pieces c.loop-start-test.false c.loop-start.invariant.so_far

pub returns-clause-within : goal.returns-clause-within
returns-clause-within c =
    let text = c.args.text.now in
    All-same (IsPieceOf text) c.loop-start.pieces (pieces_of text)
    (all_found text c.loop-start.start c.loop-start.pieces c.loop-start-test.false c.loop-start.invariant.so_far)
    (within_script text)
