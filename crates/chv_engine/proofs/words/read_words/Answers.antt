-- One word that reads `run`.
use Rattle.std.proofs.Common.{◌≡◌, ℕ, ◌<◌, ◌≤◌, List, [], ◌∷◌, length, map, slice_index_or, refl, sym, ap, ◌∙◌, arith, codes}
use Rattle.std.specs.String.{string_bytes}
use Rattle.std.proofs.lemmas.Slice.Eq.{bytes_eq-Decides}
use Rattle.chv_engine.specs.Words.{run_words}
use Rattle.chv_engine.proofs.words.read_words.Goals as goal

one_item : {A : Type 0} (xs : List A) (x : A) → 1 ≤ length xs → length xs < 2 → x ≡ slice_index_or xs 0 x → xs ≡ x ∷ []
one_item [] x some few is = absurd (omega arith)
one_item (y ∷ []) x some few is = ap (λ z. z ∷ []) (sym is)
one_item (y ∷ z ∷ xs) x some few is = absurd (omega arith)

pub returns-in-len1 : goal.returns-in-len1
returns-in-len1 c =
    let items : c.as_slice.result.now ≡ c.word-item.result ∷ [] = one_item c.as_slice.result.now c.word-item.result c.in-len1.len_at_least c.in-len1.len_below c.word-item.is in
    let same : c.as_str.result.now ≡ codes "run" = (bytes_eq-Decides c.as_str.result.now (codes "run")).0 (sym c.eq.ensures ∙ c.if-eq.true) in
    let words : c.args.words.now ≡ run_words =
    sym c.words.view_is ∙ ap (λ l. map string_bytes l) (sym c.as_slice.ensures.value ∙ items) ∙ ap (λ (t : List ℕ). t ∷ []) (sym c.as_str.ensures.value ∙ same) in
    (λ _. words, λ _. refl)
