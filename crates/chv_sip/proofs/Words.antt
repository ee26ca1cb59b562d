-- How an input falls into words, piece by piece.
use Rattle.std.proofs.Common.{◌≡◌, ℕ, ◌<◌, List, [], ◌∷◌, ◌++◌, length, refl, ap, ◌∙◌, append_assoc, append-nil, arith}
use Rattle.std.proofs.Common.{◌%◌, drop, replicate}
use Rattle.std.proofs.lemmas.List.{drop-append-le, drop-replicate}
use Rattle.std.specs.List.{fold}
use Rattle.byteorder.specs.Endian.{little_number}
use Rattle.chv_sip.specs.declared.state.State.{State}
use Rattle.chv_sip.specs.SipHash.{compressed, words_of, last_word, absorbed, GoesOn}

-- 8 bytes in front are the first word
pub words_of-append : (total : ℕ) (word rest : List ℕ) → length word ≡ 8 → words_of total (word ++ rest) ≡ little_number 8 word ∷ words_of total rest
words_of-append total [] rest h = absurd (omega arith)
words_of-append total (_ ∷ []) rest h = absurd (omega arith)
words_of-append total (_ ∷ _ ∷ []) rest h = absurd (omega arith)
words_of-append total (_ ∷ _ ∷ _ ∷ []) rest h = absurd (omega arith)
words_of-append total (_ ∷ _ ∷ _ ∷ _ ∷ []) rest h = absurd (omega arith)
words_of-append total (_ ∷ _ ∷ _ ∷ _ ∷ _ ∷ []) rest h = absurd (omega arith)
words_of-append total (_ ∷ _ ∷ _ ∷ _ ∷ _ ∷ _ ∷ []) rest h = absurd (omega arith)
words_of-append total (_ ∷ _ ∷ _ ∷ _ ∷ _ ∷ _ ∷ _ ∷ []) rest h = absurd (omega arith)
words_of-append total (_ ∷ _ ∷ _ ∷ _ ∷ _ ∷ _ ∷ _ ∷ _ ∷ []) rest h = refl
words_of-append total (_ ∷ _ ∷ _ ∷ _ ∷ _ ∷ _ ∷ _ ∷ _ ∷ _ ∷ _) rest h = absurd (omega arith)

-- fewer than 8 bytes are the last word
pub words_of-short : (total : ℕ) (left : List ℕ) → length left < 8 → words_of total left ≡ last_word total left ∷ []
words_of-short total [] h = refl
words_of-short total (_ ∷ []) h = refl
words_of-short total (_ ∷ _ ∷ []) h = refl
words_of-short total (_ ∷ _ ∷ _ ∷ []) h = refl
words_of-short total (_ ∷ _ ∷ _ ∷ _ ∷ []) h = refl
words_of-short total (_ ∷ _ ∷ _ ∷ _ ∷ _ ∷ []) h = refl
words_of-short total (_ ∷ _ ∷ _ ∷ _ ∷ _ ∷ _ ∷ []) h = refl
words_of-short total (_ ∷ _ ∷ _ ∷ _ ∷ _ ∷ _ ∷ _ ∷ []) h = refl
words_of-short total (_ ∷ _ ∷ _ ∷ _ ∷ _ ∷ _ ∷ _ ∷ _ ∷ _) h = absurd (omega arith)

-- a whole word of what is left may be taken in
pub GoesOn-word : {old s : State} {bytes rest : List ℕ} (word : List ℕ) → GoesOn old bytes s (word ++ rest) → length word ≡ 8
    → GoesOn old bytes (compressed s (little_number 8 word)) rest
GoesOn-word {old} {s} {bytes} {rest} word held eight = record {
  alike = λ total more.
      held.alike total more ∙ ap (fold compressed s) (ap (words_of total) (append_assoc word rest more) ∙ words_of-append total word (rest ++ more) eight);
}

-- more bytes behind both
pub GoesOn-append : {old s : State} {bytes left : List ℕ} (piece : List ℕ) → GoesOn old bytes s left → GoesOn old (bytes ++ piece) s (left ++ piece)
GoesOn-append {old} {s} {bytes} {left} piece held = record {
  alike = λ total more. rw (append_assoc, append_assoc) (held.alike total (piece ++ more));
}

-- one stretch, and then another
pub GoesOn-then : {a b c : State} {xs ys zs : List ℕ} → GoesOn a xs b ys → GoesOn b ys c zs → GoesOn a xs c zs
GoesOn-then first second = record { alike = λ total more. first.alike total more ∙ second.alike total more }

-- an input of which fewer than 8 bytes are left
pub absorbed-last : {old s : State} {bytes left : List ℕ} (total : ℕ) → GoesOn old bytes s left → length left < 8
    → absorbed total old bytes ≡ compressed s (last_word total left)
absorbed-last {old} {s} {bytes} {left} total held few =
    let ends : absorbed total old (bytes ++ []) ≡ absorbed total s (left ++ []) = held.alike total [] in
    rw (append-nil, append-nil) at ends ∙ ap (fold compressed s) (words_of-short total left few)

-- the last word as it is laid out in 8 bytes: the bytes left go over a front of the zeros
pub last_word-laid : (total count n : ℕ) (left : List ℕ) → count ≡ total % 256 → length left ≡ n → n < 8
    → little_number 8 (left ++ drop n (replicate 7 0 ++ count ∷ [])) ≡ last_word total left
last_word-laid total count n left top e few =
    let zeros : List ℕ = replicate 7 0 in
    rw (drop-append-le n zeros (count ∷ []) (omega arith), drop-replicate {X = ℕ} n 7 0, ← e, top, append_assoc) refl
