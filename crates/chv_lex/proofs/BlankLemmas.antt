-- White space and comments at the front of a text.
use Rattle.std.proofs.Common.{◌≡◌, ℕ, zero, suc, ◌+◌, ◌-◌, ◌<◌, ◌≤◌, true, false, cond, not, ◌&&◌, ◌==◌, List, [], ◌∷◌, length, drop, refl, ap, sym, ◌∙◌, arith}
use Rattle.std.proofs.lemmas.Bool.{cond-false, cond_both, and_parts, ne_eqb}
use Rattle.std.proofs.lemmas.List.Sums.{prefix_len-le-length}
use Rattle.chv_lex.specs.Blanks.{line_length, block_length, comment_length, blank_length, behind_blanks}
use Rattle.chv_lex.specs.Bytes.{is_white}

-- bytes of a blank that are left
behind_left : (n : ℕ) (text : List ℕ) → behind_blanks n text ≡ behind_blanks 0 (drop n text)
behind_left zero text = refl
behind_left (suc n) [] = refl
behind_left (suc n) (byte ∷ bytes) = behind_left n bytes

drop_less : (n byte : ℕ) (bytes : List ℕ) → 0 < n → drop (n - 1) bytes ≡ drop n (byte ∷ bytes)
drop_less zero byte bytes some = absurd (omega arith)
drop_less (suc n) byte bytes some = let e : suc n - 1 ≡ n = omega arith in ap (λ k. drop k bytes) e

one_more : (n : ℕ) (now later : List ℕ) → 0 < n → cond (n == 0) now later ≡ later
one_more n now later some = cond-false (n == 0) now later (ne_eqb n 0 (λ none. absurd (omega arith)))

-- one blank is passed
pub behind_goes : (text : List ℕ) → 0 < blank_length text → behind_blanks 0 (drop (blank_length text) text) ≡ behind_blanks 0 text
behind_goes [] some = refl
behind_goes (byte ∷ bytes) some =
    let n = blank_length (byte ∷ bytes) in
    sym (
    one_more n (byte ∷ bytes) (behind_blanks (n - 1) bytes) some
    ∙ behind_left (n - 1) bytes
    ∙ ap (λ (l : List ℕ). behind_blanks 0 l) (drop_less n byte bytes some)
    )

false-true : false ≡ true → ⊥
false-true is = cc

-- a comment and white space end with the text at the latest
block_within : (bytes : List ℕ) → block_length bytes ≤ length bytes
block_within [] = omega arith
block_within (byte ∷ []) =
    cond_both ((byte == 42) && false) 2 1 (λ n. n ≤ 1) (λ is. absurd (false-true (and_parts (byte == 42) false is).1)) (λ _. omega arith)
block_within (byte ∷ next ∷ bytes) =
    let rest = block_within (next ∷ bytes) in
    cond_both ((byte == 42) && (next == 47)) 2 (1 + block_length (next ∷ bytes)) (λ n. n ≤ suc (suc (length bytes))) (λ _. omega arith) (λ _. omega arith)

comment_within : (text : List ℕ) → comment_length text ≤ length text
unfolding comment_length
comment_within [] = omega arith
comment_within (byte ∷ []) =
    cond_both ((byte == 45) && false) (2 + line_length []) (cond ((byte == 47) && false) (2 + block_length []) 0) (λ n. n ≤ 1)
    (λ is. absurd (false-true (and_parts (byte == 45) false is).1))
    (λ _. cond_both ((byte == 47) && false) (2 + block_length []) 0 (λ n. n ≤ 1) (λ is. absurd (false-true (and_parts (byte == 47) false is).1)) (λ _. omega arith))
comment_within (byte ∷ next ∷ bytes) =
    let line = prefix_len-le-length (λ b. not (b == 10)) bytes in
    let block = block_within bytes in
    cond_both ((byte == 45) && (next == 45)) (2 + line_length bytes) (cond ((byte == 47) && (next == 42)) (2 + block_length bytes) 0) (λ n. n ≤ suc (suc (length bytes)))
    (λ _. omega (arith, line))
    (λ _. cond_both ((byte == 47) && (next == 42)) (2 + block_length bytes) 0 (λ n. n ≤ suc (suc (length bytes))) (λ _. omega (arith, block)) (λ _. omega arith))

pub blank_within : (text : List ℕ) → blank_length text ≤ length text
blank_within [] = omega arith
blank_within (byte ∷ bytes) =
    cond_both (is_white byte) 1 (comment_length (byte ∷ bytes)) (λ n. n ≤ suc (length bytes)) (λ _. omega arith) (λ _. comment_within (byte ∷ bytes))
