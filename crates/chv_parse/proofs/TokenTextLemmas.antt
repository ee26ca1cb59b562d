-- Texts of tokens, byte by byte.
use Rattle.std.proofs.Common.{◌≡◌, ℕ, ◌-◌, ◌≤◌, List, [], ◌∷◌, length, take, drop, take-append-drop, refl, ap, ◌∙◌, sym, true, false, Bool, arith, ◌||◌}
use Rattle.std.specs.List.{list_any}
use Rattle.std.proofs.lemmas.List.Folds.{list_any-append}
use Rattle.std.proofs.lemmas.Bool.{false≢true}
use Rattle.std.proofs.lemmas.Grind.{common_steps}
use Rattle.chv_ast.specs.Lexemes.{without_last, without_zeros}
use Rattle.chv_parse.specs.Reading.{has_zero}

-- a text without its last byte has one byte less in front
pub without_last-take : (text : List ℕ) (n : ℕ) → n ≡ length text - 1 → without_last text ≡ take n text
without_last-take [] n e = grind (arith, common_steps)
without_last-take (b ∷ []) n e = rw e refl
without_last-take (b ∷ c ∷ bytes) n e =
    let h = without_last-take (c ∷ bytes) (length bytes) (omega arith) in
    let k : n ≡ length (c ∷ bytes) = omega arith in
    rw (k, h) refl

-- digits that begin with no such zero are written as they stand
pub without_zeros-kept : (digits : List ℕ) → has_zero digits ≡ false → without_zeros digits ≡ digits
without_zeros-kept [] e = refl
without_zeros-kept (b ∷ bytes) e = rw e refl

-- such a zero is left out
pub without_zeros-drop : (digits : List ℕ) → has_zero digits ≡ true → without_zeros (drop 1 digits) ≡ without_zeros digits
without_zeros-drop [] e = refl
without_zeros-drop (b ∷ bytes) e = rw e refl

-- and there are less digits then
pub has_zero-length : (digits : List ℕ) → has_zero digits ≡ true → 1 ≤ length digits
has_zero-length [] e = absurd (false≢true e)
has_zero-length (b ∷ bytes) e = omega arith

-- a test of a list in two parts
pub list_any-parts : (test : List ℕ → Bool) (n : ℕ) (words : List (List ℕ)) → list_any test words ≡ (list_any test (take n words) || list_any test (drop n words))
list_any-parts test n words = ap (list_any test) (sym (take-append-drop n words)) ∙ list_any-append test (take n words) (drop n words)

pub ruleset token_laws = (without_last-take, without_zeros-kept, without_zeros-drop, has_zero-length, list_any-parts)
