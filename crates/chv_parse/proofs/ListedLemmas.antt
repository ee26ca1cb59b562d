-- Lists with commas, a value at a time.
use Rattle.std.proofs.Common.{◌≡◌, ℕ, suc, ◌+◌, ◌-◌, ◌<◌, ◌≤◌, List, [], ◌∷◌, ◌++◌, drop, refl, true, false, Option, Some, None, Ok, Err, Result, ap, ◌∙◌, append_assoc, append-nil, arith}
use Rattle.std.specs.Prelude.{codes}
use Rattle.std.proofs.lemmas.Bool.{false≢true}
use Rattle.chv_ast.specs.Lexemes.{Lexeme}
use Rattle.chv_parse.specs.ExprReading.{sign_next, read_sign}
use Rattle.chv_parse.specs.Reading.{Reader, read_on, given, marked, next_is, Reads}
use Rattle.chv_parse.specs.declared.fault.ParseFault.{ParseFault}
use Rattle.chv_parse.specs.declared.fault.ParseFault.TheVariants as fault
use Rattle.chv_parse.specs.StatementReading.{read_behind, read_behind_some}

-- one less
pub step_down : (n i : ℕ) → i < n → n - i ≡ suc (n - (i + 1))
step_down n i h = omega arith

-- what stands behind a sign
pub sign_passed : (text : List ℕ) (tokens : List Lexeme) → sign_next text tokens ≡ true → read_sign text tokens ≡ Some (tt, drop 1 tokens)
unfolding next_is marked
sign_passed text [] e = absurd (false≢true e)
sign_passed text (token ∷ tokens) e = rw e refl

-- a list ends where no comma is
pub behind_ends : {A : Type 0} (r : Reader A) (front : List A) (n i : ℕ) (tokens : List Lexeme) → i < n → sign_next (codes ",") tokens ≡ false
    → read_behind_some front r (n - i) tokens ≡ Some (front, tokens)
unfolding read_behind
behind_ends r front n i tokens h e = rw (step_down n i h, e, append-nil front) refl

-- a value at the end of those in front is the first of those behind
joined : {A : Type 0} (front : List A) (value : A) (read : Option (List A × List Lexeme))
    → read_on (λ values. given ((front ++ value ∷ []) ++ values)) read ≡ read_on (λ values. given (front ++ values)) (read_on (λ values. given (value ∷ values)) read)
joined front value None = refl
joined front value (Some x) = rw append_assoc refl

-- a value behind a comma joins those in front of it
pub behind_goes_on : {A : Type 0} (r : Reader A) (front : List A) (n i : ℕ) (tokens rest : List Lexeme) (value : A) → i < n
    → sign_next (codes ",") tokens ≡ true → r (drop 1 tokens) ≡ Some (value, rest)
    → read_behind_some (front ++ value ∷ []) r (n - (i + 1)) rest ≡ read_behind_some front r (n - i) tokens
unfolding read_behind
behind_goes_on r front n i tokens rest value h e k = rw (step_down n i h, e, sign_passed (codes ",") tokens e, k) (joined front value (read_behind r (n - (i + 1)) rest))

-- where no value is behind a comma, nothing is read
pub behind_breaks : {A : Type 0} (r : Reader A) (front : List A) (n i : ℕ) (tokens : List Lexeme) → i < n
    → sign_next (codes ",") tokens ≡ true → r (drop 1 tokens) ≡ None → read_behind_some front r (n - i) tokens ≡ None
unfolding read_behind
behind_breaks r front n i tokens h e k = rw (step_down n i h, e, sign_passed (codes ",") tokens e, k) refl

-- nor where the count is used up
pub behind_done : {A : Type 0} (r : Reader A) (front : List A) (n i : ℕ) (tokens : List Lexeme) → n ≤ i → read_behind_some front r (n - i) tokens ≡ None
unfolding read_behind
behind_done r front n i tokens h = let e : n - i ≡ 0 = omega arith in rw e refl

-- where a part is off the grammar, so is the whole
pub reads_err : {A B : Type 0} (r : Reader A) (s : Reader B) (old new before after : List Lexeme) (e : ParseFault)
    → Reads r old (Err e) new → (r old ≡ None → s before ≡ None) → Reads s before (Err e) after
reads_err r s old new before after fault.Syntax h k = k h
reads_err r s old new before after fault.NoMemory h k = h

-- readers that read the same
pub reads_same : {A : Type 0} (r s : Reader A) (old before new : List Lexeme) (result : Result A ParseFault) → s before ≡ r old → Reads r old result new → Reads s before result new
reads_same r s old before new (Ok a) e h = e ∙ h
reads_same r s old before new (Err fault.Syntax) e h = e ∙ h
reads_same r s old before new (Err fault.NoMemory) e h = h

-- what is read is one value with one rest
pub read_same : {A : Type 0} {a b : A} {t u : List Lexeme} → ◌≡◌ {A = Option (A × List Lexeme)} (Some (a, t)) (Some (b, u)) → (a ≡ b) × (t ≡ u)
read_same {A} {a} {b} {t} {u} e =
    let p : ◌≡◌ {A = A × List Lexeme} (a, t) (b, u) = cc in
    (ap (λ (x : A × List Lexeme). x.0) p, ap (λ (x : A × List Lexeme). x.1) p)
