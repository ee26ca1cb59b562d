-- Steps of readers: what was read where a value came out, and what is read where each step reads.
use Rattle.std.proofs.Common.{◌≡◌, List, [], ◌∷◌, ◌++◌, Bool, true, false, refl, ap, sym, ◌∙◌, append_assoc, Option, Some, None}
use Rattle.std.specs.Prelude.{IsTrue, if◌then◌else◌}
use Rattle.chv_ast.specs.Lexemes.{Lexeme}
use Rattle.chv_parse.specs.Reading.{Reader, read_on, behind_token, ◌>>=◌, meant, marked}

-- where a test chooses
pub chosen : {A : Type 0} (P : Type 0) (test : Bool) (x y : Option A) (z : A)
    → (test ≡ true → x ≡ Some z → P) → (test ≡ false → y ≡ Some z → P) → (if test then x else y) ≡ Some z → P
chosen P true x y z here there e = here refl e
chosen P false x y z here there e = there refl e

-- none is no value
pub none_read : {A : Type 0} (P : Type 0) (z : A) → None ≡ Some z → P
none_read P z e = cc

-- what was read is one value and one rest
pub same_read : {A : Type 0} (a b : A) (tokens rest : List Lexeme) → ◌≡◌ {A = Option (A × List Lexeme)} (Some (a, tokens)) (Some (b, rest)) → (a ≡ b) × (tokens ≡ rest)
same_read {A = A} a b tokens rest e =
    let p : ◌≡◌ {A = A × List Lexeme} (a, tokens) (b, rest) = cc in
    (ap (λ (read : A × List Lexeme). read.0) p, ap (λ (read : A × List Lexeme). read.1) p)

-- two readers, one behind the other: the value of the first, and what is left behind it
pub record Both {A B : Type 0} (r : Reader A) (f : A → Reader B) (tokens : List Lexeme) (b : B) (rest : List Lexeme) : Type 0 where
  pub value : A
  pub middle : List Lexeme
  pub first : r tokens ≡ Some (value, middle)
  pub second : f value middle ≡ Some (b, rest)

pub both_read : {A B : Type 0} (r : Reader A) (f : A → Reader B) (tokens : List Lexeme) (b : B) (rest : List Lexeme)
    → (r >>= f) tokens ≡ Some (b, rest) → Both r f tokens b rest
both_read {A = A} {B = B} r f tokens b rest e = by (r tokens) refl e
  where
    by : (o : Option (A × List Lexeme)) → r tokens ≡ o → read_on f o ≡ Some (b, rest) → Both r f tokens b rest
    by None k e = none_read _ (b, rest) e
    by (Some read) k e = record { value = read.0; middle = read.1; first = k; second = e }

-- two readers read, one behind the other
pub both_reads : {A B : Type 0} (r : Reader A) (f : A → Reader B) (tokens middle : List Lexeme) (a : A) (o : Option (B × List Lexeme))
    → r tokens ≡ Some (a, middle) → f a middle ≡ o → (r >>= f) tokens ≡ o
both_reads r f tokens middle a o e k = ap (read_on f) e ∙ k

-- one token of which the test is true
pub record One (test : Lexeme → Bool) (tokens rest : List Lexeme) : Type 0 where
  pub token : Lexeme
  pub split : tokens ≡ token ∷ rest
  pub marked : IsTrue (test token)

pub marked_read : (test : Lexeme → Bool) (tokens rest : List Lexeme) (u : Unit {0}) → marked test tokens ≡ Some (u, rest) → One test tokens rest
unfolding marked
marked_read test [] rest u e = none_read _ (u, rest) e
marked_read test (token ∷ tokens) rest u e =
    chosen (One test (token ∷ tokens) rest) (test token) _ _ (u, rest)
    (λ h k. record { token = token; split = ap (λ x. token ∷ x) ((same_read tt u tokens rest k).1); marked = h })
    (λ h k. none_read _ (u, rest) k) e

pub marked_reads : (test : Lexeme → Bool) (token : Lexeme) (tokens : List Lexeme) → IsTrue (test token) → marked test (token ∷ tokens) ≡ Some (tt, tokens)
unfolding marked
marked_reads test token tokens h = rw h refl

-- what one token stands for
pub record Stands {A : Type 0} (meaning : Lexeme → Option A) (tokens : List Lexeme) (a : A) (rest : List Lexeme) : Type 0 where
  pub token : Lexeme
  pub split : tokens ≡ token ∷ rest
  pub means : meaning token ≡ Some a

pub meant_read : {A : Type 0} (meaning : Lexeme → Option A) (tokens : List Lexeme) (a : A) (rest : List Lexeme) → meant meaning tokens ≡ Some (a, rest) → Stands meaning tokens a rest
unfolding meant
meant_read meaning [] a rest e = none_read _ (a, rest) e
meant_read {A = A} meaning (token ∷ tokens) a rest e = by (meaning token) refl e
  where
    by : (o : Option A) → meaning token ≡ o → behind_token o tokens ≡ Some (a, rest) → Stands meaning (token ∷ tokens) a rest
    by None k e = none_read _ (a, rest) e
    by (Some b) k e =
        let same = same_read b a tokens rest e in
        record { token = token; split = ap (λ x. token ∷ x) same.1; means = k ∙ ap Some same.0 }

pub meant_reads : {A : Type 0} (meaning : Lexeme → Option A) (token : Lexeme) (tokens : List Lexeme) (a : A) → meaning token ≡ Some a → meant meaning (token ∷ tokens) ≡ Some (a, tokens)
unfolding meant
meant_reads meaning token tokens a h = rw h refl

-- a token, what stands behind it, and what follows
pub behind_one : (token : Lexeme) (tokens middle us rest : List Lexeme) → tokens ≡ token ∷ middle → middle ≡ us ++ rest → tokens ≡ (token ∷ us) ++ rest
behind_one token tokens middle us rest a b = a ∙ ap (λ ts. token ∷ ts) b

-- some tokens, what stands behind them, and what follows
pub behind_some : (tokens us middle vs rest : List Lexeme) → tokens ≡ us ++ middle → middle ≡ vs ++ rest → tokens ≡ (us ++ vs) ++ rest
behind_some tokens us middle vs rest a b = a ∙ ap (λ ts. us ++ ts) b ∙ sym (append_assoc us vs rest)
