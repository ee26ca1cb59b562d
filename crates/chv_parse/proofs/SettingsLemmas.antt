-- Settings, one behind the other.
use Rattle.std.proofs.Common.{◌≡◌, ℕ, ◌+◌, ◌-◌, ◌<◌, ◌≤◌, List, ◌∷◌, length, drop, refl, sym, true, false, Option, Some, None, arith}
use Rattle.std.specs.Prelude.{codes, fold}
use Rattle.chv_ast.specs.GrammarStatements.{Setting, default_settings, with_setting}
use Rattle.chv_ast.specs.Lexemes.{Lexeme}
use Rattle.chv_ast.specs.declared.statement.Settings.{Settings}
use Rattle.chv_parse.specs.ExprReading.{sign_next}
use Rattle.chv_parse.specs.Reading.{Reader, read_on, ◌>>=◌, given}
use Rattle.chv_parse.specs.StatementReading.{read_behind, read_listed, read_setting, read_with, read_some_settings, read_settings_behind}
use Rattle.chv_parse.proofs.ListedLemmas.{sign_passed, step_down, read_same}

-- settings end where no comma is
pub settings_end : (front : Settings) (n i : ℕ) (tokens : List Lexeme) → i < n → sign_next (codes ",") tokens ≡ false
    → read_settings_behind front (n - i) tokens ≡ Some (front, tokens)
unfolding read_behind
settings_end front n i tokens h e = rw (step_down n i h, e) refl

-- a setting that comes first among those that are read is joined first
joined_first : (front : Settings) (one : Setting) (read : Option (List Setting × List Lexeme))
    → read_on (λ written. given (fold with_setting (with_setting front one) written)) read
    ≡ read_on (λ written. given (fold with_setting front written)) (read_on (λ written. given (one ∷ written)) read)
joined_first front one None = refl
joined_first front one (Some x) = refl

-- one setting behind a comma, whatever it is read as
turned : (front : Settings) (count : ℕ) (read : Option (Setting × List Lexeme)) (after : Settings) (rest : List Lexeme)
    → read_on (λ one. given (with_setting front one)) read ≡ Some (after, rest)
    → read_settings_behind after count rest
    ≡ read_on (λ written. given (fold with_setting front written)) (read_on (λ one. read_behind read_setting count >>= λ written. given (one ∷ written)) read)
turned front count None after rest e = cc
turned front count (Some x) after rest e =
    let p = read_same e in
    rw (← p.0, ← p.1) (joined_first front x.0 (read_behind read_setting count x.1))

-- where nothing is read at first, nothing is read
nothing : {A B C D : Type 0} (f : A → B) (g : C → Reader D) (h : A → Reader C) (read : Option (A × List Lexeme))
    → read_on (λ a. given (f a)) read ≡ None → read_on g (read_on h read) ≡ None
nothing f g h None e = refl
nothing f g h (Some x) e = cc

-- a setting behind a comma joins those in front of it
pub settings_go_on : (front : Settings) (n i : ℕ) (tokens rest : List Lexeme) (after : Settings) → i < n
    → sign_next (codes ",") tokens ≡ true → read_with read_setting front (drop 1 tokens) ≡ Some (after, rest)
    → read_settings_behind after (n - (i + 1)) rest ≡ read_settings_behind front (n - i) tokens
unfolding read_behind
settings_go_on front n i tokens rest after h e k =
    rw (step_down n i h, e, sign_passed (codes ",") tokens e) (turned front (n - (i + 1)) (read_setting (drop 1 tokens)) after rest k)

-- where no setting is behind a comma, nothing is read
pub settings_break : (front : Settings) (n i : ℕ) (tokens : List Lexeme) → i < n
    → sign_next (codes ",") tokens ≡ true → read_with read_setting front (drop 1 tokens) ≡ None → read_settings_behind front (n - i) tokens ≡ None
unfolding read_behind
settings_break front n i tokens h e k = rw (step_down n i h, e, sign_passed (codes ",") tokens e)
    (nothing (with_setting front) (λ written. given (fold with_setting front written)) (λ one. read_behind read_setting (n - (i + 1)) >>= λ written. given (one ∷ written)) (read_setting (drop 1 tokens)) k)

-- nor where the count is used up
pub settings_done : (front : Settings) (n i : ℕ) (tokens : List Lexeme) → n ≤ i → read_settings_behind front (n - i) tokens ≡ None
unfolding read_behind
settings_done front n i tokens h = let e : n - i ≡ 0 = omega arith in rw e refl

-- the first setting, and the others behind it
pub some_settings_read : (tokens rest : List Lexeme) (first : Settings) → read_with read_setting default_settings tokens ≡ Some (first, rest)
    → read_some_settings tokens ≡ read_settings_behind first (length tokens + 1) rest
unfolding read_some_settings read_listed
some_settings_read tokens rest first e = sym (turned default_settings (length tokens + 1) (read_setting tokens) first rest e)

-- where no first setting is read, none is
pub some_settings_none : (tokens : List Lexeme) → read_with read_setting default_settings tokens ≡ None → read_some_settings tokens ≡ None
unfolding read_some_settings read_listed
some_settings_none tokens e =
    nothing (with_setting default_settings) (λ written. given (fold with_setting default_settings written))
    (λ one. read_behind read_setting (length tokens + 1) >>= λ written. given (one ∷ written)) (read_setting tokens) e
