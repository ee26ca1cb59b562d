-- Texts that print values, one part of a spelling behind the other.
use Rattle.std.specs.Prelude.{ℕ, List, [], ◌∷◌, ◌++◌, IsTrue, Option, Some, None, codes}
use Rattle.std.proofs.Common.{refl, sym, subst, append-nil}
use Rattle.chv_ast.specs.Lexemes.{Lexeme}
use Rattle.chv_ast.specs.Spellings.{Spelling, ◌>>=◌, ◌>>◌, keyword, word, sign, name, whole, quoted, optional, Listed, One, More, enclosed}
use Rattle.chv_ast.specs.GrammarStatements.{names}
use Rattle.chv_ast.specs.Words.{IsName, IsDigits}
use Rattle.chv_ast.specs.Formed.{Each, EachOfSome}
use Rattle.chv_lex.specs.Spellings.{is_sign_byte, is_sign_pair}
use Rattle.chv_print.specs.Texts.{name_text, quoted_text, listed}
use Rattle.chv_print.specs.StatementTexts.{names_text}
use Rattle.chv_print.proofs.Parts.{ends_tokens, IsPart, part_then, part_spaced, part_empty, part_open, part_sign, part_comma, part_closing, sign_token, word_token}
use Rattle.chv_print.proofs.Tokens.{part_word, part_name, part_digits, part_quoted, name_of-text, digits_of-text, text_of-text, is_keyword-word, is_word-word, is_sign-sign}

-- a text is a part whose lexemes write the value
pub record Prints {A : Type 0} (spelling : Spelling A) (value : A) (text : List ℕ) : Type 0 where
  pub lexemes : List Lexeme
  pub written : spelling value lexemes
  pub part : IsPart text lexemes

-- what one spelling writes, another one writes
pub printed_as : {A B : Type 0} {p : Spelling A} {q : Spelling B} {value : A} {other : B} {text : List ℕ}
    → ((us : List Lexeme) → p value us → q other us) → Prints p value text → Prints q other text
printed_as f h = record { lexemes = h.lexemes; written = f h.lexemes h.written; part = h.part }

-- a space in front
pub spaced : {A : Type 0} {p : Spelling A} {value : A} {text : List ℕ} → Prints p value text → Prints p value (32 ∷ text)
spaced h = record { lexemes = h.lexemes; written = h.written; part = part_spaced h.part }

-- one part behind the other
pub then_ : {A B : Type 0} {p : Spelling A} {q : A → Spelling B} {first : A} {value : B} {a b : List ℕ}
    → Prints p first a → IsTrue (ends_tokens b) → Prints (q first) value b → Prints (p >>= q) value (a ++ b)
then_ {first = first} h e k = record {
  lexemes = h.lexemes ++ k.lexemes;
  written = record { first = first; us = h.lexemes; vs = k.lexemes; split = refl; before = h.written; behind = k.written };
  part = part_then h.part e k.part;
}

-- the last part
pub ends : {A B : Type 0} {p : Spelling A} {q : A → Spelling B} {first : A} {value : B} {a : List ℕ}
    → Prints p first a → q first value [] → Prints (p >>= q) value a
ends {first = first} h k = record {
  lexemes = h.lexemes;
  written = record { first = first; us = h.lexemes; vs = []; split = sym (append-nil h.lexemes); before = h.written; behind = k };
  part = h.part;
}

-- nothing is written of what is absent
pub absent : {A : Type 0} {p : Spelling A} → Prints (optional p) None []
absent = record { lexemes = []; written = refl; part = part_empty }

-- what is there
pub some : {A : Type 0} {p : Spelling A} {value : A} {text : List ℕ} → Prints p value text → Prints (optional p) (Some value) text
some h = record { lexemes = h.lexemes; written = h.written; part = h.part }

-- what is absent in front of the rest
pub passed : {A B : Type 0} {p : Spelling A} {q : Option A → Spelling B} {value : B} {b : List ℕ}
    → Prints (q None) value b → Prints (optional p >>= q) value b
passed h = record {
  lexemes = h.lexemes;
  written = record { first = None; us = []; vs = h.lexemes; split = refl; before = refl; behind = h.written };
  part = h.part;
}

pub prints_keyword : (letters : List ℕ) → IsName letters → Prints (keyword letters) tt letters
prints_keyword letters h = record {
  lexemes = word_token letters ∷ [];
  written = record { token = word_token letters; alone = refl; marked = is_keyword-word letters };
  part = part_word letters h;
}

pub prints_word : (letters : List ℕ) → IsName letters → Prints (word letters) tt letters
prints_word letters h = record {
  lexemes = word_token letters ∷ [];
  written = record { token = word_token letters; alone = refl; marked = is_word-word letters };
  part = part_word letters h;
}

pub prints_name : (called : List ℕ) → IsName called → Prints name called (name_text called)
prints_name called h = record {
  lexemes = word_token (name_text called) ∷ [];
  written = record { token = word_token (name_text called); alone = refl; meant = name_of-text called h };
  part = part_name called h;
}

pub prints_digits : (digits : List ℕ) → IsDigits digits → Prints whole digits digits
prints_digits digits h = record {
  lexemes = _ ∷ [];
  written = record { token = _; alone = refl; meant = digits_of-text digits h };
  part = part_digits digits h;
}

pub prints_quoted : (text : List ℕ) → Prints quoted text (quoted_text text)
prints_quoted text = record {
  lexemes = _ ∷ [];
  written = record { token = _; alone = refl; meant = text_of-text text };
  part = part_quoted text;
}

pub prints_comma : Prints (sign (codes ",")) tt (codes ",")
prints_comma = record {
  lexemes = sign_token (codes ",") ∷ [];
  written = record { token = sign_token (codes ","); alone = refl; marked = is_sign-sign (codes ",") };
  part = part_comma;
}

pub prints_equal : Prints (sign (codes "=")) tt (codes "=")
unfolding is_sign_byte is_sign_pair
prints_equal = record {
  lexemes = sign_token (codes "=") ∷ [];
  written = record { token = sign_token (codes "="); alone = refl; marked = is_sign-sign (codes "=") };
  part = part_sign (codes "=") refl refl refl refl refl;
}

pub prints_star : Prints (sign (codes "*")) tt (codes "*")
unfolding is_sign_byte is_sign_pair
prints_star = record {
  lexemes = sign_token (codes "*") ∷ [];
  written = record { token = sign_token (codes "*"); alone = refl; marked = is_sign-sign (codes "*") };
  part = part_sign (codes "*") refl refl refl refl refl;
}

pub prints_closing : Prints (sign (codes ")")) tt (codes ")")
prints_closing = record {
  lexemes = sign_token (codes ")") ∷ [];
  written = record { token = sign_token (codes ")"); alone = refl; marked = is_sign-sign (codes ")") };
  part = part_closing;
}

-- `(` in front of what follows
pub opened : {B : Type 0} {q : Spelling B} {value : B} {a : List ℕ} → Prints q value a → Prints (sign (codes "(") >> q) value (40 ∷ a)
opened h = record {
  lexemes = sign_token (codes "(") ∷ h.lexemes;
  written = record {
    first = tt;
    us = sign_token (codes "(") ∷ [];
    vs = h.lexemes;
    split = refl;
    before = record { token = sign_token (codes "("); alone = refl; marked = is_sign-sign (codes "(") };
    behind = h.written;
  };
  part = part_open h.part;
}

-- values in parentheses
pub prints_enclosed : {A : Type 0} {p : Spelling A} {value : A} {text : List ℕ} → Prints p value text → Prints (enclosed p) value (40 ∷ text ++ codes ")")
prints_enclosed h = opened (then_ h refl (ends prints_closing (refl, refl)))

prints_from : {A : Type 0} {p : Spelling A} (text : A → List ℕ) (value : A) (values : List A) → Prints p value (text value)
    → Each (λ v. Prints p v (text v)) values → Prints (Listed p) (value ∷ values) (listed text (value ∷ values))
prints_from text value [] h k = record {
  lexemes = h.lexemes;
  written = One value h.lexemes h.written;
  part = subst (λ x. IsPart x h.lexemes) (sym (append-nil (text value))) h.part;
}
prints_from text value (next ∷ values) h k =
    let rest = prints_from text next values k.0 k.1 in
    record {
      lexemes = h.lexemes ++ sign_token (codes ",") ∷ rest.lexemes;
      written = More value (next ∷ values) (sign_token (codes ",")) h.lexemes rest.lexemes h.written (is_sign-sign (codes ",")) rest.written;
      part = part_then h.part refl (part_then part_comma refl (part_spaced rest.part));
    }

each_map : {A : Type 0} {P Q : A → Type 0} → ((value : A) → P value → Q value) → (values : List A) → Each P values → Each Q values
each_map f [] h = tt
each_map f (value ∷ values) h = (f value h.0, each_map f values h.1)

-- values with a comma and a space between two of them
pub prints_listed : {A : Type 0} {P : A → Type 0} {p : Spelling A} (text : A → List ℕ) → ((value : A) → P value → Prints p value (text value))
    → (values : List A) → EachOfSome P values → Prints (Listed p) values (listed text values)
prints_listed text f [] h = absurd h
prints_listed text f (value ∷ values) h =
    prints_from text value values (f value h.0) (each_map f values h.1)

-- names in parentheses
pub prints_names : (list : List (List ℕ)) → EachOfSome IsName list → Prints names list (names_text list)
prints_names list h = prints_enclosed (prints_listed name_text prints_name list h)
