-- Names that begin with a word.
use Rattle.std.proofs.Common.{◌≡◌, ℕ, List, [], ◌∷◌, ◌++◌, length, take, drop, Bool, true, false, nat_eq, ◌&&◌, refl}
use Rattle.std.specs.Cmp.Lexicographic.{pointwise}
use Rattle.std.specs.Str.{bytes_eq}

both_true : (a b : Bool) → (a && b) ≡ true → (a ≡ true) × (b ≡ true)
both_true true b h = (refl, h)
both_true false b h = cc

-- a name that begins with the word is the word and an ending where the rest is that ending
pub bytes_eq-behind : (word name ending : List ℕ) → pointwise nat_eq (take (length word) name) word ≡ true
    → bytes_eq name (word ++ ending) ≡ bytes_eq (drop (length word) name) ending
bytes_eq-behind [] name ending h = refl
bytes_eq-behind (w ∷ word) [] ending h = cc
bytes_eq-behind (w ∷ word) (n ∷ name) ending h =
    let both = both_true (nat_eq n w) (pointwise nat_eq (take (length word) name) word) h in
    rw both.0 (bytes_eq-behind word name ending both.1)

false_behind : (first rest other : Bool) → (first && rest) ≡ false → (rest ≡ false → other ≡ false) → (first && other) ≡ false
false_behind true rest other h f = f h
false_behind false rest other h f = refl

-- a name that does not begin with the word is not the word and an ending
pub bytes_eq-other : (word name ending : List ℕ) → pointwise nat_eq (take (length word) name) word ≡ false
    → bytes_eq name (word ++ ending) ≡ false
bytes_eq-other [] name ending h = cc
bytes_eq-other (w ∷ word) [] ending h = refl
bytes_eq-other (w ∷ word) (n ∷ name) ending h =
    false_behind (nat_eq n w) (pointwise nat_eq (take (length word) name) word) (bytes_eq name (word ++ ending)) h (bytes_eq-other word name ending)

pub ruleset name_laws = (bytes_eq-behind, bytes_eq-other)
