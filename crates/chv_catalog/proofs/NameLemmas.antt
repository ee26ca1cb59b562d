-- Names held as vectors of bytes, and their texts.
use Rattle.std.proofs.Common.{◌≡◌, ℕ, not, List, [], ◌∷◌, ◌++◌, length, None, refl, sym, ap, ◌∙◌, is_some, false, Result, Ok, Err, IsOk, IfOk}
use Rattle.std.specs.List.{position, prefix_len, list_any}
use Rattle.std.specs.declared.alloc.Global.{Global}
use Rattle.std.specs.declared.vec.Vec.{Vec}
use Rattle.std.specs.Str.{bytes_eq}
use Rattle.std.proofs.lemmas.Cmp.{nat_list_eq_equiv}
use Rattle.indexmap.specs.IndexSet.{insert_key}
use Rattle.chv_catalog.proofs.Positions.{is_some-position}
use Rattle.chv_catalog.specs.Names.{texts_of}
use Rattle.chv_types.specs.Names.{place_of}

prefix_len-texts_of : (name : List ℕ) (keys : List (Vec ℕ Global))
    → prefix_len (λ key. not (bytes_eq name key.items)) keys ≡ prefix_len (λ other. not (bytes_eq other name)) (texts_of keys)
prefix_len-texts_of name [] = refl
prefix_len-texts_of name (key ∷ keys) = rw (prefix_len-texts_of name keys, nat_list_eq_equiv.symm name key.items) refl

pub length-texts_of : (keys : List (Vec ℕ Global)) → length (texts_of keys) ≡ length keys
length-texts_of [] = refl
length-texts_of (key ∷ keys) = rw (length-texts_of keys) refl

-- the first vector with the bytes of a name is where the name is first
pub position-texts_of : (name : List ℕ) (keys : List (Vec ℕ Global)) → position (λ key. bytes_eq name key.items) keys ≡ place_of name (texts_of keys)
position-texts_of name keys = rw (prefix_len-texts_of name keys, length-texts_of keys) refl

-- one vector more is one text more
pub texts_of-append : (keys : List (Vec ℕ Global)) (key : Vec ℕ Global) → texts_of (keys ++ key ∷ []) ≡ texts_of keys ++ key.items ∷ []
texts_of-append [] key = refl
texts_of-append (other ∷ keys) key = rw (texts_of-append keys key) refl

-- a vector whose bytes are no name's goes behind the others
pub texts_of-insert_key : (key : Vec ℕ Global) (keys : List (Vec ℕ Global)) → place_of key.items (texts_of keys) ≡ None
    → texts_of (insert_key (λ a b. bytes_eq a.items b.items) keys key) ≡ texts_of keys ++ key.items ∷ []
texts_of-insert_key key keys new =
    let absent : list_any (λ other. bytes_eq key.items other.items) keys ≡ false =
    sym (is_some-position (λ (other : Vec ℕ Global). bytes_eq key.items other.items) keys) ∙ ap is_some (position-texts_of key.items keys ∙ new) in
    rw absent (texts_of-append keys key)

-- what is known of a success holds where there is one
pub from_success : {A E : Type 0} (r : Result A E) (P : Type 0) → IsOk r → IfOk r (λ a. P) → P
from_success (Ok a) P success known = known
from_success (Err e) P success known = cc
