-- Other keys have other bytes.
use Rattle.std.proofs.Common.{◌≡◌, ℕ, ℤ, pos, negsuc, ◌<◌, ◌^◌, List, [], ◌∷◌, ◌++◌, length, drop, map, take, get_or, slice_index, ◌+◌, subst, refl, sym, ap, ap₂, ◌∙◌, false, true, arith}
use Rattle.std.proofs.lemmas.Int.{ints, to_z-of_z}
use Rattle.std.proofs.lemmas.List.{append-nil, append_assoc, map_more}
use Rattle.std.proofs.lemmas.List.Elements.{All-head, All-push, All-tail}
use Rattle.std.specs.Int.{cast_signed, cast_unsigned, w128}
use Rattle.std.specs.Int.RustNames.{FitsSigned}
use Rattle.std.specs.List.{All}
use Rattle.byteorder.specs.Endian.{little_number}
use Rattle.byteorder.specs.Numbers.{little_number-reads_back}
use Rattle.chv_bytes.proofs.NumberLemmas.{same_split}
use Rattle.chv_group.specs.KeyBytes.{IsHeld, key_bytes, length_bytes, measured, number_bytes, value_bytes}
use Rattle.chv_types.specs.Values.{seen_value}
use Rattle.chv_types.specs.declared.seen.Seen.{Seen}
use Rattle.chv_types.specs.declared.value.Value.{Value}
use Rattle.chv_types.specs.declared.value.Value.TheVariants.{Whole, Truth, Text, State}

-- keys one behind the other have their bytes so
pub key_bytes-append : (a b : List Value) → key_bytes (a ++ b) ≡ key_bytes a ++ key_bytes b
key_bytes-append [] b = refl
key_bytes-append (value ∷ a) b = rw (key_bytes-append a b) (sym (append_assoc (value_bytes value) (key_bytes a) (key_bytes b)))

bits_below : (n : ℤ) → FitsSigned w128 n → cast_unsigned w128 n < 2 ^ 128
bits_below (pos n) h = omega (arith, ints, h)
bits_below (negsuc n) h = omega (arith, ints, h)

-- bytes begin with one number at most
one_number : (m n : ℤ) (x y : List ℕ) → FitsSigned w128 m → FitsSigned w128 n → number_bytes m ++ x ≡ number_bytes n ++ y → (m ≡ n) × (x ≡ y)
unfolding number_bytes
one_number m n x y h k same =
    let bits : cast_unsigned w128 m ≡ cast_unsigned w128 n =
    sym (little_number-reads_back 16 (cast_unsigned w128 m) x (bits_below m h)) ∙ ap (λ (l : List ℕ). little_number 16 l) same
    ∙ little_number-reads_back 16 (cast_unsigned w128 n) y (bits_below n k) in
    (sym (to_z-of_z w128 m h) ∙ ap (cast_signed w128) bits ∙ to_z-of_z w128 n k, ap (λ (l : List ℕ). drop 16 l) same)

-- and with one run behind its length
one_measured : (a b x y : List ℕ) → length a < 2 ^ 64 → length b < 2 ^ 64 → measured a ++ x ≡ measured b ++ y → (a ≡ b) × (x ≡ y)
unfolding length_bytes
one_measured a b x y h k same =
    let long : length a ≡ length b =
    sym (little_number-reads_back 8 (length a) (a ++ x) h) ∙ ap (λ (l : List ℕ). little_number 8 l) same ∙ little_number-reads_back 8 (length b) (b ++ y) k in
    same_split a b x y long (ap (λ (l : List ℕ). drop 8 l) same)

-- the first byte tells the sorts of values apart
first_byte : (a b : ℕ) (x y : List ℕ) → a ∷ x ≡ b ∷ y → a ≡ b
first_byte a b x y same = ap (λ (l : List ℕ). slice_index l 0) same

-- bytes begin with one value at most
one_value : (a b : Value) (x y : List ℕ) → IsHeld a → IsHeld b → value_bytes a ++ x ≡ value_bytes b ++ y → (a ≡ b) × (x ≡ y)
one_value (Whole m) (Whole n) x y h k same = let p = one_number m n x y h k (ap (λ (l : List ℕ). drop 1 l) same) in (ap Whole p.0, p.1)
one_value (Whole m) (Truth b) x y h k same = absurd (omega (arith, first_byte _ _ _ _ same))
one_value (Whole m) (Text b) x y h k same = absurd (omega (arith, first_byte _ _ _ _ same))
one_value (Whole m) (State b) x y h k same = absurd (omega (arith, first_byte _ _ _ _ same))
one_value (Truth a) (Whole n) x y h k same = absurd (omega (arith, first_byte _ _ _ _ same))
one_value (Truth false) (Truth false) x y h k same = (refl, ap (λ (l : List ℕ). drop 2 l) same)
one_value (Truth false) (Truth true) x y h k same = absurd (omega (arith, ap (λ (l : List ℕ). slice_index l 1) same))
one_value (Truth true) (Truth false) x y h k same = absurd (omega (arith, ap (λ (l : List ℕ). slice_index l 1) same))
one_value (Truth true) (Truth true) x y h k same = (refl, ap (λ (l : List ℕ). drop 2 l) same)
one_value (Truth a) (Text b) x y h k same = absurd (omega (arith, first_byte _ _ _ _ same))
one_value (Truth a) (State b) x y h k same = absurd (omega (arith, first_byte _ _ _ _ same))
one_value (Text a) (Whole n) x y h k same = absurd (omega (arith, first_byte _ _ _ _ same))
one_value (Text a) (Truth b) x y h k same = absurd (omega (arith, first_byte _ _ _ _ same))
one_value (Text a) (Text b) x y h k same = let p = one_measured a b x y h k (ap (λ (l : List ℕ). drop 1 l) same) in (ap Text p.0, p.1)
one_value (Text a) (State b) x y h k same = absurd (omega (arith, first_byte _ _ _ _ same))
one_value (State a) (Whole n) x y h k same = absurd (omega (arith, first_byte _ _ _ _ same))
one_value (State a) (Truth b) x y h k same = absurd (omega (arith, first_byte _ _ _ _ same))
one_value (State a) (Text b) x y h k same = absurd (omega (arith, first_byte _ _ _ _ same))
one_value (State a) (State b) x y h k same = let p = one_measured a b x y h k (ap (λ (l : List ℕ). drop 1 l) same) in (ap State p.0, p.1)

-- a value has bytes
some_bytes : (value : Value) (x : List ℕ) → value_bytes value ++ x ≡ [] → ⊥
some_bytes (Whole n) x none = cc
some_bytes (Truth b) x none = cc
some_bytes (Text text) x none = cc
some_bytes (State spelling) x none = cc

-- keys of the same bytes are the same
pub same_key : (a b : List Value) → All IsHeld a → All IsHeld b → key_bytes a ≡ key_bytes b → a ≡ b
same_key [] [] h k same = refl
same_key [] (y ∷ b) h k same = absurd (some_bytes y (key_bytes b) (sym same))
same_key (x ∷ a) [] h k same = absurd (some_bytes x (key_bytes a) same)
same_key (x ∷ a) (y ∷ b) h k same =
    let p = one_value x y (key_bytes a) (key_bytes b) (All-head IsHeld x a h) (All-head IsHeld y b k) same in
    ap₂ (λ (v : Value) (vs : List Value). v ∷ vs) p.0 (same_key a b (All-tail IsHeld x a h) (All-tail IsHeld y b k) p.1)

-- one value of a key more
pub put-step : (key : List Seen) (i : ℕ) (d : Seen) (start old new : List ℕ) → i < length key → old ≡ start ++ key_bytes (map seen_value (take i key))
    → new ≡ old ++ value_bytes (seen_value (get_or key i d)) → new ≡ start ++ key_bytes (map seen_value (take (i + 1) key))
put-step key i d start old new within so_far put =
    let more : key_bytes (map seen_value (take (i + 1) key)) ≡ key_bytes (map seen_value (take i key)) ++ (value_bytes (seen_value (get_or key i d)) ++ []) =
    ap key_bytes (map_more seen_value key i d within) ∙ key_bytes-append (map seen_value (take i key)) (seen_value (get_or key i d) ∷ []) in
    put ∙ ap (λ (bytes : List ℕ). bytes ++ value_bytes (seen_value (get_or key i d))) so_far
    ∙ append_assoc start (key_bytes (map seen_value (take i key))) (value_bytes (seen_value (get_or key i d)))
    ∙ ap (λ (bytes : List ℕ). start ++ (key_bytes (map seen_value (take i key)) ++ bytes)) (sym (append-nil (value_bytes (seen_value (get_or key i d)))))
    ∙ ap (λ (bytes : List ℕ). start ++ bytes) (sym more)

pub held-step : (key : List Seen) (i : ℕ) (d : Seen) → i < length key → All IsHeld (map seen_value (take i key)) → IsHeld (seen_value (get_or key i d))
    → All IsHeld (map seen_value (take (i + 1) key))
held-step key i d within so_far one =
    subst (All IsHeld) (sym (map_more seen_value key i d within)) (All-push IsHeld (map seen_value (take i key)) (seen_value (get_or key i d)) so_far one)
