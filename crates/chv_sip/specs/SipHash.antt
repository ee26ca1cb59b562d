-- SipHash-2-4, by J.-P. Aumasson and D. J. Bernstein, as a function on a list of bytes. A word is a number below 2 ^ 64.
use Rattle.std.specs.Prelude.{ℕ, ◌≡◌, ◌+◌, ◌-◌, ◌%◌, ◌^◌, List, [], ◌∷◌, ◌++◌, length, replicate, bit_xor}
use Rattle.std.specs.Int.{w64, rotate_left}
use Rattle.std.specs.List.{fold}
use Rattle.byteorder.specs.Endian.{little_number}
use Rattle.chv_sip.specs.declared.state.State.{State}

-- the sum of two words, without its carry
abbrev pub word_sum : ℕ → ℕ → ℕ
word_sum x y = (x + y) % 2 ^ 64

-- the state under a key of two words, before any input
unfoldable pub keyed : ℕ → ℕ → State
keyed k0 k1 = record {
  v0 = bit_xor k0 0x736f6d6570736575;
  v1 = bit_xor k1 0x646f72616e646f6d;
  v2 = bit_xor k0 0x6c7967656e657261;
  v3 = bit_xor k1 0x7465646279746573;
}

-- a round: v0 meets v1 as v2 meets v3, then v0 meets v3 as v2 meets v1
unfoldable pub round : State → State
round s =
    let a0 = word_sum s.v0 s.v1 in
    let a1 = bit_xor (rotate_left w64 s.v1 13) a0 in
    let a2 = word_sum s.v2 s.v3 in
    let a3 = bit_xor (rotate_left w64 s.v3 16) a2 in
    let b0 = word_sum (rotate_left w64 a0 32) a3 in
    let b3 = bit_xor (rotate_left w64 a3 21) b0 in
    let b2 = word_sum a2 a1 in
    let b1 = bit_xor (rotate_left w64 a1 17) b2 in
    record { v0 = b0; v1 = b1; v2 = rotate_left w64 b2 32; v3 = b3 }

-- the state after a word: the word goes into v3, two rounds follow, and it goes into v0
unfoldable pub compressed : State → ℕ → State
compressed s word =
    let t = round (round (record s { v3 = bit_xor s.v3 word })) in
    record t { v0 = bit_xor t.v0 word }

-- the word that ends an input: the 0 to 7 bytes left, zeros, and the length modulo 256 in the top byte
abbrev pub last_word : ℕ → List ℕ → ℕ
last_word total left = little_number 8 (left ++ replicate (7 - length left) 0 ++ total % 256 ∷ [])

-- the words of the rest of an input that has `total` bytes in all: 8 bytes each, and the last word
abbrev pub words_of : ℕ → List ℕ → List ℕ
words_of total (b0 ∷ b1 ∷ b2 ∷ b3 ∷ b4 ∷ b5 ∷ b6 ∷ b7 ∷ rest) = little_number 8 (b0 ∷ b1 ∷ b2 ∷ b3 ∷ b4 ∷ b5 ∷ b6 ∷ b7 ∷ []) ∷ words_of total rest
words_of total left = last_word total left ∷ []

-- the state that has taken in the rest of an input of `total` bytes
abbrev pub absorbed : ℕ → State → List ℕ → State
absorbed total s rest = fold compressed s (words_of total rest)

-- the hash in a state that has taken in a whole input: four rounds, and the four words joined
unfoldable pub finished : State → ℕ
finished s =
    let t = round (round (round (round (record s { v2 = bit_xor s.v2 0xff })))) in
    bit_xor (bit_xor (bit_xor t.v0 t.v1) t.v2) t.v3

-- SipHash-2-4 of a list of bytes, under a key of two words
unfoldable pub sip_hash : ℕ → ℕ → List ℕ → ℕ
sip_hash k0 k1 bytes = finished (absorbed (length bytes) (keyed k0 k1) bytes)

-- the new state with the bytes left stands for the old one with its bytes: whatever follows, they end alike
pub record GoesOn (old : State) (bytes : List ℕ) (new : State) (left : List ℕ) : Type 0 where
  pub alike : (total : ℕ) (more : List ℕ) → absorbed total old (bytes ++ more) ≡ absorbed total new (left ++ more)
