-- A script, from one place to the next.
use Rattle.std.proofs.Common.{◌≡◌, ℕ, zero, suc, ◌+◌, ◌-◌, ◌*◌, ◌<◌, ◌≤◌, cond, ◌==◌, nat_le, List, [], ◌∷◌, ◌++◌, length, get_or, take, drop, refl, ap, sym, subst, ◌∙◌, arith, append_assoc}
use Rattle.std.proofs.Math.Seq.{take-add}
use Rattle.std.proofs.lemmas.Bool.{cond-true, cond-false, cond_both, eq-eqb, ne_eqb, eqb-true, eqb-false, le-leb, lt-leb, leb-true}
use Rattle.std.proofs.lemmas.List.{append-nil, drop-drop, drop_all, length-drop, length-take-le}
use Rattle.std.proofs.lemmas.List.Elements.{All-nil, All-cons, All-weaker}
use Rattle.std.specs.List.{All, onto_first, cons_option, prefix_len}
use Rattle.std.specs.Char.{is_ascii_digit}
use Rattle.std.specs.Prelude.{Option, Some, None, IfSome, option_map, option_to_list, unwrap_or, ⊤}
use Rattle.chv_lex.specs.declared.piece.Piece.{Piece}
use Rattle.chv_lex.specs.Blanks.{behind_blanks}
use Rattle.chv_lex.specs.Scripts.{unit_length, cut_from, cut_behind, client, client_of, tag_of, filled, piece_of, pieces_at, pieces_of, IsPieceOf}

-- bytes put in front of the first piece
abbrev pub onto_front : List ℕ → List (List ℕ) → List (List ℕ)
onto_front [] pieces = pieces
onto_front (byte ∷ bytes) pieces = onto_first byte (onto_front bytes pieces)

onto_twice : (first second : List ℕ) (pieces : List (List ℕ)) → onto_front first (onto_front second pieces) ≡ onto_front (first ++ second) pieces
onto_twice [] second pieces = refl
onto_twice (byte ∷ first) second pieces = ap (λ (l : List (List ℕ)). onto_first byte l) (onto_twice first second pieces)

onto_some : (front piece : List ℕ) (pieces : List (List ℕ)) → onto_front front (piece ∷ pieces) ≡ (front ++ piece) ∷ pieces
onto_some [] piece pieces = refl
onto_some (byte ∷ front) piece pieces = ap (λ (l : List (List ℕ)). onto_first byte l) (onto_some front piece pieces)

-- bytes of a comment or of quotes that are left
cut_left : (n : ℕ) (text : List ℕ) → n ≤ length text → cut_from n text ≡ onto_front (take n text) (cut_from 0 (drop n text))
cut_left zero text within = refl
cut_left (suc n) [] within = absurd (omega arith)
cut_left (suc n) (byte ∷ bytes) within = ap (λ (l : List (List ℕ)). onto_first byte l) (cut_left n bytes (omega arith))

-- n bytes of a list, the first one apart
front_of : (n byte : ℕ) (bytes : List ℕ) (pieces : List (List ℕ)) → 0 < n
    → onto_first byte (onto_front (take (n - 1) bytes) (cut_from 0 (drop (n - 1) bytes))) ≡ onto_front (take n (byte ∷ bytes)) (cut_from 0 (drop n (byte ∷ bytes)))
front_of zero byte bytes pieces some = absurd (omega arith)
front_of (suc n) byte bytes pieces some =
    let e : suc n - 1 ≡ n = omega arith in
    ap (λ (k : ℕ). onto_first byte (onto_front (take k bytes) (cut_from 0 (drop k bytes)))) e

-- what belongs together is passed
cut_unit : (text : List ℕ) → 0 < length text → (get_or text 0 0 ≡ 59 → ⊥) → 0 < unit_length text → unit_length text ≤ length text
    → cut_from 0 text ≡ onto_front (take (unit_length text) text) (cut_from 0 (drop (unit_length text) text))
cut_unit [] long other some within = absurd (omega arith)
cut_unit (byte ∷ bytes) long other some within =
    let n = unit_length (byte ∷ bytes) in
    cond-false (byte == 59) ([] ∷ cut_from 0 bytes) (onto_first byte (cut_from (n - 1) bytes)) (ne_eqb byte 59 other)
    ∙ ap (λ (l : List (List ℕ)). onto_first byte l) (cut_left (n - 1) bytes (omega (arith, some, within)))
    ∙ front_of n byte bytes [] some

-- the same from a place on
pub goes : (text : List ℕ) (at n : ℕ) → at < length text → (get_or (drop at text) 0 0 ≡ 59 → ⊥) → n ≡ unit_length (drop at text) → 0 < n → n ≤ length (drop at text)
    → cut_from 0 text ≡ onto_front (take at text) (cut_from 0 (drop at text)) → cut_from 0 text ≡ onto_front (take (at + n) text) (cut_from 0 (drop (at + n) text))
goes text at n lt other is some within so_far =
    let rest = drop at text in
    let unit : cut_from 0 rest ≡ onto_front (take n rest) (cut_from 0 (drop n rest)) =
    subst (λ (k : ℕ). cut_from 0 rest ≡ onto_front (take k rest) (cut_from 0 (drop k rest))) (sym is)
    (cut_unit rest (omega (arith, length-drop at text)) other (omega (arith, is, some)) (omega (arith, is, within))) in
    so_far
    ∙ ap (λ (l : List (List ℕ)). onto_front (take at text) l) unit
    ∙ onto_twice (take at text) (take n rest) (cut_from 0 (drop n rest))
    ∙ ap (λ (l : List ℕ). onto_front l (cut_from 0 (drop n rest))) (sym (take-add at n text))
    ∙ ap (λ (l : List ℕ). onto_front (take (at + n) text) (cut_from 0 l)) (drop-drop n at text)

-- at a `;` that cuts
at_cut : (rest : List ℕ) → get_or rest 0 0 ≡ 59 → cut_from 0 rest ≡ [] ∷ cut_from 0 (drop 1 rest)
at_cut [] is = absurd (omega arith)
at_cut (byte ∷ bytes) is = cond-true (byte == 59) ([] ∷ cut_from 0 bytes) (onto_first byte (cut_from (unit_length (byte ∷ bytes) - 1) bytes)) (eq-eqb byte 59 is)

pub ends_at : (text : List ℕ) (at : ℕ) → at < length text → get_or (drop at text) 0 0 ≡ 59
    → cut_from 0 text ≡ onto_front (take at text) (cut_from 0 (drop at text)) → cut_from 0 text ≡ take at text ∷ cut_behind at text
ends_at text at lt is so_far =
    so_far
    ∙ ap (λ (l : List (List ℕ)). onto_front (take at text) l) (at_cut (drop at text) is)
    ∙ onto_some (take at text) [] (cut_from 0 (drop 1 (drop at text)))
    ∙ ap (λ (l : List ℕ). l ∷ cut_from 0 (drop 1 (drop at text))) (append-nil (take at text))
    ∙ ap (λ (l : List ℕ). take at text ∷ cut_from 0 l) (drop-drop 1 at text)
    ∙ ap (λ (l : List (List ℕ)). take at text ∷ l) (sym (cond-false (at == length text) [] (cut_from 0 (drop (at + 1) text)) (ne_eqb at (length text) (λ e. absurd (omega arith)))))

-- at the end
pub ends : (text : List ℕ) (at : ℕ) → length text ≤ at → at ≤ length text
    → cut_from 0 text ≡ onto_front (take at text) (cut_from 0 (drop at text)) → cut_from 0 text ≡ take at text ∷ cut_behind at text
ends text at over within so_far =
    so_far
    ∙ ap (λ (l : List ℕ). onto_front (take at text) (cut_from 0 l)) (drop_all at text over)
    ∙ onto_some (take at text) [] []
    ∙ ap (λ (l : List ℕ). l ∷ []) (append-nil (take at text))
    ∙ ap (λ (l : List (List ℕ)). take at text ∷ l) (sym (cond-true (at == length text) [] (cut_from 0 (drop (at + 1) text)) (eq-eqb at (length text) (omega arith))))

-- the pieces from a place on; behind the end there are none
abbrev pub from_place : ℕ → List ℕ → List Piece
from_place start text = cond (nat_le start (length text)) (pieces_at start (cut_from 0 (drop start text))) []

cons_as_append : (piece : Option Piece) (pieces : List Piece) → cons_option piece pieces ≡ option_to_list piece ++ pieces
cons_as_append None pieces = refl
cons_as_append (Some piece) pieces = refl

-- behind a piece
behind_piece : (text : List ℕ) (start n : ℕ) → start ≤ length text → n ≤ length (drop start text)
    → pieces_at (start + n + 1) (cut_behind n (drop start text)) ≡ from_place (start + n + 1) text
behind_piece text start n lt within =
    let rest = drop start text in
    let next = start + n + 1 in
    let size : length rest ≡ length text - start = length-drop start text in
    let P = λ (l : List (List ℕ)). pieces_at next l ≡ from_place next text in
    cond_both (n == length rest) [] (cut_from 0 (drop (n + 1) rest)) P
    (λ is. sym (cond-false (nat_le next (length text)) (pieces_at next (cut_from 0 (drop next text))) [] (lt-leb next (length text) (omega (arith, eqb-true n (length rest) is)))))
    (λ other.
    let e : start + (n + 1) ≡ next = omega arith in
    ap (λ (l : List ℕ). pieces_at next (cut_from 0 l)) (drop-drop (n + 1) start text ∙ ap (λ (k : ℕ). drop k text) e)
    ∙ sym (cond-true (nat_le next (length text)) (pieces_at next (cut_from 0 (drop next text))) [] (le-leb next (length text) (omega (arith, eqb-false n (length rest) other)))))

-- one piece is found
pub found : (text : List ℕ) (start n : ℕ) (read : List Piece) (piece : Option Piece) → start ≤ length text → n ≤ length (drop start text)
    → cut_from 0 (drop start text) ≡ take n (drop start text) ∷ cut_behind n (drop start text) → piece ≡ piece_of (start + n) (take n (drop start text))
    → pieces_of text ≡ read ++ from_place start text → pieces_of text ≡ (read ++ option_to_list piece) ++ from_place (start + n + 1) text
found text start n read piece lt within cuts is so_far =
    let rest = drop start text in
    let bytes = take n rest in
    let size : length bytes ≡ n = length-take-le n rest within in
    so_far
    ∙ ap (λ (l : List Piece). read ++ l) (
    cond-true (nat_le start (length text)) (pieces_at start (cut_from 0 rest)) [] (le-leb start (length text) lt)
    ∙ ap (λ (l : List (List ℕ)). pieces_at start l) cuts
    ∙ ap (λ (k : ℕ). cons_option (piece_of (start + k) bytes) (pieces_at (start + k + 1) (cut_behind n rest))) size
    ∙ ap (λ (l : List Piece). cons_option (piece_of (start + n) bytes) l) (behind_piece text start n lt within)
    ∙ cons_as_append (piece_of (start + n) bytes) (from_place (start + n + 1) text)
    ∙ ap (λ (p : Option Piece). option_to_list p ++ from_place (start + n + 1) text) (sym is)
    )
    ∙ sym (append_assoc read (option_to_list piece) (from_place (start + n + 1) text))

-- all are found
pub all_found : (text : List ℕ) (start : ℕ) (read : List Piece) → length text < start → pieces_of text ≡ read ++ from_place start text → read ≡ pieces_of text
all_found text start read over so_far =
    sym (so_far
    ∙ ap (λ (l : List Piece). read ++ l) (cond-false (nat_le start (length text)) (pieces_at start (cut_from 0 (drop start text))) [] (lt-leb start (length text) over))
    ∙ append-nil read)

-- before the first
pub none_found : (text : List ℕ) → pieces_of text ≡ [] ++ from_place 0 text
none_found text = sym (cond-true (nat_le 0 (length text)) (pieces_of text) [] (le-leb 0 (length text) (omega arith)))

-- a piece within so many bytes
pub record IsWithin (size : ℕ) (piece : Piece) : Type 0 where
  pub client : piece.client < 16
  pub start : piece.start ≤ piece.end
  pub end : piece.end ≤ size

client_within : (n : ℕ) → IfSome (client n) (λ c. c < 16)
client_within n = cond_both (nat_le n 15) (Some n) None (λ (o : Option ℕ). IfSome o (λ c. c < 16)) (λ is. omega (arith, leb-true n 15 is)) (λ _. tt)

client_of_within : (digits : List ℕ) → IfSome (client_of digits) (λ c. c < 16)
client_of_within [] = tt
client_of_within (ones ∷ []) = client_within (ones - 48)
client_of_within (tens ∷ ones ∷ []) = client_within (10 * (tens - 48) + (ones - 48))
client_of_within (digit ∷ next ∷ other ∷ digits) = tt

named_within : (bytes : List ℕ) (named : Option ℕ) → IfSome named (λ c. c < 16) → IfSome {T = ℕ × List ℕ} (option_map (λ c. (c, bytes)) named) (λ t. t.0 < 16)
named_within bytes None small = tt
named_within bytes (Some n) small = small

tag_within : (text : List ℕ) → IfSome (tag_of text) (λ t. t.0 < 16)
tag_within [] = tt
tag_within (byte ∷ bytes) =
    let n = prefix_len is_ascii_digit bytes in
    cond_both (byte == 64) (option_map (λ c. (c, drop n bytes)) (client_of (take n bytes))) None (λ (o : Option (ℕ × List ℕ)). IfSome o (λ t. t.0 < 16))
    (λ _. named_within (drop n bytes) (client_of (take n bytes)) (client_of_within (take n bytes))) (λ _. tt)

owner_within : (bytes : List ℕ) (tag : Option (ℕ × List ℕ)) → IfSome tag (λ t. t.0 < 16) → (unwrap_or tag (0, bytes)).0 < 16
owner_within bytes None small = omega arith
owner_within bytes (Some tag) small = small

filled_within : (end owner size : ℕ) (bytes : List ℕ) → owner < 16 → end ≤ size → IfSome (filled end owner bytes) (IsWithin size)
filled_within end owner size bytes small within =
    cond_both (length (behind_blanks 0 bytes) == 0) None (Some (record { client = owner; start = end - length bytes; end = end })) (λ (o : Option Piece). IfSome o (IsWithin size))
    (λ _. tt) (λ _. record { client = small; start = omega arith; end = within })

piece_within : (end size : ℕ) (bytes : List ℕ) → end ≤ size → IfSome (piece_of end bytes) (IsWithin size)
piece_within end size bytes within =
    let tag = tag_of (behind_blanks 0 bytes) in
    let chosen = unwrap_or tag (0, bytes) in
    filled_within end chosen.0 size chosen.1 (owner_within bytes tag (tag_within (behind_blanks 0 bytes))) within

all_within : (size : ℕ) (piece : Option Piece) (pieces : List Piece) → IfSome piece (IsWithin size) → All (IsWithin size) pieces → All (IsWithin size) (cons_option piece pieces)
all_within size None pieces first rest = rest
all_within size (Some piece) pieces first rest = All-cons (IsWithin size) piece pieces first rest

-- the bytes of pieces, with one `;` between each two, reach no further than so many bytes
abbrev pub Fit : ℕ → ℕ → List (List ℕ) → Type 0
Fit size start [] = ⊤
Fit size start (bytes ∷ rest) = (start + length bytes ≤ size) × Fit size (start + length bytes + 1) rest

pieces_within : (size start : ℕ) (cuts : List (List ℕ)) → Fit size start cuts → All (IsWithin size) (pieces_at start cuts)
pieces_within size start [] fit = All-nil (IsWithin size)
pieces_within size start (bytes ∷ rest) fit =
    all_within size (piece_of (start + length bytes) bytes) (pieces_at (start + length bytes + 1) rest)
    (piece_within (start + length bytes) size bytes fit.0) (pieces_within size (start + length bytes + 1) rest fit.1)

fit_onto : (size start byte : ℕ) (cuts : List (List ℕ)) → start + 1 ≤ size → Fit size (start + 1) cuts → Fit size start (onto_first byte cuts)
fit_onto size start byte [] within fit = (omega arith, tt)
fit_onto size start byte (bytes ∷ rest) within fit =
    let e : start + 1 + length bytes + 1 ≡ start + suc (length bytes) + 1 = omega arith in
    (omega (arith, fit.0), subst (λ (k : ℕ). Fit size k rest) e fit.1)

fit_cut : (size start left : ℕ) (text : List ℕ) → start + length text ≤ size → Fit size start (cut_from left text)
fit_cut size start left [] within = (omega arith, tt)
fit_cut size start (suc left) (byte ∷ bytes) within = fit_onto size start byte (cut_from left bytes) (omega arith) (fit_cut size (start + 1) left bytes (omega arith))
fit_cut size start zero (byte ∷ bytes) within =
    let n = unit_length (byte ∷ bytes) in
    let e : start + 0 + 1 ≡ start + 1 = omega arith in
    cond_both (byte == 59) ([] ∷ cut_from 0 bytes) (onto_first byte (cut_from (n - 1) bytes)) (λ (l : List (List ℕ)). Fit size start l)
    (λ _. (omega arith, subst (λ (k : ℕ). Fit size k (cut_from 0 bytes)) (sym e) (fit_cut size (start + 1) 0 bytes (omega arith))))
    (λ _. fit_onto size start byte (cut_from (n - 1) bytes) (omega arith) (fit_cut size (start + 1) (n - 1) bytes (omega arith)))

-- each piece stands within its script
pub within_script : (text : List ℕ) → All (IsPieceOf text) (pieces_of text)
within_script text = All-weaker (IsWithin (length text)) (IsPieceOf text) (λ piece is. record { client = is.client; start = is.start; end = is.end }) (pieces_of text)
    (pieces_within (length text) 0 (cut_from 0 text) (fit_cut (length text) 0 0 text (omega arith)))
