-- The rows that parts hold, and the damage that is told of parts.
use Rattle.std.proofs.Common.{◌≡◌, inl, inr, ℕ, ◌+◌, ◌<◌, ◌^◌, List, [], ◌∷◌, ◌++◌, length, get_or, take, drop, refl, sym, ap, ap₂, subst, ◌∙◌, arith, append-nil}
use Rattle.std.specs.List.{All, flat_map}
use Rattle.std.proofs.lemmas.Bool.{cases_lt}
use Rattle.std.proofs.lemmas.Grind.{flat_map-append}
use Rattle.std.proofs.lemmas.List.{get_or_at, get_or_append_left, length-append, take-append-drop, drop_more, take_more}
use Rattle.std.proofs.lemmas.List.Elements.{All-weaker, All-get_or, All-more}
use Rattle.chv_block.specs.Spellings.{AllAreOf}
use Rattle.chv_site.specs.declared.file_id.FileId.{FileId}
use Rattle.chv_site.specs.FileIds.{part_of}
use Rattle.chv_site.specs.Files.{FileState}
use Rattle.chv_commit.specs.declared.part_row.PartRow.{PartRow}
use Rattle.chv_sip.specs.BlockIds.{keyed_hash, first_key}
use Rattle.chv_types.specs.declared.kind.Kind.{Kind}
use Rattle.chv_types.specs.declared.value.Value.{Value}
use Rattle.chv_part.specs.Books.{TableForm, Book, IsLawfulBook, part_rows}
use Rattle.chv_part.specs.Parts.{framed, IsPartFile, HashDiffers, IsWhole}
use Rattle.chv_part.specs.Standing.{IsPart}
use Rattle.chv_part.specs.declared.damage.Damage.{Damage}
use Rattle.chv_part.specs.declared.damage.Damage.TheVariants.{Catalog, Log, PartHash, PartShape}
use Rattle.chv_part.proofs.BookRowLemmas.{length-part_rows, rows_of_parts}
use Rattle.chv_part.proofs.PartLemmas.{number-unique, framed-body, hash_or_shape, hash_of_whole, IsPartFile-unique}
use Rattle.chv_table.specs.Damage.{ArePartsWhole, IsDamageOfPart, IsPartDamage}
use Rattle.chv_table.specs.Tables.{HoldsBook, held_form}
use Rattle.chv_table.specs.declared.table.Table.{Table}

-- the live part at a place
abbrev pub row_at : List PartRow → ℕ → PartRow
row_at layout place = get_or layout place (record { lo = 0; hi = 0; level = 0; part = 0; rows = 0 })

-- rows of kinds, and more behind them
pub AllAreOf-append : (kinds : List Kind) (a b : List (List Value)) → AllAreOf kinds a → AllAreOf kinds b → AllAreOf kinds (a ++ b)
AllAreOf-append kinds [] b of_a of_b = of_b
AllAreOf-append kinds (row ∷ a) b of_a of_b = (of_a.0, AllAreOf-append kinds a b of_a.1 of_b)

-- the rows of one part more
pub rows_more : (files : FileId → List ℕ) (number : ℕ) (form : TableForm) (book : Book) (layout : List PartRow) (place : ℕ) (rows read : List (List Value)) → IsLawfulBook form book
    → All (IsPart files number form book) layout → place < length layout → length read < 2 ^ 64 → IsPartFile form read (files (part_of number (row_at layout place).part))
    → rows ≡ rows_of_parts form book (take place layout) → rows ++ read ≡ rows_of_parts form book (take (place + 1) layout)
rows_more files number form book layout place rows read lawful parts within short is so_far =
    let row : PartRow = row_at layout place in
    let of : PartRow → List (List Value) = λ (part : PartRow). part_rows form book part.lo part.hi in
    let part : IsPart files number form book row = All-get_or (IsPart files number form book) layout place _ within parts in
    let same : read ≡ of row =
    IsPartFile-unique form read (of row) (files (part_of number row.part)) short (length-part_rows form book lawful row.lo row.hi) is part.file in
    ap₂ (λ (x y : List (List Value)). x ++ y) so_far (same ∙ sym (append-nil (of row)))
    ∙ sym (flat_map-append of (take place layout) (row ∷ [])) ∙ ap (flat_map of) (sym (take_more layout place _ within))

-- one part more is whole
pub whole_more : (number : ℕ) (form : TableForm) (layout : List PartRow) (place : ℕ) (files : FileId → List ℕ) → place < length layout
    → ArePartsWhole number form (take place layout) files → IsWhole form (files (part_of number (row_at layout place).part))
    → ArePartsWhole number form (take (place + 1) layout) files
whole_more number form layout place files within whole is =
    All-more (λ (row : PartRow). IsWhole form (files (part_of number row.part))) layout place _ within whole is

-- a damaged part is the first where those in front of it are whole
pub first_damaged : (number : ℕ) (form : TableForm) (layout : List PartRow) (place : ℕ) (files : FileId → List ℕ) (damage : Damage) → place < length layout
    → ArePartsWhole number form (take place layout) files
    → IsDamageOfPart number form (row_at layout place).part (files (part_of number (row_at layout place).part)) damage
    → IsPartDamage number form layout files damage
first_damaged number form layout place files damage within whole is = record {
  earlier = take place layout;
  row = row_at layout place;
  later = drop (place + 1) layout;
  split = sym (take-append-drop place layout) ∙ ap (λ (rest : List PartRow). take place layout ++ rest) (drop_more layout place _ within);
  whole = whole;
  is = is;
}

-- the parts of a table that holds a book are whole
pub book_parts_whole : (table : Table) (files : FileId → FileState) (book : Book) → HoldsBook table files book
    → ArePartsWhole table.number (held_form table) table.replay.state.layout (λ f. (files f).bytes)
book_parts_whole table files book held =
    All-weaker (IsPart (λ f. (files f).bytes) table.number (held_form table) book) (λ (row : PartRow). IsWhole (held_form table) (files (part_of table.number row.part)).bytes)
    (λ (row : PartRow) is. (part_rows (held_form table) book row.lo row.hi, is.file)) table.replay.state.layout held.parts

-- no part is both whole and damaged
whole_or_damaged : (number : ℕ) (form : TableForm) (part : ℕ) (file : List ℕ) (damage : Damage) → IsWhole form file → IsDamageOfPart number form part file damage → ⊥
whole_or_damaged number form part file (Catalog at) whole is = is
whole_or_damaged number form part file (Log table at) whole is = is
whole_or_damaged number form part file (PartHash table told kept found) whole is = hash_of_whole form kept found whole.0 file whole.1 is.2
whole_or_damaged number form part file (PartShape table told) whole is = is.2.off whole.0 whole.1

-- of parts of which all in front of some place are whole, none there is damaged
none_damaged : (number : ℕ) (form : TableForm) (layout front : List PartRow) (files : FileId → List ℕ) (damage : Damage) (rest : List PartRow)
    → (is : IsPartDamage number form layout files damage) → layout ≡ front ++ rest → ArePartsWhole number form front files → length is.earlier < length front → ⊥
none_damaged number form layout front files damage rest is split whole within =
    let place : ℕ = length is.earlier in
    let here : get_or front place is.row ≡ is.row =
    sym (get_or_append_left front rest is.row place within) ∙ ap (λ (l : List PartRow). get_or l place is.row) (sym split ∙ is.split) ∙ get_or_at is.earlier is.row is.later is.row place refl in
    whole_or_damaged number form is.row.part (files (part_of number is.row.part)) damage
    (subst (λ (row : PartRow). IsWhole form (files (part_of number row.part))) here
    (All-get_or (λ (row : PartRow). IsWhole form (files (part_of number row.part))) front place is.row within whole))
    is.is

-- where each part is whole, none is damaged
pub part_damage_excludes : (number : ℕ) (form : TableForm) (layout : List PartRow) (files : FileId → List ℕ) (damage : Damage)
    → IsPartDamage number form layout files damage → ArePartsWhole number form layout files → ⊥
part_damage_excludes number form layout files damage is whole =
    none_damaged number form layout layout files damage [] is (sym (append-nil layout)) whole
    (omega (arith, ap length is.split, length-append is.earlier (is.row ∷ is.later)))

-- a file has one hash that it keeps, and one that is found
hashes-unique : (a b x y : ℕ) (file : List ℕ) → HashDiffers a x file → HashDiffers b y file → (a ≡ b) × (x ≡ y)
hashes-unique a b x y file one other =
    let same : framed a one.body ≡ framed b other.body = sym one.frame ∙ other.frame in (
      (number-unique a b one.body other.body one.words.0 other.words.0 (ap (λ (l : List ℕ). drop 16 l) same)).0,
      one.hash ∙ ap (keyed_hash first_key) (framed-body a b one.body other.body same) ∙ sym other.hash,
    )

-- a part is damaged in one way
damage-unique : (number : ℕ) (form : TableForm) (part : ℕ) (file : List ℕ) (a b : Damage) → IsDamageOfPart number form part file a → IsDamageOfPart number form part file b → a ≡ b
damage-unique number form part file (Catalog at) b of_a of_b = absurd of_a
damage-unique number form part file (Log table at) b of_a of_b = absurd of_a
damage-unique number form part file (PartHash table told kept found) (Catalog at) of_a of_b = absurd of_b
damage-unique number form part file (PartHash table told kept found) (Log other at) of_a of_b = absurd of_b
damage-unique number form part file (PartHash table told kept found) (PartHash other p k f) of_a of_b =
    let hashes = hashes-unique kept k found f file of_a.2 of_b.2 in
    let tables : table ≡ other = of_a.0 ∙ sym of_b.0 in
    let parts : told ≡ p = of_a.1 ∙ sym of_b.1 in
    let kept_is : kept ≡ k = hashes.0 in
    let found_is : found ≡ f = hashes.1 in
    cc
damage-unique number form part file (PartHash table told kept found) (PartShape other p) of_a of_b = absurd (hash_or_shape form kept found file of_a.2 of_b.2)
damage-unique number form part file (PartShape table told) (Catalog at) of_a of_b = absurd of_b
damage-unique number form part file (PartShape table told) (Log other at) of_a of_b = absurd of_b
damage-unique number form part file (PartShape table told) (PartHash other p k f) of_a of_b = absurd (hash_or_shape form k f file of_b.2 of_a.2)
damage-unique number form part file (PartShape table told) (PartShape other p) of_a of_b =
    let tables : table ≡ other = of_a.0 ∙ sym of_b.0 in
    let parts : told ≡ p = of_a.1 ∙ sym of_b.1 in
    cc

-- the first part that is damaged is one, and so the damage that is told of parts is one
pub part_damage_unique : (number : ℕ) (form : TableForm) (layout : List PartRow) (files : FileId → List ℕ) (a b : Damage)
    → IsPartDamage number form layout files a → IsPartDamage number form layout files b → a ≡ b
part_damage_unique number form layout files a b x y =
    elim (cases_lt (length x.earlier) (length y.earlier)) as (λ _. a ≡ b) [
      | inl lt ↦ absurd (none_damaged number form layout y.earlier files a (y.row ∷ y.later) x y.split y.whole lt)
      | inr le ↦ elim (cases_lt (length y.earlier) (length x.earlier)) as (λ _. a ≡ b) [
        | inl lt ↦ absurd (none_damaged number form layout x.earlier files b (x.row ∷ x.later) y x.split x.whole lt)
        | inr ge ↦
            let place : length y.earlier ≡ length x.earlier = omega arith in
            let same : y.row ≡ x.row =
            sym (get_or_at y.earlier y.row y.later x.row (length x.earlier) place) ∙ ap (λ (l : List PartRow). get_or l (length x.earlier) x.row) (sym y.split ∙ x.split)
            ∙ get_or_at x.earlier x.row x.later x.row (length x.earlier) refl in
            damage-unique number form x.row.part (files (part_of number x.row.part)) a b x.is
            (subst (λ (row : PartRow). IsDamageOfPart number form row.part (files (part_of number row.part)) b) same y.is)
      ]
    ]
