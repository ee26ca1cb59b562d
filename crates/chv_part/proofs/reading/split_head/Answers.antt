use Rattle.std.proofs.Common.{◌≡◌, ◌++◌, ◌∙◌, List, ℕ, length, sym, ap, Some, None, append_assoc}
use Rattle.std.specs.Int.{w32, w64, to_le_bytes}
use Rattle.std.proofs.lemmas.Bool.Decides.{Decides-eqb}
use Rattle.std.proofs.lemmas.Slice.Eq.{strip_prefix_is}
use Rattle.chv_block.specs.Spellings.{codes_of}
use Rattle.chv_part.specs.Columns.{head_spelling}
use Rattle.chv_part.specs.Parts.{columns_spelling}
use Rattle.chv_part.proofs.PartLemmas.{no_room}
use Rattle.chv_part.proofs.reading.split_head.Goals as goal

pub returns-in_default-clause-none : goal.returns-in_default-clause-none
returns-in_default-clause-none c = λ is rows of same.
    let kinds = c.args.kinds.now in
    let front = to_le_bytes w32 (length kinds) ++ codes_of kinds in
    let number = to_le_bytes w64 (length rows) in
    let columns = columns_spelling 0 kinds rows in
    let head : c.deref.result.now ≡ front = c.deref.ensures.value ∙ c.in_ok-put_kinds.ensures.put ∙ ap (λ (l : List ℕ). l ++ to_le_bytes w32 (length kinds) ++ codes_of kinds) c.new-head.ensures.items in
    strip_prefix_is Decides-eqb c.args.body.now c.deref.result.now None c.in_default.ensures.cases (number ++ columns)
    (same ∙ append_assoc front number columns ∙ ap (λ (l : List ℕ). l ++ (number ++ columns)) (sym head))

pub returns-then-count-values-clause-none : goal.returns-then-count-values-clause-none
returns-then-count-values-clause-none c = λ is.
    let kinds = c.args.kinds.now in
    let number = c.in-Some-split_number.count in
    let values = c.in-Some-split_number.values.now in
    let front = to_le_bytes w32 (length kinds) ++ codes_of kinds in
    let head : c.deref.result.now ≡ front = c.deref.ensures.value ∙ c.in_ok-put_kinds.ensures.put ∙ ap (λ (l : List ℕ). l ++ to_le_bytes w32 (length kinds) ++ codes_of kinds) c.new-head.ensures.items in
    let cut : c.args.body.now ≡ c.deref.result.now ++ c.in-Some.rest.now = strip_prefix_is Decides-eqb c.args.body.now c.deref.result.now (Some c.in-Some.rest) c.in-Some.ensures.cases in
    let split : c.args.body.now ≡ head_spelling kinds number ++ values =
    cut ∙ ap (λ (l : List ℕ). l ++ c.in-Some.rest.now) head ∙ ap (λ (l : List ℕ). front ++ l) c.in-Some-split_number.ensures.some ∙ sym (append_assoc front (to_le_bytes w64 number) values) in
    no_room kinds number values c.args.body.now c.requires.some c.in-Some-split_number.ensures.fits.0 c.in-Some-split_number.ensures.fits.1 split c.if-count-values.true

pub returns-clause-head : goal.returns-clause-head
returns-clause-head c =
    let kinds = c.args.kinds.now in
    let number = c.in-Some-split_number.count in
    let values = c.in-Some-split_number.values.now in
    let front = to_le_bytes w32 (length kinds) ++ codes_of kinds in
    let head : c.deref.result.now ≡ front = c.deref.ensures.value ∙ c.in_ok-put_kinds.ensures.put ∙ ap (λ (l : List ℕ). l ++ to_le_bytes w32 (length kinds) ++ codes_of kinds) c.new-head.ensures.items in
    let cut : c.args.body.now ≡ c.deref.result.now ++ c.in-Some.rest.now = strip_prefix_is Decides-eqb c.args.body.now c.deref.result.now (Some c.in-Some.rest) c.in-Some.ensures.cases in
    cut ∙ ap (λ (l : List ℕ). l ++ c.in-Some.rest.now) head ∙ ap (λ (l : List ℕ). front ++ l) c.in-Some-split_number.ensures.some ∙ sym (append_assoc front (to_le_bytes w64 number) values)
