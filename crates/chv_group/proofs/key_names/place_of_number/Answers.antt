use Rattle.std.proofs.Common.{◌≡◌, ◌∙◌, ◌+◌, ℕ, List, [], None, option_map, map, ap, ap₂, rules, sym, to_z, of_z, ℤ}
use Rattle.std.proofs.lemmas.Result.{IfOk-weaker}
use Rattle.std.specs.Int.{w128}
use Rattle.std.specs.Int.RustNames.{FitsSigned}
use Rattle.std.specs.List.{position}
use Rattle.std.specs.Ordering.{int_eq}
use Rattle.std.specs.declared.alloc.Global.{Global}
use Rattle.std.specs.declared.vec.Vec.{Vec}
use Rattle.chv_group.proofs.KeyNameLemmas.{no_keys, place-behind, place-front, place_of-number}
use Rattle.chv_group.specs.KeyBytes.{key_bytes, names_of, number_name, texts_of}
use Rattle.chv_types.specs.Names.{place_of}
use Rattle.chv_types.specs.declared.value.Value.{Value}
use Rattle.chv_group.proofs.key_names.place_of_number.Goals as goal

pub returns-in-Some-clause-place : goal.returns-in-Some-clause-place
returns-in-Some-clause-place c =
    let n = c.args.n in
    let fits : FitsSigned w128 n = search rules in
    let numbers = c.args.numbers.now.keys in
    let same : to_z w128 (of_z w128 n) ≡ n = search rules in
    let at : c.index_of.result ≡ position (int_eq n) numbers = c.index_of.ensures.place ∙ ap (λ (k : ℤ). position (int_eq k) numbers) same in
    sym (place-front (number_name n) numbers c.args.texts.now.keys c.in-Some.place
    (place_of-number n numbers fits c.requires.numbers ∙ sym at ∙ c.in-Some.is))

pub returns-then-is_empty-clause-place : goal.returns-then-is_empty-clause-place
returns-then-is_empty-clause-place c =
    let n = c.args.n in
    let fits : FitsSigned w128 n = search rules in
    let numbers = c.args.numbers.now.keys in
    let same : to_z w128 (of_z w128 n) ≡ n = search rules in
    let at : c.index_of.result ≡ position (int_eq n) numbers = c.index_of.ensures.place ∙ ap (λ (k : ℤ). position (int_eq k) numbers) same in
    let texts = c.args.texts.now.keys in
    let none : place_of (number_name n) (map number_name numbers) ≡ None =
    place_of-number n numbers fits c.requires.numbers ∙ sym at ∙ c.in-None.is in
    let empty : texts ≡ [] = no_keys texts (c.is_empty.ensures.0 c.if-is_empty.true) in
    sym (ap (λ (keys : List (Vec ℕ Global)). place_of (number_name n) (names_of numbers keys)) empty ∙ place-behind (number_name n) numbers [] none)

pub returns-else-is_empty-clause-place : goal.returns-else-is_empty-clause-place
returns-else-is_empty-clause-place c =
    let n = c.args.n in
    let fits : FitsSigned w128 n = search rules in
    let numbers = c.args.numbers.now.keys in
    let same : to_z w128 (of_z w128 n) ≡ n = search rules in
    let at : c.index_of.result ≡ position (int_eq n) numbers = c.index_of.ensures.place ∙ ap (λ (k : ℤ). position (int_eq k) numbers) same in
    let texts = c.args.texts.now.keys in
    let none : place_of (number_name n) (map number_name numbers) ≡ None =
    place_of-number n numbers fits c.requires.numbers ∙ sym at ∙ c.in-None.is in
    IfOk-weaker c.place_behind.result _ _ (λ place is. is
    ∙ ap₂ (λ (first : ℕ) (key : List Value). option_map (λ place. first + place) (place_of (key_bytes key) (texts_of texts))) c.len.ensures.len c.requires.key
    ∙ sym (place-behind (number_name n) numbers texts none)) c.place_behind.ensures.place
