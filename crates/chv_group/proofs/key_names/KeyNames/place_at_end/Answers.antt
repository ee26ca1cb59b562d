use Rattle.std.proofs.Common.{◌≡◌, ◌∙◌, ◌++◌, [], ℤ, List, ap, map, rules, sym, to_z, of_z}
use Rattle.std.proofs.lemmas.Option.{IfSome_then}
use Rattle.std.specs.Int.{w128}
use Rattle.std.specs.Int.RustNames.{FitsSigned}
use Rattle.std.specs.List.{position}
use Rattle.std.specs.Ordering.{int_eq}
use Rattle.chv_group.proofs.ClimbLemmas.{place-climbing}
use Rattle.chv_group.proofs.KeyNameLemmas.{no_keys}
use Rattle.chv_group.specs.KeyBytes.{key_bytes, names_of}
use Rattle.chv_types.specs.Names.{place_of}
use Rattle.chv_types.specs.Values.{seen_value}
use Rattle.chv_types.specs.declared.value.Value.{Value}
use Rattle.chv_group.proofs.key_names.KeyNames.place_at_end.Goals as goal

pub returns-in-Some-clause-place : goal.returns-in-Some-clause-place
returns-in-Some-clause-place c =
    let n = c.in-Some.n in
    let climbing = c.self.inside.climbing.items in
    let numbers = c.self.inside.numbers.keys in
    let texts = c.self.inside.texts.keys in
    let same : to_z w128 (of_z w128 n) ≡ n = search rules in
    let fits : FitsSigned w128 n = search rules in
    let none : numbers ≡ [] = no_keys numbers (search rules) in
    let empty : texts ≡ [] = no_keys texts (search rules) in
    let there : position (int_eq n) climbing ≡ place_of (key_bytes (map seen_value c.args.key.now)) c.args.self.now =
    place-climbing n climbing numbers texts fits c.self.invariant.fit none empty
    ∙ ap (λ (values : List Value). place_of (key_bytes values) (names_of (climbing ++ numbers) texts)) (sym c.in-Some.ensures.number)
    ∙ ap (place_of (key_bytes (map seen_value c.args.key.now))) c.self.view_is in
    IfSome_then c.place_at_end.result c.place_at_end.ensures.place (λ place is. is ∙ ap (λ (k : ℤ). position (int_eq k) c.as_slice.result.now) same
    ∙ ap (λ (list : List ℤ). position (int_eq n) list) c.as_slice.ensures.value ∙ there)
