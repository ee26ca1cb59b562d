use Rattle.std.proofs.Common.{◌≡◌, ◌∙◌, ◌++◌, ℤ, List, None, map, ap, rules, sym, to_z, of_z}
use Rattle.std.specs.Int.{w128}
use Rattle.chv_group.proofs.KeyNameLemmas.{none-behind, none-front}
use Rattle.chv_group.specs.KeyBytes.{key_bytes, names_of, number_name}
use Rattle.chv_types.specs.Names.{place_of}
use Rattle.chv_types.specs.Values.{seen_value}
use Rattle.chv_types.specs.declared.value.Value.{Value}
use Rattle.chv_group.proofs.key_names.KeyNames.add.Goals as goal

pub add_number-requires-clause-new : goal.add_number-requires-clause-new
add_number-requires-clause-new c =
    let key = map seen_value c.args.key.now in
    let numbers = c.self.inside.climbing.items ++ c.self.inside.numbers.keys in
    let texts = c.self.inside.texts.keys in
    let same : to_z w128 (of_z w128 c.in-Some.n) ≡ c.in-Some.n = search rules in
    let none : place_of (key_bytes key) (names_of numbers texts) ≡ None = ap (place_of (key_bytes key)) c.self.view_is ∙ c.requires.new in
    ap (λ (n : ℤ). place_of (number_name n) (map number_name numbers)) same
    ∙ ap (λ (values : List Value). place_of (key_bytes values) (map number_name numbers)) (sym c.in-Some.ensures.number) ∙ none-front (key_bytes key) numbers texts none

pub add_bytes-requires : goal.add_bytes-requires
add_bytes-requires c =
    let key = map seen_value c.args.key.now in
    record {
      new = none-behind (key_bytes key) (c.self.inside.climbing.items ++ c.self.inside.numbers.keys) c.self.inside.texts.keys (ap (place_of (key_bytes key)) c.self.view_is ∙ c.requires.new);
    }
