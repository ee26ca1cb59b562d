use Rattle.std.proofs.Common.{◌∙◌, ◌+◌, ℕ, option_map, map, ap, refl, sym}
use Rattle.chv_group.proofs.KeyNameLemmas.{place-behind, place_of-other, with_value}
use Rattle.chv_group.specs.KeyBytes.{key_bytes, texts_of}
use Rattle.chv_types.specs.Names.{place_of}
use Rattle.chv_types.specs.Values.{seen_value}
use Rattle.chv_group.proofs.key_names.place_in.Goals as goal

pub returns-in-None-clause-place : goal.returns-in-None-clause-place
returns-in-None-clause-place c =
    let key = map seen_value c.args.key.now in
    let numbers = c.args.numbers.now.keys in
    let texts = c.args.texts.now.keys in
    with_value c.place_behind.result _ _ c.place_behind.ensures.held c.place_behind.ensures.place (λ place held is. is
    ∙ ap (λ (first : ℕ). option_map (λ place. first + place) (place_of (key_bytes key) (texts_of texts))) c.len.ensures.len
    ∙ sym (place-behind (key_bytes key) numbers texts (place_of-other key numbers held c.requires.numbers (c.in-None.ensures.other refl))))
