use Rattle.std.proofs.Common.{◌∙◌, ◌+◌, ℕ, option_map, ap, sym}
use Rattle.chv_group.proofs.KeyNameLemmas.{position-texts_of}
use Rattle.chv_group.proofs.key_names.bytes_behind.Goals as goal

pub returns-in-Some : goal.returns-in-Some
returns-in-Some c =
    ap (option_map (λ (place : ℕ). c.args.first + place)) (sym c.in-Some.is ∙ c.get_index_of.ensures.index ∙ position-texts_of c.args.name.now c.args.texts.now.keys)

pub returns-in-None : goal.returns-in-None
returns-in-None c =
    ap (option_map (λ (place : ℕ). c.args.first + place)) (sym c.in-None.is ∙ c.get_index_of.ensures.index ∙ position-texts_of c.args.name.now c.args.texts.now.keys)
