use Rattle.std.proofs.Common.{◌≡◌, ◌∙◌, ◌++◌, ◌∷◌, [], List, ℕ, None, map, ap, rules}
use Rattle.chv_group.proofs.KeyNameLemmas.{texts_of-insert_key}
use Rattle.chv_group.specs.KeyBytes.{key_bytes, texts_of}
use Rattle.chv_types.specs.Names.{place_of}
use Rattle.chv_types.specs.Values.{seen_value}
use Rattle.chv_group.proofs.key_names.add_bytes.Goals as goal

pub returns : goal.returns
returns c =
    let key = map seen_value c.args.key.now in
    let texts = c.args.texts.now.keys in
    let items : c.in_ok-name.name.items ≡ key_bytes key = search rules in
    let new : place_of c.in_ok-name.name.items (texts_of texts) ≡ None = ap (λ (name : List ℕ). place_of name (texts_of texts)) items ∙ c.requires.new in
    ap texts_of c.in_ok-insert.ensures.keys ∙ texts_of-insert_key c.in_ok-name.name texts new ∙ ap (λ (name : List ℕ). texts_of texts ++ name ∷ []) items
