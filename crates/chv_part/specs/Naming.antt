-- What a block goes by.
use Rattle.std.specs.Prelude.{◌≡◌, ◌<◌, ◌≤◌, ◌^◌, List, length}
use Rattle.chv_block.specs.Spellings.{block_spelling}
use Rattle.chv_sip.specs.BlockIds.{SourceKey, Content, Token, source_id}
use Rattle.chv_part.specs.Books.{TableForm, Entry, normal_rows}
use Rattle.chv_types.specs.declared.kind.Kind.{Kind}
use Rattle.chv_types.specs.declared.value.Value.{Value}

-- a block goes by its bytes in the order of arrival, or by a token of 1 to 255 bytes and its number in the insert
abbrev pub Names : List Kind → List (List Value) → SourceKey → Type 0
Names kinds block (Content bytes) = bytes ≡ block_spelling kinds block
Names kinds block (Token token number) = (1 ≤ length token) × (length token ≤ 255) × (number < 2 ^ 20)

-- a block as it arrives in a table of this form: under the id of what it goes by, in normal form
abbrev pub entry_of : TableForm → SourceKey → List (List Value) → Entry
entry_of form source block = record { id = source_id source; rows = normal_rows form block }
