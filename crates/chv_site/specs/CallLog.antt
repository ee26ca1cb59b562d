-- What ties the record of the calls to the files and the text.
use Rattle.std.specs.Prelude.{◌≡◌, reverse}
use Rattle.chv_site.specs.declared.file_id.FileId.{FileId}
use Rattle.chv_site.specs.declared.call_log.CallLog.TheInside.{Inside}
use Rattle.chv_site.specs.FileStore.{kept_of}
use Rattle.chv_site.specs.Calls.{kept_after, text_after}

-- files and text are what the calls made of them
pub record IsMade (a : Inside) : Type 0 where
  pub files : (g : FileId) → kept_of a.files g ≡ kept_after (reverse a.calls.items) g
  pub text : a.text.items ≡ text_after (reverse a.calls.items)
