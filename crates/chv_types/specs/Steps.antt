-- Steps that may be refused, each behind those in front of it.
use Rattle.std.specs.Prelude.{Bool, true, false, Option, Some, None, Result, Ok, Err}

-- what follows a step that may be refused
abbrev pub and_then : {A B E : Type 0} → Result A E → (A → Result B E) → Result B E
and_then (Ok a) rest = rest a
and_then (Err refusal) rest = Err refusal

-- what is there, or the refusal where nothing is
abbrev pub or_refuse : {A E : Type 0} → E → Option A → Result A E
or_refuse refusal None = Err refusal
or_refuse refusal (Some a) = Ok a

-- a check that refuses comes before what follows it
abbrev pub refuse_if : {A E : Type 0} → Bool → E → Result A E → Result A E
refuse_if false refusal rest = rest
refuse_if true refusal rest = Err refusal
