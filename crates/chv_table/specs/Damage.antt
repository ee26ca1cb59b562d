-- How a table is damaged: docs/FORMATS.md, "Damage".
use Rattle.std.specs.Prelude.{ℕ, ◌≡◌, List, ◌∷◌, ◌++◌}
use Rattle.std.specs.List.{All}
use Rattle.chv_site.specs.FileIds.{part_of}
use Rattle.chv_site.specs.Images.{Image}
use Rattle.chv_commit.specs.Replays.{AreCommits}
use Rattle.chv_commit.specs.declared.part_row.PartRow.{PartRow}
use Rattle.chv_gate.specs.Reading.{IsDamagedAt}
use Rattle.chv_part.specs.Books.{TableForm}
use Rattle.chv_part.specs.Parts.{HashDiffers, IsShapeless, IsWhole}
use Rattle.chv_part.specs.declared.damage.Damage.{Damage}
use Rattle.chv_part.specs.declared.damage.Damage.TheVariants.{Log, PartHash, PartShape}

-- the log of this table, whose window keeps so many ids, is damaged, at the place that is told
abbrev pub IsLogDamage : ℕ → ℕ → List ℕ → Damage → Type 0
IsLogDamage number window file (Log table at) = (table ≡ number) × IsDamagedAt (AreCommits window) at file
IsLogDamage number window file damage = ⊥

-- the file of this part of a table of this form is damaged, as is told
abbrev pub IsDamageOfPart : ℕ → TableForm → ℕ → List ℕ → Damage → Type 0
IsDamageOfPart number form part file (PartHash table told kept found) = (table ≡ number) × (told ≡ part) × HashDiffers kept found file
IsDamageOfPart number form part file (PartShape table told) = (table ≡ number) × (told ≡ part) × IsShapeless form file
IsDamageOfPart number form part file damage = ⊥

-- each of these parts of a table of this form reads whole
abbrev pub ArePartsWhole : ℕ → TableForm → List PartRow → Image → Type 0
ArePartsWhole number form layout files = All (λ (row : PartRow). IsWhole form (files (part_of number row.part))) layout

-- of the live parts of a table of this form, in order, this damage is of the first that is damaged
pub record IsPartDamage (number : ℕ) (form : TableForm) (layout : List PartRow) (files : Image) (damage : Damage) : Type 0 where
  pub earlier : List PartRow
  pub row : PartRow
  pub later : List PartRow
  pub split : layout ≡ earlier ++ row ∷ later
  pub whole : ArePartsWhole number form earlier files
  pub is : IsDamageOfPart number form row.part (files (part_of number row.part)) damage
