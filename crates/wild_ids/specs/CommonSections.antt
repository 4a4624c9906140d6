-- The single-part sections that all platforms have.
use Rattle.std.specs.Prelude.{ℕ}
use Rattle.wild_ids.specs.declared.output_section_id.CommonSinglePartSectionId.{CommonSinglePartSectionId}
use Rattle.wild_ids.specs.declared.output_section_id.CommonSinglePartSectionId.TheVariants.{Unmapped, FileHeader, Count}

-- the number of each, and how many there are
abbrev pub common_number : CommonSinglePartSectionId → ℕ
common_number Unmapped = 0
common_number FileHeader = 1
common_number Count = 2
