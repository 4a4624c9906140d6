-- The parts of output sections. `singles` is how many sections have one part; those from there on are regular.
use Rattle.std.specs.Prelude.{ℕ, ◌+◌, ◌-◌, ◌*◌, ◌/◌, ◌≤◌, ◌^◌, nat_lt, if◌then◌else◌}
use Rattle.wild_ids.specs.Alignment.{max_exponent, alignment_count}

-- how many parts a section has: a regular one has a part for each alignment
abbrev pub part_count : ℕ → ℕ → ℕ
part_count singles section = if nat_lt section singles then 1 else alignment_count

-- the first part of a regular section
abbrev pub regular_base : ℕ → ℕ → ℕ
regular_base singles section = singles + alignment_count * (section - singles)

-- the first part of a section
abbrev pub base_part : ℕ → (ℕ → ℕ) → ℕ → ℕ
base_part singles part_of section = if nat_lt section singles then part_of section else regular_base singles section

-- the part of a regular section for the alignment with this exponent: the largest alignment comes first
abbrev pub part_for : ℕ → ℕ → ℕ → ℕ
part_for singles section exponent = regular_base singles section + (max_exponent - exponent)

-- the section whose parts a part is among
abbrev pub section_with : ℕ → (ℕ → ℕ) → ℕ → ℕ
section_with singles section_of part = if nat_lt part singles then section_of part else singles + (part - singles) / alignment_count

-- the section's parts end at most at 2 ^ 32 - 1; a single part always does
abbrev pub SectionFits : ℕ → ℕ → Type 0
SectionFits singles section = singles ≤ section → regular_base singles section + alignment_count ≤ 2 ^ 32 - 1
