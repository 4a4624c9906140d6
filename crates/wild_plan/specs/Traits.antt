-- What the rows of a section say of it.
use Rattle.std.specs.Prelude.{ℕ, ◌||◌, not, false, List, max}
use Rattle.std.specs.Option.{unwrap_or}
use Rattle.std.specs.List.{list_any}
use Rattle.std.specs.Ordering.{nat_cmp}
use Rattle.std.specs.BTreeMap.{get}
use Rattle.wild_names.specs.InputFlags.{is_alloc, is_write, is_exec, is_nobits, is_tls}
use Rattle.wild_plan_spec.specs.declared.row.InputRow.{InputRow}
use Rattle.wild_plan_spec.specs.Chunks.{largest_alignment}
use Rattle.wild_plan_spec.specs.Facts.{has_rows}
use Rattle.wild_plan.specs.declared.traits.Traits.{Traits}
use Rattle.wild_plan.specs.declared.traits.SectionTraits.{SectionTraits}

-- the traits of a section with these rows
abbrev pub traits_of : List InputRow → Traits
traits_of rows = record {
  alignment = largest_alignment rows;
  rows = has_rows rows;
  alloc = list_any (λ row. is_alloc row.flags) rows;
  write = list_any (λ row. is_write row.flags) rows;
  exec = list_any (λ row. is_exec row.flags) rows;
  bits = list_any (λ row. not (is_nobits row.flags)) rows;
  tls = list_any (λ row. is_tls row.flags) rows;
}

-- without rows
abbrev pub no_traits : Traits
no_traits = record { alignment = 0; rows = false; alloc = false; write = false; exec = false; bits = false; tls = false }

-- the traits that are kept of section s
abbrev pub traits_at : SectionTraits → ℕ → Traits
traits_at ts s = unwrap_or (get nat_cmp ts.by_section s) no_traits

-- the traits of the rows of both
abbrev pub joined : Traits → Traits → Traits
joined t u = record {
  alignment = max t.alignment u.alignment;
  rows = t.rows || u.rows;
  alloc = t.alloc || u.alloc;
  write = t.write || u.write;
  exec = t.exec || u.exec;
  bits = t.bits || u.bits;
  tls = t.tls || u.tls;
}
