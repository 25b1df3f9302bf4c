-- How many bytes a flush writes.
use Rattle.std.specs.Prelude.{ℕ, ◌-◌, if◌then◌else◌, List, [], length, get_or, slice_range}
use Rattle.std.specs.List.{sum_by}
use Rattle.std.specs.Ordering.{eq_by_cmp}
use Rattle.mm_outside.specs.Image.{name_cmp}
use Rattle.mm_ranges.specs.declared.part.Piece.{Piece}
use Rattle.mm_ranges.specs.declared.part.Part.{Part}
use Rattle.mm_section.specs.declared.section.Section.{Section}
use Rattle.mm_outside.specs.Ask.{Ask}
use Rattle.mm_crash.specs.Asks.{lay_asks}
use Rattle.mm_durable.specs.Own.{own_of_sections}
use Rattle.mm_durable.specs.declared.log.Log.{Log}

-- those of ranges
abbrev pub range_bytes : List Piece → ℕ
range_bytes pieces = sum_by (λ (p : Piece). length p.bytes) pieces

-- those of a part's ranges, where it is of this database
abbrev pub own_bytes : List ℕ → Part → ℕ
own_bytes name part = if eq_by_cmp name_cmp part.name name then range_bytes part.pieces else 0

abbrev pub own_bytes_in : List ℕ → Section → ℕ
own_bytes_in name section = sum_by (own_bytes name) section.parts

-- those of a database's ranges in these sections
abbrev pub flushed_bytes : List ℕ → List Section → ℕ
flushed_bytes name sections = sum_by (own_bytes_in name) sections

-- the sections up to this number that aren't flushed in the database
abbrev pub unflushed : Log → ℕ → ℕ → List Section
unflushed log db upto = slice_range log.sections.items (get_or log.flushed.items db 0 - log.dropped) (upto - log.last - log.dropped)

-- what is asked of the disk to flush them: what they made and wrote there, once each
abbrev pub flush_asks : Log → ℕ → ℕ → List Ask
flush_asks log db upto = lay_asks (own_of_sections (get_or log.names.items db []) (unflushed log db upto))
