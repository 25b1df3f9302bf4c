-- The readings of the phases.
use Rattle.std.specs.Prelude.{ℕ, List, slice_index_or}
use Rattle.mm_base.specs.Bytes.{part}
use Rattle.mm_base.specs.Places.{null}
use Rattle.mm_ranges.specs.Overlay.{Image, bytes_at}
use Rattle.mm_links.specs.Links.{Place}
use Rattle.mm_walk.specs.Walk.{Reading}
use Rattle.mm_check.specs.RecordChain.{records_reading}
use Rattle.mm_check.specs.ExtentChain.{ext_at, ext_size, file_reading, chain_reading}
use Rattle.mm_check.specs.ListChain.{list_reading}
use Rattle.mm_check.specs.FileQuestions.{unused_of}
use Rattle.mm_check.specs.NodeQuestions.{node_place}
use Rattle.mm_check.specs.Findings.{Owner, field_of, details_at}
use Rattle.mm_check.specs.declared.records.Records.{Records}
use Rattle.mm_check.specs.declared.extents.FileExtents.{FileExtents}
use Rattle.mm_check.specs.declared.extents.NodeExtents.{NodeExtents}
use Rattle.mm_check.specs.declared.lists.Deleted.{Deleted}
use Rattle.mm_check.specs.declared.owners.Owned.{Owned}

-- ---- those that the code follows

abbrev pub reading_of : Records → Reading
reading_of s = records_reading s.views.now.private (s.file, s.ofs) s.len s.first s.last

abbrev pub extents_reading : FileExtents → Reading
extents_reading s = file_reading s.views.now.private s.file s.unused

abbrev pub node_reading : NodeExtents → Reading
node_reading s = chain_reading s.views.now.private s.all.now s.field s.node s.first s.last

abbrev pub deleted_reading : Deleted → Reading
deleted_reading s = list_reading s.views.now.private s.own.now s.list s.node s.head

abbrev pub owner_of : Owned → Owner
owner_of o = record { node = o.node; extents = o.extents.now }

abbrev pub owner_at : ℕ → List Place → Owner
owner_at node extents = record { node = node; extents = extents }

-- ---- and those of the image

-- the extents of a data file
abbrev pub file_chain : Image → ℕ → Reading
file_chain image k = file_reading image k (unused_of (part 0 8192 (bytes_at image k)))

-- the chain of a node's extents
abbrev pub node_chain : Image → List Place → ℕ → Reading
node_chain image all k = chain_reading image all (field_of image k) (node_place k) (details_at image k).first_extent (details_at image k).last_extent

-- the live records of an extent
abbrev pub record_chain : Image → Place → Reading
record_chain image e = records_reading image e (ext_size image e) (ext_at image e).first_record (ext_at image e).last_record

-- list i of a node
abbrev pub list_chain : Image → Owner → ℕ → Reading
list_chain image o i = list_reading image o.extents i (node_place o.node) (slice_index_or (details_at image o.node).deleted i null)
