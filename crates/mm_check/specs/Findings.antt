-- What is first wrong in a database's files: phases 1 to 9 of the order of the check.
use Rattle.std.specs.Prelude.{◌≡◌, ℕ, zero, suc, is_some, if◌then◌else◌, List, [], ◌∷◌, ◌++◌, length, take, drop, map, flat_map, slice_index_or, Some, None}
use Rattle.std.specs.List.{range_with_len}
use Rattle.std.specs.FinMap.{get}
use Rattle.mm_base.specs.Bytes.{part}
use Rattle.mm_base.specs.Places.{null}
use Rattle.mm_ranges.specs.Overlay.{Image, bytes_at}
use Rattle.mm_frames.specs.declared.details.Details.{Details}
use Rattle.mm_nstable.specs.Nodes.{node_at, head_in, name_in, details_in, is_used, count_of}
use Rattle.mm_links.specs.Links.{Place}
use Rattle.mm_records.specs.Constants.{is_name}
use Rattle.mm_records.specs.Stands.{ns_in}
use Rattle.mm_walk.specs.Walk.{Reading, AreWhole, BreaksFirst, seen_after}
use Rattle.mm_walk.specs.Questions.{Question, first_failing}
use Rattle.mm_check.specs.RecordChain.{records_reading}
use Rattle.mm_check.specs.ExtentChain.{ext_at, ext_size, file_reading, chain_reading, lost_questions, asked}
use Rattle.mm_check.specs.ListChain.{list_reading}
use Rattle.mm_check.specs.FileQuestions.{unused_of, file_questions}
use Rattle.mm_check.specs.NodeQuestions.{free_name, node_place, node_questions}
use Rattle.mm_check.specs.BlockQuestions.{first_gap_of}
use Rattle.mm_check.specs.CountQuestions.{counts_right}

-- ---- what is there

-- the data files that are there, n from number k on
abbrev pub files_from : Image → ℕ → ℕ → List ℕ
files_from image k zero = []
files_from image k (suc n) = if is_some (get image k) then k ∷ files_from image (suc k) n else files_from image (suc k) n

-- the used nodes, n from number k on
abbrev pub used_from : List ℕ → ℕ → ℕ → List ℕ
used_from bytes k zero = []
used_from bytes k (suc n) = if is_used bytes k then k ∷ used_from bytes (suc k) n else used_from bytes (suc k) n

-- the used nodes by number
unfoldable pub nodes_in : Image → List ℕ
nodes_in image = used_from (ns_in image) 0 (count_of (ns_in image))

abbrev pub name_of : Image → ℕ → List ℕ
name_of image k = name_in (node_at (ns_in image) k)

-- the field that has the name
abbrev pub field_of : Image → ℕ → List ℕ
field_of image k = (head_in (node_at (ns_in image) k)).name

abbrev pub details_at : Image → ℕ → Details
details_at image k = details_in (node_at (ns_in image) k)

-- places, list by list
abbrev pub joined : List (List Place) → List Place
joined [] = []
joined (ps ∷ pss) = ps ++ joined pss

-- what the phases have found: a node with the places of its extents
pub record Owner : Type 0 where
  pub node : ℕ
  pub extents : List Place

-- each node with its chain
abbrev pub owners_of : List ℕ → List (List Place) → List Owner
owners_of [] pss = []
owners_of (k ∷ ks) [] = []
owners_of (k ∷ ks) (ps ∷ pss) = record { node = k; extents = ps } ∷ owners_of ks pss

-- those but the node of the free chain, which phases 6 to 9 leave out
abbrev pub without_free : List ℕ → Image → List Owner → List Owner
without_free d image [] = []
without_free d image (o ∷ os) = if is_name (name_of image o.node) (free_name d) then without_free d image os else o ∷ without_free d image os

-- ---- the chains of the phases

-- 3: file by file the extents from 8192 to unused
abbrev pub file_chains : Image → List Reading
file_chains image = map (λ k. file_reading image k (unused_of (part 0 8192 (bytes_at image k)))) (files_from image 0 8)

-- 4: by node its extent chain
abbrev pub extent_chains : Image → List Place → List Reading
extent_chains image all = map (λ k. chain_reading image all (field_of image k) (node_place k) (details_at image k).first_extent (details_at image k).last_extent) (nodes_in image)

-- 6: by node and extent the live chain
abbrev pub record_chains : Image → List Owner → List Reading
record_chains image os = map (λ e. records_reading image e (ext_size image e) (ext_at image e).first_record (ext_at image e).last_record) (flat_map (λ o. o.extents) os)

-- 7: by node and list the deleted blocks
abbrev pub lists_of : Image → Owner → List Reading
lists_of image o = map (λ i. list_reading image o.extents i (node_place o.node) (slice_index_or (details_at image o.node).deleted i null)) (range_with_len 0 19)

abbrev pub list_chains : Image → List Owner → List Reading
list_chains image os = flat_map (lists_of image) os

-- ---- phase by phase: nothing is found, and what was walked

-- phases 1 and 2 find nothing
pub record Clear2 (d : List ℕ) (image : Image) : Type 0 where
  pub files : first_failing (file_questions image) ≡ None
  pub nodes : first_failing (node_questions d (ns_in image)) ≡ None

-- nor does 3, whose extents are these, file by file
pub record Clear3 (d : List ℕ) (image : Image) (found : List (List Place)) : Type 0 where
  pub before : Clear2 d image
  pub whole : AreWhole [] (file_chains image) found

-- nor do 4 and 5, and these are the chains, node by node
pub record Clear5 (d : List ℕ) (image : Image) (chains : List (List Place)) : Type 0 where
  pub found : List (List Place)
  pub before : Clear3 d image found
  pub whole : AreWhole [] (extent_chains image (joined found)) chains
  pub none_lost : first_failing (lost_questions (joined found) (seen_after [] chains)) ≡ None

-- the nodes whose blocks are looked at
abbrev pub owners : List ℕ → Image → List (List Place) → List Owner
owners d image chains = without_free d image (owners_of (nodes_in image) chains)

-- nor does 6, and these are the live records, extent by extent
pub record Clear6 (d : List ℕ) (image : Image) (chains records : List (List Place)) : Type 0 where
  pub before : Clear5 d image chains
  pub whole : AreWhole [] (record_chains image (owners d image chains)) records

-- nor does 7, and these are the deleted blocks, list by list
pub record Clear7 (d : List ℕ) (image : Image) (chains records blocks : List (List Place)) : Type 0 where
  pub before : Clear6 d image chains records
  pub whole : AreWhole (seen_after [] records) (list_chains image (owners d image chains)) blocks

-- nor does 8
pub record Clear8 (d : List ℕ) (image : Image) (chains records blocks : List (List Place)) : Type 0 where
  pub before : Clear7 d image chains records blocks
  pub no_gap : first_gap_of image (joined records ++ joined blocks) (flat_map (λ o. o.extents) (owners d image chains)) ≡ None

-- by node the counts and the constant fields; the live records are told extent by extent
abbrev pub count_questions : Image → List Owner → List (List Place) → List (Question Place)
count_questions image [] records = []
count_questions image (o ∷ os) records =
    asked (node_place o.node) (counts_right image (name_of image o.node) (details_at image o.node) o.extents (joined (take (length o.extents) records)))
    ∷ count_questions image os (drop (length o.extents) records)

-- nor does 9
pub record Clear9 (d : List ℕ) (image : Image) (chains records blocks : List (List Place)) : Type 0 where
  pub before : Clear8 d image chains records blocks
  pub counted : first_failing (count_questions image (owners d image chains) records) ≡ None

-- no phase up to 9 finds anything
pub record IsClear (d : List ℕ) (image : Image) : Type 0 where
  pub chains : List (List Place)
  pub records : List (List Place)
  pub blocks : List (List Place)
  pub clear : Clear9 d image chains records blocks

-- ---- findings: all before it is right, and this is wrong at this place

abbrev pub FindsFile : List ℕ → Image → Place → Type 0
FindsFile d image at = first_failing (file_questions image) ≡ Some at

pub record FindsNode (d : List ℕ) (image : Image) (at : Place) : Type 0 where
  pub files : first_failing (file_questions image) ≡ None
  pub is : first_failing (node_questions d (ns_in image)) ≡ Some at

pub record FindsExtent (d : List ℕ) (image : Image) (at : Place) : Type 0 where
  pub before : Clear2 d image
  pub is : BreaksFirst [] (file_chains image) at

pub record FindsExtents (d : List ℕ) (image : Image) (at : Place) : Type 0 where
  pub found : List (List Place)
  pub before : Clear3 d image found
  pub is : BreaksFirst [] (extent_chains image (joined found)) at

pub record FindsLost (d : List ℕ) (image : Image) (at : Place) : Type 0 where
  pub found : List (List Place)
  pub before : Clear3 d image found
  pub chains : List (List Place)
  pub whole : AreWhole [] (extent_chains image (joined found)) chains
  pub is : first_failing (lost_questions (joined found) (seen_after [] chains)) ≡ Some at

pub record FindsChain (d : List ℕ) (image : Image) (at : Place) : Type 0 where
  pub chains : List (List Place)
  pub before : Clear5 d image chains
  pub is : BreaksFirst [] (record_chains image (owners d image chains)) at

pub record FindsDeleted (d : List ℕ) (image : Image) (at : Place) : Type 0 where
  pub chains : List (List Place)
  pub records : List (List Place)
  pub before : Clear6 d image chains records
  pub is : BreaksFirst (seen_after [] records) (list_chains image (owners d image chains)) at

pub record FindsTiling (d : List ℕ) (image : Image) (at : Place) : Type 0 where
  pub chains : List (List Place)
  pub records : List (List Place)
  pub blocks : List (List Place)
  pub before : Clear7 d image chains records blocks
  pub is : first_gap_of image (joined records ++ joined blocks) (flat_map (λ o. o.extents) (owners d image chains)) ≡ Some at

pub record FindsCounts (d : List ℕ) (image : Image) (at : Place) : Type 0 where
  pub chains : List (List Place)
  pub records : List (List Place)
  pub blocks : List (List Place)
  pub before : Clear8 d image chains records blocks
  pub is : first_failing (count_questions image (owners d image chains) records) ≡ Some at
