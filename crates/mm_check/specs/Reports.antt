-- What the check tells of files in which it finds nothing.
use Rattle.std.specs.Prelude.{◌≡◌, ℕ, suc, ◌+◌, Bool, ◌&&◌, not, is_some, if◌then◌else◌, List, [], ◌∷◌, length, take, drop}
use Rattle.std.specs.FinMap.{get}
use Rattle.mm_ranges.specs.Overlay.{Image}
use Rattle.mm_ranges.specs.declared.limits.TheConstants.{NS_FILE}
use Rattle.mm_links.specs.Links.{Place}
use Rattle.mm_records.specs.Constants.{is_collection}
use Rattle.mm_check.specs.ExtentChain.{nat_of}
use Rattle.mm_check.specs.FileQuestions.{none_from}
use Rattle.mm_check.specs.Findings.{files_from, nodes_in, name_of, details_at, joined, Owner, owners, Clear9}
use Rattle.mm_model.specs.declared.finding.Report.{Report}

-- no file of the database is there
abbrev pub no_file : Image → Bool
no_file image = not (is_some (get image NS_FILE)) && none_from image 0 8

-- how many of these nodes are collections
abbrev pub collections_of : Image → List ℕ → ℕ
collections_of image [] = 0
collections_of image (k ∷ ks) = if is_collection (name_of image k) then suc (collections_of image ks) else collections_of image ks

-- how many live records the collections among these nodes have, told extent by extent
abbrev pub documents_of : Image → List Owner → List (List Place) → ℕ
documents_of image [] records = 0
documents_of image (o ∷ os) records =
    (if is_collection (name_of image o.node) then length (joined (take (length o.extents) records)) else 0) + documents_of image os (drop (length o.extents) records)

-- and how many the details of these nodes tell
abbrev pub told_of : Image → List ℕ → ℕ
told_of image [] = 0
told_of image (k ∷ ks) = (if is_collection (name_of image k) then nat_of (details_at image k).nrecords else 0) + told_of image ks

-- The data files, the collections and their live records; the trees aren't looked at.
pub record IsReport (d : List ℕ) (image : Image) (r : Report) : Type 0 where
  pub chains : List (List Place)
  pub records : List (List Place)
  pub blocks : List (List Place)
  pub clear : Clear9 d image chains records blocks
  pub files : r.files ≡ length (files_from image 0 8)
  pub collections : r.collections ≡ collections_of image (nodes_in image)
  pub documents : r.documents ≡ documents_of image (owners d image chains) records
  pub indexes : r.indexes ≡ 0
  pub buckets : r.buckets ≡ 0

-- nothing is there
pub record IsEmptyReport (r : Report) : Type 0 where
  pub files : r.files ≡ 0
  pub collections : r.collections ≡ 0
  pub documents : r.documents ≡ 0
  pub indexes : r.indexes ≡ 0
  pub buckets : r.buckets ≡ 0
