-- Points 1 to 5 of what stands of a database's files, and the shape that the check finds.
use Rattle.std.specs.Prelude.{◌≡◌, ℕ, List, [], ◌∷◌, if◌then◌else◌, flat_map, take, drop, slice_index_or, Contains}
use Rattle.mm_ranges.specs.Overlay.{Image}
use Rattle.mm_links.specs.Links.{Place}
use Rattle.mm_records.specs.Constants.{is_name}
use Rattle.mm_records.specs.Shape.{Shape}
use Rattle.mm_records.specs.Stands.{Stands, ns_in}
use Rattle.mm_check.specs.NodeQuestions.{free_name, NodesStand}
use Rattle.mm_check.specs.Findings.{joined, nodes_in, name_of, Owner, owners_of, owners}
use Rattle.mm_check.specs.FoundShape.{beside, found_heap, chain_named}

-- a database's name has no dot
abbrev pub HasNoDot : List ℕ → Type 0
HasNoDot d = ¬ Contains d 46

-- Points 1 to 5 hold of the files of the database d, which have this shape: the used nodes are those that its namespaces have, and the rest
-- is what stands by `Stands`, with the name of its node of the free chain.
pub record HasShape (d : List ℕ) (image : Image) (s : Shape) : Type 0 where
  pub nodes : NodesStand d (ns_in image)
  pub stands : Stands image (free_name d) s

-- ---- the shape that the walks find

-- list i of the node with a name, where each of these nodes has nineteen
abbrev pub list_named : Image → List Owner → List (List Place) → List ℕ → ℕ → List Place
list_named image [] blocks name i = []
list_named image (o ∷ os) blocks name i = if is_name (name_of image o.node) name then slice_index_or (take 19 blocks) i [] else list_named image os (drop 19 blocks) name i

-- the extents of files and nodes, the live records of extents and the deleted blocks of lists, as they were walked
abbrev pub found_shape : List ℕ → Image → List (List Place) → List (List Place) → List (List Place) → List (List Place) → Shape
found_shape d image found chains records blocks = record {
  heap = found_heap image (joined found) (joined records) (joined blocks);
  extents = chain_named image (owners_of (nodes_in image) chains);
  records = beside (flat_map (λ o. o.extents) (owners d image chains)) records;
  lists = list_named image (owners d image chains) blocks;
}

-- the same stands at each place, and the same places are on each chain and each list
pub record IsSameShape (s t : Shape) : Type 0 where
  pub heap : (p : Place) → t.heap p ≡ s.heap p
  pub extents : (name : List ℕ) → t.extents name ≡ s.extents name
  pub records : (e : Place) → t.records e ≡ s.records e
  pub lists : (name : List ℕ) (i : ℕ) → t.lists name i ≡ s.lists name i
