-- The phases by their numbers: what has found nothing up to one of them, and what fails in it.
use Rattle.std.specs.Prelude.{◌≡◌, ℕ, zero, suc, List, [], None}
use Rattle.mm_ranges.specs.Overlay.{Image}
use Rattle.mm_links.specs.Links.{Place}
use Rattle.mm_model.specs.declared.finding.What.{What}
use Rattle.mm_model.specs.declared.finding.What.TheVariants.{File, Node, Extent, Extents, Lost, Chain, Deleted, Tiling, Counts, Document, Index, Bucket, Pair}
use Rattle.mm_walk.specs.Questions.{first_failing}
use Rattle.mm_walk.specs.Walk.{AreWhole}
use Rattle.mm_check.specs.FileQuestions.{file_questions}
use Rattle.mm_check.specs.Findings.{joined, extent_chains, Clear2, Clear3, Clear5, Clear6, Clear7, Clear8, Clear9, FindsFile, FindsNode, FindsExtent, FindsExtents, FindsLost, FindsChain, FindsDeleted, FindsTiling, FindsCounts}

abbrev pub number_of : What → ℕ
number_of File = 0
number_of Node = 1
number_of Extent = 2
number_of Extents = 3
number_of Lost = 4
number_of Chain = 5
number_of Deleted = 6
number_of Tiling = 7
number_of Counts = 8
number_of Document = 9
number_of Index = 10
number_of Bucket = 11
number_of Pair = 12

-- phase 3 finds nothing either, and these are the chains of the nodes
pub record Clear4 (d : List ℕ) (image : Image) (chains : List (List Place)) : Type 0 where
  pub found : List (List Place)
  pub before : Clear3 d image found
  pub whole : AreWhole [] (extent_chains image (joined found)) chains

-- the first n phases find nothing
abbrev pub Passed : List ℕ → Image → ℕ → Type 0
Passed d image zero = Unit {0}
Passed d image (suc zero) = first_failing (file_questions image) ≡ None
Passed d image (suc (suc zero)) = Clear2 d image
Passed d image (suc (suc (suc zero))) = (found : List (List Place)) × Clear3 d image found
Passed d image (suc (suc (suc (suc zero)))) = (chains : List (List Place)) × Clear4 d image chains
Passed d image (suc (suc (suc (suc (suc zero))))) = (chains : List (List Place)) × Clear5 d image chains
Passed d image (suc (suc (suc (suc (suc (suc zero)))))) = (chains : List (List Place)) × (records : List (List Place)) × Clear6 d image chains records
Passed d image (suc (suc (suc (suc (suc (suc (suc zero))))))) = (chains : List (List Place)) × (records : List (List Place)) × (blocks : List (List Place)) × Clear7 d image chains records blocks
Passed d image (suc (suc (suc (suc (suc (suc (suc (suc zero)))))))) = (chains : List (List Place)) × (records : List (List Place)) × (blocks : List (List Place)) × Clear8 d image chains records blocks
Passed d image (suc (suc (suc (suc (suc (suc (suc (suc (suc n))))))))) = (chains : List (List Place)) × (records : List (List Place)) × (blocks : List (List Place)) × Clear9 d image chains records blocks

-- the first n phases find nothing, and the next one fails at this place
abbrev pub FailsAt : List ℕ → Image → ℕ → Place → Type 0
FailsAt d image zero at = FindsFile d image at
FailsAt d image (suc zero) at = FindsNode d image at
FailsAt d image (suc (suc zero)) at = FindsExtent d image at
FailsAt d image (suc (suc (suc zero))) at = FindsExtents d image at
FailsAt d image (suc (suc (suc (suc zero)))) at = FindsLost d image at
FailsAt d image (suc (suc (suc (suc (suc zero))))) at = FindsChain d image at
FailsAt d image (suc (suc (suc (suc (suc (suc zero)))))) at = FindsDeleted d image at
FailsAt d image (suc (suc (suc (suc (suc (suc (suc zero))))))) at = FindsTiling d image at
FailsAt d image (suc (suc (suc (suc (suc (suc (suc (suc zero)))))))) at = FindsCounts d image at
FailsAt d image (suc (suc (suc (suc (suc (suc (suc (suc (suc n))))))))) at = ⊥
