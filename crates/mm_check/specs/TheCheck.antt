-- The finding that the check answers, by its word.
use Rattle.std.specs.Prelude.{◌≡◌, ℕ, List, Option, Some, None, Result, Ok, Err}
use Rattle.mm_ranges.specs.Overlay.{Image}
use Rattle.mm_links.specs.Links.{Place}
use Rattle.mm_model.specs.declared.finding.What.{What}
use Rattle.mm_model.specs.declared.finding.What.TheVariants.{File, Node, Extent, Extents, Lost, Chain, Deleted, Tiling, Counts, Document, Index, Bucket, Pair}
use Rattle.mm_model.specs.declared.finding.Finding.{Finding}
use Rattle.mm_model.specs.declared.finding.CheckFault.{CheckFault}
use Rattle.mm_model.specs.declared.finding.CheckFault.TheVariants.{Found, NoMemory}
use Rattle.mm_walk.specs.declared.walk.Broken.{Broken}
use Rattle.mm_walk.specs.declared.walk.Broken.TheVariants as broken
use Rattle.mm_check.specs.Findings.{FindsFile, FindsNode, FindsExtent, FindsExtents, FindsLost, FindsChain, FindsDeleted, FindsTiling, FindsCounts}

-- In the files of the database d this is the first finding. The phases behind `counts` find nothing yet.
abbrev pub IsFinding : List ℕ → Image → What → Place → Type 0
IsFinding d image File at = FindsFile d image at
IsFinding d image Node at = FindsNode d image at
IsFinding d image Extent at = FindsExtent d image at
IsFinding d image Extents at = FindsExtents d image at
IsFinding d image Lost at = FindsLost d image at
IsFinding d image Chain at = FindsChain d image at
IsFinding d image Deleted at = FindsDeleted d image at
IsFinding d image Tiling at = FindsTiling d image at
IsFinding d image Counts at = FindsCounts d image at
IsFinding d image Document at = ⊥
IsFinding d image Index at = ⊥
IsFinding d image Bucket at = ⊥
IsFinding d image Pair at = ⊥

abbrev pub IfFound : {T : Type 0} → Result T CheckFault → (Finding → Type 0) → Type 0
IfFound (Ok x) P = Unit {0}
IfFound (Err (Found f)) P = P f
IfFound (Err NoMemory) P = Unit {0}

-- what is answered as found is the first finding
abbrev pub Finds : {T : Type 0} → List ℕ → Image → Result T CheckFault → Type 0
Finds d image r = IfFound r (λ f. IsFinding d image f.what (f.file, f.at))

-- the fault that tells what a chain breaks with
abbrev pub IsFault : Broken → What → CheckFault → Type 0
IsFault (broken.At at) what fault = fault ≡ Found (record { file = at.0; at = at.1; what = what })
IsFault broken.NoMemory what fault = fault ≡ NoMemory

-- nothing, or the fault that tells what is found at a place
abbrev pub IsOutcome : Option Place → What → Result (Unit {0}) CheckFault → Type 0
IsOutcome None what r = r ≡ Ok tt
IsOutcome (Some p) what r = r ≡ Err (Found (record { file = p.0; at = p.1; what = what }))
