-- The names that were seen among the nodes.
use Rattle.std.specs.Prelude.{◌≡◌, ℕ, true, List}
use Rattle.std.specs.BTreeSet.{BTreeSet, contains}
use Rattle.std.specs.Ordering.{nat_cmp}
use Rattle.std.specs.Cmp.Lexicographic.{slice_cmp}
use Rattle.mm_base.specs.Bytes.{padded}
use Rattle.mm_base.specs.Names.{IsName}
use Rattle.mm_nstable.specs.Nodes.{count_of}
use Rattle.mm_check.specs.NodeQuestions.{has_name}

-- The set has the names of the used ones among the first k nodes, zero padded.
abbrev pub KnowsNames : List ℕ → ℕ → BTreeSet (List ℕ) → Type 0
KnowsNames bytes k set = (name : List ℕ) → IsName name → contains (slice_cmp nat_cmp) set (padded 128 name) ≡ has_name bytes k name

-- what used nodes are called is a name
abbrev pub NamesAll : List ℕ → Type 0
NamesAll bytes = (name : List ℕ) → has_name bytes (count_of bytes) name ≡ true → IsName name
