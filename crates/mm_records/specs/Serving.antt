-- What a namespace's deleted blocks can serve.
use Rattle.std.specs.Prelude.{◌≡◌, ℕ, ◌+◌, ◌≤◌, true, List, length, Some}
use Rattle.mm_frames.specs.declared.deleted_header.DeletedHeader.{DeletedHeader}
use Rattle.mm_links.specs.Links.{Place, has}
use Rattle.mm_extents.specs.Heap.{deleted}
use Rattle.mm_records.specs.Shape.{Shape}

-- a deleted block of the namespace has n bytes or more
pub record HasBlock (s : Shape) (name : List ℕ) (n : ℕ) : Type 0 where
  pub list : ℕ
  pub at : Place
  pub on : has (s.lists name list) at ≡ true
  pub h : DeletedHeader
  pub rest : List ℕ
  pub there : s.heap at ≡ Some (deleted h rest)
  pub long : n ≤ 16 + length rest
