-- Files without extents have a shape.
use Rattle.std.proofs.Common.{◌≡◌, ◌≢◌, ℕ, pos, ◌<◌, inl, List, [], Option, Some, None, refl}
use Rattle.std.specs.Prelude.{slice_index_or}
use Rattle.std.specs.FinMap.{get}
use Rattle.std.proofs.lemmas.Bool.{false≢true}
use Rattle.mm_base.specs.Places.{null}
use Rattle.mm_ranges.specs.Overlay.{Image}
use Rattle.mm_frames.specs.declared.details.Details.{Details}
use Rattle.mm_nstable.specs.Nodes.{IsTable}
use Rattle.mm_nstable.specs.Table.{Held, table_of}
use Rattle.mm_nstable.specs.FreeChain.{HasFreeChain}
use Rattle.mm_extents.specs.Files.{FilesStand, unused_in}
use Rattle.mm_records.specs.Constants.{HasConstants}
use Rattle.mm_links.specs.Links.{Place, IsLinked}
use Rattle.mm_records.specs.Shape.{Shape}
use Rattle.mm_records.specs.Stands.{Stands, ns_in}

pub no_extents : Shape
no_extents = record { heap = λ _. None; extents = λ _. []; records = λ _. []; lists = λ _ _. [] }

-- details of a namespace without extents
pub record IsBare (name : List ℕ) (d : Details) : Type 0 where
  pub first : d.first_extent ≡ null
  pub last : d.last_extent ≡ null
  pub heads : (i : ℕ) → i < 19 → slice_index_or d.deleted i null ≡ null
  pub nrecords : d.nrecords ≡ pos 0
  pub datasize : d.datasize ≡ pos 0
  pub last_size : d.last_extent_size ≡ pos 0
  pub constants : HasConstants name d

unlinked_none : {A : Type 0} (of : Option Place → A) (next prev : Place → A) → IsLinked of [] next prev
unlinked_none of next prev = record { no_twice = refl; behind = λ p h. absurd (false≢true h); before = λ p q e. absurd cc; first = λ p e. absurd cc }

pub bare_stands : (image : Image) (free : List ℕ) → IsTable (ns_in image) → ((file u : ℕ) → unused_in image file ≡ Some (pos u) → 8192 ≡ u)
    → ((name : List ℕ) (held : Held) → get (table_of (ns_in image)) name ≡ Some held → name ≢ free → IsBare name held.details)
    → FilesStand image → (held : Held) → HasFreeChain (ns_in image) free held → held.details.first_extent ≡ null → held.details.last_extent ≡ null → Stands image free no_extents
unfolding no_extents
bare_stands image free t u b fs held f first last = record {
  files = fs;
  table = t;
  heap = record { data_file = λ p c e. absurd cc; behind_header = λ p c e. absurd cc; inside = λ p c e. absurd cc; shown = λ p c e. absurd cc; apart = λ f x y c d e g lt. absurd cc };
  tiled = record { begins = λ file v e. inl (u file v e); extents = λ file at magic here name len e. absurd cc; apart = λ file a b magic magic' n here here' name name' len e e' lt. absurd cc; blocks = λ file at n ext len e. absurd cc };
  owners = λ p h e. absurd cc;
  extents = record { linked = λ name. unlinked_none _ _ _; on_chain = λ name p h. absurd (false≢true h); all = λ p h e. absurd cc };
  records = record { linked = λ e. unlinked_none _ _ _; on_chain = λ e p h. absurd (false≢true h); all = λ p h room a e x. absurd cc; ends = λ e h x nf. absurd cc };
  lists = record { no_twice = λ name i. refl; on_list = λ name i p h. absurd (false≢true h); all = λ p h rest a hh e x y. absurd cc };
  counts = λ name held e ne. let d = b name held e ne in record { first = d.first; last = d.last; heads = d.heads; nrecords = d.nrecords; datasize = d.datasize; last_size = d.last_size; constants = d.constants };
  free_chain = (held, record { node = f; first = first; last = last });
}
