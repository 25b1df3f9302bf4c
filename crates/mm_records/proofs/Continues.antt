-- The files stand again with a node's details in hand, from what a step leaves of each part.
use Rattle.std.proofs.Common.{◌≡◌, ℕ, ℤ, List, Option, Some, None, sym, ◌∙◌, ap, subst}
use Rattle.std.specs.Prelude.{if◌then◌else◌, nat_lt}
use Rattle.std.specs.FinMap.{get}
use Rattle.mm_ranges.specs.Overlay.{Image}
use Rattle.mm_frames.specs.Texts.{text_in}
use Rattle.mm_frames.specs.declared.extent_header.ExtentHeader.{ExtentHeader}
use Rattle.mm_frames.specs.declared.details.Details.{Details}
use Rattle.mm_nstable.specs.Nodes.{name_in, node_at, is_used, IsTable}
use Rattle.mm_nstable.specs.Table.{table_of}
use Rattle.mm_nstable.specs.FreeChain.{HasFreeChain}
use Rattle.mm_links.specs.Links.{Place, first_of, last_of}
use Rattle.mm_extents.specs.Heap.{extent, IsHeap}
use Rattle.mm_extents.specs.Changes.{loc_or, KeepsHeaders}
use Rattle.mm_extents.specs.Files.{header_unused, unused_in}
use Rattle.mm_extents.specs.Tiling.{Outline, ground, IsTiled}
use Rattle.mm_extents.specs.Chains.{ExtentsStand}
use Rattle.mm_extents.proofs.FileLaws.{files_kept}
use Rattle.mm_records.specs.Shape.{Shape}
use Rattle.mm_records.specs.Stands.{RecordsStand, ListsStand, DetailsStand, HasNode}
use Rattle.mm_records.specs.Map.{name_at}
use Rattle.mm_records.specs.InHand.{StandsWith}

pub unused_kept : (old new : Image) → KeepsHeaders old new → (f : ℕ) → unused_in new f ≡ unused_in old f
unused_kept old new k f = ap (λ (b : List ℕ). if nat_lt f 8 then header_unused b else None) (k.headers f)

pub tiled_kept : (old new : Image) (free : List ℕ) (g g' : Place → Option Outline) → KeepsHeaders old new → ((q : Place) → g' q ≡ g q) → IsTiled g (unused_in old) free → IsTiled g' (unused_in new) free
tiled_kept old new free g g' k e t =
    let whole : (g, unused_in old) ≡ (g', unused_in new) = λ i. (λ q. sym (e q) i, λ f. sym (unused_kept old new k f) i) in
    subst (λ (x : (Place → Option Outline) × (ℕ → Option ℤ)). IsTiled x.0 x.1 free) whole t

module _ (image : Image) (free : List ℕ) (s : Shape) (node : ℕ) (d : Details) (st : StandsWith image free s node d) (new : Image) (k : KeepsHeaders image new) where
  name_same : name_at new node ≡ name_at image node
  name_same = ap (λ (ns : List ℕ). name_in (node_at ns node)) k.ns

  has_node : (m : List ℕ) → HasNode image m → HasNode new m
  has_node m n = (n.0, ap (λ (ns : List ℕ). get (table_of ns) m) k.ns ∙ n.1)

  pub continues : (t : Shape) (d' : Details) → IsHeap new t.heap → IsTiled (ground t.heap) (unused_in new) free → ExtentsStand t.heap t.extents
      → ((q : Place) (g : ExtentHeader) → t.heap q ≡ Some (extent g) → HasNode image (text_in g.namespace)) → RecordsStand free t → ListsStand t → DetailsStand t (name_at image node) d'
      → ((m : List ℕ) (x : Details) → (m ≡ name_at image node → ⊥) → DetailsStand s m x → DetailsStand t m x) → t.extents free ≡ s.extents free → StandsWith new free t node d'
  continues t d' heap tiled extents owners records lists own others chain = record {
    files = files_kept image new k.lengths (λ f lt. k.headers f) st.files;
    table = subst (λ (ns : List ℕ). IsTable ns) (sym k.ns) st.table;
    heap = heap;
    tiled = tiled;
    extents = extents;
    owners = λ q g i. has_node (text_in g.namespace) (owners q g i);
    records = records;
    lists = lists;
    is_node = record { used = ap (λ (ns : List ℕ). is_used ns node) k.ns ∙ st.is_node.used; isnt_free = λ e. st.is_node.isnt_free (sym name_same ∙ e) };
    own = subst (λ (n : List ℕ). DetailsStand t n d') (sym name_same) own;
    others = λ m held e nf no. others m held.details (λ f. no (f ∙ sym name_same)) (st.others m held (ap (λ (ns : List ℕ). get (table_of ns) m) (sym k.ns) ∙ e) nf (λ f. no (f ∙ sym name_same)));
    free_chain = (
      st.free_chain.0,
      record {
        node = subst (λ (ns : List ℕ). HasFreeChain ns free st.free_chain.0) (sym k.ns) st.free_chain.1.node;
        first = st.free_chain.1.first ∙ ap (λ (xs : List Place). loc_or (first_of xs)) (sym chain);
        last = st.free_chain.1.last ∙ ap (λ (xs : List Place). loc_or (last_of xs)) (sym chain);
      },
    );
  }
