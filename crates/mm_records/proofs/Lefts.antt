-- What is left where a payload fits nowhere.
use Rattle.std.proofs.Common.{ℕ, List, sym, ◌∙◌, ap, subst}
use Rattle.std.specs.FinMap.{get}
use Rattle.mm_ranges.specs.Overlay.{Image}
use Rattle.mm_frames.specs.Texts.{text_in}
use Rattle.mm_nstable.specs.Nodes.{IsTable}
use Rattle.mm_nstable.specs.Table.{table_of}
use Rattle.mm_nstable.specs.FreeChain.{HasFreeChain, ends_of}
use Rattle.mm_extents.specs.FreeExtents.{HasFree, IsLeftFull}
use Rattle.mm_records.specs.Shape.{Shape}
use Rattle.mm_records.specs.Stands.{Stands}
use Rattle.mm_records.specs.Asking.{extent_len, NoFit}

-- the free extents, as the details of their node name them
pub frees_there : (image : Image) (free : List ℕ) (s : Shape) (st : Stands image free s) → HasFree image free s.heap (s.extents free) (ends_of st.free_chain.0.details)
frees_there image free s st = record {
  files = st.files;
  shown = st.heap;
  tiled = st.tiled;
  linked = st.extents.linked free;
  on_chain = st.extents.on_chain free;
  first = st.free_chain.1.first;
  last = st.free_chain.1.last;
}

-- the files stand with the same shape
pub left_stands : (image new : Image) (free : List ℕ) (s : Shape) (len : ℕ) → Stands image free s → IsLeftFull image new len → Stands new free s
left_stands image new free s len st l =
    let f = l.stands free s.heap (s.extents free) (ends_of st.free_chain.0.details) (frees_there image free s st) in
    record {
      files = f.files;
      table = subst (λ (ns : List ℕ). IsTable ns) (sym l.ns) st.table;
      heap = f.shown;
      tiled = f.tiled;
      extents = st.extents;
      owners = λ q g i. let n = st.owners q g i in (n.0, ap (λ (ns : List ℕ). get (table_of ns) (text_in g.namespace)) l.ns ∙ n.1);
      records = st.records;
      lists = st.lists;
      counts = λ m held e nf. st.counts m held (ap (λ (ns : List ℕ). get (table_of ns) m) (sym l.ns) ∙ e) nf;
      free_chain = (st.free_chain.0, record { node = subst (λ (ns : List ℕ). HasFreeChain ns free st.free_chain.0) (sym l.ns) st.free_chain.1.node; first = st.free_chain.1.first; last = st.free_chain.1.last });
    }

-- and the payload still fits nowhere
pub left_fit : (image new : Image) (free : List ℕ) (s : Shape) (name : List ℕ) (r : ℕ) → NoFit image s free name r → IsLeftFull image new (extent_len s name r) → NoFit new s free name r
left_fit image new free s name r n l = record { no_block = n.no_block; no_extent = record { short = n.no_extent.short; no_rest = l.no_rest } }
