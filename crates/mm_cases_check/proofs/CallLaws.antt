-- What the calls ask for and give.
use Rattle.std.proofs.Common.{◌≡◌, ℕ, ℤ, pos, true, false, List, Option, Some, None, refl, sym, ◌∙◌, ap, subst}
use Rattle.std.specs.Prelude.{IfSome, is_some}
use Rattle.std.specs.Option.{option_map}
use Rattle.std.specs.FinMap.{get, get-empty}
use Rattle.std.specs.Ordering.{nat_cmp}
use Rattle.mm_base.specs.declared.place.DiskLoc.{DiskLoc}
use Rattle.mm_ranges.specs.Overlay.{Image}
use Rattle.mm_views.specs.State.{State, Drafting, no_views, drafting_of}
use Rattle.mm_nstable.specs.Table.{Held, table_of}
use Rattle.mm_nstable.specs.FreeChain.{IsFreeName}
use Rattle.mm_links.specs.Links.{Place, has, first_of, next_in}
use Rattle.mm_links.proofs.LinkLaws.{if_true, has_first, has_next}
use Rattle.mm_extents.specs.Changes.{loc}
use Rattle.mm_records.specs.Constants.{is_name}
use Rattle.mm_records.specs.Shape.{Shape}
use Rattle.mm_records.specs.Stands.{Stands, IsNode, ns_in, walk}
use Rattle.mm_records.specs.Map.{ofs_of, extent_of, owner, live_room, name_at, HasRecord}
use Rattle.mm_records.proofs.Freed.{name_own}
use Rattle.mm_records.proofs.Bounds.{has_flat}
use Rattle.mm_cases_check.specs.Drafted.{IsOfRecords, IsThere}

-- nothing is in a draft of no views
pub no_files : (d : Drafting) (v : State) → d ≡ drafting_of v → v ≡ no_views → (f : ℕ) → get d.image f ≡ None
no_files d v e g f = ap (λ (x : Drafting). get x.image f) e ∙ ap (λ (x : State). get x.private f) g ∙ get-empty nat_cmp f

pub is_node : (image : Image) (node : ℕ) → IsOfRecords image node → (free : List ℕ) (s : Shape) → Stands image free s → IsNode image free node
is_node image node o free s st = record { used = o.used; isnt_free = λ e. o.named (subst (λ (m : List ℕ). IsFreeName m) (sym e) st.free_chain.1.node.named) }

-- what stands on a namespace's walk is a record of it
pub on_walk : (image : Image) (free : List ℕ) (s : Shape) (node : ℕ) (q : Place) → Stands image free s → IsNode image free node → has (walk s (name_at image node)) q ≡ true
    → (room : List ℕ) × HasRecord image free s node q (loc q) room
on_walk image free s node q st n i =
    let name = name_at image node in
    let o = has_flat s.records (s.extents name) q i in
    let r = st.records.on_chain o.e q o.has in
    let x = st.extents.on_chain name o.e o.on in
    let home : extent_of q (s.heap q) ≡ o.e = ap (extent_of q) r.there ∙ place q o.e r.h.extent_ofs r.file r.of_extent in
    let owned : owner (s.heap (extent_of q (s.heap q))) ≡ name = ap (λ (p : Place). owner (s.heap p)) home ∙ ap owner x.1 ∙ x.2 in (
      r.room,
      record {
        stands = st;
        is_node = n;
        named = refl;
        live = if_true (is_name (owner (s.heap (extent_of q (s.heap q)))) name) (live_room (s.heap q)) None (name_own (owner (s.heap (extent_of q (s.heap q)))) name owned) ∙ ap live_room r.there;
      },
    )
  where
    place : (q e : Place) (z : ℤ) → q.0 ≡ e.0 → z ≡ pos e.1 → (q.0, ofs_of z) ≡ e
    place q e z f g = λ i. (f i, ofs_of (g i))

-- a place that an answer names
pub record Named (o : Option Place) (at : DiskLoc) : Type 0 where
  pub q : Place
  pub is : o ≡ Some q
  pub names : at ≡ loc q

pub named_of : (o : Option Place) (at : DiskLoc) → Some at ≡ option_map loc o → Named o at
named_of None at e = absurd cc
named_of (Some q) at e = record { q = q; is = refl; names = (let f : at ≡ loc q = cc in f) }

there_at : (image : Image) (free : List ℕ) (s : Shape) (node : ℕ) (q : Place) (at : DiskLoc) → at ≡ loc q → (room : List ℕ) × HasRecord image free s node q (loc q) room → (p : Place) × ((room : List ℕ) × HasRecord image free s node p at room)
there_at image free s node q at e r = (q, (r.0, subst (λ (z : DiskLoc). HasRecord image free s node q z r.0) (sym e) r.1))

-- the first record is there
pub first_there : (image : Image) (node : ℕ) (o : IsOfRecords image node) (result : Option DiskLoc)
    → ((free : List ℕ) (s : Shape) → Stands image free s → IsNode image free node → result ≡ option_map loc (first_of (walk s (name_at image node)))) → (at : DiskLoc) → result ≡ Some at → IsThere image node at
first_there image node o result f at e free s st =
    let n = is_node image node o free s st in
    let w = named_of (first_of (walk s (name_at image node))) at (sym e ∙ f free s st n) in
    there_at image free s node w.q at w.names (on_walk image free s node w.q st n (has_first (walk s (name_at image node)) w.q w.is))

-- the record behind another is there
pub next_there : (image : Image) (node : ℕ) (o : IsOfRecords image node) (here : DiskLoc) (result : Option DiskLoc) → IsThere image node here
    → ((free : List ℕ) (s : Shape) (p : Place) (room : List ℕ) → HasRecord image free s node p here room → result ≡ option_map loc (next_in (walk s (name_at image node)) p)) → (at : DiskLoc) → result ≡ Some at → IsThere image node at
next_there image node o here result t f at e free s st =
    let n = is_node image node o free s st in
    let r = t free s st in
    let w = named_of (next_in (walk s (name_at image node)) r.0) at (sym e ∙ f free s r.0 r.1.0 r.1.1) in
    there_at image free s node w.q at w.names (on_walk image free s node w.q st n (has_next (walk s (name_at image node)) r.0 w.q w.is))

-- ---- by results

pub all_of : {T : Type 0} {P : T → Type 0} (r : Option T) → ((x : T) → r ≡ Some x → P x) → IfSome r P
all_of None f = tt
all_of (Some x) f = f x refl

-- ---- names

-- what isn't found isn't there
pub absent_of : (o : Option Held) (r : Option ℕ) → r ≡ option_map (λ h. h.node) o → is_some r ≡ false → o ≡ None
absent_of None r e n = refl
absent_of (Some h) r e n = absurd (let z : true ≡ false = ap (λ (x : Option ℕ). is_some x) (sym e) ∙ n in cc)

there_of : (o : Option Held) (r : Option ℕ) → r ≡ option_map (λ h. h.node) o → is_some r ≡ true → (h : Held) × (o ≡ Some h)
there_of None r e n = absurd (let z : false ≡ true = ap (λ (x : Option ℕ). is_some x) (sym e) ∙ n in cc)
there_of (Some h) r e n = (h, refl)

-- a free chain's name that is found is that of the chain, and a node with another name isn't the chain's
pub drops : (image : Image) (free name : List ℕ) (s : Shape) (node : ℕ) → Stands image free s → IsFreeName name → (r : Option ℕ) → r ≡ option_map (λ h. h.node) (get (table_of (ns_in image)) name) → is_some r ≡ true → IsOfRecords image node
    → (t : Shape) × (Stands image name t × IsNode image name node)
drops image free name s node st named r e n o =
    let h = there_of (get (table_of (ns_in image)) name) r e n in
    let same : name ≡ free = st.free_chain.1.node.only name h.0 h.1 named in
    (s, (subst (λ (m : List ℕ). Stands image m s) (sym same) st, record { used = o.used; isnt_free = λ f. o.named (subst (λ (m : List ℕ). IsFreeName m) (sym f) named) }))
