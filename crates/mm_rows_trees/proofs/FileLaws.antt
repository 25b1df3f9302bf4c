-- What the tests' helpers ask for and give.
use Rattle.std.proofs.Common.{◌≡◌, ℕ, ℤ, pos, Bool, true, false, List, Option, Some, None, Result, Ok, Err, refl, sym, ◌∙◌, ap, subst, arith}
use Rattle.std.proofs.lemmas.Int.{ints}
use Rattle.std.specs.Prelude.{◌<ℤ◌, is_some, if◌then◌else◌, IfSome, OnOk}
use Rattle.std.specs.Option.{option_map}
use Rattle.std.specs.FinMap.{get, get-empty}
use Rattle.std.specs.Ordering.{nat_cmp}
use Rattle.mm_ranges.specs.Overlay.{Image}
use Rattle.mm_views.specs.State.{State, Drafting, no_views, drafting_of}
use Rattle.mm_nstable.specs.Nodes.{SameNames, is_used}
use Rattle.mm_nstable.specs.Table.{Held}
use Rattle.mm_nstable.specs.FreeChain.{IsFreeName}
use Rattle.mm_links.specs.Links.{Place}
use Rattle.mm_extents.specs.Heap.{Cell}
use Rattle.mm_records.specs.Constants.{is_name}
use Rattle.mm_records.specs.Shape.{Shape}
use Rattle.mm_records.specs.Stands.{Stands, IsNode, ns_in}
use Rattle.mm_records.specs.Map.{extent_of, owner, live_room, live_at, name_at}
use Rattle.mm_namespaces.specs.Fresh.{HasNothing}
use Rattle.mm_trees.specs.Walked.{spot_in}
use Rattle.mm_trees.specs.Buckets.{Holds, node_in, shown_there}
use Rattle.mm_trees.specs.Indexes.{IsUnmade}
use Rattle.mm_trees.proofs.Showing.{bucket_is}
use Rattle.mm_rows_trees.specs.Ready.{IsBare, IsOfRecords, IsNodeOf, IsCounted, AreReady}

-- nothing is in a draft of no views
pub no_files : (d : Drafting) (v : State) → d ≡ drafting_of v → v ≡ no_views → (f : ℕ) → get d.image f ≡ None
no_files d v e g f = ap (λ (x : Drafting). get x.image f) e ∙ ap (λ (x : State). get x.private f) g ∙ get-empty nat_cmp f

-- what isn't found isn't there
pub absent_of : (o : Option Held) (r : Option ℕ) → r ≡ option_map (λ h. h.node) o → is_some r ≡ false → o ≡ None
absent_of None r e n = refl
absent_of (Some h) r e n = absurd (let z : true ≡ false = ap (λ (x : Option ℕ). is_some x) (sym e) ∙ n in cc)

pub both_ok : {A E : Type 0} {P Q R : Type 0} (r : Result A E) → (P → Q → R) → OnOk r P → OnOk r Q → OnOk r R
both_ok (Ok x) f p q = f p q
both_ok (Err e) f p q = tt

-- the node that is found
pub found_node : (image : Image) (name : List ℕ) → (IsFreeName name → ⊥) → (r : Option ℕ) → IfSome r (λ node. is_used (ns_in image) node ≡ true) → IfSome r (λ node. name_at image node ≡ name) → IfSome r (λ node. IsNodeOf image node name)
found_node image name named None u n = tt
found_node image name named (Some node) u n = record {
  of_records = record { used = u; named = λ f. named (subst (λ (m : List ℕ). IsFreeName m) n f) };
  is = n;
}

-- the files with one namespace more
pub bare_on : (old new : Image) → IsBare old → ((free : List ℕ) (s : Shape) → Stands old free s → Stands new free s) → IsBare new
bare_on old new b f = (b.0, (b.1.0, (f b.0 b.1.0 b.1.1.0, b.1.1.1)))

pub is_node : (image : Image) (node : ℕ) → IsOfRecords image node → (free : List ℕ) (s : Shape) → Stands image free s → IsNode image free node
is_node image node o free s st = record { used = o.used; isnt_free = λ e. o.named (subst (λ (m : List ℕ). IsFreeName m) (sym e) st.free_chain.1.node.named) }

names_kept : (old new : Image) (node : ℕ) → SameNames (ns_in old) (ns_in new) → IsOfRecords old node → IsOfRecords new node
names_kept old new node n o = record { used = n.used node ∙ o.used; named = λ f. o.named (subst (λ (m : List ℕ). IsFreeName m) (n.names node o.used) f) }

pub are_ready : (mid new : Image) (node owner : ℕ) → IsBare mid → IsOfRecords mid node → IsOfRecords mid owner → IsCounted mid new owner → AreReady new node owner
are_ready mid new node owner b n o c = record {
  bare = (b.0, (b.1.0, (c.stands b.0 b.1.0 b.1.1.0 (is_node mid owner o b.0 b.1.0 b.1.1.0), b.1.1.1)));
  index = names_kept mid new node c.names n;
  collection = names_kept mid new owner c.names o;
  one = c.one;
}

-- ---- no bucket is there

abbrev none_of_lists : Option (List ℕ)
none_of_lists = None

either : (b : Bool) → (if b then none_of_lists else none_of_lists) ≡ none_of_lists
either true = refl
either false = refl

live_none : (s : Shape) → HasNothing s → (name : List ℕ) (p : Place) → live_at s name p ≡ None
live_none s n name p =
    ap (λ (c : Option Cell). if is_name (owner (s.heap (extent_of p (s.heap p)))) name then live_room c else None) (n.heap p)
    ∙ either (is_name (owner (s.heap (extent_of p (s.heap p)))) name)

none_shown : (s : Shape) → HasNothing s → (name : List ℕ) (o : Option Place) → shown_there (live_at s name) o ≡ None
none_shown s n name None = refl
none_shown s n name (Some p) = ap (option_map node_in) (live_none s n name p)

pub unmade : (image : Image) (node owner : ℕ) → AreReady image node owner → IsUnmade image node owner 0
unmade image node owner r =
    let b = r.bare in
    let st = b.1.1.0 in
    let h : Holds image b.0 b.1.0 node = record {
      stands = st;
      is_node = is_node image node r.index b.0 b.1.0 st;
      rooms = λ p room e. absurd (let z : None ≡ Some room = sym (live_none b.1.0 b.1.1.1 (name_at image node) p) ∙ e in cc);
    } in
    record {
      free = b.0;
      shape = b.1.0;
      holds = h;
      owner_is = is_node image owner r.collection b.0 b.1.0 st;
      inside = omega arith;
      counted = subst (λ (z : ℤ). pos 0 <ℤ z) (sym r.one) (omega (arith, ints));
      none = λ at. bucket_is image b.0 b.1.0 node h at ∙ none_shown b.1.0 b.1.1.1 (name_at image node) (spot_in at);
    }
