-- What a change of one record of a node makes of its buckets.
use Rattle.std.proofs.Common.{◌≡◌, ℕ, ◌+◌, ◌*◌, ◌≤◌, inl, inr, true, false, List, ◌++◌, length, take, drop, Option, Some, cond, refl, sym, ◌∙◌, ap, subst, arith}
use Rattle.std.specs.Option.{option_map}
use Rattle.std.proofs.lemmas.Bool.{cases_Bool}
use Rattle.std.proofs.lemmas.List.{drop-take}
use Rattle.std.proofs.Math.Seq.{take-append-add}
use Rattle.mm_base.specs.Bytes.{part, overwritten}
use Rattle.mm_base.specs.declared.place.DiskLoc.{DiskLoc}
use Rattle.mm_ranges.specs.Overlay.{Image}
use Rattle.mm_links.specs.Links.{Place, same}
use Rattle.mm_links.proofs.LinkLaws.{same_is}
use Rattle.mm_nstable.specs.Nodes.{SameNames, node_at, details_in, is_used}
use Rattle.mm_records.specs.Constants.{is_name, constants_of}
use Rattle.mm_records.specs.Shape.{Shape}
use Rattle.mm_records.specs.Stands.{Stands, ns_in}
use Rattle.mm_records.specs.Map.{live_at, name_at}
use Rattle.mm_records.specs.Serving.{HasBlock}
use Rattle.mm_records.proofs.Serving.{shorter}
use Rattle.mm_btree.specs.Nodes.{Node, put, place_eq}
use Rattle.mm_trees.specs.Walked.{spot_in}
use Rattle.mm_trees.specs.Buckets.{bucket_in, node_in, shown, IsRoom, Holds, Serves, Keeps, Goes}
use Rattle.mm_trees.proofs.Showing.{one_changed, bucket_is}

-- ---- the front of a room

pub front_overwritten : (f room : List ℕ) (n k : ℕ) → n ≡ length f + k → part 0 n (overwritten 0 f room) ≡ overwritten 0 f (part 0 n room)
unfolding part overwritten
front_overwritten f room n k e =
    ap (λ (m : ℕ). take m (f ++ drop (length f) room)) e ∙ take-append-add f (drop (length f) room) k
    ∙ ap (λ (xs : List ℕ). f ++ xs) (sym (drop-take (length f) k room)) ∙ ap (λ (m : ℕ). f ++ drop (length f) (take m room)) (sym e)

-- ---- one change

-- One record of the node has become this, and all else has stayed.
pub record IsOneChange (old new : Image) (free : List ℕ) (s t : Shape) (node places : ℕ) (at : DiskLoc) (w : Option (List ℕ)) : Type 0 where
  pub stands : Stands new free t
  pub names : SameNames (ns_in old) (ns_in new)
  pub constants : (k : ℕ) → is_used (ns_in old) k ≡ true → constants_of (details_in (node_at (ns_in new) k)) ≡ constants_of (details_in (node_at (ns_in old) k))
  pub p : Place
  pub spot : spot_in at ≡ Some p
  pub here : live_at t (name_at old node) p ≡ w
  pub elsewhere : (m : List ℕ) (q : Place) → same p q ≡ false → live_at t m q ≡ live_at s m q
  pub foreign : (m : List ℕ) → is_name (name_at old node) m ≡ false → live_at t m p ≡ live_at s m p
  pub room : (r : List ℕ) → w ≡ Some r → IsRoom r
  pub serves : Serves s t (name_at old node) places

module _ (old new : Image) (free : List ℕ) (s t : Shape) (node places : ℕ) (at : DiskLoc) (w : Option (List ℕ)) (h : Holds old free s node) (c : IsOneChange old new free s t node places at w) where
  same_name : name_at new node ≡ name_at old node
  same_name = c.names.names node h.is_node.used

  holds_again : Holds new free t node
  holds_again = record {
    stands = c.stands;
    is_node = record { used = c.names.used node ∙ h.is_node.used; isnt_free = λ e. h.is_node.isnt_free (sym same_name ∙ e) };
    rooms = λ q r e. at_place q r (ap (λ (m : List ℕ). live_at t m q) (sym same_name) ∙ e);
  }
    where
      at_place : (q : Place) (r : List ℕ) → live_at t (name_at old node) q ≡ Some r → IsRoom r
      at_place q r e = elim (cases_Bool (same c.p q)) [
        | inl y ↦ c.room r (sym c.here ∙ ap (live_at t (name_at old node)) (same_is c.p q y) ∙ e)
        | inr n ↦ h.rooms q r (sym (c.elsewhere (name_at old node) q n) ∙ e)
      ]

  keeps_all : Keeps old new s t node places
  keeps_all = record {
    others = λ m q no. elim (cases_Bool (same c.p q)) [
      | inl y ↦ subst (λ (x : Place). live_at t m x ≡ live_at s m x) (same_is c.p q y) (c.foreign m no)
      | inr n ↦ c.elsewhere m q n
    ];
    names = c.names;
    constants = c.constants;
    serves = c.serves;
  }

  pub one_goes : (u : Shape) × (Holds new free u node × Keeps old new s u node places)
  one_goes = (t, (holds_again, keeps_all))

  pub one_step : (q : DiskLoc) → bucket_in new node q ≡ put (bucket_in old node) at (option_map node_in w) q
  one_step q =
      bucket_is new free t node holds_again q ∙ ap (λ (m : List ℕ). shown t m q) same_name
      ∙ one_changed (live_at t (name_at old node)) (live_at s (name_at old node)) c.p w at c.here (λ x n. c.elsewhere (name_at old node) x n) c.spot q
      ∙ ap (λ (z : Option Node). cond (place_eq q at) (option_map node_in w) z) (sym (bucket_is old free s node h q))

-- ---- one after another

serves_on : (s t u : Shape) (name : List ℕ) (m n : ℕ) → Serves s t name m → Serves t u name n → Serves s u name (m + n)
serves_on s t u name m n f g k some b = g k some (f (8208 * n + k) (omega (arith, some)) (shorter s name (8208 * (m + n) + k) (8208 * m + (8208 * n + k)) (omega arith) b))

pub keeps_on : (a b c : Image) (s t u : Shape) (node m n : ℕ) → is_used (ns_in a) node ≡ true → Keeps a b s t node m → Keeps b c t u node n → Keeps a c s u node (m + n)
keeps_on a b c s t u node m n used x y = record {
  others = λ m q no. y.others m q (ap (λ (n : List ℕ). is_name n m) (x.names.names node used) ∙ no) ∙ x.others m q no;
  names = record {
    used = λ k. y.names.used k ∙ x.names.used k;
    names = λ k i. y.names.names k (x.names.used k ∙ i) ∙ x.names.names k i;
  };
  constants = λ k i. y.constants k (x.names.used k ∙ i) ∙ x.constants k i;
  serves = serves_on s t u (name_at a node) m n x.serves (subst (λ (name : List ℕ). Serves t u name n) (x.names.names node used) y.serves);
}

pub goes_on : (a b c : Image) (node m n : ℕ) → Goes a b node m → Goes b c node n → Goes a c node (m + n)
goes_on a b c node m n f g free s h =
    let x = f free s h in
    let y = g free x.0 x.1.0 in
    (y.0, (y.1.0, keeps_on a b c s x.0 y.0 node m n h.is_node.used x.1.1 y.1.1))

-- what takes no block
pub serves_all : (s t : Shape) (name : List ℕ) → ((k : ℕ) → HasBlock s name k → HasBlock t name k) → Serves s t name 0
serves_all s t name f k some b = f k (shorter s name (8208 * 0 + k) k (omega arith) b)

pub goes_back : (a : Image) (node : ℕ) → Goes a a node 0
goes_back a node free s h = (
  s,
  (
    h,
    record {
      others = λ m q no. refl;
      names = record { used = λ k. refl; names = λ k i. refl };
      constants = λ k i. refl;
      serves = serves_all s s (name_at a node) (λ k b. b);
    },
  ),
)

-- where more places are counted
pub serves_more : (s t : Shape) (name : List ℕ) (m n : ℕ) → m ≤ n → Serves s t name m → Serves s t name n
serves_more s t name m n le f k some b = f k some (shorter s name (8208 * n + k) (8208 * m + k) (omega (arith, le)) b)

pub goes_more : (a b : Image) (node m n : ℕ) → m ≤ n → Goes a b node m → Goes a b node n
goes_more a b node m n le f free s h =
    let x = f free s h in (
      x.0,
      (x.1.0, record { others = x.1.1.others; names = x.1.1.names; constants = x.1.1.constants; serves = serves_more s x.0 (name_at a node) m n le x.1.1.serves }),
    )
