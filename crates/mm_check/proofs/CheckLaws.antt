-- What the phases in their order give one another.
use Rattle.std.proofs.Common.{◌≡◌, ℕ, zero, suc, ◌+◌, ◌<◌, ◌≤◌, ◌⊎◌, inl, inr, true, List, [], ◌∷◌, ◌++◌, length, map, All, Option, Some, None, refl, sym, ◌∙◌, ap, subst, arith}
use Rattle.std.specs.Prelude.{◌&&◌, flat_map, slice_index_or}
use Rattle.std.specs.List.{AllByRecursion, range_with_len}
use Rattle.std.proofs.lemmas.List.Elements.{All-from_recursion}
use Rattle.std.proofs.lemmas.Bool.{cases_Bool, false≢true}
use Rattle.mm_base.specs.Places.{null}
use Rattle.mm_ranges.specs.Overlay.{Image, bytes_at}
use Rattle.mm_nstable.specs.Nodes.{is_used, count_of}
use Rattle.mm_nstable.proofs.Tables.{used_parts}
use Rattle.mm_links.specs.Links.{Place, same, has, once}
use Rattle.mm_links.proofs.LinkLaws.{both, either, same_is, same_own, has_here, has_more, once_parts}
use Rattle.mm_records.specs.Constants.{is_name}
use Rattle.mm_records.specs.Stands.{ns_in}
use Rattle.mm_walk.specs.Walk.{Reading, Leads, IsWhole, AreWhole, seen_after}
use Rattle.mm_walk.specs.declared.walk.Link.{Link}
use Rattle.mm_walk.specs.declared.walk.Link.TheVariants.{End}
use Rattle.mm_check.specs.RecordChain.{is_record, names_ofs, rec_at, records_reading}
use Rattle.mm_check.specs.ExtentChain.{ext_at, ext_size, InFile}
use Rattle.mm_check.specs.ListChain.{is_deleted, list_reading}
use Rattle.mm_check.specs.NodeQuestions.{free_name, node_place}
use Rattle.mm_check.specs.Findings.{joined, nodes_in, used_from, name_of, details_at, Owner, owners_of, without_free, owners, record_chains, lists_of, list_chains, Clear7}
use Rattle.mm_check.proofs.RecordLaws.{if_yes, if_no, nat_le_true, record_of_test}
use Rattle.mm_walk.proofs.WalkLaws.{once_left}
use Rattle.mm_base.specs.declared.place.DiskLoc.{DiskLoc}
use Rattle.mm_check.proofs.PhaseBack.{has_either, once_append}
use Rattle.mm_check.proofs.Insides.{has_in, inside_owners}

-- ---- numbers of chains

pub whole_lengths : (seen : List Place) (rs : List Reading) (pss : List (List Place)) → AreWhole seen rs pss → length rs ≡ length pss
whole_lengths seen [] [] a = refl
whole_lengths seen [] (ps ∷ pss) a = absurd a
whole_lengths seen (r ∷ rs) [] a = absurd a
whole_lengths seen (r ∷ rs) (ps ∷ pss) a = ap suc (whole_lengths (ps ++ seen) rs pss a.1)

-- ---- places of whole chains

-- what the chains are that satisfy Q, with a place on one
pub record OnChainOf (rs : List Reading) (Q : Reading → Type 0) (p : Place) : Type 0 where
  pub r : Reading
  pub is : Q r
  pub seen : List Place
  pub ps : List Place
  pub whole : IsWhole r seen ps
  pub on : has ps p ≡ true

pub on_chain_of : (Q : Reading → Type 0) (rs : List Reading) (pss : List (List Place)) (seen : List Place) (p : Place) → AreWhole seen rs pss → AllByRecursion Q rs → has (joined pss) p ≡ true → OnChainOf rs Q p
on_chain_of Q [] [] seen p a all h = absurd (false≢true h)
on_chain_of Q [] (ps ∷ pss) seen p a all h = absurd a
on_chain_of Q (r ∷ rs) [] seen p a all h = absurd a
on_chain_of Q (r ∷ rs) (ps ∷ pss) seen p a all h = elim (has_either ps (joined pss) p h) [
  | inl i ↦ record { r = r; is = all.0; seen = seen; ps = ps; whole = a.0; on = i }
  | inr j ↦ let t = on_chain_of Q rs pss (ps ++ seen) p a.1 all.1 j in record { r = t.r; is = t.is; seen = t.seen; ps = t.ps; whole = t.whole; on = t.on }
]

-- a place of a whole chain was read
pub read_of_leads : (r : Reading) (before : Option Place) (link : Link) (ps : List Place) (p : Place) → Leads r before link ps End → has ps p ≡ true → (o : Option Place) × (next : Link) × (r.read o p ≡ Some next)
read_of_leads r before link [] p l h = absurd (false≢true h)
read_of_leads r before link (x ∷ xs) p l h = elim (either (same x p) (has xs p) h) [
  | inl y ↦ (before, l.1, ap (r.read before) (sym (same_is x p y)) ∙ l.2)
  | inr t ↦ read_of_leads r (Some x) l.1 xs p l.3 t
]

-- the reading takes only places whose header lies in their file
abbrev pub ReadsInside : Image → Reading → Type 0
ReadsInside image r = (o : Option Place) (p : Place) (next : Link) → r.read o p ≡ Some next → p.1 + 16 ≤ length (bytes_at image p.0)

record_inside : (image : Image) (e : Place) → InFile image e → ReadsInside image (records_reading image e (ext_size image e) (ext_at image e).first_record (ext_at image e).last_record)
record_inside image e i o p next h = elim (cases_Bool (is_record image e (ext_size image e) p && names_ofs (rec_at image p).prev_ofs o)) [
  | inl y ↦
      let r = record_of_test image e (ext_size image e) p (both _ _ y).0 in
      let to = r.to in let whole = i.whole in
      subst (λ (f : ℕ). p.1 + 16 ≤ length (bytes_at image f)) (sym r.file) (omega (arith, to, whole))
  | inr n ↦ absurd (let f : None ≡ Some next = sym (if_no _ _ _ n) ∙ h in cc)
]

deleted_inside : (image : Image) (own : List Place) (i : ℕ) (node : Place) (head : DiskLoc) → ReadsInside image (list_reading image own i node head)
deleted_inside image own i node head o p next h = elim (cases_Bool (is_deleted image own i p)) [
  | inl y ↦ nat_le_true (p.1 + 16) (length (bytes_at image p.0)) (both _ _ y).0
  | inr n ↦ absurd (let f : None ≡ Some next = sym (if_no _ _ _ n) ∙ h in cc)
]

records_inside : (image : Image) (es : List Place) → ((p : Place) → has es p ≡ true → InFile image p) → AllByRecursion (ReadsInside image) (map (λ e. records_reading image e (ext_size image e) (ext_at image e).first_record (ext_at image e).last_record) es)
records_inside image [] f = tt
records_inside image (e ∷ es) f = (record_inside image e (f e (has_here e es e (same_own e))), records_inside image es (λ p h. f p (has_more e es p h)))

all_append : (Q : Reading → Type 0) (rs qs : List Reading) → AllByRecursion Q rs → AllByRecursion Q qs → AllByRecursion Q (rs ++ qs)
all_append Q [] qs a b = b
all_append Q (r ∷ rs) qs a b = (a.0, all_append Q rs qs a.1 b)

node_inside : (image : Image) (o : Owner) (is : List ℕ) → AllByRecursion (ReadsInside image) (map (λ i. list_reading image o.extents i (node_place o.node) (slice_index_or (details_at image o.node).deleted i null)) is)
node_inside image o [] = tt
node_inside image o (i ∷ is) = (deleted_inside image o.extents i (node_place o.node) (slice_index_or (details_at image o.node).deleted i null), node_inside image o is)

lists_inside : (image : Image) (os : List Owner) → AllByRecursion (ReadsInside image) (list_chains image os)
lists_inside image [] = tt
lists_inside image (o ∷ os) = all_append (ReadsInside image) (lists_of image o) (list_chains image os) (node_inside image o (range_with_len 0 19)) (lists_inside image os)

inside_of : (image : Image) (rs : List Reading) (pss : List (List Place)) (seen : List Place) → AreWhole seen rs pss → AllByRecursion (ReadsInside image) rs → (p : Place) → has (joined pss) p ≡ true → p.1 + 16 ≤ length (bytes_at image p.0)
inside_of image rs pss seen a all p h =
    let o = on_chain_of (ReadsInside image) rs pss seen p a all h in
    let t = read_of_leads o.r None o.r.head o.ps p o.whole.followed.leads o.on in
    o.is t.0 p t.1 t.2

-- ---- no place twice

pub apart_of : (xs ys : List Place) (p : Place) → once (xs ++ ys) ≡ true → has xs p ≡ true → has ys p ≡ true → ⊥
apart_of [] ys p o h k = false≢true h
apart_of (x ∷ xs) ys p o h k =
    let t = once_parts x (xs ++ ys) o in
    elim (either (same x p) (has xs p) h) [
      | inl y ↦ false≢true (sym t.0 ∙ ap (has (xs ++ ys)) (same_is x p y) ∙ has_in xs ys p (inr k))
      | inr i ↦ apart_of xs ys p t.1 i k
    ]

pub once_right : (xs ys : List Place) → once (xs ++ ys) ≡ true → once ys ≡ true
once_right [] ys o = o
once_right (x ∷ xs) ys o = once_right xs ys (once_parts x (xs ++ ys) o).1

pub joined_fresh : (seen : List Place) (rs : List Reading) (pss : List (List Place)) → AreWhole seen rs pss → (p : Place) → has (joined pss) p ≡ true → has seen p ≡ true → ⊥
joined_fresh seen [] [] a p h k = false≢true h
joined_fresh seen [] (ps ∷ pss) a p h k = absurd a
joined_fresh seen (r ∷ rs) [] a p h k = absurd a
joined_fresh seen (r ∷ rs) (ps ∷ pss) a p h k = elim (has_either ps (joined pss) p h) [
  | inl i ↦ apart_of ps seen p a.0.followed.fresh i k
  | inr j ↦ joined_fresh (ps ++ seen) rs pss a.1 p j (has_in ps seen p (inr k))
]

pub joined_once : (seen : List Place) (rs : List Reading) (pss : List (List Place)) → AreWhole seen rs pss → once (joined pss) ≡ true
joined_once seen [] [] a = refl
joined_once seen [] (ps ∷ pss) a = absurd a
joined_once seen (r ∷ rs) [] a = absurd a
joined_once seen (r ∷ rs) (ps ∷ pss) a =
    once_append ps (joined pss) (once_left ps seen a.0.followed.fresh) (joined_once (ps ++ seen) rs pss a.1)
    (λ p i j. joined_fresh (ps ++ seen) rs pss a.1 p j (has_in ps seen p (inl i)))

seen_has : (seen : List Place) (pss : List (List Place)) (p : Place) → (has seen p ≡ true) ⊎ (has (joined pss) p ≡ true) → has (seen_after seen pss) p ≡ true
seen_has seen [] p (inl i) = i
seen_has seen [] p (inr j) = absurd (false≢true j)
seen_has seen (ps ∷ pss) p (inl i) = seen_has (ps ++ seen) pss p (inl (has_in ps seen p (inr i)))
seen_has seen (ps ∷ pss) p (inr j) = elim (has_either ps (joined pss) p j) [
  | inl i ↦ seen_has (ps ++ seen) pss p (inl (has_in ps seen p (inl i)))
  | inr k ↦ seen_has (ps ++ seen) pss p (inr k)
]

module _ (d : List ℕ) (image : Image) (chains records blocks : List (List Place)) (c : Clear7 d image chains records blocks) where
  -- a record or a deleted block lies with its header in its file
  pub placed_inside : (p : Place) → has (joined records ++ joined blocks) p ≡ true → p.1 + 16 ≤ length (bytes_at image p.0)
  placed_inside p h = elim (has_either (joined records) (joined blocks) p h) [
    | inl i ↦ inside_of image (record_chains image (owners d image chains)) records [] c.before.whole (records_inside image (flat_map (λ o. o.extents) (owners d image chains)) (inside_owners d image chains c.before.before)) p i
    | inr j ↦ inside_of image (list_chains image (owners d image chains)) blocks (seen_after [] records) c.whole (lists_inside image (owners d image chains)) p j
  ]

  -- and none stands twice
  pub placed_once : once (joined records ++ joined blocks) ≡ true
  placed_once =
      once_append (joined records) (joined blocks) (joined_once [] (record_chains image (owners d image chains)) records c.before.whole) (joined_once (seen_after [] records) (list_chains image (owners d image chains)) blocks c.whole)
      (λ p i j. joined_fresh (seen_after [] records) (list_chains image (owners d image chains)) blocks c.whole p j (seen_has [] records p (inr i)))

-- ---- nodes

pub used_below : (bytes : List ℕ) (k n : ℕ) → AllByRecursion (λ j. j < count_of bytes) (used_from bytes k n)
used_below bytes k zero = tt
used_below bytes k (suc n) = elim (cases_Bool (is_used bytes k)) [
  | inl y ↦ subst (AllByRecursion (λ j. j < count_of bytes)) (sym (if_yes (is_used bytes k) (k ∷ used_from bytes (suc k) n) (used_from bytes (suc k) n) y)) ((used_parts bytes k y).there, used_below bytes (suc k) n)
  | inr x ↦ subst (AllByRecursion (λ j. j < count_of bytes)) (sym (if_no (is_used bytes k) (k ∷ used_from bytes (suc k) n) (used_from bytes (suc k) n) x)) (used_below bytes (suc k) n)
]

pub nodes_below : (image : Image) → All (λ k. k < count_of (ns_in image)) (nodes_in image)
unfolding nodes_in
nodes_below image = All-from_recursion (λ k. k < count_of (ns_in image)) (nodes_in image) (used_below (ns_in image) 0 (count_of (ns_in image)))

owned_below : (n : ℕ) (ks : List ℕ) (pss : List (List Place)) → AllByRecursion (λ k. k < n) ks → AllByRecursion (λ (o : Owner). o.node < n) (owners_of ks pss)
owned_below n [] pss a = tt
owned_below n (k ∷ ks) [] a = tt
owned_below n (k ∷ ks) (ps ∷ pss) a = (a.0, owned_below n ks pss a.1)

kept_below : (d : List ℕ) (image : Image) (n : ℕ) (os : List Owner) → AllByRecursion (λ (o : Owner). o.node < n) os → AllByRecursion (λ (o : Owner). o.node < n) (without_free d image os)
kept_below d image n [] a = tt
kept_below d image n (o ∷ os) a = elim (cases_Bool (is_name (name_of image o.node) (free_name d))) [
  | inl y ↦ subst (AllByRecursion (λ (x : Owner). x.node < n)) (sym (if_yes _ (without_free d image os) (o ∷ without_free d image os) y)) (kept_below d image n os a.1)
  | inr m ↦ subst (AllByRecursion (λ (x : Owner). x.node < n)) (sym (if_no _ (without_free d image os) (o ∷ without_free d image os) m)) (a.0, kept_below d image n os a.1)
]

pub owners_below : (d : List ℕ) (image : Image) (chains : List (List Place)) → AllByRecursion (λ (o : Owner). o.node < count_of (ns_in image)) (owners d image chains)
unfolding nodes_in
owners_below d image chains = kept_below d image (count_of (ns_in image)) (owners_of (nodes_in image) chains) (owned_below (count_of (ns_in image)) (nodes_in image) chains (used_below (ns_in image) 0 (count_of (ns_in image))))

-- what holds of the values of a list holds of the list
all_values : {X Y : Type 0} (P : Y → Type 0) (f : X → Y) (xs : List X) → AllByRecursion P (map f xs) → AllByRecursion (λ x. P (f x)) xs
all_values P f [] a = tt
all_values P f (x ∷ xs) a = (a.0, all_values P f xs a.1)

pub all_mapped : {X Y : Type 0} (P : Y → Type 0) (f : X → Y) (xs : List X) (ys : List Y) → map f xs ≡ ys → AllByRecursion P ys → All (λ x. P (f x)) xs
all_mapped P f xs ys e a = All-from_recursion (λ x. P (f x)) xs (all_values P f xs (subst (AllByRecursion P) (sym e) a))
