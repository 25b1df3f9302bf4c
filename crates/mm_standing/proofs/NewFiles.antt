-- The files of a new database.
use Rattle.std.proofs.Common.{◌≡◌, ℕ, ◌⊎◌, inl, inr, Bool, true, false, cond, List, Some, None, refl, sym, ◌∙◌, ap}
use Rattle.std.specs.Prelude.{◌||◌, if◌then◌else◌}
use Rattle.std.specs.FinMap.{get, insert, empty, get-insert, get-empty}
use Rattle.std.specs.Ordering.{nat_cmp}
use Rattle.std.specs.Cmp.Lexicographic.{slice_cmp, nat_list_cmp_total}
use Rattle.std.proofs.lemmas.Bool.{cases_Bool, false≢true}
use Rattle.mm_links.specs.Links.{Place}
use Rattle.mm_nstable.specs.Nodes.{is_used, node_at, name_in, IsTable}
use Rattle.mm_nstable.specs.Table.{Held, table_of}
use Rattle.mm_nstable.proofs.Tables.{absent_used}
use Rattle.mm_records.specs.Constants.{is_name}
use Rattle.mm_records.specs.Shape.{Shape}
use Rattle.mm_records.specs.Stands.{ns_in}
use Rattle.mm_records.specs.Map.{owner, live_room, extent_of, live_at, name_at}
use Rattle.mm_records.proofs.Freed.{name_is, name_own}
use Rattle.mm_model.specs.Database.{Collection}
use Rattle.mm_namespaces.specs.Fresh.{HasNothing}
use Rattle.mm_check.specs.NodeQuestions.{free_name, indexes_name, is_own, has_form, NamesNode, NodesStand}
use Rattle.mm_check.proofs.RecordLaws.{nat_le_of, nat_lt_of, and_of}
use Rattle.mm_check.proofs.FreeNames.{is_held}
use Rattle.mm_standing.specs.Database.{IsNodeName}
use Rattle.mm_standing.specs.Laws.{NewFilesStand}

none_there : {A B : Type 0} (x : A) → None ≡ Some x → B
none_there x e = absurd cc

-- ---- names in a table of two

module _ (d bytes : List ℕ) (t : IsTable bytes) (a b : Held) (e : table_of bytes ≡ insert (insert empty (free_name d) a) (indexes_name d) b) where
  found : (m : List ℕ) → get (table_of bytes) m ≡ cond (is_name m (indexes_name d)) (Some b) (cond (is_name m (free_name d)) (Some a) None)
  found m =
      ap (λ t. get t m) e ∙ get-insert nat_list_cmp_total (insert empty (free_name d) a) (indexes_name d) b m
      ∙ ap (λ o. cond (is_name m (indexes_name d)) (Some b) o) (get-insert nat_list_cmp_total empty (free_name d) a m
      ∙ ap (λ o. cond (is_name m (free_name d)) (Some a) o) (get-empty (slice_cmp nat_cmp) m))

  found_by : (m : List ℕ) (x y : Bool) → is_name m (indexes_name d) ≡ x → is_name m (free_name d) ≡ y → get (table_of bytes) m ≡ cond x (Some b) (cond y (Some a) None)
  found_by m x y p q = found m ∙ (λ i. cond (p i) (Some b) (cond (q i) (Some a) None))

  -- a used node has one of the two names
  pub one_of_two : (k : ℕ) → is_used bytes k ≡ true → (name_in (node_at bytes k) ≡ free_name d) ⊎ (name_in (node_at bytes k) ≡ indexes_name d)
  one_of_two k u = elim (cases_Bool (is_name (name_in (node_at bytes k)) (indexes_name d))) [
    | inl y ↦ inr (name_is (name_in (node_at bytes k)) (indexes_name d) y)
    | inr n ↦ elim (cases_Bool (is_name (name_in (node_at bytes k)) (free_name d))) [
      | inl y ↦ inl (name_is (name_in (node_at bytes k)) (free_name d) y)
      | inr z ↦ absurd (absent_used bytes k (name_in (node_at bytes k)) t (found_by (name_in (node_at bytes k)) false false n z) u refl)
    ]
  ]

  pub indexes_there : get (table_of bytes) (indexes_name d) ≡ Some b
  indexes_there = found (indexes_name d) ∙ ap (λ (x : Bool). cond x (Some b) (cond (is_name (indexes_name d) (free_name d)) (Some a) None)) (name_own (indexes_name d) (indexes_name d) refl)

  -- each of the two is of the form
  first_of : (x y z : Bool) → x ≡ true → (x || (y || z)) ≡ true
  first_of true y z h = refl
  first_of false y z h = absurd (false≢true h)

  second_of : (x y z : Bool) → y ≡ true → (x || (y || z)) ≡ true
  second_of true y z h = refl
  second_of false true z h = refl
  second_of false false z h = absurd (false≢true h)

  is_of_two : (m : List ℕ) → (m ≡ free_name d) ⊎ (m ≡ indexes_name d) → (is_name m (free_name d) || (is_name m (indexes_name d) || is_own d m)) ≡ true
  is_of_two m (inl p) = first_of (is_name m (free_name d)) (is_name m (indexes_name d)) (is_own d m) (name_own m (free_name d) p)
  is_of_two m (inr p) = second_of (is_name m (free_name d)) (is_name m (indexes_name d)) (is_own d m) (name_own m (indexes_name d) p)

  pub form : (k : ℕ) → is_used bytes k ≡ true → has_form d (name_in (node_at bytes k)) ≡ true
  unfolding has_form
  form k u =
      let name = (t.named k u).name in
      and_of _ _ (nat_lt_of 0 _ name.some) (and_of _ _ (nat_le_of _ 120 name.short) (is_of_two (name_in (node_at bytes k)) (one_of_two k u)))

  named_there : (m : List ℕ) (held : Held) → get (table_of bytes) m ≡ Some held → NamesNode bytes m
  named_there m held g = let h = is_held bytes m held t g in record { node = h.k; used = h.used; named = h.named }

  pub two_nodes_stand : (held : Held) → get (table_of bytes) (free_name d) ≡ Some held → NodesStand d bytes
  two_nodes_stand held g = record { table = t; forms = form; free = named_there (free_name d) held g; indexes = named_there (indexes_name d) b indexes_there }

-- ---- no collection, no record

no_collection : {B : Type 0} (coll : List ℕ) (c : Collection) → get {R = slice_cmp nat_cmp} empty coll ≡ Some c → B
no_collection coll c e = none_there c (sym (get-empty (slice_cmp nat_cmp) coll) ∙ e)

none_live : (x : Bool) → (if x then live_room None else None) ≡ None
none_live true = refl
none_live false = refl

no_record : (s : Shape) → HasNothing s → (name : List ℕ) (p : Place) → live_at s name p ≡ None
no_record s n name p =
    ap (λ o. if is_name (owner (s.heap (extent_of p o))) name then live_room o else None) (n.heap p) ∙ none_live (is_name (owner (s.heap p)) name)

node_name : (d name : List ℕ) → (name ≡ free_name d) ⊎ (name ≡ indexes_name d) → IsNodeName d empty name
node_name d name (inl e) = inl e
node_name d name (inr e) = inr (inl e)

pub new_files_stand : NewFilesStand
new_files_stand d image (s, (st, n)) a b e = record {
  shape = s;
  points = record { nodes = two_nodes_stand d (ns_in image) st.table a b e st.free_chain.0 st.free_chain.1.node.is; stands = st };
  is_database = λ coll c g. no_collection coll c g;
  collections = λ coll c g. no_collection coll c g;
  nodes = λ k u. node_name d (name_at image k) (one_of_two d (ns_in image) st.table a b e k u);
  records = λ p room g. none_there room (sym (no_record s n (indexes_name d) p) ∙ g);
}
