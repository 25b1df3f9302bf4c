-- A database has as many used nodes as names.
use Rattle.std.proofs.Common.{◌≡◌, ℕ, ◌+◌, ◌<◌, inl, inr, Bool, true, false, cond, List, [], ◌∷◌, length, map, Option, Some, sym, ◌∙◌, ap, subst, arith}
use Rattle.std.specs.Prelude.{◌&&◌, T, count_by, slice_index_or}
use Rattle.std.specs.declared.cmp.Ordering.{Ordering}
use Rattle.std.specs.declared.cmp.Ordering.TheVariants.{Less, Equal, Greater}
use Rattle.std.specs.Ordering.{nat_cmp, is_lt, is_eq}
use Rattle.std.specs.Cmp.Lexicographic.{slice_cmp}
use Rattle.std.specs.FinMap.{get, entries, entries_sorted, get-entries, find}
use Rattle.std.specs.FinMap.Entries.{below_all, is_sorted}
use Rattle.std.proofs.lemmas.Bool.{cases_Bool, false≢true}
use Rattle.mm_ranges.specs.Overlay.{Image}
use Rattle.mm_nstable.specs.Nodes.{is_used, is_free, node_at, name_in, nodes_of, count_of}
use Rattle.mm_nstable.proofs.Entries.{HasName}
use Rattle.mm_nstable.proofs.Stored.{length-nodes_of}
use Rattle.mm_nstable.proofs.Tables.{has_name, is_used_of, name_of}
use Rattle.mm_records.specs.Constants.{is_name}
use Rattle.mm_records.specs.Stands.{ns_in}
use Rattle.mm_records.specs.Map.{name_at}
use Rattle.mm_records.proofs.Freed.{name_is, name_own}
use Rattle.mm_check.specs.NodeQuestions.{free_name, indexes_name, has_form, NamesNode}
use Rattle.mm_model.specs.Database.{Index, Collection, Database, id_index, nodes_in}
use Rattle.mm_model.specs.Keyed.{namespace, full_name}
use Rattle.mm_standing.specs.Indexes.{IsNodeOf}
use Rattle.mm_standing.specs.Database.{index_at, IsNodeName, HasDatabase}
use Rattle.mm_standing.specs.Laws.{NodesAreCounted}
use Rattle.mm_standing.proofs.NameLists.{In, in_at, at_in, in_map, map_in, as_long}
use Rattle.mm_standing.proofs.UsedNames.{names_of, names_count, names_there, there_names, names_differ}
use Rattle.mm_standing.proofs.OwnNames.{Entry, names_for, all_names, own_count, own_in, in_own, IsWell, Apart, all_differ}
use Rattle.mm_standing.proofs.CollForms.{plain_name}

-- ---- the entries of a database

-- a name isn't below itself
not_below : (x y : List ℕ) → x ≡ y → T (is_lt (slice_cmp nat_cmp x y)) → ⊥
not_below x y e t = by (slice_cmp nat_cmp x y) (name_own x y e) t
  where
    by : (o : Ordering) → is_eq o ≡ true → T (is_lt o) → ⊥
    by Less h t = false≢true h
    by Equal h t = t
    by Greater h t = t

first_of : (a b : Bool) → T (a && b) → T a
first_of true b t = tt
first_of false b t = t

second_of : (a b : Bool) → T (a && b) → T b
second_of true b t = t
second_of false b t = absurd t

below_none : (x : List ℕ) (es : List Entry) (c : Collection) → T (below_all (slice_cmp nat_cmp) x es) → In (x, c) es → ⊥
below_none x [] c t i = i
below_none x (e ∷ es) c t (inl s) = not_below x e.0 (ap (λ (y : Entry). y.0) s) (first_of (is_lt (slice_cmp nat_cmp x e.0)) (below_all (slice_cmp nat_cmp) x es) t)
below_none x (e ∷ es) c t (inr i) = below_none x es c (second_of (is_lt (slice_cmp nat_cmp x e.0)) (below_all (slice_cmp nat_cmp) x es) t) i

sorted_apart : (es : List Entry) → T (is_sorted (slice_cmp nat_cmp) es) → Apart es
sorted_apart [] t = tt
sorted_apart (e ∷ es) t = (
  λ c i. below_none e.0 es c (first_of (below_all (slice_cmp nat_cmp) e.0 es) (is_sorted (slice_cmp nat_cmp) es) t) i,
  sorted_apart es (second_of (below_all (slice_cmp nat_cmp) e.0 es) (is_sorted (slice_cmp nat_cmp) es) t),
)

abbrev value_at : List Entry → List ℕ → Option Collection
value_at es coll = find (slice_cmp nat_cmp) coll es

found_here : (e : Entry) (es : List Entry) (coll : List ℕ) → is_name coll e.0 ≡ true → value_at (e ∷ es) coll ≡ Some e.1
found_here e es coll y = ap (λ (b : Bool). cond b (Some e.1) (value_at es coll)) y

found_later : (e : Entry) (es : List Entry) (coll : List ℕ) → is_name coll e.0 ≡ false → value_at (e ∷ es) coll ≡ value_at es coll
found_later e es coll n = ap (λ (b : Bool). cond b (Some e.1) (value_at es coll)) n

in_found : (es : List Entry) → Apart es → (coll : List ℕ) (c : Collection) → In (coll, c) es → value_at es coll ≡ Some c
in_found [] a coll c i = absurd i
in_found (e ∷ es) a coll c (inl s) = found_here e es coll (name_own coll e.0 (ap (λ (y : Entry). y.0) s)) ∙ ap (λ (y : Entry). Some y.1) (sym s)
in_found (e ∷ es) a coll c (inr i) = elim (cases_Bool (is_name coll e.0)) [
  | inl y ↦ absurd (a.0 c (subst (λ (k : List ℕ). In (k, c) es) (name_is coll e.0 y) i))
  | inr n ↦ found_later e es coll n ∙ in_found es a.1 coll c i
]

one_of : (x y : Collection) → Some x ≡ Some y → x ≡ y
one_of x y e = cc

found_in : (es : List Entry) (coll : List ℕ) (c : Collection) → value_at es coll ≡ Some c → In (coll, c) es
found_in [] coll c e = absurd cc
found_in (x ∷ es) coll c e = elim (cases_Bool (is_name coll x.0)) [
  | inl y ↦
      let k : coll ≡ x.0 = name_is coll x.0 y in
      let v : c ≡ x.1 = sym (one_of x.1 c (sym (found_here x es coll y) ∙ e)) in
      inl (λ i. (k i, v i))
  | inr n ↦ inr (found_in es coll c (sym (found_later x es coll n) ∙ e))
]

-- ---- the names of a database and those of its used nodes

module _ (d : List ℕ) (image : Image) (db : Database) (h : HasDatabase d image db) where
  abbrev bytes : List ℕ
  bytes = ns_in image

  abbrev used_names : List (List ℕ)
  used_names = names_of (nodes_of bytes)

  abbrev names : List (List ℕ)
  names = all_names d (entries db)

  apart : Apart (entries db)
  apart = sorted_apart (entries db) (entries_sorted db)

  there : (coll : List ℕ) (c : Collection) → In (coll, c) (entries db) → get db coll ≡ Some c
  there coll c i = get-entries db coll ∙ in_found (entries db) apart coll c i

  entry : (coll : List ℕ) (c : Collection) → get db coll ≡ Some c → In (coll, c) (entries db)
  entry coll c e = found_in (entries db) coll c (sym (get-entries db coll) ∙ e)

  used_there : (k : ℕ) (m : List ℕ) → is_used bytes k ≡ true → name_in (node_at bytes k) ≡ m → In m used_names
  used_there k m u n = there_names (nodes_of bytes) k m (has_name bytes k m u n)

  node_there : (m : List ℕ) (k : ℕ) → IsNodeOf image k m → In m used_names
  node_there m k n = used_there k m n.used n.named

  setup_there : (m : List ℕ) → NamesNode bytes m → In m used_names
  setup_there m n = used_there n.node m n.used n.named

  used_differ : (i j : ℕ) (m : List ℕ) → HasName (nodes_of bytes) i m → HasName (nodes_of bytes) j m → i ≡ j
  used_differ i j m a b = h.points.nodes.table.apart i j (is_used_of bytes i m a) (is_used_of bytes j m b) (name_of bytes i m a ∙ sym (name_of bytes j m b))

  -- a name of the database has its node
  coll_there : (coll : List ℕ) (c : Collection) → get db coll ≡ Some c → (m : List ℕ) → In m (names_for d coll c) → In m used_names
  coll_there coll c g m (inl e) = let hc = h.collections coll c g in node_there m hc.node (subst (IsNodeOf image hc.node) (sym e) hc.is_node)
  coll_there coll c g m (inr i) =
      let hc = h.collections coll c g in
      let t = in_map (full_name (namespace d coll)) c.indexes m i in
      let p = at_in t.0 c.indexes id_index t.1 in
      let x = hc.indexes p.0 p.1 in
      let same : full_name (namespace d coll) (index_at c p.0) ≡ m = ap (λ (y : Index). full_name (namespace d coll) y) p.2 ∙ sym t.2 in
      node_there m x.node (subst (IsNodeOf image x.node) same x.is_node)

  name_there : (m : List ℕ) → In m names → In m used_names
  name_there m (inl e) = subst (λ (x : List ℕ). In x used_names) (sym e) (setup_there (free_name d) h.points.nodes.free)
  name_there m (inr (inl e)) = subst (λ (x : List ℕ). In x used_names) (sym e) (setup_there (indexes_name d) h.points.nodes.indexes)
  name_there m (inr (inr i)) = let t = own_in d (entries db) m i in coll_there t.0.0 t.0.1 (there t.0.0 t.0.1 t.1) m t.2

  -- a used node has a name of the database
  node_name : (m : List ℕ) → IsNodeName d db m → In m names
  node_name m (inl e) = inl e
  node_name m (inr (inl e)) = inr (inl e)
  node_name m (inr (inr (coll, c, g, inl e))) = inr (inr (in_own d (entries db) m (coll, c) (entry coll c g) (inl e)))
  node_name m (inr (inr (coll, c, g, inr (i, lt, e)))) =
      inr (inr (in_own d (entries db) m (coll, c) (entry coll c g)
      (inr (subst (λ (x : List ℕ). In x (map (full_name (namespace d coll)) c.indexes)) (sym e) (map_in (full_name (namespace d coll)) c.indexes (index_at c i) (in_at c.indexes i id_index lt))))))

  used_name : (m : List ℕ) → In m used_names → In m names
  used_name m i =
      let t = names_there (nodes_of bytes) m i in
      subst (λ (x : List ℕ). In x names) (name_of bytes t.0 m t.1) (node_name (name_at image t.0) (h.nodes t.0 (is_used_of bytes t.0 m t.1)))

  -- ---- the names differ

  id_form : (coll : List ℕ) (c : Collection) → get db coll ≡ Some c → has_form d (full_name (namespace d coll) id_index) ≡ true
  id_form coll c g =
      let w = h.is_database coll c g in
      let hc = h.collections coll c g in
      let lt : 0 < length c.indexes = subst (λ (is : List Index). 0 < length is) (sym w.first) (omega arith) in
      let x = hc.indexes 0 lt in
      let first : index_at c 0 ≡ id_index = ap (λ (is : List Index). slice_index_or is 0 id_index) w.first in
      subst (λ (n : List ℕ). has_form d n ≡ true) (x.is_node.named ∙ ap (λ (y : Index). full_name (namespace d coll) y) first) (h.points.nodes.forms x.node x.is_node.used)

  well : (e : Entry) → In e (entries db) → IsWell e
  well e i =
      let g = there e.0 e.1 i in
      let p = plain_name d e.0 (id_form e.0 e.1 g) in
      record { no_dollar = p.0; not_system = p.1; named = (h.is_database e.0 e.1 g).named }

  -- ---- the count

  pub counted : nodes_in db + count_by is_free (nodes_of bytes) ≡ count_of bytes
  counted =
      let same = as_long used_names names (names_differ (nodes_of bytes) used_differ) (all_differ d (entries db) apart well) used_name name_there in
      let own = own_count d (entries db) in
      let parts = names_count (nodes_of bytes) in
      let all = length-nodes_of bytes in
      omega (arith, same, own, parts, all)

pub nodes_are_counted : NodesAreCounted
nodes_are_counted d image db h = counted d image db h
