-- What the calls make of the map.
use Rattle.std.proofs.Common.{◌≡◌, ◌≢◌, ℕ, zero, suc, ◌+◌, ◌-◌, ◌%◌, ◌<◌, ◌≤◌, ◌⊎◌, inl, inr, Bool, true, false, cond, List, [], length, get_or, take, Option, Some, None, refl, sym, ◌∙◌, ap, subst, arith}
use Rattle.std.proofs.lemmas.Bool.{cases_Bool, cases_lt, false≢true, eqb-true, eq-eqb, lt-ltb}
use Rattle.std.proofs.lemmas.Bool.Decides.{nat_tests}
use Rattle.std.proofs.Math.Nat.{mod-eq_of_lt, mod-lt, add-mod_right}
use Rattle.std.specs.Prelude.{◌==◌, ◌&&◌, not, nat_lt, count_by, IfSome, IfNone}
use Rattle.std.specs.List.{prefix_len}
use Rattle.std.proofs.lemmas.List.{take_all}
use Rattle.std.proofs.lemmas.List.Sums.{get_or-le-sum_by, count_by_more_no}
use Rattle.std.specs.Option.{option_map}
use Rattle.std.specs.FinMap.{get, insert, remove, get-from_entries, get-insert, get-remove, same_map, slice_cmp-IsAntisymmetric, nat_cmp-IsAntisymmetric}
use Rattle.std.specs.Cmp.Lexicographic.{nat_list_cmp_total}
use Rattle.mm_base.specs.Bytes.{padded, zeros}
use Rattle.mm_base.specs.Names.{IsName}
use Rattle.mm_base.proofs.NameLaws.{length_found, front_is, length-padded}
use Rattle.mm_frames.specs.declared.node_head.NodeHead.{NodeHead}
use Rattle.mm_frames.specs.declared.details.Details.{Details}
use Rattle.mm_frames.specs.Texts.{text_in}
use Rattle.mm_nstable.specs.Hash.{hash_of}
use Rattle.mm_nstable.specs.Nodes.{count_of, node_at, nodes_of, head_in, name_in, details_in, is_free, is_used, IsNamed, IsTable, AreFreeZeros, SameNames}
use Rattle.mm_nstable.specs.Table.{Held, entries_from, entries_of, table_of, probe}
use Rattle.mm_nstable.proofs.Numbers.{hash_some}
use Rattle.mm_nstable.proofs.Stored.{length-nodes_of, nodes_at, IsStored, nodes_stored}
use Rattle.mm_nstable.proofs.Entries.{is_name, held_at, found, HasName, OnlyAt, found_none, found_at, found_put, found_cleared}

-- ---- names and fields

-- what stands in a padded field
pub text_is : (field name : List ℕ) → IsName name → field ≡ padded (length field) name → text_in field ≡ name
unfolding text_in
text_is field name is e = front_is field name (prefix_len (λ b. not (b == 0)) field) (length_found field name is e) e

pub text-padded : (field name : List ℕ) → IsName name → field ≡ padded 128 name → text_in field ≡ name
text-padded field name is e =
    let short = is.short in
    let len : length field ≡ 128 = ap length e ∙ length-padded 128 name (omega (arith, short)) in
    text_is field name is (e ∙ ap (λ (n : ℕ). padded n name) (sym len))

-- ---- used nodes

pub record Used (bytes : List ℕ) (k : ℕ) : Type 0 where
  pub there : k < count_of bytes
  pub used : is_free (node_at bytes k) ≡ false

used_tests : (k c : ℕ) (f : Bool) → (nat_lt k c && not f) ≡ true → (k < c) × (f ≡ false)
used_tests k c true h = absurd (both k c h)
  where
    both : (k c : ℕ) → (nat_lt k c && false) ≡ true → ⊥
    both k c h = by_test (nat_lt k c) h
      where
        by_test : (t : Bool) → (t && false) ≡ true → ⊥
        by_test true e = false≢true e
        by_test false e = false≢true e
used_tests k c false h = (grind (arith, nat_tests), refl)

pub used_parts : (bytes : List ℕ) (k : ℕ) → is_used bytes k ≡ true → Used bytes k
used_parts bytes k h = let both = used_tests k (count_of bytes) (is_free (node_at bytes k)) h in record { there = both.0; used = both.1 }

pub used_from : (bytes : List ℕ) (k : ℕ) → k < count_of bytes → is_free (node_at bytes k) ≡ false → is_used bytes k ≡ true
used_from bytes k lt used = ap (λ (b : Bool). nat_lt k (count_of bytes) && not b) used ∙ ap (λ (b : Bool). b && true) (lt-ltb k (count_of bytes) lt)

pub has_name : (bytes : List ℕ) (k : ℕ) (m : List ℕ) → is_used bytes k ≡ true → name_in (node_at bytes k) ≡ m → HasName (nodes_of bytes) k m
has_name bytes k m used named =
    let parts = used_parts bytes k used in
    record {
      there = let lt = parts.there in let len = length-nodes_of bytes in omega (arith, lt, len);
      used = ap (λ (n : List ℕ). is_free n) (nodes_at bytes k parts.there) ∙ parts.used;
      named = ap (λ (n : List ℕ). name_in n) (nodes_at bytes k parts.there) ∙ named;
    }

there_in : (bytes : List ℕ) (k : ℕ) (m : List ℕ) → HasName (nodes_of bytes) k m → k < count_of bytes
there_in bytes k m h = let lt = h.there in let len = length-nodes_of bytes in omega (arith, lt, len)

pub is_used_of : (bytes : List ℕ) (k : ℕ) (m : List ℕ) → HasName (nodes_of bytes) k m → is_used bytes k ≡ true
is_used_of bytes k m h = let lt = there_in bytes k m h in used_from bytes k lt (ap (λ (n : List ℕ). is_free n) (sym (nodes_at bytes k lt)) ∙ h.used)

pub name_of : (bytes : List ℕ) (k : ℕ) (m : List ℕ) → HasName (nodes_of bytes) k m → name_in (node_at bytes k) ≡ m
name_of bytes k m h = let lt = there_in bytes k m h in ap (λ (n : List ℕ). name_in n) (sym (nodes_at bytes k lt)) ∙ h.named

pub only_at : (bytes : List ℕ) (j : ℕ) (m : List ℕ) → IsTable bytes → is_used bytes j ≡ true → name_in (node_at bytes j) ≡ m → OnlyAt (nodes_of bytes) j m
only_at bytes j m t used named i h = t.apart i j (is_used_of bytes i m h) used (name_of bytes i m h ∙ sym named)

-- ---- the map at a name

get-table : (bytes q : List ℕ) → get (table_of bytes) q ≡ found q (entries_from 0 (nodes_of bytes))
unfolding table_of entries_of
get-table bytes q = get-from_entries nat_list_cmp_total (entries_from 0 (nodes_of bytes)) q

pub table_at : (bytes : List ℕ) (k : ℕ) (q : List ℕ) → IsTable bytes → is_used bytes k ≡ true → name_in (node_at bytes k) ≡ q → get (table_of bytes) q ≡ Some (record { node = k; details = details_in (node_at bytes k) })
table_at bytes k q t used named =
    let zero_add : 0 + k ≡ k = omega arith in
    let at = nodes_at bytes k (used_parts bytes k used).there in
    get-table bytes q ∙ found_at q 0 (nodes_of bytes) k (has_name bytes k q used named) (only_at bytes k q t used named)
    ∙ (λ i. Some (record { node = zero_add i; details = details_in (at i) }))

abbrev pub held_with : ℕ → Details → Option Held
held_with k d = Some (record { node = k; details = d })

pub details_given : (bytes : List ℕ) (k : ℕ) (r : Details) → r ≡ details_in (node_at bytes k) → IsTable bytes → is_used bytes k ≡ true → get (table_of bytes) (name_in (node_at bytes k)) ≡ Some (record { node = k; details = r })
details_given bytes k r e t used = table_at bytes k (name_in (node_at bytes k)) t used refl ∙ ap (λ (d : Details). held_with k d) (sym e)

pub table_none : (bytes q : List ℕ) → ((k : ℕ) → is_used bytes k ≡ true → name_in (node_at bytes k) ≡ q → ⊥) → get (table_of bytes) q ≡ None
table_none bytes q none = get-table bytes q ∙ found_none q 0 (nodes_of bytes) (λ i h. none i (is_used_of bytes i q h) (name_of bytes i q h))

pub absent_used : (bytes : List ℕ) (k : ℕ) (q : List ℕ) → IsTable bytes → get (table_of bytes) q ≡ None → is_used bytes k ≡ true → name_in (node_at bytes k) ≡ q → ⊥
absent_used bytes k q t none used named = some_none (record { node = k; details = details_in (node_at bytes k) }) (sym (table_at bytes k q t used named) ∙ none)
  where
    some_none : (h : Held) → Some h ≡ None → ⊥
    some_none h e = cc

-- ---- the search

-- a search looks at every node
pub reaches : (c s k : ℕ) → s < c → k < c → (i : ℕ) × (i < c) × ((s + i) % c ≡ k)
reaches c s k s_lt k_lt = elim (cases_lt k s) [
  | inr up ↦ (k - s, omega arith, ap (λ (n : ℕ). n % c) (omega arith) ∙ mod-eq_of_lt k_lt)
  | inl below ↦ (k + c - s, omega arith, ap (λ (n : ℕ). n % c) (omega arith) ∙ add-mod_right k c ∙ mod-eq_of_lt k_lt)
]

pub not_free : (h g : ℕ) → h ≡ g → 0 < g → (h == 0) ≡ false
not_free h g e some = grind (arith, nat_tests)

pub found_is : (bytes name : List ℕ) (r : Option ℕ) → IsTable bytes → IsName name
    → IfSome r (λ node. (node < count_of bytes) × ((head_in (node_at bytes node)).hash ≡ hash_of name) × ((head_in (node_at bytes node)).name ≡ padded 128 name))
    → IfNone r ((i : ℕ) → i < count_of bytes → (head_in (node_at bytes (probe (count_of bytes) name i))).hash ≡ hash_of name → (head_in (node_at bytes (probe (count_of bytes) name i))).name ≡ padded 128 name → ⊥)
    → r ≡ option_map (λ held. held.node) (get (table_of bytes) name)
found_is bytes name (Some k) t is some none =
    let used = used_from bytes k some.0 (not_free (head_in (node_at bytes k)).hash (hash_of name) some.1 (hash_some name)) in
    let named : name_in (node_at bytes k) ≡ name = text-padded (head_in (node_at bytes k)).name name is some.2 in
    sym (ap (option_map (λ (held : Held). held.node)) (table_at bytes k name t used named))
found_is bytes name None t is some none =
    sym (ap (option_map (λ (held : Held). held.node)) (table_none bytes name (λ k used named.
    let there = (used_parts bytes k used).there in
    let spelled = t.named k used in
    let positive : 0 < count_of bytes = omega (arith, there) in
    let at = reaches (count_of bytes) (hash_of name % count_of bytes) k (mod-lt (hash_of name) positive) there in
    let here : probe (count_of bytes) name at.0 ≡ k = at.2 in
    none at.0 at.1
    (ap (λ (n : ℕ). (head_in (node_at bytes n)).hash) here ∙ spelled.hash ∙ ap hash_of named)
    (ap (λ (n : ℕ). (head_in (node_at bytes n)).name) here ∙ spelled.field ∙ ap (padded 128) named))))

-- a node with the name's hash and field is used, and has the name
pub found_used : (bytes name : List ℕ) (r : Option ℕ)
    → IfSome r (λ node. (node < count_of bytes) × ((head_in (node_at bytes node)).hash ≡ hash_of name) × ((head_in (node_at bytes node)).name ≡ padded 128 name))
    → IfSome r (λ node. is_used bytes node ≡ true)
found_used bytes name (Some k) some = used_from bytes k some.0 (not_free (head_in (node_at bytes k)).hash (hash_of name) some.1 (hash_some name))
found_used bytes name None some = tt

pub found_named : (bytes name : List ℕ) (r : Option ℕ) → IsName name
    → IfSome r (λ node. (node < count_of bytes) × ((head_in (node_at bytes node)).hash ≡ hash_of name) × ((head_in (node_at bytes node)).name ≡ padded 128 name))
    → IfSome r (λ node. name_in (node_at bytes node) ≡ name)
found_named bytes name (Some k) is some = text-padded (head_in (node_at bytes k)).name name is some.2
found_named bytes name None is some = tt

-- ---- names as they are listed

-- what a field holds that is read as a name
pub name_read : (node : List ℕ) (head : NodeHead) (r : Option (List ℕ)) → head ≡ head_in node → is_free node ≡ false → IfSome r (λ name. IsName name × (head.name ≡ padded (length head.name) name)) → IfSome r (λ name. (is_free node ≡ false) × (name ≡ name_in node))
name_read node head (Some name) e used some = (used, sym (text_is head.name name some.0 some.1) ∙ ap (λ (h : NodeHead). text_in h.name) e)
name_read node head None e used some = tt

-- ---- a node is written

pub table_put : (bytes new : List ℕ) (j : ℕ) (n' m : List ℕ) → IsStored bytes new j n' → is_free n' ≡ false → name_in n' ≡ m → (is_free (node_at bytes j) ≡ true) ⊎ (name_in (node_at bytes j) ≡ m) → OnlyAt (nodes_of bytes) j m
    → table_of new ≡ insert (table_of bytes) m (record { node = j; details = details_in n' })
table_put bytes new j n' m h used named was only =
    let lt = h.there in
    let len = length-nodes_of bytes in
    let at = nodes_at bytes j lt in
    let zero_add : 0 + j ≡ j = omega arith in
    let was' : (is_free (get_or (nodes_of bytes) j []) ≡ true) ⊎ (name_in (get_or (nodes_of bytes) j []) ≡ m) = elim was [
      | inl free ↦ inl (ap (λ (n : List ℕ). is_free n) at ∙ free)
      | inr same ↦ inr (ap (λ (n : List ℕ). name_in n) at ∙ same)
    ] in
    same_map nat_list_cmp_total (slice_cmp-IsAntisymmetric nat_cmp-IsAntisymmetric) (table_of new) (insert (table_of bytes) m (record { node = j; details = details_in n' })) (λ q.
    get-table new q ∙ ap (λ (ns : List (List ℕ)). found q (entries_from 0 ns)) (nodes_stored bytes new j n' h)
    ∙ found_put q m 0 (nodes_of bytes) j n' (omega (arith, lt, len)) used named was' only
    ∙ ap (λ (i : ℕ). cond (is_name q m) (held_at i n') (found q (entries_from 0 (nodes_of bytes)))) zero_add
    ∙ ap (cond (is_name q m) (held_at j n')) (sym (get-table bytes q))
    ∙ sym (get-insert nat_list_cmp_total (table_of bytes) m (record { node = j; details = details_in n' }) q))

pub table_cleared : (bytes new : List ℕ) (j : ℕ) (n' m : List ℕ) → IsStored bytes new j n' → is_free n' ≡ true → HasName (nodes_of bytes) j m → OnlyAt (nodes_of bytes) j m → table_of new ≡ remove (table_of bytes) m
table_cleared bytes new j n' m h free has only =
    same_map nat_list_cmp_total (slice_cmp-IsAntisymmetric nat_cmp-IsAntisymmetric) (table_of new) (remove (table_of bytes) m) (λ q.
    get-table new q ∙ ap (λ (ns : List (List ℕ)). found q (entries_from 0 ns)) (nodes_stored bytes new j n' h)
    ∙ found_cleared q m 0 (nodes_of bytes) j n' free has only
    ∙ ap (cond (is_name q m) None) (sym (get-table bytes q))
    ∙ sym (get-remove nat_list_cmp_total (table_of bytes) m q))

-- ---- what holds of the nodes is kept

same_or_not : (k j : ℕ) → (k ≡ j) ⊎ (k ≢ j)
same_or_not k j = elim (cases_Bool (k == j)) [ inl e ↦ inl (eqb-true k j e) | inr e ↦ inr (λ s. false≢true (sym e ∙ eq-eqb k j s)) ]

module _ (bytes new : List ℕ) (j : ℕ) (n' : List ℕ) (h : IsStored bytes new j n') where
  there_before : (k : ℕ) → k < count_of new → k < count_of bytes
  there_before k lt = subst (λ (n : ℕ). k < n) h.count lt

  used_before : (k : ℕ) → is_used new k ≡ true → k ≢ j → is_used bytes k ≡ true
  used_before k used ne =
      let parts = used_parts new k used in
      let lt = there_before k parts.there in
      used_from bytes k lt (ap (λ (n : List ℕ). is_free n) (sym (h.other k lt ne)) ∙ parts.used)

  name_before : (k : ℕ) → is_used new k ≡ true → k ≢ j → name_in (node_at new k) ≡ name_in (node_at bytes k)
  name_before k used ne = ap (λ (n : List ℕ). name_in n) (h.other k (there_before k (used_parts new k used).there) ne)

  named_before : IsTable bytes → (k : ℕ) → is_used new k ≡ true → k ≢ j → IsNamed (node_at new k)
  named_before t k used ne = subst IsNamed (sym (h.other k (there_before k (used_parts new k used).there) ne)) (t.named k (used_before k used ne))

  pub kept_put : IsTable bytes → IsNamed n' → OnlyAt (nodes_of bytes) j (name_in n') → IsTable new
  kept_put t named only = record {
    named = λ k used. elim (same_or_not k j) [
      | inl e ↦ subst (λ (i : ℕ). IsNamed (node_at new i)) (sym e) (subst IsNamed (sym h.same) named)
      | inr ne ↦ named_before t k used ne
    ];
    apart = λ i k used_i used_k same. elim (same_or_not i j) [
      | inl ei ↦ elim (same_or_not k j) [
        | inl ek ↦ ei ∙ sym ek
        | inr nk ↦ absurd (nk (only k (has_name bytes k (name_in n') (used_before k used_k nk) (sym (name_before k used_k nk) ∙ sym same ∙ at_j i ei))))
      ]
      | inr ni ↦ elim (same_or_not k j) [
        | inl ek ↦ absurd (ni (only i (has_name bytes i (name_in n') (used_before i used_i ni) (sym (name_before i used_i ni) ∙ same ∙ at_j k ek))))
        | inr nk ↦ t.apart i k (used_before i used_i ni) (used_before k used_k nk) (sym (name_before i used_i ni) ∙ same ∙ name_before k used_k nk)
      ]
    ];
  }
    where
      at_j : (i : ℕ) → i ≡ j → name_in (node_at new i) ≡ name_in n'
      at_j i e = ap (λ (n : ℕ). name_in (node_at new n)) e ∙ ap (λ (n : List ℕ). name_in n) h.same

  pub kept_cleared : IsTable bytes → is_free n' ≡ true → IsTable new
  kept_cleared t free = record {
    named = λ k used. named_before t k used (other k used);
    apart = λ i k used_i used_k same. t.apart i k (used_before i used_i (other i used_i)) (used_before k used_k (other k used_k)) (sym (name_before i used_i (other i used_i)) ∙ same ∙ name_before k used_k (other k used_k));
  }
    where
      other : (k : ℕ) → is_used new k ≡ true → k ≢ j
      other k used e = false≢true (sym (used_parts new k used).used ∙ ap (λ (n : ℕ). is_free (node_at new n)) e ∙ ap (λ (n : List ℕ). is_free n) h.same ∙ free)

  pub zeros_kept : AreFreeZeros bytes → (is_free n' ≡ true → n' ≡ zeros 628) → AreFreeZeros new
  zeros_kept z here k lt free = elim (same_or_not k j) [
    | inl e ↦
        let same : node_at new k ≡ n' = ap (λ (i : ℕ). node_at new i) e ∙ h.same in
        same ∙ here (ap (λ (n : List ℕ). is_free n) (sym same) ∙ free)
    | inr ne ↦
        let same = h.other k (there_before k lt) ne in
        same ∙ z k (there_before k lt) (ap (λ (n : List ℕ). is_free n) (sym same) ∙ free)
  ]

-- ---- free nodes

none_upto : (ns : List (List ℕ)) → ((i : ℕ) → i < length ns → is_free (get_or ns i []) ≡ false) → (k : ℕ) → k ≤ length ns → count_by (λ n. is_free n) (take k ns) ≡ 0
none_upto ns used zero le = refl
none_upto ns used (suc k) le =
    let next : suc k ≡ k + 1 = omega arith in
    ap (λ (i : ℕ). count_by (λ n. is_free n) (take i ns)) next ∙ count_by_more_no (λ n. is_free n) ns k [] (omega arith) (used k (omega arith)) ∙ none_upto ns used k (omega arith)

none_counted : (ns : List (List ℕ)) → ((i : ℕ) → i < length ns → is_free (get_or ns i []) ≡ false) → count_by (λ n. is_free n) ns ≡ 0
none_counted ns used = ap (λ (xs : List (List ℕ)). count_by (λ n. is_free n) xs) (sym (take_all (length ns) ns (omega arith))) ∙ none_upto ns used (length ns) (omega arith)

pub no_free : (bytes name : List ℕ) → ((i : ℕ) → i < count_of bytes → is_free (node_at bytes (probe (count_of bytes) name i)) ≡ false) → count_by (λ n. is_free n) (nodes_of bytes) ≡ 0
no_free bytes name none = none_counted (nodes_of bytes) (λ k lt.
    let len = length-nodes_of bytes in
    let there : k < count_of bytes = omega (arith, len, lt) in
    let positive : 0 < count_of bytes = omega (arith, there) in
    let at = reaches (count_of bytes) (hash_of name % count_of bytes) k (mod-lt (hash_of name) positive) there in
    ap (λ (n : List ℕ). is_free n) (nodes_at bytes k there) ∙ ap (λ (i : ℕ). is_free (node_at bytes i)) (sym at.2) ∙ none at.0 at.1)

pub some_free : (bytes : List ℕ) (k : ℕ) → k < count_of bytes → is_free (node_at bytes k) ≡ true → count_by (λ n. is_free n) (nodes_of bytes) ≡ 0 → ⊥
some_free bytes k lt free none =
    let len = length-nodes_of bytes in
    let one : 1 ≤ count_by (λ n. is_free n) (nodes_of bytes) =
    subst (λ (b : Bool). cond b 1 0 ≤ count_by (λ n. is_free n) (nodes_of bytes)) (ap (λ (n : List ℕ). is_free n) (nodes_at bytes k lt) ∙ free) (get_or-le-sum_by (λ n. cond (is_free n) 1 0) (nodes_of bytes) k [] (omega (arith, lt, len))) in
    omega (arith, one, none)

-- ---- what the calls leave

-- A name is put into a free node.
pub record IsPut (bytes new : List ℕ) (j : ℕ) (m : List ℕ) (details : Details) : Type 0 where
  pub table : table_of new ≡ insert (table_of bytes) m (record { node = j; details = details })
  pub used : is_used new j ≡ true
  pub kept : IsTable new
  pub zeros : AreFreeZeros bytes → AreFreeZeros new

pub is_put : (bytes new : List ℕ) (j : ℕ) (n' m : List ℕ) (details : Details) → IsStored bytes new j n' → IsTable bytes → get (table_of bytes) m ≡ None → is_free (node_at bytes j) ≡ true → IsNamed n' → name_in n' ≡ m → is_free n' ≡ false → details_in n' ≡ details → IsPut bytes new j m details
is_put bytes new j n' m details h t absent free named name used is =
    let only : OnlyAt (nodes_of bytes) j m = λ i has. absurd (absent_used bytes i m t absent (is_used_of bytes i m has) (name_of bytes i m has)) in
    record {
      table = table_put bytes new j n' m h used name (inl free) only ∙ ap (λ (d : Details). insert (table_of bytes) m (record { node = j; details = d })) is;
      used = used_from new j (subst (λ (n : ℕ). j < n) (sym h.count) h.there) (ap (λ (n : List ℕ). is_free n) h.same ∙ used);
      kept = kept_put bytes new j n' h t named (subst (OnlyAt (nodes_of bytes) j) (sym name) only);
      zeros = λ z. zeros_kept bytes new j n' h z (λ e. absurd (false≢true (sym used ∙ e)));
    }

-- A used node's details are written.
pub details_written : (bytes new : List ℕ) (j : ℕ) (n' : List ℕ) (details : Details) → IsStored bytes new j n' → is_used bytes j ≡ true → head_in n' ≡ head_in (node_at bytes j) → details_in n' ≡ details
    → (IsTable bytes → table_of new ≡ insert (table_of bytes) (name_in (node_at bytes j)) (record { node = j; details = details })) × (IsTable bytes → IsTable new) × (AreFreeZeros bytes → AreFreeZeros new)
details_written bytes new j n' details h used head is =
    let name : name_in n' ≡ name_in (node_at bytes j) = ap (λ (x : NodeHead). text_in x.name) head in
    let used' : is_free n' ≡ false = ap (λ (x : NodeHead). x.hash == 0) head ∙ (used_parts bytes j used).used in (
      λ t. table_put bytes new j n' (name_in (node_at bytes j)) h used' name (inr refl) (only_at bytes j (name_in (node_at bytes j)) t used refl) ∙ ap (λ (d : Details). insert (table_of bytes) (name_in (node_at bytes j)) (record { node = j; details = d })) is,
      λ t.
          let old = t.named j used in
          kept_put bytes new j n' h t (record {
            name = subst IsName (sym name) old.name;
            field = ap (λ (x : NodeHead). x.name) head ∙ old.field ∙ ap (padded 128) (sym name);
            hash = ap (λ (x : NodeHead). x.hash) head ∙ old.hash ∙ ap hash_of (sym name);
          }) (subst (OnlyAt (nodes_of bytes) j) (sym name) (only_at bytes j (name_in (node_at bytes j)) t used refl)),
      λ z. zeros_kept bytes new j n' h z (λ e. absurd (false≢true (sym used' ∙ e))),
    )

lt_of : (k n : ℕ) → nat_lt k n ≡ true → k < n
lt_of k n h = grind (arith, nat_tests)

-- Details are written, and no name.
pub same_names : (bytes new : List ℕ) (j : ℕ) (n' : List ℕ) → IsStored bytes new j n' → head_in n' ≡ head_in (node_at bytes j) → SameNames bytes new
same_names bytes new j n' h head = record {
  used = λ k. elim (cases_Bool (nat_lt k (count_of bytes))) [
    | inl y ↦ ap (λ (n : ℕ). nat_lt k n && not (is_free (node_at new k))) h.count ∙ ap (λ (x : NodeHead). nat_lt k (count_of bytes) && not (x.hash == 0)) (heads k (lt_of k (count_of bytes) y))
    | inr n ↦ ap (λ (m : ℕ). nat_lt k m && not (is_free (node_at new k))) h.count ∙ ap (λ (b : Bool). b && not (is_free (node_at new k))) n ∙ sym (ap (λ (b : Bool). b && not (is_free (node_at bytes k))) n)
  ];
  names = λ k used. ap (λ (x : NodeHead). text_in x.name) (heads k (used_parts bytes k used).there);
}
  where
    heads : (k : ℕ) → k < count_of bytes → head_in (node_at new k) ≡ head_in (node_at bytes k)
    heads k lt = elim (cases_Bool (k == j)) [
      | inl y ↦ let e = eqb-true k j y in ap (λ (i : ℕ). head_in (node_at new i)) e ∙ ap head_in h.same ∙ head ∙ ap (λ (i : ℕ). head_in (node_at bytes i)) (sym e)
      | inr n ↦ ap head_in (h.other k lt (λ e. false≢true (sym n ∙ eq-eqb k j e)))
    ]

-- A used node is cleared.
pub is_cleared : (bytes new : List ℕ) (j : ℕ) (n' : List ℕ) → IsStored bytes new j n' → IsTable bytes → is_used bytes j ≡ true → is_free n' ≡ true → n' ≡ zeros 628
    → (table_of new ≡ remove (table_of bytes) (name_in (node_at bytes j))) × IsTable new × (AreFreeZeros bytes → AreFreeZeros new)
is_cleared bytes new j n' h t used free is =
    let m = name_in (node_at bytes j) in (
      table_cleared bytes new j n' (name_in (node_at bytes j)) h free (has_name bytes j (name_in (node_at bytes j)) used refl) (only_at bytes j (name_in (node_at bytes j)) t used refl),
      kept_cleared bytes new j n' h t free,
      λ z. zeros_kept bytes new j n' h z (λ _. is),
    )
