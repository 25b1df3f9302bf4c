-- Constant fields stay, and the node of the free chain, where another node's counts are written.
use Rattle.std.proofs.Common.{◌≡◌, ◌≢◌, ℕ, inl, inr, Bool, true, false, cond, List, Some, refl, sym, ◌∙◌, ap, subst}
use Rattle.std.proofs.lemmas.Bool.{cases_Bool}
use Rattle.std.specs.FinMap.{get, insert, get-insert}
use Rattle.std.specs.Cmp.Lexicographic.{nat_list_cmp_total}
use Rattle.mm_frames.specs.declared.details.Details.{Details}
use Rattle.mm_nstable.specs.Table.{Held, table_of}
use Rattle.mm_nstable.specs.FreeChain.{HasFreeChain}
use Rattle.mm_records.specs.Constants.{is_name, HasConstants, SameConstants, constants_of}
use Rattle.mm_records.proofs.Freed.{name_is}

-- the fields are those of `constants_of`
of_rest : (name : List ℕ) (d : Details) → HasConstants name (constants_of d) → HasConstants name d
of_rest name d h = record {
  few_indexes = h.few_indexes;
  no_indexes = h.no_indexes;
  spare_pairs = h.spare_pairs;
  is_capped = h.is_capped;
  max_docs = h.max_docs;
  padding = h.padding;
  system_flags = h.system_flags;
  cap_extent = h.cap_extent;
  cap_first_new_record = h.cap_first_new_record;
  data_file_version = h.data_file_version;
  index_file_version = h.index_file_version;
  multikey = h.multikey;
  extra_offset = h.extra_offset;
  index_builds = h.index_builds;
  user_flags = h.user_flags;
}

to_rest : (name : List ℕ) (d : Details) → HasConstants name d → HasConstants name (constants_of d)
to_rest name d h = record {
  few_indexes = h.few_indexes;
  no_indexes = h.no_indexes;
  spare_pairs = h.spare_pairs;
  is_capped = h.is_capped;
  max_docs = h.max_docs;
  padding = h.padding;
  system_flags = h.system_flags;
  cap_extent = h.cap_extent;
  cap_first_new_record = h.cap_first_new_record;
  data_file_version = h.data_file_version;
  index_file_version = h.index_file_version;
  multikey = h.multikey;
  extra_offset = h.extra_offset;
  index_builds = h.index_builds;
  user_flags = h.user_flags;
}

pub constants_stay : (name : List ℕ) (d d' : Details) → constants_of d' ≡ constants_of d → HasConstants name d → HasConstants name d'
constants_stay name d d' e h = of_rest name d' (subst (λ (x : Details). HasConstants name x) (sym e) (to_rest name d h))

-- one name of the map has new details
module _ (old new free own : List ℕ) (held was now : Held) (h : HasFreeChain old free held) (there : get (table_of old) own ≡ Some was) (isnt : own ≢ free)
    (e : table_of new ≡ insert (table_of old) own now) where
  found : (m : List ℕ) → get (table_of new) m ≡ cond (is_name m own) (Some now) (get (table_of old) m)
  found m = ap (λ t. get t m) e ∙ get-insert nat_list_cmp_total (table_of old) own now m

  old_of : (m : List ℕ) (b : Bool) → is_name m own ≡ b → (x : Held) → get (table_of new) m ≡ Some x → (y : Held) × (get (table_of old) m ≡ Some y)
  old_of m true y x g = (was, ap (λ (n : List ℕ). get (table_of old) n) (name_is m own y) ∙ there)
  old_of m false n x g = (x, sym (found m ∙ ap (λ (b : Bool). cond b (Some now) (get (table_of old) m)) n) ∙ g)

  other : is_name free own ≡ false
  other = elim (cases_Bool (is_name free own)) [ inl y ↦ absurd (isnt (sym (name_is free own y))) | inr n ↦ n ]

  pub free_chain_stays : HasFreeChain new free held
  free_chain_stays = record {
    is = found free ∙ ap (λ (b : Bool). cond b (Some now) (get (table_of old) free)) other ∙ h.is;
    named = h.named;
    only = λ m x g f. let o = old_of m (is_name m own) refl x g in h.only m o.0 o.1 f;
  }

-- one name of the map has the same node and constant fields as before
module _ (old new own : List ℕ) (was now : Held) (there : get (table_of old) own ≡ Some was) (e : table_of new ≡ insert (table_of old) own now)
    (node : was.node ≡ now.node) (fields : constants_of was.details ≡ constants_of now.details) where
  found_now : (m : List ℕ) → get (table_of new) m ≡ cond (is_name m own) (Some now) (get (table_of old) m)
  found_now m = ap (λ t. get t m) e ∙ get-insert nat_list_cmp_total (table_of old) own now m

  one : (x y : Held) → Some x ≡ Some y → x ≡ y
  one x y f = cc

  alike : {X : Type 0} (proj : Held → X) → proj was ≡ proj now → (m : List ℕ) (a b : Held) → get (table_of old) m ≡ Some a → get (table_of new) m ≡ Some b → proj a ≡ proj b
  alike {X} proj same m a b x y = elim (cases_Bool (is_name m own)) [
    | inl z ↦
        let first : a ≡ was = one a was (sym x ∙ ap (λ (n : List ℕ). get (table_of old) n) (name_is m own z) ∙ there) in
        let second : now ≡ b = one now b (sym (ap (λ (t : Bool). cond t (Some now) (get (table_of old) m)) z) ∙ sym (found_now m) ∙ y) in
        ap proj first ∙ same ∙ ap proj second
    | inr z ↦ ap proj (one a b (sym x ∙ sym (ap (λ (t : Bool). cond t (Some now) (get (table_of old) m)) z) ∙ sym (found_now m) ∙ y))
  ]

  pub same_constants : SameConstants old new
  same_constants = record { nodes = alike (λ h. h.node) node; details = alike (λ h. constants_of h.details) fields }
