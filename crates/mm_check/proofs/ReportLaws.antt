-- What the check tells: the loops that count, and that the details of the collections tell their live records.
use Rattle.std.proofs.Common.{◌≡◌, ℕ, zero, suc, ◌+◌, ◌-◌, ◌<◌, ◌≤◌, ◌^◌, inl, inr, Bool, true, false, List, [], ◌∷◌, length, map, take, drop, Some, None, refl, sym, ◌∙◌, ap, arith, length-append}
use Rattle.std.specs.Prelude.{◌&&◌, ◌||◌, ◌==◌, not, cond, is_some, nat_lt, if◌then◌else◌, min, flat_map}
use Rattle.std.specs.List.{list_any, prefix_len}
use Rattle.std.specs.FinMap.{get}
use Rattle.std.proofs.lemmas.Bool.{cases_Bool}
use Rattle.mm_ranges.specs.Overlay.{Image}
use Rattle.mm_nstable.specs.Nodes.{count_of, node_at, is_free, is_used}
use Rattle.mm_links.specs.Links.{Place, has}
use Rattle.mm_links.proofs.LinkLaws.{both}
use Rattle.mm_records.specs.Constants.{is_name, behind_dot, system_indexes, is_collection}
use Rattle.mm_records.specs.Stands.{ns_in}
use Rattle.mm_records.proofs.Freed.{name_is}
use Rattle.mm_walk.specs.Questions.{first_failing}
use Rattle.mm_walk.specs.Walk.{IsLow, StaysLow}
use Rattle.mm_walk.proofs.WalkLaws.{not_longer}
use Rattle.mm_check.specs.ExtentChain.{nat_of}
use Rattle.mm_check.specs.NodeQuestions.{free_name}
use Rattle.mm_check.specs.CountQuestions.{counts_right}
use Rattle.mm_check.specs.Findings.{files_from, used_from, nodes_in, name_of, details_at, joined, Owner, owners_of, without_free, owners, record_chains, count_questions, Clear9}
use Rattle.mm_check.specs.Reports.{collections_of, documents_of, told_of}
use Rattle.mm_check.proofs.RecordLaws.{if_yes, if_no, is_pos_true}
use Rattle.mm_check.proofs.Chained.{files_there, file_absent, used_there, used_absent}
use Rattle.mm_check.proofs.CheckLaws.{on_chain_of, read_of_leads, joined_once}
use Rattle.mm_check.proofs.CheckSteps.{node_lengths}
use Rattle.mm_check.proofs.Insides.{inside_owners}
use Rattle.mm_check.proofs.Lows.{records_low}

and_false : (b : Bool) → (b && false) ≡ false
and_false true = refl
and_false false = refl

-- ---- the loops

pub file_counted : (image : Image) (n k : ℕ) → k < 8 → is_some (get image k) ≡ true → n + length (files_from image k (8 - k)) ≡ (n + 1) + length (files_from image (k + 1) (8 - (k + 1)))
file_counted image n k lt there = let e = ap length (files_there image k lt there) in omega (arith, e)

pub file_passed : (image : Image) (n k : ℕ) → k < 8 → is_some (get image k) ≡ false → n + length (files_from image k (8 - k)) ≡ n + length (files_from image (k + 1) (8 - (k + 1)))
file_passed image n k lt there = ap (λ (ks : List ℕ). n + length ks) (file_absent image k lt there)

module _ (image : Image) (k : ℕ) (lt : k < count_of (ns_in image)) (b : Bool) (is : b ≡ (is_used (ns_in image) k && is_collection (name_of image k))) where
  abbrev behind : List ℕ
  behind = used_from (ns_in image) (k + 1) (count_of (ns_in image) - (k + 1))

  pub collection_counted : collections_of image (used_from (ns_in image) k (count_of (ns_in image) - k)) ≡ (if b then suc (collections_of image (used_from (ns_in image) (k + 1) (count_of (ns_in image) - (k + 1)))) else collections_of image (used_from (ns_in image) (k + 1) (count_of (ns_in image) - (k + 1))))
  collection_counted = elim (cases_Bool (is_used (ns_in image) k)) [
    | inl u ↦
        let e = is ∙ ap (λ (x : Bool). x && is_collection (name_of image k)) u in
        ap (collections_of image) (used_there (ns_in image) (count_of (ns_in image)) k lt u) ∙ ap (λ (x : Bool). if x then suc (collections_of image behind) else collections_of image behind) (sym e)
    | inr n ↦
        let e = is ∙ ap (λ (x : Bool). x && is_collection (name_of image k)) n in
        ap (collections_of image) (used_absent (ns_in image) (count_of (ns_in image)) k lt n) ∙ sym (if_no b (suc (collections_of image behind)) (collections_of image behind) e)
  ]

  pub told_counted : told_of image (used_from (ns_in image) k (count_of (ns_in image) - k)) ≡ (if b then nat_of (details_at image k).nrecords else 0) + told_of image (used_from (ns_in image) (k + 1) (count_of (ns_in image) - (k + 1)))
  told_counted = elim (cases_Bool (is_used (ns_in image) k)) [
    | inl u ↦
        let e = is ∙ ap (λ (x : Bool). x && is_collection (name_of image k)) u in
        ap (told_of image) (used_there (ns_in image) (count_of (ns_in image)) k lt u) ∙ ap (λ (x : Bool). (if x then nat_of (details_at image k).nrecords else 0) + told_of image behind) (sym e)
    | inr n ↦
        let e = is ∙ ap (λ (x : Bool). x && is_collection (name_of image k)) n in
        let z : (if b then nat_of (details_at image k).nrecords else 0) ≡ 0 = if_no b (nat_of (details_at image k).nrecords) 0 e in
        let none : told_of image behind ≡ 0 + told_of image behind = omega arith in
        ap (told_of image) (used_absent (ns_in image) (count_of (ns_in image)) k lt n) ∙ none ∙ ap (λ (m : ℕ). m + told_of image behind) (sym z)
  ]

-- what the head of a node says of its use
pub unused_here : (bytes : List ℕ) (k : ℕ) (b : Bool) → is_free (node_at bytes k) ≡ true → false ≡ (is_used bytes k && b)
unused_here bytes k b f = sym (ap (λ (x : Bool). (nat_lt k (count_of bytes) && not x) && b) f ∙ ap (λ (x : Bool). x && b) (and_false (nat_lt k (count_of bytes))))

pub used_here : (bytes : List ℕ) (k : ℕ) (b : Bool) → is_used bytes k ≡ true → b ≡ (is_used bytes k && b)
used_here bytes k b u = sym (ap (λ (x : Bool). x && b) u)

pub sum_more : (m t rest all top : ℕ) → min (m + (t + rest)) top ≡ min all top → min (min (m + t) top + rest) top ≡ min all top
sum_more m t rest all top e = omega (arith, e)

-- none is left at the end
pub none_behind : (image : Image) (node end : ℕ) → end ≡ count_of (ns_in image) → end ≤ node → used_from (ns_in image) node (count_of (ns_in image) - node) ≡ []
none_behind image node end e le = let z : count_of (ns_in image) - node ≡ 0 = omega (arith, e, le) in ap (used_from (ns_in image) node) z

pub all_ahead : (image : Image) → used_from (ns_in image) 0 (count_of (ns_in image) - 0) ≡ nodes_in image
unfolding nodes_in
all_ahead image = let n : count_of (ns_in image) - 0 ≡ count_of (ns_in image) = omega arith in ap (used_from (ns_in image) 0) n

pub sum_whole : (m rest all top : ℕ) → min (m + rest) top ≡ min all top → rest ≡ 0 → m ≤ top → m ≡ min all top
sum_whole m rest all top e z le = omega (arith, e, z, le)

-- ---- the node of the free chain is no collection

or_true : (b : Bool) → (b || true) ≡ true
or_true true = refl
or_true false = refl

dollar_there : (d : List ℕ) → list_any (λ b. b == 36) (free_name d) ≡ true
dollar_there [] = refl
dollar_there (x ∷ d) = ap (λ (b : Bool). (x == 36) || b) (dollar_there d) ∙ or_true (x == 36)

-- how many bytes stand before the first dot
abbrev dot_at : List ℕ → ℕ
dot_at name = prefix_len (λ b. not (b == 46)) name

dollar_from : (d : List ℕ) (x : ℕ) (b : Bool) → (x == 46) ≡ b → list_any (λ y. y == 36) (behind_dot (x ∷ free_name d)) ≡ list_any (λ y. y == 36) (drop (suc (cond (not b) (1 + dot_at (free_name d)) 0)) (x ∷ free_name d))
dollar_from d x b e = ap (λ (c : Bool). list_any (λ y. y == 36) (drop (suc (cond (not c) (1 + dot_at (free_name d)) 0)) (x ∷ free_name d))) e

dollar_behind : (d : List ℕ) → list_any (λ b. b == 36) (behind_dot (free_name d)) ≡ true
dollar_behind [] = refl
dollar_behind (x ∷ d) = elim (cases_Bool (x == 46)) [
  | inl e ↦ dollar_from d x true e ∙ dollar_there d
  | inr e ↦
      let next : 1 + dot_at (free_name d) ≡ suc (dot_at (free_name d)) = omega arith in
      dollar_from d x false e ∙ ap (λ (m : ℕ). list_any (λ y. y == 36) (drop m (free_name d))) next ∙ dollar_behind d
]

free_none : (d name : List ℕ) → is_name name (free_name d) ≡ true → is_collection name ≡ false
unfolding is_collection
free_none d name h =
    ap is_collection (name_is name (free_name d) h)
    ∙ ap (λ (b : Bool). not b && not (is_name (behind_dot (free_name d)) system_indexes)) (dollar_behind d)

-- ---- the details tell the live records

pub told_kept : (d : List ℕ) (image : Image) (ks : List ℕ) (pss : List (List Place)) → length ks ≡ length pss → told_of image (map (λ o. o.node) (without_free d image (owners_of ks pss))) ≡ told_of image ks
told_kept d image [] pss e = refl
told_kept d image (k ∷ ks) [] e = absurd (omega (arith, e))
told_kept d image (k ∷ ks) (ps ∷ pss) e =
    let o : Owner = record { node = k; extents = ps } in
    let os = owners_of ks pss in
    let more : length ks ≡ length pss = omega (arith, e) in
    elim (cases_Bool (is_name (name_of image k) (free_name d))) [
      | inl y ↦
          let z : (if is_collection (name_of image k) then nat_of (details_at image k).nrecords else 0) ≡ 0 = if_no (is_collection (name_of image k)) (nat_of (details_at image k).nrecords) 0 (free_none d (name_of image k) y) in
          let none : told_of image ks ≡ 0 + told_of image ks = omega arith in
          ap (λ (xs : List Owner). told_of image (map (λ x. x.node) xs)) (if_yes _ (without_free d image os) (o ∷ without_free d image os) y) ∙ told_kept d image ks pss more
          ∙ none ∙ ap (λ (m : ℕ). m + told_of image ks) (sym z)
      | inr n ↦
          ap (λ (xs : List Owner). told_of image (map (λ x. x.node) xs)) (if_no _ (without_free d image os) (o ∷ without_free d image os) n)
          ∙ ap (λ (m : ℕ). (if is_collection (name_of image k) then nat_of (details_at image k).nrecords else 0) + m) (told_kept d image ks pss more)
    ]

no_some : {X : Type 0} (x : X) → None ≡ Some x → ⊥
no_some x e = cc

pub told_records : (image : Image) (os : List Owner) (rs : List (List Place)) → first_failing (count_questions image os rs) ≡ None → documents_of image os rs ≡ told_of image (map (λ o. o.node) os)
told_records image [] rs e = refl
told_records image (o ∷ os) rs e =
    let right = counts_right image (name_of image o.node) (details_at image o.node) o.extents (joined (take (length o.extents) rs)) in
    elim (cases_Bool right) [
      | inl y ↦
          let n : (details_at image o.node).nrecords ≡ _ = is_pos_true (details_at image o.node).nrecords (length (joined (take (length o.extents) rs))) (both _ _ y).0 in
          let more = told_records image os (drop (length o.extents) rs) (sym (if_yes right (first_failing (count_questions image os (drop (length o.extents) rs))) _ y) ∙ e) in
          λ i. (if is_collection (name_of image o.node) then sym (ap nat_of n) i else 0) + more i
      | inr f ↦ absurd (no_some _ (sym e ∙ if_no right (first_failing (count_questions image os (drop (length o.extents) rs))) _ f))
    ]

-- ---- and they are few

joined_split : (pss : List (List Place)) (n : ℕ) → length (joined pss) ≡ length (joined (take n pss)) + length (joined (drop n pss))
joined_split pss zero = omega arith
joined_split [] (suc n) = omega arith
joined_split (ps ∷ pss) (suc n) =
    let a = length-append ps (joined pss) in let b = length-append ps (joined (take n pss)) in let c = joined_split pss n in omega (arith, a, b, c)

within : (b : Bool) (n : ℕ) → (if b then n else 0) ≤ n
within true n = omega arith
within false n = omega arith

pub documents_most : (image : Image) (os : List Owner) (rs : List (List Place)) → documents_of image os rs ≤ length (joined rs)
documents_most image [] rs = omega arith
documents_most image (o ∷ os) rs =
    let a = within (is_collection (name_of image o.node)) (length (joined (take (length o.extents) rs))) in
    let b = documents_most image os (drop (length o.extents) rs) in
    let c = joined_split rs (length o.extents) in
    omega (arith, a, b, c)

pub documents_few : (d : List ℕ) (image : Image) (chains records blocks : List (List Place)) → Clear9 d image chains records blocks → documents_of image (owners d image chains) records ≤ 536870912
documents_few d image chains records blocks c =
    let six = c.before.before.before in
    let lows = records_low image (flat_map (λ o. o.extents) (owners d image chains)) (inside_owners d image chains six.before) in
    let low : (p : Place) → has (joined records) p ≡ true → IsLow p = λ p h. let o = on_chain_of StaysLow (record_chains image (owners d image chains)) records [] p six.whole lows h in
    let t = read_of_leads o.r None o.r.head o.ps p o.whole.followed.leads o.on in o.is t.0 p t.1 t.2 in
    let few = not_longer (joined records) low (joined_once [] (record_chains image (owners d image chains)) records six.whole) in
    let most = documents_most image (owners d image chains) records in
    omega (arith, few, most)

pub documents_told : (d : List ℕ) (image : Image) (chains records blocks : List (List Place)) (m : ℕ) → Clear9 d image chains records blocks → m ≡ min (told_of image (nodes_in image)) (2 ^ 64 - 1) → m ≡ documents_of image (owners d image chains) records
documents_told d image chains records blocks m c e =
    let same = told_records image (owners d image chains) records c.counted ∙ told_kept d image (nodes_in image) chains (node_lengths d image chains c.before.before.before.before) in
    let few = documents_few d image chains records blocks c in
    omega (arith, e, same, few)
