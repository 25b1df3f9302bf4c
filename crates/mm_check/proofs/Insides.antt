-- Where the extents lie that phases 3 and 4 find.
use Rattle.std.proofs.Common.{◌≡◌, ℕ, zero, suc, pos, ◌+◌, ◌<◌, ◌≤◌, ◌⊎◌, inl, inr, true, List, [], ◌∷◌, ◌++◌, length, map, Option, Some, None, refl, sym, ◌∙◌, ap, subst, arith}
use Rattle.std.specs.Prelude.{is_some, flat_map, unwrap_or}
use Rattle.std.specs.FinMap.{get}
use Rattle.std.specs.Option.{option_map}
use Rattle.std.proofs.lemmas.Bool.{cases_Bool, false≢true}
use Rattle.mm_base.specs.Bytes.{part}
use Rattle.mm_ranges.specs.Overlay.{Image, bytes_at}
use Rattle.mm_links.specs.Links.{Place, same, has}
use Rattle.mm_links.proofs.LinkLaws.{both, either, has_here, has_more}
use Rattle.mm_extents.specs.Files.{file_len}
use Rattle.mm_extents.proofs.FileLaws.{file_len_most}
use Rattle.mm_records.specs.Constants.{is_name}
use Rattle.mm_walk.specs.Walk.{Reading, IsWhole, AreWhole}
use Rattle.mm_walk.specs.Questions.{first_failing}
use Rattle.mm_check.specs.ExtentChain.{ext_at, ext_size, nat_of, InFile, file_reading, chain_reading}
use Rattle.mm_check.specs.FileQuestions.{unused_of, is_header, file_questions}
use Rattle.mm_check.specs.NodeQuestions.{free_name, node_place}
use Rattle.mm_check.specs.Findings.{joined, files_from, nodes_in, field_of, name_of, details_at, Owner, owners_of, without_free, owners, extent_chains, Clear3, Clear5}
use Rattle.mm_check.proofs.RecordLaws.{if_yes, if_no, nat_le_true}
use Rattle.mm_check.proofs.PhaseBack.{has_either}
use Rattle.mm_check.proofs.FileQuestionLaws.{files_stand, test_of_header}
use Rattle.mm_check.proofs.ExtentLaws.{right_of_leads, named_of_leads}

pub has_in : (xs ys : List Place) (p : Place) → (has xs p ≡ true) ⊎ (has ys p ≡ true) → has (xs ++ ys) p ≡ true
has_in [] ys p (inl h) = absurd (false≢true h)
has_in [] ys p (inr h) = h
has_in (x ∷ xs) ys p (inl h) = elim (either (same x p) (has xs p) h) [
  | inl y ↦ has_here x (xs ++ ys) p y
  | inr t ↦ has_more x (xs ++ ys) p (has_in xs ys p (inl t))
]
has_in (x ∷ xs) ys p (inr h) = has_more x (xs ++ ys) p (has_in xs ys p (inr h))

-- ---- a list of places of one of the numbers

-- the chain that a place is on, of the chains of some numbers
pub record OnOne (reading : ℕ → Reading) (ks : List ℕ) (P : ℕ → Type 0) (p : Place) : Type 0 where
  pub k : ℕ
  pub is : P k
  pub seen : List Place
  pub ps : List Place
  pub whole : IsWhole (reading k) seen ps
  pub on : has ps p ≡ true

abbrev pub Each : (ℕ → Type 0) → List ℕ → Type 0
Each P [] = Unit {0}
Each P (k ∷ ks) = P k × Each P ks

pub on_one : (reading : ℕ → Reading) (P : ℕ → Type 0) (ks : List ℕ) (pss : List (List Place)) (seen : List Place) (p : Place) → AreWhole seen (map reading ks) pss → Each P ks → has (joined pss) p ≡ true → OnOne reading ks P p
on_one reading P [] [] seen p a each h = absurd (false≢true h)
on_one reading P [] (ps ∷ pss) seen p a each h = absurd a
on_one reading P (k ∷ ks) [] seen p a each h = absurd a
on_one reading P (k ∷ ks) (ps ∷ pss) seen p a each h = elim (has_either ps (joined pss) p h) [
  | inl i ↦ record { k = k; is = each.0; seen = seen; ps = ps; whole = a.0; on = i }
  | inr j ↦ let t = on_one reading P ks pss (ps ++ seen) p a.1 each.1 j in record { k = t.k; is = t.is; seen = t.seen; ps = t.ps; whole = t.whole; on = t.on }
]

-- ---- files

-- a data file that is there
pub record IsThere (image : Image) (k : ℕ) : Type 0 where
  pub low : k < 8
  pub there : is_some (get image k) ≡ true

pub all_there : (image : Image) (k n : ℕ) → k + n ≤ 8 → Each (IsThere image) (files_from image k n)
all_there image k zero le = tt
all_there image k (suc n) le = elim (cases_Bool (is_some (get image k))) [
  | inl y ↦ subst (Each (IsThere image)) (sym (if_yes (is_some (get image k)) (k ∷ files_from image (suc k) n) (files_from image (suc k) n) y)) (record { low = omega (arith, le); there = y }, all_there image (suc k) n (omega (arith, le)))
  | inr m ↦ subst (Each (IsThere image)) (sym (if_no (is_some (get image k)) (k ∷ files_from image (suc k) n) (files_from image (suc k) n) m)) (all_there image (suc k) n (omega (arith, le)))
]

some_len : (o : Option (List ℕ)) → is_some o ≡ true → option_map length o ≡ Some (length (unwrap_or o []))
some_len None e = absurd (false≢true e)
some_len (Some x) e = refl

-- where nothing is wrong with the files, one that is there has its length and header
pub record IsRight (image : Image) (k : ℕ) : Type 0 where
  pub long : length (bytes_at image k) ≡ file_len k
  pub header : is_header k (part 0 8192 (bytes_at image k)) ≡ true
  pub short : unused_of (part 0 8192 (bytes_at image k)) ≤ file_len k
  pub least : 8192 ≤ unused_of (part 0 8192 (bytes_at image k))

pub file_is_right : (image : Image) (k : ℕ) → first_failing (file_questions image) ≡ None → IsThere image k → IsRight image k
file_is_right image k e t =
    let s = files_stand image e in
    let n = some_len (get image k) t.there in
    let h = test_of_header k (part 0 8192 (bytes_at image k)) t.low (s.headers k (length (bytes_at image k)) t.low n) in
    let b = both _ _ (both _ _ h).1 in
    record { long = s.long k (length (bytes_at image k)) t.low n; header = h; short = nat_le_true _ _ b.1; least = nat_le_true _ _ b.0 }

-- ---- the extents lie in their files

module _ (d : List ℕ) (image : Image) (found : List (List Place)) (c : Clear3 d image found) where
  abbrev unused_at : ℕ → ℕ
  unused_at k = unused_of (part 0 8192 (bytes_at image k))

  pub on_file : (p : Place) → has (joined found) p ≡ true → OnOne (λ k. file_reading image k (unused_of (part 0 8192 (bytes_at image k)))) (files_from image 0 8) (IsThere image) p
  on_file p h = on_one (λ k. file_reading image k (unused_of (part 0 8192 (bytes_at image k)))) (IsThere image) (files_from image 0 8) found [] p c.whole (all_there image 0 8 (omega arith)) h

  pub inside_found : (p : Place) → has (joined found) p ≡ true → InFile image p
  inside_found p h =
      let o = on_file p h in
      let f = file_is_right image o.k c.before.files o.is in
      let r = right_of_leads image o.k (unused_at o.k) None 8192 o.ps p o.whole.followed.leads o.on in
      let x = r.1 in
      let size : ext_size image p ≡ x.n = ap nat_of x.long in
      let most = file_len_most o.k in let short = f.short in let i = x.inside in let hd = x.header in let some = x.some in
      let long : length (bytes_at image p.0) ≡ file_len o.k = ap (λ (k : ℕ). length (bytes_at image k)) r.0 ∙ f.long in
      record {
        data_file = subst (λ (k : ℕ). k < 8) (sym r.0) o.is.low;
        low = omega (arith, i, some, short, most);
        inside = omega (arith, hd, short, long);
        short = omega (arith, i, size, short, most);
        whole = omega (arith, i, size, short, long);
      }

  -- how long an extent is, is what its header says
  pub extent_long : (p : Place) → has (joined found) p ≡ true → (ext_at image p).len ≡ pos (ext_size image p)
  extent_long p h =
      let o = on_file p h in
      let r = right_of_leads image o.k (unused_at o.k) None 8192 o.ps p o.whole.followed.leads o.on in
      r.1.long ∙ ap pos (sym (ap nat_of r.1.long))

-- ---- the extents of nodes are extents of the files

any_each : (ks : List ℕ) → Each (λ k. Unit {0}) ks
any_each [] = tt
any_each (k ∷ ks) = (tt, any_each ks)

pub chained_there : (image : Image) (all : List Place) (chains : List (List Place)) (p : Place) → AreWhole [] (extent_chains image all) chains → has (joined chains) p ≡ true → has all p ≡ true
chained_there image all chains p a h =
    let o = on_one (λ k. chain_reading image all (field_of image k) (node_place k) (details_at image k).first_extent (details_at image k).last_extent) (λ k. Unit {0}) (nodes_in image) chains [] p a (any_each (nodes_in image)) h in
    (named_of_leads image all (field_of image o.k) (node_place o.k) (details_at image o.k).first_extent (details_at image o.k).last_extent None _ o.ps p o.whole.followed.leads o.on).there

owned_joined : (ks : List ℕ) (pss : List (List Place)) (p : Place) → has (flat_map (λ o. o.extents) (owners_of ks pss)) p ≡ true → has (joined pss) p ≡ true
owned_joined [] pss p h = absurd (false≢true h)
owned_joined (k ∷ ks) [] p h = absurd (false≢true h)
owned_joined (k ∷ ks) (ps ∷ pss) p h = elim (has_either ps (flat_map (λ o. o.extents) (owners_of ks pss)) p h) [
  | inl i ↦ has_in ps (joined pss) p (inl i)
  | inr j ↦ has_in ps (joined pss) p (inr (owned_joined ks pss p j))
]

kept_owned : (d : List ℕ) (image : Image) (os : List Owner) (p : Place) → has (flat_map (λ o. o.extents) (without_free d image os)) p ≡ true → has (flat_map (λ o. o.extents) os) p ≡ true
kept_owned d image [] p h = h
kept_owned d image (o ∷ os) p h = elim (cases_Bool (is_name (name_of image o.node) (free_name d))) [
  | inl y ↦ has_in o.extents (flat_map (λ x. x.extents) os) p (inr (kept_owned d image os p (subst (λ (xs : List Owner). has (flat_map (λ x. x.extents) xs) p ≡ true) (if_yes _ (without_free d image os) (o ∷ without_free d image os) y) h)))
  | inr n ↦ elim (has_either o.extents (flat_map (λ x. x.extents) (without_free d image os)) p (subst (λ (xs : List Owner). has (flat_map (λ x. x.extents) xs) p ≡ true) (if_no _ (without_free d image os) (o ∷ without_free d image os) n) h)) [
    | inl i ↦ has_in o.extents (flat_map (λ x. x.extents) os) p (inl i)
    | inr j ↦ has_in o.extents (flat_map (λ x. x.extents) os) p (inr (kept_owned d image os p j))
  ]
]

-- the extents whose blocks are looked at lie in their files
pub inside_owners : (d : List ℕ) (image : Image) (chains : List (List Place)) → Clear5 d image chains → (p : Place) → has (flat_map (λ o. o.extents) (owners d image chains)) p ≡ true → InFile image p
inside_owners d image chains c p h =
    inside_found d image c.found c.before p (chained_there image (joined c.found) chains p c.whole (owned_joined (nodes_in image) chains p (kept_owned d image (owners_of (nodes_in image) chains) p h)))
