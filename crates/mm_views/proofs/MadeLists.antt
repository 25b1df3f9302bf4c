-- Lists of made files as the code keeps them.
use Rattle.std.proofs.Common.{◌≡◌, ℕ, suc, ◌%◌, ◌≤◌, length, subst, Bool, true, false, cond, List, [], ◌∷◌, ◌++◌, refl, sym, ap}
use Rattle.std.proofs.lemmas.Bool.{and_parts, and_from, eq-eqb, le-leb}
use Rattle.std.proofs.lemmas.List.{length-replicate}
use Rattle.std.specs.Prelude.{◌&&◌, ◌==◌, nat_lt, nat_le, insert, replicate}
use Rattle.std.specs.FinMap.{remove}
use Rattle.std.specs.List.{list_all}
use Rattle.mm_ranges.specs.Limits.{is_file, most_of, may_be_made}
use Rattle.mm_ranges.specs.declared.limits.TheConstants.{PAGE_LEN}
use Rattle.mm_ranges.specs.Overlay.{Image}
use Rattle.mm_ranges.specs.declared.part.Made.{Made}
use Rattle.mm_views.specs.Made.{with_one, without_made, place_in, are_all_files}
use Rattle.mm_views.proofs.FreshLemmas.{file_of_made}

pub all_files-push : (ms : List Made) (m : Made) → are_all_files (ms ++ m ∷ []) ≡ true → (are_all_files ms ≡ true) × (is_file m.file ≡ true)
all_files-push [] m h = (refl, (and_parts (is_file m.file) true h).0)
all_files-push (n ∷ ns) m h =
    let parts = and_parts (is_file n.file) (are_all_files (ns ++ m ∷ [])) h in
    let rest = all_files-push ns m parts.1 in
    (and_from (is_file n.file) (are_all_files ns) parts.0 rest.0, rest.1)

pub without_made-push : (ms : List Made) (m : Made) (image : Image) → without_made (ms ++ m ∷ []) image ≡ without_made ms (remove image m.file)
without_made-push [] m image = refl
without_made-push (n ∷ ns) m image = ap (λ (a : Image). remove a n.file) (without_made-push ns m image)

pub all_files_of_made : (ms : List Made) → list_all may_be_made ms ≡ true → are_all_files ms ≡ true
all_files_of_made [] h = refl
all_files_of_made (m ∷ ms) h =
    let parts = and_parts (may_be_made m) (list_all may_be_made ms) h in
    and_from (is_file m.file) (are_all_files ms) (file_of_made m parts.0) (all_files_of_made ms parts.1)

pub with_one-insert : (m : Made) (ms : List Made) → insert ms (place_in ms m.file) m ≡ with_one m ms
with_one-insert m [] = refl
with_one-insert m (n ∷ ns) = by_test (nat_lt m.file n.file) (with_one-insert m ns)
  where
    by_test : (t : Bool) → insert ns (place_in ns m.file) m ≡ with_one m ns → insert (n ∷ ns) (cond t 0 (suc (place_in ns m.file))) m ≡ cond t (m ∷ n ∷ ns) (n ∷ with_one m ns)
    by_test true h = refl
    by_test false h = ap (λ (xs : List Made). n ∷ xs) h

pub may_make : (m : Made) → is_file m.file ≡ true → m.len ≤ most_of m.file → m.len % PAGE_LEN ≡ 0 → may_be_made m ≡ true
may_make m is le pages =
    and_from (is_file m.file) (m.len % PAGE_LEN == 0 && nat_le m.len (most_of m.file)) is (and_from (m.len % PAGE_LEN == 0) (nat_le m.len (most_of m.file)) (eq-eqb (m.len % PAGE_LEN) 0 pages) (le-leb m.len (most_of m.file) le))

pub zeros_fit : (m : Made) → m.len ≤ most_of m.file → length {A = ℕ} (replicate m.len 0) ≤ most_of m.file
zeros_fit m le = subst (λ n. n ≤ most_of m.file) (sym (length-replicate m.len 0)) le
