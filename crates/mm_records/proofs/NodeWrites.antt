-- Details are written, and the data files stay.
use Rattle.std.proofs.Common.{◌≡◌, ℕ, ◌+◌, ◌*◌, ◌<◌, true, false, List, length, ◌∙◌, ap, arith}
use Rattle.std.specs.Prelude.{◌==◌}
use Rattle.std.proofs.lemmas.Bool.Decides.{nat_tests}
use Rattle.mm_ranges.specs.declared.limits.TheConstants.{NS_FILE}
use Rattle.mm_ranges.specs.Overlay.{bytes_at}
use Rattle.mm_views.specs.State.{Drafting}
use Rattle.mm_nstable.specs.Nodes.{is_used}
use Rattle.mm_nstable.specs.Changes.{ns_of, written_at}
use Rattle.mm_nstable.proofs.Stored.{node_inside}
use Rattle.mm_nstable.proofs.Tables.{used_parts}
use Rattle.mm_extents.specs.Changes.{len_of}
use Rattle.mm_extents.proofs.Writes.{laid_elsewhere, len_laid}

-- no data file changes
pub other_files : (d d' : Drafting) (at : ℕ) (bytes : List ℕ) → d' ≡ written_at at bytes d → (f : ℕ) → f < 8 → bytes_at d'.image f ≡ bytes_at d.image f
other_files d d' at bytes e f lt = ap (λ (x : Drafting). bytes_at x.image f) e ∙ laid_elsewhere d.image NS_FILE at f bytes (no f lt)
  where
    no : (f : ℕ) → f < 8 → (f == NS_FILE) ≡ false
    no f lt = grind (arith, nat_tests)

-- no file becomes longer or shorter
pub same_lengths : (d d' : Drafting) (node : ℕ) (bytes : List ℕ) → is_used (ns_of d) node ≡ true → length bytes ≡ 496 → d' ≡ written_at (628 * node + 132) bytes d → (f : ℕ) → len_of d'.image f ≡ len_of d.image f
same_lengths d d' node bytes used long e f =
    let inside = node_inside (ns_of d) node (used_parts (ns_of d) node used).there in
    ap (λ (x : Drafting). len_of x.image f) e ∙ len_laid d.image NS_FILE (628 * node + 132) bytes f (omega arith) (omega (arith, inside, long))
