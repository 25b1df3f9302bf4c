-- The order of a bucket's pairs is total, so each pair before a lesser one is less, and each behind a greater one greater.
use Rattle.std.proofs.Common.{◌≡◌, ℕ, ◌<◌, ◌≤◌, List, length, refl, ap, arith}
use Rattle.std.specs.declared.cmp.Ordering.{Ordering}
use Rattle.std.specs.declared.cmp.Ordering.TheVariants.{Less, Equal, Greater}
use Rattle.std.specs.Ordering.{ordering_then, ordering_index}
use Rattle.std.specs.Cmp.{IsTotalOrder}
use Rattle.std.proofs.lemmas.Cmp.{int_cmp_total, on_total, then_total}
use Rattle.std.proofs.lemmas.List.Sorted.{searchable_from_sorted}
use Rattle.mm_base.specs.declared.place.DiskLoc.{DiskLoc}
use Rattle.mm_bson.specs.Tree.{Elements}
use Rattle.mm_bson.specs.Walk.{document_in}
use Rattle.mm_keys.specs.KeyOrder.{key_compare}
use Rattle.mm_keys.proofs.Totals.{key_compare_total}
use Rattle.mm_bucket.specs.Pairs.{Pair, pair_at, blank}
use Rattle.mm_bucket.specs.Order.{place_compare, compare_pair, AreInOrder}

abbrev pub Ranked : Type 0
Ranked = Elements × DiskLoc

abbrev pub ranked_compare : Elements → Ranked → Ranked → Ordering
ranked_compare spec a b = ordering_then (key_compare spec a.0 b.0) (place_compare a.1 b.1)

place_total : IsTotalOrder place_compare
place_total = then_total (on_total (λ (p : DiskLoc). p.file) int_cmp_total) (on_total (λ (p : DiskLoc). p.ofs) int_cmp_total)

pub ranked_total : (spec : Elements) → IsTotalOrder (ranked_compare spec)
ranked_total spec = then_total (on_total (λ (a : Ranked). a.0) (key_compare_total spec)) (on_total (λ (a : Ranked). a.1) place_total)

-- the answers to a key and a record don't fall
pub rising : (spec : Elements) (ps : List Pair) (key : Elements) (rec : DiskLoc) → AreInOrder spec ps → (i j : ℕ) → i ≤ j → j < length ps
    → ordering_index (compare_pair spec (pair_at ps i) key rec) ≤ ordering_index (compare_pair spec (pair_at ps j) key rec)
rising spec ps key rec o i j le lt = searchable_from_sorted (ranked_total spec) (λ (p : Pair). (document_in p.key, p.rec)) ps (key, rec) o i j blank le lt

least : (o : Ordering) → ordering_index o ≤ 0 → o ≡ Less
least Less le = refl
least Equal le = absurd (omega (arith, le))
least Greater le = absurd (omega (arith, le))

greatest : (o : Ordering) → 2 ≤ ordering_index o → o ≡ Greater
greatest Less le = absurd (omega (arith, le))
greatest Equal le = absurd (omega (arith, le))
greatest Greater le = refl

pub less_before : (spec : Elements) (ps : List Pair) (key : Elements) (rec : DiskLoc) → AreInOrder spec ps → (i j : ℕ) → i ≤ j → j < length ps → compare_pair spec (pair_at ps j) key rec ≡ Less → compare_pair spec (pair_at ps i) key rec ≡ Less
less_before spec ps key rec o i j le lt e = least _ (omega (arith, rising spec ps key rec o i j le lt, ap ordering_index e))

pub greater_behind : (spec : Elements) (ps : List Pair) (key : Elements) (rec : DiskLoc) → AreInOrder spec ps → (i j : ℕ) → i ≤ j → j < length ps → compare_pair spec (pair_at ps i) key rec ≡ Greater → compare_pair spec (pair_at ps j) key rec ≡ Greater
greater_behind spec ps key rec o i j le lt e = greatest _ (omega (arith, rising spec ps key rec o i j le lt, ap ordering_index e))
