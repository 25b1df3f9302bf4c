-- A tree of height h has 2 ^ h buckets or more.
use Rattle.std.proofs.lemmas.List.{length-append}
use Rattle.std.proofs.Common.{◌≡◌, ℕ, zero, suc, ◌*◌, ◌^◌, ◌≤◌, List, [], ◌∷◌, ◌++◌, length, ap, arith, pow-suc}
use Rattle.mm_base.specs.declared.place.DiskLoc.{DiskLoc}
use Rattle.std.specs.List.{AllByRecursion}
use Rattle.mm_btree.specs.Trees.{Sub, all_places, Stands}
use Rattle.mm_btree.specs.Nodes.{Buckets}

-- two large ones
two_large : (P : Sub → Type 0) (k : ℕ) → ((c : Sub) → P c → k ≤ length c.places) → (cs : List Sub) (n : ℕ) → length cs ≡ suc n → 1 ≤ n → AllByRecursion P cs → 2 * k ≤ length (all_places cs)
two_large P k f [] n e l h = absurd (omega (arith, e))
two_large P k f (c ∷ []) n e l h = absurd (omega (arith, e, l))
two_large P k f (c ∷ d ∷ cs) n e l h =
    omega (arith, f c h.0, f d h.1.0, length-append c.places (d.places ++ all_places cs), length-append d.places (all_places cs))

pub large : (m : Buckets) (up : DiskLoc) (h : ℕ) (s : Sub) → Stands m up 1 h s → 2 ^ h ≤ length s.places
large m up zero s t = let e = ap length t.2.places in omega (arith, e)
large m up (suc h) s t =
    let both = two_large (Stands m s.at 1 h) (2 ^ h) (λ c k. large m s.at h c k) t.1 (length t.0) t.3.0 t.2.some t.3.1 in
    let e = ap length t.2.places in
    let p : 2 ^ suc h ≡ 2 ^ h * 2 = pow-suc 2 h in
    omega (arith, both, e, p)
