-- The node of the chain of free extents, by the map.
use Rattle.std.proofs.Common.{◌≡◌, ℕ, ◌<◌, ◌≤◌, true, List, Option, Some, None, refl, sym, ◌∙◌, ap, subst, arith}
use Rattle.std.specs.FinMap.{get}
use Rattle.mm_frames.specs.declared.details.Details.{Details}
use Rattle.mm_nstable.specs.Nodes.{count_of, node_at, name_in, details_in, is_used, IsTable}
use Rattle.mm_nstable.specs.Table.{Held, table_of}
use Rattle.mm_nstable.specs.FreeChain.{IsFreeName, IsFreeNode, HasFreeChain}
use Rattle.mm_nstable.proofs.Tables.{used_parts, table_none, table_at}

-- what a search past every node rules out
pub none_past : (bytes free : List ℕ) (held : Held) (n : ℕ) → HasFreeChain bytes free held → count_of bytes ≤ n
    → ((j : ℕ) → j < n → is_used bytes j ≡ true → IsFreeName (name_in (node_at bytes j)) → ⊥) → ⊥
none_past bytes free held n h le none =
    let gone = table_none bytes free (λ k used e. none k (let u = (used_parts bytes k used).there in omega (arith, u, le)) used (subst (λ (m : List ℕ). IsFreeName m) (sym e) h.named)) in
    let no : Some held ≡ None = sym h.is ∙ gone in
    cc

-- what the map has of such a node
pub record IsHeld (bytes free : List ℕ) (held : Held) (k : ℕ) : Type 0 where
  pub name : name_in (node_at bytes k) ≡ free
  pub node : held.node ≡ k
  pub details : held.details ≡ details_in (node_at bytes k)

pub is_held : (bytes free : List ℕ) (held : Held) (k : ℕ) → IsTable bytes → HasFreeChain bytes free held → IsFreeNode bytes k → IsHeld bytes free held k
is_held bytes free held k t h n =
    let name = h.only (name_in (node_at bytes k)) (record { node = k; details = details_in (node_at bytes k) }) (table_at bytes k (name_in (node_at bytes k)) t n.used refl) n.named in
    let one : Some held ≡ Some (record { node = k; details = details_in (node_at bytes k) }) = sym h.is ∙ table_at bytes k free t n.used name in
    let same : held ≡ record { node = k; details = details_in (node_at bytes k) } = cc in
    record { name = name; node = ap (λ (x : Held). x.node) same; details = ap (λ (x : Held). x.details) same }
